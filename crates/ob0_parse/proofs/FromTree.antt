-- Proves that the procedures and the body that are kept from a module's tree match the tokens of
-- the module's text.
use Rattle.std.proofs.Common.{◌≡◌, ℕ, ◌+◌, ◌-◌, ◌<◌, ◌≤◌, Option, Some, List, [], ◌∷◌, ◌++◌, length, refl, sym, ◌∙◌, ap, subst, arith, append_assoc, append-nil}
use Rattle.std.specs.declared.vec.Vec.{Vec}
use Rattle.std.specs.declared.alloc.Global.{Global}
use Rattle.ob0_scan.specs.declared.lexeme.TokenKind.TheVariants as kind
use Rattle.ob0_scan.specs.declared.lexeme.ReservedWord.TheVariants as reserved
use Rattle.ob0_scan.specs.declared.lexeme.Symbol.TheVariants as symbol
use Rattle.ob0_scan.specs.declared.lexeme.Token.{Token}
use Rattle.ob0_scan.specs.TextWithTokens.{TextWithTokens}
use Rattle.ob0_tree.specs.declared.tree.Block.{Block, out-Block, roll-Block}
use Rattle.ob0_tree.specs.declared.tree.ModuleTree.{ModuleTree}
use Rattle.ob0_tree.specs.declared.tree.Procedure.{Procedure, out-Procedure}
use Rattle.ob0_tree.specs.declared.tree.Statement.{Statement}
use Rattle.ob0_tree.specs.Terminals.{Terminal, Name, WordOrSymbol, EndOfText}
use Rattle.ob0_tree.specs.Module.{max_nesting}
use Rattle.ob0_tree.specs.ParsedModule.{ParsedModule, TreeMatchesText, tree_of, parsed_module}
use Rattle.ob0_tree.specs.TokenIndexLeaves.{indexed_terminals, token_text_at, token_value_at}
use Rattle.ob0_tree.specs.Tree.{procedure, item, items, Tree, declares_procedure, declares, forms_block, forms_module, spell, nesting}
use Rattle.ob0_tree.specs.View.{items_of, procedure_of, constant_section_of, type_section_of, variable_section_of, body_of}
use Rattle.ob0_tree.proofs.Mapped.{nesting_mapped}
use Rattle.ob0_tree.proofs.Viewed.{block_parts}
use Rattle.ob0_parse_descent.specs.ParserPromises.{remaining_terminals}
use Rattle.ob0_parse_descent.proofs.Items.{Taking}
use Rattle.ob0_parse.specs.KeptTreeTokens.{TreeMatchesTokens, TokensContainProcedures, ModuleEndsWithParts}
use Rattle.ob0_parse.proofs.MovedParts.{block_between}
use Rattle.ob0_parse.proofs.Keeping.{count_rest, kept_there, name_at, placed, rest_following}

-- ---- procedures, one after another

some_tokens : (t : Tree ℕ (item procedure)) → 0 < length (spell t)
some_tokens (declares_procedure x fs b y) = omega arith

spell_snoc : (ps : List Procedure) (p : Procedure) → spell (items_of procedure_of (ps ++ (p ∷ []))) ≡ spell (items_of procedure_of ps) ++ spell (procedure_of p)
spell_snoc [] p = simp append-nil
spell_snoc (q ∷ ps) p = ap (λ w. spell (procedure_of q) ++ w) (spell_snoc ps p) ∙ sym (append_assoc (spell (procedure_of q)) (spell (items_of procedure_of ps)) (spell (procedure_of p)))

nesting_snoc : (ps : List Procedure) (p : Procedure) (n : ℕ) → nesting (items_of procedure_of (ps ++ (p ∷ []))) ≤ n → (nesting (items_of procedure_of ps) ≤ n) × (nesting (procedure_of p) ≤ n)
nesting_snoc [] p n h = (omega arith, omega (arith, h))
nesting_snoc (q ∷ ps) p n h = let k = nesting_snoc ps p n (omega (arith, h)) in (omega (arith, h, k.0), k.1)

-- The last procedure is in place, and the others are before it.
pub last_procedure : (ts : List Token) (ps : List Procedure) (p : Procedure) (h : TokensContainProcedures ts (ps ++ (p ∷ [])))
    → TokensContainProcedures ts ps × TreeMatchesTokens ts ((out-Procedure p).name - 1) ((out-Procedure p).closing + 2) (procedure_of p) × ((out-Procedure p).closing + 2 ≡ h.next)
last_procedure ts ps p h =
    let t : Tree ℕ (item procedure) = procedure_of p in
    let others : Tree ℕ (items procedure) = items_of procedure_of ps in
    let mid : ℕ = h.at + length (spell others) in
    let whole : remaining_terminals ts h.at ≡ spell others ++ (spell t ++ remaining_terminals ts h.next) = h.spelled ∙ ap (λ w. w ++ remaining_terminals ts h.next) (spell_snoc ps p) ∙ append_assoc (spell others) (spell t) (remaining_terminals ts h.next) in
    let here : remaining_terminals ts mid ≡ spell t ++ remaining_terminals ts h.next = rest_following ts h.at (spell others) (spell t ++ remaining_terminals ts h.next) whole in
    let levels = nesting_snoc ps p max_nesting h.shallow in
    let there : TreeMatchesTokens ts mid h.next t = kept_there ts mid h.next t here levels.1 (some_tokens t) h.within in
    let names = placed ts mid h.next p here h.within in
    let first : mid ≡ (out-Procedure p).name - 1 = omega (arith, names.0) in (
      record { at = h.at; next = mid; spelled = whole ∙ ap (λ w. spell others ++ w) (sym here); shallow = levels.0; within = omega (arith, there.forward, there.within) },
      subst (λ n. TreeMatchesTokens ts ((out-Procedure p).name - 1) n t) (sym names.1) (subst (λ i. TreeMatchesTokens ts i h.next t) first there),
      names.1,
    )

pub spelled_so_far : {ts : List Token} {ps : List Procedure} {at next : ℕ} → Taking (items_of procedure_of ps) max_nesting ts at next → TokensContainProcedures ts ps
spelled_so_far {at = at} {next = next} h = record { at = at; next = next; spelled = h.spelled; shallow = h.shallow; within = h.within }

-- ---- the procedures and the body of a module

cut : {A : Type 0} (c d v p b e z : List A) → (((c ++ (d ++ (v ++ p))) ++ b) ++ e) ++ z ≡ (c ++ (d ++ v)) ++ (p ++ (b ++ (e ++ z)))
cut c d v p b e z = simp append_assoc

all_rest : (ts : List Token) → remaining_terminals ts 0 ≡ indexed_terminals ts
unfolding remaining_terminals
all_rest ts = refl

parts_of : (m : ParsedModule) → TreeMatchesText m → ModuleEndsWithParts m.source.tokens (out-Block m.block).procedures.items (out-Block m.block).body m.closing
parts_of m parsed =
    let ts = m.source.tokens in
    let b = out-Block m.block in
    let cs = constant_section_of b.constants in
    let ds = type_section_of b.types in
    let vs = variable_section_of b.variables in
    let ps = items_of procedure_of b.procedures.items in
    let s = body_of b.body in
    let end : List (Terminal ℕ) = WordOrSymbol (kind.ReservedWord reserved.End) ∷ [] in
    let last : List (Terminal ℕ) = Name m.closing ∷ WordOrSymbol (kind.Symbol symbol.Dot) ∷ EndOfText ∷ [] in
    let begun : List (Terminal ℕ) = WordOrSymbol (kind.ReservedWord reserved.Module) ∷ Name m.name ∷ WordOrSymbol (kind.Symbol symbol.Semicolon) ∷ (spell cs ++ (spell ds ++ spell vs)) in
    let whole : remaining_terminals ts 0 ≡ begun ++ (spell ps ++ (spell s ++ (end ++ last))) =
    all_rest ts ∙ sym parsed.places ∙ ap (λ t. spell (forms_module m.name t m.closing) ++ (EndOfText ∷ [])) (block_parts m.block)
    ∙ ap (λ w. WordOrSymbol (kind.ReservedWord reserved.Module) ∷ Name m.name ∷ WordOrSymbol (kind.Symbol symbol.Semicolon) ∷ w)
    (cut (spell cs) (spell ds) (spell vs) (spell ps) (spell s) (WordOrSymbol (kind.ReservedWord reserved.End) ∷ Name m.closing ∷ WordOrSymbol (kind.Symbol symbol.Dot) ∷ []) (EndOfText ∷ [])) in
    let at : ℕ = 0 + length begun in
    let begin : ℕ = at + length (spell ps) in
    let next : ℕ = begin + length (spell s) in
    let first : remaining_terminals ts at ≡ spell ps ++ (spell s ++ (end ++ last)) = rest_following ts 0 begun (spell ps ++ (spell s ++ (end ++ last))) whole in
    let middle : remaining_terminals ts begin ≡ spell s ++ (end ++ last) = rest_following ts at (spell ps) (spell s ++ (end ++ last)) first in
    let ended : remaining_terminals ts next ≡ end ++ last = rest_following ts begin (spell s) (end ++ last) middle in
    let four : length (remaining_terminals ts next) ≡ 4 = ap (λ (w : List (Terminal ℕ)). length w) ended in
    let within : next ≤ length ts = omega (arith, count_rest ts next, four) in
    let closing : m.closing ≡ next + 1 = name_at ts (next + 1) m.closing _ (omega (arith, count_rest ts next, four)) (rest_following ts next end last ended) in
    let named : nesting (tree_of m) ≤ max_nesting = subst (λ n. n ≤ max_nesting) (nesting_mapped (token_text_at m.source) (token_value_at m.source) (tree_of m)) parsed.module_of.shallow in
    let shallow : nesting (forms_module m.name (forms_block (declares cs ds vs ps) s) m.closing) ≤ max_nesting = subst (λ t. nesting (forms_module m.name t m.closing) ≤ max_nesting) (block_parts m.block) named in
    record {
      procedures = record { at = at; next = begin; spelled = first ∙ ap (λ w. spell ps ++ w) (sym middle); shallow = omega (arith, shallow); within = omega (arith, within) };
      next = next;
      spelled = middle ∙ ap (λ w. spell s ++ w) (sym ended);
      shallow = omega (arith, shallow);
      within = within;
      closed = sym closing;
    }

-- The body begins after the last procedure, and ends before END.
pub body_there : (ts : List Token) (ps : List Procedure) (p : Procedure) (statements : Vec Statement Global) (closing next : ℕ) → ModuleEndsWithParts ts (ps ++ (p ∷ [])) (Some statements) closing → next + 1 ≡ closing
    → TreeMatchesTokens ts ((out-Procedure p).closing + 2) next (body_of (Some statements))
body_there ts ps p statements closing next h closed =
    let begin = (last_procedure ts ps p h.procedures).2 in
    let end : next ≡ h.next = omega (arith, closed, h.closed) in
    kept_there ts ((out-Procedure p).closing + 2) next (body_of (Some statements))
    (ap (remaining_terminals ts) begin ∙ h.spelled ∙ ap (λ i. spell (body_of (Some statements)) ++ remaining_terminals ts i) (sym end))
    h.shallow (omega arith) (omega (arith, end, h.within))

-- The parts of a tree, if the body is removed before the procedures.
pub parts_taken : (s : TextWithTokens) (tree : ModuleTree) → TreeMatchesText (parsed_module s tree) → (b left : Block) (without statements : Option (Vec Statement Global)) (ps : Vec Procedure Global)
    → b ≡ tree.block
    → statements ≡ (out-Block b).body
    → left ≡ roll-Block record { constants = (out-Block b).constants; types = (out-Block b).types; variables = (out-Block b).variables; procedures = (out-Block b).procedures; body = without }
    → ps ≡ (out-Block left).procedures
    → ModuleEndsWithParts s.tokens ps.items statements tree.closing
parts_taken s tree parsed b left without statements ps is_b is_statements is_left is_ps =
    let all : (out-Block tree.block).procedures ≡ ps = sym (is_ps ∙ ap (λ o. o.procedures) (block_between left _ is_left) ∙ ap (λ x. (out-Block x).procedures) is_b) in
    let own : (out-Block tree.block).body ≡ statements = sym (is_statements ∙ ap (λ x. (out-Block x).body) is_b) in
    subst (λ (v : Vec Procedure Global). ModuleEndsWithParts s.tokens v.items statements tree.closing) all
    (subst (λ o. ModuleEndsWithParts s.tokens (out-Block tree.block).procedures.items o tree.closing) own (parts_of (parsed_module s tree) parsed))
