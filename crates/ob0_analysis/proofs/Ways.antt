-- Proves which tokens are around the body at a path. Also proves that the path is unchanged if the
-- body is left out or if tokens are moved.
use Rattle.std.proofs.Common.{◌≡◌, ℕ, zero, suc, nat_lt, if◌then◌else◌, List, [], ◌∷◌, ◌++◌, refl, sym, ap, ◌∙◌, append_assoc}
use Rattle.ob0_scan.specs.declared.lexeme.TokenKind.TheVariants as kind
use Rattle.ob0_scan.specs.declared.lexeme.ReservedWord.TheVariants as reserved
use Rattle.ob0_scan.specs.declared.lexeme.Symbol.TheVariants as symbol
use Rattle.ob0_tree.specs.Terminals.{Terminal, Name, WordOrSymbol}
use Rattle.ob0_tree.specs.Tree.{Tree, block, body, declares, declares_procedure, end, forms_block, forms_module, item, items, mapped_tree, maybe, module_text, more, one, procedure, spell}
use Rattle.ob0_scope_table.specs.BodyReplacement.{PathToBody, block_without_body, body_at_path_in_procedure_list, body_at_path, body_at_path_in_block, body_at_path_in_procedure, closing_name_at_path_in_procedure_list, closing_name_at_path, closing_name_at_path_in_block, closing_name_at_path_in_procedure, path_after_inserting_first_procedure, procedure_without_body, procedure_list_without_body, path_to_body_in_procedure_list, path_to_body_in_block, path_to_body_in_module, module_without_body}

-- Holds if `whole` and `less` are the tokens of a part with a body and without it. Both have the same tokens before the
-- body, and the END and the closing name of its block after it.
pub record Around {N : Type 0} (whole less : List (Terminal N)) (statements : Tree N (maybe body)) (closing : N) : Type 0 where
  pub front : List (Terminal N)
  pub back : List (Terminal N)
  pub whole_is : whole ≡ front ++ (spell statements ++ (WordOrSymbol (kind.ReservedWord reserved.End) ∷ Name closing ∷ back))
  pub less_is : less ≡ front ++ (WordOrSymbol (kind.ReservedWord reserved.End) ∷ Name closing ∷ back)

body_last : {A : Type 0} (d s r : List A) → (d ++ s) ++ r ≡ d ++ (s ++ r)
body_last d s r = append_assoc d s r

in_declarations : {A : Type 0} (a b c p s r f z : List A) → p ++ (s ++ r) ≡ f ++ z → ((a ++ (b ++ (c ++ p))) ++ s) ++ r ≡ (a ++ (b ++ (c ++ f))) ++ z
in_declarations a b c p s r f z e =
    append_assoc (a ++ (b ++ (c ++ p))) s r
    ∙ (append_assoc a (b ++ (c ++ p)) (s ++ r)
    ∙ (ap (λ l. a ++ l) (append_assoc b (c ++ p) (s ++ r) ∙ ap (λ l. b ++ l) (append_assoc c p (s ++ r) ∙ ap (λ l. c ++ l) e))
    ∙ sym (append_assoc a (b ++ (c ++ f)) z ∙ ap (λ l. a ++ l) (append_assoc b (c ++ f) z ∙ ap (λ l. b ++ l) (append_assoc c f z)))))

in_first : {A : Type 0} (p q r f z : List A) → p ++ (q ++ r) ≡ f ++ z → (p ++ q) ++ r ≡ f ++ z
in_first p q r f z e = append_assoc p q r ∙ e

in_later : {A : Type 0} (p q r f z : List A) → q ++ r ≡ f ++ z → (p ++ q) ++ r ≡ (p ++ f) ++ z
in_later p q r f z e = append_assoc p q r ∙ (ap (λ l. p ++ l) e ∙ sym (append_assoc p f z))

-- Puts a procedure's heading before its block. If the block, its closing tokens and the rest are `f ++ z`, with the
-- heading they are the heading, `f` and `z`.
in_heading : {A : Type 0} (x n semi : A) (fs b e r f z : List A) → b ++ (e ++ r) ≡ f ++ z → (x ∷ n ∷ (fs ++ (semi ∷ (b ++ e)))) ++ r ≡ (x ∷ n ∷ (fs ++ (semi ∷ f))) ++ z
in_heading x n semi fs b e r f z is =
    ap (λ l. x ∷ n ∷ l)
    (append_assoc fs (semi ∷ (b ++ e)) r
    ∙ (ap (λ l. fs ++ (semi ∷ l)) (append_assoc b e r ∙ is)
    ∙ sym (append_assoc fs (semi ∷ f) z)))

mutual
  around_block : {N : Type 0} (path : PathToBody) (own : N) (b : Tree N block) (after : List (Terminal N)) (y : Tree N (item body)) → body_at_path_in_block path b ≡ one y
      → Around (spell b ++ (WordOrSymbol (kind.ReservedWord reserved.End) ∷ Name own ∷ after)) (spell (block_without_body path b) ++ (WordOrSymbol (kind.ReservedWord reserved.End) ∷ Name own ∷ after)) (body_at_path_in_block path b) (closing_name_at_path_in_block path own b)
  around_block [] own (forms_block ds statements) after y e =
      record { front = spell ds; back = after; whole_is = append_assoc (spell ds) (spell statements) _; less_is = append_assoc (spell ds) [] _ }
  around_block (k ∷ path) own (forms_block (declares cs ts vs ps) statements) after y e =
      let r : List (Terminal _) = WordOrSymbol (kind.ReservedWord reserved.End) ∷ Name own ∷ after in
      let h = around_among k path own ps (spell statements ++ r) y e in
      record {
        front = spell cs ++ (spell ts ++ (spell vs ++ h.front));
        back = h.back;
        whole_is = in_declarations (spell cs) (spell ts) (spell vs) (spell ps) (spell statements) r h.front _ h.whole_is;
        less_is = in_declarations (spell cs) (spell ts) (spell vs) (spell (procedure_list_without_body k path ps)) (spell statements) r h.front _ h.less_is;
      }

  around_among : {N : Type 0} (k : ℕ) (path : PathToBody) (own : N) (ps : Tree N (items procedure)) (after : List (Terminal N)) (y : Tree N (item body)) → body_at_path_in_procedure_list k path ps ≡ one y
      → Around (spell ps ++ after) (spell (procedure_list_without_body k path ps) ++ after) (body_at_path_in_procedure_list k path ps) (closing_name_at_path_in_procedure_list k path own ps)
  around_among k path own end after y e = absurd (cc (e))
  around_among zero path own (more p ps) after y e =
      let h = around_procedure path p (spell ps ++ after) y e in
      record {
        front = h.front;
        back = h.back;
        whole_is = in_first (spell p) (spell ps) after h.front _ h.whole_is;
        less_is = in_first (spell (procedure_without_body path p)) (spell ps) after h.front _ h.less_is;
      }
  around_among (suc k) path own (more p ps) after y e =
      let h = around_among k path own ps after y e in
      record {
        front = spell p ++ h.front;
        back = h.back;
        whole_is = in_later (spell p) (spell ps) after h.front _ h.whole_is;
        less_is = in_later (spell p) (spell (procedure_list_without_body k path ps)) after h.front _ h.less_is;
      }

  around_procedure : {N : Type 0} (path : PathToBody) (p : Tree N (item procedure)) (after : List (Terminal N)) (y : Tree N (item body)) → body_at_path_in_procedure path p ≡ one y
      → Around (spell p ++ after) (spell (procedure_without_body path p) ++ after) (body_at_path_in_procedure path p) (closing_name_at_path_in_procedure path p)
  around_procedure path (declares_procedure n fs b c) after y e =
      let last : List (Terminal _) = WordOrSymbol (kind.ReservedWord reserved.End) ∷ Name c ∷ WordOrSymbol (kind.Symbol symbol.Semicolon) ∷ [] in
      let h = around_block path c b (WordOrSymbol (kind.Symbol symbol.Semicolon) ∷ after) y e in
      record {
        front = WordOrSymbol (kind.ReservedWord reserved.Procedure) ∷ Name n ∷ (spell fs ++ (WordOrSymbol (kind.Symbol symbol.Semicolon) ∷ h.front));
        back = h.back;
        whole_is = in_heading _ _ _ (spell fs) (spell b) last after h.front _ h.whole_is;
        less_is = in_heading _ _ _ (spell fs) (spell (block_without_body path b)) last after h.front _ h.less_is;
      }

pub around_body : {N : Type 0} (path : PathToBody) (t : Tree N module_text) (y : Tree N (item body)) → body_at_path path t ≡ one y → Around (spell t) (spell (module_without_body path t)) (body_at_path path t) (closing_name_at_path path t)
around_body path (forms_module n b c) y e =
    let h = around_block path c b (WordOrSymbol (kind.Symbol symbol.Dot) ∷ []) y e in
    record {
      front = WordOrSymbol (kind.ReservedWord reserved.Module) ∷ Name n ∷ WordOrSymbol (kind.Symbol symbol.Semicolon) ∷ h.front;
      back = h.back;
      whole_is = ap (λ l. WordOrSymbol (kind.ReservedWord reserved.Module) ∷ Name n ∷ WordOrSymbol (kind.Symbol symbol.Semicolon) ∷ l) h.whole_is;
      less_is = ap (λ l. WordOrSymbol (kind.ReservedWord reserved.Module) ∷ Name n ∷ WordOrSymbol (kind.Symbol symbol.Semicolon) ∷ l) h.less_is;
    }

-- ---- a way leads through procedures, so it doesn't depend on a body

mutual
  way_less_block : (low : ℕ) (path : PathToBody) (b : Tree ℕ block) → path_to_body_in_block low (block_without_body path b) ≡ path_to_body_in_block low b
  way_less_block low [] (forms_block (declares cs ts vs ps) statements) = refl
  way_less_block low (k ∷ path) (forms_block (declares cs ts vs ps) statements) = way_less_among low k path ps

  way_less_among : (low k : ℕ) (path : PathToBody) (ps : Tree ℕ (items procedure)) → path_to_body_in_procedure_list low (procedure_list_without_body k path ps) ≡ path_to_body_in_procedure_list low ps
  way_less_among low k path end = refl
  way_less_among low zero path (more (declares_procedure n fs b c) ps) = ap (λ w. if nat_lt c low then path_after_inserting_first_procedure (path_to_body_in_procedure_list low ps) else zero ∷ w) (way_less_block low path b)
  way_less_among low (suc k) path (more (declares_procedure n fs b c) ps) = ap (λ w. if nat_lt c low then path_after_inserting_first_procedure w else zero ∷ path_to_body_in_block low b) (way_less_among low k path ps)

pub way_less : (low : ℕ) (path : PathToBody) (t : Tree ℕ module_text) → path_to_body_in_module low (module_without_body path t) ≡ path_to_body_in_module low t
way_less low path (forms_module n b c) = way_less_block low path b

module _ (low : ℕ) (f : ℕ → ℕ) (side : (c : ℕ) → nat_lt (f c) low ≡ nat_lt c low) where
  mutual
    way_moved_block : (b : Tree ℕ block) → path_to_body_in_block low (mapped_tree f f b) ≡ path_to_body_in_block low b
    way_moved_block (forms_block (declares cs ts vs ps) statements) = way_moved_among ps

    way_moved_among : (ps : Tree ℕ (items procedure)) → path_to_body_in_procedure_list low (mapped_tree f f ps) ≡ path_to_body_in_procedure_list low ps
    way_moved_among end = refl
    way_moved_among (more (declares_procedure n fs b c) ps) =
        ap (λ x. if x then path_after_inserting_first_procedure (path_to_body_in_procedure_list low (mapped_tree f f ps)) else zero ∷ path_to_body_in_block low (mapped_tree f f b)) (side c)
        ∙ (ap (λ w. if nat_lt c low then path_after_inserting_first_procedure w else zero ∷ path_to_body_in_block low (mapped_tree f f b)) (way_moved_among ps)
        ∙ ap (λ w. if nat_lt c low then path_after_inserting_first_procedure (path_to_body_in_procedure_list low ps) else zero ∷ w) (way_moved_block b))

  pub way_moved : (t : Tree ℕ module_text) → path_to_body_in_module low (mapped_tree f f t) ≡ path_to_body_in_module low t
  way_moved (forms_module n b c) = way_moved_block b
