-- Defines the tree that remains if the declaration of a constant is removed, over any names, and
-- the removed tokens. `gone_module` is the module without the declaration. `Taken` splits the
-- tokens of the tree into three parts: the tokens up to CONST or a semicolon, the declaration from
-- its name to its semicolon, and the rest. The declaration contains no other semicolon.
use Rattle.std.proofs.Common.{zero, slice_get, ◌≡◌, ◌≢◌, ◌⊎◌, ℕ, suc, ◌+◌, ◌<◌, ◌≤◌, ◌==◌, Bool, true, false, if◌then◌else◌, Option, Some, None, List, [], ◌∷◌, ◌++◌, length, refl, sym, ap, ◌∙◌, arith, append_assoc, ne_eqb}
use Rattle.ob0_scan.specs.declared.lexeme.ReservedWord.TheVariants as reserved
use Rattle.ob0_scan.specs.declared.lexeme.Symbol.TheVariants as symbol
use Rattle.ob0_scan.specs.declared.lexeme.TokenKind.{TokenKind}
use Rattle.ob0_scan.specs.declared.lexeme.TokenKind.TheVariants as kind
use Rattle.ob0_tree.specs.declared.tree.AddOperator.{AddOperator}
use Rattle.ob0_tree.specs.declared.tree.AddOperator.TheVariants as add_operator
use Rattle.ob0_tree.specs.declared.tree.MultiplyOperator.{MultiplyOperator}
use Rattle.ob0_tree.specs.declared.tree.MultiplyOperator.TheVariants as multiply_operator
use Rattle.ob0_tree.specs.declared.tree.Relation.{Relation}
use Rattle.ob0_tree.specs.declared.tree.Relation.TheVariants as relation
use Rattle.ob0_tree.specs.declared.tree.Sign.{Sign}
use Rattle.ob0_tree.specs.declared.tree.Sign.TheVariants as sign
use Rattle.ob0_tree.specs.Terminals.{Terminal, WordOrSymbol, add_operator_token_kind, multiply_operator_token_kind, relation_token_kind, sign_tokens}
use Rattle.ob0_tree.specs.Terminals as lexeme
use Rattle.ob0_tree.specs.Tree.{Tree, addend, adds, compares, designator, expression, factor, field, index, integer, multiplier, multiplies, negation, parenthesised, product, relates, selector, simple, sum, term, block, constant, constants, declares, declares_constant, declares_const_section, declares_procedure, end, formals, forms_block, forms_module, item, items, mapped_tree, maybe, module_text, more, none, one, procedure, spell}
use Rattle.ob0_language_names.specs.Names.{Name}
use Rattle.ob0_language_names.specs.BlockParts.{constant_names, formal_parameter_names, formal_parameter_sections, declared_type_names, section_constants, section_types, section_variables, variable_names}
use Rattle.ob0_language_names.specs.Scopes.{ordinal_after_block, ordinal_after_names, ordinal_after_procedure, ordinal_after_procedure_list, first_procedure_ordinal, first_type_ordinal}
use Rattle.ob0_types_check.proofs.DeclaredNames.{ordinal_after_block-mapped_tree, ordinal_after_names-map, ordinal_after_procedure-mapped_tree, formals-names}
use Rattle.ob0_language_names.proofs.Ordinals.{le-ordinal_after_names, le-ordinal_after_procedure, le-ordinal_after_procedure_list}

-- returns constants without the declaration with ordinal d, over any names
abbrev pub gone_constants : {N : Type 0} → ℕ → ℕ → Tree N (items constant) → Tree N (items constant)
gone_constants d k end = end
gone_constants d k (more c cs) = if k == d then cs else more c (gone_constants d (suc k) cs)

abbrev pub gone_section : {N : Type 0} → ℕ → ℕ → Tree N (maybe constants) → Tree N (maybe constants)
gone_section d k none = none
gone_section d k (one (declares_const_section cs)) = one (declares_const_section (gone_constants d k cs))

abbrev mutual
  pub gone_block : {N : Type 0} → ℕ → ℕ → Tree N block → Tree N block
  gone_block d k (forms_block (declares cs ts vs ps) statements) =
      forms_block (declares (gone_section d k cs) ts vs (gone_procedures d (first_procedure_ordinal k (forms_block (declares cs ts vs ps) statements)) ps)) statements

  pub gone_procedures : {N : Type 0} → ℕ → ℕ → Tree N (items procedure) → Tree N (items procedure)
  gone_procedures d k end = end
  gone_procedures d k (more p rest) = more (gone_procedure d (suc k) p) (gone_procedures d (ordinal_after_procedure (suc k) p) rest)

  pub gone_procedure : {N : Type 0} → ℕ → ℕ → Tree N (item procedure) → Tree N (item procedure)
  gone_procedure d k (declares_procedure x fs b closing) = declares_procedure x fs (gone_block d (ordinal_after_names k (formal_parameter_names (formal_parameter_sections fs))) b) closing

abbrev pub gone_module : {N : Type 0} → ℕ → Tree N module_text → Tree N module_text
gone_module d (forms_module x b closing) = forms_module x (gone_block d 7 b) closing

-- A tree declares as much with other names. Its sections are counted like the sections of a block
-- without other parts.
module _ (f : ℕ → Name) (g : ℕ → ℕ) where
  pub formals_count : (k : ℕ) (fs : Tree ℕ (maybe formals)) → ordinal_after_names k (formal_parameter_names (formal_parameter_sections (mapped_tree f g fs))) ≡ ordinal_after_names k (formal_parameter_names (formal_parameter_sections fs))
  formals_count k fs = ap (ordinal_after_names k) (formals-names f g fs) ∙ ordinal_after_names-map f k (formal_parameter_names (formal_parameter_sections fs))

  pub first_type_count : (k : ℕ) (b : Tree ℕ block) → first_type_ordinal k (mapped_tree f g b) ≡ first_type_ordinal k b
  first_type_count k (forms_block (declares cs ts vs ps) statements) = ordinal_after_block-mapped_tree f g k k refl (forms_block (declares cs none none end) statements)

  pub first_procedure_count : (k : ℕ) (b : Tree ℕ block) → first_procedure_ordinal k (mapped_tree f g b) ≡ first_procedure_ordinal k b
  first_procedure_count k (forms_block (declares cs ts vs ps) statements) = ordinal_after_block-mapped_tree f g k k refl (forms_block (declares cs ts vs end) statements)

  pub procedure_count : (k : ℕ) (p : Tree ℕ (item procedure)) → ordinal_after_procedure k (mapped_tree f g p) ≡ ordinal_after_procedure k p
  procedure_count k p = ordinal_after_procedure-mapped_tree f g k k refl p

-- true for a `;`
abbrev pub is_end : TokenKind → Bool
is_end (kind.Symbol s) = elim s [ symbol.Semicolon ↦ true | _ ↦ false ]
is_end _ = false

abbrev pub NoEnd : {N : Type 0} → List (Terminal N) → Type 0
NoEnd [] = Unit {0}
NoEnd (WordOrSymbol k ∷ xs) = (is_end k ≡ false) × NoEnd xs
NoEnd (_ ∷ xs) = NoEnd xs

-- States that a declaration is among the tokens of a whole, from a constant's name to its `;`, and
-- not among the remaining tokens. The constant has the ordinal d if the first of these names has k.
pub record Taken (d k : ℕ) (labels : List ℕ) (whole left : List (Terminal ℕ)) : Type 0 where
  pub place : ℕ
  pub ordinal_is : d ≡ k + place
  pub before : List (Terminal ℕ)
  pub border : TokenKind
  pub opens : (border ≡ kind.ReservedWord reserved.Const) ⊎ (border ≡ kind.Symbol symbol.Semicolon)
  pub name : ℕ
  pub named_there : slice_get labels place ≡ Some name
  pub right : List (Terminal ℕ)
  pub no_end : NoEnd right
  pub after : List (Terminal ℕ)
  pub whole_is : whole ≡ (before ++ (WordOrSymbol border ∷ [])) ++ ((lexeme.Name name ∷ WordOrSymbol (kind.Symbol symbol.Equal) ∷ (right ++ (WordOrSymbol (kind.Symbol symbol.Semicolon) ∷ []))) ++ after)
  pub left_is : left ≡ (before ++ (WordOrSymbol border ∷ [])) ++ after

pub shifted : (zs b m y : List (Terminal ℕ)) → zs ++ ((b ++ m) ++ y) ≡ ((zs ++ b) ++ m) ++ y
shifted zs b m y = sym (append_assoc zs (b ++ m) y) ∙ ap (λ l. l ++ y) (sym (append_assoc zs b m))

abbrev pub put_before : (d k : ℕ) (labels : List ℕ) (zs xs ys : List (Terminal ℕ)) → Taken d k labels xs ys → Taken d k labels (zs ++ xs) (zs ++ ys)
put_before d k labels zs xs ys t = record {
  place = t.place;
  ordinal_is = t.ordinal_is;
  named_there = t.named_there;
  before = zs ++ t.before;
  border = t.border;
  opens = t.opens;
  name = t.name;
  right = t.right;
  no_end = t.no_end;
  after = t.after;
  whole_is = ap (λ l. zs ++ l) t.whole_is
      ∙ shifted zs t.before (WordOrSymbol t.border ∷ []) ((lexeme.Name t.name ∷ WordOrSymbol (kind.Symbol symbol.Equal) ∷ (t.right ++ (WordOrSymbol (kind.Symbol symbol.Semicolon) ∷ []))) ++ t.after);
  left_is = ap (λ l. zs ++ l) t.left_is ∙ shifted zs t.before (WordOrSymbol t.border ∷ []) t.after;
}

abbrev pub put_following : (d k : ℕ) (labels : List ℕ) (xs ys zs : List (Terminal ℕ)) → Taken d k labels xs ys → Taken d k labels (xs ++ zs) (ys ++ zs)
put_following d k labels xs ys zs t =
    let front = t.before ++ (WordOrSymbol t.border ∷ []) in
    let whole : List (Terminal ℕ) = lexeme.Name t.name ∷ WordOrSymbol (kind.Symbol symbol.Equal) ∷ (t.right ++ (WordOrSymbol (kind.Symbol symbol.Semicolon) ∷ [])) in
    record {
      place = t.place;
      ordinal_is = t.ordinal_is;
      named_there = t.named_there;
      before = t.before;
      border = t.border;
      opens = t.opens;
      name = t.name;
      right = t.right;
      no_end = t.no_end;
      after = t.after ++ zs;
      whole_is = ap (λ l. l ++ zs) t.whole_is ∙ (append_assoc front (whole ++ t.after) zs ∙ ap (λ l. front ++ l) (append_assoc whole t.after zs));
      left_is = ap (λ l. l ++ zs) t.left_is ∙ append_assoc front t.after zs;
    }

-- `Taken` holds among more names, if the name is the same.
abbrev pub among_others : (d j k : ℕ) (labels others : List ℕ) (xs ys : List (Terminal ℕ)) (t : Taken d k labels xs ys) (place : ℕ) → d ≡ j + place → slice_get others place ≡ slice_get labels t.place → Taken d j others xs ys
among_others d j k labels others xs ys t place e h = record {
  place = place;
  ordinal_is = e;
  before = t.before;
  border = t.border;
  opens = t.opens;
  name = t.name;
  named_there = h ∙ t.named_there;
  right = t.right;
  no_end = t.no_end;
  after = t.after;
  whole_is = t.whole_is;
  left_is = t.left_is;
}

pub get_first : (xs ys : List ℕ) (j n : ℕ) → slice_get xs j ≡ Some n → slice_get (xs ++ ys) j ≡ slice_get xs j
get_first [] ys j n e = absurd (cc)
get_first (x ∷ xs) ys zero n e = refl
get_first (x ∷ xs) ys (suc j) n e = get_first xs ys j n e

pub get_later : (xs ys : List ℕ) (j : ℕ) → slice_get (xs ++ ys) (length xs + j) ≡ slice_get ys j
get_later [] ys j = ap (slice_get ys) (let e : 0 + j ≡ j = omega arith in e)
get_later (x ∷ xs) ys j = ap (slice_get (x ∷ (xs ++ ys))) (let e : suc (length xs) + j ≡ suc (length xs + j) = omega arith in e) ∙ get_later xs ys j

-- holds if no ordinal in a range is d, so removing that declaration changes nothing there
abbrev pub Outside : ℕ → ℕ → ℕ → Type 0
Outside d k after = (j : ℕ) → k ≤ j → j < after → j ≢ d

pub kept_constants : {N : Type 0} (d k : ℕ) (cs : Tree N (items constant)) → Outside d k (ordinal_after_names k (constant_names cs)) → gone_constants d k cs ≡ cs
kept_constants d k end h = refl
kept_constants d k (more (declares_constant x e) cs) h =
    let up = le-ordinal_after_names (suc k) (constant_names cs) in
    ap (λ b. if b then cs else more (declares_constant x e) (gone_constants d (suc k) cs)) (ne_eqb k d (h k (omega arith) (omega (arith, up))))
    ∙ (λ i. more (declares_constant x e) (kept_constants d (suc k) cs (λ j l u. h j (omega (arith, l)) u) i))

pub kept_section : {N : Type 0} (d k : ℕ) (cs : Tree N (maybe constants)) → Outside d k (ordinal_after_names k (constant_names (section_constants cs))) → gone_section d k cs ≡ cs
kept_section d k none h = refl
kept_section d k (one (declares_const_section cs)) h = λ i. one (declares_const_section (kept_constants d k cs h i))

mutual
  kept_block : {N : Type 0} (d k : ℕ) (b : Tree N block) → Outside d k (ordinal_after_block k b) → gone_block d k b ≡ b
  kept_block {N} d k (forms_block (declares cs ts vs ps) statements) h =
      let b : Tree N block = forms_block (declares cs ts vs ps) statements in
      let up = le-ordinal_after_names k (constant_names (section_constants cs)) in
      let up2 = le-ordinal_after_names (ordinal_after_names k (constant_names (section_constants cs))) (declared_type_names (section_types ts)) in
      let up3 = le-ordinal_after_names (ordinal_after_names (ordinal_after_names k (constant_names (section_constants cs))) (declared_type_names (section_types ts))) (variable_names (section_variables vs)) in
      let up4 = le-ordinal_after_procedure_list (first_procedure_ordinal k b) ps in
      λ i. forms_block
      (declares (kept_section d k cs (λ j l u. h j l (omega (arith, u, up2, up3, up4))) i) ts vs
      (kept_procedures d (first_procedure_ordinal k b) ps (λ j l u. h j (omega (arith, l, up, up2, up3)) u) i))
      statements

  pub kept_procedures : {N : Type 0} (d k : ℕ) (ps : Tree N (items procedure)) → Outside d k (ordinal_after_procedure_list k ps) → gone_procedures d k ps ≡ ps
  kept_procedures d k end h = refl
  kept_procedures d k (more p rest) h =
      let up = le-ordinal_after_procedure (suc k) p in
      let up2 = le-ordinal_after_procedure_list (ordinal_after_procedure (suc k) p) rest in
      λ i. more (kept_procedure d (suc k) p (λ j l u. h j (omega (arith, l)) (omega (arith, u, up2))) i)
      (kept_procedures d (ordinal_after_procedure (suc k) p) rest (λ j l u. h j (omega (arith, l, up)) u) i)

  pub kept_procedure : {N : Type 0} (d k : ℕ) (p : Tree N (item procedure)) → Outside d k (ordinal_after_procedure k p) → gone_procedure d k p ≡ p
  kept_procedure d k (declares_procedure x fs b closing) h =
      let up = le-ordinal_after_names k (formal_parameter_names (formal_parameter_sections fs)) in
      λ i. declares_procedure x fs (kept_block d (ordinal_after_names k (formal_parameter_names (formal_parameter_sections fs))) b (λ j l u. h j (omega (arith, l, up)) u) i) closing

-- Two lists without `;` have none together.
no_end_append : {N : Type 0} (xs ys : List (Terminal N)) → NoEnd xs → NoEnd ys → NoEnd (xs ++ ys)
no_end_append [] ys p q = q
no_end_append (WordOrSymbol k ∷ xs) ys p q = (p.0, no_end_append xs ys p.1 q)
no_end_append (_ ∷ xs) ys p q = no_end_append xs ys p q

relation_no_end : (r : Relation) → is_end (relation_token_kind r) ≡ false
relation_no_end relation.Equal = refl
relation_no_end _ = refl

add_no_end : (o : AddOperator) → is_end (add_operator_token_kind o) ≡ false
add_no_end add_operator.Add = refl
add_no_end _ = refl

multiply_no_end : (o : MultiplyOperator) → is_end (multiply_operator_token_kind o) ≡ false
multiply_no_end multiply_operator.Multiply = refl
multiply_no_end _ = refl

sign_no_end : (s : Option Sign) → NoEnd {N = ℕ} (sign_tokens s)
sign_no_end None = tt
sign_no_end (Some sign.Plus) = (refl, tt)
sign_no_end (Some sign.Minus) = (refl, tt)

mutual
  pub expression_no_end : (e : Tree ℕ expression) → NoEnd (spell e)
  expression_no_end (compares a none) = no_end_append (spell a) [] (simple_no_end a) tt
  expression_no_end (compares a (one (relates r b))) = no_end_append (spell a) (WordOrSymbol (relation_token_kind r) ∷ spell b) (simple_no_end a) (relation_no_end r, simple_no_end b)

  simple_no_end : (a : Tree ℕ simple) → NoEnd (spell a)
  simple_no_end (sum s t rest) = no_end_append (sign_tokens s) (spell t ++ spell rest) (sign_no_end s) (no_end_append (spell t) (spell rest) (term_no_end t) (addends_no_end rest))

  addends_no_end : (rest : Tree ℕ (items addend)) → NoEnd (spell rest)
  addends_no_end end = tt
  addends_no_end (more (adds o t) rest) = no_end_append (WordOrSymbol (add_operator_token_kind o) ∷ spell t) (spell rest) (add_no_end o, term_no_end t) (addends_no_end rest)

  term_no_end : (t : Tree ℕ term) → NoEnd (spell t)
  term_no_end (product a rest) = no_end_append (spell a) (spell rest) (factor_no_end a) (multipliers_no_end rest)

  multipliers_no_end : (rest : Tree ℕ (items multiplier)) → NoEnd (spell rest)
  multipliers_no_end end = tt
  multipliers_no_end (more (multiplies o a) rest) = no_end_append (WordOrSymbol (multiply_operator_token_kind o) ∷ spell a) (spell rest) (multiply_no_end o, factor_no_end a) (multipliers_no_end rest)

  factor_no_end : (a : Tree ℕ factor) → NoEnd (spell a)
  factor_no_end (designator x path) = path_no_end path
  factor_no_end (integer n) = tt
  factor_no_end (parenthesised e) = (refl, no_end_append (spell e) (WordOrSymbol (kind.Symbol symbol.RightParen) ∷ []) (expression_no_end e) (refl, tt))
  factor_no_end (negation a) = (refl, factor_no_end a)

  path_no_end : (path : Tree ℕ (items selector)) → NoEnd (spell path)
  path_no_end end = tt
  path_no_end (more (field x) rest) = (refl, path_no_end rest)
  path_no_end (more (index e) rest) =
      (refl, no_end_append (spell e ++ (WordOrSymbol (kind.Symbol symbol.RightBracket) ∷ [])) (spell rest) (no_end_append (spell e) (WordOrSymbol (kind.Symbol symbol.RightBracket) ∷ []) (expression_no_end e) (refl, tt)) (path_no_end rest))

-- A constant that has a value has a declaration.

pub gone_here : (d k : ℕ) (c : Tree ℕ (item constant)) (cs : Tree ℕ (items constant)) (b : Bool) → (k == d) ≡ b → gone_constants d k (more c cs) ≡ (if b then cs else more c (gone_constants d (suc k) cs))
gone_here d k c cs b e = ap (λ v. if v then cs else more c (gone_constants d (suc k) cs)) e
