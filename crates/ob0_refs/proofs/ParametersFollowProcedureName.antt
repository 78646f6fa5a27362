-- Proves that the first identifiers declared after a procedure's name are the names of its
-- parameters.
use Rattle.std.proofs.Common.{◌≡◌, ℕ, suc, ◌+◌, ◌-◌, false, if◌then◌else◌, List, [], ◌∷◌, ◌++◌, map, length, take, drop, nat_lt, slice_get, Some, None, refl, sym, ap, ◌∙◌, subst, arith, append_assoc, All, le-ltb}
use Rattle.std.proofs.lemmas.List.Elements.{All-append, All-cons, All-nil, All-weaker}
use Rattle.ob0_tree.specs.declared.tree.Role.{Role}
use Rattle.ob0_tree.specs.declared.tree.Role.TheVariants as role
use Rattle.ob0_tree.specs.ParsedModule.{ParsedModule, tree_of}
use Rattle.ob0_tree.specs.TokenIndexLeaves.{token_text_at}
use Rattle.ob0_tree.specs.Tree.{Sort, Tree, block, declares, declares_procedure, end, forms_block, identifiers, forms_module, item, items, module_text, more, procedure}
use Rattle.ob0_language_names.specs.BlockParts.{formal_parameter_names, formal_parameter_sections, module_block}
use Rattle.ob0_scope_table.specs.Resolution.{declaring_names}
use Rattle.ob0_scope_table.proofs.Declared.{formals_declared}
use Rattle.ob0_scope_table.proofs.Plain.{declaring_names-append}
use Rattle.ob0_refs.specs.HoverLaws.{DeclaresParametersAfterName, ParametersFollowProcedureName, block_headings, procedure_list_headings, procedure_headings}

-- ---- a heading among declaring identifiers

record IsAmong (all : List ℕ) (heading : ℕ × List ℕ) : Type 0 where
  pub before : List ℕ
  pub after : List ℕ
  pub is : all ≡ before ++ (heading.0 ∷ (heading.1 ++ after))

among_after : (xs : List ℕ) (all : List ℕ) (h : ℕ × List ℕ) → IsAmong all h → IsAmong (xs ++ all) h
among_after xs all h s =
    record { before = xs ++ s.before; after = s.after; is = ap (λ ys. xs ++ ys) s.is ∙ sym (append_assoc xs s.before (h.0 ∷ (h.1 ++ s.after))) }

among_before : (all ys : List ℕ) (h : ℕ × List ℕ) → IsAmong all h → IsAmong (all ++ ys) h
among_before all ys h s =
    record {
      before = s.before;
      after = s.after ++ ys;
      is = ap (λ xs. xs ++ ys) s.is ∙ (append_assoc s.before (h.0 ∷ (h.1 ++ s.after)) ys ∙ ap (λ zs. s.before ++ (h.0 ∷ zs)) (append_assoc h.1 s.after ys));
    }

abbrev declaring : {s : Sort} → Tree ℕ s → List ℕ
declaring t = declaring_names (identifiers role.DeclaringName t)

abbrev AreAmong : List ℕ → List (ℕ × List ℕ) → Type 0
AreAmong all hs = All (IsAmong all) hs

-- A heading that is among identifiers is also among them if others come before or after.
all_after : (xs ys : List (Role × ℕ)) (hs : List (ℕ × List ℕ)) → AreAmong (declaring_names ys) hs → AreAmong (declaring_names (xs ++ ys)) hs
all_after xs ys hs h =
    subst (λ all. AreAmong all hs) (sym (declaring_names-append xs ys)) (All-weaker (IsAmong (declaring_names ys)) (IsAmong (declaring_names xs ++ declaring_names ys)) (among_after (declaring_names xs) (declaring_names ys)) hs h)

all_before : (xs ys : List (Role × ℕ)) (hs : List (ℕ × List ℕ)) → AreAmong (declaring_names xs) hs → AreAmong (declaring_names (xs ++ ys)) hs
all_before xs ys hs h =
    subst (λ all. AreAmong all hs) (sym (declaring_names-append xs ys)) (All-weaker (IsAmong (declaring_names xs)) (IsAmong (declaring_names xs ++ declaring_names ys)) (among_before (declaring_names xs) (declaring_names ys)) hs h)

mutual
  block_among : (b : Tree ℕ block) → AreAmong (declaring b) (block_headings b)
  block_among (forms_block (declares cs ts vs ps) statements) =
      let C : List (Role × ℕ) = identifiers role.DeclaringName cs in
      let T : List (Role × ℕ) = identifiers role.DeclaringName ts in
      let V : List (Role × ℕ) = identifiers role.DeclaringName vs in
      let P : List (Role × ℕ) = identifiers role.DeclaringName ps in
      all_before (C ++ (T ++ (V ++ P))) (identifiers role.DeclaringName statements) (procedure_list_headings ps)
      (all_after C (T ++ (V ++ P)) (procedure_list_headings ps) (all_after T (V ++ P) (procedure_list_headings ps) (all_after V P (procedure_list_headings ps) (procedures_among ps))))

  procedures_among : (ps : Tree ℕ (items procedure)) → AreAmong (declaring ps) (procedure_list_headings ps)
  procedures_among end = All-nil (IsAmong [])
  procedures_among (more p rest) =
      All-append (IsAmong (declaring (more p rest))) (procedure_headings p) (procedure_list_headings rest)
      (all_before (identifiers role.DeclaringName p) (identifiers role.DeclaringName rest) (procedure_headings p) (procedure_among p))
      (all_after (identifiers role.DeclaringName p) (identifiers role.DeclaringName rest) (procedure_list_headings rest) (procedures_among rest))

  procedure_among : (p : Tree ℕ (item procedure)) → AreAmong (declaring p) (procedure_headings p)
  procedure_among (declares_procedure x fs b closing) =
      let F : List (Role × ℕ) = identifiers role.DeclaringName fs in
      let B : List (Role × ℕ) = identifiers role.DeclaringName b in
      let last : List (Role × ℕ) = (role.ClosingName, closing) ∷ [] in
      All-cons (IsAmong (declaring (declares_procedure x fs b closing))) (x, formal_parameter_names (formal_parameter_sections fs)) (block_headings b)
      (record { before = []; after = declaring_names (B ++ last); is = ap (λ ys. x ∷ ys) (declaring_names-append F (B ++ last) ∙ (λ i. formals_declared fs i ++ declaring_names (B ++ last))) })
      (all_after ((role.DeclaringName, x) ∷ []) (F ++ (B ++ last)) (block_headings b) (all_after F (B ++ last) (block_headings b) (all_before B last (block_headings b) (block_among b))))

module_among : (t : Tree ℕ module_text) → AreAmong (declaring t) (block_headings (module_block t))
module_among (forms_module x b closing) = all_before (identifiers role.DeclaringName b) ((role.ModuleName, closing) ∷ []) (block_headings b) (block_among b)

-- ---- the identifiers after a heading

got : (before : List ℕ) (x : ℕ) (ys : List ℕ) → slice_get (before ++ (x ∷ ys)) (length before) ≡ Some x
got [] x ys = refl
got (y ∷ before) x ys = got before x ys

left : (before : List ℕ) (x : ℕ) (ys : List ℕ) → drop (suc (length before)) (before ++ (x ∷ ys)) ≡ ys
left [] x ys = refl
left (y ∷ before) x ys = left before x ys

first_ones : (f : ℕ → List ℕ) (xs ys : List ℕ) → take (length xs) (map f (xs ++ ys)) ≡ map f xs
first_ones f [] ys = refl
first_ones f (x ∷ xs) ys = ap (λ zs. f x ∷ zs) (first_ones f xs ys)

following : (m : ParsedModule) (h : ℕ × List ℕ) → IsAmong (declaring (tree_of m)) h → DeclaresParametersAfterName m h
following m h s =
    let all : List ℕ = declaring (tree_of m) in
    let n : ℕ = length s.before in
    let place : (7 + n) - 7 ≡ n = omega arith in
    let next : (7 + n) + 1 - 7 ≡ suc n = omega arith in
    let late : nat_lt (7 + n) 7 ≡ false = le-ltb (7 + n) 7 (omega arith) in
    record {
      ordinal = 7 + n;
      declares =
          ap (λ b. if b then None else slice_get all ((7 + n) - 7)) late
          ∙ ((λ i. slice_get (s.is i) (place i)) ∙ got s.before h.0 (h.1 ++ s.after));
      following =
          (λ i. take (length h.1) (map (token_text_at m.source) (drop (next i) (s.is i))))
          ∙ (ap (λ ys. take (length h.1) (map (token_text_at m.source) ys)) (left s.before h.0 (h.1 ++ s.after)) ∙ first_ones (token_text_at m.source) h.1 s.after);
    }

pub parameters_are_following-holds : ParametersFollowProcedureName
parameters_are_following-holds m = All-weaker (IsAmong (declaring (tree_of m))) (DeclaresParametersAfterName m) (following m) (block_headings (module_block (tree_of m))) (module_among (tree_of m))
