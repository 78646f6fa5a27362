-- After an inlining that replaces all occurrences that satisfy `P`, no such occurrence remains.
-- Each of these occurrences must be a whole factor, and the literal must contain no such
-- occurrence.
use Rattle.std.proofs.Common.{List, [], add-zero, arith, false, if◌then◌else◌, length, refl, subst, suc, sym, true, true≢false, ℕ, ◌++◌, ◌+◌, ◌∙◌, ◌∷◌, ◌≡◌}
use Rattle.ob0_tree.specs.Tree.{Sort, Tree, adds, array_type, assigns, begins, branches, calls, compares, declares, declares_constant, declares_const_section, declares_procedure, declares_type, declares_type_section, declares_variable, declares_var_section, designator, else_branch, elsif_branch, empty, end, factor, field, forms_block, index, integer, forms_module, listed, more, multiplies, named_type, negation, no_arguments, no_fields, no_formals, none, occurrences, one, parenthesised, product, record_type, relates, repeat_loop, runs, some_arguments, some_fields, some_formals, sum, comma_then_argument, semicolon_then_fields, comma_then_name, semicolon_then_section, semicolon_then_statement, value_section, variable_section, while_loop}
use Rattle.ob0_language_names.specs.NonFactorNames.{non_factor_occurrences}
use Rattle.ob0_language_names.specs.Inlining.{OccurrenceSet, inline_in_tree}
use Rattle.ob0_language_names.specs.Names.{Name}

abbrev pub NoneOf : {N : Type 0} → (N → Type 0) → List N → Type 0
NoneOf P [] = Unit {0}
NoneOf P (x ∷ xs) = (P x → ⊥) × NoneOf P xs

pub none-of-split : {N : Type 0} (P : N → Type 0) (xs ys : List N) → NoneOf P (xs ++ ys) → NoneOf P xs × NoneOf P ys
none-of-split P [] ys h = (tt, h)
none-of-split P (x ∷ xs) ys h = let g = none-of-split P xs ys h.1 in ((h.0, g.0), g.1)

pub none-of-join : {N : Type 0} (P : N → Type 0) (xs ys : List N) → NoneOf P xs → NoneOf P ys → NoneOf P (xs ++ ys)
none-of-join P [] ys f g = g
none-of-join P (x ∷ xs) ys f g = (f.0, none-of-join P xs ys f.1 g)

-- holds if each occurrence that satisfies `P` is a use, so that inlining replaces it
abbrev pub AllGiveWay : OccurrenceSet → (Name → Type 0) → ℕ → List Name → Type 0
AllGiveWay uses P k [] = Unit {0}
AllGiveWay uses P k (x ∷ xs) = (P x → uses k ≡ true) × AllGiveWay uses P (suc k) xs

pub all-split : (uses : OccurrenceSet) (P : Name → Type 0) (k : ℕ) (xs ys : List Name) → AllGiveWay uses P k (xs ++ ys) → AllGiveWay uses P k xs × AllGiveWay uses P (k + length xs) ys
all-split uses P k [] ys h = (tt, subst (λ n. AllGiveWay uses P n ys) (sym (add-zero k)) h)
all-split uses P k (x ∷ xs) ys h =
    let g = all-split uses P (suc k) xs ys h.1 in
    let e : suc k + length xs ≡ k + suc (length xs) = omega arith in
    ((h.0, g.0), subst (λ n. AllGiveWay uses P n ys) e g.1)

pub none-left : {s : Sort} (uses : OccurrenceSet) (v : Tree Name factor) (P : Name → Type 0) → NoneOf P (occurrences v) → (k : ℕ) (t : Tree Name s) → AllGiveWay uses P k (occurrences t) → NoneOf P (non_factor_occurrences t) → NoneOf P (occurrences (inline_in_tree uses v k t))
none-left uses v P lit k none u h = tt
none-left uses v P lit k (one t) u h = none-left uses v P lit k t u h
none-left uses v P lit k end u h = tt
none-left uses v P lit k (more t ts) u h = let s0 = all-split uses P k (occurrences t) (occurrences ts) u in let g0 = none-of-split P (non_factor_occurrences t) (non_factor_occurrences ts) h in none-of-join P _ _ (none-left uses v P lit k t s0.0 g0.0) (none-left uses v P lit (k + length (occurrences t)) ts s0.1 g0.1)
none-left uses v P lit k (compares left compared) u h = let s0 = all-split uses P k (occurrences left) (occurrences compared) u in let g0 = none-of-split P (non_factor_occurrences left) (non_factor_occurrences compared) h in none-of-join P _ _ (none-left uses v P lit k left s0.0 g0.0) (none-left uses v P lit (k + length (occurrences left)) compared s0.1 g0.1)
none-left uses v P lit k (relates relation right) u h = none-left uses v P lit k right u h
none-left uses v P lit k (sum sign first terms) u h = let s0 = all-split uses P k (occurrences first) (occurrences terms) u in let g0 = none-of-split P (non_factor_occurrences first) (non_factor_occurrences terms) h in none-of-join P _ _ (none-left uses v P lit k first s0.0 g0.0) (none-left uses v P lit (k + length (occurrences first)) terms s0.1 g0.1)
none-left uses v P lit k (adds operator t) u h = none-left uses v P lit k t u h
none-left uses v P lit k (product first factors) u h = let s0 = all-split uses P k (occurrences first) (occurrences factors) u in let g0 = none-of-split P (non_factor_occurrences first) (non_factor_occurrences factors) h in none-of-join P _ _ (none-left uses v P lit k first s0.0 g0.0) (none-left uses v P lit (k + length (occurrences first)) factors s0.1 g0.1)
none-left uses v P lit k (multiplies operator t0) u h = none-left uses v P lit k t0 u h
none-left uses v P lit k (designator name end) u h = (elim (uses k) as (λ b. uses k ≡ b → NoneOf P (occurrences (if b then v else designator name end))) [ true ↦ λ e. lit | false ↦ λ e. (λ q. true≢false (sym (u.0 q) ∙ e), tt) ]) refl
none-left uses v P lit k (designator name (more s rest)) u h = (h.0, none-left uses v P lit (suc k) (more s rest) u.1 h.1)
none-left uses v P lit k (integer n) u h = tt
none-left uses v P lit k (parenthesised e) u h = none-left uses v P lit k e u h
none-left uses v P lit k (negation t0) u h = none-left uses v P lit k t0 u h
none-left uses v P lit k (field name) u h = tt
none-left uses v P lit k (index e) u h = none-left uses v P lit k e u h
none-left uses v P lit k empty u h = tt
none-left uses v P lit k (assigns name selectors e) u h = let s0 = all-split uses P (suc k) (occurrences selectors) (occurrences e) u.1 in let g0 = none-of-split P (non_factor_occurrences selectors) (non_factor_occurrences e) h.1 in (h.0, none-of-join P _ _ (none-left uses v P lit (suc k) selectors s0.0 g0.0) (none-left uses v P lit (suc k + length (occurrences selectors)) e s0.1 g0.1))
none-left uses v P lit k (calls name args) u h = (h.0, none-left uses v P lit (suc k) args u.1 h.1)
none-left uses v P lit k (branches condition s elsifs rest) u h = let s0 = all-split uses P k (occurrences condition) (occurrences s ++ (occurrences elsifs ++ (occurrences rest))) u in let g0 = none-of-split P (non_factor_occurrences condition) (non_factor_occurrences s ++ (non_factor_occurrences elsifs ++ non_factor_occurrences rest)) h in let s1 = all-split uses P (k + length (occurrences condition)) (occurrences s) (occurrences elsifs ++ (occurrences rest)) s0.1 in let g1 = none-of-split P (non_factor_occurrences s) (non_factor_occurrences elsifs ++ non_factor_occurrences rest) g0.1 in let s2 = all-split uses P (k + length (occurrences condition) + length (occurrences s)) (occurrences elsifs) (occurrences rest) s1.1 in let g2 = none-of-split P (non_factor_occurrences elsifs) (non_factor_occurrences rest) g1.1 in none-of-join P _ _ (none-left uses v P lit k condition s0.0 g0.0) (none-of-join P _ _ (none-left uses v P lit (k + length (occurrences condition)) s s1.0 g1.0) (none-of-join P _ _ (none-left uses v P lit (k + length (occurrences condition) + length (occurrences s)) elsifs s2.0 g2.0) (none-left uses v P lit (k + length (occurrences condition) + length (occurrences s) + length (occurrences elsifs)) rest s2.1 g2.1)))
none-left uses v P lit k (while_loop condition s) u h = let s0 = all-split uses P k (occurrences condition) (occurrences s) u in let g0 = none-of-split P (non_factor_occurrences condition) (non_factor_occurrences s) h in none-of-join P _ _ (none-left uses v P lit k condition s0.0 g0.0) (none-left uses v P lit (k + length (occurrences condition)) s s0.1 g0.1)
none-left uses v P lit k (repeat_loop s condition) u h = let s0 = all-split uses P k (occurrences s) (occurrences condition) u in let g0 = none-of-split P (non_factor_occurrences s) (non_factor_occurrences condition) h in none-of-join P _ _ (none-left uses v P lit k s s0.0 g0.0) (none-left uses v P lit (k + length (occurrences s)) condition s0.1 g0.1)
none-left uses v P lit k no_arguments u h = tt
none-left uses v P lit k (some_arguments e es) u h = let s0 = all-split uses P k (occurrences e) (occurrences es) u in let g0 = none-of-split P (non_factor_occurrences e) (non_factor_occurrences es) h in none-of-join P _ _ (none-left uses v P lit k e s0.0 g0.0) (none-left uses v P lit (k + length (occurrences e)) es s0.1 g0.1)
none-left uses v P lit k (comma_then_argument e) u h = none-left uses v P lit k e u h
none-left uses v P lit k (runs first statements) u h = let s0 = all-split uses P k (occurrences first) (occurrences statements) u in let g0 = none-of-split P (non_factor_occurrences first) (non_factor_occurrences statements) h in none-of-join P _ _ (none-left uses v P lit k first s0.0 g0.0) (none-left uses v P lit (k + length (occurrences first)) statements s0.1 g0.1)
none-left uses v P lit k (semicolon_then_statement s) u h = none-left uses v P lit k s u h
none-left uses v P lit k (elsif_branch condition s) u h = let s0 = all-split uses P k (occurrences condition) (occurrences s) u in let g0 = none-of-split P (non_factor_occurrences condition) (non_factor_occurrences s) h in none-of-join P _ _ (none-left uses v P lit k condition s0.0 g0.0) (none-left uses v P lit (k + length (occurrences condition)) s s0.1 g0.1)
none-left uses v P lit k (else_branch s) u h = none-left uses v P lit k s u h
none-left uses v P lit k (listed name others) u h = tt
none-left uses v P lit k (comma_then_name name) u h = tt
none-left uses v P lit k (named_type name) u h = (h.0, tt)
none-left uses v P lit k (array_type size t) u h = let s0 = all-split uses P k (occurrences size) (occurrences t) u in let g0 = none-of-split P (non_factor_occurrences size) (non_factor_occurrences t) h in none-of-join P _ _ (none-left uses v P lit k size s0.0 g0.0) (none-left uses v P lit (k + length (occurrences size)) t s0.1 g0.1)
none-left uses v P lit k (record_type first others) u h = let s0 = all-split uses P k (occurrences first) (occurrences others) u in let g0 = none-of-split P (non_factor_occurrences first) (non_factor_occurrences others) h in none-of-join P _ _ (none-left uses v P lit k first s0.0 g0.0) (none-left uses v P lit (k + length (occurrences first)) others s0.1 g0.1)
none-left uses v P lit k no_fields u h = tt
none-left uses v P lit k (some_fields ns t) u h = none-left uses v P lit k t u h
none-left uses v P lit k (semicolon_then_fields t0) u h = none-left uses v P lit k t0 u h
none-left uses v P lit k no_formals u h = tt
none-left uses v P lit k (some_formals first others) u h = let s0 = all-split uses P k (occurrences first) (occurrences others) u in let g0 = none-of-split P (non_factor_occurrences first) (non_factor_occurrences others) h in none-of-join P _ _ (none-left uses v P lit k first s0.0 g0.0) (none-left uses v P lit (k + length (occurrences first)) others s0.1 g0.1)
none-left uses v P lit k (value_section ns t) u h = none-left uses v P lit k t u h
none-left uses v P lit k (variable_section ns t) u h = none-left uses v P lit k t u h
none-left uses v P lit k (semicolon_then_section s) u h = none-left uses v P lit k s u h
none-left uses v P lit k (declares_constant name e) u h = none-left uses v P lit k e u h
none-left uses v P lit k (declares_const_section cs) u h = none-left uses v P lit k cs u h
none-left uses v P lit k (declares_type name t) u h = none-left uses v P lit k t u h
none-left uses v P lit k (declares_type_section ts) u h = none-left uses v P lit k ts u h
none-left uses v P lit k (declares_variable ns t) u h = none-left uses v P lit k t u h
none-left uses v P lit k (declares_var_section vs) u h = none-left uses v P lit k vs u h
none-left uses v P lit k (declares_procedure name fs b closing) u h = let s0 = all-split uses P k (occurrences fs) (occurrences b) u in let g0 = none-of-split P (non_factor_occurrences fs) (non_factor_occurrences b) h in none-of-join P _ _ (none-left uses v P lit k fs s0.0 g0.0) (none-left uses v P lit (k + length (occurrences fs)) b s0.1 g0.1)
none-left uses v P lit k (declares cs ts vs ps) u h = let s0 = all-split uses P k (occurrences cs) (occurrences ts ++ (occurrences vs ++ (occurrences ps))) u in let g0 = none-of-split P (non_factor_occurrences cs) (non_factor_occurrences ts ++ (non_factor_occurrences vs ++ non_factor_occurrences ps)) h in let s1 = all-split uses P (k + length (occurrences cs)) (occurrences ts) (occurrences vs ++ (occurrences ps)) s0.1 in let g1 = none-of-split P (non_factor_occurrences ts) (non_factor_occurrences vs ++ non_factor_occurrences ps) g0.1 in let s2 = all-split uses P (k + length (occurrences cs) + length (occurrences ts)) (occurrences vs) (occurrences ps) s1.1 in let g2 = none-of-split P (non_factor_occurrences vs) (non_factor_occurrences ps) g1.1 in none-of-join P _ _ (none-left uses v P lit k cs s0.0 g0.0) (none-of-join P _ _ (none-left uses v P lit (k + length (occurrences cs)) ts s1.0 g1.0) (none-of-join P _ _ (none-left uses v P lit (k + length (occurrences cs) + length (occurrences ts)) vs s2.0 g2.0) (none-left uses v P lit (k + length (occurrences cs) + length (occurrences ts) + length (occurrences vs)) ps s2.1 g2.1)))
none-left uses v P lit k (begins s) u h = none-left uses v P lit k s u h
none-left uses v P lit k (forms_block ds b) u h = let s0 = all-split uses P k (occurrences ds) (occurrences b) u in let g0 = none-of-split P (non_factor_occurrences ds) (non_factor_occurrences b) h in none-of-join P _ _ (none-left uses v P lit k ds s0.0 g0.0) (none-left uses v P lit (k + length (occurrences ds)) b s0.1 g0.1)
none-left uses v P lit k (forms_module name b closing) u h = none-left uses v P lit k b u h
