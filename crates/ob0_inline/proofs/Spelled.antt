-- Proves that a tree in which a factor replaces uses is spelled like the original tree, with the
-- factor's tokens in place of the uses. The tree's names are token indexes. A name is replaced
-- exactly if it is an occurrence that is a use (`Rest`). Names that aren't looked up aren't
-- replaced (`others`), and neither are names that aren't whole factors (`apart`).
use Rattle.std.proofs.Common.{◌≡◌, ◌≢◌, ℕ, suc, ◌+◌, ◌==◌, Bool, true, false, if◌then◌else◌, Option, None, Some, List, [], ◌∷◌, ◌++◌, length, refl, sym, ap, ◌∙◌, subst, arith, append-nil, add-zero, eqb-true, slice_get}
use Rattle.std.proofs.lemmas.List.Concat.{flat_map-append}
use Rattle.std.specs.List.{flat_map}
use Rattle.ob0_tree.specs.declared.tree.Role.{Role}
use Rattle.ob0_tree.specs.declared.tree.Role.TheVariants as role
use Rattle.ob0_tree.specs.Terminals.{Terminal, Name}
use Rattle.ob0_tree.specs.Tree.{Sort, Tree, block, constant, constants, factor, name_after_comma, identifiers, item, items, mapped_tree, maybe, module_text, names, occurrences, procedure, spell, adds, array_type, assigns, begins, branches, calls, compares, declares, declares_constant, declares_const_section, declares_procedure, declares_type, declares_type_section, declares_variable, declares_var_section, designator, else_branch, elsif_branch, end, field, forms_block, index, forms_module, listed, more, multiplies, named_type, negation, none, one, parenthesised, product, record_type, relates, repeat_loop, runs, some_arguments, some_fields, some_formals, sum, comma_then_argument, semicolon_then_fields, comma_then_name, semicolon_then_section, semicolon_then_statement, value_section, variable_section, while_loop}
use Rattle.ob0_edits_tokens.proofs.WordsOfTrees.{replaced}
use Rattle.ob0_language_names.specs.NonFactorNames.{non_factor_occurrences}
use Rattle.ob0_language_names.specs.Inlining.{OccurrenceSet, inline_in_tree, module_without_constant}
use Rattle.ob0_language_names.specs.Names as naming
use Rattle.ob0_language_names.specs.Names.{Label, declared}
use Rattle.ob0_language_names.specs.BlockParts.{formal_parameter_names, formal_parameter_sections}
use Rattle.ob0_language_names.specs.Scopes.{ordinal_after_names, ordinal_after_procedure, first_procedure_ordinal}
use Rattle.ob0_language_names.proofs.EditedTrees.{edited_block, edited_constants, edited_procedure, edited_procedures, edited_section}
use Rattle.ob0_language_names.proofs.EverywhereTrees.{everywhere, gone-module}
use Rattle.ob0_language_names.proofs.OccurrenceNames.{length-map}
use Rattle.ob0_language_names.proofs.OccurrencesMapped.{occurrences-mapped}
use Rattle.ob0_scope_table.specs.Resolution.{ordinal_in}
use Rattle.ob0_scope.proofs.SeenInPlaces.{AllMarked, IsMarked}
use Rattle.ob0_inline.proofs.TakenOut.{first_procedure_count, formals_count, gone_block, gone_constants, gone_module, gone_procedure, gone_procedures, gone_section, kept_constants, procedure_count}

-- holds if exactly the used occurrences are replaced; the first occurrence of the list has the
-- number k
abbrev pub Agrees : (ℕ → Bool) → OccurrenceSet → ℕ → List ℕ → Type 0
Agrees gives uses k [] = Unit {0}
Agrees gives uses k (i ∷ is) = (gives i ≡ uses k) × Agrees gives uses (suc k) is

pub agrees_each : (gives : ℕ → Bool) (uses : OccurrenceSet) (k : ℕ) (is : List ℕ) → ((j i : ℕ) → slice_get is j ≡ Some i → gives i ≡ uses (k + j)) → Agrees gives uses k is
agrees_each gives uses k [] h = tt
agrees_each gives uses k (i ∷ is) h =
    (subst (λ n. gives i ≡ uses n) (add-zero k) (h 0 i refl), agrees_each gives uses (suc k) is (λ j x e. subst (λ n. gives x ≡ uses n) (omega arith) (h (suc j) x e)))

-- holds if no name has the label of this declaration
abbrev pub NoneIs : ℕ → List Label → Type 0
NoneIs d [] = Unit {0}
NoneIs d (l ∷ ls) = (l ≢ declared d) × NoneIs d ls

cut_uses : (gives : ℕ → Bool) (uses : OccurrenceSet) (k n : ℕ) (is js : List ℕ) → length is ≡ n → Agrees gives uses k (is ++ js) → Agrees gives uses k is × Agrees gives uses (k + n) js
cut_uses gives uses k n [] js e h = (tt, subst (λ m. Agrees gives uses m js) (omega (arith, e)) h)
cut_uses gives uses k n (i ∷ is) js e h =
    let g = cut_uses gives uses (suc k) (length is) is js refl h.1 in
    ((h.0, g.0), subst (λ m. Agrees gives uses m js) (omega (arith, e)) g.1)

cut_roles : (table : List (Option ℕ)) (xs ys : List (Role × ℕ)) → AllMarked table (xs ++ ys) → AllMarked table xs × AllMarked table ys
cut_roles table [] ys h = (tt, h)
cut_roles table (x ∷ xs) ys h = let rest = cut_roles table xs ys h.1 in ((h.0, rest.0), rest.1)

cut_labels : (d : ℕ) (xs ys : List Label) → NoneIs d (xs ++ ys) → NoneIs d xs × NoneIs d ys
cut_labels d [] ys h = (tt, h)
cut_labels d (x ∷ xs) ys h = let rest = cut_labels d xs ys h.1 in ((h.0, rest.0), rest.1)

pub as_many : {N M : Type 0} {s : Sort} (f : N → M) (g : ℕ → ℕ) (t : Tree N s) → length (occurrences (mapped_tree f g t)) ≡ length (occurrences t)
as_many f g t = ap length (occurrences-mapped f f g t) ∙ length-map f (occurrences t)

module _ (gives : ℕ → Bool) (uses : OccurrenceSet) (v : Tree naming.Name factor) (f : ℕ → naming.Name) (g : ℕ → ℕ) (table : List (Option ℕ)) (label : ℕ → Label) (d : ℕ)
    (others : (i : ℕ) → ordinal_in table i ≡ None → gives i ≡ false) (apart : (i : ℕ) → label i ≢ declared d → gives i ≡ false) where
  abbrev put : Terminal ℕ → List (Terminal naming.Name)
  put = replaced gives (spell v) f g

  -- holds if the facts are true about occurrences (the first has the number k), about identifiers,
  -- and about names that aren't factors by themselves
  abbrev Rest : ℕ → List ℕ → List (Role × ℕ) → List Label → Type 0
  Rest k os is es = Agrees gives uses k os × AllMarked table is × NoneIs d es

  abbrev pub Fits : {s : Sort} → ℕ → Role → Tree ℕ s → Type 0
  Fits k r t = Rest k (occurrences t) (identifiers r t) (non_factor_occurrences (mapped_tree label g t))

  abbrev past : {s : Sort} → ℕ → Tree ℕ s → ℕ
  past k t = k + length (occurrences (mapped_tree f g t))

  cut : {s : Sort} (k : ℕ) (r : Role) (t : Tree ℕ s) (os : List ℕ) (is : List (Role × ℕ)) (es : List Label)
      → Rest k (occurrences t ++ os) (identifiers r t ++ is) (non_factor_occurrences (mapped_tree label g t) ++ es) → Fits k r t × Rest (past k t) os is es
  cut k r t os is es h =
      let a = cut_uses gives uses k (length (occurrences (mapped_tree f g t))) (occurrences t) os (sym (as_many f g t)) h.0 in
      let b = cut_roles table (identifiers r t) is h.1 in
      let c = cut_labels d (non_factor_occurrences (mapped_tree label g t)) es h.2 in
      ((a.0, b.0, c.0), (a.1, b.1, c.1))

  both : {s z : Sort} (k : ℕ) (r : Role) (t : Tree ℕ s) (u : Tree ℕ z)
      → Rest k (occurrences t ++ occurrences u) (identifiers r t ++ identifiers r u) (non_factor_occurrences (mapped_tree label g t) ++ non_factor_occurrences (mapped_tree label g u)) → Fits k r t × Fits (past k t) r u
  both k r t u h = cut k r t (occurrences u) (identifiers r u) (non_factor_occurrences (mapped_tree label g u)) h

  -- holds if names in this role, such as declared names or fields, aren't replaced
  abbrev pub Plain : Role → Type 0
  Plain r = (i : ℕ) → IsMarked table r i → gives i ≡ false

  further_spelled : (r : Role) → Plain r → (ns : Tree ℕ (items name_after_comma)) → AllMarked table (identifiers r ns) → spell (mapped_tree f g ns) ≡ flat_map put (spell ns)
  further_spelled r plain end h = refl
  further_spelled r plain (more (comma_then_name x) rest) h = simp (plain x h.0, further_spelled r plain rest h.1)

  names_spelled : (r : Role) → Plain r → (ns : Tree ℕ names) → AllMarked table (identifiers r ns) → spell (mapped_tree f g ns) ≡ flat_map put (spell ns)
  names_spelled r plain (listed x rest) h = simp (plain x h.0, further_spelled r plain rest h.1)

  further_kept : (k : ℕ) (ns : Tree ℕ (items name_after_comma)) → inline_in_tree uses v k (mapped_tree f g ns) ≡ mapped_tree f g ns
  further_kept k end = refl
  further_kept k (more (comma_then_name x) rest) = λ i. more (comma_then_name (f x)) (further_kept (k + 0) rest i)

  alone : (x : ℕ) (b : Bool) → gives x ≡ b → spell (if b then v else designator (f x) end) ≡ (if gives x then spell v else Name (f x) ∷ []) ++ []
  alone x true e = sym (append-nil (spell v)) ∙ ap (λ b. (if b then spell v else Name (f x) ∷ []) ++ []) (sym e)
  alone x false e = ap (λ b. (if b then spell v else Name (f x) ∷ []) ++ []) (sym e)

  -- A tree with the factor in place of the uses is spelled like the tree. r is the role of the
  -- names in a list.
  pub spelled : {s : Sort} (k : ℕ) (r : Role) → Plain r → (t : Tree ℕ s) → Fits k r t → spell (inline_in_tree uses v k (mapped_tree f g t)) ≡ flat_map put (spell t)
  spelled k r plain (one t) h = simp (spelled k r plain t h)
  spelled k r plain (more t u) h = let s = both k r t u h in simp (flat_map-append, spelled k r plain t s.0, spelled (past k t) r plain u s.1)
  spelled k r plain (compares t u) h = let s = both k r t u h in simp (flat_map-append, spelled k r plain t s.0, spelled (past k t) r plain u s.1)
  spelled k r plain (relates o t) h = simp (spelled k r plain t h)
  spelled k r plain (sum None t u) h = let s = both k r t u h in simp (flat_map-append, spelled k r plain t s.0, spelled (past k t) r plain u s.1)
  spelled k r plain (sum (Some sign) t u) h = let s = both k r t u h in simp (flat_map-append, spelled k r plain t s.0, spelled (past k t) r plain u s.1)
  spelled k r plain (adds o t) h = simp (spelled k r plain t h)
  spelled k r plain (product t u) h = let s = both k r t u h in simp (flat_map-append, spelled k r plain t s.0, spelled (past k t) r plain u s.1)
  spelled k r plain (multiplies o t) h = simp (spelled k r plain t h)
  spelled k r plain (designator x end) h = alone x (uses k) h.0.0
  spelled k r plain (designator x (more t u)) h = let s = both (suc k) r t u (h.0.1, h.1.1, h.2.1) in simp (flat_map-append, apart x h.2.0, spelled (suc k) r plain t s.0, spelled (past (suc k) t) r plain u s.1)
  spelled k r plain (parenthesised t) h = simp (flat_map-append, spelled k r plain t h)
  spelled k r plain (negation t) h = simp (spelled k r plain t h)
  spelled k r plain (field x) h = simp (others x h.1.0)
  spelled k r plain (index t) h = simp (flat_map-append, spelled k r plain t h)
  spelled k r plain (assigns x t u) h = let s = both (suc k) r t u (h.0.1, h.1.1, h.2.1) in simp (flat_map-append, apart x h.2.0, spelled (suc k) r plain t s.0, spelled (past (suc k) t) r plain u s.1)
  spelled k r plain (calls x t) h = simp (apart x h.2.0, spelled (suc k) r plain t (h.0.1, h.1.1, h.2.1))
  spelled k r plain (branches t u w z) h =
      let a = cut k r t (occurrences u ++ (occurrences w ++ (occurrences z))) (identifiers r u ++ (identifiers r w ++ (identifiers r z))) (non_factor_occurrences (mapped_tree label g u) ++ (non_factor_occurrences (mapped_tree label g w) ++ (non_factor_occurrences (mapped_tree label g z)))) h in
      let b = cut (past k t) r u (occurrences w ++ (occurrences z)) (identifiers r w ++ (identifiers r z)) (non_factor_occurrences (mapped_tree label g w) ++ (non_factor_occurrences (mapped_tree label g z))) a.1 in
      let c = both (past (past k t) u) r w z b.1 in
      simp (flat_map-append, spelled k r plain t a.0, spelled (past k t) r plain u b.0, spelled (past (past k t) u) r plain w c.0, spelled (past (past (past k t) u) w) r plain z c.1)
  spelled k r plain (while_loop t u) h = let s = both k r t u h in simp (flat_map-append, spelled k r plain t s.0, spelled (past k t) r plain u s.1)
  spelled k r plain (repeat_loop t u) h = let s = both k r t u h in simp (flat_map-append, spelled k r plain t s.0, spelled (past k t) r plain u s.1)
  spelled k r plain (some_arguments t u) h = let s = both k r t u h in simp (flat_map-append, spelled k r plain t s.0, spelled (past k t) r plain u s.1)
  spelled k r plain (comma_then_argument t) h = simp (spelled k r plain t h)
  spelled k r plain (runs t u) h = let s = both k r t u h in simp (flat_map-append, spelled k r plain t s.0, spelled (past k t) r plain u s.1)
  spelled k r plain (semicolon_then_statement t) h = simp (spelled k r plain t h)
  spelled k r plain (elsif_branch t u) h = let s = both k r t u h in simp (flat_map-append, spelled k r plain t s.0, spelled (past k t) r plain u s.1)
  spelled k r plain (else_branch t) h = simp (spelled k r plain t h)
  spelled k r plain (listed x rest) h = simp (plain x h.1.0, ap spell (further_kept k rest), further_spelled r plain rest h.1.1)
  spelled k r plain (comma_then_name x) h = simp (plain x h.1.0)
  spelled k r plain (named_type x) h = simp (apart x h.2.0)
  spelled k r plain (array_type t u) h = let s = both k r t u h in simp (flat_map-append, spelled k r plain t s.0, spelled (past k t) r plain u s.1)
  spelled k r plain (record_type t u) h = let s = both k r t u h in simp (flat_map-append, spelled k r plain t s.0, spelled (past k t) r plain u s.1)
  spelled k r plain (some_fields ns t) h = let s = cut_roles table (identifiers role.FieldName ns) (identifiers r t) h.1 in simp (flat_map-append, names_spelled role.FieldName others ns s.0, spelled k r plain t (h.0, s.1, h.2))
  spelled k r plain (semicolon_then_fields t) h = simp (spelled k r plain t h)
  spelled k r plain (some_formals t u) h = let s = both k r t u h in simp (flat_map-append, spelled k r plain t s.0, spelled (past k t) r plain u s.1)
  spelled k r plain (value_section ns t) h = let s = cut_roles table (identifiers role.DeclaringName ns) (identifiers r t) h.1 in simp (flat_map-append, names_spelled role.DeclaringName others ns s.0, spelled k r plain t (h.0, s.1, h.2))
  spelled k r plain (variable_section ns t) h = let s = cut_roles table (identifiers role.DeclaringName ns) (identifiers r t) h.1 in simp (flat_map-append, names_spelled role.DeclaringName others ns s.0, spelled k r plain t (h.0, s.1, h.2))
  spelled k r plain (semicolon_then_section t) h = simp (spelled k r plain t h)
  spelled k r plain (declares_constant x t) h = simp (flat_map-append, others x h.1.0, spelled k r plain t (h.0, h.1.1, h.2))
  spelled k r plain (declares_const_section t) h = simp (spelled k r plain t h)
  spelled k r plain (declares_type x t) h = simp (flat_map-append, others x h.1.0, spelled k r plain t (h.0, h.1.1, h.2))
  spelled k r plain (declares_type_section t) h = simp (spelled k r plain t h)
  spelled k r plain (declares_variable ns t) h = let s = cut_roles table (identifiers role.DeclaringName ns) (identifiers r t) h.1 in simp (flat_map-append, names_spelled role.DeclaringName others ns s.0, spelled k r plain t (h.0, s.1, h.2))
  spelled k r plain (declares_var_section t) h = simp (spelled k r plain t h)
  spelled k r plain (declares_procedure x t u y) h =
      let a = cut k r t (occurrences u) (identifiers r u ++ ((role.ClosingName, y) ∷ [])) (non_factor_occurrences (mapped_tree label g u)) (h.0, h.1.1, h.2) in
      let b = cut_roles table (identifiers r u) ((role.ClosingName, y) ∷ []) a.1.1 in
      simp (flat_map-append, others x h.1.0, others y b.1.0, spelled k r plain t a.0, spelled (past k t) r plain u (a.1.0, b.0, a.1.2))
  spelled k r plain (declares t u w z) h =
      let a = cut k r t (occurrences u ++ (occurrences w ++ (occurrences z))) (identifiers r u ++ (identifiers r w ++ (identifiers r z))) (non_factor_occurrences (mapped_tree label g u) ++ (non_factor_occurrences (mapped_tree label g w) ++ (non_factor_occurrences (mapped_tree label g z)))) h in
      let b = cut (past k t) r u (occurrences w ++ (occurrences z)) (identifiers r w ++ (identifiers r z)) (non_factor_occurrences (mapped_tree label g w) ++ (non_factor_occurrences (mapped_tree label g z))) a.1 in
      let c = both (past (past k t) u) r w z b.1 in
      simp (flat_map-append, spelled k r plain t a.0, spelled (past k t) r plain u b.0, spelled (past (past k t) u) r plain w c.0, spelled (past (past (past k t) u) w) r plain z c.1)
  spelled k r plain (begins t) h = simp (spelled k r plain t h)
  spelled k r plain (forms_block t u) h = let s = both k r t u h in simp (flat_map-append, spelled k r plain t s.0, spelled (past k t) r plain u s.1)
  spelled k r plain (forms_module x t y) h =
      let b = cut_roles table (identifiers r t) ((role.ModuleName, y) ∷ []) h.1.1 in
      simp (flat_map-append, others x h.1.0, others y b.1.0, spelled k r plain t (h.0, b.0, h.2))
  spelled k r plain _ h = refl

  joined : {xs' ys' : List (Terminal naming.Name)} (xs ys : List (Terminal ℕ)) → xs' ≡ flat_map put xs → ys' ≡ flat_map put ys → xs' ++ ys' ≡ flat_map put (xs ++ ys)
  joined xs ys p q = (λ i. p i ++ q i) ∙ sym (flat_map-append put xs ys)

  -- The same tokens spell constants without the declaration of c. n is the ordinal of the part's
  -- first declaration.
  constants_spelled : (c n k : ℕ) (cs : Tree ℕ (items constant)) → Fits k role.DeclaringName cs → spell (edited_constants (everywhere uses v c) k n (mapped_tree f g cs)) ≡ flat_map put (spell (gone_constants c n cs))
  constants_spelled c n k end h = refl
  constants_spelled c n k (more (declares_constant x t) cs) h =
      let r = role.DeclaringName in
      let s = both k r (declares_constant x t) cs h in
      let later = constants_spelled c (suc n) (past k t) cs s.1 in
      let rest = edited_constants (everywhere uses v c) (past k t) (suc n) (mapped_tree f g cs) in
      (elim (n == c) as (λ b. (n == c) ≡ b
      → spell (if b then rest else more (declares_constant (f x) (inline_in_tree uses v k (mapped_tree f g t))) rest)
      ≡ flat_map put (spell (if b then cs else more (declares_constant x t) (gone_constants c (suc n) cs)))) [
        | true ↦ (λ e. later ∙ ap (λ z. flat_map put (spell z)) (kept_constants c (suc n) cs (λ j l u. omega (arith, eqb-true n c e, l))))
        | false ↦ (λ e. joined (spell (declares_constant x t)) (spell (gone_constants c (suc n) cs)) (spelled k r others (declares_constant x t) s.0) later)
      ]) refl

  section_spelled : (c n k : ℕ) (cs : Tree ℕ (maybe constants)) → Fits k role.DeclaringName cs → spell (edited_section (everywhere uses v c) k n (mapped_tree f g cs)) ≡ flat_map put (spell (gone_section c n cs))
  section_spelled c n k none h = refl
  section_spelled c n k (one (declares_const_section cs)) h = simp (constants_spelled c n k cs h)

  mutual
    block_spelled : (c n k : ℕ) (b : Tree ℕ block) → Fits k role.DeclaringName b → spell (edited_block (everywhere uses v c) k n (mapped_tree f g b)) ≡ flat_map put (spell (gone_block c n b))
    block_spelled c n k (forms_block (declares t u w z) st) h =
        let r = role.DeclaringName in
        let b : Tree ℕ block = forms_block (declares t u w z) st in
        let s = both k r (declares t u w z) st h in
        let a = cut k r t (occurrences u ++ (occurrences w ++ occurrences z)) (identifiers r u ++ (identifiers r w ++ identifiers r z)) (non_factor_occurrences (mapped_tree label g u) ++ (non_factor_occurrences (mapped_tree label g w) ++ non_factor_occurrences (mapped_tree label g z))) s.0 in
        let e = cut (past k t) r u (occurrences w ++ occurrences z) (identifiers r w ++ identifiers r z) (non_factor_occurrences (mapped_tree label g w) ++ non_factor_occurrences (mapped_tree label g z)) a.1 in
        let p = both (past (past k t) u) r w z e.1 in
        let j = past (past (past k t) u) w in
        let left : List (Terminal ℕ) = spell (gone_procedures c (first_procedure_ordinal n b) z) in
        let procedures = ap (λ i. spell (edited_procedures (everywhere uses v c) j i (mapped_tree f g z))) (first_procedure_count f g n b) ∙ procedures_spelled c (first_procedure_ordinal n b) j z p.1 in
        joined (spell (gone_section c n t) ++ (spell u ++ (spell w ++ left))) (spell st)
        (joined (spell (gone_section c n t)) (spell u ++ (spell w ++ left)) (section_spelled c n k t a.0)
        (joined (spell u) (spell w ++ left) (spelled (past k t) r others u e.0)
        (joined (spell w) left (spelled (past (past k t) u) r others w p.0) procedures)))
        (spelled (past k (declares t u w z)) r others st s.1)

    procedures_spelled : (c n k : ℕ) (ps : Tree ℕ (items procedure)) → Fits k role.DeclaringName ps → spell (edited_procedures (everywhere uses v c) k n (mapped_tree f g ps)) ≡ flat_map put (spell (gone_procedures c n ps))
    procedures_spelled c n k end h = refl
    procedures_spelled c n k (more p rest) h =
        let s = both k role.DeclaringName p rest h in
        joined (spell (gone_procedure c (suc n) p)) (spell (gone_procedures c (ordinal_after_procedure (suc n) p) rest)) (procedure_spelled c (suc n) k p s.0)
        (ap (λ i. spell (edited_procedures (everywhere uses v c) (past k p) i (mapped_tree f g rest))) (procedure_count f g (suc n) p) ∙ procedures_spelled c (ordinal_after_procedure (suc n) p) (past k p) rest s.1)

    procedure_spelled : (c n k : ℕ) (p : Tree ℕ (item procedure)) → Fits k role.DeclaringName p → spell (edited_procedure (everywhere uses v c) k n (mapped_tree f g p)) ≡ flat_map put (spell (gone_procedure c n p))
    procedure_spelled c n k (declares_procedure x u b y) h =
        let r = role.DeclaringName in
        let a = cut k r u (occurrences b) (identifiers r b ++ ((role.ClosingName, y) ∷ [])) (non_factor_occurrences (mapped_tree label g b)) (h.0, h.1.1, h.2) in
        let q = cut_roles table (identifiers r b) ((role.ClosingName, y) ∷ []) a.1.1 in
        let first = ordinal_after_names n (formal_parameter_names (formal_parameter_sections u)) in
        let inner = ap (λ i. spell (edited_block (everywhere uses v c) (past k u) i (mapped_tree f g b))) (formals_count f g n u) ∙ block_spelled c first (past k u) b (a.1.0, q.0, a.1.2) in
        simp (flat_map-append, others x h.1.0, others y q.1.0, spelled k r others u a.0, inner)

  pub module_spelled : (c : ℕ) (m : Tree ℕ module_text) → Fits 0 role.DeclaringName m → spell (module_without_constant c (inline_in_tree uses v 0 (mapped_tree f g m))) ≡ flat_map put (spell (gone_module c m))
  module_spelled c (forms_module x b y) h =
      let q = cut_roles table (identifiers role.DeclaringName b) ((role.ModuleName, y) ∷ []) h.1.1 in
      let inner = block_spelled c 7 0 b (h.0, q.0, h.2) in
      let edited_is : spell (forms_module (f x) (edited_block (everywhere uses v c) 0 7 (mapped_tree f g b)) (f y)) ≡ flat_map put (spell (gone_module c (forms_module x b y))) = simp (flat_map-append, others x h.1.0, others y q.1.0, inner) in
      ap spell (sym (gone-module uses v c (mapped_tree f g (forms_module x b y)))) ∙ edited_is
