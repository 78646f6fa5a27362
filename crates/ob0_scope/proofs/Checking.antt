-- Proves that the checks find the duplicate declarations of a tree: the lists that loops collect,
-- and the faults of the parts of a module.
use Rattle.std.proofs.Common.{◌≡◌, ℕ, zero, suc, map, take, arith, ◌+◌, ◌<◌, ◌≤◌, Bool, true, false, not, cond, ◌||◌, List, [], ◌∷◌, ◌++◌, length, get_or, drop, refl, sym, ap, ◌∙◌, append-nil, append_assoc, Bor}
use Rattle.std.proofs.lemmas.List.{drop_all, drop_more}
use Rattle.std.proofs.lemmas.Map.Text.{is_eq-slice_cmp}
use Rattle.std.specs.BTreeSet.{BTreeSet, contains_by, UpdatesBy}
use Rattle.std.specs.Cmp.Lexicographic.{slice_cmp}
use Rattle.std.specs.Ordering.{is_eq, nat_cmp}
use Rattle.ob0_scan.specs.declared.fault.FaultCode.TheVariants as code
use Rattle.ob0_tree.specs.declared.tree.OptionalFieldGroup.{OptionalFieldGroup}
use Rattle.ob0_tree.specs.Tree.{Tree, block, body, constants, declares, declares_procedure, formals, forms_block, items, maybe, procedure, type_definitions, variables}
use Rattle.ob0_tree.specs.View.{optional_field_group_of, field_group_after_semicolon_of, items_of, record_type_of_list}
use Rattle.ob0_language_names.specs.ConsistentNames.{names_declared_in_block, field_names_after_first_group, is_among, procedure_names}
use Rattle.ob0_scope_table.specs.DuplicatesAndEndNames.{duplicate_faults, block_declaration_faults, closing_name_faults, duplicate_field_faults, duplicate_field_faults_in_formals, duplicate_field_faults_in_group, duplicate_field_faults_in_further_groups, procedure_declaration_faults, procedure_list_declaration_faults, duplicate_field_faults_in_types, fault_unless, duplicate_field_faults_in_variables}
use Rattle.ob0_scope_table.specs.FaultsAtTokens.{fault_at_token}
use Rattle.ob0_scope_table.specs.declared.faults.FaultAtTokens.{FaultAtTokens}
use Rattle.ob0_language_names.specs.Names.{Name, same_name}
use Rattle.ob0_language_names.specs.BlockParts.{constant_names, formal_parameter_names, formal_parameter_sections, declared_type_names, section_constants, section_types, section_variables, variable_names}
use Rattle.ob0_language_names.proofs.NameEquality.{same_name-comm}

-- states that what was collected, with the items still to collect, is what all items give
pub record Gathering {A B : Type 0} (f : List A → List B) (xs : List A) (start : List B) (done : ℕ) (out : List B) : Type 0 where
  pub so_far : out ++ f (drop done xs) ≡ start ++ f xs

pub gathered : {A B : Type 0} (f : List A → List B) {xs : List A} {start : List B} {done : ℕ} {out : List B} → f [] ≡ [] → Gathering f xs start done out → length xs ≤ done → out ≡ start ++ f xs
gathered f {xs = xs} {done = done} {out = out} empty_is w all = sym (append-nil out) ∙ (ap (λ z. out ++ z) (sym (ap f (drop_all done xs all) ∙ empty_is)) ∙ w.so_far)

pub gathers_on : {A B : Type 0} (f : List A → List B) {xs : List A} {start : List B} {done : ℕ} {out : List B} (x : A) (own : List B) {next : List B}
    → ((rest : List A) → f (x ∷ rest) ≡ own ++ f rest) → Gathering f xs start done out → done < length xs → x ≡ get_or xs done x → next ≡ out ++ own → Gathering f xs start (done + 1) next
gathers_on f {xs = xs} {done = done} {out = out} x own split w less here e =
    let rest = drop (done + 1) xs in
    let left : drop done xs ≡ x ∷ rest = drop_more xs done x less ∙ ap (λ y. y ∷ rest) (sym here) in
    record {
      so_far = ap (λ z. z ++ f rest) e
          ∙ (append_assoc out own (f rest)
          ∙ (sym (ap (λ z. out ++ z) (split rest))
          ∙ (sym (ap (λ ys. out ++ f ys) left) ∙ w.so_far)));
    }

-- true if a set of texts contains this text
abbrev pub has : BTreeSet (Bor Name) → Name → Bool
has seen x = contains_by (λ key. slice_cmp nat_cmp x key.now) seen

-- states that the set has the names so far, and that the faults so far and the faults of the other
-- names are all faults
pub record Seeing (text : ℕ → Name) (all : List ℕ) (start : List FaultAtTokens) (done : ℕ) (seen : Name → Bool) (now : List FaultAtTokens) : Type 0 where
  pub before : List Name
  pub found : (x : Name) → seen x ≡ is_among x before
  pub so_far : now ++ duplicate_faults text before (drop done all) ≡ start ++ duplicate_faults text [] all

either : (p q r : Bool) → p ≡ q → cond p true r ≡ (q || r)
either true true r e = refl
either true false r e = absurd (cc)
either false true r e = absurd (cc)
either false false r e = refl

abbrev pub Adds : Name → BTreeSet (Bor Name) → BTreeSet (Bor Name) → Type 0
Adds x seen next = UpdatesBy (λ a b. slice_cmp nat_cmp a.now b.now) (λ key. slice_cmp nat_cmp x key.now) seen next true

pub one_more : (x : Name) (seen next : BTreeSet (Bor Name)) → Adds x seen next → (q : Name) → has next q ≡ (same_name q x || has seen q)
one_more x seen next grown q =
    grown.0 (record { ref_ptr = (0, 0); now = q }) ∙ either (is_eq (slice_cmp nat_cmp x q)) (same_name q x) (has seen q) (is_eq-slice_cmp x q ∙ same_name-comm x q)

pub sees_on : (text : ℕ → Name) (all : List ℕ) (start : List FaultAtTokens) (done : ℕ) (seen next : Name → Bool) (now later : List FaultAtTokens) (added : Bool) (token : ℕ) (x : Name) → Seeing text all start done seen now → done < length all
    → token ≡ get_or all done 0 → x ≡ text token → added ≡ not (seen x) → ((q : Name) → next q ≡ (same_name q x || seen q)) → later ≡ now ++ fault_unless added (fault_at_token code.Duplicate token) → Seeing text all start (done + 1) next later
sees_on text all start done seen next now later added token x w less here named new grown e =
    let rest = drop (done + 1) all in
    let split : drop done all ≡ token ∷ rest = drop_more all done 0 less ∙ ap (λ y. y ∷ rest) (sym here) in
    let fresh : added ≡ not (is_among (text token) w.before) = new ∙ (ap not (w.found x) ∙ ap (λ y. not (is_among y w.before)) named) in
    record {
      before = x ∷ w.before;
      found = λ q. grown q ∙ ap (λ b. same_name q x || b) (w.found q);
      so_far = (λ i. (e ∙ ap (λ b. now ++ fault_unless b (fault_at_token code.Duplicate token)) fresh) i ++ duplicate_faults text (named i ∷ w.before) rest)
          ∙ (append_assoc now (fault_unless (not (is_among (text token) w.before)) (fault_at_token code.Duplicate token)) (duplicate_faults text (text token ∷ w.before) rest)
          ∙ (sym (ap (λ ys. now ++ duplicate_faults text w.before ys) split) ∙ w.so_far));
    }

pub all_seen : {text : ℕ → Name} {all : List ℕ} {start : List FaultAtTokens} {done : ℕ} {seen : Name → Bool} {now : List FaultAtTokens} → Seeing text all start done seen now → length all ≤ done → now ≡ start ++ duplicate_faults text [] all
all_seen {text = text} {all = all} {start = start} {done = done} {now = now} w over =
    sym (append-nil now) ∙ (sym (ap (λ ys. now ++ duplicate_faults text w.before ys) (drop_all done all over)) ∙ w.so_far)

swapped : (a b c : Bool) → (a || (b || c)) ≡ (b || (a || c))
swapped true true c = refl
swapped true false c = refl
swapped false true c = refl
swapped false false c = refl

-- A name is among the first done + 1 names if it is the last of these or among the others.
pub one_further : (text : ℕ → Name) (all : List ℕ) (done : ℕ) (d : ℕ) → done < length all → (q : Name) → is_among q (map text (take (suc done) all)) ≡ (same_name q (text (get_or all done d)) || is_among q (map text (take done all)))
one_further text [] done d less q = absurd (omega (arith, less))
one_further text (x ∷ xs) zero d less q = refl
one_further text (x ∷ xs) (suc done) d less q =
    ap (λ b. same_name q (text x) || b) (one_further text xs done d (omega (arith, less)) q) ∙ swapped (same_name q (text x)) (same_name q (text (get_or xs done d))) (is_among q (map text (take done xs)))

-- The faults of a record's fields are reported, whichever group is the first.
pub record_reported : (text : ℕ → Name) (start own after : List FaultAtTokens) (gs : List OptionalFieldGroup) (fs : List ℕ) → fs ≡ field_names_after_first_group (items_of field_group_after_semicolon_of gs) → own ≡ start ++ duplicate_faults text [] fs
    → after ≡ own ++ duplicate_field_faults_in_further_groups text (items_of field_group_after_semicolon_of gs) → after ≡ start ++ duplicate_field_faults text (record_type_of_list gs)
record_reported text start own after [] fs are e f = f ∙ (append-nil own ∙ (e ∙ ap (λ ns. start ++ duplicate_faults text [] ns) are))
record_reported text start own after (g ∷ gs) fs are e f =
    let rest = items_of field_group_after_semicolon_of gs in
    let inner = duplicate_field_faults_in_group text (optional_field_group_of g) ++ duplicate_field_faults_in_further_groups text rest in
    let names = field_names_after_first_group (items_of field_group_after_semicolon_of (g ∷ gs)) in
    f ∙ (ap (λ d. d ++ inner) (e ∙ ap (λ ns. start ++ duplicate_faults text [] ns) are) ∙ append_assoc start (duplicate_faults text [] names) inner)

five_names : (a b c d e : List ℕ) → (((a ++ b) ++ c) ++ d) ++ e ≡ a ++ (b ++ (c ++ (d ++ e)))
five_names a b c d e = append_assoc ((a ++ b) ++ c) d e ∙ (append_assoc (a ++ b) c (d ++ e) ∙ append_assoc a b (c ++ (d ++ e)))

-- The faults of a block are reported for its names, its types, its variables and its procedures.
pub block_reported : (text : ℕ → Name) (start : List FaultAtTokens) (own : List ℕ) (cs : Tree ℕ (maybe constants)) (ts : Tree ℕ (maybe type_definitions)) (vs : Tree ℕ (maybe variables)) (ps : Tree ℕ (items procedure)) (statements : Tree ℕ (maybe body))
    (all : List ℕ) (named typed varied after : List FaultAtTokens) → all ≡ (((own ++ constant_names (section_constants cs)) ++ declared_type_names (section_types ts)) ++ variable_names (section_variables vs)) ++ procedure_names ps
    → named ≡ start ++ duplicate_faults text [] all → typed ≡ named ++ duplicate_field_faults_in_types text (section_types ts) → varied ≡ typed ++ duplicate_field_faults_in_variables text (section_variables vs)
    → after ≡ varied ++ procedure_list_declaration_faults text ps → after ≡ start ++ block_declaration_faults text own (forms_block (declares cs ts vs ps) statements)
block_reported text start own cs ts vs ps statements all named typed varied after are d t v p =
    let names = are ∙ five_names own (constant_names (section_constants cs)) (declared_type_names (section_types ts)) (variable_names (section_variables vs)) (procedure_names ps) in
    let T = duplicate_field_faults_in_types text (section_types ts) in
    let V = duplicate_field_faults_in_variables text (section_variables vs) in
    let P = procedure_list_declaration_faults text ps in
    let D = duplicate_faults text [] (own ++ names_declared_in_block (forms_block (declares cs ts vs ps) statements)) in
    let first : named ≡ start ++ D = d ∙ ap (λ xs. start ++ duplicate_faults text [] xs) names in
    p ∙ (ap (λ z. z ++ P) (v ∙ ap (λ z. z ++ V) (t ∙ ap (λ z. z ++ T) first))
    ∙ (append_assoc ((start ++ D) ++ T) V P ∙ (append_assoc (start ++ D) T (V ++ P) ∙ append_assoc start D (T ++ (V ++ P)))))

-- The faults of a procedure are reported for its closing name, its parameters' types and its block.
pub procedure_reported : (text : ℕ → Name) (start closed typed : List FaultAtTokens) (x : ℕ) (fs : Tree ℕ (maybe formals)) (b : Tree ℕ block) (closing : ℕ) (own : List ℕ) → closed ≡ start ++ closing_name_faults text x closing
    → typed ≡ closed ++ duplicate_field_faults_in_formals text (formal_parameter_sections fs) → own ≡ formal_parameter_names (formal_parameter_sections fs)
    → typed ++ block_declaration_faults text own b ≡ start ++ procedure_declaration_faults text (declares_procedure x fs b closing)
procedure_reported text start closed typed x fs b closing own c t are =
    let F = duplicate_field_faults_in_formals text (formal_parameter_sections fs) in
    let C = closing_name_faults text x closing in
    let B = block_declaration_faults text (formal_parameter_names (formal_parameter_sections fs)) b in
    (λ i. (t ∙ ap (λ z. z ++ F) c) i ++ block_declaration_faults text (are i) b) ∙ (append_assoc (start ++ C) F B ∙ append_assoc start C (F ++ B))
