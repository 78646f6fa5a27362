-- An edited expression or type means the same in the environment after the edit as the original one
-- in the environment before. Two trees mean the same if their occurrences mean the same. To prove
-- this, each name is tagged with its meaning (`Tag`) and the lemmas of naturality are used. So no
-- induction over expressions or statements is needed.
use Rattle.std.proofs.Common.{Bool, List, None, Option, Some, [], ap, codes, eqb-true, false, option_map, refl, suc, sym, true, true≢false, ℕ, ⊎_elim, ◌∙◌, ◌∷◌, ◌≡◌, ◌≤◌}
use Rattle.ob0_tree.specs.Tree.{Tree, expression, occurrences, written_type}
use Rattle.ob0_language_names.specs.MappedNames.{map_names}
use Rattle.ob0_language_names.specs.Names.{Name, naming_by_spelling}
use Rattle.ob0_language_names.specs.Scopes.{Scope, ordinal_in_scope, same_ordinal}
use Rattle.ob0_language_names.proofs.EditedTrees.{Edit, SameAt, UsesNone, inline-nothing, leaf, map_names-same}
use Rattle.ob0_language_names.proofs.Places.{Each, Placed}
use Rattle.ob0_language_names.proofs.SameNames.{map_names-id}
use Rattle.ob0_language_values.specs.Values.{Place, Shape, Value, elements, members, number, truth}
use Rattle.ob0_language_types.specs.ConstantValues.{constant_or_placeholder}
use Rattle.ob0_language_types.specs.EditLaws.{Is32BitScalar}
use Rattle.ob0_language_types.specs.Environments.{Environment, meanings, newest_object}
use Rattle.ob0_language_types.specs.Expressions.{Meanings, Object, a_constant, a_procedure, a_standard_procedure, a_type, a_variable}
use Rattle.ob0_language_types.specs.Laws.{EachUseSatisfies}
use Rattle.ob0_language_types.specs.Typing.{value_of_constant_object, constant_expression_value, meanings_in_constant_expressions, denoted_type, type_of_type_object}
use Rattle.ob0_language_types.specs.ValueLiterals.{value_literal}
use Rattle.ob0_language_types.proofs.DenotedInlined.{ConstantWritten, NamesConstant, constant_expression_value-written, denoted_type-written}
use Rattle.ob0_language_types.proofs.Literals.{IsSeen, literal-typed, literal-has_value}
use Rattle.ob0_language_types.proofs.Marks.{Mark, Marks, Sound, Stays, edited-holds, found, found-right, known-found, knowns, no-found, object_as, object_of, ordinal-found, read, read-from, read-holds, read_edited, read_edited-from, scope_marked, has_value-found, yes-found}
use Rattle.ob0_language_types.proofs.TypeNaturality.{constant_expression_value-map, denoted_type-map}
use Rattle.std.proofs.lemmas.Bool.{cases_Bool, false_from_ne_true}

-- returns true if the literal's name is bound to the predeclared TRUE or FALSE, or if the literal has no name
abbrev pub shown : Value → Scope Name → Bool
shown (truth true) scope = same_ordinal (ordinal_in_scope naming_by_spelling scope (codes "TRUE")) 2
shown (truth false) scope = same_ordinal (ordinal_in_scope naming_by_spelling scope (codes "FALSE")) 3
shown (number n) scope = true
shown (elements vs) scope = true
shown (members k ms) scope = true

-- holds if a use is bound to the constant, and the literal's name is visible there
abbrev pub Writes : Edit → Value → ℕ → Scope Name → Name → Type 0
Writes edit w j scope x = (edit.uses j ≡ true → ordinal_in_scope naming_by_spelling scope x ≡ Some edit.constant) × (edit.uses j ≡ true → shown w scope ≡ true)

abbrev pub AllStay : Edit → Scope Name → List Name → Type 0
AllStay edit scope [] = Unit {0}
AllStay edit scope (x ∷ xs) = Stays edit scope x × AllStay edit scope xs

-- holds if `Writes` holds for each occurrence at a place, and no name of the edited tree is bound to a removed
-- declaration
abbrev pub Here : Edit → Value → Placed
Here edit w s j scope t = Each (Writes edit w) j scope (occurrences t) × AllStay edit scope (occurrences (leaf edit j t))

pub record Literal (edit : Edit) (w : Value) : Type 0 where
  pub written : value_literal w ≡ Some edit.literal
  pub scalar : Is32BitScalar w
  pub ordinal : 7 ≤ edit.constant

pub same_ordinal-true : (o : Option ℕ) (n : ℕ) → same_ordinal o n ≡ true → o ≡ Some n
same_ordinal-true None n e = absurd (true≢false (sym e))
same_ordinal-true (Some k) n e = ap Some (eqb-true k n e)

pub none-used : (edit : Edit) (w : Value) (j : ℕ) (scope : Scope Name) (xs : List Name) → shown w scope ≡ false → Each (Writes edit w) j scope xs → UsesNone edit.uses j xs
none-used edit w j scope [] e here = tt
none-used edit w j scope (x ∷ xs) e here = (false_from_ne_true (edit.uses j) (λ u. true≢false (sym (here.0.1 u) ∙ e)), none-used edit w (suc j) scope xs e here.1)

-- returns the meanings of names in the edited environment

abbrev pub edited_meanings : {V P Q : Type 0} → Edit → (ℕ → P → Q) → Marks V P → Meanings Name V Q
edited_meanings edit q marks = meanings naming_by_spelling (read_edited edit q marks)

abbrev pub read_meanings : {V P Q : Type 0} → (ℕ → P → Q) → Marks V P → Meanings Name V Q
read_meanings q marks = meanings naming_by_spelling (read q marks)

pub edited-object_for : {V P Q : Type 0} (edit : Edit) (q : ℕ → P → Q) (marks : Marks V P) (x : Name) → Stays edit (scope_marked marks) x → (edited_meanings edit q marks).object_for x ≡ option_map (object_of q) (found marks x)
edited-object_for edit q marks x stays = ap newest_object (read_edited-from edit q marks x stays) ∙ edited-holds edit q marks x stays

pub read-object_for : {V P Q : Type 0} (q : ℕ → P → Q) (marks : Marks V P) (x : Name) → (read_meanings q marks).object_for x ≡ option_map (object_of q) (found marks x)
read-object_for q marks x = ap newest_object (read-from q marks x) ∙ read-holds q marks x

pub uses-read : {V P Q : Type 0} (edit : Edit) (w : Value) (X : Marks V P → Name → ℕ → P → Type 0) (p : ℕ → P → Q) (n : ℕ) (marks : Marks V P) → Sound edit w X n marks → (j : ℕ) (xs : List Name)
    → Each (Writes edit w) j (scope_marked marks) xs → EachUseSatisfies edit.uses (NamesConstant (read_meanings p marks) w) j xs
uses-read edit w X p n marks s j [] reported = tt
uses-read edit w X p n marks s j (x ∷ xs) reported = (
  λ u. read-object_for p marks x ∙ has_value-found edit w p (found marks x) (found-right edit w X n marks x s) (sym (ordinal-found marks x) ∙ reported.0.0 u),
  uses-read edit w X p n marks s (suc j) xs reported.1,
)

pub seen-read : {V P Q : Type 0} (edit : Edit) (w : Value) (X : Marks V P → Name → ℕ → P → Type 0) (p : ℕ → P → Q) (n : ℕ) (marks : Marks V P) → Sound edit w X n marks
    → shown w (scope_marked marks) ≡ true → IsSeen (read_meanings p marks) w
seen-read edit (truth true) X p n marks s h =
    read-object_for p marks (codes "TRUE")
    ∙ yes-found edit (truth true) p (found marks (codes "TRUE")) (found-right edit (truth true) X n marks (codes "TRUE") s) (sym (ordinal-found marks (codes "TRUE")) ∙ same_ordinal-true (ordinal_in_scope naming_by_spelling (scope_marked marks) (codes "TRUE")) 2 h)
seen-read edit (truth false) X p n marks s h =
    read-object_for p marks (codes "FALSE")
    ∙ no-found edit (truth false) p (found marks (codes "FALSE")) (found-right edit (truth false) X n marks (codes "FALSE") s) (sym (ordinal-found marks (codes "FALSE")) ∙ same_ordinal-true (ordinal_in_scope naming_by_spelling (scope_marked marks) (codes "FALSE")) 3 h)
seen-read edit (number m) X p n marks s h = tt
seen-read edit (elements vs) X p n marks s h = tt
seen-read edit (members k ms) X p n marks s h = tt

pub seen-constants : {V P : Type 0} (W R : Type 0) (meaning : Meanings Name V P) (w : Value) → IsSeen meaning w → IsSeen {V = W} {P = R} (meanings_in_constant_expressions meaning) w
seen-constants W R meaning (truth true) e = ap (λ o. option_map a_constant (value_of_constant_object o)) e
seen-constants W R meaning (truth false) e = ap (λ o. option_map a_constant (value_of_constant_object o)) e
seen-constants W R meaning (number n) e = tt
seen-constants W R meaning (elements vs) e = tt
seen-constants W R meaning (members k ms) e = tt

pub literal-constant : {V P : Type 0} (edit : Edit) (w : Value) → Literal edit w → (meaning : Meanings Name V P) → IsSeen meaning w → ConstantWritten meaning edit.literal w
literal-constant edit w lit meaning seen = record {
  typed = literal-typed {P = Unit {0}} (meanings_in_constant_expressions meaning) edit.literal w lit.written lit.scalar (seen-constants Shape (Unit {0}) meaning w seen);
  has_value = literal-has_value {P = Unit {0}} (meanings_in_constant_expressions meaning) [] edit.literal w lit.written lit.scalar (seen-constants Place (Unit {0}) meaning w seen);
}

-- a name's meaning and spelling, which replace the name in a tree

pub record Tag (V P : Type 0) : Type 0 where
  pub object : Option (Object V P)
  pub text : Name

abbrev pub tagged : {V P : Type 0} → Meanings (Tag V P) V P
tagged = record { object_for = λ t. t.object; written = λ t. t.text }

abbrev pub as_field : {V P : Type 0} → Name → Tag V P
as_field x = record { object = None; text = x }

abbrev pub plain_object : {V P : Type 0} → Object V P → Object (Unit {0}) (Unit {0})
plain_object (a_type s) = a_type s
plain_object (a_constant v) = a_constant v
plain_object (a_variable p) = a_variable tt
plain_object (a_procedure p) = a_procedure tt
plain_object (a_standard_procedure p) = a_standard_procedure p

abbrev pub plain_tag : {V P : Type 0} → Environment Name V P → Name → Tag (Unit {0}) (Unit {0})
plain_tag env x = record { object = option_map plain_object ((meanings naming_by_spelling env).object_for x); text = [] }

pub value_of_constant_object-plain : {V P : Type 0} (o : Option (Object V P)) → value_of_constant_object (option_map plain_object o) ≡ value_of_constant_object o
value_of_constant_object-plain None = refl
value_of_constant_object-plain (Some (a_type s)) = refl
value_of_constant_object-plain (Some (a_constant v)) = refl
value_of_constant_object-plain (Some (a_variable p)) = refl
value_of_constant_object-plain (Some (a_procedure p)) = refl
value_of_constant_object-plain (Some (a_standard_procedure p)) = refl

pub type_of_type_object-plain : {V P : Type 0} (o : Option (Object V P)) → type_of_type_object (option_map plain_object o) ≡ type_of_type_object o
type_of_type_object-plain None = refl
type_of_type_object-plain (Some (a_type s)) = refl
type_of_type_object-plain (Some (a_constant v)) = refl
type_of_type_object-plain (Some (a_variable p)) = refl
type_of_type_object-plain (Some (a_procedure p)) = refl
type_of_type_object-plain (Some (a_standard_procedure p)) = refl

constant_expression_value-tagged : {V P : Type 0} (env : Environment Name V P) (e : Tree Name expression) → constant_expression_value tagged (map_names (plain_tag env) as_field e) ≡ constant_expression_value (meanings naming_by_spelling env) e
constant_expression_value-tagged env e =
    constant_expression_value-map (plain_tag env) as_field tagged (meanings naming_by_spelling env) e (λ x. value_of_constant_object-plain ((meanings naming_by_spelling env).object_for x)) (λ x. refl)

denoted_type-tagged : {V P : Type 0} (env : Environment Name V P) (k : ℕ) (t : Tree Name written_type) → denoted_type tagged k (map_names (plain_tag env) as_field t) ≡ denoted_type (meanings naming_by_spelling env) k t
denoted_type-tagged env k t =
    denoted_type-map (plain_tag env) as_field tagged (meanings naming_by_spelling env) (λ x. value_of_constant_object-plain ((meanings naming_by_spelling env).object_for x)) (λ x. type_of_type_object-plain ((meanings naming_by_spelling env).object_for x)) (λ x. refl) k t

pub constant_expression_value-alike : {V P W Q : Type 0} (there : Environment Name V P) (here : Environment Name W Q) (e : Tree Name expression) → SameAt (plain_tag there) (plain_tag here) (occurrences e) → constant_expression_value (meanings naming_by_spelling there) e ≡ constant_expression_value (meanings naming_by_spelling here) e
constant_expression_value-alike there here e same =
    sym (constant_expression_value-tagged there e) ∙ (ap (constant_expression_value tagged) (map_names-same (plain_tag there) (plain_tag here) as_field e same) ∙ constant_expression_value-tagged here e)

pub denoted_type-alike : {V P W Q : Type 0} (there : Environment Name V P) (here : Environment Name W Q) (k : ℕ) (t : Tree Name written_type) → SameAt (plain_tag there) (plain_tag here) (occurrences t) → denoted_type (meanings naming_by_spelling there) k t ≡ denoted_type (meanings naming_by_spelling here) k t
denoted_type-alike there here k t same =
    sym (denoted_type-tagged there k t) ∙ (ap (denoted_type tagged k) (map_names-same (plain_tag there) (plain_tag here) as_field t same) ∙ denoted_type-tagged here k t)

plain-same : {V P Q : Type 0} (p q : ℕ → P → Q) (o : Option (Mark V P)) → option_map plain_object (option_map (object_of p) o) ≡ option_map plain_object (option_map (object_of q) o)
plain-same p q None = refl
plain-same {V} {P} {Q} p q (Some b) = of_object b.object
  where
    of_object : (o : Object V P) → Some (plain_object (object_as (p b.ordinal) o)) ≡ Some (plain_object (object_as (q b.ordinal) o))
    of_object (a_type s) = refl
    of_object (a_constant v) = refl
    of_object (a_variable s) = refl
    of_object (a_procedure s) = refl
    of_object (a_standard_procedure s) = refl

pub edited-same : {V P Q : Type 0} (edit : Edit) (p q : ℕ → P → Q) (marks : Marks V P) (xs : List Name) → AllStay edit (scope_marked marks) xs → SameAt (plain_tag (read_edited edit q marks)) (plain_tag (read p marks)) xs
edited-same edit p q marks [] stay = tt
edited-same edit p q marks (x ∷ xs) stay = (
  λ i. record { object = (ap (option_map plain_object) (edited-object_for edit q marks x stay.0) ∙ (plain-same q p (found marks x) ∙ sym (ap (option_map plain_object) (read-object_for p marks x)))) i; text = [] },
  edited-same edit p q marks xs stay.1,
)

-- A constant expression has the same value, and a type's text denotes the same type, after the edit.

pub constant-leaf : {V P Q : Type 0} (edit : Edit) (w : Value) → Literal edit w → (X : Marks V P → Name → ℕ → P → Type 0) (p q : ℕ → P → Q) (n : ℕ) (marks : Marks V P) → Sound edit w X n marks → (j : ℕ) (e : Tree Name expression)
    → Here edit w expression j (scope_marked marks) e → constant_expression_value (edited_meanings edit q marks) (leaf edit j e) ≡ constant_expression_value (read_meanings p marks) e
constant-leaf edit w lit X p q n marks s j e here =
    constant_expression_value-alike (read_edited edit q marks) (read p marks) (leaf edit j e) (edited-same edit p q marks (occurrences (leaf edit j e)) here.1)
    ∙ ⊎_elim
    (λ yes_shown. constant_expression_value-written (read_meanings p marks) edit.uses edit.literal w (literal-constant edit w lit (read_meanings p marks) (seen-read edit w X p n marks s yes_shown)) j e
    (uses-read edit w X p n marks s j (occurrences e) here.0))
    (λ not_shown. ap (constant_expression_value (read_meanings p marks)) (inline-nothing edit.uses edit.literal j e (none-used edit w j (scope_marked marks) (occurrences e) not_shown here.0)))
    (cases_Bool (shown w (scope_marked marks)))

pub denoted_type-leaf : {V P Q : Type 0} (edit : Edit) (w : Value) → Literal edit w → (X : Marks V P → Name → ℕ → P → Type 0) (p q : ℕ → P → Q) (n : ℕ) (marks : Marks V P) → Sound edit w X n marks → (j k : ℕ) (t : Tree Name written_type)
    → Here edit w written_type j (scope_marked marks) t → denoted_type (edited_meanings edit q marks) k (leaf edit j t) ≡ denoted_type (read_meanings p marks) k t
denoted_type-leaf edit w lit X p q n marks s j k t here =
    denoted_type-alike (read_edited edit q marks) (read p marks) k (leaf edit j t) (edited-same edit p q marks (occurrences (leaf edit j t)) here.1)
    ∙ ⊎_elim
    (λ yes_shown. denoted_type-written (read_meanings p marks) edit.uses edit.literal w (literal-constant edit w lit (read_meanings p marks) (seen-read edit w X p n marks s yes_shown)) j k t
    (uses-read edit w X p n marks s j (occurrences t) here.0))
    (λ not_shown. ap (denoted_type (read_meanings p marks) k) (inline-nothing edit.uses edit.literal j t (none-used edit w j (scope_marked marks) (occurrences t) not_shown here.0)))
    (cases_Bool (shown w (scope_marked marks)))

-- A constant expression has the same value if only the constants are known.
pub known-value : {V P Q : Type 0} (p : ℕ → P → Q) (marks : Marks V P) (e : Tree Name expression) → constant_expression_value (meanings naming_by_spelling (knowns marks)) e ≡ constant_expression_value (read_meanings p marks) e
known-value {V} {P} {Q} p marks e =
    ap (constant_expression_value (meanings naming_by_spelling (knowns marks))) (sym (map_names-id e))
    ∙ constant_expression_value-map (λ x. x) (λ x. x) (meanings naming_by_spelling (knowns marks)) (read_meanings p marks) e
    (λ x. ap value_of_constant_object (known-found marks x) ∙ (same (found marks x) ∙ sym (ap value_of_constant_object (read-object_for p marks x)))) (λ x. refl)
  where
    of_object : (k : ℕ) (o : Object V P) → value_of_constant_object (Some (constant_or_placeholder o)) ≡ value_of_constant_object (Some (object_as (p k) o))
    of_object k (a_type s) = refl
    of_object k (a_constant v) = refl
    of_object k (a_variable s) = refl
    of_object k (a_procedure s) = refl
    of_object k (a_standard_procedure s) = refl

    same : (o : Option (Mark V P)) → value_of_constant_object (option_map (λ b. constant_or_placeholder b.object) o) ≡ value_of_constant_object (option_map (object_of p) o)
    same None = refl
    same (Some b) = of_object b.ordinal b.object
