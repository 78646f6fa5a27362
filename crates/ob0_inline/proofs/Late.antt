-- Proves that occurrences that are bound to a constant follow its declaration.
-- If the constant has a value, the walk shows `Taken`, together with the occurrences and their
-- bindings.
use Rattle.std.proofs.Common.{◌≡◌, ◌⊎◌, inl, inr, ℕ, suc, ◌+◌, ◌<◌, ◌≤◌, ◌==◌, ◌||◌, Bool, true, false, if◌then◌else◌, nat_lt, Option, Some, None, List, [], ◌∷◌, ◌++◌, length, refl, sym, ap, ◌∙◌, subst, arith, append_assoc, append-nil, length-append, eqb-true, eq-eqb, option_and_then, slice_get}
use Rattle.std.proofs.lemmas.Bool.{ltb-true, ltb-false}
use Rattle.ob0_scan.specs.declared.lexeme.ReservedWord.TheVariants as reserved
use Rattle.ob0_scan.specs.declared.lexeme.Symbol.TheVariants as symbol
use Rattle.ob0_scan.specs.declared.lexeme.TokenKind.{TokenKind}
use Rattle.ob0_scan.specs.declared.lexeme.TokenKind.TheVariants as kind
use Rattle.ob0_tree.specs.declared.tree.Role.{Role}
use Rattle.ob0_tree.specs.declared.tree.Role.TheVariants as role
use Rattle.ob0_tree.specs.Terminals.{Terminal, WordOrSymbol}
use Rattle.ob0_tree.specs.Terminals as lexeme
use Rattle.ob0_tree.specs.IdentifierIndexes.{names_without_roles}
use Rattle.ob0_tree.specs.Tree.{Sort, Tree, block, body, constant, constants, declares, declares_constant, declares_const_section, declares_procedure, end, formals, forms_block, identifiers, forms_module, item, items, mapped_tree, maybe, module_text, more, none, occurrences, one, procedure, spell, type_definitions, variables}
use Rattle.ob0_tree.proofs.Leaves.{leaves_spelled, lexeme_names, lexeme_names-append}
use Rattle.ob0_tree.proofs.Occurring.{looked_up_only, looked_up-occurrences}
use Rattle.ob0_edits_tokens.specs.WordReplacements.{is_in_list}
use Rattle.ob0_language_names.specs.Names.{Name, naming_by_spelling}
use Rattle.ob0_language_names.specs.BlockParts.{constant_names, formal_parameter_names, formal_parameter_sections, module_block, declared_type_names, procedure_name, section_constants, section_types, section_variables, variable_names}
use Rattle.ob0_language_names.specs.Scopes.{Scope, ordinal_after_names, ordinal_after_procedure, body_scope, declare_names, first_procedure_ordinal, first_type_ordinal, first_variable_ordinal, predeclared_scope, scope_before_procedures, relabel_block, relabel_constant_section, relabel_constants, relabel_formals, relabel_procedure, relabel_procedure_list, relabel_type_section, relabel_uses, relabel_variable_section, relabel_module, scope_before_types, scope_before_variables}
use Rattle.ob0_language_names.proofs.OccurrenceNames.{as_many-constant_section, as_many-formals, as_many-procedure, as_many-type_section, as_many-uses, as_many-variable_section}
use Rattle.ob0_language_names.proofs.Ordinals.{le-ordinal_after_names, le-ordinal_after_procedure}
use Rattle.ob0_language_types.specs.ConstantValues.{ConstantEnvironment, non_constant_placeholder, predeclared_constants, constant_value_in_section, constant_value_in_block, constant_value_in_procedure, constant_value_in_procedure_list, constant_value_in_module}
use Rattle.ob0_language_types.specs.Declarations.{declare_constants}
use Rattle.ob0_language_types.specs.Environments.{meanings}
use Rattle.ob0_language_types.specs.Expressions.{a_constant}
use Rattle.ob0_language_types.specs.Typing.{constant_expression_value}
use Rattle.ob0_language_types.specs.WellTyped.{bind_names}
use Rattle.ob0_language_values.specs.Values.{Value}
use Rattle.ob0_inline.proofs.Earlier.{AllLow, ScopeLow, constant_section_low, declared_low, forget, formals_low, low_append, procedure_low, raised, scope_raised, type_section_low, uses_low, variable_section_low}
use Rattle.ob0_inline.proofs.Spelled.{as_many}
use Rattle.ob0_scope_table.proofs.Declared.{after_count, after_names_in_procedure, names_in, names_in_procedure, names_in_procedures}
use Rattle.ob0_inline.proofs.TakenOut.{Taken, among_others, expression_no_end, first_procedure_count, first_type_count, formals_count, get_first, get_later, gone_block, gone_constants, gone_here, gone_module, gone_procedure, gone_procedures, gone_section, kept_procedure, kept_procedures, kept_section, procedure_count, put_before, put_following}

abbrev pub AllIn : List ℕ → List ℕ → Type 0
AllIn [] xs = Unit {0}
AllIn (i ∷ is) xs = (is_in_list i xs ≡ true) × AllIn is xs

in_first : (i : ℕ) (xs ys : List ℕ) → is_in_list i xs ≡ true → is_in_list i (xs ++ ys) ≡ true
in_first i [] ys e = absurd (cc)
in_first i (x ∷ xs) ys e = by_test (i == x) e (in_first i xs ys)
  where
    by_test : (b : Bool) → (b || is_in_list i xs) ≡ true → (is_in_list i xs ≡ true → is_in_list i (xs ++ ys) ≡ true) → (b || is_in_list i (xs ++ ys)) ≡ true
    by_test true e later = refl
    by_test false e later = later e

in_second : (i : ℕ) (xs ys : List ℕ) → is_in_list i ys ≡ true → is_in_list i (xs ++ ys) ≡ true
in_second i [] ys e = e
in_second i (x ∷ xs) ys e = ap (λ b. (i == x) || b) (in_second i xs ys e) ∙ either (i == x)
  where
    either : (b : Bool) → (b || true) ≡ true
    either true = refl
    either false = refl

all_first : (is xs ys : List ℕ) → AllIn is xs → AllIn is (xs ++ ys)
all_first [] xs ys h = tt
all_first (i ∷ is) xs ys h = (in_first i xs ys h.0, all_first is xs ys h.1)

all_second : (is xs ys : List ℕ) → AllIn is ys → AllIn is (xs ++ ys)
all_second [] xs ys h = tt
all_second (i ∷ is) xs ys h = (in_second i xs ys h.0, all_second is xs ys h.1)

all_joined : (is js xs : List ℕ) → AllIn is xs → AllIn js xs → AllIn (is ++ js) xs
all_joined [] js xs h g = g
all_joined (i ∷ is) js xs h g = (h.0, all_joined is js xs h.1 g)

looked_up_in : (xs : List (Role × ℕ)) → AllIn (looked_up_only xs) (names_without_roles xs)
looked_up_in [] = tt
looked_up_in ((role.LookedUpName, i) ∷ xs) = (ap (λ b. b || is_in_list i (names_without_roles xs)) (eq-eqb i i refl), all_second (looked_up_only xs) (i ∷ []) (names_without_roles xs) (looked_up_in xs))
looked_up_in ((_, i) ∷ xs) = all_second (looked_up_only xs) (i ∷ []) (names_without_roles xs) (looked_up_in xs)

occurrences_in : {s : Sort} (t : Tree ℕ s) → AllIn (occurrences t) (lexeme_names (spell t))
occurrences_in t =
    subst (λ l. AllIn l (lexeme_names (spell t))) (looked_up-occurrences role.DeclaringName (λ n xs. refl) t)
    (subst (AllIn (looked_up_only (identifiers role.DeclaringName t))) (leaves_spelled role.DeclaringName t) (looked_up_in (identifiers role.DeclaringName t)))

-- States that a declaration was removed. The occurrences up to its end are bound to earlier
-- declarations, and the other occurrences follow it.
pub record Late (d k : ℕ) (labels : List ℕ) (whole left : List (Terminal ℕ)) (occ : List ℕ) (bound : List (Option ℕ)) : Type 0 where
  pub taken : Taken d k labels whole left
  pub front : List ℕ
  pub following : List ℕ
  pub front_bound : List (Option ℕ)
  pub following_bound : List (Option ℕ)
  pub occ_is : occ ≡ front ++ following
  pub bound_is : bound ≡ front_bound ++ following_bound
  pub count : length front_bound ≡ length front
  pub low : AllLow d front_bound
  pub among : AllIn following (lexeme_names taken.after)

-- `Late` holds of equal tokens.
pub late_move : (d k : ℕ) (labels : List ℕ) (w w' l l' : List (Terminal ℕ)) (occ : List ℕ) (bound : List (Option ℕ)) → w' ≡ w → l' ≡ l → Late d k labels w l occ bound → Late d k labels w' l' occ bound
late_move d k labels w w' l l' occ bound e f h =
    let t = h.taken in
    record {
      taken = record { place = t.place; ordinal_is = t.ordinal_is; before = t.before; border = t.border; opens = t.opens; name = t.name; named_there = t.named_there; right = t.right; no_end = t.no_end; after = t.after; whole_is = e ∙ t.whole_is; left_is = f ∙ t.left_is };
      front = h.front;
      following = h.following;
      front_bound = h.front_bound;
      following_bound = h.following_bound;
      occ_is = h.occ_is;
      bound_is = h.bound_is;
      count = h.count;
      low = h.low;
      among = h.among;
    }

-- `Late` holds among more declarations, if the declaration is the same.
late_among : (d j k : ℕ) (labels others : List ℕ) (w l : List (Terminal ℕ)) (occ : List ℕ) (bound : List (Option ℕ)) (h : Late d k labels w l occ bound) (place : ℕ) → d ≡ j + place → slice_get others place ≡ slice_get labels h.taken.place
    → Late d j others w l occ bound
late_among d j k labels others w l occ bound h place e g = record {
  taken = among_others d j k labels others w l h.taken place e g;
  front = h.front;
  following = h.following;
  front_bound = h.front_bound;
  following_bound = h.following_bound;
  occ_is = h.occ_is;
  bound_is = h.bound_is;
  count = h.count;
  low = h.low;
  among = h.among;
}

-- `Late` holds after other tokens and occurrences that are bound to earlier declarations.
late_before : (d k : ℕ) (labels : List ℕ) (zs w l : List (Terminal ℕ)) (zo occ : List ℕ) (zb bound : List (Option ℕ)) → length zb ≡ length zo → AllLow d zb → Late d k labels w l occ bound
    → Late d k labels (zs ++ w) (zs ++ l) (zo ++ occ) (zb ++ bound)
late_before d k labels zs w l zo occ zb bound n g h = record {
  taken = put_before d k labels zs w l h.taken;
  front = zo ++ h.front;
  following = h.following;
  front_bound = zb ++ h.front_bound;
  following_bound = h.following_bound;
  occ_is = ap (λ z. zo ++ z) h.occ_is ∙ sym (append_assoc zo h.front h.following);
  bound_is = ap (λ z. zb ++ z) h.bound_is ∙ sym (append_assoc zb h.front_bound h.following_bound);
  count = length-append zb h.front_bound ∙ ((λ i. n i + h.count i) ∙ sym (length-append zo h.front));
  low = low_append d zb h.front_bound g h.low;
  among = h.among;
}

-- `Late` holds before other tokens and their occurrences.
late_following : (d k : ℕ) (labels : List ℕ) (w l zs : List (Terminal ℕ)) (occ zo : List ℕ) (bound zb : List (Option ℕ)) → AllIn zo (lexeme_names zs) → Late d k labels w l occ bound
    → Late d k labels (w ++ zs) (l ++ zs) (occ ++ zo) (bound ++ zb)
late_following d k labels w l zs occ zo bound zb g h = record {
  taken = put_following d k labels w l zs h.taken;
  front = h.front;
  following = h.following ++ zo;
  front_bound = h.front_bound;
  following_bound = h.following_bound ++ zb;
  occ_is = ap (λ z. z ++ zo) h.occ_is ∙ append_assoc h.front h.following zo;
  bound_is = ap (λ z. z ++ zb) h.bound_is ∙ append_assoc h.front_bound h.following_bound zb;
  count = h.count;
  low = h.low;
  among = subst (AllIn (h.following ++ zo)) (sym (lexeme_names-append h.taken.after zs))
      (all_joined h.following zo (lexeme_names h.taken.after ++ lexeme_names zs) (all_first h.following (lexeme_names h.taken.after) (lexeme_names zs) h.among) (all_second zo (lexeme_names h.taken.after) (lexeme_names zs) g));
}

late_suffix : {s : Sort} (d k : ℕ) (labels : List ℕ) (w l : List (Terminal ℕ)) (z : Tree ℕ s) (occ : List ℕ) (bound zb : List (Option ℕ)) → Late d k labels w l occ bound
    → Late d k labels (w ++ spell z) (l ++ spell z) (occ ++ occurrences z) (bound ++ zb)
late_suffix d k labels w l z occ bound zb h = late_following d k labels w l (spell z) occ (occurrences z) bound zb (occurrences_in z) h

module _ (f : ℕ → Name) (g : ℕ → ℕ) (d : ℕ) (w : Value) where
  late_constants : (known : ConstantEnvironment) (scope : Scope Name) (k : ℕ) (cs : Tree ℕ (items constant)) (front : List (Terminal ℕ)) (border : TokenKind)
      → (border ≡ kind.ReservedWord reserved.Const) ⊎ (border ≡ kind.Symbol symbol.Semicolon) → ScopeLow k scope → constant_value_in_section known d k (mapped_tree f g cs) ≡ Some w
      → Late d k (constant_names cs) (front ++ (WordOrSymbol border ∷ spell cs)) (front ++ (WordOrSymbol border ∷ spell (gone_constants d k cs))) (occurrences cs) (occurrences (relabel_constants naming_by_spelling forget scope k (mapped_tree f g cs)))
  unfolding constant_value_in_section
  late_constants known scope k end front border opens below e = absurd (cc)
  late_constants known scope k (more (declares_constant x a) cs) front border opens below e =
      by_value (constant_expression_value (meanings naming_by_spelling known) (mapped_tree f g a)) e
      (λ v h. late_constants ((f x, a_constant v) ∷ known) ((f x, k) ∷ scope) (suc k) cs (front ++ (WordOrSymbol border ∷ lexeme.Name x ∷ WordOrSymbol (kind.Symbol symbol.Equal) ∷ spell a)) (kind.Symbol symbol.Semicolon) (inr refl)
      (omega arith, scope_raised k (suc k) scope (omega arith) below) h)
    where
      here : (k == d) ≡ true
          → Late d k (x ∷ constant_names cs) (front ++ (WordOrSymbol border ∷ spell (more (declares_constant x a) cs))) (front ++ (WordOrSymbol border ∷ spell (gone_constants d k (more (declares_constant x a) cs))))
          (occurrences a ++ occurrences cs) (occurrences (relabel_uses naming_by_spelling forget scope (mapped_tree f g a)) ++ occurrences (relabel_constants naming_by_spelling forget ((f x, k) ∷ scope) (suc k) (mapped_tree f g cs)))
      here q =
          let same : k ≡ d = eqb-true k d q in
          record {
            taken = record {
              place = 0;
              ordinal_is = omega (arith, same);
              before = front;
              border = border;
              opens = opens;
              name = x;
              named_there = refl;
              right = spell a;
              no_end = expression_no_end a;
              after = spell cs;
              whole_is = sym (append_assoc front (WordOrSymbol border ∷ []) (spell (more (declares_constant x a) cs)));
              left_is = ap (λ t. front ++ (WordOrSymbol border ∷ spell t)) (gone_here d k (declares_constant x a) cs true q) ∙ sym (append_assoc front (WordOrSymbol border ∷ []) (spell cs));
            };
            front = occurrences a;
            following = occurrences cs;
            front_bound = occurrences (relabel_uses naming_by_spelling forget scope (mapped_tree f g a));
            following_bound = occurrences (relabel_constants naming_by_spelling forget ((f x, k) ∷ scope) (suc k) (mapped_tree f g cs));
            occ_is = refl;
            bound_is = refl;
            count = as_many-uses naming_by_spelling forget scope (mapped_tree f g a) ∙ as_many f g a;
            low = raised k d (occurrences (relabel_uses naming_by_spelling forget scope (mapped_tree f g a))) (omega (arith, same)) (uses_low k scope (mapped_tree f g a) below);
            among = occurrences_in cs;
          }

      there : (k == d) ≡ false
          → Late d (suc k) (constant_names cs) ((front ++ (WordOrSymbol border ∷ lexeme.Name x ∷ WordOrSymbol (kind.Symbol symbol.Equal) ∷ spell a)) ++ (WordOrSymbol (kind.Symbol symbol.Semicolon) ∷ spell cs))
          ((front ++ (WordOrSymbol border ∷ lexeme.Name x ∷ WordOrSymbol (kind.Symbol symbol.Equal) ∷ spell a)) ++ (WordOrSymbol (kind.Symbol symbol.Semicolon) ∷ spell (gone_constants d (suc k) cs)))
          (occurrences cs) (occurrences (relabel_constants naming_by_spelling forget ((f x, k) ∷ scope) (suc k) (mapped_tree f g cs)))
          → Late d k (x ∷ constant_names cs) (front ++ (WordOrSymbol border ∷ spell (more (declares_constant x a) cs))) (front ++ (WordOrSymbol border ∷ spell (gone_constants d k (more (declares_constant x a) cs))))
          (occurrences a ++ occurrences cs) (occurrences (relabel_uses naming_by_spelling forget scope (mapped_tree f g a)) ++ occurrences (relabel_constants naming_by_spelling forget ((f x, k) ∷ scope) (suc k) (mapped_tree f g cs)))
      there q r =
          let moved = λ (l : List (Terminal ℕ)). append_assoc front (WordOrSymbol border ∷ lexeme.Name x ∷ WordOrSymbol (kind.Symbol symbol.Equal) ∷ spell a) (WordOrSymbol (kind.Symbol symbol.Semicolon) ∷ l)
          ∙ ap (λ z. front ++ (WordOrSymbol border ∷ lexeme.Name x ∷ WordOrSymbol (kind.Symbol symbol.Equal) ∷ z)) (sym (append_assoc (spell a) (WordOrSymbol (kind.Symbol symbol.Semicolon) ∷ []) l)) in
          let done : List (Terminal ℕ) = front ++ (WordOrSymbol border ∷ lexeme.Name x ∷ WordOrSymbol (kind.Symbol symbol.Equal) ∷ spell a) in
          let w1 : List (Terminal ℕ) = done ++ (WordOrSymbol (kind.Symbol symbol.Semicolon) ∷ spell cs) in
          let l1 : List (Terminal ℕ) = done ++ (WordOrSymbol (kind.Symbol symbol.Semicolon) ∷ spell (gone_constants d (suc k) cs)) in
          let w2 = front ++ (WordOrSymbol border ∷ spell (more (declares_constant x a) cs)) in
          let l2 = front ++ (WordOrSymbol border ∷ spell (gone_constants d k (more (declares_constant x a) cs))) in
          let lb = occurrences (relabel_uses naming_by_spelling forget scope (mapped_tree f g a)) in
          let rest_bound = occurrences (relabel_constants naming_by_spelling forget ((f x, k) ∷ scope) (suc k) (mapped_tree f g cs)) in
          let e = r.taken.ordinal_is in
          late_before d k (x ∷ constant_names cs) [] w2 l2 (occurrences a) (occurrences cs) lb rest_bound (as_many-uses naming_by_spelling forget scope (mapped_tree f g a) ∙ as_many f g a)
          (raised k d lb (omega (arith, e)) (uses_low k scope (mapped_tree f g a) below))
          (late_move d k (x ∷ constant_names cs) w1 w2 l1 l2 (occurrences cs) rest_bound (sym (moved (spell cs)))
          (ap (λ z. front ++ (WordOrSymbol border ∷ spell z)) (gone_here d k (declares_constant x a) cs false q) ∙ sym (moved (spell (gone_constants d (suc k) cs))))
          (late_among d k (suc k) (constant_names cs) (x ∷ constant_names cs) w1 l1 (occurrences cs) rest_bound r (suc r.taken.place) (omega (arith, e)) refl))

      by_test : (v : Value) (b : Bool) → (k == d) ≡ b → (if b then Some v else constant_value_in_section ((f x, a_constant v) ∷ known) d (suc k) (mapped_tree f g cs)) ≡ Some w
          → (constant_value_in_section ((f x, a_constant v) ∷ known) d (suc k) (mapped_tree f g cs) ≡ Some w
          → Late d (suc k) (constant_names cs) ((front ++ (WordOrSymbol border ∷ lexeme.Name x ∷ WordOrSymbol (kind.Symbol symbol.Equal) ∷ spell a)) ++ (WordOrSymbol (kind.Symbol symbol.Semicolon) ∷ spell cs))
          ((front ++ (WordOrSymbol border ∷ lexeme.Name x ∷ WordOrSymbol (kind.Symbol symbol.Equal) ∷ spell a)) ++ (WordOrSymbol (kind.Symbol symbol.Semicolon) ∷ spell (gone_constants d (suc k) cs)))
          (occurrences cs) (occurrences (relabel_constants naming_by_spelling forget ((f x, k) ∷ scope) (suc k) (mapped_tree f g cs))))
          → Late d k (x ∷ constant_names cs) (front ++ (WordOrSymbol border ∷ spell (more (declares_constant x a) cs))) (front ++ (WordOrSymbol border ∷ spell (gone_constants d k (more (declares_constant x a) cs))))
          (occurrences a ++ occurrences cs) (occurrences (relabel_uses naming_by_spelling forget scope (mapped_tree f g a)) ++ occurrences (relabel_constants naming_by_spelling forget ((f x, k) ∷ scope) (suc k) (mapped_tree f g cs)))
      by_test v true q e later = here q
      by_test v false q e later = there q (later e)

      by_value : (o : Option Value) → option_and_then (λ v. if k == d then Some v else constant_value_in_section ((f x, a_constant v) ∷ known) d (suc k) (mapped_tree f g cs)) o ≡ Some w
          → ((v : Value) → constant_value_in_section ((f x, a_constant v) ∷ known) d (suc k) (mapped_tree f g cs) ≡ Some w
          → Late d (suc k) (constant_names cs) ((front ++ (WordOrSymbol border ∷ lexeme.Name x ∷ WordOrSymbol (kind.Symbol symbol.Equal) ∷ spell a)) ++ (WordOrSymbol (kind.Symbol symbol.Semicolon) ∷ spell cs))
          ((front ++ (WordOrSymbol border ∷ lexeme.Name x ∷ WordOrSymbol (kind.Symbol symbol.Equal) ∷ spell a)) ++ (WordOrSymbol (kind.Symbol symbol.Semicolon) ∷ spell (gone_constants d (suc k) cs)))
          (occurrences cs) (occurrences (relabel_constants naming_by_spelling forget ((f x, k) ∷ scope) (suc k) (mapped_tree f g cs))))
          → Late d k (x ∷ constant_names cs) (front ++ (WordOrSymbol border ∷ spell (more (declares_constant x a) cs))) (front ++ (WordOrSymbol border ∷ spell (gone_constants d k (more (declares_constant x a) cs))))
          (occurrences a ++ occurrences cs) (occurrences (relabel_uses naming_by_spelling forget scope (mapped_tree f g a)) ++ occurrences (relabel_constants naming_by_spelling forget ((f x, k) ∷ scope) (suc k) (mapped_tree f g cs)))
      by_value None e later = absurd (cc)
      by_value (Some v) e later = by_test v (k == d) refl e (later v)

  late_section : (known : ConstantEnvironment) (scope : Scope Name) (k : ℕ) (cs : Tree ℕ (maybe constants)) → ScopeLow k scope → constant_value_in_section known d k (section_constants (mapped_tree f g cs)) ≡ Some w
      → Late d k (constant_names (section_constants cs)) (spell cs) (spell (gone_section d k cs)) (occurrences cs) (occurrences (relabel_constant_section naming_by_spelling forget scope k (mapped_tree f g cs)))
  unfolding constant_value_in_section
  late_section known scope k none below e = absurd (cc)
  late_section known scope k (one (declares_const_section cs)) below e = late_constants known scope k cs [] (kind.ReservedWord reserved.Const) (inl refl) below e

  joined_in : (is js : List ℕ) (xs ys : List (Terminal ℕ)) → AllIn is (lexeme_names xs) → AllIn js (lexeme_names ys) → AllIn (is ++ js) (lexeme_names (xs ++ ys))
  joined_in is js xs ys h q =
      subst (AllIn (is ++ js)) (sym (lexeme_names-append xs ys)) (all_joined is js (lexeme_names xs ++ lexeme_names ys) (all_first is (lexeme_names xs) (lexeme_names ys) h) (all_second js (lexeme_names xs) (lexeme_names ys) q))

  -- `Late` holds of a block if it holds of one of its parts. k is the ordinal of its first
  -- declaration.
  late_by_section : (cs : Tree ℕ (maybe constants)) (ts : Tree ℕ (maybe type_definitions)) (vs : Tree ℕ (maybe variables)) (ps : Tree ℕ (items procedure)) (statements : Tree ℕ (maybe body)) (k : ℕ) (lc rest_bound ls : List (Option ℕ))
      → d < first_type_ordinal k (forms_block (declares cs ts vs ps) statements) → Late d k (constant_names (section_constants cs)) (spell cs) (spell (gone_section d k cs)) (occurrences cs) lc
      → Late d k (names_in (forms_block (declares cs ts vs ps) statements)) (spell (forms_block (declares cs ts vs ps) statements)) (spell (gone_block d k (forms_block (declares cs ts vs ps) statements)))
      (occurrences (forms_block (declares cs ts vs ps) statements)) ((lc ++ rest_bound) ++ ls)
  late_by_section cs ts vs ps statements k lc rest_bound ls h t =
      let b : Tree ℕ block = forms_block (declares cs ts vs ps) statements in
      let labels = names_in b in
      let up2 = le-ordinal_after_names (ordinal_after_names k (constant_names (section_constants cs))) (declared_type_names (section_types ts)) in
      let up3 = le-ordinal_after_names (ordinal_after_names (ordinal_after_names k (constant_names (section_constants cs))) (declared_type_names (section_types ts))) (variable_names (section_variables vs)) in
      let kept = kept_procedures d (first_procedure_ordinal k b) ps (λ j l u. omega (arith, h, up2, up3, l)) in
      let there = late_among d k k (constant_names (section_constants cs)) labels (spell cs) (spell (gone_section d k cs)) (occurrences cs) lc t t.taken.place t.taken.ordinal_is
      (get_first (constant_names (section_constants cs)) (declared_type_names (section_types ts) ++ (variable_names (section_variables vs) ++ names_in_procedures ps)) t.taken.place t.taken.name t.taken.named_there) in
      let rest : List (Terminal ℕ) = spell ts ++ (spell vs ++ spell ps) in
      let l1 : List (Terminal ℕ) = (spell (gone_section d k cs) ++ rest) ++ spell statements in
      late_move d k labels (spell b) (spell b) l1 (spell (gone_block d k b)) (occurrences b) ((lc ++ rest_bound) ++ ls) refl
      (ap (λ (qs : Tree ℕ (items procedure)). (spell (gone_section d k cs) ++ (spell ts ++ (spell vs ++ spell qs))) ++ spell statements) kept)
      (late_suffix d k labels (spell cs ++ rest) (spell (gone_section d k cs) ++ rest) statements (occurrences cs ++ (occurrences ts ++ (occurrences vs ++ occurrences ps))) (lc ++ rest_bound) ls
      (late_following d k labels (spell cs) (spell (gone_section d k cs)) rest (occurrences cs) (occurrences ts ++ (occurrences vs ++ occurrences ps)) lc rest_bound
      (joined_in (occurrences ts) (occurrences vs ++ occurrences ps) (spell ts) (spell vs ++ spell ps) (occurrences_in ts) (joined_in (occurrences vs) (occurrences ps) (spell vs) (spell ps) (occurrences_in vs) (occurrences_in ps))) there))

  late_by_procedures : (cs : Tree ℕ (maybe constants)) (ts : Tree ℕ (maybe type_definitions)) (vs : Tree ℕ (maybe variables)) (ps : Tree ℕ (items procedure)) (statements : Tree ℕ (maybe body)) (k : ℕ) (lc lt lv lp ls : List (Option ℕ))
      → first_type_ordinal k (forms_block (declares cs ts vs ps) statements) ≤ d
      → length lc ≡ length (occurrences cs) → length lt ≡ length (occurrences ts) → length lv ≡ length (occurrences vs) → AllLow d lc → AllLow d lt → AllLow d lv
      → Late d (first_procedure_ordinal k (forms_block (declares cs ts vs ps) statements)) (names_in_procedures ps) (spell ps) (spell (gone_procedures d (first_procedure_ordinal k (forms_block (declares cs ts vs ps) statements)) ps)) (occurrences ps) lp
      → Late d k (names_in (forms_block (declares cs ts vs ps) statements)) (spell (forms_block (declares cs ts vs ps) statements)) (spell (gone_block d k (forms_block (declares cs ts vs ps) statements)))
      (occurrences (forms_block (declares cs ts vs ps) statements)) ((lc ++ (lt ++ (lv ++ lp))) ++ ls)
  late_by_procedures cs ts vs ps statements k lc lt lv lp ls h nc nt nv hc ht hv t =
      let b : Tree ℕ block = forms_block (declares cs ts vs ps) statements in
      let labels = names_in b in
      let left = spell (gone_procedures d (first_procedure_ordinal k b) ps) in
      let xs = constant_names (section_constants cs) in
      let ys = declared_type_names (section_types ts) in
      let zs = variable_names (section_variables vs) in
      let e1 = after_count k xs in
      let e2 = after_count (ordinal_after_names k xs) ys in
      let e3 = after_count (ordinal_after_names (ordinal_after_names k xs) ys) zs in
      let there = late_among d k (first_procedure_ordinal k b) (names_in_procedures ps) labels (spell ps) left (occurrences ps) lp t (length xs + (length ys + (length zs + t.taken.place))) (omega (arith, t.taken.ordinal_is, e1, e2, e3))
      (get_later xs (ys ++ (zs ++ names_in_procedures ps)) (length ys + (length zs + t.taken.place)) ∙ (get_later ys (zs ++ names_in_procedures ps) (length zs + t.taken.place) ∙ get_later zs (names_in_procedures ps) t.taken.place)) in
      let l1 : List (Terminal ℕ) = (spell cs ++ (spell ts ++ (spell vs ++ left))) ++ spell statements in
      late_move d k labels (spell b) (spell b) l1 (spell (gone_block d k b)) (occurrences b) ((lc ++ (lt ++ (lv ++ lp))) ++ ls) refl
      (ap (λ (qs : Tree ℕ (maybe constants)). (spell qs ++ (spell ts ++ (spell vs ++ left))) ++ spell statements) (kept_section d k cs (λ j l u. omega (arith, h, u))))
      (late_suffix d k labels (spell cs ++ (spell ts ++ (spell vs ++ spell ps))) (spell cs ++ (spell ts ++ (spell vs ++ left))) statements (occurrences cs ++ (occurrences ts ++ (occurrences vs ++ occurrences ps))) (lc ++ (lt ++ (lv ++ lp))) ls
      (late_before d k labels (spell cs) (spell ts ++ (spell vs ++ spell ps)) (spell ts ++ (spell vs ++ left)) (occurrences cs) (occurrences ts ++ (occurrences vs ++ occurrences ps)) lc (lt ++ (lv ++ lp)) nc hc
      (late_before d k labels (spell ts) (spell vs ++ spell ps) (spell vs ++ left) (occurrences ts) (occurrences vs ++ occurrences ps) lt (lv ++ lp) nt ht
      (late_before d k labels (spell vs) (spell ps) left (occurrences vs) (occurrences ps) lv lp nv hv there))))

  late_by_procedure : (q : Tree ℕ (item procedure)) (rest : Tree ℕ (items procedure)) (k : ℕ) (lq lr : List (Option ℕ)) → d < ordinal_after_procedure (suc k) q
      → Late d k (names_in_procedure q) (spell q) (spell (gone_procedure d (suc k) q)) (occurrences q) lq
      → Late d k (names_in_procedures (more q rest)) (spell (more q rest)) (spell (gone_procedures d k (more q rest))) (occurrences (more q rest)) (lq ++ lr)
  late_by_procedure q rest k lq lr h t =
      let labels = names_in_procedures (more q rest) in
      let there = late_among d k k (names_in_procedure q) labels (spell q) (spell (gone_procedure d (suc k) q)) (occurrences q) lq t t.taken.place t.taken.ordinal_is
      (get_first (names_in_procedure q) (names_in_procedures rest) t.taken.place t.taken.name t.taken.named_there) in
      late_move d k labels (spell (more q rest)) (spell (more q rest)) (spell (gone_procedure d (suc k) q) ++ spell rest) (spell (gone_procedures d k (more q rest))) (occurrences (more q rest)) (lq ++ lr) refl
      (ap (λ (qs : Tree ℕ (items procedure)). spell (gone_procedure d (suc k) q) ++ spell qs) (kept_procedures d (ordinal_after_procedure (suc k) q) rest (λ j l u. omega (arith, h, l))))
      (late_suffix d k labels (spell q) (spell (gone_procedure d (suc k) q)) rest (occurrences q) lq lr there)

  late_by_rest : (q : Tree ℕ (item procedure)) (rest : Tree ℕ (items procedure)) (k : ℕ) (lq lr : List (Option ℕ)) → ordinal_after_procedure (suc k) q ≤ d → length lq ≡ length (occurrences q) → AllLow d lq
      → Late d (ordinal_after_procedure (suc k) q) (names_in_procedures rest) (spell rest) (spell (gone_procedures d (ordinal_after_procedure (suc k) q) rest)) (occurrences rest) lr
      → Late d k (names_in_procedures (more q rest)) (spell (more q rest)) (spell (gone_procedures d k (more q rest))) (occurrences (more q rest)) (lq ++ lr)
  late_by_rest q rest k lq lr h n hq t =
      let labels = names_in_procedures (more q rest) in
      let front = names_in_procedure q in
      let count = after_names_in_procedure k q ∙ after_count k front in
      let left = spell (gone_procedures d (ordinal_after_procedure (suc k) q) rest) in
      let there = late_among d k (ordinal_after_procedure (suc k) q) (names_in_procedures rest) labels (spell rest) left (occurrences rest) lr t (length front + t.taken.place) (omega (arith, t.taken.ordinal_is, count))
      (get_later front (names_in_procedures rest) t.taken.place) in
      late_move d k labels (spell (more q rest)) (spell (more q rest)) (spell q ++ left) (spell (gone_procedures d k (more q rest))) (occurrences (more q rest)) (lq ++ lr) refl
      (ap (λ (p : Tree ℕ (item procedure)). spell p ++ left) (kept_procedure d (suc k) q (λ j l u. omega (arith, h, u))))
      (late_before d k labels (spell q) (spell rest) left (occurrences q) (occurrences rest) lq lr n hq there)

  late_in_procedure : (x closing : ℕ) (fs : Tree ℕ (maybe formals)) (b : Tree ℕ block) (k : ℕ) (lf lb : List (Option ℕ)) → length lf ≡ length (occurrences fs) → AllLow d lf
      → Late d (ordinal_after_names (suc k) (formal_parameter_names (formal_parameter_sections fs))) (names_in b) (spell b) (spell (gone_block d (ordinal_after_names (suc k) (formal_parameter_names (formal_parameter_sections fs))) b)) (occurrences b) lb
      → Late d k (names_in_procedure (declares_procedure x fs b closing)) (spell (declares_procedure x fs b closing)) (spell (gone_procedure d (suc k) (declares_procedure x fs b closing))) (occurrences (declares_procedure x fs b closing)) (lf ++ lb)
  late_in_procedure x closing fs b k lf lb n hf t =
      let xs = formal_parameter_names (formal_parameter_sections fs) in
      let labels = x ∷ (xs ++ names_in b) in
      let left = spell (gone_block d (ordinal_after_names (suc k) xs) b) in
      let tail : List (Terminal ℕ) = WordOrSymbol (kind.ReservedWord reserved.End) ∷ lexeme.Name closing ∷ (WordOrSymbol (kind.Symbol symbol.Semicolon) ∷ []) in
      let count = after_count (suc k) xs in
      let there = late_among d k (ordinal_after_names (suc k) xs) (names_in b) labels (spell b) left (occurrences b) lb t (suc (length xs + t.taken.place)) (omega (arith, t.taken.ordinal_is, count)) (get_later xs (names_in b) t.taken.place) in
      let ended : Late d k labels (spell b ++ tail) (left ++ tail) (occurrences b ++ []) (lb ++ []) = late_following d k labels (spell b) left tail (occurrences b) [] lb [] tt there in
      let ended_so : Late d k labels (spell b ++ tail) (left ++ tail) (occurrences b) lb = subst (λ (o : List ℕ). Late d k labels (spell b ++ tail) (left ++ tail) o lb) (append-nil (occurrences b))
      (subst (λ (l : List (Option ℕ)). Late d k labels (spell b ++ tail) (left ++ tail) (occurrences b ++ []) l) (append-nil lb) ended) in
      late_before d k labels (WordOrSymbol (kind.ReservedWord reserved.Procedure) ∷ lexeme.Name x ∷ []) (spell fs ++ (WordOrSymbol (kind.Symbol symbol.Semicolon) ∷ (spell b ++ tail))) (spell fs ++ (WordOrSymbol (kind.Symbol symbol.Semicolon) ∷ (left ++ tail))) [] (occurrences fs ++ occurrences b) [] (lf ++ lb) refl tt
      (late_before d k labels (spell fs) (WordOrSymbol (kind.Symbol symbol.Semicolon) ∷ (spell b ++ tail)) (WordOrSymbol (kind.Symbol symbol.Semicolon) ∷ (left ++ tail)) (occurrences fs) (occurrences b) lf lb n hf
      (late_before d k labels (WordOrSymbol (kind.Symbol symbol.Semicolon) ∷ []) (spell b ++ tail) (left ++ tail) [] (occurrences b) [] lb refl tt ended_so))

  mutual
    unfolding constant_value_in_block

    late_block : (known : ConstantEnvironment) (scope : Scope Name) (k n : ℕ) → n ≡ k → ScopeLow n scope → (b : Tree ℕ block) → constant_value_in_block known d n (mapped_tree f g b) ≡ Some w
        → Late d k (names_in b) (spell b) (spell (gone_block d k b)) (occurrences b) (occurrences (relabel_block naming_by_spelling forget scope n (mapped_tree f g b)))
    late_block known scope k n same below (forms_block (declares cs ts vs ps) statements) e =
        let b : Tree ℕ block = forms_block (declares cs ts vs ps) statements in
        let b' = mapped_tree f g b in
        let lc = occurrences (relabel_constant_section naming_by_spelling forget scope n (mapped_tree f g cs)) in
        let lt = occurrences (relabel_type_section naming_by_spelling forget (scope_before_types n b' scope) (first_type_ordinal n b') (mapped_tree f g ts)) in
        let lv = occurrences (relabel_variable_section naming_by_spelling forget (scope_before_variables n b' scope) (first_variable_ordinal n b') (mapped_tree f g vs)) in
        let lp = occurrences (relabel_procedure_list naming_by_spelling forget (scope_before_procedures n b' scope) (first_procedure_ordinal n b') (mapped_tree f g ps)) in
        let ls = occurrences (relabel_uses naming_by_spelling forget (body_scope n b' scope) (mapped_tree f g statements)) in
        let xs = constant_names (section_constants (mapped_tree f g cs)) in
        let ys = declared_type_names (section_types (mapped_tree f g ts)) in
        let zs = variable_names (section_variables (mapped_tree f g vs)) in
        let h1 = declared_low n xs scope below in
        let h2 = declared_low (ordinal_after_names n xs) ys (scope_before_types n b' scope) h1 in
        let h3 = declared_low (ordinal_after_names (ordinal_after_names n xs) ys) zs (scope_before_variables n b' scope) h2 in
        let up2 = le-ordinal_after_names (ordinal_after_names n xs) ys in
        let up3 = le-ordinal_after_names (ordinal_after_names (ordinal_after_names n xs) ys) zs in
        elim (nat_lt d (first_type_ordinal n b')) as (λ x. nat_lt d (first_type_ordinal n b') ≡ x
        → (if x then constant_value_in_section known d n (section_constants (mapped_tree f g cs))
        else if nat_lt d (first_procedure_ordinal n b') then None
        else option_and_then (λ inner. constant_value_in_procedure_list (bind_names (declared_type_names (section_types (mapped_tree f g ts)) ++ variable_names (section_variables (mapped_tree f g vs))) non_constant_placeholder inner) d (first_procedure_ordinal n b') (mapped_tree f g ps))
        (declare_constants naming_by_spelling known (section_constants (mapped_tree f g cs)))) ≡ Some w
        → Late d k (names_in b) (spell b) (spell (gone_block d k b)) (occurrences b) ((lc ++ (lt ++ (lv ++ lp))) ++ ls)) [
          | true ↦ λ q h.
              late_by_section cs ts vs ps statements k lc (lt ++ (lv ++ lp)) ls (subst (λ m. d < m) (first_type_count f g n b ∙ ap (λ m. first_type_ordinal m b) same) (ltb-true d (first_type_ordinal n b') q))
              (subst (λ m. Late d m (constant_names (section_constants cs)) (spell cs) (spell (gone_section d m cs)) (occurrences cs) lc) same (late_section known scope n cs below h))
          | false ↦ λ q h.
              let high = ltb-false d (first_type_ordinal n b') q in
              elim (nat_lt d (first_procedure_ordinal n b')) as (λ y. nat_lt d (first_procedure_ordinal n b') ≡ y → (if y then None
              else option_and_then (λ inner. constant_value_in_procedure_list (bind_names (declared_type_names (section_types (mapped_tree f g ts)) ++ variable_names (section_variables (mapped_tree f g vs))) non_constant_placeholder inner) d (first_procedure_ordinal n b') (mapped_tree f g ps))
              (declare_constants naming_by_spelling known (section_constants (mapped_tree f g cs)))) ≡ Some w
              → Late d k (names_in b) (spell b) (spell (gone_block d k b)) (occurrences b) ((lc ++ (lt ++ (lv ++ lp))) ++ ls)) [
                | true ↦ λ r g0. absurd (cc)
                | false ↦ λ r.
                    let all = ltb-false d (first_procedure_ordinal n b') r in
                    elim (declare_constants naming_by_spelling known (section_constants (mapped_tree f g cs))) as (λ o. option_and_then (λ inner. constant_value_in_procedure_list (bind_names (declared_type_names (section_types (mapped_tree f g ts)) ++ variable_names (section_variables (mapped_tree f g vs))) non_constant_placeholder inner) d (first_procedure_ordinal n b') (mapped_tree f g ps)) o ≡ Some w
                    → Late d k (names_in b) (spell b) (spell (gone_block d k b)) (occurrences b) ((lc ++ (lt ++ (lv ++ lp))) ++ ls)) [
                      | None ↦ λ g0. absurd (cc)
                      | Some inner ↦ λ g0.
                          late_by_procedures cs ts vs ps statements k lc lt lv lp ls (subst (λ m. m ≤ d) (first_type_count f g n b ∙ ap (λ m. first_type_ordinal m b) same) high)
                          (as_many-constant_section naming_by_spelling forget scope n (mapped_tree f g cs) ∙ as_many f g cs)
                          (as_many-type_section naming_by_spelling forget (scope_before_types n b' scope) (first_type_ordinal n b') (mapped_tree f g ts) ∙ as_many f g ts)
                          (as_many-variable_section naming_by_spelling forget (scope_before_variables n b' scope) (first_variable_ordinal n b') (mapped_tree f g vs) ∙ as_many f g vs)
                          (raised (ordinal_after_names n xs) d lc high (constant_section_low scope n (mapped_tree f g cs) below))
                          (raised (ordinal_after_names (ordinal_after_names n xs) ys) d lt (omega (arith, all, up3)) (type_section_low (scope_before_types n b' scope) (first_type_ordinal n b') (mapped_tree f g ts) h1))
                          (raised (first_procedure_ordinal n b') d lv all (variable_section_low (scope_before_variables n b' scope) (first_variable_ordinal n b') (mapped_tree f g vs) h2))
                          (late_procedures (bind_names (declared_type_names (section_types (mapped_tree f g ts)) ++ variable_names (section_variables (mapped_tree f g vs))) non_constant_placeholder inner) (scope_before_procedures n b' scope)
                          (first_procedure_ordinal k b) (first_procedure_ordinal n b') (first_procedure_count f g n b ∙ ap (λ m. first_procedure_ordinal m b) same) h3 ps g0)
                    ]
              ] refl h
        ] refl e

    late_procedures : (known : ConstantEnvironment) (scope : Scope Name) (k n : ℕ) → n ≡ k → ScopeLow n scope → (ps : Tree ℕ (items procedure)) → constant_value_in_procedure_list known d n (mapped_tree f g ps) ≡ Some w
        → Late d k (names_in_procedures ps) (spell ps) (spell (gone_procedures d k ps)) (occurrences ps) (occurrences (relabel_procedure_list naming_by_spelling forget scope n (mapped_tree f g ps)))
    late_procedures known scope k n same below end e = absurd (cc)
    late_procedures known scope k n same below (more q rest) e =
        let q' = mapped_tree f g q in
        let lq = occurrences (relabel_procedure naming_by_spelling forget scope n q') in
        let lr = occurrences (relabel_procedure_list naming_by_spelling forget ((procedure_name q', n) ∷ scope) (ordinal_after_procedure (suc n) q') (mapped_tree f g rest)) in
        let up = le-ordinal_after_procedure (suc n) q' in
        let counted = procedure_count f g (suc n) q ∙ ap (λ m. ordinal_after_procedure (suc m) q) same in
        elim (nat_lt d (ordinal_after_procedure (suc n) q')) as (λ x. nat_lt d (ordinal_after_procedure (suc n) q') ≡ x
        → (if x then constant_value_in_procedure ((procedure_name q', non_constant_placeholder) ∷ known) d (suc n) q'
        else constant_value_in_procedure_list ((procedure_name q', non_constant_placeholder) ∷ known) d (ordinal_after_procedure (suc n) q') (mapped_tree f g rest)) ≡ Some w
        → Late d k (names_in_procedures (more q rest)) (spell (more q rest)) (spell (gone_procedures d k (more q rest))) (occurrences (more q rest)) (lq ++ lr)) [
          | true ↦ λ t h.
              late_by_procedure q rest k lq lr (subst (λ m. d < m) counted (ltb-true d (ordinal_after_procedure (suc n) q') t))
              (late_procedure ((procedure_name q', non_constant_placeholder) ∷ known) scope k n same below q h)
          | false ↦ λ t h.
              let high = ltb-false d (ordinal_after_procedure (suc n) q') t in
              late_by_rest q rest k lq lr (subst (λ m. m ≤ d) counted high) (as_many-procedure naming_by_spelling forget scope n q' ∙ as_many f g q)
              (raised (ordinal_after_procedure (suc n) q') d lq high (procedure_low scope n q' below))
              (late_procedures ((procedure_name q', non_constant_placeholder) ∷ known) ((procedure_name q', n) ∷ scope) (ordinal_after_procedure (suc k) q) (ordinal_after_procedure (suc n) q') counted
              (omega (arith, up), scope_raised n (ordinal_after_procedure (suc n) q') scope (omega (arith, up)) below) rest h)
        ] refl e

    late_procedure : (known : ConstantEnvironment) (scope : Scope Name) (k n : ℕ) → n ≡ k → ScopeLow n scope → (q : Tree ℕ (item procedure)) → constant_value_in_procedure known d (suc n) (mapped_tree f g q) ≡ Some w
        → Late d k (names_in_procedure q) (spell q) (spell (gone_procedure d (suc k) q)) (occurrences q) (occurrences (relabel_procedure naming_by_spelling forget scope n (mapped_tree f g q)))
    late_procedure known scope k n same below (declares_procedure x fs b closing) e =
        let xs = formal_parameter_names (formal_parameter_sections (mapped_tree f g fs)) in
        let first = ordinal_after_names (suc n) xs in
        let lf = occurrences (relabel_formals naming_by_spelling forget scope (suc n) (mapped_tree f g fs)) in
        let h1 = scope_raised n (suc n) scope (omega arith) below in
        let h2 = declared_low (suc n) xs ((f x, n) ∷ scope) (omega arith, h1) in
        elim (nat_lt d first) as (λ y. nat_lt d first ≡ y → (if y then None
        else constant_value_in_block (bind_names xs non_constant_placeholder known) d first (mapped_tree f g b)) ≡ Some w
        → Late d k (names_in_procedure (declares_procedure x fs b closing)) (spell (declares_procedure x fs b closing)) (spell (gone_procedure d (suc k) (declares_procedure x fs b closing))) (occurrences (declares_procedure x fs b closing))
        (lf ++ occurrences (relabel_block naming_by_spelling forget (declare_names (suc n) xs ((f x, n) ∷ scope)) first (mapped_tree f g b)))) [
          | true ↦ λ r h. absurd (cc)
          | false ↦ λ r h.
              let high = ltb-false d first r in
              late_in_procedure x closing fs b k lf (occurrences (relabel_block naming_by_spelling forget (declare_names (suc n) xs ((f x, n) ∷ scope)) first (mapped_tree f g b)))
              (as_many-formals naming_by_spelling forget scope (suc n) (mapped_tree f g fs) ∙ as_many f g fs)
              (raised first d lf high (formals_low scope (suc n) (mapped_tree f g fs) h1))
              (late_block (bind_names xs non_constant_placeholder known) (declare_names (suc n) xs ((f x, n) ∷ scope)) (ordinal_after_names (suc k) (formal_parameter_names (formal_parameter_sections fs))) first
              (formals_count f g (suc n) fs ∙ ap (λ m. ordinal_after_names (suc m) (formal_parameter_names (formal_parameter_sections fs))) same) h2 b h)
        ] refl e

  pub late_module : (m : Tree ℕ module_text) → constant_value_in_module (mapped_tree f g m) d ≡ Some w
      → Late d 7 (names_in (module_block m)) (spell m) (spell (gone_module d m)) (occurrences m) (occurrences (relabel_module naming_by_spelling forget (mapped_tree f g m)))
  unfolding constant_value_in_module
  late_module (forms_module x b closing) e =
      let labels = names_in b in
      let left = spell (gone_block d 7 b) in
      let tail : List (Terminal ℕ) = WordOrSymbol (kind.ReservedWord reserved.End) ∷ lexeme.Name closing ∷ (WordOrSymbol (kind.Symbol symbol.Dot) ∷ []) in
      let lb = occurrences (relabel_block naming_by_spelling forget (predeclared_scope naming_by_spelling) 7 (mapped_tree f g b)) in
      let seven : ScopeLow 7 (predeclared_scope naming_by_spelling) = (omega arith, (omega arith, (omega arith, (omega arith, (omega arith, (omega arith, (omega arith, tt))))))) in
      elim (nat_lt d 7) as (λ y. (if y then None else constant_value_in_block predeclared_constants d 7 (mapped_tree f g b)) ≡ Some w
      → Late d 7 labels (spell (forms_module x b closing)) (spell (gone_module d (forms_module x b closing))) (occurrences b) lb) [
        | true ↦ λ h. absurd (cc)
        | false ↦ λ h.
            let there = late_block predeclared_constants (predeclared_scope naming_by_spelling) 7 7 refl seven b h in
            let ended : Late d 7 labels (spell b ++ tail) (left ++ tail) (occurrences b ++ []) (lb ++ []) = late_following d 7 labels (spell b) left tail (occurrences b) [] lb [] tt there in
            late_before d 7 labels (WordOrSymbol (kind.ReservedWord reserved.Module) ∷ lexeme.Name x ∷ WordOrSymbol (kind.Symbol symbol.Semicolon) ∷ []) (spell b ++ tail) (left ++ tail) [] (occurrences b) [] lb refl tt
            (subst (λ (o : List ℕ). Late d 7 labels (spell b ++ tail) (left ++ tail) o lb) (append-nil (occurrences b))
            (subst (λ (l : List (Option ℕ)). Late d 7 labels (spell b ++ tail) (left ++ tail) (occurrences b ++ []) l) (append-nil lb) ended))
      ] e
