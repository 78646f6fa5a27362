-- Proves that a table that is right outside one body is right everywhere once the names of the body
-- are looked up again, in the scope made from this table. A table that is right at a module has the
-- marks of each body. So at the body's identifiers the new table has the same ordinals as a right
-- one, and at all others the same as before.
use Rattle.std.proofs.Common.{◌≡◌, ◌==◌, ◌||◌, ◌≤◌, ℕ, Bool, true, false, Option, None, List, [], ◌∷◌, ◌++◌, map, length, drop, replicate, get_or, refl, sym, ap, ◌∙◌, subst, eq-eqb, eqb-true, le_refl}
use Rattle.std.proofs.lemmas.Bool.{or_parts}
use Rattle.std.proofs.lemmas.List.{length-replicate}
use Rattle.std.proofs.lemmas.List.Folds.{list_any-append}
use Rattle.std.specs.List.{list_any}
use Rattle.ob0_scan.specs.TextWithTokens.{IsScan, TextWithTokens}
use Rattle.ob0_tree.specs.declared.tree.Role.{Role}
use Rattle.ob0_tree.specs.declared.tree.Role.TheVariants as role
use Rattle.ob0_tree.specs.IdentifierIndexes.{AreAscendingWithin, identifier_names, names_without_roles}
use Rattle.ob0_tree.specs.ParsedModule.{ParsedModule, TreeMatchesText, named_tree_of, tree_of}
use Rattle.ob0_tree.specs.TokenIndexLeaves.{token_text_at, token_value_at, tree_with_names}
use Rattle.ob0_tree.specs.Tree.{Sort, Tree, body, identifiers, mapped_tree, maybe, module_text, occurrences}
use Rattle.ob0_tree.proofs.AscendingNumbers.{ascend_first, ascend_second, leaves_append}
use Rattle.ob0_tree.proofs.Leaves.{leaves_ascend}
use Rattle.ob0_tree.proofs.MappedIdentifiers.{leaves_mapped}
use Rattle.ob0_tree.proofs.Occurring.{looked_up-occurrences}
use Rattle.ob0_language_names.specs.Names.{Name, naming_by_spelling}
use Rattle.ob0_language_names.specs.Scopes.{Scope, predeclared_scope, relabel_module, relabel_uses}
use Rattle.ob0_scope_table.specs.BodyReplacement.{PathToBody, body_at_path, closing_name_at_path, module_without_body}
use Rattle.ob0_scope_table.specs.Resolution.{IsBindingTable, ordinal_and_spelling, ordinal_and_spelling_at_token, ordinal_in}
use Rattle.ob0_scope_table.proofs.BodyReplacement.{without_mapped}
use Rattle.ob0_scope_numbering.specs.BodyScope.{declare_names_with_ordinals, scope_from_table, state_before_body}
use Rattle.ob0_scope_numbering.specs.IdentifierSpellings.{original_spellings}
use Rattle.ob0_scope_numbering.specs.IdentifierWalk.{visit_module, visit_nondeclaring_tree}
use Rattle.ob0_scope_numbering.specs.MarkWalk as listing
use Rattle.ob0_scope_numbering.specs.OrdinalMarks.{OrdinalMark, table_with_marks}
use Rattle.ob0_scope_numbering.specs.TableWalk as tabling
use Rattle.ob0_scope_numbering.proofs.Agreed.{AllFit, agreed}
use Rattle.ob0_scope_numbering.proofs.Kept.{entries_few, part_kept, with_entries}
use Rattle.ob0_scope_numbering.proofs.Passing.{HasMarks, at_start, found_every, module_passed, tokens_of}
use Rattle.ob0_scope_numbering.proofs.Tabled.{used-entered}
use Rattle.ob0_scope_numbering.proofs.Tables.{kept_elsewhere, marks_are_there, marks_in_table}
use Rattle.ob0_scope.specs.NamesVisibleInBody.{names_visible_at_path}
use Rattle.ob0_scope.proofs.BodySplit.{split_module}
use Rattle.ob0_scope.proofs.NamesInBody.{body_bound, body_mapped, names_mapped, names_without_statements}
use Rattle.ob0_scope.proofs.TokensWith.{marks_same}
use Rattle.ob0_scope.proofs.WithoutRelabelled.{without_relabelled}

-- ---- a table that is right outside a body

-- returns a part with the ordinals of a table, and with the spellings
abbrev pub bound_by : {s : Sort} → TextWithTokens → List (Option ℕ) → Tree ℕ s → Tree (Option ℕ × Name) s
bound_by source table t = mapped_tree (ordinal_and_spelling_at_token source table) (token_value_at source) t

-- returns a module with the ordinals that the scope rules give its names, and with the spellings
abbrev pub bound : ParsedModule → Tree (Option ℕ × Name) module_text
bound m = relabel_module naming_by_spelling ordinal_and_spelling (named_tree_of m)

-- holds if a table has the right ordinals at the names of a module outside one body
abbrev pub IsBoundOutside : ParsedModule → PathToBody → List (Option ℕ) → Type 0
IsBoundOutside m path table = module_without_body path (bound m) ≡ bound_by m.source table (module_without_body path (tree_of m))

pub bound_outside : (m : ParsedModule) (path : PathToBody) (table : List (Option ℕ)) → IsBindingTable m table → IsBoundOutside m path table
bound_outside m path table is = ap (module_without_body path) is ∙ without_mapped (ordinal_and_spelling_at_token m.source table) (token_value_at m.source) path (tree_of m)

-- If two modules have the same names outside a body, these are bound alike.
pub alike_outside : (a b : ParsedModule) (path : PathToBody) → tree_with_names a.source (module_without_body path (tree_of a)) ≡ tree_with_names b.source (module_without_body path (tree_of b))
    → module_without_body path (bound a) ≡ module_without_body path (bound b)
alike_outside a b path same = relabelled a ∙ (ap (relabel_module naming_by_spelling ordinal_and_spelling) same ∙ sym (relabelled b))
  where
    relabelled : (m : ParsedModule) → module_without_body path (bound m) ≡ relabel_module naming_by_spelling ordinal_and_spelling (tree_with_names m.source (module_without_body path (tree_of m)))
    relabelled m = without_relabelled naming_by_spelling ordinal_and_spelling path (named_tree_of m) ∙ ap (relabel_module naming_by_spelling ordinal_and_spelling) (without_mapped (token_text_at m.source) (token_value_at m.source) path (tree_of m))

-- returns the scope of a body
abbrev pub scope_at : ParsedModule → PathToBody → Scope Name
scope_at m path = declare_names_with_ordinals (names_visible_at_path path (bound m)) (predeclared_scope naming_by_spelling)

-- Two modules that are bound alike outside a body have the same scope in it.
pub same_scope : (a b : ParsedModule) (path : PathToBody) → module_without_body path (bound a) ≡ module_without_body path (bound b) → scope_at a path ≡ scope_at b path
same_scope a b path same =
    ap (λ names. declare_names_with_ordinals names (predeclared_scope naming_by_spelling))
    (sym (names_without_statements path (bound a)) ∙ (ap (names_visible_at_path path) same ∙ names_without_statements path (bound b)))

-- A table that is right outside a body gives the scope of the body.
scope_made : (m : ParsedModule) (path : PathToBody) (table : List (Option ℕ)) → IsBoundOutside m path table → scope_at m path ≡ scope_from_table m.source table (names_visible_at_path path (tree_of m))
scope_made m path table outside =
    let pair = ordinal_and_spelling_at_token m.source table in
    ap (λ names. declare_names_with_ordinals names (predeclared_scope naming_by_spelling))
    (sym (names_without_statements path (bound m))
    ∙ (ap (names_visible_at_path path) outside
    ∙ (names_mapped pair (token_value_at m.source) path (module_without_body path (tree_of m))
    ∙ ap (map pair) (names_without_statements path (tree_of m)))))

-- ---- ordinals at a list of tokens

ordinals_first : (source : TextWithTokens) (table : List (Option ℕ)) (xs : List ℕ) → map (λ (p : Option ℕ × Name). p.0) (map (ordinal_and_spelling_at_token source table) xs) ≡ map (ordinal_in table) xs
ordinals_first source table [] = refl
ordinals_first source table (x ∷ xs) = ap (λ l. ordinal_in table x ∷ l) (ordinals_first source table xs)

-- If a part is bound alike by two tables, they have the same ordinals at its identifiers.
pub same_ordinals : (source : TextWithTokens) (f g : List (Option ℕ)) {s : Sort} (t : Tree ℕ s) → bound_by source f t ≡ bound_by source g t → map (ordinal_in f) (identifier_names t) ≡ map (ordinal_in g) (identifier_names t)
same_ordinals source f g t same = sym (listed f) ∙ (ap (λ u. map (λ (p : Option ℕ × Name). p.0) (identifier_names u)) same ∙ listed g)
  where
    listed : (table : List (Option ℕ)) → map (λ (p : Option ℕ × Name). p.0) (identifier_names (bound_by source table t)) ≡ map (ordinal_in table) (identifier_names t)
    listed table = ap (map (λ (p : Option ℕ × Name). p.0)) (leaves_mapped (ordinal_and_spelling_at_token source table) (token_value_at source) t) ∙ ordinals_first source table (identifier_names t)

-- Two tables that have the same marks have the same ordinals at their tokens.
marked_alike : (f g : ℕ → Option ℕ) (ms : List OrdinalMark) → HasMarks f ms → HasMarks g ms → map f (tokens_of ms) ≡ map g (tokens_of ms)
marked_alike f g [] h k = refl
marked_alike f g (m ∷ ms) h k = λ i. (h.0 ∙ sym k.0) i ∷ marked_alike f g ms h.1 k.1 i

-- Two functions that agree on a list agree at each of its numbers.
pub same_at : (f g : ℕ → Option ℕ) (xs : List ℕ) (i : ℕ) → map f xs ≡ map g xs → list_any (λ j. j == i) xs ≡ true → f i ≡ g i
same_at f g [] i e there = absurd (cc)
same_at f g (x ∷ xs) i e there = one (same_at f g xs i (ap (drop 1) e)) (x == i) refl there
  where
    one : (list_any (λ j. j == i) xs ≡ true → f i ≡ g i) → (b : Bool) → (x == i) ≡ b → (b || list_any (λ j. j == i) xs) ≡ true → f i ≡ g i
    one later true is at = let found : x ≡ i = eqb-true x i is in ap f (sym found) ∙ (ap (λ l. get_or l 0 None) e ∙ ap g found)
    one later false is at = later at

-- Two functions that agree at each number of a list agree on the list.
same_on : (f g : ℕ → Option ℕ) (xs : List ℕ) → ((i : ℕ) → list_any (λ j. j == i) xs ≡ true → f i ≡ g i) → map f xs ≡ map g xs
same_on f g [] each = refl
same_on f g (x ∷ xs) each =
    let here : list_any (λ j. j == x) (x ∷ xs) ≡ true = ap (λ b. b || list_any (λ j. j == x) xs) (eq-eqb x x refl) in
    λ i. each x here i ∷ same_on f g xs (λ j at. each j (later (x == j) (list_any (λ k. k == j) xs) at)) i
  where
    later : (b c : Bool) → c ≡ true → (b || c) ≡ true
    later true c e = refl
    later false c e = e

-- ---- the marks of a body

-- returns the state of the walk that collects marks before statements in a scope
abbrev pub before_body : TextWithTokens → Scope Name → listing.WalkState
before_body source scope = state_before_body source scope []

-- returns the marks of statements in a scope
abbrev pub marks_in : TextWithTokens → Scope Name → Tree ℕ (maybe body) → List OrdinalMark
marks_in source scope t = (visit_nondeclaring_tree t (before_body source scope)).marks

marks_tokens : (source : TextWithTokens) (scope : Scope Name) (t : Tree ℕ (maybe body)) → tokens_of (marks_in source scope t) ≡ identifier_names t
marks_tokens source scope t = (found_every (λ i. None) (original_spellings source) (identifiers role.DeclaringName t) (before_body source scope)).tokens

-- A table with the marks of statements fits them.
pub marks_fit : (table : ℕ → Option ℕ) (source : TextWithTokens) (scope : Scope Name) (t : Tree ℕ (maybe body)) → HasMarks table (marks_in source scope t) → AllFit table (original_spellings source) scope (identifiers role.DeclaringName t)
marks_fit table source scope t has = ((found_every table (original_spellings source) (identifiers role.DeclaringName t) (before_body source scope)).agree refl has).1

-- states which identifiers of a module are before a body, in it and after it
record Parts (m : ParsedModule) (path : PathToBody) : Type 0 where
  before : List ℕ
  after : List ℕ
  whole : identifier_names (tree_of m) ≡ before ++ (identifier_names (body_at_path path (tree_of m)) ++ after)
  rest : identifier_names (module_without_body path (tree_of m)) ≡ before ++ after

parts : (m : ParsedModule) (path : PathToBody) → Parts m path
parts m path =
    let s = split_module path (tree_of m) in
    let own = identifiers role.DeclaringName (body_at_path path (tree_of m)) in
    let last : List (Role × ℕ) = (s.closes, closing_name_at_path path (tree_of m)) ∷ s.after in
    record {
      before = names_without_roles s.before;
      after = names_without_roles last;
      whole = ap names_without_roles s.whole_is ∙ (leaves_append s.before (own ++ last) ∙ ap (λ z. names_without_roles s.before ++ z) (leaves_append own last));
      rest = ap names_without_roles s.rest_is ∙ leaves_append s.before last;
    }

-- An identifier of a module that isn't in a body is in the module without the body.
pub in_rest : (m : ParsedModule) (path : PathToBody) (i : ℕ) → list_any (λ j. j == i) (identifier_names (tree_of m)) ≡ true → list_any (λ j. j == i) (identifier_names (body_at_path path (tree_of m))) ≡ false → list_any (λ j. j == i) (identifier_names (module_without_body path (tree_of m))) ≡ true
in_rest m path i there absent =
    let p = parts m path in
    let own = identifier_names (body_at_path path (tree_of m)) in
    let among : List ℕ → Bool = list_any (λ j. j == i) in
    ap among p.rest
    ∙ (list_any-append (λ j. j == i) p.before p.after
    ∙ (sym (ap (λ b. among p.before || (b || among p.after)) absent)
    ∙ (sym (list_any-append (λ j. j == i) p.before (own ++ p.after) ∙ ap (λ b. among p.before || b) (list_any-append (λ j. j == i) own p.after))
    ∙ (sym (ap among p.whole) ∙ there))))

-- An identifier of a body is an identifier of the module.
pub in_whole : (m : ParsedModule) (path : PathToBody) (i : ℕ) → list_any (λ j. j == i) (identifier_names (tree_of m)) ≡ false → list_any (λ j. j == i) (identifier_names (body_at_path path (tree_of m))) ≡ false
in_whole m path i e =
    let p = parts m path in
    let own = identifier_names (body_at_path path (tree_of m)) in
    let among : List ℕ → Bool = list_any (λ j. j == i) in
    let last = or_parts (among p.before) (among (own ++ p.after)) (sym (ap among p.whole ∙ list_any-append (λ j. j == i) p.before (own ++ p.after)) ∙ e) in
    (or_parts (among own) (among p.after) (sym (list_any-append (λ j. j == i) own p.after) ∙ last.1)).0

module _ (m : ParsedModule) (path : PathToBody) (parsed : TreeMatchesText m) where
  abbrev own_statements : Tree ℕ (maybe body)
  own_statements = body_at_path path (tree_of m)

  abbrev count : ℕ
  count = length m.source.tokens

  -- A table with entries for all tokens has the marks of a body after they are entered.
  marks_entered : (scope : Scope Name) (table : List (Option ℕ)) → count ≤ length table → HasMarks (ordinal_in (table_with_marks table (marks_in m.source scope own_statements))) (marks_in m.source scope own_statements)
  marks_entered scope table long =
      let p = parts m path in
      let rising = subst (λ l. AreAscendingWithin 0 l count) p.whole (leaves_ascend m parsed) in
      let own = ascend_first 0 (identifier_names own_statements) p.after count (ascend_second 0 p.before (identifier_names own_statements ++ p.after) count rising) in
      marks_are_there (marks_in m.source scope own_statements) table 0 count (subst (λ ts. AreAscendingWithin 0 ts count) (sym (marks_tokens m.source scope own_statements)) own) long

  -- A table that is right has the marks of each body in its scope.
  pub body_marked : (table : List (Option ℕ)) → IsBindingTable m table → HasMarks (ordinal_in table) (marks_in m.source (scope_at m path) own_statements)
  body_marked table is =
      let scope = scope_at m path in
      let w = original_spellings m.source in
      let own = marks_in m.source scope own_statements in
      let nothing : List (Option ℕ) = replicate count None in
      let made = table_with_marks nothing own in
      let long = length-replicate count (let none : Option ℕ = None in none) in
      let has = marks_entered scope nothing (subst (λ n. count ≤ n) (sym long) (le_refl count)) in
      let read = (agreed (ordinal_in made) ordinal_and_spelling w scope (token_value_at m.source) role.DeclaringName (λ i e. e) own_statements).reads (marks_fit (ordinal_in made) m.source scope own_statements has) in
      let same : bound_by m.source table own_statements ≡ bound_by m.source made own_statements =
      sym (body_mapped (ordinal_and_spelling_at_token m.source table) (token_value_at m.source) path (tree_of m))
      ∙ (ap (body_at_path path) (sym is)
      ∙ (body_bound ordinal_and_spelling path (named_tree_of m)
      ∙ (ap (relabel_uses naming_by_spelling ordinal_and_spelling scope) (body_mapped (token_text_at m.source) (token_value_at m.source) path (tree_of m)) ∙ read))) in
      marks_same (ordinal_in made) (ordinal_in table) own
      (subst (λ ts. map (ordinal_in made) ts ≡ map (ordinal_in table) ts) (sym (marks_tokens m.source scope own_statements)) (sym (same_ordinals m.source table made own_statements same))) has

  -- ---- the body's names are looked up again

  -- returns the state after the names of the body are looked up with a table
  abbrev pub rebound : List (Option ℕ) → tabling.WalkState
  rebound table = visit_nondeclaring_tree own_statements (state_before_body m.source (scope_from_table m.source table (names_visible_at_path path (tree_of m))) table)

  -- states that a table has all marks of the module, and that only the entries of the body's
  -- identifiers may have changed
  pub record IsRebound (table made : List (Option ℕ)) : Type 0 where
    pub marks : HasMarks (ordinal_in made) (visit_module (tree_of m) (listing.initial_walk_state (original_spellings m.source))).marks
    pub elsewhere : (i : ℕ) → list_any (λ j. j == i) (identifier_names own_statements) ≡ false → ordinal_in made i ≡ ordinal_in table i

  pub body_rebound : (table : List (Option ℕ)) → IsScan m.source → IsBoundOutside m path table → count ≤ length table → IsRebound table (rebound table).marks
  body_rebound table scan outside long =
      let w = original_spellings m.source in
      let v = visit_module (tree_of m) (listing.initial_walk_state w) in
      let full = table_with_marks (replicate count None) v.marks in
      let has : HasMarks (ordinal_in full) v.marks = marks_in_table m w v full parsed refl refl in
      let paired = module_passed (ordinal_in full) ordinal_and_spelling w (tree_of m) (listing.initial_walk_state w) (at_start w) in
      let is : IsBindingTable m full = (paired.agree has).1 in
      let scope = scope_from_table m.source table (names_visible_at_path path (tree_of m)) in
      let own = marks_in m.source scope own_statements in
      let tokens : tokens_of own ≡ identifier_names own_statements = marks_tokens m.source scope own_statements in
      let in_full : HasMarks (ordinal_in full) own = subst (λ s. HasMarks (ordinal_in full) (marks_in m.source s own_statements)) (scope_made m path table outside) (body_marked full is) in
      let p = parts m path in
      let split : identifier_names (tree_of m) ≡ p.before ++ (tokens_of own ++ p.after) = p.whole ∙ ap (λ z. p.before ++ (z ++ p.after)) (sym tokens) in
      let kept : with_entries table own ≡ table_with_marks table own = part_kept m (ordinal_in full) table p.before p.after own (entries_few m w (ordinal_in full) parsed scan has) split in_full in
      let made : (rebound table).marks ≡ table_with_marks table own =
      ap (λ (v : tabling.WalkState). v.marks) (used-entered table own_statements (before_body m.source scope)) ∙ kept in
      let now = table_with_marks table own in
      let absent : (i : ℕ) → list_any (λ j. j == i) (identifier_names own_statements) ≡ false → ordinal_in now i ≡ ordinal_in table i = λ i e. kept_elsewhere own table i (ap (list_any (λ j. j == i)) tokens ∙ e) in
      let others = same_ordinals m.source full table (module_without_body path (tree_of m)) (sym (bound_outside m path full is) ∙ outside) in
      let owns : map (ordinal_in full) (identifier_names own_statements) ≡ map (ordinal_in now) (identifier_names own_statements) =
      subst (λ ts. map (ordinal_in full) ts ≡ map (ordinal_in now) ts) tokens (marked_alike (ordinal_in full) (ordinal_in now) own in_full (marks_entered scope table long)) in
      let each : (i : ℕ) → list_any (λ j. j == i) (identifier_names (tree_of m)) ≡ true → ordinal_in full i ≡ ordinal_in now i =
      λ i there. at_one full now i (λ at. same_at (ordinal_in full) (ordinal_in now) (identifier_names own_statements) i owns at)
      (λ at. same_at (ordinal_in full) (ordinal_in table) (identifier_names (module_without_body path (tree_of m))) i others (in_rest m path i there at) ∙ sym (absent i at)) (list_any (λ j. j == i) (identifier_names own_statements)) refl in
      let all = subst (λ l. map (ordinal_in full) l ≡ map (ordinal_in now) l) (sym paired.tokens) (same_on (ordinal_in full) (ordinal_in now) (identifier_names (tree_of m)) each) in
      record {
        marks = subst (λ (t : List (Option ℕ)). HasMarks (ordinal_in t) v.marks) (sym made) (marks_same (ordinal_in full) (ordinal_in now) v.marks all has);
        elsewhere = λ i e. ap (λ (t : List (Option ℕ)). ordinal_in t i) made ∙ absent i e;
      }
    where
      at_one : (full now : List (Option ℕ)) (i : ℕ) → (list_any (λ j. j == i) (identifier_names own_statements) ≡ true → ordinal_in full i ≡ ordinal_in now i) → (list_any (λ j. j == i) (identifier_names own_statements) ≡ false → ordinal_in full i ≡ ordinal_in now i)
          → (b : Bool) → list_any (λ j. j == i) (identifier_names own_statements) ≡ b → ordinal_in full i ≡ ordinal_in now i
      at_one full now i own other true e = own e
      at_one full now i own other false e = other e

  -- The looked-up names of the walk are the occurrences in the body.
  pub rebound_uses : (table : List (Option ℕ)) → (rebound table).uses ≡ occurrences own_statements
  rebound_uses table =
      let scope = scope_from_table m.source table (names_visible_at_path path (tree_of m)) in
      let start = before_body m.source scope in
      ap (λ (v : tabling.WalkState). v.uses) (used-entered table own_statements start)
      ∙ ((found_every (λ i. None) (original_spellings m.source) (identifiers role.DeclaringName own_statements) start).used
      ∙ looked_up-occurrences role.DeclaringName (λ n xs. refl) own_statements)
