-- Proves that a text has fewer declarations than an entry has ordinals, so entries can hold the
-- ordinals of all marks.
use Rattle.std.proofs.Common.{◌≡◌, ℕ, suc, ◌+◌, ◌≤◌, Option, Some, None, List, [], ◌∷◌, ◌++◌, length, replicate, set, refl, sym, ap, ◌∙◌, subst, arith, append-nil}
use Rattle.std.proofs.Math.Nat.{min-eq_left}
use Rattle.ob0_scan.specs.TextWithTokens.{IsScan}
use Rattle.ob0_tree.specs.declared.tree.Role.{Role}
use Rattle.ob0_tree.specs.declared.tree.Role.TheVariants as role
use Rattle.ob0_tree.specs.IdentifierIndexes.{AreAscendingWithin, identifier_names, names_without_roles}
use Rattle.ob0_tree.specs.ParsedModule.{TreeMatchesText, ParsedModule, tree_of}
use Rattle.ob0_tree.specs.Tree.{identifiers}
use Rattle.ob0_tree.proofs.Leaves.{leaves_ascend}
use Rattle.ob0_scope_table.specs.OrdinalEntries.{max_entry_ordinal, stored_ordinal}
use Rattle.ob0_language_names.specs.Names.{naming_by_spelling}
use Rattle.ob0_scope_table.specs.Resolution.{ordinal_in}
use Rattle.ob0_scope_table.proofs.FewTokens.{few_tokens}
use Rattle.ob0_language_names.specs.Scopes.{label_from_ordinal}
use Rattle.ob0_scope_numbering.specs.MarkWalk.{initial_walk_state}
use Rattle.ob0_scope_numbering.specs.IdentifierWalk.{visit_module}
use Rattle.ob0_scope_numbering.specs.OrdinalMarks.{OrdinalMark, table_with_marks}
use Rattle.ob0_scope_numbering.specs.IdentifierSpellings.{Spellings}
use Rattle.ob0_scope_numbering.proofs.Passing.{AreInOrder, HasMarks, IsBefore, at_start, module_passed, tokens_of}
use Rattle.ob0_scope_numbering.proofs.Tables.{marks_in_table}

few_between : (low : ℕ) (xs : List ℕ) (high : ℕ) → AreAscendingWithin low xs high → low + length xs ≤ high
few_between low [] high h = omega (arith, h)
few_between low (x ∷ xs) high h = let more = few_between (x + 1) xs high h.1 in omega (arith, h.0, more)

-- ---- the ordinals of a module are below the number of its identifiers plus seven for the
-- predeclared names

before_more : (k n : ℕ) (o : Option ℕ) → k ≤ n → IsBefore k o → IsBefore n o
before_more k n None le h = tt
before_more k n (Some j) le h = omega (arith, le, h)

module _ (table : ℕ → Option ℕ) (n : ℕ) where
  -- holds if the table's entries at these tokens are below a number
  abbrev pub AreBeforeAt : List ℕ → Type 0
  AreBeforeAt [] = Unit {0}
  AreBeforeAt (i ∷ is) = IsBefore n (table i) × AreBeforeAt is

  part_before : (first own last : List ℕ) → AreBeforeAt (first ++ (own ++ last)) → AreBeforeAt own
  part_before [] [] last h = tt
  part_before [] (i ∷ own) last h = (h.0, part_before [] own last h.1)
  part_before (i ∷ first) own last h = part_before first own last h.1

  -- holds if the ordinals of these marks are below a number
  abbrev AreMarksBefore : List OrdinalMark → Type 0
  AreMarksBefore [] = Unit {0}
  AreMarksBefore (m ∷ ms) = IsBefore n m.ordinal × AreMarksBefore ms

  before_at : (k : ℕ) (xs : List (Role × ℕ)) → AreInOrder table k xs → k + length (names_without_roles xs) ≤ n → AreBeforeAt (names_without_roles xs)
  before_at k [] h le = tt
  before_at k ((role.DeclaringName, i) ∷ xs) h le =
      let here : IsBefore n (Some k) = omega (arith, le) in
      (subst (IsBefore n) (sym h.0) here, before_at (suc k) xs h.1 (omega (arith, le)))
  before_at k ((role.LookedUpName, i) ∷ xs) h le = (before_more k n (table i) (omega (arith, le)) h.0, before_at k xs h.1 (omega (arith, le)))
  before_at k ((role.ClosingName, i) ∷ xs) h le = (before_more k n (table i) (omega (arith, le)) h.0, before_at k xs h.1 (omega (arith, le)))
  before_at k ((role.FieldName, i) ∷ xs) h le = (before_more k n (table i) (omega (arith, le)) h.0, before_at k xs h.1 (omega (arith, le)))
  before_at k ((role.ModuleName, i) ∷ xs) h le = (before_more k n (table i) (omega (arith, le)) h.0, before_at k xs h.1 (omega (arith, le)))

  marks_before : (ms : List OrdinalMark) → AreBeforeAt (tokens_of ms) → HasMarks table ms → AreMarksBefore ms
  marks_before [] before has = tt
  marks_before (m ∷ ms) before has = (subst (IsBefore n) has.0 before.0, marks_before ms before.1 has.1)

-- ---- entries can hold such ordinals

-- returns a table after the entry of each mark was written at its token
abbrev pub with_entries : List (Option ℕ) → List OrdinalMark → List (Option ℕ)
with_entries table [] = table
with_entries table (m ∷ ms) = with_entries (set table m.token (stored_ordinal m.ordinal)) ms

kept_before : (n : ℕ) (o : Option ℕ) → n ≤ max_entry_ordinal → IsBefore n o → stored_ordinal o ≡ o
kept_before n None le h = refl
kept_before n (Some j) le h = ap Some (min-eq_left (let below : j ≤ max_entry_ordinal = omega (arith, le, h) in below))

entries_kept : (read : ℕ → Option ℕ) (n : ℕ) (ms : List OrdinalMark) (table : List (Option ℕ)) → n ≤ max_entry_ordinal → AreMarksBefore read n ms → with_entries table ms ≡ table_with_marks table ms
entries_kept read n [] table le h = refl
entries_kept read n (m ∷ ms) table le h =
    ap (λ o. with_entries (set table m.token o) ms) (kept_before n m.ordinal le h.0) ∙ entries_kept read n ms (set table m.token m.ordinal) le h.1

-- states that a table's entries at a module's identifiers are below a number that an entry can hold
pub record EntriesFew (m : ParsedModule) (read : ℕ → Option ℕ) : Type 0 where
  pub bound : ℕ
  pub small : bound ≤ max_entry_ordinal
  pub before : AreBeforeAt read bound (identifier_names (tree_of m))

-- A table with all marks of a module has few entries.
pub entries_few : (m : ParsedModule) (w : Spellings) (read : ℕ → Option ℕ) → TreeMatchesText m → IsScan m.source → HasMarks read (visit_module (tree_of m) (initial_walk_state w)).marks → EntriesFew m read
entries_few m w read parsed scan has =
    let ids = identifiers role.DeclaringName (tree_of m) in
    let passed = module_passed read (label_from_ordinal naming_by_spelling) w (tree_of m) (initial_walk_state w) (at_start w) in
    let order : AreInOrder read 7 ids = subst (AreInOrder read 7) (append-nil ids) (passed.in_order has [] tt) in
    let few = few_between 0 (names_without_roles ids) (length m.source.tokens) (leaves_ascend m parsed) in
    let tokens = few_tokens m.source scan in
    let n = 7 + length (names_without_roles ids) in
    record { bound = n; small = omega (arith, few, tokens); before = before_at read n 7 ids order (omega arith) }

-- The entries have the ordinals of marks at some of a module's identifiers, if the marks are in a
-- table with few entries.
pub part_kept : (m : ParsedModule) (read : ℕ → Option ℕ) (table : List (Option ℕ)) (first last : List ℕ) (own : List OrdinalMark) → EntriesFew m read → identifier_names (tree_of m) ≡ first ++ (tokens_of own ++ last) → HasMarks read own
    → with_entries table own ≡ table_with_marks table own
part_kept m read table first last own few split has =
    let at = part_before read few.bound first (tokens_of own) last (subst (AreBeforeAt read few.bound) split few.before) in
    entries_kept read few.bound own table few.small (marks_before read few.bound own at has)

-- The entries have the ordinals of all marks of a module.
pub all_kept : (m : ParsedModule) (w : Spellings) (table : List (Option ℕ)) → TreeMatchesText m → IsScan m.source
    → with_entries table (visit_module (tree_of m) (initial_walk_state w)).marks ≡ table_with_marks table (visit_module (tree_of m) (initial_walk_state w)).marks
all_kept m w table parsed scan =
    let marks = (visit_module (tree_of m) (initial_walk_state w)).marks in
    let nothing : List (Option ℕ) = replicate (length m.source.tokens) None in
    let read = ordinal_in (table_with_marks nothing marks) in
    let has : HasMarks read marks = marks_in_table m w (visit_module (tree_of m) (initial_walk_state w)) (table_with_marks nothing marks) parsed refl refl in
    let passed = module_passed read (label_from_ordinal naming_by_spelling) w (tree_of m) (initial_walk_state w) (at_start w) in
    part_kept m read table [] [] marks (entries_few m w read parsed scan has) (sym passed.tokens ∙ sym (append-nil (tokens_of marks))) has
