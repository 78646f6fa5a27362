-- Proves laws about the values of a subcommand's arguments if the words have no fault.
use Rattle.std.proofs.Common.{◌≡◌, ◌⊎◌, ◌∙◌, ◌++◌, ◌&&◌, ◌||◌, Bool, true, false, not, List, [], ◌∷◌, length, is_some, Option, Some, None, refl, sym, ap, subst, inl, inr, arith}
use Rattle.std.specs.Prelude.{find, fold, if◌then◌else◌, slice_get, option_map, option_and_then}
use Rattle.std.specs.Option.{option_map_or}
use Rattle.std.specs.List.{list_any}
use Rattle.std.specs.Str.{bytes_eq}
use Rattle.std.proofs.lemmas.Bool.{ne_eqb}
use Rattle.std.proofs.lemmas.Slice.Eq.{bytes_eq-Decides}
use Rattle.clap.specs.Values.{read_as, refused_kind}
use Rattle.clap.specs.ValueTests.{accepts}
use Rattle.clap.specs.Facts.{explicit_source, parser_of_value, unwrap_or_range}
use Rattle.clap.specs.Walk.{Row, Rule, Text, action_of, arg_by_id, at_row, default_rows, first_of, has_row, is_empty, more_values, nothing_held, one_of, reading_by, row_text, rows_after, settled, stronger, walk, walk_from, with_default, with_values, without}
use Rattle.clap.specs.Simple.{Shape}
use Rattle.clap.specs.Takes.{is_given}
use Rattle.clap.specs.Kinds.{or_else, check_kinds, request_kinds, value_kinds, values_kinds}
use Rattle.clap.specs.Faults.{action_fault, check_fault, default_fault, defaults_fault, given_default_fault, level_fault, set_fault, settle_fault, use_fault, values_fault, walk_fault}
use Rattle.clap.specs.declared.builder.ArgAction.TheVariants.{Set, Help}
use Rattle.clap.specs.declared.builder.value_parser.Reading.{Reading}
use Rattle.clap.specs.declared.parser.matches.ValueSource.{ValueSource}
use Rattle.clap.specs.declared.parser.matches.ValueSource.TheVariants.{DefaultValue, CommandLine}
use Rattle.clap.specs.declared.builder.range.ValueRange.{ValueRange}
use Rattle.ob0_cli.proofs.Walked.{Keeps, neither, settle, walk_kept}

abbrev pub Each : {A : Type 0} → (A → Type 0) → List A → Type 0
Each P [] = Unit {0}
Each P (x ∷ xs) = P x × Each P xs

each_both : {A : Type 0} (P : A → Type 0) (xs ys : List A) → Each P xs → Each P ys → Each P (xs ++ ys)
each_both P [] ys p q = q
each_both P (x ∷ xs) ys p q = (p.0, each_both P xs ys p.1 q)

-- If all items of a list satisfy P, the item that was found satisfies P and passes the test.
pub found_of : {A : Type 0} (P : A → Type 0) (xs : List A) → Each P xs → (p : A → Bool) (a : A) → find p xs ≡ Some a → P a × (p a ≡ true)
found_of P [] all p a e = cc
found_of {A} P (x ∷ xs) all p a e = go (p x) refl e (found_of P xs all.1 p a)
  where
    go : (b : Bool) → p x ≡ b → (if b then Some x else find p xs) ≡ Some a → (find p xs ≡ Some a → P a × (p a ≡ true)) → P a × (p a ≡ true)
    go true is e later =
        let same : x ≡ a = ap (λ (o : Option A). option_map_or (λ y. y) o x) e in
        subst (λ y. P y × (p y ≡ true)) same (all.0, is)
    go false is e later = later e

-- Holds if the row has a first value, and R holds for the row's name, that value and the row's
-- reading.
pub record Meets (R : Text → Text → Reading → Type 0) (r : Row) : Type 0 where
  pub value : Text
  pub more : List Text
  pub values : r.values ≡ value ∷ more
  pub good : R r.id value r.reading

at_kept : (P : Row → Type 0) (id : Text) (change : Row → List Row) (missing : List Row) → ((r : Row) → P r → Each P (change r)) → Each P missing
    → (rows : List Row) → Each P rows → Each P (at_row id change missing rows)
at_kept P id change missing changed new [] all = new
at_kept P id change missing changed new (r ∷ rs) all = go (bytes_eq r.id id) (at_kept P id change missing changed new rs all.1)
  where
    go : (b : Bool) → Each P (at_row id change missing rs) → Each P (if b then change r ++ rs else r ∷ at_row id change missing rs)
    go true later = each_both P (change r) rs (changed r all.0) all.1
    go false later = (all.0, later)

module _ (R : Text → Text → Reading → Type 0) where
  without_kept : (id : Text) (rows : List Row) → Each (Meets R) rows → Each (Meets R) (without id rows)
  without_kept id rows all = at_kept (Meets R) id (λ _. []) [] (λ _ _. tt) tt rows all

  values_kept : (id : Text) (how : Reading) (s : ValueSource) (v : Text) (vs : List Text) → R id v how → (rows : List Row) → Each (Meets R) rows
      → Each (Meets R) (with_values id how s (v ∷ vs) rows)
  values_kept id how s v vs good rows all =
      at_kept (Meets R) id (more_values s (v ∷ vs)) (record { id = id; values = v ∷ vs; count = None; source = Some s; reading = how } ∷ [])
      (λ r m. (record { value = m.value; more = m.more ++ v ∷ vs; values = ap (λ l. l ++ v ∷ vs) m.values; good = m.good }, tt))
      (record { value = v; more = vs; values = refl; good = good }, tt) rows all

-- ---- the parser that an argument's value has passed

-- Holds if the value passed the parser of the argument with this name, and `how` is the reading of
-- that parser.
pub record Passed (rules : List Rule) (id : Text) (value : Text) (how : Reading) : Type 0 where
  pub rule : Rule
  pub own : arg_by_id rules id ≡ Some rule
  pub passes : value_kinds rule.ignore_case (parser_of_value rule.parser) value ≡ []
  pub read : how ≡ reading_by rule

abbrev pub one : ValueRange
one = record { start_inclusive = 1; end_inclusive = 1 }

-- Holds if the argument takes exactly one value, and is the argument of its name.
pub record TakesOne (rules : List Rule) (a : Rule) : Type 0 where
  pub set : action_of a ≡ Set
  pub range : unwrap_or_range a.range ≡ one
  pub own : arg_by_id rules a.id ≡ Some a

-- Holds if the argument takes exactly one value, or is a flag without defaults that requests help.
abbrev pub Fits : List Rule → Rule → Type 0
Fits rules a = TakesOne rules a ⊎ ((action_of a ≡ Help) × (a.defaults ≡ []))

abbrev Held : List Rule → List Row → Type 0
Held rules rows = Each (Meets (Passed rules)) rows

fits_keeps : (rules : List Rule) (again : Bool) (a : Rule) → Fits rules a → Keeps (Held rules) again a
fits_keeps rules again a (inr help) values rows e k = rw help.0 k
fits_keeps rules again a (inl t) [] rows e k =
    let bad : use_fault again a [] rows ≡ [] = e in
    let worse = rw t.range at bad in
    cc
fits_keeps rules again a (inl t) (v ∷ vs) rows e k =
    let acted : action_fault (action_of a) again a (v ∷ vs) rows ≡ [] = (neither _ _ e).1 in
    let setting : set_fault again a (v ∷ vs) rows ≡ [] = rw t.set at acted in
    let passes = (neither _ _ (neither _ _ setting).1).0 in
    rw t.set (values_kept (Passed rules) a.id (reading_by a) CommandLine v vs (record { rule = a; own = t.own; passes = passes; read = refl })
    (without a.id rows) (without_kept (Passed rules) a.id rows k))

default_keeps : (rules : List Rule) (a : Rule) → Fits rules a → (rows : List Row) → default_fault rows a ≡ [] → Held rules rows → Held rules (with_default rows a)
default_keeps rules a fits rows e k = go (has_row a.id rows) a.defaults e fits
  where
    given : (v : Text) (vs : List Text) → given_default_fault a (v ∷ vs) ≡ [] → TakesOne rules a → Held rules (with_values a.id (reading_by a) DefaultValue (v ∷ vs) rows)
    given v vs e t =
        let values : values_fault a (v ∷ vs) ≡ [] = (neither (request_kinds (action_of a)) (values_fault a (v ∷ vs)) e).1 in
        let passes = (neither (value_kinds a.ignore_case (parser_of_value a.parser) v) (values_kinds a.ignore_case (parser_of_value a.parser) vs) values).0 in
        values_kept (Passed rules) a.id (reading_by a) DefaultValue v vs (record { rule = a; own = t.own; passes = passes; read = refl }) rows k

    go : (b : Bool) (defaults : List Text) → (if b || is_empty defaults then [] else given_default_fault a defaults) ≡ []
        → TakesOne rules a ⊎ ((action_of a ≡ Help) × (defaults ≡ []))
        → Held rules (if b then rows else default_rows a.id (reading_by a) defaults rows)
    go true defaults e f = k
    go false [] e f = k
    go false (v ∷ vs) e (inl t) =
        let some : is_empty (v ∷ vs) ≡ false = ne_eqb (length (v ∷ vs)) 0 (λ z. absurd (omega arith)) in
        given v vs (rw some at e) t
    go false (v ∷ vs) e (inr help) = cc

defaults_kept : (rules rest : List Rule) → Each (Fits rules) rest → (rows : List Row) → defaults_fault rows rest ≡ [] → Held rules rows
    → Held rules (fold with_default rows rest)
unfolding defaults_fault
defaults_kept rules [] fits rows e k = k
defaults_kept rules (a ∷ rest) fits rows e k =
    let parts = neither _ _ e in
    defaults_kept rules rest fits.1 (with_default rows a) parts.1 (default_keeps rules a fits.0 rows parts.0 k)

-- ---- a subcommand's rows

-- Holds if the four steps of the subcommand's parse have no fault.
record Fine (s : Shape) (words : List Text) : Type 0 where
  walking : walk_fault s [] (walk_from nothing_held) words ≡ []
  settling : settle_fault s.rules s.args_override_self (walk s.rules [] nothing_held words).held ≡ []
  defaulting : defaults_fault (settled s.rules (walk s.rules [] nothing_held words).held).rows s.rules ≡ []
  check_command : check_fault s (rows_after s.rules [] words) false ≡ []

fine : (s : Shape) (words : List Text) → level_fault s [] nothing_held words false [] ≡ [] → Fine s words
fine s words e =
    let end = (walk s.rules [] nothing_held words).held in
    let check = check_fault s (rows_after s.rules [] words) false in
    let defaults = defaults_fault (settled s.rules end).rows s.rules in
    let settle = settle_fault s.rules s.args_override_self end in
    let one = neither (walk_fault s [] (walk_from nothing_held) words) (or_else settle (or_else defaults check)) e in
    let two = neither settle (or_else defaults check) one.1 in
    let three = neither defaults check two.1 in
    record { walking = one.0; settling = two.0; defaulting = three.0; check_command = three.1 }

rows_kept : (s : Shape) (words : List Text) → Each (Fits s.rules) s.rules → level_fault s [] nothing_held words false [] ≡ []
    → Each (Meets (Passed s.rules)) (rows_after s.rules [] words)
rows_kept s words fits e =
    let keeps : (p : Rule → Bool) (a : Rule) → find p s.rules ≡ Some a → Keeps (Held s.rules) s.args_override_self a =
    λ p a is. fits_keeps s.rules s.args_override_self a (found_of (Fits s.rules) s.rules fits p a is).0 in
    let f = fine s words e in
    let end = (walk s.rules [] nothing_held words).held in
    let held : Held s.rules end.rows = walk_kept (Held s.rules) s [] keeps words (walk_from nothing_held) f.walking tt in
    defaults_kept s.rules s.rules fits (settled s.rules end).rows f.defaulting (settle (Held s.rules) s.rules s.args_override_self keeps end f.settling held)

-- If no item of a list passes the test q, the item that was found doesn't pass it.
none_of : {A : Type 0} (q : A → Bool) (xs : List A) → list_any q xs ≡ false → (p : A → Bool) (a : A) → find p xs ≡ Some a → q a ≡ false
none_of q [] none p a e = cc
none_of {A} q (x ∷ xs) none p a e = go (p x) (q x) refl none e (λ rest. none_of q xs rest p a)
  where
    go : (b c : Bool) → q x ≡ c → (c || list_any q xs) ≡ false → (if b then Some x else find p xs) ≡ Some a
        → (list_any q xs ≡ false → find p xs ≡ Some a → q a ≡ false) → q a ≡ false
    go b true is none e later = cc
    go true false is none e later =
        let same : x ≡ a = ap (λ (o : Option A). option_map_or (λ y. y) o x) e in
        subst (λ y. q y ≡ false) same is
    go false false is none e later = later none e

-- If the words have no fault, every required argument was given.
required_given : (s : Shape) (words : List Text) → s.subcommand_negates_reqs ≡ false → level_fault s [] nothing_held words false [] ≡ []
    → list_any (λ a. a.required && not (is_given a.id (rows_after s.rules [] words))) s.rules ≡ false
required_given s words plain e = third _ _ _ (rw plain at (fine s words e).check_command)
  where
    third : (a b c : Bool) → check_kinds a b c ≡ [] → c ≡ false
    third true b c e = cc
    third false true c e = cc
    third false false true e = cc
    third false false false e = refl

-- ---- the values in the row of an id

-- Holds if the argument has a first value that passed its parser, and `one_of` reads that value.
pub record HasPassed (rules : List Rule) (rows : List Row) (id : Text) : Type 0 where
  pub value : Text
  pub how : Reading
  pub first : first_of id rows ≡ Some value
  pub read : one_of id rows ≡ Some (read_as how value)
  pub passed : Passed rules id value how

found_passed : (rules : List Rule) (rows : List Row) (id : Text) → Each (Meets (Passed rules)) rows → is_some (find (λ r. bytes_eq r.id id) rows) ≡ true
    → HasPassed rules rows id
found_passed rules rows id all some = go (find (λ r. bytes_eq r.id id) rows) refl some
  where
    firsts : (r : Row) (m : Meets (Passed rules) r) → slice_get r.values 0 ≡ Some m.value
    firsts r m = ap (λ vs. slice_get vs 0) m.values

    go : (o : Option Row) → find (λ r. bytes_eq r.id id) rows ≡ o → is_some o ≡ true → HasPassed rules rows id
    go None is some = cc
    go (Some r) is some =
        let met = found_of (Meets (Passed rules)) rows all (λ r. bytes_eq r.id id) r is in
        let same : r.id ≡ id = (bytes_eq-Decides r.id id).0 met.1 in
        record {
          value = met.0.value;
          how = r.reading;
          first = ap (option_and_then (λ (r : Row). slice_get r.values 0)) is ∙ firsts r met.0;
          read = ap (option_and_then row_text) is ∙ ap (option_map (read_as r.reading)) (firsts r met.0);
          passed = subst (λ i. Passed rules i met.0.value r.reading) same met.0.good;
        }

given_found : (id : Text) (rows : List Row) → is_given id rows ≡ true → is_some (find (λ r. bytes_eq r.id id) rows) ≡ true
given_found id rows e = go (find (λ r. bytes_eq r.id id) rows) e
  where
    go : (o : Option Row) → option_map_or (λ r. explicit_source r.source) o false ≡ true → is_some o ≡ true
    go None e = cc
    go (Some r) e = refl

pub required_passed : (s : Shape) (words : List Text) → s.subcommand_negates_reqs ≡ false → level_fault s [] nothing_held words false [] ≡ []
    → Each (Fits s.rules) s.rules → (a : Rule) → arg_by_id s.rules a.id ≡ Some a → a.required ≡ true → HasPassed s.rules (rows_after s.rules [] words) a.id
required_passed s words plain e fits a is required =
    let rows = rows_after s.rules [] words in
    let none : (a.required && not (is_given a.id rows)) ≡ false =
    none_of (λ a. a.required && not (is_given a.id rows)) s.rules (required_given s words plain e) (λ b. bytes_eq b.id a.id) a is in
    found_passed s.rules rows a.id (rows_kept s words fits e) (given_found a.id rows (go (is_given a.id rows) (rw required at none)))
  where
    go : (g : Bool) → not g ≡ false → g ≡ true
    go true e = refl
    go false e = cc

-- ---- defaults

at_there : (id other : Text) (change : Row → List Row) (missing : List Row) → ((r : Row) → (new : Row) × (change r ≡ new ∷ []) × (new.id ≡ r.id))
    → (rows : List Row) → is_some (find (λ r. bytes_eq r.id id) rows) ≡ true → is_some (find (λ r. bytes_eq r.id id) (at_row other change missing rows)) ≡ true
at_there id other change missing changed [] there = cc
at_there id other change missing changed (r ∷ rs) there = go (bytes_eq r.id other) (bytes_eq r.id id) refl there (at_there id other change missing changed rs)
  where
    go : (b b' : Bool) → bytes_eq r.id id ≡ b' → is_some (if b' then Some r else find (λ r. bytes_eq r.id id) rs) ≡ true
        → (is_some (find (λ r. bytes_eq r.id id) rs) ≡ true → is_some (find (λ r. bytes_eq r.id id) (at_row other change missing rs)) ≡ true)
        → is_some (find (λ r. bytes_eq r.id id) (if b then change r ++ rs else r ∷ at_row other change missing rs)) ≡ true
    go true true is there later =
        let new = changed r in
        rw (new.1, new.2, is) refl
    go true false is there later =
        let new = changed r in
        rw (new.1, new.2, is) there
    go false true is there later = rw is refl
    go false false is there later = rw is (later there)

-- After a row is changed or added, there is a row with its name.
at_new : (id : Text) (change : Row → List Row) (new : Row) → new.id ≡ id → ((r : Row) → (new : Row) × (change r ≡ new ∷ []) × (new.id ≡ r.id))
    → (rows : List Row) → is_some (find (λ r. bytes_eq r.id id) (at_row id change (new ∷ []) rows)) ≡ true
at_new id change new is changed [] = rw (is, (bytes_eq-Decides id id).1 refl) refl
at_new id change new is changed (r ∷ rs) = go (bytes_eq r.id id) refl (at_new id change new is changed rs)
  where
    go : (b : Bool) → bytes_eq r.id id ≡ b → is_some (find (λ r. bytes_eq r.id id) (at_row id change (new ∷ []) rs)) ≡ true
        → is_some (find (λ r. bytes_eq r.id id) (if b then change r ++ rs else r ∷ at_row id change (new ∷ []) rs)) ≡ true
    go true is later =
        let one = changed r in
        rw (one.1, one.2, is) refl
    go false is later = rw is later

default_there : (id : Text) (a : Rule) (rows : List Row) → is_some (find (λ r. bytes_eq r.id id) rows) ≡ true
    → is_some (find (λ r. bytes_eq r.id id) (with_default rows a)) ≡ true
default_there id a rows there = go (has_row a.id rows) a.defaults
  where
    go : (b : Bool) (defaults : List Text) → is_some (find (λ r. bytes_eq r.id id) (if b then rows else default_rows a.id (reading_by a) defaults rows)) ≡ true
    go true defaults = there
    go false [] = there
    go false (v ∷ vs) = at_there id a.id (more_values DefaultValue (v ∷ vs)) _ (λ r. (record r { values = r.values ++ v ∷ vs; source = Some (stronger r.source DefaultValue) }, refl, refl)) rows there

row_found : (id : Text) (rows : List Row) → has_row id rows ≡ true → is_some (find (λ r. bytes_eq r.id id) rows) ≡ true
row_found id [] e = cc
row_found id (r ∷ rs) e = go (bytes_eq r.id id) e (row_found id rs)
  where
    go : (b : Bool) → (b || has_row id rs) ≡ true → (has_row id rs ≡ true → is_some (find (λ r. bytes_eq r.id id) rs) ≡ true)
        → is_some (if b then Some r else find (λ r. bytes_eq r.id id) rs) ≡ true
    go true e later = refl
    go false e later = later e

-- After the default of an argument was applied, the argument has a row.
own_default : (a : Rule) (v : Text) (vs : List Text) → a.defaults ≡ v ∷ vs → (rows : List Row) → is_some (find (λ r. bytes_eq r.id a.id) (with_default rows a)) ≡ true
own_default a v vs is rows = go (has_row a.id rows) refl
  where
    go : (b : Bool) → has_row a.id rows ≡ b → is_some (find (λ r. bytes_eq r.id a.id) (if b then rows else default_rows a.id (reading_by a) a.defaults rows)) ≡ true
    go true e = row_found a.id rows e
    go false e = rw is (at_new a.id (more_values DefaultValue (v ∷ vs)) _ refl (λ r. (record r { values = r.values ++ v ∷ vs; source = Some (stronger r.source DefaultValue) }, refl, refl)) rows)

stays_there : (id : Text) (rest : List Rule) (rows : List Row) → is_some (find (λ r. bytes_eq r.id id) rows) ≡ true
    → is_some (find (λ r. bytes_eq r.id id) (fold with_default rows rest)) ≡ true
stays_there id [] rows there = there
stays_there id (a ∷ rest) rows there = stays_there id rest (with_default rows a) (default_there id a rows there)

following_defaults : (rules : List Rule) (p : Rule → Bool) (a : Rule) (v : Text) (vs : List Text) → find p rules ≡ Some a → a.defaults ≡ v ∷ vs → (rows : List Row)
    → is_some (find (λ r. bytes_eq r.id a.id) (fold with_default rows rules)) ≡ true
following_defaults [] p a v vs e is rows = cc
following_defaults (b ∷ rest) p a v vs e is rows = go (p b) e (λ f. following_defaults rest p a v vs f is (with_default rows b))
  where
    go : (t : Bool) → (if t then Some b else find p rest) ≡ Some a
        → (find p rest ≡ Some a → is_some (find (λ r. bytes_eq r.id a.id) (fold with_default (with_default rows b) rest)) ≡ true)
        → is_some (find (λ r. bytes_eq r.id a.id) (fold with_default (with_default rows b) rest)) ≡ true
    go true e later =
        let same : b ≡ a = ap (λ (o : Option Rule). option_map_or (λ y. y) o b) e in
        subst (λ (x : Rule). is_some (find (λ r. bytes_eq r.id a.id) (fold with_default (with_default rows x) rest)) ≡ true) (sym same)
        (stays_there a.id rest (with_default rows a) (own_default a v vs is rows))
    go false e later = later e

pub default_passed : (s : Shape) (words : List Text) → level_fault s [] nothing_held words false [] ≡ [] → Each (Fits s.rules) s.rules
    → (a : Rule) (v : Text) (vs : List Text) → arg_by_id s.rules a.id ≡ Some a → a.defaults ≡ v ∷ vs → HasPassed s.rules (rows_after s.rules [] words) a.id
default_passed s words e fits a v vs is defaults =
    found_passed s.rules (rows_after s.rules [] words) a.id (rows_kept s words fits e)
    (following_defaults s.rules (λ b. bytes_eq b.id a.id) a v vs is defaults (settled s.rules (walk s.rules [] nothing_held words).held).rows)

-- ---- by the argument

-- If this argument has the name, the value passed this argument's parser and is read by it.
pub passed_by : (rules : List Rule) (a : Rule) (id value : Text) (how : Reading) → arg_by_id rules id ≡ Some a → Passed rules id value how
    → (accepts a.ignore_case (parser_of_value a.parser) value ≡ true) × (how ≡ reading_by a)
passed_by rules a id value how is passed =
    let same : passed.rule ≡ a = ap (λ (o : Option Rule). option_map_or (λ y. y) o passed.rule) (sym passed.own ∙ is) in (
      go (accepts a.ignore_case (parser_of_value a.parser) value) (subst (λ (x : Rule). value_kinds x.ignore_case (parser_of_value x.parser) value ≡ []) same passed.passes),
      passed.read ∙ ap reading_by same,
    )
  where
    go : (b : Bool) → (if b then [] else refused_kind (parser_of_value a.parser) ∷ []) ≡ [] → b ≡ true
    go true e = refl
    go false e = cc
