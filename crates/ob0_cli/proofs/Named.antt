-- Proves that clap's matches have a subcommand with all the arguments that it needs.
use Rattle.std.proofs.Common.{zero, suc, ◌≡◌, ◌∙◌, ℕ, List, [], ◌∷◌, true, false, Bool, Option, Some, None, codes, refl, sym, ap, ap₂, subst, inl, inr}
use Rattle.std.specs.Prelude.{Box, pos, is_some, not, ◌&&◌, ◌||◌, find, option_map}
use Rattle.std.specs.Option.{option_map_or}
use Rattle.std.specs.Str.{bytes_eq}
use Rattle.std.proofs.lemmas.Slice.Eq.{bytes_eq-Decides}
use Rattle.clap.specs.Words.{App, Row, Rule, Shape, Text, IsParsedFrom, app_of, fault_of, found_of as found_in, has_subcommand, is_simple, rows_of, subcommand_name_of, subcommand_of, subcommand_rows, subcommand_rows_of}
use Rattle.clap.specs.Facts.{parser_of_value}
use Rattle.clap.specs.Values.{reading_of}
use Rattle.clap.specs.ValueTests.{accepts}
use Rattle.clap.proofs.ValueTestLemmas.{accepts-Accepts}
use Rattle.clap.specs.declared.builder.value_parser.ValueParser.TheVariants.{Signed, Unsigned}
use Rattle.clap.specs.declared.builder.value_parser.Reading.TheVariants.{AsWritten, WithoutMinus}
use Rattle.clap.specs.Faults.{entered_fault, is_simple_and_free, level_fault, walk_fault}
use Rattle.clap.specs.Simple.{HasMatchesOf, argument_words, built, entered, filled, label_of, names_of, new_shape, rows_at, with_index}
use Rattle.clap.specs.Walk.{answers_to, arg_by_id, nothing_held, rows_after, stop_after, walk_from}
use Rattle.clap.specs.declared.builder.command.Command.{Command}
use Rattle.clap.specs.declared.parser.matches.ArgMatches.{ArgMatches}
use Rattle.clap.specs.declared.parser.matches.ArgMatches.TheViews.{out-ArgMatches, out-SubCommand}
use Rattle.clap.specs.declared.parser.matches.SubCommand.{SubCommand}
use Rattle.std.specs.Box.{box_value}
use Rattle.clap.proofs.OnLiterals.{clap_on_literals}
use Rattle.ob0_cli.specs.RequestedCommands.{FoundSubcommand, HasBoundedValue, IsCompleteSubcommand, HasCoordinateValue, HasTextValue, HasNeededValues, max_option_value}
use Rattle.ob0_cli.specs.ClapCommands.{calls_rule, required_number_rule, ob0_app, turns_rule, required_word_rule}
use Rattle.ob0_cli.proofs.Rows.{Each, Fits, HasPassed, default_passed, found_of, passed_by, required_passed}
use Rattle.ob0_cli.proofs.Stops.{IsNoHelp, walk_stops}
use Rattle.ob0_cli.proofs.Walked.{neither}

pub simple : is_simple ob0_app ≡ true
unfolding clap_on_literals
simple = refl

pub simple_and_free : is_simple_and_free ob0_app ≡ true
unfolding clap_on_literals
simple_and_free = refl

-- ---- the subcommands

-- Holds if words that have no fault give this subcommand all the arguments that it needs.
abbrev Needs : Shape → Type 0
Needs s = (words : List Text) → level_fault s [] nothing_held words false [] ≡ [] → HasNeededValues s.name (rows_after s.rules [] words)

-- Holds if a word other than `help` that selects the subcommand implies `Needs`.
abbrev NeedsNamed : Shape → Type 0
NeedsNamed s = (word : Text) → answers_to word (label_of s) ≡ true → bytes_eq word (codes "help") ≡ false → Needs s

nth : ℕ → List Shape → Shape
nth n [] = new_shape []
nth zero (a ∷ rest) = a
nth (suc n) (a ∷ rest) = nth n rest

abbrev subs : List Shape
subs = (built ob0_app).subs

abbrev at_check : Shape
at_check = nth 1 subs

abbrev at_run : Shape
at_run = nth 2 subs

abbrev at_rename : Shape
at_rename = nth 3 subs

-- Returns an argument as it is after the command is built, with its index among the positional
-- arguments.
abbrev placed : ℕ → Rule → Rule
placed i a = with_index i (filled a)

has_text : (rules : List Rule) (rows : List Row) (id : Text) → HasPassed rules rows id → HasTextValue id rows
has_text rules rows id passed = (passed.value, passed.first)

has_place : (rules : List Rule) (rows : List Row) (a : Rule) → arg_by_id rules a.id ≡ Some a → a.parser ≡ Some (Unsigned 0 18446744073709551615)
    → HasPassed rules rows a.id → HasCoordinateValue a.id rows
has_place rules rows a is parser passed =
    let by = passed_by rules a a.id passed.value passed.how is passed.passed in
    let accepted : accepts a.ignore_case (Unsigned 0 18446744073709551615) passed.value ≡ true = rw parser at by.0 in
    let how : passed.how ≡ AsWritten = by.1 ∙ ap (λ p. reading_of (parser_of_value p)) parser in
    (passed.value, rw how at passed.read, accepts-Accepts a.ignore_case (Unsigned 0 18446744073709551615) passed.value accepted)

has_bounded : (rules : List Rule) (rows : List Row) (a : Rule) → arg_by_id rules a.id ≡ Some a → a.parser ≡ Some (Signed (pos 0) (pos (max_option_value a.id)))
    → HasPassed rules rows a.id → HasBoundedValue a.id rows
has_bounded rules rows a is parser passed =
    let by = passed_by rules a a.id passed.value passed.how is passed.passed in
    let accepted : accepts a.ignore_case (Signed (pos 0) (pos (max_option_value a.id))) passed.value ≡ true = rw parser at by.0 in
    let how : passed.how ≡ WithoutMinus = by.1 ∙ ap (λ p. reading_of (parser_of_value p)) parser in
    (passed.value, rw how at passed.read, accepts-Accepts a.ignore_case (Signed (pos 0) (pos (max_option_value a.id))) passed.value accepted)

serve_needs : Needs (nth 0 subs)
unfolding clap_on_literals nth
serve_needs words e = inl refl

check_fits : Each (Fits at_check.rules) at_check.rules
unfolding clap_on_literals nth
check_fits = (inl (record { set = refl; range = refl; own = refl }), (inr (refl, refl), tt))

check_needs : Needs at_check
unfolding clap_on_literals nth
check_needs words e =
    let rows = rows_after at_check.rules [] words in
    inr (inl (refl, has_text at_check.rules rows (codes "file") (required_passed at_check words refl e check_fits (placed 1 (required_word_rule (codes "file"))) refl refl)))

run_fits : Each (Fits at_run.rules) at_run.rules
unfolding clap_on_literals nth
run_fits = (
  inl (record { set = refl; range = refl; own = refl }),
  (
    inl (record { set = refl; range = refl; own = refl }),
    (
      inl (record { set = refl; range = refl; own = refl }),
      (inr (refl, refl), tt),
    ),
  ),
)

run_needs : Needs at_run
unfolding clap_on_literals nth
run_needs words e =
    let rows = rows_after at_run.rules [] words in
    inr (inr (inl (
      refl,
      has_text at_run.rules rows (codes "file") (required_passed at_run words refl e run_fits (placed 1 (required_word_rule (codes "file"))) refl refl),
      has_bounded at_run.rules rows (filled calls_rule) refl refl (default_passed at_run words e run_fits (filled calls_rule) (codes "64") [] refl refl),
      has_bounded at_run.rules rows (filled turns_rule) refl refl (default_passed at_run words e run_fits (filled turns_rule) (codes "100000") [] refl refl),
    )))

rename_fits : Each (Fits at_rename.rules) at_rename.rules
unfolding clap_on_literals nth
rename_fits = (
  inl (record { set = refl; range = refl; own = refl }),
  (
    inl (record { set = refl; range = refl; own = refl }),
    (
      inl (record { set = refl; range = refl; own = refl }),
      (
        inl (record { set = refl; range = refl; own = refl }),
        (inr (refl, refl), tt),
      ),
    ),
  ),
)

rename_needs : Needs at_rename
unfolding clap_on_literals nth
rename_needs words e =
    let rows = rows_after at_rename.rules [] words in
    let line = placed 2 (required_number_rule (codes "line")) in
    let column = placed 3 (required_number_rule (codes "column")) in
    inr (inr (inr (
      refl,
      has_text at_rename.rules rows (codes "file") (required_passed at_rename words refl e rename_fits (placed 1 (required_word_rule (codes "file"))) refl refl),
      has_place at_rename.rules rows line refl refl (required_passed at_rename words refl e rename_fits line refl refl),
      has_place at_rename.rules rows column refl refl (required_passed at_rename words refl e rename_fits column refl refl),
      has_text at_rename.rules rows (codes "name") (required_passed at_rename words refl e rename_fits (placed 4 (required_word_rule (codes "name"))) refl refl),
    )))

-- The subcommand that clap adds is selected only by the word `help`.
help_needs : NeedsNamed (nth 4 subs)
unfolding clap_on_literals nth
help_needs word named other words e = absurd (unnamed (bytes_eq (codes "help") word) refl named)
  where
    unnamed : (b : Bool) → bytes_eq (codes "help") word ≡ b → (b || false) ≡ true → ⊥
    unnamed false is e = cc
    unnamed true is e =
        let same : codes "help" ≡ word = (bytes_eq-Decides (codes "help") word).0 is in
        let bad : false ≡ true = sym other ∙ (bytes_eq-Decides word (codes "help")).1 (sym same) in
        cc

all_need : Each NeedsNamed subs
unfolding clap_on_literals nth
all_need = (λ _ _ _. serve_needs, (λ _ _ _. check_needs, (λ _ _ _. run_needs, (λ _ _ _. rename_needs, (help_needs, tt)))))

enabled : (built ob0_app).top.disable_help_subcommand ≡ false
unfolding clap_on_literals
enabled = refl

-- ---- from the words

-- If the walk ends at a subcommand other than `help` and that subcommand has no fault, it has all
-- the arguments that it needs.
entered_needs : (stop : Option (Text × List Text)) → IsNoHelp stop → entered_fault (built ob0_app) stop ≡ [] → is_some (entered (built ob0_app) stop) ≡ true
    → IsCompleteSubcommand (entered (built ob0_app) stop)
entered_needs None other e there = cc
entered_needs (Some p) other e there = go (find (λ s. answers_to p.0 (label_of s)) subs) refl e there
  where
    go : (o : Option Shape) → find (λ s. answers_to p.0 (label_of s)) subs ≡ o
        → option_map_or (λ s. level_fault s [] nothing_held p.1 false []) o [] ≡ [] → is_some (option_map (λ s. rows_at s p.1) o) ≡ true
        → IsCompleteSubcommand (option_map (λ s. rows_at s p.1) o)
    go None is e there = cc
    go (Some s) is e there =
        let found = found_of NeedsNamed subs all_need (λ s. answers_to p.0 (label_of s)) s is in
        (s.name, rows_after s.rules [] p.1, refl, found.0 p.0 found.1 other p.1 e)

-- If words that have no fault select a subcommand, it has all the arguments that it needs.
words_need : (words : List Text) → fault_of ob0_app words ≡ [] → is_some (subcommand_of ob0_app words) ≡ true → IsCompleteSubcommand (subcommand_of ob0_app words)
words_need words e there =
    let top = (built ob0_app).top in
    let names = names_of (built ob0_app) in
    let stop : Option (Text × List Text) = stop_after top.rules names (argument_words ob0_app words) in
    let parts = neither (walk_fault top names (walk_from nothing_held) (argument_words ob0_app words)) _ e in
    let other : IsNoHelp stop = walk_stops top names enabled (argument_words ob0_app words) (walk_from nothing_held) parts.0 tt in
    let below = parts.1 in
    entered_needs stop other (neither (entered_fault (built ob0_app) stop) _ below).0 there

-- ---- after a parse

pub no_globals : (a b c rest : Bool) → (a && (not b && (not c && rest))) ≡ true → c ≡ false
no_globals true true c rest e = cc
no_globals true false true rest e = cc
no_globals true false false rest e = refl
no_globals false b c rest e = cc

mapped_some : {A B : Type 0} (f : A → B) (o : Option A) → is_some o ≡ true → is_some (option_map f o) ≡ true
mapped_some f None e = e
mapped_some f (Some a) e = refl

-- If the words have no fault, clap's matches have the subcommand that the words select, with all
-- the arguments that it needs.
pub parsed : (c : Command) (words : List Text) (m : ArgMatches) → app_of c ≡ ob0_app → fault_of ob0_app words ≡ [] → IsParsedFrom c m → HasMatchesOf (app_of c) words m
    → (subcommand_rows_of m ≡ subcommand_of ob0_app words) × IsCompleteSubcommand (subcommand_rows_of m)
parsed c words m is none from matches =
    let plain = no_globals _ _ _ _ (ap (λ (a : App). a.top.is_plain) is) in
    let required = ap (λ (a : App). a.top.subcommand_required) is in
    let checked = (from.parsed (from.from.globals ∙ plain)).checked in
    let has : has_subcommand m ≡ true = checked.subcommand (from.from.needs_subcommand ∙ required) in
    let same : subcommand_rows_of m ≡ subcommand_of ob0_app words = (matches (ap is_simple is ∙ simple)).1 ∙ ap (λ (a : App). subcommand_of a words) is in
    let there : is_some (subcommand_of ob0_app words) ≡ true = subst (λ o. is_some o ≡ true) same (mapped_some _ _ has) in
    (same, subst IsCompleteSubcommand (sym same) (words_need words none there))

-- ---- from the matches to the line

first_or : Text → Option Text → Text
first_or d o = option_map_or (λ t. t) o d

rows_or : List Row → Option (List Row) → List Row
rows_or d o = option_map_or (λ t. t) o d

named_rows : (m : ArgMatches) (name : Text) (rows : List Row) → Some name ≡ subcommand_name_of m
    → Some rows ≡ option_map (λ p. p.1) (subcommand_rows_of m) → subcommand_rows_of m ≡ Some (name, rows)
unfolding first_or rows_or out-SubCommand out-ArgMatches
named_rows m name rows n r = go (out-ArgMatches m).subcommand n r
  where
    go : {Z : Type 0} (o : Option (Box SubCommand Z)) → Some name ≡ option_map (λ b. (out-SubCommand (box_value b)).name.now) o
        → Some rows ≡ option_map (λ p. p.1) (subcommand_rows o) → subcommand_rows o ≡ Some (name, rows)
    go None n r = cc
    go (Some b) n r = ap₂ (λ (t : Text) (rs : List Row). Some (t, rs)) (sym (ap (first_or name) n)) (sym (ap (rows_or rows) r))

-- The getter of the subcommand returns its name and rows, and the subcommand has all the arguments
-- that it needs.
pub entered_is : (m given : ArgMatches) (name : Text) → IsCompleteSubcommand (subcommand_rows_of m) → Some name ≡ subcommand_name_of m
    → Some (rows_of (found_in given)) ≡ option_map (λ p. p.1) (subcommand_rows_of m)
    → (subcommand_rows_of m ≡ Some (name, rows_of (found_in given))) × HasNeededValues name (rows_of (found_in given))
entered_is m given name (called, found, is, needs) n r =
    let rows = rows_of (found_in given) in
    let here = named_rows m name rows n r in
    let same : (called, found) ≡ (name, rows) = ap (λ (o : FoundSubcommand). option_map_or (λ p. p) o (called, found)) (sym is ∙ here) in
    (here, subst (λ (p : Text × List Row). HasNeededValues p.0 p.1) same needs)
