-- Proves that clap's walk over words without a fault never stops at `help`, if `help` is a
-- subcommand.
use Rattle.std.proofs.Common.{◌≡◌, ◌&&◌, Bool, true, false, not, List, [], ◌∷◌, ℕ, is_some, Option, Some, None, codes, refl}
use Rattle.std.specs.Prelude.{fold, if◌then◌else◌}
use Rattle.std.specs.Str.{bytes_eq}
use Rattle.clap.specs.Lexer.{long_of, short_of}
use Rattle.clap.specs.Walk as walking
use Rattle.clap.specs.Walk.{Held, Names, Outcome, Rule, Step, Text, Waiting, Walk, after_flag, after_step, arg_by_index, done, idle, long_or_other, option, plain, plain_word, positional, refused, short_or_plain, subcommand_met, subcommand_or_other, to_positional, waits, walked, walked_from, word_met}
use Rattle.clap.specs.Simple.{Shape}
use Rattle.clap.specs.Faults.{other_fault, step_fault, turn_fault, walk_fault, word_fault}
use Rattle.clap.specs.Kinds.{or_else}
use Rattle.clap.specs.declared.error.kind.ErrorKind.TheVariants.{DisplayHelp, InvalidSubcommand}
use Rattle.ob0_cli.proofs.Walked.{neither}

-- Holds if the walk didn't stop, or stopped at a word other than `help`.
abbrev pub IsNoHelp : Option (Text × List Text) → Type 0
IsNoHelp None = Unit {0}
IsNoHelp (Some p) = bytes_eq p.0 (codes "help") ≡ false

abbrev IsOtherStep : Step → Type 0
IsOtherStep (walking.next waiting) = Unit {0}
IsOtherStep (walking.trailing position) = Unit {0}
IsOtherStep (walking.subcommand name) = bytes_eq name (codes "help") ≡ false
IsOtherStep walking.value = Unit {0}

module _ (c : List Rule) where
  plain_step : (waiting : Waiting) (word : Text) (h : Held) → IsOtherStep (plain_word c waiting word h).1
  plain_step idle word h = tt
  plain_step positional word h = tt
  plain_step (option id) word h = tt

  flag_step : (waiting : Waiting) (word : Text) (h : Held) (o : Outcome) → IsOtherStep (after_flag c waiting word h o).1
  flag_step waiting word h done = tt
  flag_step waiting word h (waits id) = tt
  flag_step waiting word h plain = plain_step waiting word h
  flag_step waiting word h refused = plain_step waiting word h

  long_step : (waiting : Waiting) (word : Text) (o : Option (Text × Option Text)) (h : Held) → IsOtherStep (long_or_other c waiting word o h).1
  long_step waiting word (Some p) h = flag_step waiting word _ _
  long_step waiting word None h = go (short_of word)
    where
      go : (o : Option Text) → IsOtherStep (short_or_plain c waiting word o h).1
      go None = plain_step waiting word h
      go (Some flags) = flag_step waiting word _ _

module _ (s : Shape) (names : Names) (enabled : s.disable_help_subcommand ≡ false) where
  named_step : (o : Option Text) (waiting : Waiting) (position : ℕ) (word : Text) (h : Held) → other_fault s o word h ≡ []
      → IsOtherStep (subcommand_or_other s.rules o waiting position word h).1
  named_step (Some name) waiting position word h e = go (bytes_eq name (codes "help")) s.disable_help_subcommand enabled e
    where
      go : (b d : Bool) → d ≡ false → (if b && not d then DisplayHelp ∷ InvalidSubcommand ∷ [] else []) ≡ [] → b ≡ false
      go false d off e = refl
      go true false off e = cc
      go true true off e = cc
  named_step None waiting position word h e = go (bytes_eq word (45 ∷ 45 ∷ []))
    where
      go : (b : Bool) → IsOtherStep (if b then (h, walking.trailing position) else long_or_other s.rules waiting word (long_of word) h).1
      go true = tt
      go false = long_step s.rules waiting word (long_of word) h

  met_step : (is_trailing : Bool) (waiting : Waiting) (position : ℕ) (word : Text) (h : Held) → word_fault s names is_trailing waiting word h ≡ []
      → IsOtherStep (word_met s.rules names is_trailing waiting position word h).1
  met_step true waiting position word h e = tt
  met_step false waiting position word h e = named_step (subcommand_met names waiting word) waiting position word h e

  after : (step : Step) (word : Text) (w : Walk) (h : Held) → w.stopped ≡ None → IsOtherStep step → IsNoHelp (after_step s.rules word w h step).stopped
  after (walking.next waiting) word w h none other = rw none tt
  after (walking.trailing position) word w h none other = rw none tt
  after (walking.subcommand name) word w h none other = other
  after walking.value word w h none other = go (arg_by_index s.rules w.position)
    where
      go : (o : Option Rule) → IsNoHelp (to_positional s.rules o word w h).stopped
      go None = rw none tt
      go (Some a) = tt

  turn : (w : Walk) (word : Text) → turn_fault s names w word ≡ [] → IsNoHelp w.stopped → IsNoHelp (walked s.rules names w word).stopped
  unfolding walked
  turn w word e k = go w.stopped refl e k
    where
      go : (o : Option (Text × List Text)) → w.stopped ≡ o → (let met = word_met s.rules names w.is_trailing w.waiting w.position word w.held in
          if is_some o then [] else or_else (word_fault s names w.is_trailing w.waiting word w.held) (step_fault s w.position met.0 met.1)) ≡ []
          → IsNoHelp o → IsNoHelp (walked_from s.rules names o w word).stopped
      go (Some p) is e k = k
      go None is e k = after _ word w _ is (met_step w.is_trailing w.waiting w.position word w.held (neither _ _ e).0)

  pub walk_stops : (words : List Text) (w : Walk) → walk_fault s names w words ≡ [] → IsNoHelp w.stopped
      → IsNoHelp (fold (walked s.rules names) w words).stopped
  unfolding walk_fault
  walk_stops [] w e k = k
  walk_stops (word ∷ rest) w e k =
      let parts = neither _ _ e in
      walk_stops rest (walked s.rules names w word) parts.1 (turn w word parts.0 k)
