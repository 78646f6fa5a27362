-- Proves laws about the rows that clap's walk over words without a fault leaves for the arguments
-- of a simple command.
use Rattle.std.proofs.Common.{zero, suc, ◌≡◌, ◌&&◌, ℕ, Bool, true, false, List, [], ◌∷◌, length, is_some, Option, Some, None, refl}
use Rattle.std.specs.Prelude.{find, fold, if◌then◌else◌, drop, encode_utf8, slice_get}
use Rattle.std.specs.Option.{option_map_or}
use Rattle.std.specs.Str.{bytes_eq, chars}
use Rattle.clap.specs.Lexer.{long_of, short_of}
use Rattle.clap.specs.Walk as walking
use Rattle.clap.specs.Walk.{Held, Names, Outcome, Row, Rule, Step, Text, Waiting, Walk, arg_by_id, arg_by_index, arg_by_long, arg_by_short, attached_value, after_flag, after_step, bundle_met, bundle_step, done, flag_met, is_pending, long_met, long_or_other, option_met, option_word, plain_word, plain, waits, refused, idle, option, positional, pushed, reacted, settled, settled_rows, short_met, short_or_plain, subcommand_met, subcommand_or_other, takes_several, takes_values, to_positional, used, used_by_id, walked, walked_from, word_met}
use Rattle.clap.specs.Simple.{Shape}
use Rattle.clap.specs.Kinds.{Kinds, or_else}
use Rattle.clap.specs.Faults.{bundle_fault, bundle_step_fault, flag_word_fault, flags_fault, long_fault, option_fault, other_fault, positional_fault, react_fault, settle_fault, short_fault, step_fault, stray_fault, turn_fault, use_fault, walk_fault, word_fault}

-- ---- if two steps together have no fault, neither step has one

pub neither : (a b : Kinds) → or_else a b ≡ [] → (a ≡ []) × (b ≡ [])
neither [] b e = (refl, e)
neither (k ∷ ks) b e = cc

-- Holds if using the argument without a fault preserves the property K of the rows.
abbrev pub Keeps : (List Row → Type 0) → Bool → Rule → Type 0
Keeps K again a = (values : List Text) (rows : List Row) → use_fault again a values rows ≡ [] → K rows → K (used a values rows)

module _ (K : List Row → Type 0) (c : List Rule) (again : Bool) (keeps : (p : Rule → Bool) (a : Rule) → find p c ≡ Some a → Keeps K again a) where
  pub settle : (h : Held) → settle_fault c again h ≡ [] → K h.rows → K (settled c h).rows
  settle h e k = go h.pending e
    where
      inner : (o : Option Rule) (id : Text) (values : List Text) → arg_by_id c id ≡ o → option_map_or (λ a. use_fault again a values h.rows) o [] ≡ []
          → K (used_by_id o values h.rows)
      inner None id values is e = k
      inner (Some a) id values is e = keeps _ a is values h.rows e k

      go : (p : Option (Text × List Text)) → option_map_or (λ p. option_map_or (λ a. use_fault again a p.1 h.rows) (arg_by_id c p.0) []) p [] ≡ []
          → K (settled_rows c p h.rows)
      go None e = k
      go (Some p) e = inner (arg_by_id c p.0) p.0 p.1 refl e

  react : (p : Rule → Bool) (a : Rule) → find p c ≡ Some a → (values : List Text) (h : Held) → react_fault c again a values h ≡ [] → K h.rows
      → K (reacted c a values h).rows
  react p a is values h e k =
      let parts = neither _ _ e in
      keeps p a is values (settled c h).rows parts.1 (settle h parts.0 k)

  option_kept : (p : Rule → Bool) (a : Rule) → find p c ≡ Some a → (v : Option Text) (h : Held) → option_fault c again a v h ≡ [] → K h.rows
      → K (option_met c a v h).0.rows
  option_kept p a is (Some v) h e k = react p a is (v ∷ []) h e k
  option_kept p a is None h e k = settle h e k

  long_kept : (p : Rule → Bool) (o : Option Rule) → find p c ≡ o → (v : Option Text) (h : Held) → long_fault c again o v h ≡ [] → K h.rows
      → K (long_met c o v h).0.rows
  long_kept p None is v h e k = k
  long_kept p (Some a) is v h e k = go (takes_values a) v e
    where
      go : (b : Bool) (v : Option Text) → (if b then option_fault c again a v h
          else (if is_some v then Rattle.clap.specs.declared.error.kind.ErrorKind.TheVariants.TooManyValues ∷ [] else react_fault c again a [] h)) ≡ []
          → K (if b then option_met c a v h else flag_met c a v h).0.rows
      go true v e = option_kept p a is v h e k
      go false (Some v) e = k
      go false None e = react p a is [] h e k

  short_kept : (p : Rule → Bool) (o : Option Rule) → find p c ≡ o → (rest : Text) (h : Held) (next : Held → Held × Outcome) (fault : Held → Kinds)
      → ((g : Held) → fault g ≡ [] → K g.rows → K (next g).0.rows) → short_fault c again o rest h fault ≡ [] → K h.rows
      → K (short_met c o rest h next).0.rows
  short_kept p None is rest h next fault later e k = k
  short_kept p (Some a) is rest h next fault later e k = go (takes_values a) e
    where
      go : (b : Bool) → (if b then option_fault c again a (attached_value rest) h
          else or_else (react_fault c again a [] h) (fault (reacted c a [] h))) ≡ []
          → K (if b then option_met c a (attached_value rest) h else next (reacted c a [] h)).0.rows
      go true e = option_kept p a is (attached_value rest) h e k
      go false e =
          let parts = neither _ _ e in
          later _ parts.1 (react p a is [] h parts.0 k)

  bundle_kept : (n : ℕ) (flags : Text) (skip : ℕ) (so_far : Outcome) (h : Held) → flags_fault c again n flags skip h ≡ [] → K h.rows
      → K (bundle_met c n flags skip so_far h).0.rows
  unfolding bundle_met flags_fault
  bundle_kept zero flags skip so_far h e k = k
  bundle_kept (suc n) flags skip so_far h e k = go (slice_get (chars flags) 0) skip e (λ f s o g. bundle_kept n f s o g)
    where
      go : (o : Option ℕ) (skip : ℕ) → bundle_step_fault c again o flags skip h (flags_fault c again n) ≡ []
          → ((f : Text) (s : ℕ) (o : Outcome) (g : Held) → flags_fault c again n f s g ≡ [] → K g.rows → K (bundle_met c n f s o g).0.rows)
          → K (bundle_step c o flags skip so_far h (bundle_met c n)).0.rows
      go None skip e later = k
      go (Some x) zero e later =
          short_kept _ (arg_by_short c x) refl (drop (length (encode_utf8 x)) flags) h _ _ (λ g. later (drop (length (encode_utf8 x)) flags) 0 done g) e k
      go (Some x) (suc skip) e later = later _ skip so_far h e k

  plain_kept : (waiting : Waiting) (word : Text) (h : Held) → K h.rows → K (plain_word c waiting word h).0.rows
  plain_kept idle word h k = k
  plain_kept positional word h k = k
  plain_kept (option id) word h k = go (arg_by_id c id)
    where
      go : (o : Option Rule) → K (option_word o id word h).0.rows
      go None = k
      go (Some a) = k

  after_flag_kept : (waiting : Waiting) (word : Text) (h : Held) (o : Outcome) → K h.rows → K (after_flag c waiting word h o).0.rows
  after_flag_kept waiting word h done k = k
  after_flag_kept waiting word h (waits id) k = k
  after_flag_kept waiting word h plain k = plain_kept waiting word h k
  after_flag_kept waiting word h refused k = plain_kept waiting word h k

  flag_kept : (waiting : Waiting) (word : Text) (o : Option (Text × Option Text)) (h : Held) → flag_word_fault c again o word h ≡ [] → K h.rows
      → K (long_or_other c waiting word o h).0.rows
  flag_kept waiting word (Some p) h e k = after_flag_kept waiting word _ _ (long_kept _ (arg_by_long c p.0) refl p.1 h e k)
  flag_kept waiting word None h e k = go (short_of word) e
    where
      go : (o : Option Text) → option_map_or (λ flags. bundle_fault c again flags h) o [] ≡ [] → K (short_or_plain c waiting word o h).0.rows
      go None e = plain_kept waiting word h k
      go (Some flags) e = after_flag_kept waiting word _ _ (bundle_kept (length flags) flags h.skip plain (record h { skip = 0 }) e k)

  stepped : (o : Option Rule) (p : Rule → Bool) → find p c ≡ o → (word : Text) (w : Walk) (h : Held)
      → option_map_or (λ a. positional_fault c again a h) o [] ≡ [] → K h.rows → K (to_positional c o word w h).held.rows
  stepped None p is word w h e k = k
  stepped (Some a) p is word w h e k = go (is_pending a h.pending && takes_several a) e
    where
      go : (b : Bool) → (if b then [] else settle_fault c again h) ≡ [] → K (pushed a.id word (if b then h else settled c h)).rows
      go true e = k
      go false e = settle h e k

-- ---- the whole walk of a command

module _ (K : List Row → Type 0) (s : Shape) (names : Names) (keeps : (p : Rule → Bool) (a : Rule) → find p s.rules ≡ Some a → Keeps K s.args_override_self a) where
  word_kept : (o : Option Text) (waiting : Waiting) (position : ℕ) (word : Text) (h : Held) → other_fault s o word h ≡ [] → K h.rows
      → K (subcommand_or_other s.rules o waiting position word h).0.rows
  word_kept (Some name) waiting position word h e k = k
  word_kept None waiting position word h e k = go (bytes_eq word (45 ∷ 45 ∷ [])) e
    where
      go : (b : Bool) → (if b then [] else flag_word_fault s.rules s.args_override_self (long_of word) word h) ≡ []
          → K (if b then (h, walking.trailing position) else long_or_other s.rules waiting word (long_of word) h).0.rows
      go true e = k
      go false e = flag_kept K s.rules s.args_override_self keeps waiting word (long_of word) h e k

  met_kept : (is_trailing : Bool) (waiting : Waiting) (position : ℕ) (word : Text) (h : Held) → word_fault s names is_trailing waiting word h ≡ [] → K h.rows
      → K (word_met s.rules names is_trailing waiting position word h).0.rows
  met_kept true waiting position word h e k = k
  met_kept false waiting position word h e k = word_kept (subcommand_met names waiting word) waiting position word h e k

  step_kept : (step : Step) (word : Text) (w : Walk) (h : Held) → step_fault s w.position h step ≡ [] → K h.rows → K (after_step s.rules word w h step).held.rows
  step_kept (walking.next waiting) word w h e k = k
  step_kept (walking.trailing position) word w h e k = k
  step_kept (walking.subcommand name) word w h e k = k
  step_kept walking.value word w h e k = go (arg_by_index s.rules w.position) refl e
    where
      go : (o : Option Rule) → arg_by_index s.rules w.position ≡ o
          → option_map_or (λ a. positional_fault s.rules s.args_override_self a h) o (stray_fault s) ≡ [] → K (to_positional s.rules o word w h).held.rows
      go None is e = k
      go (Some a) is e = stepped K s.rules s.args_override_self keeps (Some a) _ is word w h e k

  turn_kept : (w : Walk) (word : Text) → turn_fault s names w word ≡ [] → K w.held.rows → K (walked s.rules names w word).held.rows
  unfolding walked
  turn_kept w word e k = go w.stopped e
    where
      go : (o : Option (Text × List Text)) → (let met = word_met s.rules names w.is_trailing w.waiting w.position word w.held in
          if is_some o then [] else or_else (word_fault s names w.is_trailing w.waiting word w.held) (step_fault s w.position met.0 met.1)) ≡ []
          → K (walked_from s.rules names o w word).held.rows
      go (Some p) e = k
      go None e =
          let parts = neither _ _ e in
          step_kept _ word w _ parts.1 (met_kept w.is_trailing w.waiting w.position word w.held parts.0 k)

  pub walk_kept : (words : List Text) (w : Walk) → walk_fault s names w words ≡ [] → K w.held.rows → K (fold (walked s.rules names) w words).held.rows
  unfolding walk_fault
  walk_kept [] w e k = k
  walk_kept (word ∷ rest) w e k =
      let parts = neither _ _ e in
      walk_kept rest (walked s.rules names w word) parts.1 (turn_kept w word parts.0 k)
