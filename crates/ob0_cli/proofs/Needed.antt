-- Proves which values a subcommand needs, given its name. The proof uses that the names of the
-- subcommands differ.
use Rattle.std.proofs.Common.{◌≡◌, ◌∙◌, ℕ, List, false, true, length, get_or, codes, sym, ap, inl, inr, arith}
use Rattle.std.specs.Str.{bytes_eq}
use Rattle.std.proofs.lemmas.Slice.Eq.{bytes_eq-Decides}
use Rattle.clap.specs.Words.{Row, Text}
use Rattle.ob0_cli.specs.RequestedCommands.{HasBoundedValue, HasCoordinateValue, HasTextValue, HasNeededValues}

-- Returns the first letter of a name, or 0 if the name is empty. It distinguishes a name from all
-- others except one.
first : Text → ℕ
first name = get_or name 0 0

other_first : (name : Text) (a b : Text) → name ≡ a → name ≡ b → first a ≡ first b
other_first name a b e f = ap first (sym e ∙ f)

other_length : (name : Text) (a b : Text) → name ≡ a → name ≡ b → length a ≡ length b
other_length name a b e f = ap (λ (t : Text). length t) (sym e ∙ f)

pub check_needs : (name : Text) (rows : List Row) → HasNeededValues name rows → name ≡ codes "check" → HasTextValue (codes "file") rows
unfolding first
check_needs name rows (inl e) is =
    let bad : 115 ≡ 99 = other_first name _ _ e is in
    absurd (omega (arith, bad))
check_needs name rows (inr (inl (e, file))) is = file
check_needs name rows (inr (inr (inl (e, file, calls, turns)))) is =
    let bad : 114 ≡ 99 = other_first name _ _ e is in
    absurd (omega (arith, bad))
check_needs name rows (inr (inr (inr (e, file, line, column, new)))) is =
    let bad : 114 ≡ 99 = other_first name _ _ e is in
    absurd (omega (arith, bad))

pub record RunNeeds (rows : List Row) : Type 0 where
  pub file : HasTextValue (codes "file") rows
  pub calls : HasBoundedValue (codes "calls") rows
  pub turns : HasBoundedValue (codes "turns") rows

pub run_needs : (name : Text) (rows : List Row) → HasNeededValues name rows → name ≡ codes "run" → RunNeeds rows
unfolding first
run_needs name rows (inl e) is =
    let bad : 115 ≡ 114 = other_first name _ _ e is in
    absurd (omega (arith, bad))
run_needs name rows (inr (inl (e, file))) is =
    let bad : 99 ≡ 114 = other_first name _ _ e is in
    absurd (omega (arith, bad))
run_needs name rows (inr (inr (inl (e, file, calls, turns)))) is = record { file = file; calls = calls; turns = turns }
run_needs name rows (inr (inr (inr (e, file, line, column, new)))) is =
    let bad : 6 ≡ 3 = other_length name _ _ e is in
    absurd (omega (arith, bad))

other : (name word : Text) → bytes_eq name word ≡ false → name ≡ word → ⊥
other name word e is =
    let bad : false ≡ true = sym e ∙ (bytes_eq-Decides name word).1 is in
    cc

pub record RenameNeeds (name : Text) (rows : List Row) : Type 0 where
  pub named : name ≡ codes "rename"
  pub file : HasTextValue (codes "file") rows
  pub line : HasCoordinateValue (codes "line") rows
  pub column : HasCoordinateValue (codes "column") rows
  pub new : HasTextValue (codes "name") rows

pub rename_needs : (name : Text) (rows : List Row) → HasNeededValues name rows → bytes_eq name (codes "serve") ≡ false → bytes_eq name (codes "check") ≡ false → bytes_eq name (codes "run") ≡ false
    → RenameNeeds name rows
rename_needs name rows (inl e) serve check run = absurd (other name _ serve e)
rename_needs name rows (inr (inl (e, file))) serve check run = absurd (other name _ check e)
rename_needs name rows (inr (inr (inl (e, file, calls, turns)))) serve check run = absurd (other name _ run e)
rename_needs name rows (inr (inr (inr (e, file, line, column, new)))) serve check run = record { named = e; file = file; line = line; column = column; new = new }
