-- Proves that the getters of numbers return the number of a value that passed its parser.
use Rattle.std.proofs.Common.{◌≡◌, ◌<◌, ◌≤◌, ◌^◌, ℕ, Bool, true, false, List, Option, Some, None, arith, codes, refl}
use Rattle.std.specs.Prelude.{Result, Err, pos, if◌then◌else◌}
use Rattle.std.specs.Str.{bytes_eq}
use Rattle.std.specs.Str.Parse.{ParsesUnsigned}
use Rattle.clap.specs.Lexer.{without_minus}
use Rattle.clap.specs.Matches.{ReadsOne}
use Rattle.clap.specs.Values.{IsSignedIn, IsUnsignedIn}
use Rattle.clap.proofs.CallerReads.{signed_reads}
use Rattle.ob0_cli.specs.RequestedCommands.{max_option_value}

small : (id : List ℕ) → max_option_value id < 2 ^ 32
small id = go (bytes_eq id (codes "calls"))
  where
    go : (b : Bool) → (if b then 64 else 100000) < 2 ^ 32
    go true = omega arith
    go false = omega arith

module _ {E : Type 0} (G : List ℕ → Result ℕ E → Type 0) where
  -- If the value of a bounded option passed its parser, the getter returns a number within the
  -- option's bounds.
  pub bounded_reads : (id text : List ℕ) (r : Option ℕ) → ((u : List ℕ) (x : Result ℕ E) → G u x → ParsesUnsigned 32 10 u x)
      → ReadsOne G (without_minus text) r → IsSignedIn (pos 0) (pos (max_option_value id)) text
      → (n : ℕ) × (r ≡ Some n) × (0 ≤ n) × (n ≤ max_option_value id)
  bounded_reads id text r only read passed = signed_reads E G 32 0 (max_option_value id) text r read only (small id) passed

  -- If the value of an argument passed its parser of 64 bits, the getter returns a number.
  pub place_reads : (text : List ℕ) (r : Option ℕ) → ((u : List ℕ) (x : Result ℕ E) → G u x → ParsesUnsigned 64 10 u x)
      → ReadsOne G text r → IsUnsignedIn 0 18446744073709551615 text → (n : ℕ) × (r ≡ Some n)
  place_reads text (Some n) only read passed = (n, refl)
  place_reads text None only read passed = absurd (only text (Err read.0) read.1 (passed.0, passed.1))
