-- Converts the machine's activations (`Level`), and the addresses that it passes for VAR parameters
-- (`VarParameterAddresses`), to the lists that the definitions of runs use.
-- Rule: none; used in contracts of the machine.
use Rattle.std.specs.Prelude.{ℕ, List, Option, Some, None, [], ◌∷◌, if◌then◌else◌, nat_lt, take}
use denote.Ref.{Bor}
use Rattle.ob0_run_machine.specs.declared.addresses.VarParameterAddresses.{VarParameterAddresses}
use Rattle.ob0_run_machine.specs.declared.level.Level as code
use Rattle.ob0_run_machine.specs.Evaluation.{Levels}

abbrev mutual
  -- returns the activations that code in a `Level` can see: the activation itself, then the
  -- enclosing ones, the nearest first
  pub levels_of : code.Level → Levels
  levels_of (code.Level' base addresses enclosing) =
      record { base = base; addresses = addresses.now } ∷ enclosing_levels enclosing

  -- Returns the activations that enclose an activation, the nearest first, given the activation's
  -- field `enclosing`. No activation encloses the module's (None).
  pub enclosing_levels : code.Held-Level-enclosing → Levels
  enclosing_levels code.None' = []
  enclosing_levels (code.Some' pointer l) = levels_of l

-- Returns the activations that code in a `Level` can see, as `levels_of` does. Returns the empty
-- list for None.
abbrev pub levels_of_option : Option (Bor code.Level) → Levels
levels_of_option None = []
levels_of_option (Some l) = levels_of l.now

-- returns the addresses that a call passes for its VAR parameters, in the order of the parameters
abbrev pub address_list_of : VarParameterAddresses → List ℕ
address_list_of a = if nat_lt 2 a.count then a.all.items else take a.count a.few
