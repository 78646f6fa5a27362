-- A worked example of a constant: its value, its uses, and the declaration to which TRUE would be bound at a use.
use Rattle.std.proofs.Common.{None, Some, codes, negsuc, refl, ◌≡◌}
use Rattle.ob0_language_names.specs.Occurrences.{ordinal_bound_at_occurrence}
use Rattle.ob0_language_names.specs.OccurrenceLookup.{resolve_name_at_occurrence}
use Rattle.ob0_language_names.proofs.WorkedTrees.{least_constant}
use Rattle.ob0_language_values.specs.Values.{number}
use Rattle.ob0_language_types.specs.ConstantValues.{constant_value_in_module}

-- MODULE M; CONST c = -2147483647 - 1; VAR x: INTEGER; BEGIN x := 0 + c; Write(x) END M.
pub least-value : constant_value_in_module least_constant 7 ≡ Some (number (negsuc 2147483647))
unfolding constant_value_in_module
least-value = refl

pub variable-no_value : constant_value_in_module least_constant 8 ≡ None
unfolding constant_value_in_module
variable-no_value = refl

pub predeclared-no_value : constant_value_in_module least_constant 2 ≡ None
unfolding constant_value_in_module
predeclared-no_value = refl

pub use-bound : ordinal_bound_at_occurrence least_constant 2 ≡ Some 7
use-bound = refl

pub truth-seen : resolve_name_at_occurrence least_constant 2 (codes "TRUE") ≡ Some 2
truth-seen = refl

pub variable-seen : resolve_name_at_occurrence least_constant 2 (codes "x") ≡ Some 8
variable-seen = refl

pub unknown-seen : resolve_name_at_occurrence least_constant 2 (codes "y") ≡ None
unknown-seen = refl
