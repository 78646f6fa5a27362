-- Each shape is the same as itself (`same_shape`).
use Rattle.std.proofs.Common.{◌≡◌, true, ◌&&◌, ◌==◌, refl, eq-eqb}
use Rattle.std.proofs.lemmas.Cmp.{nat_list_eq_equiv}
use Rattle.std.proofs.lemmas.Bool.{and_from}
use Rattle.ob0_language_names.specs.Names.{same_name}
use Rattle.ob0_language_values.specs.Values.{FieldShapes, Shape, array_shape, boolean_shape, integer_shape, next_field_shape, no_field_shape, record_shape}
use Rattle.ob0_language_types.specs.WellTyped.{same_fields, same_shape}

mutual
  pub same_shape-refl : (s : Shape) → same_shape s s ≡ true
  same_shape-refl integer_shape = refl
  same_shape-refl boolean_shape = refl
  same_shape-refl (array_shape k n s) = and_from (k == k) ((n == n) && same_shape s s) (eq-eqb k k refl) (and_from (n == n) (same_shape s s) (eq-eqb n n refl) (same_shape-refl s))
  same_shape-refl (record_shape k fs) = and_from (k == k) (same_fields fs fs) (eq-eqb k k refl) (same_fields-refl fs)

  pub same_fields-refl : (fs : FieldShapes) → same_fields fs fs ≡ true
  same_fields-refl no_field_shape = refl
  same_fields-refl (next_field_shape x s rest) =
      and_from (same_name x x) (same_shape s s && same_fields rest rest) (nat_list_eq_equiv.refl x) (and_from (same_shape s s) (same_fields rest rest) (same_shape-refl s) (same_fields-refl rest))
