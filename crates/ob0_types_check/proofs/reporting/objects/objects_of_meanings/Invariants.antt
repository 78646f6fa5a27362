use Rattle.std.proofs.Common.{◌≡◌, ◌++◌, length, map, option_map}
use Rattle.std.specs.Vec.Iter.{into_iter_items, into_iter_len}
use Rattle.ob0_types_check.specs.CheckerViews.{table_object_of_meaning}
use Rattle.ob0_types_check.proofs.reporting.objects.objects_of_meanings.Given as goal

-- The objects so far, followed by the objects of the remaining meanings, are the objects of all meanings.
abbrev pub invariant-loop-meaning : goal.invariant-loop-meaning
invariant-loop-meaning l =
    (map (option_map table_object_of_meaning) (into_iter_items l.initial.meaning-iterator) ≡ l.objects.items ++ map (option_map table_object_of_meaning) (into_iter_items l.meaning-iterator))
    × (into_iter_len l.meaning-iterator ≡ length (into_iter_items l.meaning-iterator))
