use Rattle.std.proofs.Common.{◌≡◌, ◌∙◌, ap, sym, rules, arith}
use Rattle.ob0_tree.specs.declared.tree.RecordType.{RecordType}
use Rattle.ob0_tree.specs.View.{record_type_of_list, type_of}
use Rattle.ob0_tree.specs.declared.tree.WrittenType.{Record, the_lemmas}
use Rattle.ob0_parse.specs.ShiftedTrees.{tree_with_shifted_leaves}
use Rattle.ob0_parse.proofs.Moved.{next_down, ends, record_moved}
use Rattle.ob0_parse.proofs.MovedParts.{record_type_moved}
use Rattle.ob0_parse.proofs.leaf_shifts.+types.Goals as goal

pub shift_indexes_in_field_groups-loop-i-preserved : goal.shift_indexes_in_field_groups-loop-i-preserved
shift_indexes_in_field_groups-loop-i-preserved t c = next_down c.loop-i.invariant (search (rules, arith)) c.index_mut.ensures.value c.shift_indexes_in_optional_field_group.ensures

pub shift_indexes_in_field_groups-returns : goal.shift_indexes_in_field_groups-returns
shift_indexes_in_field_groups-returns t c = record_moved c.args.by _ _ (ends c.loop-i.invariant.1 (search (rules, arith)))

pub shift_indexes_in_type-returns-in-Record : goal.shift_indexes_in_type-returns-in-Record
shift_indexes_in_type-returns-in-Record t c =
    let h : record_type_of_list c.shift_indexes_in_field_groups.new.parts.items ≡ tree_with_shifted_leaves c.args.by (record_type_of_list c.in-Record.r.groups.items) =
    c.shift_indexes_in_field_groups.ensures ∙ ap (λ (r : RecordType). tree_with_shifted_leaves c.args.by (record_type_of_list r.groups.items)) c.in-Record.r-is in
    let all : type_of (Record record { groups = c.shift_indexes_in_field_groups.new.parts }) ≡ tree_with_shifted_leaves c.args.by (type_of c.args.t.now) =
    record_type_moved c.args.by c.in-Record.r record { groups = c.shift_indexes_in_field_groups.new.parts } h ∙ ap (λ t. tree_with_shifted_leaves c.args.by (type_of t)) (sym c.in-Record.is) in
    search (rules, the_lemmas, all)
