use Rattle.std.proofs.Common.{refl, rules, arith}
use Rattle.ob0_tree.specs.View.{procedure_of}
use Rattle.ob0_parse.proofs.Moved.{next_down, ends, parts_moved}
use Rattle.ob0_parse.proofs.MovedParts.{block_moved}
use Rattle.ob0_parse.proofs.leaf_shifts.+blocks.Goals as goal

pub shift_indexes_in_procedures-loop-i-preserved : goal.shift_indexes_in_procedures-loop-i-preserved
shift_indexes_in_procedures-loop-i-preserved t c = next_down c.loop-i.invariant (search (rules, arith)) c.index_mut.ensures.value c.shift_indexes_in_procedure.ensures

pub shift_indexes_in_procedures-returns : goal.shift_indexes_in_procedures-returns
shift_indexes_in_procedures-returns t c = parts_moved procedure_of c.args.by _ _ (ends c.loop-i.invariant.1 (search (rules, arith)))

pub shift_indexes_in_block-returns : goal.shift_indexes_in_block-returns
shift_indexes_in_block-returns t c =
    block_moved c.args.by c.args.b.now _ _ _ _ c.shift_indexes_in_constant_section.new.declared c.shift_indexes_in_type_section.new.declared c.shift_indexes_in_variable_section.new.declared c.shift_indexes_in_procedures.new.ps c.shift_indexes_in_body.new.statements refl refl refl refl
    c.shift_indexes_in_constant_section.ensures c.shift_indexes_in_type_section.ensures c.shift_indexes_in_variable_section.ensures c.shift_indexes_in_procedures.ensures c.shift_indexes_in_body.ensures
