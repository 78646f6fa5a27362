use Rattle.std.proofs.Common.{ap, rules, arith}
use Rattle.ob0_tree.specs.Tree.{comma_then_name}
use Rattle.ob0_parse.proofs.Moved.{next, ends, parts_moved}
use Rattle.ob0_parse.proofs.leaf_shifts.shift_indexes_in_names_after_first.Goals as goal

pub loop-i-preserved : goal.loop-i-preserved
loop-i-preserved c = next c.loop-i.invariant (search (rules, arith)) c.index_mut-leaf.ensures.value (ap comma_then_name c.shifted_leaf.ensures)

pub returns : goal.returns
returns c = parts_moved comma_then_name c.args.by _ _ (ends c.loop-i.invariant.1 (search (rules, arith)))
