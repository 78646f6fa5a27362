use Rattle.std.proofs.Common.{rules, arith}
use Rattle.ob0_tree.specs.View.{constant_declaration_of}
use Rattle.ob0_parse.proofs.Moved.{next, ends, parts_moved}
use Rattle.ob0_parse.proofs.leaf_shifts.shift_indexes_in_constant_declarations.Goals as goal

pub loop-i-preserved : goal.loop-i-preserved
loop-i-preserved c = next c.loop-i.invariant (search (rules, arith)) c.index_mut.ensures.value c.shift_indexes_in_constant_declaration.ensures

pub returns : goal.returns
returns c = parts_moved constant_declaration_of c.args.by _ _ (ends c.loop-i.invariant.1 (search (rules, arith)))
