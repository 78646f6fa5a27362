use Rattle.std.proofs.Common.{arith}
use Rattle.std.proofs.lemmas.Grind.{common_steps}
use Rattle.std.proofs.lemmas.List.{take-take}
use Rattle.std.proofs.lemmas.Slice.{between_is}
use Rattle.ob0_run_machine.proofs.memory.Memory.push_copied_cells.Goals as goal

pub returns-clause-items : goal.returns-clause-items
returns-clause-items c = grind (arith, common_steps, take-take, between_is c.args.cells.now.items c.args.from c.args.base)
