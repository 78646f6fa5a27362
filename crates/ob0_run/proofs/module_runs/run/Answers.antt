use Rattle.ob0_tree.specs.ParsedModule.{named_tree_of}
use Rattle.ob0_run.proofs.module_runs.run.Goals as goal

pub returns : goal.returns
returns c = c.execute.ensures (named_tree_of c.args.checked.now.module_read) c.in_ok-program.ensures.runs
