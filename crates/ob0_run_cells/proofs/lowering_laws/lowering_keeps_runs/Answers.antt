use Rattle.ob0_run_cells.proofs.LoweringKeepsRuns.{lowering_keeps_runs-holds}
use Rattle.ob0_run_cells.proofs.lowering_laws.lowering_keeps_runs.Goals as goal

pub returns : goal.returns
returns c = lowering_keeps_runs-holds
