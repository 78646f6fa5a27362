use Rattle.ob0_tree.proofs.Viewed.{block_made}
use Rattle.ob0_parse.proofs.module_block.ModuleBlockWithoutProcedures.into_block_with_procedures.Goals as goal

pub returns : goal.returns
returns c = block_made _
