use Rattle.ob0_layout.proofs.Modules as modules
use Rattle.ob0_layout.proofs.laws.formatting_keeps_module_tree.Goals as goal

pub returns : goal.returns
returns c = modules.layout_module
