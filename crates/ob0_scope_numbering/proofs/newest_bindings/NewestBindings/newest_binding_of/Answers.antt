use Rattle.std.proofs.Common.{sym}
use Rattle.ob0_scope_numbering.proofs.NewestNames.{newest_none}
use Rattle.ob0_scope_numbering.proofs.newest_bindings.NewestBindings.newest_binding_of.Goals as goal

pub returns-in-None-clause-found : goal.returns-in-None-clause-found
returns-in-None-clause-found c = sym (newest_none c.args.self.now c.args.name.now (sym c.in-None.ensures.found))
