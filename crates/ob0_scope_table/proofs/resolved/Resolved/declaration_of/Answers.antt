use Rattle.std.proofs.Common.{Some, None, ◌∙◌, subst}
use Rattle.ob0_scope_table.specs.Resolution.{IsResolution}
use Rattle.ob0_scope_table.proofs.Bound.{bound_at}
use Rattle.ob0_scope_table.proofs.resolved.Resolved.declaration_of.Goals as goal

pub returns-in-Some : goal.returns-in-Some
returns-in-Some c =
    let is = subst IsResolution c.self.view_is c.self.invariant in
    c.ordinal_at.ensures ∙ bound_at c.args.self.now is c.args.occurrence (Some c.in-Some.token) c.in-Some.ensures

pub returns-in-None : goal.returns-in-None
returns-in-None c =
    let is = subst IsResolution c.self.view_is c.self.invariant in
    bound_at c.args.self.now is c.args.occurrence None c.in-None.ensures
