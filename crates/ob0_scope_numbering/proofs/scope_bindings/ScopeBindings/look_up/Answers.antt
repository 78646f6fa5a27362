use Rattle.std.proofs.Common.{arith, ap, ◌∙◌}
use Rattle.ob0_language_names.specs.Names.{naming_by_spelling}
use Rattle.ob0_language_names.specs.Scopes.{ordinal_in_scope}
use Rattle.ob0_scope_numbering.specs.StoredScopes.{VisibleNames}
use Rattle.ob0_scope_numbering.proofs.Shadows.{looked_up_below, looked_up_none, looked_up_some}
use Rattle.ob0_scope_numbering.proofs.scope_bindings.ScopeBindings.look_up.Goals as goal

pub index-requires : goal.index-requires
index-requires c =
    let below = looked_up_below c.self.inside.newest c.self.inside.bindings.items c.args.name.now c.in-Some.index c.self.invariant.is c.in-Some.ensures.found in
    omega (arith, below, c.self.inside.bindings.ok)

pub returns-clause-found : goal.returns-clause-found
returns-clause-found c =
    looked_up_some c.self.inside.newest c.self.inside.bindings.items c.args.name.now c.in-Some.index c.index.result.now c.self.invariant.is c.in-Some.ensures.found c.index.ensures
    ∙ ap (λ (v : VisibleNames). ordinal_in_scope naming_by_spelling v.scope c.args.name.now) c.self.view_is

pub returns-in-None-clause-found : goal.returns-in-None-clause-found
returns-in-None-clause-found c =
    looked_up_none c.self.inside.newest c.self.inside.bindings.items c.args.name.now c.self.invariant.is c.in-None.ensures.found
    ∙ ap (λ (v : VisibleNames). ordinal_in_scope naming_by_spelling v.scope c.args.name.now) c.self.view_is
