use Rattle.std.proofs.Common.{arith, ap, ◌∙◌}
use Rattle.ob0_language_names.specs.Names.{naming_by_spelling}
use Rattle.ob0_language_names.specs.Scopes.{ordinal_in_scope}
use Rattle.ob0_scope_numbering.specs.StoredScopes.{VisibleNames}
use Rattle.ob0_scope_numbering.proofs.Shadows.{looked_up_below, looked_up_none, looked_up_some}
use Rattle.ob0_scope_numbering.proofs.scope_bindings.ScopeBindings.look_up_new_name.Goals as goal

pub index-requires : goal.index-requires
index-requires c =
    let found = c.in-Some.ensures c.self.inside.new_name.now c.self.invariant.first in
    let below = looked_up_below c.self.inside.newest c.self.inside.bindings.items c.self.inside.new_name.now c.in-Some.index c.self.invariant.is found in
    omega (arith, below, c.self.inside.bindings.ok)

pub returns : goal.returns
returns c =
    let found = c.in-Some.ensures c.self.inside.new_name.now c.self.invariant.first in
    looked_up_some c.self.inside.newest c.self.inside.bindings.items c.self.inside.new_name.now c.in-Some.index c.index.result.now c.self.invariant.is found c.index.ensures
    ∙ ap (λ (v : VisibleNames). ordinal_in_scope naming_by_spelling v.scope v.new_name) c.self.view_is

pub returns-in-None : goal.returns-in-None
returns-in-None c =
    let found = c.in-None.ensures c.self.inside.new_name.now c.self.invariant.first in
    looked_up_none c.self.inside.newest c.self.inside.bindings.items c.self.inside.new_name.now c.self.invariant.is found
    ∙ ap (λ (v : VisibleNames). ordinal_in_scope naming_by_spelling v.scope v.new_name) c.self.view_is
