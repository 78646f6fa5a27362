use Rattle.std.proofs.Common.{subst}
use Rattle.ob0_scope_numbering.specs.StoredScopes.{EachBindingHasNamePosition, HasCorrectBindingIndexes}
use Rattle.ob0_scope_numbering.proofs.Shadows.{binding_dropped, one_less_placed, still_placed}
use Rattle.ob0_scope_numbering.proofs.scope_bindings.ScopeBindings.pop_binding.Goals as goal

pub set_newest_binding-requires : goal.set_newest_binding-requires
set_newest_binding-requires c =
    let left = c.in-Some.left in
    (one_less_placed c.self.inside.newest c.pop.new.self.items left (subst (EachBindingHasNamePosition c.self.inside.newest) c.in-Some.ensures.items c.self.invariant.placed)).1

pub invariant_of-self-2 : goal.invariant_of-self-2
invariant_of-self-2 c =
    let left = c.in-Some.left in
    let was = subst (HasCorrectBindingIndexes c.self.inside.newest) c.in-Some.ensures.items c.self.invariant.is in
    let placed = one_less_placed c.self.inside.newest c.pop.new.self.items left (subst (EachBindingHasNamePosition c.self.inside.newest) c.in-Some.ensures.items c.self.invariant.placed) in
    record {
      is = binding_dropped c.self.inside.newest c.set_newest_binding.new.self c.pop.new.self.items left was c.set_newest_binding.ensures.renewed;
      placed = still_placed c.self.inside.newest c.set_newest_binding.new.self c.pop.new.self.items c.set_newest_binding.ensures.name_positions placed.0;
      first = c.set_newest_binding.ensures.name_positions c.self.inside.new_name.now 0 c.self.invariant.first;
    }
