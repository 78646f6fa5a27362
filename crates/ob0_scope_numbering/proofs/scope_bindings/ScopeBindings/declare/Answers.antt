use Rattle.std.proofs.Common.{◌≡◌, ◌++◌, List, [], ◌∷◌, Some, length, sym, ap, arith, vec_len, ◌∙◌, subst}
use Rattle.ob0_scope_numbering.specs.declared.scope_bindings.Binding.{Binding}
use Rattle.ob0_scope_numbering.specs.NewestBindingList.{SetsNewestBinding}
use Rattle.ob0_scope_numbering.specs.StoredScopes.{EachBindingHasNamePosition, HasCorrectBindingIndexes}
use Rattle.ob0_scope_numbering.proofs.Shadows.{bound_again, one_more_placed, still_newest, still_placed}
use Rattle.ob0_scope_numbering.proofs.scope_bindings.ScopeBindings.declare.Goals as goal

pub invariant_of-self-2 : goal.invariant_of-self-2
invariant_of-self-2 c =
    let items = c.self.inside.bindings.items in
    let b : Binding = record { name = c.args.name; name_position = c.in_ok-name_position.name_position; ordinal = c.args.ordinal; hidden_binding_index = c.newest_binding_at-hidden_binding_index.result } in
    let kept : c.reserve.new.self.items ≡ items = c.reserve.ensures.items in
    let was = still_newest c.self.inside.newest c.find_or_add_name.new.self items c.in_ok-name_position.ensures.newest c.self.invariant.is in
    let hidden_binding_index = c.newest_binding_at-hidden_binding_index.ensures ∙ was.found c.args.name.now in
    let count : vec_len c.reserve.new.self ≡ length c.reserve.new.self.items = omega (arith, c.reserve.new.self.ok) in
    let renewed = subst (λ i. SetsNewestBinding c.find_or_add_name.new.self c.set_newest_binding.new.self c.args.name.now (Some i)) (c.len.ensures ∙ (count ∙ ap length kept)) c.set_newest_binding.ensures.renewed in
    let all : c.push_reserved.new.self.items ≡ items ++ (b ∷ []) = c.push_reserved.ensures.items ∙ ap (λ (l : List Binding). l ++ (b ∷ [])) kept in
    let first = c.in_ok-name_position.ensures.name_positions c.self.inside.new_name.now 0 c.self.invariant.first in
    let there = still_placed c.find_or_add_name.new.self c.set_newest_binding.new.self items c.set_newest_binding.ensures.name_positions (still_placed c.self.inside.newest c.find_or_add_name.new.self items c.in_ok-name_position.ensures.name_positions c.self.invariant.placed) in
    let own = c.set_newest_binding.ensures.name_positions c.args.name.now c.in_ok-name_position.name_position c.in_ok-name_position.ensures.placed in
    record {
      is = subst (HasCorrectBindingIndexes c.set_newest_binding.new.self) (sym all) (bound_again c.find_or_add_name.new.self c.set_newest_binding.new.self items b was hidden_binding_index renewed);
      placed = subst (EachBindingHasNamePosition c.set_newest_binding.new.self) (sym all) (one_more_placed c.set_newest_binding.new.self items b there own);
      first = c.set_newest_binding.ensures.name_positions c.self.inside.new_name.now 0 first;
    }
