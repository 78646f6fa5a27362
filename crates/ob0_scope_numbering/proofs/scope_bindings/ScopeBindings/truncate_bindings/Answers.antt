use Rattle.std.proofs.Common.{◌≡◌, ◌-◌, drop, length, ap, ◌∙◌, arith}
use Rattle.std.proofs.lemmas.List.{drop-drop}
use Rattle.ob0_scope_numbering.specs.StoredScopes.{VisibleNames, with_scope}
use Rattle.ob0_scope_numbering.proofs.scope_bindings.ScopeBindings.truncate_bindings.Goals as goal

pub loop-left-preserved : goal.loop-left-preserved
loop-left-preserved c =
    c.pop_binding.ensures ∙ (ap (λ (v : VisibleNames). with_scope v (drop 1 v.scope)) c.loop-left.invariant
    ∙ ap (with_scope c.args.self.now) (drop-drop 1 c.loop-left._left c.args.self.now.scope))

pub returns : goal.returns
returns c =
    let count : c.loop-left._left ≡ length c.args.self.now.scope - c.args.len = omega arith in
    c.loop-left.invariant ∙ ap (λ n. with_scope c.args.self.now (drop n c.args.self.now.scope)) count
