use Rattle.std.proofs.Common.{◌∷◌, [], ◌++◌, map, ap, ◌∙◌, append_assoc}
use Rattle.ob0_types_check.proofs.Listed.{repeated_ends, repeated_on}
use Rattle.ob0_types_check.proofs.reporting.declarations.add_formal_parameters.Goals as goal

pub loop-name-preserved : goal.loop-name-preserved
loop-name-preserved c = repeated_on 0 c.loop-name.invariant c.loop-name-test.true c.in_ok-push-2.ensures.items

pub returns : goal.returns
returns c =
    let all = c.deref-name-items.result.now in
    let repeated = map (λ name. c.args.formal) all in
    repeated_ends c.loop-name.invariant c.loop-name-test.false
    ∙ ap (λ fs. fs ++ repeated) c.in_ok-push.ensures.items
    ∙ append_assoc c.args.formals.now.items (c.args.formal ∷ []) repeated
    ∙ ap (λ xs. c.args.formals.now.items ++ c.args.formal ∷ map (λ name. c.args.formal) xs) c.deref-name-items.ensures.value
