use Rattle.std.proofs.Common.{ap, ◌∙◌, ◌<◌, length, arith}
use Rattle.ob0_scope.proofs.ChangedInPlace.{changed_on}
use Rattle.ob0_scope.specs.BindingsOutsideBody.{shifted_token}
use Rattle.ob0_scope.proofs.body_range.BodyRange.shift_tokens.Goals as goal

pub loop-position-preserved : goal.loop-position-preserved
loop-position-preserved c =
    let here = c.index.result.now in
    let inside : c.loop-position.position < length c.args.tokens.now.items = omega (arith, c.loop-position-test.true, c.len-position-end.ensures, c.args.tokens.now.ok) in
    changed_on (shifted_token c.args.self) c.args.tokens.now.items c.args.start c.requires c.loop-position.position c.loop-position.tokens.items here inside c.loop-position.invariant _
    (c.shifted_token.ensures ∙ ap (shifted_token c.args.self) c.index.ensures)
