use Rattle.std.proofs.Common.{◌∙◌, ap}
use Rattle.std.proofs.lemmas.Result.{MatchResult-weaker}
use Rattle.ob0_scope.specs.BoundTokens.{first_bound_token, omitted_token, tokens_bound_in_table}
use Rattle.ob0_scope.proofs.TokensWith.{bound_with}
use Rattle.ob0_scope.proofs.bound_names.tokens_bound_to_declaration.Goals as goal

pub returns : goal.returns
returns c =
    let r = c.args.names.now in
    let d = c.args.declaration in
    let include = c.args.include in
    let declaring = c.declaring_token-declaring.ensures in
    let first = c.first_bound_token.ensures ∙ ap first_bound_token declaring in
    MatchResult-weaker c.tokens_bound_in_table.result c.tokens_bound_in_table.ensures
    (λ found e. e ∙ ((λ i. tokens_bound_in_table ((c.omitted_token.ensures ∙ ap (omitted_token include) declaring) i) d (first i) (c.ordinals.ensures i)) ∙ bound_with r d include c.module.ensures.resolved)) (λ y h. h)
