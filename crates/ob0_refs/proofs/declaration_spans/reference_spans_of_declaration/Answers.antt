use Rattle.std.proofs.Common.{map, ◌∙◌}
use Rattle.std.proofs.lemmas.Result.{MatchResult-weaker}
use Rattle.ob0_scope_table.specs.Resolution.{token_span}
use Rattle.ob0_refs.proofs.declaration_spans.reference_spans_of_declaration.Goals as goal

pub returns : goal.returns
returns c =
    let found = c.deref.ensures.value ∙ c.in_ok-found.ensures in
    MatchResult-weaker c.token_spans.result c.token_spans.ensures (λ spans e. e ∙ (λ i. map (token_span (c.tokens.ensures i)) (found i))) (λ y h. h)
