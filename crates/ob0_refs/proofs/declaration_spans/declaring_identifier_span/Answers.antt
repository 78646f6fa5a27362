use Rattle.std.proofs.Common.{Some, option_map, sym, ap, ◌∙◌}
use Rattle.ob0_tree.specs.ParsedModule.{ParsedModule}
use Rattle.ob0_scope_table.specs.Resolution.{token_span, declaration_token}
use Rattle.ob0_refs.proofs.declaration_spans.declaring_identifier_span.Goals as goal

pub returns-in-Some : goal.returns-in-Some
returns-in-Some c =
    let m = c.args.names.now.module_read in
    let token = c.in-Some.token in
    let source = c.tokens-tokens.ensures.source ∙ ap (λ (m : ParsedModule). m.source) c.module.ensures.value in
    let declaring = sym c.in-Some.is ∙ (c.declaring_token.ensures ∙ ap (λ ds. declaration_token ds c.args.ordinal) c.module.ensures.resolved.declaring) in
    ap Some (c.token_span.ensures ∙ ap (λ s. token_span s token) source) ∙ ap (option_map (token_span m.source)) declaring

pub returns-in-None : goal.returns-in-None
returns-in-None c =
    let m = c.args.names.now.module_read in
    let declaring = sym c.in-None.is ∙ (c.declaring_token.ensures ∙ ap (λ ds. declaration_token ds c.args.ordinal) c.module.ensures.resolved.declaring) in
    ap (option_map (token_span m.source)) declaring
