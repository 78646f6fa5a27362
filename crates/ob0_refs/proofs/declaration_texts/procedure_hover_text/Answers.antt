use Rattle.std.proofs.Common.{◌≡◌, map, ap, ap₂, ◌∙◌}
use Rattle.std.proofs.lemmas.Result.{IfOk-weaker}
use Rattle.ob0_refs.specs.DeclarationViews.{signature_view}
use Rattle.ob0_refs.specs.DeclarationTexts.{names_declared_after_declaration, hover_parameters_of_signature}
use Rattle.ob0_refs.specs.Hovers.{procedure_text}
use Rattle.ob0_refs.specs.HoverParameters.{parameter_view}
use Rattle.ob0_tree.specs.TokenIndexLeaves.{token_text_at}
use Rattle.ob0_refs.proofs.declaration_texts.procedure_hover_text.Goals as goal

pub returns : goal.returns
returns c =
    let m = c.args.names.now.module_read in
    let signature = signature_view c.args.known.now c.args.formals.now in
    let name : c.token_text_at.result.now ≡ token_text_at m.source c.args.name.token = c.token_text_at.ensures ∙ ap (λ s. token_text_at s c.args.name.token) c.tokens-2.ensures in
    let following : map (token_text_at c.tokens.result.now) c.declaring_tokens_after_declaration-following.result.now ≡ names_declared_after_declaration m c.args.name.ordinal =
    ap (λ s. map (token_text_at s) c.declaring_tokens_after_declaration-following.result.now) c.tokens.ensures ∙ ap (map (token_text_at m.source)) c.declaring_tokens_after_declaration-following.ensures in
    let list : map parameter_view c.as_slice.result.now ≡ hover_parameters_of_signature (names_declared_after_declaration m c.args.name.ordinal) signature =
    ap (map parameter_view) c.as_slice.ensures.value ∙ c.in_ok-parameters.ensures ∙ ap (λ xs. hover_parameters_of_signature xs signature) following in
    IfOk-weaker c.procedure_text.result _ _ (λ text h. h ∙ ap₂ procedure_text name list) c.procedure_text.ensures
