use Rattle.std.proofs.Common.{List, drop, sym, ap, ◌∙◌}
use Rattle.std.specs.List.{position_from}
use Rattle.ob0_scan.specs.declared.lexeme.Token.{Token}
use Rattle.ob0_scan.specs.TextWithTokens.{TextWithTokens}
use Rattle.ob0_language_values.specs.Scalars.{scalar_value}
use Rattle.ob0_inline.specs.Declarations.{is_semicolon}
use Rattle.ob0_inline.proofs.Ended.{end_known, none_some, token_known}
use Rattle.ob0_inline.proofs.declared_constants.constant_with_declaration_tokens.Goals as goal

pub returns-in-None-end_of_declaration : goal.returns-in-None-end_of_declaration
returns-in-None-end_of_declaration c =
    let first = c.in-Some.first in
    let tokens = c.tokens-in-Some.ensures ∙ ap (λ (s : TextWithTokens). s.tokens) c.tokens.ensures in
    none_some _
    (sym c.in-None-end_of_declaration.is
    ∙ (c.end_of_declaration.ensures
    ∙ (ap (λ (ts : List Token). position_from (λ (t : Token). is_semicolon t.kind) first (drop first ts)) tokens
    ∙ end_known c.args.names.now c.module-module.ensures.resolved c.args.ordinal (scalar_value c.args.value) c.requires.has_value first (sym c.in-Some.is ∙ c.declaring_token.ensures))))

pub returns-in-None : goal.returns-in-None
returns-in-None c =
    none_some _ (sym c.in-None.is ∙ (c.declaring_token.ensures ∙ token_known c.args.names.now c.module-module.ensures.resolved c.args.ordinal (scalar_value c.args.value) c.requires.has_value))
