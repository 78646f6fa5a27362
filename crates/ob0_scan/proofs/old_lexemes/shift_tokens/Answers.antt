use Rattle.std.proofs.Common.{ap, ◌∙◌, ◌+◌, arith, slice_index_or, slice_set}
use Rattle.ob0_scan.specs.declared.lexeme.Span.{Span}
use Rattle.ob0_scan.specs.declared.lexeme.Token.{Token}
use Rattle.ob0_scan.specs.declared.lexeme.TokenKind.TheVariants.{Identifier}
use Rattle.ob0_scan.specs.ReusedLexemes.{token_after_shift}
use Rattle.ob0_scan.proofs.Kept.{changed_there, unchanged_there}
use Rattle.ob0_scan.proofs.old_lexemes.shift_tokens.Goals as goal

pub loop-token-preserved : goal.loop-token-preserved
loop-token-preserved c =
    let shifted = token_after_shift c.args.change.removed c.args.change.added in
    let i = c.loop-token.token-index in
    let other : Token = record { kind = Identifier; span = record { start = 0; end = 0 } } in
    let here : Token = slice_index_or c.loop-token.tokens i other in
    let now : Token = record { kind = here.kind; span = c.span_after_shift-token.result } in
    ap (λ ts. slice_set ts i now) c.loop-token.invariant
    ∙ changed_there shifted c.args.tokens.now i (i + 1) other now c.loop-token-test.true (omega arith)
    (ap (λ (s : Span). record { kind = here.kind; span = s }) c.span_after_shift-token.ensures
    ∙ ap shifted (ap (λ ts. slice_index_or ts i other) c.loop-token.invariant ∙ unchanged_there shifted c.args.tokens.now i other c.loop-token-test.true))
