use Rattle.std.proofs.Common.{ap, ◌∙◌, ◌+◌, arith, slice_index_or, slice_set}
use Rattle.ob0_scan.specs.declared.lexeme.Span.{Span}
use Rattle.ob0_scan.specs.ReusedLexemes.{span_after_shift}
use Rattle.ob0_scan.proofs.Kept.{changed_there, unchanged_there}
use Rattle.ob0_scan.proofs.old_lexemes.shift_comments.Goals as goal

pub loop-comment-preserved : goal.loop-comment-preserved
loop-comment-preserved c =
    let shifted = span_after_shift c.args.change.removed c.args.change.added in
    let i = c.loop-comment.comment-index in
    let other : Span = record { start = 0; end = 0 } in
    ap (λ ts. slice_set ts i c.span_after_shift.result) c.loop-comment.invariant
    ∙ changed_there shifted c.args.comments.now i (i + 1) other c.span_after_shift.result c.loop-comment-test.true (omega arith)
    (c.span_after_shift.ensures
    ∙ ap shifted (ap (λ ts. slice_index_or ts i other) c.loop-comment.invariant ∙ unchanged_there shifted c.args.comments.now i other c.loop-comment-test.true))
