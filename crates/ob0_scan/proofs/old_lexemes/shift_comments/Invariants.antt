use Rattle.std.proofs.Common.{◌≡◌, ◌++◌, map, take, drop}
use Rattle.ob0_scan.specs.ReusedLexemes.{span_after_shift}
use Rattle.ob0_scan.proofs.old_lexemes.shift_comments.Given as goal

abbrev pub invariant-loop-comment : goal.invariant-loop-comment
invariant-loop-comment l = l.comments ≡ map (span_after_shift l.change.removed l.change.added) (take l.comment-index l.fn.comments) ++ drop l.comment-index l.fn.comments
