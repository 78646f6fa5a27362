use Rattle.std.proofs.Common.{◌+◌, ◌∙◌, arith, subst, take, sym}
use Rattle.ob0_scan.specs.Comments.{IsComment}
use Rattle.ob0_scan.proofs.Closings.{opening_step, closing_step, other_step, never_closed, just_closed, comment_closed, comment_none}
use Rattle.ob0_scan.proofs.leading_lexemes.leading_comment_len.Goals as goal
use Rattle.ob0_scan.proofs.leading_lexemes.leading_comment_len.Goals.{else-bytes-len-eq40-via-then-bytes-len-eq40+else-bytes-len-eq42, else-bytes-len-eq40-via-else-bytes-len-eq40, else-bytes-len-eq42-2-via-then-bytes-len-eq42-2+else-bytes-len-eq41, else-bytes-len-eq42-2-via-else-bytes-len-eq42-2}

pub loop-len-preserved-then-bytes-len-eq42 : goal.loop-len-preserved-then-bytes-len-eq42
loop-len-preserved-then-bytes-len-eq42 c = record {
  some_open = omega arith;
  few_open = omega arith;
  in_range = omega arith;
  same_end = opening_step c.args.bytes.now c.loop-len.len c.loop-len.depth (omega arith) c.if-bytes-len-eq40.true c.if-bytes-len-eq42.true c.loop-len.invariant.some_open ∙ c.loop-len.invariant.same_end;
}

pub loop-len-preserved-then-bytes-len-eq41 : goal.loop-len-preserved-then-bytes-len-eq41
loop-len-preserved-then-bytes-len-eq41 c = record {
  some_open = omega arith;
  few_open = omega arith;
  in_range = omega arith;
  same_end = closing_step c.args.bytes.now c.loop-len.len c.loop-len.depth (omega arith) c.if-bytes-len-eq42-2.true c.if-bytes-len-eq41.true c.loop-len.invariant.some_open ∙ c.loop-len.invariant.same_end;
}

pub loop-len-preserved : goal.loop-len-preserved
loop-len-preserved c = record {
  some_open = omega arith;
  few_open = omega arith;
  in_range = omega arith;
  same_end = other_step c.args.bytes.now c.loop-len.len c.loop-len.depth (omega arith)
      (λ paren star. elim c.else-bytes-len-eq40.branch [
        | else-bytes-len-eq40-via-then-bytes-len-eq40+else-bytes-len-eq42 w ↦ w.if-bytes-len-eq42.false star
        | else-bytes-len-eq40-via-else-bytes-len-eq40 w ↦ w.if-bytes-len-eq40.false paren
      ])
      (λ star close. elim c.else-bytes-len-eq42-2.branch [
        | else-bytes-len-eq42-2-via-then-bytes-len-eq42-2+else-bytes-len-eq41 w ↦ w.if-bytes-len-eq41.false close
        | else-bytes-len-eq42-2-via-else-bytes-len-eq42-2 w ↦ w.if-bytes-len-eq42-2.false star
      ])
      c.loop-len.invariant.some_open ∙ c.loop-len.invariant.same_end;
}

-- If the pair that was just read closes the last open comment, the text up to it is a comment.
pub returns-then-depth-eq0-clause-closed : goal.returns-then-depth-eq0-clause-closed
returns-then-depth-eq0-clause-closed c =
    let step = closing_step c.args.bytes.now c.loop-len.len c.loop-len.depth (omega arith) c.if-bytes-len-eq42-2.true c.if-bytes-len-eq41.true c.loop-len.invariant.some_open ∙ c.loop-len.invariant.same_end in
    let found = just_closed c.args.bytes.now (c.loop-len.len + 2) (rw c.if-depth-eq0.true at step) in
    subst (λ n. IsComment (take n c.args.bytes.now)) (sym found.2) (comment_closed c.args.bytes.now found.0 c.requires found.1).1

pub returns-clause-unclosed : goal.returns-clause-unclosed
returns-clause-unclosed c =
    comment_none c.args.bytes.now (never_closed c.args.bytes.now c.loop-len.len c.loop-len.depth c.loop-len.invariant.some_open c.loop-len-test.false c.loop-len.invariant.same_end)
