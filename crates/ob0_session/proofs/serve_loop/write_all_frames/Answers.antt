use Rattle.std.proofs.Common.{◌∙◌, ◌++◌, Vec, Global, ℕ, arith, ap₂, subst, sym}
use Rattle.ob0_frame.specs.Frames.{frame}
use Rattle.ob0_session.specs.ServeSteps.{WritesPrefixToStream, WritesToStream}
use Rattle.ob0_session.proofs.StreamLaws.{writes_more}
use Rattle.ob0_session.proofs.Written.{frames_next, frames_split, front_after, head_text, whatever}
use Rattle.ob0_session.proofs.serve_loop.write_all_frames.Goals as goal

pub returns-in_err-write_frame-clause-front : goal.returns-in_err-write_frame-clause-front
returns-in_err-write_frame-clause-front g c =
    let state = g.S.Stream.state in
    let messages = c.args.messages.now in
    let i = c.loop-i.i in
    let head = head_text (λ (v : Vec ℕ Global). v.items) c.args.heads.now messages i c.index-heads-i.result c.index-messages-i.result c.requires.heads (omega arith) c.index-heads-i.is c.index-messages-i.is in
    let is = ap₂ (λ h m. h ++ m) (c.as_slice.ensures.value ∙ head) c.as_slice-in-loop-i.ensures.value in
    let old = state c.args.stream.now in
    let mid = state c.loop-i.stream in
    let new = state c.write_frame.new.stream in
    whatever c.from_residual.result (
      front_after old mid new _ (frame c.index-messages-i.result.items) _ _ c.loop-i.invariant.sent (subst (WritesPrefixToStream mid new) is c.in_err-write_frame.ensures.front.0)
          (frames_split (λ (v : Vec ℕ Global). v.items) messages i c.index-messages-i.result (omega arith) c.index-messages-i.is),
      c.in_err-write_frame.ensures.front.1,
    )

pub loop-i-preserved : goal.loop-i-preserved
loop-i-preserved g c =
    let state = g.S.Stream.state in
    let messages = c.args.messages.now in
    let i = c.loop-i.i in
    let head = head_text (λ (v : Vec ℕ Global). v.items) c.args.heads.now messages i c.index-heads-i.result c.index-messages-i.result c.requires.heads (omega arith) c.index-heads-i.is c.index-messages-i.is in
    let is = ap₂ (λ h m. h ++ m) (c.as_slice.ensures.value ∙ head) c.as_slice-in-loop-i.ensures.value in
    let old = state c.args.stream.now in
    let mid = state c.loop-i.stream in
    let new = state c.write_frame.new.stream in
    record {
      sent = subst (WritesToStream old new) (sym (frames_next (λ (v : Vec ℕ Global). v.items) messages i c.index-messages-i.result (omega arith) c.index-messages-i.is))
          (writes_more old mid new _ (frame c.index-messages-i.result.items) c.loop-i.invariant.sent (subst (WritesToStream mid new) is c.in_ok-write_frame.ensures.whole.0));
      not_failed = c.in_ok-write_frame.ensures.whole.1;
    }
