use Rattle.std.proofs.Common.{◌≡◌, ◌∙◌, false}
use Rattle.std.proofs.Math.Bool.{or-false, or-true}
use Rattle.ob0_session.proofs.StreamLaws.{writes_more}
use Rattle.ob0_session.proofs.Written.{failing, front_of_first, front_of_later, passing, whatever}
use Rattle.ob0_session.proofs.serve_loop.write_frame.Goals as goal

pub returns-clause-whole : goal.returns-clause-whole
returns-clause-whole g c =
    let state = g.S.Stream.state in
    let call = state c.args.stream.now in
    let mid = state c.write_all_bytes.new.stream in
    let new = state c.write_all_bytes-2.new.stream in
    let fine : mid.output.has_failed ≡ false = c.in_ok-write_all_bytes.ensures.noted ∙ (or-false call.output.has_failed ∙ c.requires.not_failed) in
    passing c.write_all_bytes-2.result mid.output.has_failed new.output.has_failed fine c.write_all_bytes-2.ensures.noted
    (writes_more call mid new c.args.head.now c.args.content.now c.in_ok-write_all_bytes.ensures.whole)
    c.write_all_bytes-2.ensures.whole

pub returns-clause-front : goal.returns-clause-front
returns-clause-front g c =
    let state = g.S.Stream.state in
    failing c.write_all_bytes-2.result _ _ c.write_all_bytes-2.ensures.noted
    (front_of_later (state c.args.stream.now) (state c.write_all_bytes.new.stream) (state c.write_all_bytes-2.new.stream) c.args.head.now c.args.content.now c.in_ok-write_all_bytes.ensures.whole)
    c.write_all_bytes-2.ensures.front

pub returns-in_err-write_all_bytes-clause-front : goal.returns-in_err-write_all_bytes-clause-front
returns-in_err-write_all_bytes-clause-front g c =
    let state = g.S.Stream.state in
    whatever c.from_residual.result (
      front_of_first (state c.args.stream.now) (state c.write_all_bytes.new.stream) c.args.head.now c.args.content.now c.in_err-write_all_bytes.ensures.front,
      c.in_err-write_all_bytes.ensures.noted ∙ or-true _,
    )
