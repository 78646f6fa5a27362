use Rattle.std.proofs.Common.{◌∙◌, [], List, ℕ, Vec, Global, Err, map, refl, sym, ap, subst}
use Rattle.ob0_frame.specs.FramerState.{FramerState}
use Rattle.ob0_session.specs.ServeSteps.{SendsFrames}
use Rattle.ob0_session.proofs.Waiting.{stepped, not_sent, ended_phase, taken_next, nothing_answered}
use Rattle.ob0_session.proofs.StreamLaws.{writes_more, writes_nothing}
use Rattle.ob0_session.proofs.serve_loop.answer_waiting_messages.Goals as goal

pub loop-content-init : goal.loop-content-init
loop-content-init g c =
    record {
      put = [];
      answered = nothing_answered c.args.framer.now.waiting c.args.session.now;
      appends = writes_nothing (g.S.Stream.state c.args.stream.now);
      not_ended = c.requires.serves;
      writes = c.requires.writes;
      rest = refl;
    }

pub returns-clause-answers : goal.returns-clause-answers
returns-clause-answers g c =
    let i = c.loop-content.invariant in (
      i.put,
      i.appends,
      record {
        answered = rw c.in_default.ensures.1 i.answered;
        none_left = ap (λ (f : FramerState). f.waiting) c.in_default.ensures.1 ∙ c.in_default.ensures.0;
        not_ended = i.not_ended;
        not_failed = i.writes;
      },
    )

pub returns-in-Err-clause-answers : goal.returns-in-Err-clause-answers
returns-in-Err-clause-answers g c =
    let i = c.loop-content.invariant in
    let h = taken_next c.loop-content.framer c.next.new.self c.as_slice.result.now c.args.framer.now.waiting c.args.session.now c.loop-content.session i.put (rw c.as_slice.ensures.value c.in-Some.ensures) i.answered in
    let s = stepped _ c.args.session.now c.loop-content.session c.as_slice.result.now c.next.new.self.waiting i.put c.step.new.self c.in-Ok.step h c.in-Ok.ensures.ok in
    let sent = subst (λ (xs : List (Vec ℕ Global)). SendsFrames (g.S.Stream.state c.loop-content.stream) (g.S.Stream.state c.send_messages.new.stream) (map (λ v. v.items) xs) (Err c.in-Err.fault) (g.S.Stream.state c.send_messages.new.stream).output.has_failed) c.as_slice-in-Some.ensures.value c.in-Err.ensures in
    not_sent c.in-Err.fault _ _ _ _ c.args.session.now c.loop-content.session c.as_slice.result.now c.next.new.self.waiting i.put c.step.new.self c.in-Ok.step _ h s i.appends sent

pub returns-in-End-clause-answers : goal.returns-in-End-clause-answers
returns-in-End-clause-answers g c =
    let i = c.loop-content.invariant in
    let h = taken_next c.loop-content.framer c.next.new.self c.as_slice.result.now c.args.framer.now.waiting c.args.session.now c.loop-content.session i.put (rw c.as_slice.ensures.value c.in-Some.ensures) i.answered in
    let s = stepped _ c.args.session.now c.loop-content.session c.as_slice.result.now c.next.new.self.waiting i.put c.step.new.self c.in-Ok.step h c.in-Ok.ensures.ok in
    let sent = rw c.as_slice-in-Some.ensures.value at c.in-Ok-send_messages.ensures in (
      _,
      writes_more _ _ _ i.put _ i.appends sent.0,
      record { answered = s.answered; ended = ended_phase c.step.new.self.phase c.in-End.status (sym s.next ∙ c.in-End.is); not_failed = sent.1 },
    )

pub loop-content-preserved : goal.loop-content-preserved
loop-content-preserved g c =
    let i = c.loop-content.invariant in
    let h = taken_next c.loop-content.framer c.next.new.self c.as_slice.result.now c.args.framer.now.waiting c.args.session.now c.loop-content.session i.put (rw c.as_slice.ensures.value c.in-Some.ensures) i.answered in
    let s = stepped _ c.args.session.now c.loop-content.session c.as_slice.result.now c.next.new.self.waiting i.put c.step.new.self c.in-Ok.step h c.in-Ok.ensures.ok in
    let sent = rw c.as_slice-in-Some.ensures.value at c.in-Ok-send_messages.ensures in record {
      put = _;
      answered = s.answered;
      appends = writes_more _ _ _ i.put _ i.appends sent.0;
      not_ended = sym s.next ∙ c.in-Continue.is;
      writes = sent.1;
      rest = sym (ap (λ (f : FramerState). f.rest) c.in-Some.ensures) ∙ i.rest;
    }
