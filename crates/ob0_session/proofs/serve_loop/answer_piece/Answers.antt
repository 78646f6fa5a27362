use Rattle.std.proofs.Common.{◌≡◌, ◌∙◌, ◌++◌, List, ℕ, [], false, Ok, inl, refl, sym, ap, subst, append-nil}
use Rattle.ob0_frame.specs.FramerState.{FramerState, StreamRest, PieceAdvancesStream}
use Rattle.ob0_session.specs.ServeSteps.{AnswersAllButRemaining, AnswersWaitingMessages, WritesAndFlushes}
use Rattle.ob0_session.specs.ServeResults.{AnswersAllButWaiting}
use Rattle.ob0_session.specs.StreamSteps.{flush_fails}
use Rattle.ob0_session_server.specs.declared.session.Next.{Next}
use Rattle.ob0_session.proofs.ServedLaws.{Texts, served_fed, served_answered, front_of_refused, open_bytes}
use Rattle.ob0_session.proofs.StreamLaws.{writes_nothing, writes_no_more, writes_flushed, other_writes}
use Rattle.ob0_session.proofs.Turns.{answered_next, flushed_start, interrupted}
use Rattle.ob0_session.proofs.serve_loop.answer_piece.Given as given
use Rattle.ob0_session.proofs.serve_loop.answer_piece.Goals.{In-Ok, In-Ok-answered, In-Ok-done}
use Rattle.ob0_session.proofs.serve_loop.answer_piece.Goals as goal

-- The piece was fed.
fed : (g : given.Over) (c : In-Ok g) (taken put : List ℕ) → AnswersAllButWaiting taken [] c.args.framer.now.rest c.args.session.now put
    → AnswersAllButWaiting (taken ++ c.args.piece.now) c.feed_piece.new.framer.waiting c.feed_piece.new.framer.rest c.args.session.now put
fed g c taken put h =
    served_fed taken c.args.session.now put c.args.piece.now c.args.framer.now c.feed_piece.new.framer (ap (λ (f : FramerState). f.waiting) c.requires.between.1) h c.in-Ok.ensures.taken

-- The contents are answered, all or up to an `exit`.
answered : (g : given.Over) (c : In-Ok-answered g)
    → AnswersAllButRemaining c.feed_piece.new.framer.waiting c.args.session.now c.answer_waiting_messages-answered.new.session c.answer_waiting_messages-answered.new.framer.waiting c.in-Ok-answered.ensures.answers.0
    × ((g.S.Stream.state c.answer_waiting_messages-answered.new.stream).output.has_failed ≡ false)
answered g c = answered_next c.in-Ok-answered.next _ _ _ _ _ _ c.in-Ok-answered.ensures.answers.2

served : (g : given.Over) (c : In-Ok-answered g) (taken put : List ℕ) → AnswersAllButWaiting taken [] c.args.framer.now.rest c.args.session.now put
    → AnswersAllButWaiting (taken ++ c.args.piece.now) c.answer_waiting_messages-answered.new.framer.waiting c.feed_piece.new.framer.rest c.answer_waiting_messages-answered.new.session (put ++ c.in-Ok-answered.ensures.answers.0)
served g c taken put h =
    served_answered (taken ++ c.args.piece.now) c.feed_piece.new.framer.waiting c.answer_waiting_messages-answered.new.framer.waiting c.feed_piece.new.framer.rest c.args.session.now c.answer_waiting_messages-answered.new.session put _
    (served_fed taken c.args.session.now put c.args.piece.now c.args.framer.now c.feed_piece.new.framer (ap (λ (f : FramerState). f.waiting) c.requires.between.1) h c.in-Ok.ensures.taken)
    (answered g c).0

-- The answers are flushed.
flushed : (g : given.Over) (c : In-Ok-done g)
    → WritesAndFlushes (g.S.Stream.state c.args.stream.now) (g.S.Stream.state c.flush-done.new.self) c.in-Ok-answered.ensures.answers.0
flushed g c =
    let e = c.in-Ok-done.ensures in
    let a = c.in-Ok-answered.ensures.answers in
    writes_flushed (g.S.Stream.state c.args.stream.now) (g.S.Stream.state c.answer_waiting_messages-answered.new.stream) (g.S.Stream.state c.flush-done.new.self) a.0 a.1 e.bytes e.input e.references e.steps e.flushed

pub returns-in_default-clause-answers : goal.returns-in_default-clause-answers
returns-in_default-clause-answers g c =
    let old = g.S.Stream.state c.args.stream.now in record {
      more = [];
      writes = writes_nothing old;
      serves = λ taken put h. (
        front_of_refused taken c.args.piece.now c.requires.between.0 put c.args.framer.now.rest c.args.session.now (ap (λ (f : FramerState). f.rest) c.requires.between.1) h,
        (refl, c.requires.writes, flushed_start old.output.is_flushed),
      );
    }

pub returns-in-Err-clause-answers : goal.returns-in-Err-clause-answers
returns-in-Err-clause-answers g c =
    let state = g.S.Stream.state in
    let a = c.in-Err.ensures.answers in record {
      more = a.0;
      writes = writes_no_more (state c.args.stream.now) (state c.answer_waiting_messages-answered.new.stream) (state c.flush_after_fault.new.stream) a.0 a.1 c.flush_after_fault.ensures.bytes;
      serves = λ taken put h.
          interrupted c.in-Err.fault c.flush_after_fault.result (taken ++ c.args.piece.now) _ c.answer_waiting_messages-answered.new.framer.waiting c.feed_piece.new.framer.rest c.args.session.now put a.0 c.answer_waiting_messages-answered.new.session _ _ _ _
          (fed g (goal.at.returns-in-Err-clause-answers g c).In-Ok taken put h) a.2 c.flush_after_fault.ensures.fault (λ flushed _. flushed);
    }

pub returns-in-Err-done-clause-answers : goal.returns-in-Err-done-clause-answers
returns-in-Err-done-clause-answers g c =
    let state = g.S.Stream.state in
    let between = state c.answer_waiting_messages-answered.new.stream in
    let new = state c.flush-done.new.self in
    let e = c.in-Err-done.ensures in
    let a = c.in-Ok-answered.ensures.answers in
    let s = (goal.at.returns-in-Err-done-clause-answers g c).In-Ok-answered in record {
      more = a.0;
      writes = writes_no_more (state c.args.stream.now) between new a.0 a.1 (other_writes between new flush_fails tt refl e.bytes e.input e.references e.steps);
      serves = λ taken put h. (
        ([], rw append-nil (record { after = _; waiting = _; rest = _; served = served g s taken put h })),
        refl,
        e.noted ∙ rw (answered g s).1 refl,
      );
    }

pub returns-in-End-clause-answers : goal.returns-in-End-clause-answers
returns-in-End-clause-answers g c =
    let a = c.in-Ok-answered.ensures.answers in
    let s = (goal.at.returns-in-End-clause-answers g c).In-Ok-answered in
    let P : Next → Type 0 = λ n. AnswersWaitingMessages c.feed_piece.new.framer.waiting c.args.session.now c.answer_waiting_messages-answered.new.framer.waiting c.answer_waiting_messages-answered.new.session a.0 (Ok n) (g.S.Stream.state c.answer_waiting_messages-answered.new.stream).output.has_failed in
    record {
      more = a.0;
      writes = (flushed g (goal.at.returns-in-End-clause-answers g c).In-Ok-done).writes;
      serves = λ taken put h. (
        inl (record { after = _; waiting = _; rest = _; served = served g s taken put h }, (subst P c.in-End.is a.2).ended),
        (refl, c.in-Ok-done.ensures.noted ∙ rw (answered g s).1 refl, (λ _. c.in-Ok-done.ensures.flushed)),
      );
    }

pub returns-then-not-can_continue-clause-answers : goal.returns-then-not-can_continue-clause-answers
returns-then-not-can_continue-clause-answers g c =
    let a = c.in-Ok-answered.ensures.answers in
    let s = (goal.at.returns-then-not-can_continue-clause-answers g c).In-Ok-answered in
    let P : Next → Type 0 = λ n. AnswersWaitingMessages c.feed_piece.new.framer.waiting c.args.session.now c.answer_waiting_messages-answered.new.framer.waiting c.answer_waiting_messages-answered.new.session a.0 (Ok n) (g.S.Stream.state c.answer_waiting_messages-answered.new.stream).output.has_failed in
    let all = subst P c.in-Continue.is a.2 in
    record {
      more = a.0;
      writes = (flushed g (goal.at.returns-then-not-can_continue-clause-answers g c).In-Ok-done).writes;
      serves = λ taken put h.
          let Q : Texts → StreamRest → Type 0 = λ left rest. AnswersAllButWaiting (taken ++ c.args.piece.now) left rest c.answer_waiting_messages-answered.new.session (put ++ a.0) in (
            record { after = _; served = subst (Q []) (c.in-Ok.ensures.broken c.if-not-can_continue.true) (subst (λ left. Q left c.feed_piece.new.framer.rest) all.none_left (served g s taken put h)); not_ended = all.not_ended },
            (refl, c.in-Ok-done.ensures.noted ∙ rw (answered g s).1 refl, (λ _. c.in-Ok-done.ensures.flushed)),
          );
    }

pub returns-clause-prompt : goal.returns-clause-prompt
returns-clause-prompt g c =
    let state = g.S.Stream.state in
    let e = c.in-Ok-done.ensures in
    let a = c.in-Ok-answered.ensures.answers in
    let P : Next → Type 0 = λ n. AnswersWaitingMessages c.feed_piece.new.framer.waiting c.args.session.now c.answer_waiting_messages-answered.new.framer.waiting c.answer_waiting_messages-answered.new.session a.0 (Ok n) (g.S.Stream.state c.answer_waiting_messages-answered.new.stream).output.has_failed in
    let all = subst P c.in-Continue.is a.2 in
    let takes = c.in-Ok.ensures.taken in
    let left = open_bytes c.feed_piece.new.framer.rest (c.in-Ok.ensures.can_continue c.if-not-can_continue.false) in
    let none = ap (λ (f : FramerState). f.waiting) c.requires.between.1 in
    let contents : takes.contents ≡ all.answered.answered =
    sym (ap (λ (xs : Texts). xs ++ takes.contents) none) ∙ sym takes.appended ∙ all.answered.cut ∙ ap (λ (xs : Texts). all.answered.answered ++ xs) all.none_left ∙ append-nil all.answered.answered in
    let Q : Texts → StreamRest → Type 0 = λ contents rest. PieceAdvancesStream c.args.framer.now.rest c.args.piece.now contents rest in
    record {
      contents = all.answered.answered;
      sent = all.answered.sent;
      left = left.0;
      completes = subst (Q all.answered.answered) left.1 (subst (λ xs. Q xs c.feed_piece.new.framer.rest) contents takes.feeds);
      conversation = all.answered.conversation;
      not_ended = all.not_ended;
      written = subst (WritesAndFlushes (state c.args.stream.now) (state c.flush-done.new.self)) all.answered.framed
          (writes_flushed (state c.args.stream.now) (state c.answer_waiting_messages-answered.new.stream) (state c.flush-done.new.self) a.0 a.1 e.bytes e.input e.references e.steps e.flushed);
      framer = λ i. record { waiting = all.none_left i; rest = (c.in-Ok-answered.ensures.same ∙ left.1) i };
    }

pub returns-clause-answers : goal.returns-clause-answers
returns-clause-answers g c =
    record {
      more = c.in-Ok-answered.ensures.answers.0;
      writes = (flushed g (goal.at.returns-clause-answers g c).In-Ok-done).writes;
      serves = λ taken put h. c.in-Ok-done.ensures.noted ∙ rw (answered g (goal.at.returns-clause-answers g c).In-Ok-answered).1 refl;
    }
