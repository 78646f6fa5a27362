use Rattle.std.proofs.Common.{length}
use Rattle.ob0_session.proofs.Waiting.{SoFarAnswered}
use Rattle.ob0_session.proofs.serve_loop.answer_waiting_messages.Given as goal

abbrev pub invariant-loop-content : goal.invariant-loop-content
invariant-loop-content g l =
    SoFarAnswered
    l.fn.framer l.framer
    l.fn.session l.session
    (g.S.Stream.state l.fn.stream) (g.S.Stream.state l.stream)

abbrev pub decreases-loop-content : goal.decreases-loop-content
decreases-loop-content g l = length l.framer.waiting
