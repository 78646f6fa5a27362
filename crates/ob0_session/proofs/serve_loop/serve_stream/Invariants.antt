use Rattle.ob0_session.proofs.Turns.{BetweenPieces}
use Rattle.ob0_session.proofs.serve_loop.serve_stream.Given as goal

abbrev pub invariant-loop-turn : goal.invariant-loop-turn
invariant-loop-turn g l =
    BetweenPieces (g.S.Stream.state l.fn.stream) (g.S.Stream.state l.stream) l.session l.framer l._turn
