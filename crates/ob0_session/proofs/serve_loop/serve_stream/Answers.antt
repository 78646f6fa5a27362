use Rattle.std.proofs.Common.{◌≡◌, ◌∙◌, ◌+◌, ℕ, [], Result, Err, take, refl, ap, arith}
use Rattle.std.proofs.lemmas.List.{length-take-le}
use Rattle.ob0_session.specs.declared.serve_loop.ServeFault.{ServeFault}
use Rattle.ob0_session.specs.declared.serve_loop.ServeFault.TheVariants.{Read}
use Rattle.ob0_session.proofs.ServedLaws.{served_start}
use Rattle.ob0_session.proofs.Turns.{IsResultAtEnd, MayReturn, PieceRead, since_start, flushed_start, failed_read, read_most, piece_read, input_ended, stopped, exited, piece_answered, served_of, prompt_of}
use Rattle.ob0_session.proofs.serve_loop.serve_stream.Given as given
use Rattle.ob0_session.proofs.serve_loop.serve_stream.Goals.{In-Ok, In_default}
use Rattle.ob0_session.proofs.serve_loop.serve_stream.Goals as goal

pub loop-turn-init : goal.loop-turn-init
loop-turn-init g c = record {
  taken = [];
  put = [];
  left = [];
  so_far = since_start (g.S.Stream.state c.args.stream.now);
  served = rw c.new-session.ensures served_start;
  not_ended = rw c.new-session.ensures refl;
  between = c.new-framer.ensures;
  reads = c.requires.reads;
  writes = c.requires.writes;
  flushed = flushed_start (g.S.Stream.state c.args.stream.now).output.is_flushed;
  least = omega arith;
}

failed : (g : given.Over) (c : In_default g) → MayReturn (g.S.Stream.state c.args.stream.now) (g.S.Stream.state c.read.new.self) (Err Read)
failed g c =
    let e = c.in_default.ensures in
    failed_read _ c.loop-turn.invariant (omega arith) e.bytes e.reads (omega (arith, c.read.auto.buf)) (e.noted ∙ rw c.loop-turn.invariant.reads refl) e.output e.steps e.references

pub returns-in_default-clause-served : goal.returns-in_default-clause-served
returns-in_default-clause-served g c = served_of (failed g (goal.at.returns-in_default-clause-served g c).In_default)

pub returns-in_default-clause-prompt : goal.returns-in_default-clause-prompt
returns-in_default-clause-prompt g c = prompt_of (failed g (goal.at.returns-in_default-clause-prompt g c).In_default)

pub returns-in_default-clause-references : goal.returns-in_default-clause-references
returns-in_default-clause-references g c = (failed g (goal.at.returns-in_default-clause-references g c).In_default).since.recorded.references

-- A piece was read.
read : (g : given.Over) (c : In-Ok g)
    → PieceRead (g.S.Stream.state c.args.stream.now) (g.S.Stream.state c.read.new.self) c.loop-turn.session c.loop-turn.framer (take c.in-Ok.count c.read.new.buf) (c.loop-turn._turn + 1)
read g c =
    let e = c.in-Ok.ensures in
    piece_read _ (take c.in-Ok.count c.read.new.buf) c.loop-turn.invariant (omega arith) e.bytes.0 e.reads (omega (arith, c.read.auto.buf))
    (omega (arith, length-take-le c.in-Ok.count c.read.new.buf (omega (arith, e.bound)), e.bound, c.read.auto.buf))
    (e.noted ∙ rw c.loop-turn.invariant.reads refl) e.output e.steps e.references

ended : (g : given.Over) (c : In-Ok g) (r : Result ℕ ServeFault) → c.in-Ok.count ≡ 0 → IsResultAtEnd c.loop-turn.framer.rest r → MayReturn (g.S.Stream.state c.args.stream.now) (g.S.Stream.state c.read.new.self) r
ended g c r none h =
    input_ended r (read g c) (ap (λ n. take n c.read.new.buf) none) (c.in-Ok.ensures.bytes.1 none (omega (arith, c.read.auto.buf))) h

pub returns-then-count-eq0-clause-served : goal.returns-then-count-eq0-clause-served
returns-then-count-eq0-clause-served g c = served_of (ended g (goal.at.returns-then-count-eq0-clause-served g c).In-Ok c.result_at_end_of_input.result c.if-count-eq0.true c.result_at_end_of_input.ensures)

pub returns-then-count-eq0-clause-prompt : goal.returns-then-count-eq0-clause-prompt
returns-then-count-eq0-clause-prompt g c = prompt_of (ended g (goal.at.returns-then-count-eq0-clause-prompt g c).In-Ok c.result_at_end_of_input.result c.if-count-eq0.true c.result_at_end_of_input.ensures)

pub returns-then-count-eq0-clause-references : goal.returns-then-count-eq0-clause-references
returns-then-count-eq0-clause-references g c = (ended g (goal.at.returns-then-count-eq0-clause-references g c).In-Ok c.result_at_end_of_input.result c.if-count-eq0.true c.result_at_end_of_input.ensures).since.recorded.references

pub returns-in-Err-clause-served : goal.returns-in-Err-clause-served
returns-in-Err-clause-served g c = served_of (stopped (read g (goal.at.returns-in-Err-clause-served g c).In-Ok) c.in-Err.ensures.answers)

pub returns-in-Err-clause-prompt : goal.returns-in-Err-clause-prompt
returns-in-Err-clause-prompt g c = prompt_of (stopped (read g (goal.at.returns-in-Err-clause-prompt g c).In-Ok) c.in-Err.ensures.answers)

pub returns-in-Err-clause-references : goal.returns-in-Err-clause-references
returns-in-Err-clause-references g c = (stopped (read g (goal.at.returns-in-Err-clause-references g c).In-Ok) c.in-Err.ensures.answers).since.recorded.references

pub returns-in-End-clause-served : goal.returns-in-End-clause-served
returns-in-End-clause-served g c = served_of (exited (read g (goal.at.returns-in-End-clause-served g c).In-Ok) c.in-End.is c.in-Ok-answer_piece.ensures.answers)

pub returns-in-End-clause-prompt : goal.returns-in-End-clause-prompt
returns-in-End-clause-prompt g c = prompt_of (exited (read g (goal.at.returns-in-End-clause-prompt g c).In-Ok) c.in-End.is c.in-Ok-answer_piece.ensures.answers)

pub returns-in-End-clause-references : goal.returns-in-End-clause-references
returns-in-End-clause-references g c = (exited (read g (goal.at.returns-in-End-clause-references g c).In-Ok) c.in-End.is c.in-Ok-answer_piece.ensures.answers).since.recorded.references

pub loop-turn-preserved : goal.loop-turn-preserved
loop-turn-preserved g c =
    piece_answered (g.S.Stream.state c.answer_piece.new.stream) c.answer_piece.new.session c.answer_piece.new.framer (read g (goal.at.loop-turn-preserved g c).In-Ok)
    (omega (arith, length-take-le c.in-Ok.count c.read.new.buf (omega (arith, c.in-Ok.ensures.bound)), c.if-count-eq0.false))
    c.in-Continue.is c.in-Ok-answer_piece.ensures.prompt c.in-Ok-answer_piece.ensures.answers

pub returns-clause-served : goal.returns-clause-served
returns-clause-served g c = served_of (read_most c.loop-turn.invariant (omega arith))

pub returns-clause-prompt : goal.returns-clause-prompt
returns-clause-prompt g c = prompt_of (read_most c.loop-turn.invariant (omega arith))

pub returns-clause-references : goal.returns-clause-references
returns-clause-references g c = (read_most c.loop-turn.invariant (omega arith)).since.recorded.references
