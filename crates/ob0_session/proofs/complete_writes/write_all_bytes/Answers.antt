use Rattle.std.proofs.Common.{◌-◌, ◌≤◌, List, ℕ, [], length, take, drop, ◌∙◌, arith, append-nil, refl, subst}
use Rattle.std.proofs.Math.Seq.{take-add}
use Rattle.std.proofs.Math.Bool.{or-false}
use Rattle.std.proofs.lemmas.List.{take-take, length-take}
use Rattle.ob0_session.specs.ServeSteps.{WritesToStream}
use Rattle.ob0_session.specs.StreamSteps.{write_fails}
use Rattle.ob0_session.proofs.StreamLaws.{other_writes, write_writes, writes_more}
use Rattle.ob0_session.proofs.Written.{whatever}
use Rattle.ob0_session.proofs.complete_writes.write_all_bytes.Goals as goal

pub loop-written-preserved : goal.loop-written-preserved
loop-written-preserved g c =
    let state = g.S.Stream.state in
    let now = state c.loop-written.stream in
    let new = state c.write.new.self in
    let left = drop c.loop-written.written c.args.bytes.now in
    let count = c.in_ok-written.field-0 in
    let fits : count ≤ length c.args.bytes.now - c.loop-written.written =
    omega (arith, c.in_ok-written.ensures.bound, length-take (length c.args.bytes.now - c.loop-written.written) left) in
    let whole = write_writes now new _ c.in_ok-written.ensures.bytes c.in_ok-written.ensures.input c.in_ok-written.ensures.references c.in_ok-written.ensures.steps in
    let front = rw (take-take count (length c.args.bytes.now - c.loop-written.written) left fits) at whole in
    record {
      within = omega arith;
      taken = rw (take-add c.loop-written.written count c.args.bytes.now)
          (writes_more (state c.args.stream.now) now new
          (take c.loop-written.written c.args.bytes.now) (take count left) c.loop-written.invariant.taken front);
      same = c.in_ok-written.ensures.noted ∙ (or-false now.output.has_failed ∙ c.loop-written.invariant.same);
    }

pub returns-in_err-written-clause-front : goal.returns-in_err-written-clause-front
returns-in_err-written-clause-front g c =
    let state = g.S.Stream.state in
    let call = state c.args.stream.now in
    let now = state c.loop-written.stream in
    let new = state c.write.new.self in
    let front : List ℕ = take c.loop-written.written c.args.bytes.now in
    let e = c.in_err-written.ensures in
    let failed = other_writes now new write_fails tt refl e.bytes e.input e.references e.steps in
    whatever c.from_residual.result (
      c.loop-written.written,
      subst (WritesToStream call new) (append-nil front) (writes_more call now new front [] c.loop-written.invariant.taken failed),
    )
