use Rattle.std.proofs.Common.{◌+◌, ◌-◌, ◌<◌, ◌≤◌, ◌/◌, ℕ, length, get_or, ap, arith, length-append}
use Rattle.ob0_text.proofs.Halving.{in_front, not_in_front}
use Rattle.ob0_text.proofs.line_table.LineTable.count_starts_before.Goals as goal

pub loop-low-init : goal.loop-low-init
loop-low-init c = record {
  order = omega arith;
  inside = omega (arith, c.count-high.ensures);
  between = λ front back is under from. (omega arith, omega (arith, c.count-high.ensures, ap length is, length-append front back));
}

pub line_start-requires : goal.line_start-requires
line_start-requires c = omega (arith, c.loop-low-test.true, c.loop-low.invariant.inside)

pub loop-low-preserved-then-line_start-offset : goal.loop-low-preserved-then-line_start-offset
loop-low-preserved-then-line_start-offset c =
    let v = c.loop-low in
    let middle : ℕ = v.low + (v.high - v.low) / 2 in
    let inside : middle < length c.args.self.now.starts = omega (arith, c.loop-low-test.true, v.invariant.inside) in
    let low : get_or c.args.self.now.starts middle 0 < c.args.offset = omega (arith, c.line_start.ensures, c.if-line_start-offset.true) in
    record {
      order = omega (arith, c.loop-low-test.true);
      inside = v.invariant.inside;
      between = λ front back is under from.
          let here : middle < length front = in_front c.args.self.now.starts front back c.args.offset is under from middle inside low in
          (omega (arith, here), (v.invariant.between front back is under from).1);
    }

pub loop-low-preserved : goal.loop-low-preserved
loop-low-preserved c =
    let v = c.loop-low in
    let middle : ℕ = v.low + (v.high - v.low) / 2 in
    let up : c.args.offset ≤ get_or c.args.self.now.starts middle 0 = omega (arith, c.line_start.ensures, c.if-line_start-offset.false) in
    record {
      order = omega (arith, c.loop-low-test.true);
      inside = omega (arith, c.loop-low-test.true, v.invariant.inside);
      between = λ front back is under from.
          ((v.invariant.between front back is under from).0, not_in_front c.args.self.now.starts front back c.args.offset is under from middle up);
    }

pub returns-clause-bound : goal.returns-clause-bound
returns-clause-bound c = omega (arith, c.loop-low.invariant.order, c.loop-low.invariant.inside)

pub returns-clause-count : goal.returns-clause-count
returns-clause-count c =
    λ front back is under from.
    let around = c.loop-low.invariant.between front back is under from in
    omega (arith, around.0, around.1, c.loop-low-test.false)
