use Rattle.std.proofs.Common.{◌≡◌, ◌+◌, ◌<◌, ◌∷◌, ◌++◌, [], length, refl, sym, ap, ◌∙◌, arith, length-append}
use Rattle.ob0_text.specs.LineStarts.{starts_in_front_and_back}
use Rattle.ob0_text.proofs.LineTables.{last_within, moved_left}
use Rattle.ob0_text.proofs.line_table.move_starts_to_back.Goals as goal

pub loop-front-init : goal.loop-front-init
loop-front-init c = record {
  same = refl;
  least = omega arith;
  most = omega arith;
  room = omega (arith, c.in_ok-reserve.ensures.ok, c.saturating_sub-gone.ensures, c.len.ensures, c.args.front.now.ok.0);
}

pub returns-in_err-reserve-clause-same : goal.returns-in_err-reserve-clause-same
returns-in_err-reserve-clause-same c = ap (starts_in_front_and_back c.args.len c.args.front.now.items) c.reserve.ensures.items

pub push_reserved-requires : goal.push_reserved-requires
push_reserved-requires c = omega (arith, c.loop-front.invariant.room, c.loop-front-test.true, c.len-in-loop-front.ensures, c.loop-front.front.ok.0)

pub loop-front-preserved : goal.loop-front-preserved
loop-front-preserved c =
    let v = c.loop-front in
    let front = c.pop.new.self.items in
    let s = c.in-Some.start in
    let d = c.saturating_sub.result in
    let popped : v.front.items ≡ front ++ (s ∷ []) = c.in-Some.ensures.items in
    let long : length v.front.items ≡ length front + 1 = ap length popped ∙ length-append front (s ∷ []) in
    let before : starts_in_front_and_back c.args.len (front ++ (s ∷ [])) v.back.items ≡ starts_in_front_and_back c.args.len c.args.front.now.items c.reserve.new.self.items =
    ap (λ f. starts_in_front_and_back c.args.len f v.back.items) (sym popped) ∙ v.invariant.same in
    let low : s < c.args.len + 1 = last_within c.args.len (c.args.len + 1) _ front v.back.items s c.requires (before ∙ ap (starts_in_front_and_back c.args.len c.args.front.now.items) c.reserve.ensures.items) in
    let pushed : c.push_reserved.new.self.items ≡ v.back.items ++ (d ∷ []) = c.push_reserved.ensures.items in
    record {
      same = ap (starts_in_front_and_back c.args.len front) pushed ∙ moved_left c.args.len front v.back.items s d c.saturating_sub.ensures (omega (arith, low)) ∙ before;
      least = omega (arith, long, v.invariant.least, c.loop-front-test.true, c.len-in-loop-front.ensures, v.front.ok.0);
      most = omega (arith, long, v.invariant.most);
      room = omega (arith, long, v.invariant.room, c.push_reserved.ensures.len, c.push_reserved.ensures.capacity, c.loop-front-test.true, c.len-in-loop-front.ensures, v.front.ok.0);
    }

pub returns-clause-same : goal.returns-clause-same
returns-clause-same c = c.loop-front.invariant.same ∙ ap (starts_in_front_and_back c.args.len c.args.front.now.items) c.reserve.ensures.items

pub returns-clause-left : goal.returns-clause-left
returns-clause-left c =
    omega (arith, c.loop-front.invariant.least, c.loop-front.invariant.most, c.loop-front-test.false, c.len-in-loop-front.ensures, c.loop-front.front.ok.0)
