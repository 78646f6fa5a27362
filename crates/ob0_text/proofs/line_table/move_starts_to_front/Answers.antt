use Rattle.std.proofs.Common.{◌≡◌, ◌+◌, ◌-◌, ◌≤◌, ◌∷◌, ◌++◌, [], length, refl, sym, ap, ◌∙◌, subst, arith, length-append}
use Rattle.std.proofs.lemmas.List.{append-nil}
use Rattle.ob0_text.specs.LineStarts.{starts_in_front_and_back}
use Rattle.ob0_text.proofs.LineTables.{length-starts_in_front_and_back, moved_right}
use Rattle.ob0_text.proofs.line_table.move_starts_to_front.Goals as goal

pub loop-back-init : goal.loop-back-init
loop-back-init c = record {
  same = refl;
  most = λ h. h;
  room = omega (arith, c.in_ok-reserve.ensures.ok, c.saturating_sub-added.ensures, c.len.ensures, c.args.front.now.ok.0, ap length c.reserve.ensures.items);
}

pub returns-in_err-reserve-clause-same : goal.returns-in_err-reserve-clause-same
returns-in_err-reserve-clause-same c = ap (λ f. starts_in_front_and_back c.args.len f c.args.back.now.items) c.reserve.ensures.items

pub push_reserved-requires : goal.push_reserved-requires
push_reserved-requires c = omega (arith, c.loop-back.invariant.room, c.loop-back-test.true, c.len-in-loop-back.ensures, c.loop-back.front.ok.0)

pub returns-in_default-clause-same : goal.returns-in_default-clause-same
returns-in_default-clause-same c =
    let same : c.pop.new.self.items ≡ c.loop-back.back.items = sym (c.in_default.ensures.items ∙ append-nil c.pop.new.self.items) in
    ap (starts_in_front_and_back c.args.len c.loop-back.front.items) same ∙ c.loop-back.invariant.same
    ∙ ap (λ f. starts_in_front_and_back c.args.len f c.args.back.now.items) c.reserve.ensures.items

pub returns-in_default-clause-left : goal.returns-in_default-clause-left
returns-in_default-clause-left c =
    λ few enough.
    let v = c.loop-back in
    let none : length v.back.items ≡ 0 = omega (arith, c.in_default.ensures.cases, v.back.ok.0) in
    let same : starts_in_front_and_back c.args.len v.front.items v.back.items ≡ starts_in_front_and_back c.args.len c.args.front.now.items c.args.back.now.items =
    v.invariant.same ∙ ap (λ f. starts_in_front_and_back c.args.len f c.args.back.now.items) c.reserve.ensures.items in
    let all : c.args.count ≤ length v.front.items + length v.back.items =
    subst (λ n. c.args.count ≤ n) (ap length (sym same) ∙ length-starts_in_front_and_back c.args.len v.front.items v.back.items) enough in
    omega (arith, none, all, c.loop-back-test.true, c.len-in-loop-back.ensures, v.front.ok.0)

pub loop-back-preserved : goal.loop-back-preserved
loop-back-preserved c =
    let v = c.loop-back in
    let back = c.pop.new.self.items in
    let d = c.in-Some.distance in
    let popped : v.back.items ≡ back ++ (d ∷ []) = c.in-Some.ensures.items in
    let pushed : c.push_reserved.new.self.items ≡ v.front.items ++ ((c.args.len - d) ∷ []) =
    c.push_reserved.ensures.items ∙ (λ i. v.front.items ++ (c.saturating_sub.ensures i ∷ [])) in
    let long : length c.push_reserved.new.self.items ≡ length v.front.items + 1 = ap length pushed ∙ length-append v.front.items ((c.args.len - d) ∷ []) in
    record {
      same = ap (λ f. starts_in_front_and_back c.args.len f back) pushed ∙ moved_right c.args.len v.front.items back d ∙ ap (starts_in_front_and_back c.args.len v.front.items) (sym popped) ∙ v.invariant.same;
      most = λ few. omega (arith, long, c.loop-back-test.true, c.len-in-loop-back.ensures, v.front.ok.0);
      room = omega (arith, long, v.invariant.room, c.push_reserved.ensures.len, c.push_reserved.ensures.capacity, c.loop-back-test.true, c.len-in-loop-back.ensures, v.front.ok.0);
    }

pub returns-clause-same : goal.returns-clause-same
returns-clause-same c = c.loop-back.invariant.same ∙ ap (λ f. starts_in_front_and_back c.args.len f c.args.back.now.items) c.reserve.ensures.items

pub returns-clause-left : goal.returns-clause-left
returns-clause-left c =
    λ few enough.
    let most : length c.reserve.new.self.items ≤ c.args.count = omega (arith, few, ap length c.reserve.ensures.items) in
    omega (arith, c.loop-back.invariant.most most, c.loop-back-test.false, c.len-in-loop-back.ensures, c.loop-back.front.ok.0)
