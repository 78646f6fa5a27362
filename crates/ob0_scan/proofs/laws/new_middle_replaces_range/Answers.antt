use Rattle.std.proofs.Common.{◌≡◌, ◌∙◌, ℕ, ◌+◌, List, ◌++◌, length, drop, refl, sym, ap, arith, length-append, drop-drop, drop_at, take_at}
use Rattle.ob0_scan.proofs.laws.new_middle_replaces_range.Goals as goal

rest : (front middle following : List ℕ) → drop (length front + length middle) (front ++ (middle ++ following)) ≡ following
rest front middle following =
    sym (drop-drop (length middle) (length front) (front ++ (middle ++ following)))
    ∙ ap (drop (length middle)) (drop_at front (middle ++ following) (length front) refl)
    ∙ drop_at middle following (length middle) refl

pub returns : goal.returns
returns c = λ front middle other following. record {
  inside_old = omega (arith, length-append front (middle ++ following), length-append middle following);
  inside_new = omega (arith, length-append front (other ++ following), length-append other following);
  front = take_at front (middle ++ following) (length front) refl ∙ sym (take_at front (other ++ following) (length front) refl);
  behind = rest front middle following ∙ sym (rest front other following);
}
