-- The last item of two joined lists is the last item of the second list, if that isn't empty.
use Rattle.std.proofs.Common.{◌≡◌, ◌<◌, List, [], ◌∷◌, ◌++◌, length, sym, refl, ap, arith}

-- If two joined lists end with an item and the second list isn't empty, that item is the last of the second list.
pub last_of : {X : Type 0} (first more others : List X) (x : X) → first ++ more ≡ others ++ x ∷ [] → length first < length (first ++ more) → (left : List X) × (more ≡ left ++ x ∷ []) × (others ≡ first ++ left)
last_of [] more others x e less = (others, e, refl)
last_of (y ∷ first) more [] x e less =
    let empty : first ++ more ≡ [] = cc e in
    let none : length (first ++ more) ≡ 0 = ap length empty in
    absurd (omega (arith, none))
last_of (y ∷ first) more (z ∷ others) x e less =
    let rest : first ++ more ≡ others ++ x ∷ [] = cc e in
    let same : y ≡ z = cc e in
    let found = last_of first more others x rest (omega arith) in
    (found.0, found.1, λ i. sym same i ∷ found.2 i)
