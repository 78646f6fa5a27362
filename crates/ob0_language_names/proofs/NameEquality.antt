-- Equality of names is symmetric and reflexive.
use Rattle.std.proofs.Common.{◌≡◌, true, sym, refl}
use Rattle.std.proofs.lemmas.Bool.Decides.{same_from_decides}
use Rattle.std.proofs.lemmas.Slice.Eq.{bytes_eq-Decides}
use Rattle.ob0_language_names.specs.Names.{Name, same_name}

pub same_name-comm : (x y : Name) → same_name x y ≡ same_name y x
same_name-comm x y =
    let d = bytes_eq-Decides y x in
    same_from_decides (same_name x y) (same_name y x) (bytes_eq-Decides x y) ((λ e. sym (d.0 e)), (λ e. d.1 (sym e)))

pub same_name-refl : (x : Name) → same_name x x ≡ true
same_name-refl x = (bytes_eq-Decides x x).1 refl
