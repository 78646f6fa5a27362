-- Proves that a list of JSON values is empty if its length is 0.
use Rattle.std.proofs.Common.{◌≡◌, ◌∙◌, suc, List, [], ◌∷◌, length, arith, refl, ap}
use Rattle.std.specs.Prelude.{Vec, vec_len, ◌==◌}
use Rattle.std.specs.declared.alloc.Global.{Global}
use Rattle.std.proofs.lemmas.Bool.{ne_eqb}
use Rattle.serde_json.specs.View.{items_view}
use Rattle.serde_json.specs.declared.value.Value.{Value}
use Rattle.ob0_world_editor.specs.MessagesToEditor.{has_no_items}

-- A list of JSON values has length 0 exactly if it has no item.
pub none_is_empty : (v : Vec Value Global) (values : List Value) → vec_len v ≡ length values → vec_len v == 0 ≡ has_no_items (items_view values)
none_is_empty v values e = ap (λ n. n == 0) e ∙ go values
  where
    go : (values : List Value) → length values == 0 ≡ has_no_items (items_view values)
    go [] = refl
    go (x ∷ xs) = ne_eqb (suc (length xs)) 0 (λ e. omega (arith, e))
