-- Proves which document is found under a uri after an insertion or a removal.
use Rattle.std.proofs.Common.{◌≡◌, ◌∙◌, ℕ, Bool, true, false, cond, List, refl, ap}
use Rattle.std.specs.Prelude.{Option, Some, None, option_map}
use Rattle.std.specs.Ordering.{nat_cmp}
use Rattle.std.specs.Cmp.Lexicographic.{slice_cmp, nat_list_cmp_total}
use Rattle.std.specs.FinMap as map_of
use Rattle.std.specs.FinMap.{FinMap}
use Rattle.std.specs.Str.{bytes_eq}
use Rattle.std.proofs.lemmas.Map.Text.{is_eq-slice_cmp}
use Rattle.std.proofs.lemmas.Slice.Eq.{bytes_eq-Decides}

-- Two uris are equal if the test by which documents are looked up says so.
pub same_uri : (q uri : List ℕ) → bytes_eq q uri ≡ true → q ≡ uri
same_uri q uri e = (bytes_eq-Decides q uri).0 e

pub uri_itself : (uri : List ℕ) → bytes_eq uri uri ≡ true
uri_itself uri = (bytes_eq-Decides uri uri).1 refl

module _ {X : Type 0} (m : FinMap (slice_cmp nat_cmp) X) (uri : List ℕ) where
  pub get_put : (x : X) (q : List ℕ) → map_of.get (map_of.insert m uri x) q ≡ cond (bytes_eq q uri) (Some x) (map_of.get m q)
  get_put x q = map_of.get-insert nat_list_cmp_total m uri x q ∙ ap (λ b. cond b (Some x) (map_of.get m q)) (is_eq-slice_cmp q uri)

  pub get_removed : (q : List ℕ) → map_of.get (map_of.remove m uri) q ≡ cond (bytes_eq q uri) None (map_of.get m q)
  get_removed q = map_of.get-remove nat_list_cmp_total m uri q ∙ ap (λ b. cond b None (map_of.get m q)) (is_eq-slice_cmp q uri)

pub mapped_choice : {A B : Type 0} (f : A → B) (b : Bool) (x y : Option A) → option_map f (cond b x y) ≡ cond b (option_map f x) (option_map f y)
mapped_choice f true x y = refl
mapped_choice f false x y = refl
