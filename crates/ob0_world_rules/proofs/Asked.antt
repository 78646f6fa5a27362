-- Proves that a fact about the text of a numbered request still holds after further requests.
use Rattle.std.proofs.Common.{◌≡◌, ℕ, zero, suc, List, [], ◌∷◌, ◌++◌, length, refl}
use Rattle.std.specs.Prelude.{Some, slice_get}
use Rattle.std.proofs.lemmas.Option.{none-some}
use Rattle.ob0_world_rules.specs.ClientAndServer.{SentAsk, sent_ask_with_number}

-- holds if each request of the first list has the same number in the second list
abbrev pub Later : List SentAsk → List SentAsk → Type 0
Later asks now = (k : ℕ) (a : SentAsk) → sent_ask_with_number asks k ≡ Some a → sent_ask_with_number now k ≡ Some a

-- states that P holds of the text that request k was about
pub record Known (asks : List SentAsk) (k : ℕ) (P : List ℕ → Type 0) : Type 0 where
  pub requested : SentAsk
  pub is : sent_ask_with_number asks k ≡ Some requested
  pub holds : P requested.text

pub still_known : (asks now : List SentAsk) (k : ℕ) (P : List ℕ → Type 0) → Later asks now → Known asks k P → Known now k P
still_known asks now k P later known = record { requested = known.requested; is = later k known.requested known.is; holds = known.holds }

slice_get_push : {A : Type 0} (xs ys : List A) (k : ℕ) (x : A) → slice_get xs k ≡ Some x → slice_get (xs ++ ys) k ≡ Some x
slice_get_push [] ys k x h = absurd (none-some x h)
slice_get_push (y ∷ xs) ys zero x h = h
slice_get_push (y ∷ xs) ys (suc k) x h = slice_get_push xs ys k x h

pub slice_get_last : {A : Type 0} (xs : List A) (x : A) → slice_get (xs ++ x ∷ []) (length xs) ≡ Some x
slice_get_last [] x = refl
slice_get_last (y ∷ xs) x = slice_get_last xs x

pub numbered_push : (asks more : List SentAsk) → Later asks (asks ++ more)
numbered_push asks more zero a h = h
numbered_push asks more (suc k) a h = slice_get_push asks more k a h
