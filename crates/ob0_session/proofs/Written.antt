-- Proves that if a write fails while several byte strings are written, a prefix of their
-- concatenation has been written.
use Rattle.std.proofs.Common.{◌≡◌, ◌∙◌, ◌<◌, ◌+◌, ℕ, suc, length, get_or, add-one, append-nil, List, [], ◌∷◌, ◌++◌, Bool, true, false, ◌||◌, Result, Ok, Err, OnErr, OnOk, is_err, take, drop, map, ap, sym, append_assoc}
use Rattle.std.proofs.Math.Bool.{or-false, or-true}
use Rattle.std.proofs.Math.ListN.{get_or-map as get_or_map}
use Rattle.std.proofs.Math.Seq.{split_at, take-suc}
use Rattle.std.proofs.lemmas.List.{get_or-map, map-append, take-append-drop}
use Rattle.std.proofs.lemmas.List.Concat.{flat_map-append}
use Rattle.std.specs.List.{flat_map}
use Rattle.ob0_frame.specs.Frames.{frame, written_head}
use Rattle.ob0_session.specs.ServeSteps.{WritesPrefixToStream, WritesToStream}
use Rattle.ob0_session.specs.StreamSteps.{StreamState}
use Rattle.ob0_session.proofs.StreamLaws.{writes_more}

-- If a prefix of `head` was written, so was a prefix of `head` and `content` together.
pub front_of_first : (old new : StreamState) (head content : List ℕ) → (n : ℕ) × WritesToStream old new (take n head) → WritesPrefixToStream old new (head ++ content)
front_of_first old new head content f = (
  take f.0 head,
  drop f.0 head ++ content,
  ap (λ l. l ++ content) (sym (take-append-drop f.0 head)) ∙ append_assoc (take f.0 head) (drop f.0 head) content,
  f.1,
)

-- If all of `head` and a prefix of `content` were written, so was a prefix of both together.
pub front_of_later : (old mid new : StreamState) (head content : List ℕ) → WritesToStream old mid head → (n : ℕ) × WritesToStream mid new (take n content) → WritesPrefixToStream old new (head ++ content)
front_of_later old mid new head content all f = (
  head ++ take f.0 content,
  drop f.0 content,
  ap (λ l. head ++ l) (sym (take-append-drop f.0 content)) ∙ sym (append_assoc head (take f.0 content) (drop f.0 content)),
  writes_more old mid new head (take f.0 content) all f.1,
)

-- If a call fails and failures are noted, the note says so after the call.
pub failing : {T E P Q : Type 0} (r : Result T E) (before after : Bool) → after ≡ (before || is_err r) → (P → Q) → OnErr r P → OnErr r (Q × after ≡ true)
failing (Ok x) before after noted weaker h = tt
failing (Err e) before after noted weaker h = (weaker h, noted ∙ or-true before)

-- If a call succeeds and failures are noted, no failure is noted after the call.
pub passing : {T E P Q : Type 0} (r : Result T E) (before after : Bool) → before ≡ false → after ≡ (before || is_err r) → (P → Q) → OnOk r P → OnOk r (Q × after ≡ false)
passing (Ok x) before after fine noted weaker h = (weaker h, noted ∙ or-false before ∙ fine)
passing (Err e) before after fine noted weaker h = tt

pub front_after : (old mid new : StreamState) (first part rest all : List ℕ) → WritesToStream old mid first → WritesPrefixToStream mid new part → all ≡ first ++ (part ++ rest) → WritesPrefixToStream old new all
front_after old mid new first part rest all whole f is = (
  first ++ f.0,
  f.1 ++ rest,
  is ∙ ap (λ l. first ++ (l ++ rest)) f.2 ∙ ap (λ l. first ++ l) (append_assoc f.0 f.1 rest) ∙ sym (append_assoc first f.0 (f.1 ++ rest)),
  writes_more old mid new first f.0 whole f.3,
)

-- A fact that holds in any case also holds if a call fails.
pub whatever : {T E P : Type 0} (r : Result T E) → P → OnErr r P
whatever (Ok x) p = tt
whatever (Err e) p = p

-- ---- the frames of messages, one after another

-- If the list of heads belongs to the list of messages, the i-th head is the head of the i-th
-- message.
pub head_text : {X : Type 0} (items : X → List ℕ) (heads messages : List X) (i : ℕ) (h m : X) → map items heads ≡ map (λ x. written_head (length (items x))) messages
    → i < length messages → h ≡ get_or heads i h → m ≡ get_or messages i m → items h ≡ written_head (length (items m))
head_text items heads messages i h m same inside his mis =
    let head : _ → List ℕ = λ x. written_head (length (items x)) in
    ap items his ∙ sym (get_or_map items heads i h) ∙ ap (λ l. get_or l i (items h)) same ∙ get_or-map head messages i m (items h) inside ∙ ap head (sym mis)

pub frames_next : {X : Type 0} (items : X → List ℕ) (messages : List X) (i : ℕ) (m : X) → i < length messages → m ≡ get_or messages i m
    → flat_map frame (map items (take (i + 1) messages)) ≡ flat_map frame (map items (take i messages)) ++ frame (items m)
frames_next items messages i m inside is =
    ap (λ n. flat_map frame (map items (take n messages))) (add-one i)
    ∙ ap (λ l. flat_map frame (map items l)) (take-suc messages i m inside)
    ∙ ap (flat_map frame) (map-append items (take i messages) (get_or messages i m ∷ []))
    ∙ flat_map-append frame (map items (take i messages)) (items (get_or messages i m) ∷ [])
    ∙ ap (λ l. flat_map frame (map items (take i messages)) ++ l) (append-nil (frame (items (get_or messages i m))) ∙ ap (λ x. frame (items x)) (sym is))

pub frames_split : {X : Type 0} (items : X → List ℕ) (messages : List X) (i : ℕ) (m : X) → i < length messages → m ≡ get_or messages i m
    → flat_map frame (map items messages) ≡ flat_map frame (map items (take i messages)) ++ (frame (items m) ++ flat_map frame (map items (drop (suc i) messages)))
frames_split items messages i m inside is =
    ap (λ l. flat_map frame (map items l)) (split_at messages i m inside)
    ∙ ap (flat_map frame) (map-append items (take i messages) (get_or messages i m ∷ drop (suc i) messages))
    ∙ flat_map-append frame (map items (take i messages)) (items (get_or messages i m) ∷ map items (drop (suc i) messages))
    ∙ ap (λ x. flat_map frame (map items (take i messages)) ++ (frame (items x) ++ flat_map frame (map items (drop (suc i) messages)))) (sym is)
