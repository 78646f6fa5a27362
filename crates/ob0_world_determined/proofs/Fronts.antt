-- Proves that the first bytes of a stream have a list of contents, and that this list is a prefix
-- of the list of the whole stream.
-- If an input is cut into other pieces, more of it may be read after an `exit` or a bad head. The
-- contents of the first bytes are a prefix of the contents of the whole stream, even after a bad
-- head (`fed_front`).
-- If an allocation failed, the answered contents are a prefix of each list of contents of the bytes
-- that were read. These bytes have a list of contents because the whole stream has one
-- (`framed_first`, whose proof decides whether the rest of the first bytes is bad).
use Rattle.std.proofs.Common.{◌≡◌, ◌∙◌, ◌⊎◌, ◌<◌, ◌≤◌, ℕ, arith, List, [], ◌∷◌, ◌++◌, length, take, drop, refl, sym, ap, subst, inl, inr}
use Rattle.std.proofs.lemmas.List.{append_assoc, append_cancel_left, length-append, take_all, take_at, take-append-drop, take-append-le, take-take}
use Rattle.std.proofs.lemmas.Bool.{cases_lt}
use Rattle.ob0_frame.specs.Head.{EndsInEmptyLine, HasNoEmptyLine, IsHead}
use Rattle.ob0_frame.specs.Frames.{BeginsWithMessage, Frames, CannotBeginMessage}
use Rattle.ob0_frame.specs.FramerState.{StreamRest, Open, Broken, PieceAdvancesStream}
use Rattle.ob0_frame.proofs.Heads.{no_line_front}
use Rattle.ob0_frame.proofs.InTurn.{bad_more, fed_in_turn, fed_once, fed_split}
use Rattle.ob0_frame.proofs.Messages.{message_more, message_unique, none_in_bad, not_bad_without_line}
use Rattle.ob0_world_determined.proofs.Conversations.{Contents}

-- ---- two prefixes of the same bytes

same_front : (h x left more : List ℕ) (n : ℕ) → left ++ more ≡ h ++ x → n ≤ length left → n ≤ length h → take n left ≡ take n h
same_front h x left more n same short within =
    sym (take-append-le n left more short) ∙ (ap (take n) same ∙ take-append-le n h x within)

-- If two byte strings are prefixes of the same bytes, the longer one begins with the other.
longer_front : (h x left more : List ℕ) → left ++ more ≡ h ++ x → length h ≤ length left → left ≡ h ++ drop (length h) left
longer_front h x left more same fits =
    let front : take (length h) left ≡ h = sym (take-append-le (length h) left more fits) ∙ (ap (take (length h)) same ∙ take_at h x (length h) refl) in
    sym (take-append-drop (length h) left) ∙ ap (λ (xs : List ℕ). xs ++ drop (length h) left) front

-- A proper prefix of a head has no empty line.
no_line_in_front : (h x left more : List ℕ) → IsHead h → left ++ more ≡ h ++ x → length left < length h → HasNoEmptyLine left
no_line_in_front h x left more whole same shorter n ends =
    elim (cases_lt n (length left)) [
      | inl below ↦ whole.first n (omega (arith, below, shorter)) (subst EndsInEmptyLine (same_front h x left more n same (omega (arith, below)) (omega (arith, below, shorter))) ends)
      | inr above ↦
          let all : take n left ≡ take (length left) left = take_all n left above ∙ sym (take_all (length left) left (omega arith)) in
          whole.first (length left) shorter (subst EndsInEmptyLine (all ∙ same_front h x left more (length left) same (omega arith) (omega (arith, shorter))) ends)
    ]

-- ---- what of a bad front is bad

-- Bytes without an empty line are bad if they are as long as a head may be. So the property is decidable.
by_length : (left : List ℕ) → HasNoEmptyLine left → CannotBeginMessage left ⊎ ¬ (CannotBeginMessage left)
by_length left none =
    elim (cases_lt (length left) 4096) [
      | inl short ↦ inr (not_bad_without_line left short none)
      | inr long ↦ inl (inr (long, no_line_front left 4096 none))
    ]

bad_or_not : (left more : List ℕ) → CannotBeginMessage (left ++ more) → CannotBeginMessage left ⊎ ¬ (CannotBeginMessage left)
bad_or_not left more (inl bad) =
    elim (cases_lt (length left) (length bad.head)) [
      | inl shorter ↦ by_length left (no_line_in_front bad.head bad.more left more bad.whole bad.joined shorter)
      | inr fits ↦ inl (inl record {
        head = bad.head;
        more = drop (length bad.head) left;
        joined = longer_front bad.head bad.more left more bad.joined fits;
        whole = bad.whole;
        refused = bad.refused;
      })
    ]
bad_or_not left more (inr long) =
    elim (cases_lt (length left) 4096) [
      | inl short ↦
          let front : take (length left) (take 4096 (left ++ more)) ≡ left = take-take (length left) 4096 (left ++ more) (omega (arith, short)) ∙ take_at left more (length left) refl in
          by_length left (subst HasNoEmptyLine front (no_line_front (take 4096 (left ++ more)) (length left) long.1))
      | inr many ↦ inl (inr (many, subst HasNoEmptyLine (take-append-le 4096 left more many) long.1))
    ]

-- ---- the messages of the first bytes

record Front (first : List ℕ) : Type 0 where
  contents : Contents
  left : List ℕ
  frames : Frames first contents left
  bad : CannotBeginMessage left ⊎ ¬ (CannotBeginMessage left)

front_frames : (first second : List ℕ) (e : Contents) (q : List ℕ) → Frames (first ++ second) e q → CannotBeginMessage q ⊎ ¬ (CannotBeginMessage q) → Front first
front_frames first second [] q all is = record {
  contents = [];
  left = first;
  frames = (refl, λ h c m begins. all.1 h c (m ++ second) (subst (λ (xs : List ℕ). BeginsWithMessage xs h c (m ++ second)) all.0 (message_more first h c m second begins)));
  bad = elim is [
    | inl bad ↦ bad_or_not first second (subst CannotBeginMessage (sym all.0) bad)
    | inr not ↦ inr (λ bad. not (subst CannotBeginMessage all.0 (bad_more first second bad)))
  ];
}
front_frames first second (y ∷ e) q all is =
    let head : List ℕ = all.0 in
    let joined : first ++ second ≡ (head ++ y) ++ all.1 = all.2.joined ∙ sym (append_assoc head y all.1) in
    elim (cases_lt (length first) (length (head ++ y))) [
      | inl short ↦ record {
        contents = [];
        left = first;
        frames = (
          refl,
          λ h c m begins.
              let same = message_unique (first ++ second) h c (m ++ second) head y all.1 (message_more first h c m second begins) all.2 in
              omega (arith, short, ap length begins.joined, length-append h (c ++ m), length-append c m, length-append head y, ap length same.0, ap length same.1),
        );
        bad = inr (λ bad. none_in_bad (first ++ second) (bad_more first second bad) head y all.1 all.2);
      }
      | inr fits ↦
          let more : List ℕ = drop (length (head ++ y)) first in
          let split : first ≡ (head ++ y) ++ more = longer_front (head ++ y) all.1 first second joined fits in
          let same : all.1 ≡ more ++ second = append_cancel_left (head ++ y) all.1 (more ++ second) (sym joined ∙ (ap (λ (xs : List ℕ). xs ++ second) split ∙ append_assoc (head ++ y) more second)) in
          let others : Front more = front_frames more second e q (subst (λ (m : List ℕ). Frames m e q) same all.3) is in
          record {
            contents = y ∷ others.contents;
            left = others.left;
            frames = (head, more, record { announces = all.2.announces; joined = split ∙ append_assoc head y more }, others.frames);
            bad = others.bad;
          }
    ]

pub record Framed (bytes : List ℕ) : Type 0 where
  pub contents : Contents
  pub rest : StreamRest
  pub feeds : PieceAdvancesStream (Open []) bytes contents rest

framed_from : (first : List ℕ) → Front first → Framed first
framed_from first f = elim f.bad [
  | inl bad ↦ record { contents = f.contents; rest = Broken; feeds = (f.left, f.frames, bad) }
  | inr not ↦ record { contents = f.contents; rest = Open f.left; feeds = (f.frames, not) }
]

-- If the whole stream has a list of contents, its first bytes have one.
pub framed_first : (first second : List ℕ) (e : Contents) (end : StreamRest) → PieceAdvancesStream (Open []) (first ++ second) e end → Framed first
framed_first first second e (Open q) all = framed_from first (front_frames first second e q all.0 (inr all.1))
framed_first first second e Broken all = framed_from first (front_frames first second e all.0 all.1 (inl all.2))

-- The contents of the first bytes are a prefix of the contents of the whole, even after a bad head.
pub fed_front : (start r end : StreamRest) (first second : List ℕ) (c e : Contents) → PieceAdvancesStream start first c r → PieceAdvancesStream start (first ++ second) e end → (d : Contents) × (e ≡ c ++ d)
fed_front start (Open r) end first second c e one all = let parts = fed_split start end first second c e r one all in (parts.0, parts.1)
fed_front start Broken end first second c e one all = ([], (fed_once start end Broken (first ++ second) e (c ++ []) all (fed_in_turn start Broken Broken first second c [] one refl)).0)

-- A prefix of each list of contents of the first bytes is a prefix of the contents of the whole.
pub front_more : (taken more : List ℕ) (answered contents : Contents) (end : StreamRest) → ((contents : Contents) (rest : StreamRest) → PieceAdvancesStream (Open []) taken contents rest → (others : Contents) × (contents ≡ answered ++ others)) → PieceAdvancesStream (Open []) (taken ++ more) contents end → (others : Contents) × (contents ≡ answered ++ others)
front_more taken more answered contents end front fed =
    let f = framed_first taken more contents end fed in
    let here = front f.contents f.rest f.feeds in
    let parts = fed_front (Open []) f.rest end taken more f.contents contents f.feeds fed in
    (here.0 ++ parts.0, parts.1 ∙ (ap (λ (xs : Contents). xs ++ parts.0) here.1 ∙ append_assoc answered here.0 parts.0))
