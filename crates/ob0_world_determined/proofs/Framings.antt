-- Proves that each stream has a list of contents (it is impossible that it has none). The list is
-- the content of the stream's first message, followed by the contents after that message.
use Rattle.std.proofs.Common.{◌≡◌, ◌∙◌, ◌<◌, ◌+◌, ℕ, zero, suc, List, [], ◌∷◌, ◌++◌, length, refl, ap, arith}
use Rattle.std.proofs.lemmas.List.{length-append}
use Rattle.ob0_frame.specs.Frames.{BeginsWithMessage, Frames}
use Rattle.ob0_frame.proofs.Heads.{end_takes_room}
use Rattle.ob0_world_determined.specs.DeterminedOutput.{FramingExists}

-- A head has at least one byte.
head_is_some : (bytes head content more : List ℕ) → BeginsWithMessage bytes head content more → 0 < length head
head_is_some bytes head content more b =
    let ends = b.announces.whole.ends in
    omega (arith, end_takes_room ends.end, ap length ends.empty ∙ length-append ends.lines _)

-- The bytes after a message are fewer than the whole stream.
shorter : (bytes head content more : List ℕ) → BeginsWithMessage bytes head content more → length more < length bytes
shorter bytes head content more b =
    let some : 0 < length head = head_is_some bytes head content more b in
    let long : length bytes ≡ length head + length (content ++ more) = ap length b.joined ∙ length-append head (content ++ more) in
    let rest : length (content ++ more) ≡ length content + length more = length-append content more in
    omega arith

fits_within : (n : ℕ) (bytes : List ℕ) → length bytes < n → ((contents : List (List ℕ)) (rest : List ℕ) → Frames bytes contents rest → ⊥) → ⊥
fits_within zero bytes within none = absurd (omega arith)
fits_within (suc n) bytes within none =
    none [] bytes (
      refl,
      λ head content more b.
          let less : length more < length bytes = shorter bytes head content more b in
          fits_within n more (omega arith) (λ contents rest frames. none (content ∷ contents) rest (head, more, b, frames)),
    )

pub framing_exists : FramingExists
framing_exists bytes none = fits_within (suc (length bytes)) bytes (omega arith) none
