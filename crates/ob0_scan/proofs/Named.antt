-- Proves that spellings in a changed text are the same as in the old text, if the new tokens have
-- the same spellings as the replaced tokens. This is proved for all tokens, and for identifiers
-- only.
use Rattle.std.proofs.Common.{◌≡◌, ℕ, ◌+◌, ◌-◌, ◌≤◌, List, [], ◌∷◌, ◌++◌, map, take, drop, length, refl, sym, ap, ap₂, ◌∙◌, arith, append_assoc, length-append, ⊎_elim}
use Rattle.std.specs.List.{All}
use Rattle.std.proofs.lemmas.List.{take-append-drop, drop-drop, drop-take, take-take, take-map, drop-map, take_at, drop_at, length-map, length-take-le}
use Rattle.std.proofs.lemmas.List.Elements.{All-head, All-tail}
use Rattle.std.proofs.lemmas.Bool.{cases_lt}
use Rattle.ob0_scan.specs.declared.lexeme.Span.{Span}
use Rattle.ob0_scan.specs.declared.lexeme.Token.{Token}
use Rattle.ob0_scan.specs.declared.lexeme.TokenKind.{TokenKind}
use Rattle.ob0_scan.specs.declared.incremental_scan.RescannedMiddle.{RescannedMiddle}
use Rattle.ob0_scan.specs.TextWithTokens.{TextWithTokens, Word, text_in_span}
use Rattle.ob0_scan.specs.ReusedLexemes.{ReplacesRange, spelling_if_identifier, spellings_of_identifiers_in, words_of_tokens, span_after_shift, token_after_shift}
use Rattle.ob0_scan.specs.RescanState.{IsRescannedMiddle, scan_with_new_middle}

-- A part that lies within the first n bytes of a text is the same part of those n bytes.
in_first : (text : List ℕ) (n s w : ℕ) → w ≤ n - s → take w (drop s (take n text)) ≡ take w (drop s text)
in_first text n s w less = ⊎_elim
    (λ past.
    let none : w ≡ 0 = omega (arith, less, past) in
    ap (λ k. take k (drop s (take n text))) none ∙ sym (ap (λ k. take k (drop s text)) none))
    (λ there.
    let parts : n ≡ s + (n - s) = omega (arith, there) in
    ap (λ k. take w (drop s (take k text))) parts ∙ ap (take w) (drop-take s (n - s) text) ∙ take-take w (n - s) (drop s text) less)
    (cases_lt n s)

-- Texts with the same first bytes have the same parts within them.
in_front : (old new : List ℕ) (from : ℕ) (span : Span) → take from old ≡ take from new → span.end ≤ from → text_in_span new span ≡ text_in_span old span
in_front old new from span same inside =
    let wide : span.end - span.start ≤ from - span.start = omega (arith, inside) in
    sym (in_first new from span.start (span.end - span.start) wide)
    ∙ ap (λ text. take (span.end - span.start) (drop span.start text)) (sym same)
    ∙ in_first old from span.start (span.end - span.start) wide

module _ (old new : List ℕ) (from removed added : ℕ) (r : ReplacesRange old new from removed added) where
  -- A span after the change, shifted, has the same bytes in the new text as before in the old one.
  at_back : (span : Span) → from + removed ≤ span.start → text_in_span new (span_after_shift removed added span) ≡ text_in_span old span
  at_back span later =
      let away : ℕ = span.start - (from + removed) in
      let wide : span.end + added - removed - (span.start + added - removed) ≡ span.end - span.start = omega (arith, later) in
      let there : span.start + added - removed ≡ from + added + away = omega (arith, later) in
      let here : from + removed + away ≡ span.start = omega (arith, later) in
      ap₂ (λ n s. take n (drop s new)) wide there
      ∙ ap (take (span.end - span.start)) (further new (from + added) away ∙ ap (drop away) (sym r.behind) ∙ sym (further old (from + removed) away) ∙ ap (λ s. drop s old) here) where
        further : (text : List ℕ) (n m : ℕ) → drop (n + m) text ≡ drop m (drop n text)
        further text n m = sym (drop-drop m n text)

-- Returns a value for each token, made from its kind and spelling.
module _ {X : Type 0} (of : TokenKind → List ℕ → X) where
  abbrev pub written : List ℕ → List Token → List X
  written text tokens = map (λ (t : Token). of t.kind (text_in_span text t.span)) tokens

  pub written-append : (text : List ℕ) (a b : List Token) → written text (a ++ b) ≡ written text a ++ written text b
  written-append text [] b = refl
  written-append text (t ∷ a) b = ap (λ ns. of t.kind (text_in_span text t.span) ∷ ns) (written-append text a b)

  pub before_stays : (old new : List ℕ) (from removed added : ℕ) → ReplacesRange old new from removed added → (tokens : List Token) → All (λ (t : Token). t.span.end ≤ from) tokens → written new tokens ≡ written old tokens
  before_stays old new from removed added r [] h = refl
  before_stays old new from removed added r (t ∷ tokens) h =
      ap₂ (λ n ns. of t.kind n ∷ ns) (in_front old new from t.span r.front (All-head (λ (x : Token). x.span.end ≤ from) t tokens h)) (before_stays old new from removed added r tokens (All-tail (λ (x : Token). x.span.end ≤ from) t tokens h))

  pub after_stays : (old new : List ℕ) (from removed added : ℕ) → ReplacesRange old new from removed added → (tokens : List Token) → All (λ (t : Token). from + removed ≤ t.span.start) tokens → written new (map (token_after_shift removed added) tokens) ≡ written old tokens
  after_stays old new from removed added r [] h = refl
  after_stays old new from removed added r (t ∷ tokens) h =
      ap₂ (λ n ns. of t.kind n ∷ ns) (at_back old new from removed added r t.span (All-head (λ (x : Token). from + removed ≤ x.span.start) t tokens h)) (after_stays old new from removed added r tokens (All-tail (λ (x : Token). from + removed ≤ x.span.start) t tokens h))

  written_stays : (old : TextWithTokens) (new : List ℕ) (from removed added : ℕ) (b : RescannedMiddle) → ReplacesRange old.text new from removed added → IsRescannedMiddle old new from removed added b
      → written new b.tokens.items ≡ written old.text (take (b.old_end.tokens - b.old_start.tokens) (drop b.old_start.tokens old.tokens))
      → written new (scan_with_new_middle old new removed added b).tokens ≡ written old.text old.tokens
  written_stays old new from removed added b r w same =
      let front : List Token = take b.old_start.tokens old.tokens in
      let gone : List Token = take (b.old_end.tokens - b.old_start.tokens) (drop b.old_start.tokens old.tokens) in
      let rest : List Token = drop b.old_end.tokens old.tokens in
      let place : b.old_start.tokens + (b.old_end.tokens - b.old_start.tokens) ≡ b.old_end.tokens = omega (arith, w.tokens_ordered) in
      let parts : gone ++ rest ≡ drop b.old_start.tokens old.tokens =
      ap (λ l. gone ++ l) (ap (λ n. drop n old.tokens) (sym place) ∙ sym (drop-drop (b.old_end.tokens - b.old_start.tokens) b.old_start.tokens old.tokens))
      ∙ take-append-drop (b.old_end.tokens - b.old_start.tokens) (drop b.old_start.tokens old.tokens) in
      let middle : written new (b.tokens.items ++ map (token_after_shift removed added) rest) ≡ written old.text (drop b.old_start.tokens old.tokens) =
      written-append new b.tokens.items (map (token_after_shift removed added) rest)
      ∙ ap₂ (λ x y. x ++ y) same (after_stays old.text new from removed added r rest w.tokens_after)
      ∙ sym (written-append old.text gone rest)
      ∙ ap (written old.text) parts in
      written-append new front (b.tokens.items ++ map (token_after_shift removed added) rest)
      ∙ ap₂ (λ x y. x ++ y) (before_stays old.text new from removed added r front w.tokens_before) middle
      ∙ sym (written-append old.text front (drop b.old_start.tokens old.tokens))
      ∙ ap (written old.text) (take-append-drop b.old_start.tokens old.tokens)

pub names_stay : (old : TextWithTokens) (new : List ℕ) (from removed added : ℕ) (b : RescannedMiddle) → ReplacesRange old.text new from removed added → IsRescannedMiddle old new from removed added b
    → spellings_of_identifiers_in new b.tokens.items ≡ spellings_of_identifiers_in old.text (take (b.old_end.tokens - b.old_start.tokens) (drop b.old_start.tokens old.tokens))
    → spellings_of_identifiers_in new (scan_with_new_middle old new removed added b).tokens ≡ spellings_of_identifiers_in old.text old.tokens
names_stay old new from removed added b r w same = written_stays spelling_if_identifier old new from removed added b r w same

pub words_stay : (old : TextWithTokens) (new : List ℕ) (from removed added : ℕ) (b : RescannedMiddle) → ReplacesRange old.text new from removed added → IsRescannedMiddle old new from removed added b
    → words_of_tokens new b.tokens.items ≡ words_of_tokens old.text (take (b.old_end.tokens - b.old_start.tokens) (drop b.old_start.tokens old.tokens))
    → words_of_tokens new (scan_with_new_middle old new removed added b).tokens ≡ words_of_tokens old.text old.tokens
words_stay old new from removed added b r w same = written_stays (λ k text. record { kind = k; text = text }) old new from removed added b r w same

-- The tokens before the change have the same kinds and spellings as before.
pub front_written : (old : TextWithTokens) (new : List ℕ) (from removed added : ℕ) (b : RescannedMiddle) → ReplacesRange old.text new from removed added → IsRescannedMiddle old new from removed added b
    → take b.old_start.tokens (words_of_tokens new (scan_with_new_middle old new removed added b).tokens) ≡ take b.old_start.tokens (words_of_tokens old.text old.tokens)
front_written old new from removed added b r w =
    let of : TokenKind → List ℕ → Word = λ k text. record { kind = k; text = text } in
    let front : List Token = take b.old_start.tokens old.tokens in
    let rest : List Token = b.tokens.items ++ map (token_after_shift removed added) (drop b.old_end.tokens old.tokens) in
    let inside : b.old_start.tokens ≤ length old.tokens = omega (arith, w.tokens_ordered, w.tokens_inside) in
    ap (take b.old_start.tokens) (written-append of new front rest ∙ ap (λ l. l ++ written of new rest) (before_stays of old.text new from removed added r front w.tokens_before))
    ∙ take_at (written of old.text front) (written of new rest) b.old_start.tokens (length-map front (λ (t : Token). of t.kind (text_in_span old.text t.span)) ∙ length-take-le b.old_start.tokens old.tokens inside)
    ∙ sym (take-map (λ (t : Token). of t.kind (text_in_span old.text t.span)) b.old_start.tokens old.tokens)

pub back_written : (old : TextWithTokens) (new : List ℕ) (from removed added back : ℕ) (b : RescannedMiddle) → ReplacesRange old.text new from removed added → IsRescannedMiddle old new from removed added b
    → back ≡ b.old_start.tokens + length b.tokens.items
    → drop back (words_of_tokens new (scan_with_new_middle old new removed added b).tokens) ≡ drop b.old_end.tokens (words_of_tokens old.text old.tokens)
back_written old new from removed added back b r w at =
    let of : TokenKind → List ℕ → Word = λ k text. record { kind = k; text = text } in
    let front : List Token = take b.old_start.tokens old.tokens in
    let last : List Token = drop b.old_end.tokens old.tokens in
    let moved : List Token = map (token_after_shift removed added) last in
    let inside : b.old_start.tokens ≤ length old.tokens = omega (arith, w.tokens_ordered, w.tokens_inside) in
    let count : length (written of new (front ++ b.tokens.items)) ≡ back =
    length-map (front ++ b.tokens.items) (λ (t : Token). of t.kind (text_in_span new t.span)) ∙ (length-append front b.tokens.items ∙ omega (arith, at, length-take-le b.old_start.tokens old.tokens inside)) in
    ap (λ (l : List Token). drop back (words_of_tokens new l)) (sym (append_assoc front b.tokens.items moved))
    ∙ (ap (drop back) (written-append of new (front ++ b.tokens.items) moved)
    ∙ (drop_at (written of new (front ++ b.tokens.items)) (written of new moved) back count
    ∙ (after_stays of old.text new from removed added r last w.tokens_after
    ∙ sym (drop-map (λ (t : Token). of t.kind (text_in_span old.text t.span)) b.old_end.tokens old.tokens))))
