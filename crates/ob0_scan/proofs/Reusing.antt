-- Proves that the parts of a text before and after a change have the same lexemes as in the old
-- text.
use Rattle.std.proofs.Common.{◌≡◌, ℕ, ◌+◌, ◌-◌, ◌<◌, ◌≤◌, List, [], ◌∷◌, ◌++◌, length, map, get_or, take, drop, refl, sym, ap, ap₂, ◌∙◌, subst, arith, ⊎_elim, append_assoc, append-nil, length-append, length-take-le, take-append-drop, drop_at, take_at, drop-drop, get_or-take, get_or-drop, add-zero, IsUtf8, IsCharBoundary}
use Rattle.std.specs.List.{All}
use Rattle.std.proofs.lemmas.List.{take-append-le}
use Rattle.std.proofs.lemmas.List.Elements.{All-nil, All-same, All-weaker}
use Rattle.std.proofs.lemmas.Str.{IsCharBoundary-start}
use Rattle.ob0_scan.specs.declared.lexeme.Span.{Span}
use Rattle.ob0_scan.specs.declared.lexeme.Token.{Token}
use Rattle.ob0_scan.specs.declared.fault.Fault.{Fault}
use Rattle.ob0_scan.specs.TextLexemes.{Lexeme, text_of_lexemes, IsFirstLexeme, AreLeadingLexemes}
use Rattle.ob0_scan.specs.LexemeEnds.{EndsBeforeByte}
use Rattle.ob0_scan.specs.TextWithTokens.{tokens_of_lexemes_from, comments_of_lexemes_from, IsRangeOf, TextWithTokens, IsScan, max_text_length}
use Rattle.ob0_scan.specs.Faults.{AreFirstFaultsFromOffset, lexeme}
use Rattle.ob0_scan.specs.ScanProgress.{IsCutIntoLexemesUpToOffset, IsScannedUpToOffset}
use Rattle.ob0_scan.specs.ReusedLexemes.{ReplacesRange, span_after_shift, token_after_shift, tokens_ending_before, comments_ending_before, tokens_beginning_at_or_after, comments_beginning_at_or_after}
use Rattle.ob0_scan.specs.RescanState.{end_of_last_lexeme, IsShiftable}
use Rattle.ob0_scan.proofs.Borders.{first_from_end, end_from_first}
use Rattle.ob0_scan.proofs.Spans.{LexemesFrom, next_from}
use Rattle.ob0_scan.proofs.AtLexemes.{of_tokens, of_comments, Full, full, full_parts, Lies, lies, all-append, back_split, front_split, Border, tokens_moved, comments_moved}
use Rattle.ob0_scan.proofs.Fronts.{find_front, front_end}

pub joined_append : (xs ys : List Lexeme) → text_of_lexemes (xs ++ ys) ≡ text_of_lexemes xs ++ text_of_lexemes ys
joined_append [] ys = refl
joined_append (x ∷ xs) ys = ap (λ t. x.text ++ t) (joined_append xs ys) ∙ sym (append_assoc x.text (text_of_lexemes xs) (text_of_lexemes ys))

first_byte : (w a b : List ℕ) → get_or a 0 0 ≡ get_or b 0 0 → get_or (w ++ a) 0 0 ≡ get_or (w ++ b) 0 0
first_byte [] a b e = e
first_byte (x ∷ w) a b e = refl

-- If lexemes are a cut before one text, they are a cut before any other text with the same first
-- byte.
same_following : (ls : List Lexeme) (a b : List ℕ) → get_or a 0 0 ≡ get_or b 0 0 → AreLeadingLexemes ls a → AreLeadingLexemes ls b
same_following [] a b e f = tt
same_following (l ∷ ls) a b e f =
    (first_from_end l (text_of_lexemes ls ++ b) (subst (EndsBeforeByte l) (first_byte (text_of_lexemes ls) a b e) (end_from_first l (text_of_lexemes ls ++ a) f.0)), same_following ls a b e f.1)

stay : (ls : List Lexeme) (a b : List ℕ) → (0 < length ls → get_or a 0 0 ≡ get_or b 0 0) → AreLeadingLexemes ls a → AreLeadingLexemes ls b
stay [] a b e f = tt
stay (l ∷ ls) a b e f = same_following (l ∷ ls) a b (e (omega arith)) f

lexemes_parts : (xs ys : List Lexeme) (after : List ℕ) → AreLeadingLexemes (xs ++ ys) after → AreLeadingLexemes xs (text_of_lexemes ys ++ after) × AreLeadingLexemes ys after
lexemes_parts [] ys after f = (tt, f)
lexemes_parts (x ∷ xs) ys after f =
    let more = lexemes_parts xs ys after f.1 in
    ((subst (IsFirstLexeme x) (ap (λ t. t ++ after) (joined_append xs ys) ∙ append_assoc (text_of_lexemes xs) (text_of_lexemes ys) after) f.0, more.0), more.1)

lexemes_append : (xs ys : List Lexeme) (after : List ℕ) → AreLeadingLexemes xs (text_of_lexemes ys ++ after) → AreLeadingLexemes ys after → AreLeadingLexemes (xs ++ ys) after
lexemes_append [] ys after f g = g
lexemes_append (x ∷ xs) ys after f g =
    (subst (IsFirstLexeme x) (sym (ap (λ t. t ++ after) (joined_append xs ys) ∙ append_assoc (text_of_lexemes xs) (text_of_lexemes ys) after)) f.0, lexemes_append xs ys after f.1 g)

shorter_front : (n m : ℕ) (xs ys : List ℕ) → n ≤ m → m ≤ length xs → m ≤ length ys → take m xs ≡ take m ys → take n xs ≡ take n ys
shorter_front n m xs ys less hx hy e =
    let lx = length-take-le m xs hx in
    let ly = length-take-le m ys hy in
    ap (take n) (sym (take-append-drop m xs))
    ∙ take-append-le n (take m xs) (drop m xs) (omega arith)
    ∙ ap (take n) e
    ∙ sym (take-append-le n (take m ys) (drop m ys) (omega arith))
    ∙ ap (take n) (take-append-drop m ys)

-- The place up to which a text is cut is a character border.
boundary_following : (text : List ℕ) (s : ℕ) (ls : List Lexeme) (after : List ℕ) → LexemesFrom text s ls after → IsCharBoundary text (s + length (text_of_lexemes ls))
boundary_following text s [] after h = subst (IsCharBoundary text) (sym (add-zero s)) h.place
boundary_following text s (l ∷ ls) after h =
    let place : s + length l.text + length (text_of_lexemes ls) ≡ s + length (text_of_lexemes (l ∷ ls)) = omega (arith, length-append l.text (text_of_lexemes ls)) in
    subst (IsCharBoundary text) place (boundary_following text (s + length l.text) ls after (next_from text s l ls after h))

reported_following : {room : ℕ} {faults : List Fault} (s : ℕ) (text : List ℕ) (ls : List Lexeme) (after : List ℕ) → AreLeadingLexemes ls after → text ≡ text_of_lexemes ls ++ after → AreFirstFaultsFromOffset room (s + length (text_of_lexemes ls)) after faults → AreFirstFaultsFromOffset room s text faults
reported_following {room = room} {faults = faults} s text [] after f e h = subst (λ t. AreFirstFaultsFromOffset room s t faults) (sym e) (subst (λ n. AreFirstFaultsFromOffset room n after faults) (add-zero s) h)
reported_following {room = room} {faults = faults} s text (l ∷ ls) after f e h =
    let place : s + length (text_of_lexemes (l ∷ ls)) ≡ s + length l.text + length (text_of_lexemes ls) = omega (arith, length-append l.text (text_of_lexemes ls)) in
    lexeme l (text_of_lexemes ls ++ after) f.0 (e ∙ append_assoc l.text (text_of_lexemes ls) after)
    (reported_following (s + length l.text) (text_of_lexemes ls ++ after) ls after f.1 refl (subst (λ n. AreFirstFaultsFromOffset room n after faults) place h))

-- If a part of a text is already cut, a scanner can begin after that part.
pub progress_following : (text : List ℕ) (at : ℕ) (tokens : List Token) (comments : List Span) → IsUtf8 text → length text ≤ max_text_length → at ≤ length text → IsCutIntoLexemesUpToOffset text at tokens comments → IsScannedUpToOffset text at tokens comments []
progress_following text at tokens comments utf8 short inside cut =
    let whole : text_of_lexemes cut.lexemes ++ drop at text ≡ text = ap (λ t. t ++ drop at text) cut.front ∙ take-append-drop at text in
    let place : 0 + length (text_of_lexemes cut.lexemes) ≡ at = omega (arith, ap length cut.front, length-take-le at text inside) in
    record {
      utf8 = utf8;
      short = short;
      place = subst (IsCharBoundary text) place (boundary_following text 0 cut.lexemes (drop at text) (record { utf8 = utf8; place = IsCharBoundary-start text utf8; each = cut.each; rest = sym whole }));
      few = omega arith;
      room = λ more. omega arith;
      ranges = All-nil (λ (fault : Fault). IsRangeOf text fault.span);
      reported = λ more h. reported_following 0 text cut.lexemes (drop at text) cut.each (sym whole) (subst (λ n. AreFirstFaultsFromOffset 100 n (drop at text) more) (sym place) h);
      cut = λ none. cut;
      cannot_cut = λ some. absurd (omega (arith, some));
    }

module _ (old : TextWithTokens) (o : IsScan old) (new : List ℕ) (from removed added : ℕ) (r : ReplacesRange old.text new from removed added) where
  some_each : Full o.lexemes
  some_each = full o.lexemes [] o.lexed.each

  -- Up to the end of the last token or comment before the change, the new text has the tokens and
  -- comments of the old one.
  pub front_cut : (end_of_last_lexeme (tokens_ending_before from old.tokens) (comments_ending_before from old.comments) ≤ length new) × IsCutIntoLexemesUpToOffset new (end_of_last_lexeme (tokens_ending_before from old.tokens) (comments_ending_before from old.comments)) (tokens_ending_before from old.tokens) (comments_ending_before from old.comments)
  front_cut =
      let f = find_front from 0 o.lexemes some_each in
      let parts = full_parts f.front f.back (subst Full f.split some_each) in
      let each = lexemes_parts f.front f.back [] (subst (λ t. AreLeadingLexemes t []) f.split o.lexed.each) in
      let whole : text_of_lexemes f.front ++ text_of_lexemes f.back ≡ old.text = sym (joined_append f.front f.back) ∙ ap text_of_lexemes (sym f.split) ∙ o.lexed.whole in
      let long : length (text_of_lexemes f.front) ≡ f.at = omega (arith, f.at_is) in
      let close : f.at ≤ from = ⊎_elim (λ e. omega (arith, long, ap (λ t. length (text_of_lexemes t)) e)) (λ last. omega (arith, f.near (omega (arith, ap length last.are, length-append last.init (last.last ∷ []))))) f.shape in
      let tokens : tokens_ending_before from old.tokens ≡ tokens_of_lexemes_from 0 f.front = ap (tokens_ending_before from) (o.tokens ∙ ap (tokens_of_lexemes_from 0) f.split) ∙ front_split of_tokens 0 f.at from f.front f.back parts.0 (λ h. subst (λ n. n < from) (sym f.at_is) (f.near h)) f.at_is f.tokens_done in
      let comments : comments_ending_before from old.comments ≡ comments_of_lexemes_from 0 f.front = ap (comments_ending_before from) (o.comments ∙ ap (comments_of_lexemes_from 0) f.split) ∙ front_split of_comments 0 f.at from f.front f.back parts.0 (λ h. subst (λ n. n < from) (sym f.at_is) (f.near h)) f.at_is f.comments_done in
      let ends : end_of_last_lexeme (tokens_ending_before from old.tokens) (comments_ending_before from old.comments) ≡ f.at = ap₂ end_of_last_lexeme tokens comments ∙ front_end f.front parts.0 f.shape ∙ long in
      let following : drop f.at old.text ≡ text_of_lexemes f.back = ap (drop f.at) (sym whole) ∙ drop_at (text_of_lexemes f.front) (text_of_lexemes f.back) f.at long in
      let same : 0 < length f.front → get_or (text_of_lexemes f.back ++ []) 0 0 ≡ get_or (drop f.at new) 0 0 = λ some.
      ap (λ t. get_or t 0 0) (append-nil (text_of_lexemes f.back) ∙ sym following)
      ∙ get_or-drop f.at old.text 0 0
      ∙ sym (get_or-take from old.text (f.at + 0) 0 (omega (arith, f.near some)))
      ∙ ap (λ t. get_or t (f.at + 0) 0) r.front
      ∙ get_or-take from new (f.at + 0) 0 (omega (arith, f.near some))
      ∙ sym (get_or-drop f.at new 0 0) in (
        omega (arith, ends, close, r.inside_new),
        record {
          lexemes = f.front;
          each = subst (λ n. AreLeadingLexemes f.front (drop n new)) (sym ends) (stay f.front (text_of_lexemes f.back ++ []) (drop f.at new) same each.0);
          front = sym (take_at (text_of_lexemes f.front) (text_of_lexemes f.back) f.at long) ∙ ap (take f.at) whole ∙ shorter_front f.at from old.text new close (omega (arith, r.inside_old)) (omega (arith, r.inside_new)) r.front ∙ ap (λ n. take n new) (sym ends);
          tokens_are = tokens;
          comments_are = comments;
        },
      )

  -- From a place after the change, the new text equals the old text from the corresponding place.
  same_rest : (at p : ℕ) → from + added ≤ at → at + removed ≡ p + added → drop at new ≡ drop p old.text
  same_rest at p following e =
      let k : ℕ = at - (from + added) in
      let here : from + added + k ≡ at = omega arith in
      let there : from + removed + k ≡ p = omega arith in
      ap (λ n. drop n new) (sym here) ∙ sym (drop-drop k (from + added) new) ∙ ap (drop k) (sym r.behind) ∙ drop-drop k (from + removed) old.text ∙ ap (λ n. drop n old.text) there

  -- At a border of the old lexemes, the later lexemes spell the rest of the old text and have its
  -- tokens and comments.
  border_facts : (p : ℕ) (b : Border 0 o.lexemes p) → (text_of_lexemes b.back ≡ drop p old.text) × AreLeadingLexemes b.back [] × (tokens_beginning_at_or_after p old.tokens ≡ tokens_of_lexemes_from p b.back) × (comments_beginning_at_or_after p old.comments ≡ comments_of_lexemes_from p b.back) × Full b.back
  border_facts p b =
      let parts = full_parts b.front b.back (subst Full b.split some_each) in
      let each = lexemes_parts b.front b.back [] (subst (λ t. AreLeadingLexemes t []) b.split o.lexed.each) in
      let whole : text_of_lexemes b.front ++ text_of_lexemes b.back ≡ old.text = sym (joined_append b.front b.back) ∙ ap text_of_lexemes (sym b.split) ∙ o.lexed.whole in (
        sym (drop_at (text_of_lexemes b.front) (text_of_lexemes b.back) p (omega (arith, b.at))) ∙ ap (drop p) whole,
        each.1,
        ap (tokens_beginning_at_or_after p) (o.tokens ∙ ap (tokens_of_lexemes_from 0) b.split) ∙ back_split of_tokens 0 p b.front b.back parts.0 parts.1 b.at,
        ap (comments_beginning_at_or_after p) (o.comments ∙ ap (comments_of_lexemes_from 0) b.split) ∙ back_split of_comments 0 p b.front b.back parts.0 parts.1 b.at,
        parts.1,
      )

  -- If a scan stopped at a border of the old lexemes, it can be completed with the old tokens and
  -- comments after that border, shifted. The result is a scan of the new text.
  pub finished : (at p : ℕ) (tokens : List Token) (comments : List Span) → IsUtf8 new → length new ≤ max_text_length → at ≤ length new → from + added ≤ at → at + removed ≡ p + added → IsCutIntoLexemesUpToOffset new at tokens comments → Border 0 o.lexemes p
      → IsScan (record { text = new; tokens = tokens ++ map (token_after_shift removed added) (tokens_beginning_at_or_after p old.tokens); comments = comments ++ map (span_after_shift removed added) (comments_beginning_at_or_after p old.comments) })
  finished at p tokens comments utf8 short inside following e cut b =
      let facts = border_facts p b in
      let rest : text_of_lexemes b.back ≡ drop at new = facts.0 ∙ sym (same_rest at p following e) in
      let place : 0 + length (text_of_lexemes cut.lexemes) ≡ at = omega (arith, ap length cut.front, length-take-le at new inside) in
      let low : removed ≤ p = omega arith in
      record {
        utf8 = utf8;
        short = short;
        lexemes = cut.lexemes ++ b.back;
        lexed = record {
          whole = joined_append cut.lexemes b.back ∙ ap₂ (λ x y. x ++ y) cut.front rest ∙ take-append-drop at new;
          each = lexemes_append cut.lexemes b.back [] (subst (AreLeadingLexemes cut.lexemes) (sym rest ∙ sym (append-nil (text_of_lexemes b.back))) cut.each) facts.1;
        };
        tokens = ap₂ (λ x y. x ++ y) cut.tokens_are (ap (map (token_after_shift removed added)) facts.2 ∙ sym (tokens_moved removed added at p b.back e low) ∙ ap (λ n. tokens_of_lexemes_from n b.back) (sym place)) ∙ sym (all-append of_tokens 0 cut.lexemes b.back);
        comments = ap₂ (λ x y. x ++ y) cut.comments_are (ap (map (span_after_shift removed added)) facts.3 ∙ sym (comments_moved removed added at p b.back e low) ∙ ap (λ n. comments_of_lexemes_from n b.back) (sym place)) ∙ sym (all-append of_comments 0 cut.lexemes b.back);
      }

  movable_lies : (p q : ℕ) (s : Span) → removed ≤ p → q ≤ max_text_length → length new ≤ max_text_length → Lies p q s → IsShiftable removed added s
  movable_lies p q s low most short w = record { start_at_least_removed = omega (arith, w.starts); ordered = omega (arith, w.some); small = omega (arith, w.ends, r.inside_new) }

  pub movable : (p : ℕ) → length new ≤ max_text_length → removed ≤ p → Border 0 o.lexemes p → All (λ (t : Token). IsShiftable removed added t.span) (tokens_beginning_at_or_after p old.tokens) × All (λ (c : Span). IsShiftable removed added c) (comments_beginning_at_or_after p old.comments)
  movable p short low b =
      let facts = border_facts p b in
      let whole : length (text_of_lexemes b.front) + length (text_of_lexemes b.back) ≡ length old.text = sym (length-append (text_of_lexemes b.front) (text_of_lexemes b.back)) ∙ ap length (sym (joined_append b.front b.back) ∙ ap text_of_lexemes (sym b.split) ∙ o.lexed.whole) in
      let most : p + length (text_of_lexemes b.back) ≤ max_text_length = omega (arith, b.at, whole, o.short) in
      let q : ℕ = p + length (text_of_lexemes b.back) in (
        All-same (λ (t : Token). IsShiftable removed added t.span) (tokens_beginning_at_or_after p old.tokens) (tokens_of_lexemes_from p b.back) facts.2
            (All-weaker (λ (t : Token). Lies p q t.span) (λ (t : Token). IsShiftable removed added t.span) (λ t w. movable_lies p q t.span low most short w) (tokens_of_lexemes_from p b.back) (lies of_tokens p b.back facts.4)),
        All-same (λ (c : Span). IsShiftable removed added c) (comments_beginning_at_or_after p old.comments) (comments_of_lexemes_from p b.back) facts.3
            (All-weaker (λ (c : Span). Lies p q c) (λ (c : Span). IsShiftable removed added c) (λ c w. movable_lies p q c low most short w) (comments_of_lexemes_from p b.back) (lies of_comments p b.back facts.4)),
      )

  -- The end of the old text is a border of its lexemes.
  pub end_border : Border 0 o.lexemes (length old.text)
  end_border = record { front = o.lexemes; back = []; split = sym (append-nil o.lexemes); at = omega (arith, ap length o.lexed.whole) }

  pub none_following : (tokens_beginning_at_or_after (length old.text) old.tokens ≡ []) × (comments_beginning_at_or_after (length old.text) old.comments ≡ [])
  unfolding end_border
  none_following = let facts = border_facts (length old.text) end_border in (facts.2, facts.3)
