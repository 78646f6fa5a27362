-- Proves facts about the tokens and comments that are read again, between the two reused parts.
use Rattle.std.proofs.Common.{◌≡◌, ℕ, ◌+◌, ◌-◌, ◌≤◌, Bool, true, false, ◌||◌, List, [], ◌∷◌, ◌++◌, length, map, refl, sym, ap, ap₂, ◌∙◌, subst, arith, ◌⊎◌, inl, inr, ⊎_elim, append_assoc, append-nil, length-drop}
use Rattle.std.specs.List.{All}
use Rattle.std.proofs.lemmas.List.Elements.{All-nil, All-same, All-append, All-drop}
use Rattle.ob0_scan.specs.declared.lexeme.Span.{Span}
use Rattle.ob0_scan.specs.declared.lexeme.Token.{Token}
use Rattle.ob0_scan.specs.declared.scanner.Scanner.{Scanner}
use Rattle.ob0_scan.specs.TextWithTokens.{TextWithTokens, IsScan, max_text_length, span_with_length, tokens_of_one_lexeme, comments_of_one_lexeme, tokens_of_lexemes_from, comments_of_lexemes_from}
use Rattle.ob0_scan.specs.ReusedLexemes.{ReplacesRange, NoLexemeBeginsAt, MatchesNoOldLexemeAfterChange, ReusesOldLexemes, span_after_shift, token_after_shift, tokens_ending_before, comments_ending_before, tokens_beginning_at_or_after, comments_beginning_at_or_after}
use Rattle.ob0_scan.specs.RescanState.{first_token_begins_at, first_comment_begins_at, IsShiftable, AddsOneLexeme, AddsNewLexemes, RescanCanStopAt}
use Rattle.ob0_scan.specs.ScanProgress.{IsScannedUpToOffset}
use Rattle.ob0_scan.specs.ScannerState.{IsConsistentScanner}
use Rattle.ob0_scan.proofs.Spans.{token_with, comment_with}
use Rattle.ob0_scan.proofs.AtLexemes.{of_tokens, of_comments, full, AreAscending, ascending, starts_after, first_at, none_at, at_first, Border, begin_at_borders}
use Rattle.ob0_scan.proofs.Reusing.{end_border, none_following, finished, movable}

either_false : (a b : Bool) → (a || b) ≡ false → (a ≡ false) × (b ≡ false)
either_false true b e = cc
either_false false b e = (refl, e)

either_true : (a b : Bool) → (a || b) ≡ true → (a ≡ true) ⊎ (b ≡ true)
either_true true b e = inl refl
either_true false b e = inr e

token_first : (place : ℕ) (ts : List Token) → first_token_begins_at place ts ≡ first_at (λ (t : Token). t.span.start) place ts
token_first place [] = refl
token_first place (t ∷ ts) = refl

comment_first : (place : ℕ) (cs : List Span) → first_comment_begins_at place cs ≡ first_at (λ (c : Span). c.start) place cs
comment_first place [] = refl
comment_first place (c ∷ cs) = refl

pub reads_none : (old : TextWithTokens) (from removed added : ℕ) (s : Scanner) → AddsNewLexemes old from removed added s s
reads_none old from removed added s = record {
  tokens = [];
  comments = [];
  tokens_are = sym (append-nil s.tokens.items);
  comments_are = sym (append-nil s.comments.items);
  tokens_new_behind_change = All-nil (λ (t : Token). MatchesNoOldLexemeAfterChange old from removed added t.span);
  comments_new_behind_change = All-nil (λ (c : Span). MatchesNoOldLexemeAfterChange old from removed added c);
}

pub reads_more : (old : TextWithTokens) (from removed added : ℕ) (s t u : Scanner) → AddsNewLexemes old from removed added s t → AddsOneLexeme t u → (from + added ≤ t.at → NoLexemeBeginsAt old (t.at + removed - added)) → AddsNewLexemes old from removed added s u
reads_more old from removed added s t u r w new =
    let place = span_with_length t.at w.len in
    record {
      tokens = r.tokens ++ tokens_of_one_lexeme w.kind place;
      comments = r.comments ++ comments_of_one_lexeme w.kind place;
      tokens_are = w.tokens ∙ ap (λ x. x ++ tokens_of_one_lexeme w.kind place) r.tokens_are ∙ append_assoc s.tokens.items r.tokens (tokens_of_one_lexeme w.kind place);
      comments_are = w.comments ∙ ap (λ x. x ++ comments_of_one_lexeme w.kind place) r.comments_are ∙ append_assoc s.comments.items r.comments (comments_of_one_lexeme w.kind place);
      tokens_new_behind_change = All-append (λ (x : Token). MatchesNoOldLexemeAfterChange old from removed added x.span) r.tokens (tokens_of_one_lexeme w.kind place) r.tokens_new_behind_change (token_with (λ (x : Token). MatchesNoOldLexemeAfterChange old from removed added x.span) w.kind place (λ kind. new));
      comments_new_behind_change = All-append (λ (x : Span). MatchesNoOldLexemeAfterChange old from removed added x) r.comments (comments_of_one_lexeme w.kind place) r.comments_new_behind_change (comment_with (λ (x : Span). MatchesNoOldLexemeAfterChange old from removed added x) w.kind place new);
    }

module _ (old : TextWithTokens) (o : IsScan old) where
  pub none_begins : (place : ℕ) → (first_token_begins_at place (tokens_beginning_at_or_after place old.tokens) || first_comment_begins_at place (comments_beginning_at_or_after place old.comments)) ≡ false → NoLexemeBeginsAt old place
  none_begins place e =
      let parts = either_false (first_token_begins_at place (tokens_beginning_at_or_after place old.tokens)) (first_comment_begins_at place (comments_beginning_at_or_after place old.comments)) e in
      let some = full o.lexemes [] o.lexed.each in
      record {
        tokens = none_at (λ (t : Token). t.span.start) place old.tokens (subst (AreAscending (λ (t : Token). t.span.start)) (sym o.tokens) (ascending of_tokens (λ (v : Span). v.start) starts_after 0 o.lexemes some)) (sym (token_first place (tokens_beginning_at_or_after place old.tokens)) ∙ parts.0);
        comments = none_at (λ (c : Span). c.start) place old.comments (subst (AreAscending (λ (c : Span). c.start)) (sym o.comments) (ascending of_comments (λ (v : Span). v.start) starts_after 0 o.lexemes some)) (sym (comment_first place (comments_beginning_at_or_after place old.comments)) ∙ parts.1);
      }

  token_border : (place : ℕ) → first_token_begins_at place (tokens_beginning_at_or_after place old.tokens) ≡ true → Border 0 o.lexemes place
  token_border place e = at_first (λ (t : Token). t.span.start) (Border 0 o.lexemes) place (tokens_beginning_at_or_after place old.tokens) (sym (token_first place (tokens_beginning_at_or_after place old.tokens)) ∙ e)
      (All-drop (λ (t : Token). Border 0 o.lexemes t.span.start) _ old.tokens (All-same (λ (t : Token). Border 0 o.lexemes t.span.start) old.tokens (tokens_of_lexemes_from 0 o.lexemes) o.tokens (begin_at_borders of_tokens 0 o.lexemes)))

  comment_border : (place : ℕ) → first_comment_begins_at place (comments_beginning_at_or_after place old.comments) ≡ true → Border 0 o.lexemes place
  comment_border place e = at_first (λ (c : Span). c.start) (Border 0 o.lexemes) place (comments_beginning_at_or_after place old.comments) (sym (comment_first place (comments_beginning_at_or_after place old.comments)) ∙ e)
      (All-drop (λ (c : Span). Border 0 o.lexemes c.start) _ old.comments (All-same (λ (c : Span). Border 0 o.lexemes c.start) old.comments (comments_of_lexemes_from 0 o.lexemes) o.comments (begin_at_borders of_comments 0 o.lexemes)))

  module _ (new : List ℕ) (from removed added : ℕ) (r : ReplacesRange old.text new from removed added) where
    -- The end of the new text corresponds to the end of the old one.
    pub end_place : (at : ℕ) → at ≡ length new → at + removed - added ≡ length old.text
    end_place at e =
        let same : length old.text - (from + removed) ≡ length new - (from + added) = sym (length-drop (from + removed) old.text) ∙ ap length r.behind ∙ length-drop (from + added) new in
        omega (arith, same, r.inside_old, r.inside_new)

    pub end_met : (at : ℕ) → at ≡ length new → RescanCanStopAt old (length new) from removed added at [] []
    end_met at e =
        let place = end_place at e in
        let none = none_following old o new from removed added r in
        record {
          behind_change = omega (arith, r.inside_new);
          tokens_are = sym (ap (λ p. tokens_beginning_at_or_after p old.tokens) place ∙ none.0);
          comments_are = sym (ap (λ p. comments_beginning_at_or_after p old.comments) place ∙ none.1);
          border = inl e;
        }

    pub met_border : (at : ℕ) (tokens : List Token) (comments : List Span) → RescanCanStopAt old (length new) from removed added at tokens comments → Border 0 o.lexemes (at + removed - added)
    met_border at tokens comments m = ⊎_elim
        (λ end. subst (Border 0 o.lexemes) (sym (end_place at end)) (end_border old o new from removed added r))
        (λ begins. ⊎_elim
        (λ token. token_border (at + removed - added) token)
        (λ comment. comment_border (at + removed - added) comment)
        (either_true (first_token_begins_at (at + removed - added) (tokens_beginning_at_or_after (at + removed - added) old.tokens)) (first_comment_begins_at (at + removed - added) (comments_beginning_at_or_after (at + removed - added) old.comments))
        (ap₂ (λ ts cs. first_token_begins_at (at + removed - added) ts || first_comment_begins_at (at + removed - added) cs) (sym m.tokens_are) (sym m.comments_are) ∙ begins)))
        m.border

-- The old tokens and comments before the change, the newly read ones and the later old ones
-- together meet `ReusesOldLexemes`.
pub reused : (old new : TextWithTokens) (from removed added : ℕ) (s t : Scanner) (tokens : List Token) (comments : List Span) (end : ℕ) (fs : List Token) (gs : List Span) → fs ≡ tokens_ending_before from old.tokens → gs ≡ comments_ending_before from old.comments → s.tokens.items ≡ [] → s.comments.items ≡ []
    → AddsNewLexemes old from removed added s t → RescanCanStopAt old end from removed added t.at tokens comments
    → new.tokens ≡ (fs ++ t.tokens.items) ++ map (token_after_shift removed added) tokens → new.comments ≡ (gs ++ t.comments.items) ++ map (span_after_shift removed added) comments
    → (read : ℕ) → read ≡ length t.tokens.items + length t.comments.items → ReusesOldLexemes old new from removed added read
reused old new from removed added s t tokens comments end fs gs ft fc st sc r m et ec read e =
    let read_tokens : t.tokens.items ≡ r.tokens = r.tokens_are ∙ ap (λ x. x ++ r.tokens) st in
    let read_comments : t.comments.items ≡ r.comments = r.comments_are ∙ ap (λ x. x ++ r.comments) sc in
    record {
      place = t.at + removed - added;
      behind_change = omega (arith, m.behind_change);
      tokens_between = r.tokens;
      comments_between = r.comments;
      tokens = et ∙ ap₂ (λ x y. x ++ map (token_after_shift removed added) y) (ap₂ (λ x y. x ++ y) ft read_tokens) m.tokens_are;
      comments = ec ∙ ap₂ (λ x y. x ++ map (span_after_shift removed added) y) (ap₂ (λ x y. x ++ y) fc read_comments) m.comments_are;
      read_count = omega (arith, e, ap length read_tokens, ap length read_comments);
      tokens_new_behind_change = r.tokens_new_behind_change;
      comments_new_behind_change = r.comments_new_behind_change;
    }

-- Holds if the scanner t has stopped without error, and its tokens and comments can be completed
-- with the remaining old ones, shifted, to a scan of the new text.
pub record Settled (old : TextWithTokens) (new : List ℕ) (from removed added : ℕ) (t : Scanner) (tokens : List Token) (comments : List Span) : Type 0 where
  pub met : RescanCanStopAt old (length new) from removed added t.at tokens comments
  pub tokens_are_movable : All (λ (x : Token). IsShiftable removed added x.span) tokens
  pub comments_are_movable : All (λ (x : Span). IsShiftable removed added x) comments
  pub scan : IsScan (record { text = new; tokens = (t.front.tokens.now ++ t.tokens.items) ++ map (token_after_shift removed added) tokens; comments = (t.front.comments.now ++ t.comments.items) ++ map (span_after_shift removed added) comments })

abbrev make_scan : List ℕ → List Token → List Span → TextWithTokens
make_scan text tokens comments = record { text = text; tokens = tokens; comments = comments }

pub settled : (old : TextWithTokens) (o : IsScan old) (new : List ℕ) (from removed added : ℕ) (r : ReplacesRange old.text new from removed added) (t : Scanner) (tokens : List Token) (comments : List Span) → t.text.now ≡ new → IsConsistentScanner t → length t.faults.items ≡ 0 → length new ≤ max_text_length
    → (length t.faults.items ≡ 0 → RescanCanStopAt old (length t.text.now) from removed added t.at tokens comments) → Settled old new from removed added t tokens comments
settled old o new from removed added r t tokens comments text under none short found =
    let met : RescanCanStopAt old (length new) from removed added t.at tokens comments = subst (λ x. RescanCanStopAt old (length x) from removed added t.at tokens comments) text (found none) in
    let ts = t.front.tokens.now ++ t.tokens.items in
    let cs = t.front.comments.now ++ t.comments.items in
    let p : IsScannedUpToOffset new t.at ts cs t.faults.items = subst (λ x. IsScannedUpToOffset x t.at ts cs t.faults.items) text under in
    let place : ℕ = t.at + removed - added in
    let border = met_border old o new from removed added r t.at tokens comments met in
    let low : removed ≤ place = omega (arith, met.behind_change) in
    let same : t.at + removed ≡ place + added = omega (arith, met.behind_change) in
    let move = movable old o new from removed added r place short low border in
    let whole = finished old o new from removed added r t.at place ts cs p.utf8 short p.place.0 met.behind_change same (p.cut none) border in
    record {
      met = met;
      tokens_are_movable = All-same (λ (x : Token). IsShiftable removed added x.span) tokens (tokens_beginning_at_or_after place old.tokens) met.tokens_are move.0;
      comments_are_movable = All-same (λ (x : Span). IsShiftable removed added x) comments (comments_beginning_at_or_after place old.comments) met.comments_are move.1;
      scan = subst (λ x. IsScan (make_scan new (ts ++ map (token_after_shift removed added) x) (cs ++ map (span_after_shift removed added) comments))) (sym met.tokens_are)
          (subst (λ x. IsScan (make_scan new (ts ++ map (token_after_shift removed added) (tokens_beginning_at_or_after place old.tokens)) (cs ++ map (span_after_shift removed added) x))) (sym met.comments_are) whole);
    }
