-- Proves one step of the pass over the tokens and comments of a text: which lexeme is next, and
-- which gap is before it.
-- The loop needs only `at_comment`, `at_token` and `at_end`. `passing_moved` carries their facts
-- over along equations.
use Rattle.std.proofs.Common.{◌≡◌, ℕ, ◌+◌, ◌-◌, ◌*◌, ◌<◌, ◌≤◌, Bool, true, false, ◌||◌, cond, ◌⊎◌, inl, inr, Option, Some, None, List, [], ◌∷◌, ◌++◌, length, take, drop, map, replicate, slice_range, refl, sym, ap, ◌∙◌, subst, arith, append_assoc, append-nil, is_none}
use Rattle.std.proofs.Math.Seq.{take-append-add}
use Rattle.std.proofs.lemmas.Bool.Decides.{nat_tests}
use Rattle.std.proofs.lemmas.List.{map-append}
use Rattle.std.proofs.lemmas.Str.{IsCharBoundary-start}
use Rattle.std.specs.Prelude.{nat_lt, if◌then◌else◌, ◌==◌}
use Rattle.std.proofs.Math.Bool.{or-false}
use Rattle.ob0_text.proofs.StableSort.{first_same}
use Rattle.ob0_text.specs.declared.edits.Indent.{Indent}
use Rattle.ob0_text.specs.declared.edits.Indent.TheVariants as indent_by
use Rattle.ob0_text.specs.Patches.{Cut}
use Rattle.ob0_scan.specs.declared.lexeme.LexemeKind.{LexemeKind}
use Rattle.ob0_scan.specs.declared.lexeme.LexemeKind.TheVariants as lexeme
use Rattle.ob0_scan.specs.declared.lexeme.Span.{Span}
use Rattle.ob0_scan.specs.declared.lexeme.Token.{Token}
use Rattle.ob0_scan.specs.TextLexemes.{Lexeme, text_of_lexemes}
use Rattle.ob0_scan.specs.TextWithTokens.{TextWithTokens, IsScan, span_with_length, tokens_of_one_lexeme, comments_of_one_lexeme, tokens_of_lexemes_from, comments_of_lexemes_from}
use Rattle.ob0_scan.proofs.Cuts.{nonempty}
use Rattle.ob0_scan.proofs.Spans.{LexemesFrom, next_from}
use Rattle.ob0_layout.specs.declared.gap.Gap.{Gap}
use Rattle.ob0_layout.specs.declared.gap_sites.GapSite.{GapSite}
use Rattle.ob0_layout.specs.declared.gap_sites.TokenOrComment.{TokenOrComment}
use Rattle.ob0_layout.specs.declared.gap_sites.TokenOrComment.TheVariants as next
use Rattle.ob0_layout.specs.declared.gap_sites.KindAndRole.{KindAndRole}
use Rattle.ob0_layout.specs.declared.line_role.LineRole.{LineRole}
use Rattle.ob0_layout.specs.Cuts.{gap_sites_to_change, gap_before_token_or_comment, gap_cut, gap_at_text_end, next_token_or_comment}
use Rattle.ob0_layout.specs.Gaps.{all_gaps, changed_gaps, gaps_of_lexemes, gaps_after_token_or_comment, formatting_changes_gap}
use Rattle.ob0_layout.specs.Layout.{LexemeWithRole, lexemes_with_roles, next_token_line_level, next_token_role, contains_line_break, comment_role, gap_text_between, indentation}
use Rattle.ob0_layout.proofs.Apart.{IsSolid}

break_append : (xs ys : List ℕ) → contains_line_break (xs ++ ys) ≡ (contains_line_break xs || contains_line_break ys)
break_append [] ys = refl
break_append (x ∷ xs) ys = by_test (x == 10) (x == 13) (break_append xs ys)
  where
    by_test : (a b : Bool) → contains_line_break (xs ++ ys) ≡ (contains_line_break xs || contains_line_break ys) → (a || (b || contains_line_break (xs ++ ys))) ≡ ((a || (b || contains_line_break xs)) || contains_line_break ys)
    by_test true b e = refl
    by_test false true e = refl
    by_test false false e = e

or_assoc : (a b c : Bool) → ((a || b) || c) ≡ (a || (b || c))
or_assoc true b c = refl
or_assoc false b c = refl

first_token_kind : (k : LexemeKind) (at size : ℕ) (ls : List Lexeme) (t : Token) (ts : List Token) → (tokens_of_lexemes_from (at + size) ls ≡ t ∷ ts → at + size ≤ t.span.start)
    → tokens_of_one_lexeme k (span_with_length at size) ++ tokens_of_lexemes_from (at + size) ls ≡ t ∷ ts → at ≤ t.span.start
first_token_kind (lexeme.Token k) at size ls t ts more e = let same : record { kind = k; span = span_with_length at size } ≡ t = first_same e in omega (arith, ap (λ (x : Token). x.span.start) same)
first_token_kind _ at size ls t ts more e = omega (arith, more e)

-- The tokens of a suffix begin at its start or later.
first_bound_token : (at : ℕ) (ls : List Lexeme) (t : Token) (ts : List Token) → tokens_of_lexemes_from at ls ≡ t ∷ ts → at ≤ t.span.start
first_bound_token at [] t ts e = absurd (cc)
first_bound_token at (l ∷ ls) t ts e = first_token_kind l.kind at (length l.text) ls t ts (first_bound_token (at + length l.text) ls t ts) e

first_comment_kind : (k : LexemeKind) (at size : ℕ) (ls : List Lexeme) (c : Span) (cs : List Span) → (comments_of_lexemes_from (at + size) ls ≡ c ∷ cs → at + size ≤ c.start)
    → comments_of_one_lexeme k (span_with_length at size) ++ comments_of_lexemes_from (at + size) ls ≡ c ∷ cs → at ≤ c.start
first_comment_kind lexeme.Comment at size ls c cs more e = let same : span_with_length at size ≡ c = first_same e in omega (arith, ap (λ (x : Span). x.start) same)
first_comment_kind _ at size ls c cs more e = omega (arith, more e)

first_comment : (at : ℕ) (ls : List Lexeme) (c : Span) (cs : List Span) → comments_of_lexemes_from at ls ≡ c ∷ cs → at ≤ c.start
first_comment at [] c cs e = absurd (cc)
first_comment at (l ∷ ls) c cs e = first_comment_kind l.kind at (length l.text) ls c cs (first_comment (at + length l.text) ls c cs) e

-- returns a lexeme at this place as the next token or comment; None if it is white space
abbrev first_of : LexemeKind → Span → Option TokenOrComment
first_of lexeme.WhiteSpace span = None
first_of lexeme.Comment span = Some (next.Comment span)
first_of (lexeme.Token k) span = Some (next.Token (record { kind = k; span = span }))

comes_first : (k : LexemeKind) (at : ℕ) (t : List ℕ) (ls : List Lexeme) → IsSolid k → 0 < length t
    → next_token_or_comment (tokens_of_lexemes_from at (record { kind = k; text = t } ∷ ls)) (comments_of_lexemes_from at (record { kind = k; text = t } ∷ ls)) ≡ first_of k (span_with_length at (length t))
comes_first lexeme.WhiteSpace at t ls solid some = absurd solid
comes_first lexeme.Comment at t ls solid some = by_tokens (tokens_of_lexemes_from (at + length t) ls) refl
  where
    by_tokens : (ts : List Token) → tokens_of_lexemes_from (at + length t) ls ≡ ts → next_token_or_comment ts (span_with_length at (length t) ∷ comments_of_lexemes_from (at + length t) ls) ≡ Some (next.Comment (span_with_length at (length t)))
    by_tokens [] e = refl
    by_tokens (u ∷ ts) e =
        let later = first_bound_token (at + length t) ls u ts e in
        let test : nat_lt at u.span.start ≡ true = grind (arith, nat_tests) in
        ap (λ b. if b then Some (next.Comment (span_with_length at (length t))) else Some (next.Token u)) test
comes_first (lexeme.Token k) at t ls solid some = by_comments (comments_of_lexemes_from (at + length t) ls) refl
  where
    token : Token
    token = record { kind = k; span = span_with_length at (length t) }

    by_comments : (cs : List Span) → comments_of_lexemes_from (at + length t) ls ≡ cs → next_token_or_comment (token ∷ tokens_of_lexemes_from (at + length t) ls) cs ≡ Some (next.Token token)
    by_comments [] e = refl
    by_comments (c ∷ cs) e =
        let later = first_comment (at + length t) ls c cs e in
        let test : nat_lt c.start at ≡ false = grind (arith, nat_tests) in
        ap (λ b. if b then Some (next.Comment c) else Some (next.Token token)) test

module _ (text : List ℕ) where
  -- states that only white space remains
  pub record NoMore (at : ℕ) (rest : List Lexeme) : Type 0 where
    pub up : at ≤ length text
    pub tokens : tokens_of_lexemes_from at rest ≡ []
    pub comments : comments_of_lexemes_from at rest ≡ []
    pub none : (level : ℕ) (broken : Bool) (ss : List LineRole) → lexemes_with_roles at level broken ss rest ≡ []

  -- states that a token or comment comes next, after white space
  pub record Found (at : ℕ) (rest : List Lexeme) : Type 0 where
    pub place : ℕ
    pub kind : LexemeKind
    pub t : List ℕ
    pub ls : List Lexeme
    pub solid : IsSolid kind
    pub up : at ≤ place
    pub from_there : LexemesFrom text place (record { kind = kind; text = t } ∷ ls) []
    pub tokens : tokens_of_lexemes_from at rest ≡ tokens_of_lexemes_from place (record { kind = kind; text = t } ∷ ls)
    pub comments : comments_of_lexemes_from at rest ≡ comments_of_lexemes_from place (record { kind = kind; text = t } ∷ ls)
    pub found : (level : ℕ) (broken : Bool) (ss : List LineRole)
        → lexemes_with_roles at level broken ss rest ≡ lexemes_with_roles place level (broken || contains_line_break (slice_range text at place)) ss (record { kind = kind; text = t } ∷ ls)

  over_space : (at : ℕ) (t : List ℕ) (ls : List Lexeme) → drop at text ≡ t ++ text_of_lexemes ls → drop (at + length t) text ≡ text_of_lexemes ls
      → NoMore (at + length t) ls ⊎ Found (at + length t) ls → NoMore at (record { kind = lexeme.WhiteSpace; text = t } ∷ ls) ⊎ Found at (record { kind = lexeme.WhiteSpace; text = t } ∷ ls)
  over_space at t ls here there (inl n) = inl (record { up = omega (arith, n.up); tokens = n.tokens; comments = n.comments; none = λ level broken ss. n.none level (broken || contains_line_break t) ss })
  over_space at t ls here there (inr n) =
      let further : n.place - at ≡ length t + (n.place - (at + length t)) = omega (arith, n.up) in
      let parts : slice_range text at n.place ≡ t ++ slice_range text (at + length t) n.place =
      (λ i. take (further i) (here i)) ∙ take-append-add t (text_of_lexemes ls) (n.place - (at + length t)) ∙ ap (λ r. t ++ take (n.place - (at + length t)) r) (sym there) in
      let same : (broken : Bool) → ((broken || contains_line_break t) || contains_line_break (slice_range text (at + length t) n.place)) ≡ (broken || contains_line_break (slice_range text at n.place)) =
      λ broken. or_assoc broken (contains_line_break t) _ ∙ ap (λ b. broken || b) (sym (ap contains_line_break parts ∙ break_append t (slice_range text (at + length t) n.place))) in
      inr (record {
        place = n.place;
        kind = n.kind;
        t = n.t;
        ls = n.ls;
        solid = n.solid;
        up = omega (arith, n.up);
        from_there = n.from_there;
        tokens = n.tokens;
        comments = n.comments;
        found = λ level broken ss. n.found level (broken || contains_line_break t) ss ∙ ap (λ b. lexemes_with_roles n.place level b ss (record { kind = n.kind; text = n.t } ∷ n.ls)) (same broken);
      })

  found_here : (k : LexemeKind) (at : ℕ) (t : List ℕ) (ls : List Lexeme) → IsSolid k → LexemesFrom text at (record { kind = k; text = t } ∷ ls) [] → Found at (record { kind = k; text = t } ∷ ls)
  found_here k at t ls solid s =
      let zero : at - at ≡ 0 = omega arith in
      let nothing : slice_range text at at ≡ [] = ap (λ n. take n (drop at text)) zero in
      record {
        place = at;
        kind = k;
        t = t;
        ls = ls;
        solid = solid;
        up = omega arith;
        from_there = s;
        tokens = refl;
        comments = refl;
        found = λ level broken ss. ap (λ b. lexemes_with_roles at level b ss (record { kind = k; text = t } ∷ ls)) (sym (ap (λ g. broken || contains_line_break g) nothing ∙ or-false broken));
      }

  over_kind : (k : LexemeKind) (at : ℕ) (t : List ℕ) (ls : List Lexeme) → LexemesFrom text at (record { kind = k; text = t } ∷ ls) []
      → LexemesFrom text (at + length t) ls [] → NoMore (at + length t) ls ⊎ Found (at + length t) ls → NoMore at (record { kind = k; text = t } ∷ ls) ⊎ Found at (record { kind = k; text = t } ∷ ls)
  over_kind lexeme.WhiteSpace at t ls s s' more = over_space at t ls (s.rest ∙ append-nil (t ++ text_of_lexemes ls)) (s'.rest ∙ append-nil (text_of_lexemes ls)) more
  over_kind lexeme.Comment at t ls s s' more = inr (found_here lexeme.Comment at t ls tt s)
  over_kind (lexeme.Token k) at t ls s s' more = inr (found_here (lexeme.Token k) at t ls tt s)

  ahead : (at : ℕ) (rest : List Lexeme) → LexemesFrom text at rest [] → NoMore at rest ⊎ Found at rest
  ahead at [] s = inl (record { up = s.place.0; tokens = refl; comments = refl; none = λ level broken ss. refl })
  ahead at (l ∷ ls) s =
      let s' = next_from text at l ls [] s in
      over_kind l.kind at l.text ls s s' (ahead (at + length l.text) ls s')

abbrev pub make_site : ℕ → ℕ → Gap → GapSite
make_site start end gap = record { start = start; end = end; gap = gap }

abbrev pub make_solid : LexemeKind → LineRole → KindAndRole
make_solid kind role = record { kind = kind; role = role }

no_indent : (indent : Indent) → indentation indent 0 ≡ []
no_indent indent_by.Tab = refl
no_indent (indent_by.Spaces n) = let none : 0 * n ≡ 0 = omega arith in ap (λ k. replicate k 32) none

module _ (indent : Indent) (text : List ℕ) where
  -- returns the gaps after offset `start`, which is the text's start or the end of a token or
  -- comment
  abbrev gaps_left : Option KindAndRole → ℕ → List LexemeWithRole → List Cut
  gaps_left None start [] = record { from = start; to = length text; new = [] } ∷ []
  gaps_left None start (b ∷ bs) = record { from = start; to = b.span.start; new = [] } ∷ gaps_after_token_or_comment indent (length text) b bs
  gaps_left (Some a) start bs = gaps_after_token_or_comment indent (length text) (record { lexeme = record { kind = a.kind; text = [] }; span = record { start = start; end = start }; role = a.role }) bs

  at_start : (bs : List LexemeWithRole) → gaps_left None 0 bs ≡ gaps_of_lexemes indent (length text) bs
  at_start [] = refl
  at_start (b ∷ bs) = refl

  -- The gaps after a token or comment depend only on its kind, role and end.
  same_after : (b : LexemeWithRole) (bs : List LexemeWithRole) → gaps_after_token_or_comment indent (length text) b bs ≡ gaps_left (Some (make_solid b.lexeme.kind b.role)) b.span.end bs
  unfolding gap_text_between
  same_after b [] = refl
  same_after b (c ∷ cs) = refl

  one_gap : (before : Option KindAndRole) (start : ℕ) (b : LexemeWithRole) (bs : List LexemeWithRole)
      → gap_cut indent (make_site start b.span.start (gap_before_token_or_comment before b.lexeme.kind b.role)) ∷ gaps_left (Some (make_solid b.lexeme.kind b.role)) b.span.end bs ≡ gaps_left before start (b ∷ bs)
  unfolding gap_text_between
  one_gap None start b bs = ap (λ cs. record { from = start; to = b.span.start; new = [] } ∷ cs) (sym (same_after b bs))
  one_gap (Some a) start b bs = ap (λ cs. gap_cut indent (make_site start b.span.start (gap_before_token_or_comment (Some a) b.lexeme.kind b.role)) ∷ cs) (sym (same_after b bs))

  final_gap : (before : Option KindAndRole) (start : ℕ) → gap_cut indent (make_site start (length text) (gap_at_text_end before)) ∷ [] ≡ gaps_left before start []
  final_gap None start = refl
  final_gap (Some a) start = ap (λ xs. record { from = start; to = length text; new = 10 ∷ xs } ∷ []) (no_indent indent)

  -- Adding one more gap to the list adds it to the changed gaps if it changes.
  one_more : (out : List GapSite) (g : GapSite) (cs : List Cut)
      → map (gap_cut indent) (out ++ gap_sites_to_change indent text (g ∷ [])) ++ changed_gaps text cs ≡ map (gap_cut indent) out ++ changed_gaps text (gap_cut indent g ∷ cs)
  one_more out g cs =
      ap (λ xs. xs ++ changed_gaps text cs) (map-append (gap_cut indent) out (gap_sites_to_change indent text (g ∷ [])))
      ∙ append_assoc (map (gap_cut indent) out) (map (gap_cut indent) (gap_sites_to_change indent text (g ∷ []))) (changed_gaps text cs)
      ∙ ap (λ xs. map (gap_cut indent) out ++ xs) (by_test (formatting_changes_gap text (gap_cut indent g)))
    where
      by_test : (b : Bool) → map (gap_cut indent) (cond b (g ∷ []) []) ++ changed_gaps text cs ≡ cond b (gap_cut indent g ∷ changed_gaps text cs) (changed_gaps text cs)
      by_test true = refl
      by_test false = refl

  -- states that the gaps found so far and the gaps of the remaining lexemes together are all gaps
  -- that change
  pub record Passing (whole : List Cut) (left : List Token) (comments : List Span) (ss : List LineRole) (before : Option KindAndRole) (level start : ℕ) (out : List GapSite) : Type 0 where
    pub rest : List Lexeme
    pub from_there : LexemesFrom text start rest []
    pub left_is : left ≡ tokens_of_lexemes_from start rest
    pub comments_is : comments ≡ comments_of_lexemes_from start rest
    pub same : map (gap_cut indent) out ++ changed_gaps text (gaps_left before start (lexemes_with_roles start level (is_none before) ss rest)) ≡ changed_gaps text whole

  pub passing_at_start : (s : TextWithTokens) (scan : IsScan s) (ss : List LineRole) (left : List Token) (comments : List Span) (out : List GapSite) → text ≡ s.text → left ≡ s.tokens → comments ≡ s.comments → out ≡ []
      → Passing (all_gaps indent text ss scan.lexemes) left comments ss None 0 0 out
  passing_at_start s scan ss left comments out text_is left_is comments_is out_is = record {
    rest = scan.lexemes;
    from_there = subst (λ t. LexemesFrom t 0 scan.lexemes []) (sym text_is)
        (record { utf8 = scan.utf8; place = IsCharBoundary-start s.text scan.utf8; each = scan.lexed.each; rest = sym (append-nil (text_of_lexemes scan.lexemes) ∙ scan.lexed.whole) });
    left_is = left_is ∙ scan.tokens;
    comments_is = comments_is ∙ scan.comments;
    same = λ i. map (gap_cut indent) (out_is i) ++ changed_gaps text (at_start (lexemes_with_roles 0 0 true ss scan.lexemes) i);
  }

  -- The invariant of the pass holds of equal parts.
  pub passing_moved : {whole : List Cut} {left left' : List Token} {comments comments' : List Span} {ss ss' : List LineRole} {before before' : Option KindAndRole} {level level' start : ℕ} {out out' : List GapSite}
      → Passing whole left comments ss before level start out → left' ≡ left → comments' ≡ comments → ss' ≡ ss → before' ≡ before → level' ≡ level → out' ≡ out
      → Passing whole left' comments' ss' before' level' start out'
  passing_moved {whole = whole} {start = start} h a b c d e f = record {
    rest = h.rest;
    from_there = h.from_there;
    left_is = a ∙ h.left_is;
    comments_is = b ∙ h.comments_is;
    same = (λ i. map (gap_cut indent) (f i) ++ changed_gaps text (gaps_left (d i) start (lexemes_with_roles start (e i) (is_none (d i)) (c i) h.rest))) ∙ h.same;
  }

  module _ (whole : List Cut) (left : List Token) (comments : List Span) (ss : List LineRole) (before : Option KindAndRole) (level start : ℕ) (out : List GapSite) where
    abbrev with_gap : ℕ → Gap → List GapSite
    with_gap end g = out ++ gap_sites_to_change indent text (make_site start end g ∷ [])

    -- states that the pass moves over a token or comment
    pub record Passes (kind : LexemeKind) (span : Span) (role : LineRole) (left' : List Token) (comments' : List Span) (ss' : List LineRole) (level' : ℕ) : Type 0 where
      pub up : start ≤ span.start
      pub ordered : span.start ≤ span.end
      pub within : span.end ≤ length text
      pub after : Passing whole left' comments' ss' (Some (make_solid kind role)) level' span.end (with_gap span.start (gap_before_token_or_comment before kind role))

    abbrev role_at : Span → LineRole
    role_at span = comment_role (is_none before || contains_line_break (slice_range text start span.start)) (next_token_line_level level ss)

    abbrev Goes : Option TokenOrComment → Type 0
    Goes None = (start ≤ length text) × (map (gap_cut indent) (with_gap (length text) (gap_at_text_end before)) ≡ changed_gaps text whole)
    Goes (Some (next.Comment span)) = Passes lexeme.Comment span (role_at span) left (drop 1 comments) ss level
    Goes (Some (next.Token token)) = Passes (lexeme.Token token.kind) token.span (next_token_role ss) (drop 1 left) comments (drop 1 ss) (next_token_line_level level ss)

    module _ (h : Passing whole left comments ss before level start out) where
      ends : NoMore text start h.rest → Goes None
      ends n = (
        n.up,
        sym (append-nil _) ∙ one_more out (make_site start (length text) (gap_at_text_end before)) []
            ∙ ap (λ cs. map (gap_cut indent) out ++ changed_gaps text cs) (final_gap before start ∙ ap (gaps_left before start) (sym (n.none level (is_none before) ss)))
            ∙ h.same,
      )

      passes : (kind : LexemeKind) (place : ℕ) (t : List ℕ) (ls : List Lexeme) (role : LineRole) (left' : List Token) (comments' : List Span) (ss' : List LineRole) (level' : ℕ)
          → start ≤ place → LexemesFrom text place (record { kind = kind; text = t } ∷ ls) []
          → left' ≡ tokens_of_lexemes_from (place + length t) ls → comments' ≡ comments_of_lexemes_from (place + length t) ls
          → lexemes_with_roles start level (is_none before) ss h.rest ≡ record { lexeme = record { kind = kind; text = t }; span = span_with_length place (length t); role = role } ∷ lexemes_with_roles (place + length t) level' false ss' ls
          → Passes kind (span_with_length place (length t)) role left' comments' ss' level'
      passes kind place t ls role left' comments' ss' level' up s tokens others found =
          let s' = next_from text place (record { kind = kind; text = t }) ls [] s in
          let b : LexemeWithRole = record { lexeme = record { kind = kind; text = t }; span = span_with_length place (length t); role = role } in
          let bs : List LexemeWithRole = lexemes_with_roles (place + length t) level' false ss' ls in
          record {
            up = up;
            ordered = omega arith;
            within = s'.place.0;
            after = record {
              rest = ls;
              from_there = s';
              left_is = tokens;
              comments_is = others;
              same = one_more out (make_site start place (gap_before_token_or_comment before kind role)) (gaps_left (Some (make_solid kind role)) (place + length t) bs)
                  ∙ ap (λ cs. map (gap_cut indent) out ++ changed_gaps text cs) (one_gap before start b bs ∙ ap (gaps_left before start) (sym found)) ∙ h.same;
            };
          }

      passes_kind : (kind : LexemeKind) (place : ℕ) (t : List ℕ) (ls : List Lexeme) → IsSolid kind → start ≤ place → LexemesFrom text place (record { kind = kind; text = t } ∷ ls) []
          → left ≡ tokens_of_lexemes_from place (record { kind = kind; text = t } ∷ ls) → comments ≡ comments_of_lexemes_from place (record { kind = kind; text = t } ∷ ls)
          → lexemes_with_roles start level (is_none before) ss h.rest ≡ lexemes_with_roles place level (is_none before || contains_line_break (slice_range text start place)) ss (record { kind = kind; text = t } ∷ ls)
          → Goes (first_of kind (span_with_length place (length t)))
      passes_kind lexeme.WhiteSpace place t ls solid up s tokens others found = absurd solid
      passes_kind lexeme.Comment place t ls solid up s tokens others found =
          passes lexeme.Comment place t ls (role_at (span_with_length place (length t))) left (drop 1 comments) ss level up s tokens (ap (drop 1) others) found
      passes_kind (lexeme.Token k) place t ls solid up s tokens others found =
          passes (lexeme.Token k) place t ls (next_token_role ss) (drop 1 left) comments (drop 1 ss) (next_token_line_level level ss) up s (ap (drop 1) tokens) others found

      goes : Goes (next_token_or_comment left comments)
      goes = elim (ahead text start h.rest h.from_there) [
        | inl n ↦ subst Goes (sym (λ i. next_token_or_comment ((h.left_is ∙ n.tokens) i) ((h.comments_is ∙ n.comments) i))) (ends n)
        | inr n ↦
            let some = nonempty n.kind n.t n.from_there.each.0.belongs in
            let first = (λ i. next_token_or_comment ((h.left_is ∙ n.tokens) i) ((h.comments_is ∙ n.comments) i)) ∙ comes_first n.kind n.place n.t n.ls n.solid some in
            subst Goes (sym first) (passes_kind n.kind n.place n.t n.ls n.solid n.up n.from_there (h.left_is ∙ n.tokens) (h.comments_is ∙ n.comments) (n.found level (is_none before) ss))
      ]

      pub at_comment : (span : Span) → next_token_or_comment left comments ≡ Some (next.Comment span) → Passes lexeme.Comment span (role_at span) left (drop 1 comments) ss level
      at_comment span e = subst Goes e goes

      pub at_token : (token : Token) → next_token_or_comment left comments ≡ Some (next.Token token) → Passes (lexeme.Token token.kind) token.span (next_token_role ss) (drop 1 left) comments (drop 1 ss) (next_token_line_level level ss)
      at_token token e = subst Goes e goes

      pub at_end : next_token_or_comment left comments ≡ None → (start ≤ length text) × (map (gap_cut indent) (with_gap (length text) (gap_at_text_end before)) ≡ changed_gaps text whole)
      at_end e = subst Goes e goes
