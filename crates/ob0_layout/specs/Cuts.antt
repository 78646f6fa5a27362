-- Defines the gaps that the code finds while it visits the tokens and comments of a text. Also
-- defines the cut for each gap: the gap's range of bytes and its replacement.
-- Rule: none; used in private contracts about gaps and indents.
use Rattle.std.specs.Prelude.{◌≤◌, ℕ, Bool, true, ◌&&◌, ◌==◌, if◌then◌else◌, nat_lt, Option, Some, None, List, [], ◌∷◌, filter}
use Rattle.ob0_scan.specs.declared.lexeme.LexemeKind.{LexemeKind}
use Rattle.ob0_scan.specs.declared.lexeme.Span.{Span}
use Rattle.ob0_scan.specs.declared.lexeme.Token.{Token}
use Rattle.ob0_text.specs.declared.edits.Indent.{Indent}
use Rattle.ob0_text.specs.Patches.{Cut}
use Rattle.ob0_layout.specs.declared.gap.Gap.{Gap}
use Rattle.ob0_layout.specs.declared.gap.Gap.TheVariants.{Nothing, Line}
use Rattle.ob0_layout.specs.declared.line_role.LineRole.{LineRole}
use Rattle.ob0_layout.specs.declared.gap_sites.GapSite.{GapSite}
use Rattle.ob0_layout.specs.declared.gap_sites.TokenOrComment.{TokenOrComment}
use Rattle.ob0_layout.specs.declared.gap_sites.TokenOrComment.TheVariants as next
use Rattle.ob0_layout.specs.declared.gap_sites.KindAndRole.{KindAndRole}
use Rattle.ob0_layout.specs.Gaps.{formatting_changes_gap}
use Rattle.ob0_layout.specs.Layout.{gap_between, gap_text}

-- Returns the token or comment that comes first in the text among the remaining tokens and the
-- remaining comments. Returns None if both lists are empty.
abbrev pub next_token_or_comment : List Token → List Span → Option TokenOrComment
next_token_or_comment [] [] = None
next_token_or_comment [] (c ∷ cs) = Some (next.Comment c)
next_token_or_comment (t ∷ ts) [] = Some (next.Token t)
next_token_or_comment (t ∷ ts) (c ∷ cs) =
    if nat_lt c.start t.span.start then Some (next.Comment c) else Some (next.Token t)

-- Returns the formatted gap between a token or comment and the next one, which has the kind `kind`
-- and the role `role`. At the start of the text, no token or comment comes before (None), and the
-- gap is empty.
abbrev pub gap_before_token_or_comment : Option KindAndRole → LexemeKind → LineRole → Gap
gap_before_token_or_comment None kind role = Nothing
gap_before_token_or_comment (Some b) kind role = gap_between b.kind b.role kind role

-- Returns the formatted gap at the end of the text: a line feed after the last token or comment. If
-- the text has no token or comment (None), the gap is empty.
abbrev pub gap_at_text_end : Option KindAndRole → Gap
gap_at_text_end None = Nothing
gap_at_text_end (Some b) = Line 0

-- Returns the cut (a replacement of a range of bytes) that replaces a gap by its formatted text.
abbrev pub gap_cut : Indent → GapSite → Cut
gap_cut indent g = record { from = g.start; to = g.end; new = gap_text indent g.gap }

-- Returns the gaps among `gs` that formatting changes, in the same order.
abbrev pub gap_sites_to_change : Indent → List ℕ → List GapSite → List GapSite
gap_sites_to_change indent text gs = filter (λ (g : GapSite). formatting_changes_gap text (gap_cut indent g)) gs

-- States that the gap `g` lies in a text of `len` bytes: its start isn't after its end, and its end
-- is at most `len`.
pub record GapLiesInText (len : ℕ) (g : GapSite) : Type 0 where
  pub ordered : g.start ≤ g.end
  pub within : g.end ≤ len

-- Returns whether each of these bytes is equal to `b`.
abbrev pub all_equal_to : ℕ → List ℕ → Bool
all_equal_to b [] = true
all_equal_to b (c ∷ cs) = (c == b) && all_equal_to b cs
