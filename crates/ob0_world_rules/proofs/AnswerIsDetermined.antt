-- Proves that an ask about a text has at most one answer. The proof is by cases of the ask: two
-- answers both have the requested edits, or both are empty. One of each is impossible.
use Rattle.std.proofs.Common.{◌≡◌, ◌∙◌, ℕ, List, sym, ap, inl, inr}
use Rattle.ob0_text.specs.declared.edits.Edit.{Edit}
use Rattle.ob0_text.specs.declared.position_types.Position.{Position}
use Rattle.ob0_text.specs.declared.position_types.Unit.{Unit}
use Rattle.ob0_edits.specs.declared.inline_question.InliningKind.{InliningKind}
use Rattle.ob0_edits.specs.declared.inline_question.InliningKind.TheVariants.{OneUse, Everywhere}
use Rattle.ob0_edits.specs.InliningEdits.{IsInliningRefusedInText}
use Rattle.ob0_world_rules.specs.TextEdits.{replacements_of_edits}
use Rattle.ob0_world_rules.specs.Asks.{Ask, rename, inline_here, inline_all, format, clamped_indent}
use Rattle.ob0_world_rules.specs.Answers.{position_offset, InlinesConstantAtPosition, AreRequestedEdits, ServerRefusesAsk}
use Rattle.ob0_world_rules.specs.Laws.{AnswersAreUnique}
use Rattle.ob0_world_rules.proofs.KeptRuns.{answer_edits_preserve_run}
use Rattle.ob0_world_rules.proofs.OneLayout.{lays_out_one, lays_out_or_long}
use Rattle.ob0_world_rules.proofs.OneRenaming.{renames_one, renames_or_refused}
use Rattle.ob0_world_rules.proofs.OneInlining.{inlines_one, inlines_or_refused}

inlines_at_one : (how : InliningKind) (unit : Unit) (text : List ℕ) (position : Position) (xs ys : List Edit) → InlinesConstantAtPosition how unit text position xs → InlinesConstantAtPosition how unit text position ys → replacements_of_edits xs ≡ replacements_of_edits ys
inlines_at_one how unit text position xs ys (found, h, is) (also, k, too) =
    ap replacements_of_edits is ∙ (inlines_one unit text (position_offset unit text position) found how also h k ∙ sym (ap replacements_of_edits too))

inlines_at_or_refused : (how : InliningKind) (unit : Unit) (text : List ℕ) (position : Position) (xs : List Edit) → InlinesConstantAtPosition how unit text position xs → IsInliningRefusedInText how unit text (position_offset unit text position) → ⊥
inlines_at_or_refused how unit text position xs (found, h, is) k = inlines_or_refused unit text (position_offset unit text position) found how h k

hands_out_one : (unit : Unit) (text : List ℕ) (ask : Ask) (xs ys : List Edit) → AreRequestedEdits unit text ask xs → AreRequestedEdits unit text ask ys → replacements_of_edits xs ≡ replacements_of_edits ys
hands_out_one unit text (rename position name) xs ys h k = renames_one unit text position name xs ys h k
hands_out_one unit text (inline_here position) xs ys h k = inlines_at_one OneUse unit text position xs ys h k
hands_out_one unit text (inline_all position) xs ys h k = inlines_at_one Everywhere unit text position xs ys h k
hands_out_one unit text (format indent) xs ys h k = lays_out_one unit (clamped_indent indent) text xs ys h k

hands_out_or_refuses : (unit : Unit) (text : List ℕ) (ask : Ask) (xs : List Edit) → AreRequestedEdits unit text ask xs → ServerRefusesAsk unit text ask → ⊥
hands_out_or_refuses unit text (rename position name) xs h k = renames_or_refused unit text position name xs k.0 h k.1
hands_out_or_refuses unit text (inline_here position) xs h k = inlines_at_or_refused OneUse unit text position xs h k
hands_out_or_refuses unit text (inline_all position) xs h k = inlines_at_or_refused Everywhere unit text position xs h k
hands_out_or_refuses unit text (format indent) xs h k = lays_out_or_long unit (clamped_indent indent) text xs h k

pub answers_are_unique : AnswersAreUnique
answers_are_unique unit text ask given other (inl (xs, h, is)) (inl (ys, k, too)) = is ∙ (hands_out_one unit text ask xs ys h k ∙ sym too)
answers_are_unique unit text ask given other (inl (xs, h, is)) (inr (inl refused, none)) = absurd (hands_out_or_refuses unit text ask xs h refused)
answers_are_unique unit text ask given other (inl (xs, h, is)) (inr (inr unfit, none)) = absurd (unfit (answer_edits_preserve_run unit text ask xs h).before_is_well_typed)
answers_are_unique unit text ask given other (inr (inl refused, none)) (inl (ys, k, too)) = absurd (hands_out_or_refuses unit text ask ys k refused)
answers_are_unique unit text ask given other (inr (inr unfit, none)) (inl (ys, k, too)) = absurd (unfit (answer_edits_preserve_run unit text ask ys k).before_is_well_typed)
answers_are_unique unit text ask given other (inr (why, none)) (inr (also, nothing)) = none ∙ sym nothing
