use Rattle.std.proofs.Common.{◌-◌, ◌<◌, ◌≤◌, sym, ap, ◌∙◌, subst}
use Rattle.std.specs.Str.{chars}
use Rattle.std.specs.Str.Iter.{chars_rest}
use Rattle.ob0_text.specs.Texts.{ends_line}
use Rattle.ob0_text.specs.Units.{width_of}
use Rattle.ob0_text.proofs.PositionSteps.{rest_border}
use Rattle.ob0_text.proofs.PlaceSteps.{sought_dropped, sought_past_end, sought_on, sought_past_char, sought_at_break, sought_at_full, sought_at_end}
use Rattle.ob0_text.proofs.passes.advance_to_position.Goals as goal
use Rattle.ob0_text.proofs.passes.advance_to_position.Goals.{then-line-position+then-ends_line, then-line-position+else-ends_line, else-line-position+else-is_line_break+else-position-character}

pub range_from-requires : goal.range_from-requires
range_from-requires c = λ _. rest_border c.args.text.now _ c.skip_stretches_to_position-from.result.offset c.skip_stretches_to_position-from.ensures.place.rest_is

pub loop-c-preserved : goal.loop-c-preserved
loop-c-preserved c =
    let width = width_of c.args.unit in
    let h = c.loop-c.invariant.sought in
    let begins = c.in-Some.ensures.steps.0 in record {
      goes_on = tt;
      ends = tt;
      sought = rw c.len_utf8-reached.ensures.value (elim c.if-line-position.branch [
        | then-line-position+then-ends_line w ↦
            let ends = ap (λ t. ends_line c.in-Some.c (chars t)) (sym w.as_str.ensures) ∙ sym w.if-ends_line.ensures in
            rw (w.line-is, w.character-is) (sought_past_end width _ _ _ _ _ _ h c.in-Some.c (chars_rest c.next.new.self) begins w.if-line-position.true ends)
        | then-line-position+else-ends_line w ↦
            let goes_on = ap (λ t. ends_line c.in-Some.c (chars t)) (sym w.as_str.ensures) ∙ sym w.if-ends_line.ensures in
            rw (w.line-is, w.character-is) (sought_on width _ _ _ _ _ _ h c.in-Some.c (chars_rest c.next.new.self) begins w.if-line-position.true goes_on)
        | else-line-position+else-is_line_break+else-position-character w ↦
            let plain = sym w.is_line_break.ensures ∙ w.if-is_line_break.false in
            let fits : width c.in-Some.c ≤ c.args.position.character - c.loop-c.character = subst (λ k. k ≤ c.args.position.character - c.loop-c.character) w.character_width-units.ensures w.if-position-character.false in
            rw (w.line-is, w.character-is, w.character_width-units.ensures) (sought_past_char width _ _ _ _ _ _ h c.in-Some.c (chars_rest c.next.new.self) begins w.if-line-position.false plain fits)
      ]);
    }

pub returns-then-is_line_break-clause-place : goal.returns-then-is_line_break-clause-place
returns-then-is_line_break-clause-place c = sought_dropped (width_of c.args.unit) _ _ _ _ _ _ c.loop-c.invariant.sought

pub returns-then-is_line_break-clause-offset : goal.returns-then-is_line_break-clause-offset
returns-then-is_line_break-clause-offset c =
    sought_at_break (width_of c.args.unit) _ _ _ _ _ _ c.loop-c.invariant.sought c.in-Some.c (chars_rest c.next.new.self) c.in-Some.ensures.steps.0 c.if-line-position.false (sym c.is_line_break.ensures ∙ c.if-is_line_break.true)

pub returns-then-position-character-clause-place : goal.returns-then-position-character-clause-place
returns-then-position-character-clause-place c = sought_dropped (width_of c.args.unit) _ _ _ _ _ _ c.loop-c.invariant.sought

pub returns-then-position-character-clause-offset : goal.returns-then-position-character-clause-offset
returns-then-position-character-clause-offset c =
    let width = width_of c.args.unit in
    let full : c.args.position.character - c.loop-c.character < width c.in-Some.c = subst (λ k. c.args.position.character - c.loop-c.character < k) c.character_width-units.ensures c.if-position-character.true in
    sought_at_full width _ _ _ _ _ _ c.loop-c.invariant.sought c.in-Some.c (chars_rest c.next.new.self) c.in-Some.ensures.steps.0 c.if-line-position.false (sym c.is_line_break.ensures ∙ c.if-is_line_break.false) full

pub returns-in_default-clause-place : goal.returns-in_default-clause-place
returns-in_default-clause-place c = sought_dropped (width_of c.args.unit) _ _ _ _ _ _ c.loop-c.invariant.sought

pub returns-in_default-clause-offset : goal.returns-in_default-clause-offset
returns-in_default-clause-offset c = sought_at_end (width_of c.args.unit) _ _ _ _ _ _ c.loop-c.invariant.sought c.in_default.ensures.steps.0.0
