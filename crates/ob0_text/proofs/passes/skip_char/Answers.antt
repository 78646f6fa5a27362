use Rattle.std.proofs.Common.{◌≡◌, ◌+◌, ◌-◌, ◌<◌, length, sym, ap, ◌∙◌, subst, arith}
use Rattle.std.specs.Str.{chars}
use Rattle.std.specs.Str.Iter.{chars_rest}
use Rattle.std.specs.Char.{len_utf8}
use Rattle.ob0_text.specs.Texts.{ends_line, position_of}
use Rattle.ob0_text.specs.Units.{width_of}
use Rattle.ob0_text.specs.PassInvariants.{PositionsCanBeCountedInRest}
use Rattle.ob0_text.proofs.Widths.{narrow}
use Rattle.ob0_text.proofs.PositionSteps.{counted_past_end, counted_past_cr, counted_past_char, counted_at_stop, counted_at_end, counted_here_at, counted_here_dropped, rest_border}
use Rattle.ob0_text.proofs.passes.skip_char.Goals as goal
use Rattle.ob0_text.proofs.passes.skip_char.Goals.{then-c-eq13, else-c-eq13}

pub range_from-requires : goal.range_from-requires
range_from-requires c = λ _. rest_border c.args.text.now _ c.args.place.offset c.requires.place.rest_is

pub returns-then-offset-place-clause-last : goal.returns-then-offset-place-clause-last
returns-then-offset-place-clause-last c =
    let here : c.args.place.offset ≡ c.args.offset = omega (arith, c.if-offset-place.true, c.requires.following) in
    λ _. counted_here_at (width_of c.args.unit) c.args.text.now _ _ _ _ c.requires.place ∙ ap (position_of (width_of c.args.unit) (chars c.args.text.now)) here

pub returns-in_default-clause-last : goal.returns-in_default-clause-last
returns-in_default-clause-last c =
    let none = ap length (sym c.range_from.ensures.value ∙ sym c.chars-chars.ensures.rest) ∙ c.in_default.ensures.steps.0.0 in
    λ _. counted_at_end (width_of c.args.unit) _ _ _ _ _ c.requires.place none c.args.offset c.requires.following

pub returns-then-offset-place-2-clause-last : goal.returns-then-offset-place-2-clause-last
returns-then-offset-place-2-clause-last c =
    let less : c.args.offset - c.args.place.offset < len_utf8 c.in-Some.c = subst (λ k. c.args.offset - c.args.place.offset < k) c.len_utf8.ensures.value c.if-offset-place-2.true in
    let begins = sym c.range_from.ensures.value ∙ sym c.chars-chars.ensures.rest ∙ c.in-Some.ensures.steps.0 in
    λ _. counted_at_stop (width_of c.args.unit) _ _ _ _ _ c.requires.place c.in-Some.c (chars_rest c.next.new.self) begins c.args.offset c.requires.following less

pub returns-then-ends_line-clause-next : goal.returns-then-ends_line-clause-next
returns-then-ends_line-clause-next c =
    let begins = sym c.range_from.ensures.value ∙ sym c.chars-chars.ensures.rest ∙ c.in-Some.ensures.steps.0 in
    let ends = ap (λ t. ends_line c.in-Some.c (chars t)) (sym c.as_str.ensures) ∙ sym c.if-ends_line.ensures in
    rw c.len_utf8-2.ensures.value (counted_here_dropped (width_of c.args.unit) _ _ _ _ _ (counted_past_end (width_of c.args.unit) _ _ _ _ _ c.requires.place c.in-Some.c (chars_rest c.next.new.self) begins ends))

pub returns-clause-next : goal.returns-clause-next
returns-clause-next c =
    let begins = sym c.range_from.ensures.value ∙ sym c.chars-chars.ensures.rest ∙ c.in-Some.ensures.steps.0 in
    let goes_on = ap (λ t. ends_line c.in-Some.c (chars t)) (sym c.as_str.ensures) ∙ sym c.if-ends_line.ensures in
    rw c.len_utf8-2.ensures.value (counted_here_dropped (width_of c.args.unit) _ _ _ _ _ (elim c.if-c-eq13.branch [
      | then-c-eq13 w ↦
          let same : c.args.place.character ≡ c.args.place.character + c.if-c-eq13.units = omega (arith, w.units-is) in
          subst (λ n. PositionsCanBeCountedInRest (width_of c.args.unit) c.args.text.now (chars_rest c.next.new.self) (c.args.place.offset + len_utf8 c.in-Some.c) c.args.place.line n) same (counted_past_cr (width_of c.args.unit) _ _ _ _ _ c.requires.place c.in-Some.c (chars_rest c.next.new.self) begins goes_on w.if-c-eq13.true)
      | else-c-eq13 w ↦
          let units : width_of c.args.unit c.in-Some.c ≡ c.if-c-eq13.units = sym w.character_width-units.ensures ∙ sym w.units-is in
          subst (λ n. PositionsCanBeCountedInRest (width_of c.args.unit) c.args.text.now (chars_rest c.next.new.self) (c.args.place.offset + len_utf8 c.in-Some.c) c.args.place.line (c.args.place.character + n)) units (counted_past_char (width_of c.args.unit) _ _ _ _ _ c.requires.place c.in-Some.c (chars_rest c.next.new.self) begins (narrow c.args.unit c.in-Some.c) goes_on w.if-c-eq13.false)
    ]))
