use Rattle.std.proofs.Common.{ℕ, List, length, map, sym, ap, ◌∙◌}
use Rattle.std.specs.Char.{to_ascii_lowercase}
use Rattle.std.proofs.lemmas.List.Elements.{All-get_or}
use Rattle.httparse.specs.Spans.{IsHeaderWithin}
use Rattle.httparse.specs.declared.spans.HeaderSpan.{HeaderSpan}
use Rattle.ob0_frame.proofs.Lengths.{first_named, other_with_name, second_named}
use Rattle.ob0_frame.proofs.head.content_length_span.Goals.{then-eq_ignore_ascii_case+else-is_some, else-eq_ignore_ascii_case}
use Rattle.ob0_frame.proofs.head.content_length_span.Goals as goal

abbrev nowhere : HeaderSpan
nowhere = record { name = record { start = 0; end = 0 }; value = record { start = 0; end = 0 } }

pub returns-then-is_some-clause-none : goal.returns-then-is_some-clause-none
returns-then-is_some-clause-none c =
    second_named c.args.head.now c.args.fields.now c.loop-field.field-index nowhere c.loop-field.found c.loop-field-test.true
    (sym c.is_some.ensures ∙ c.if-is_some.true) c.loop-field.invariant.found
    (rw (← c.of.ensures) (c.eq_ignore_ascii_case.ensures.test.0 c.if-eq_ignore_ascii_case.true))

pub loop-field-preserved : goal.loop-field-preserved
loop-field-preserved c =
    elim c.if-eq_ignore_ascii_case.branch [
      | then-eq_ignore_ascii_case+else-is_some w ↦
          rw w.found-is record {
            within = (All-get_or (IsHeaderWithin (length c.args.head.now)) c.args.fields.now c.loop-field.field-index nowhere c.loop-field-test.true c.requires).1;
            found = first_named c.args.head.now c.args.fields.now c.loop-field.field-index nowhere c.loop-field.found c.loop-field-test.true
                (sym w.is_some.ensures ∙ w.if-is_some.false) c.loop-field.invariant.found
                (rw (← c.of.ensures) (c.eq_ignore_ascii_case.ensures.test.0 w.if-eq_ignore_ascii_case.true));
          }
      | else-eq_ignore_ascii_case w ↦
          rw w.found-is record {
            within = c.loop-field.invariant.within;
            found = other_with_name c.args.head.now c.args.fields.now c.loop-field.field-index nowhere _ c.loop-field-test.true c.loop-field.invariant.found
                (λ same. let yes = c.eq_ignore_ascii_case.ensures.test.1 (ap (λ (name : List ℕ). map to_ascii_lowercase name) c.of.ensures ∙ same) in cc);
          }
    ]
