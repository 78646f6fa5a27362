use Rattle.std.proofs.Common.{◌∙◌, option_and_then, ap, sym}
use Rattle.ob0_types.specs.declared.identifier_meanings.IdentifierWithMeaning.{IdentifierWithMeaning}
use Rattle.ob0_refs.specs.Questions.{renamable_span_of_identifier}
use Rattle.ob0_refs.proofs.answers_at_places.renamable_span.Goals as goal

pub returns-in-None : goal.returns-in-None
returns-in-None c =
    let r = c.args.well_typed.now in
    ap (option_and_then (λ (x : IdentifierWithMeaning). renamable_span_of_identifier r.module_read x.token x.means)) (sym c.in-None.is ∙ c.identifier_meaning_at_offset.ensures.value)

pub returns-in-Some : goal.returns-in-Some
returns-in-Some c =
    let r = c.args.well_typed.now in
    c.renamable_span_of_identifier.ensures
    ∙ ap (option_and_then (λ (x : IdentifierWithMeaning). renamable_span_of_identifier r.module_read x.token x.means)) (sym c.in-Some.is ∙ c.identifier_meaning_at_offset.ensures.value)
