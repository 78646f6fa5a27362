use Rattle.std.proofs.Common.{◌∙◌, Some, option_map, ap, sym}
use Rattle.ob0_types.specs.declared.identifier_meanings.IdentifierWithMeaning.{IdentifierWithMeaning}
use Rattle.ob0_refs.specs.Questions.{answer_about_identifier}
use Rattle.ob0_refs.proofs.answers_at_places.at.Goals as goal

pub returns-in-None : goal.returns-in-None
returns-in-None c =
    let r = c.args.well_typed.now in
    ap (option_map (λ (x : IdentifierWithMeaning). answer_about_identifier r.module_read x.token x.means)) (sym c.in-None.is ∙ c.identifier_meaning_at_offset.ensures.value)

pub returns-in-Some : goal.returns-in-Some
returns-in-Some c =
    let r = c.args.well_typed.now in
    ap Some c.answer_about_identifier.ensures
    ∙ ap (option_map (λ (x : IdentifierWithMeaning). answer_about_identifier r.module_read x.token x.means)) (sym c.in-Some.is ∙ c.identifier_meaning_at_offset.ensures.value)
