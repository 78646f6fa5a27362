use Rattle.std.proofs.Common.{◌≡◌, ◌∙◌, option_map, option_and_then, ap, sym}
use Rattle.std.proofs.lemmas.Result.{IfOk-weaker}
use Rattle.ob0_types.specs.declared.identifier_meanings.IdentifierWithMeaning.{IdentifierWithMeaning}
use Rattle.ob0_refs.specs.AnswerViews.{hover_view}
use Rattle.ob0_refs.specs.Questions.{hover_at_offset, hover_of_identifier}
use Rattle.ob0_refs.proofs.hovers_at_places.hover.Goals as goal

pub returns-in-None : goal.returns-in-None
returns-in-None c =
    let r = c.args.well_typed.now in
    ap (option_and_then (λ (x : IdentifierWithMeaning). hover_of_identifier r x.token x.means)) (sym c.in-None.is ∙ c.identifier_meaning_at_offset.ensures.value)

pub returns-in-Some : goal.returns-in-Some
returns-in-Some c =
    let r = c.args.well_typed.now in
    IfOk-weaker c.hover_of_identifier.result (λ h. option_map hover_view h ≡ hover_of_identifier r c.in-Some.found.token c.in-Some.found.means) (λ h. option_map hover_view h ≡ hover_at_offset r c.args.offset)
    (λ h e. e ∙ ap (option_and_then (λ (x : IdentifierWithMeaning). hover_of_identifier r x.token x.means)) (sym c.in-Some.is ∙ c.identifier_meaning_at_offset.ensures.value)) c.hover_of_identifier.ensures
