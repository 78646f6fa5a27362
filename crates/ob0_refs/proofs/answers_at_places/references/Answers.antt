use Rattle.std.proofs.Common.{◌≡◌, ◌∙◌, ap, sym}
use Rattle.std.proofs.lemmas.Result.{IfOk-weaker}
use Rattle.ob0_refs.specs.Questions.{references_of_optional_identifier, references_of_identifier, references_at_offset}
use Rattle.ob0_refs.proofs.answers_at_places.references.Goals as goal

pub returns-in-None : goal.returns-in-None
returns-in-None c = c.new.ensures.items ∙ ap (references_of_optional_identifier c.args.well_typed.now c.args.include) (sym c.in-None.is ∙ c.identifier_meaning_at_offset.ensures.value)

pub returns-in-Some : goal.returns-in-Some
returns-in-Some c =
    let r = c.args.well_typed.now in
    IfOk-weaker c.references_of_identifier.result (λ spans. spans.items ≡ references_of_identifier r c.args.include c.in-Some.found.token c.in-Some.found.means) (λ spans. spans.items ≡ references_at_offset r c.args.offset c.args.include)
    (λ spans h. h ∙ ap (references_of_optional_identifier r c.args.include) (sym c.in-Some.is ∙ c.identifier_meaning_at_offset.ensures.value)) c.references_of_identifier.ensures
