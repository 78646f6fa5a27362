use Rattle.std.proofs.Common.{◌≡◌, ◌∙◌, ap, sym, map, get_or, Some}
use Rattle.ob0_world_rules.specs.ClientAndServer.{Editor}
use Rattle.ob0_world_rules.specs.EditorActs.{edits_of_answer_to_request, remove_answer_to_request}
use Rattle.ob0_world_editor.specs.ModelValues.{model_answer_of}
use Rattle.ob0_world_editor.specs.EditorCalls.{IsIndexOfAnswer}
use Rattle.ob0_world_editor.proofs.Moving.{none_goes, use_edits}
use Rattle.ob0_world_editor.proofs.editor.Editor.take_answer.Goals as goal

pub returns-in_err-place-clause-after : goal.returns-in_err-place-clause-after
returns-in_err-place-clause-after c =
    let none : edits_of_answer_to_request c.args.k (map model_answer_of c.self.inside.answers.items) ≡ _ = ap (λ xs. edits_of_answer_to_request c.args.k (map model_answer_of xs)) (sym c.as_slice.ensures.value) ∙ c.in_err-place.ensures in
    sym ((λ i. record c.args.self.now { answers = remove_answer_to_request c.args.k (sym c.self.view_is i).answers }) ∙ (λ i. record c.args.self.now { answers = none_goes c.args.k _ none i }) ∙ (λ i. record c.args.self.now { answers = (c.self.view_is i).answers }))

pub returns-clause-edits : goal.returns-clause-edits
returns-clause-edits c =
    let xs = c.as_slice.result.now in
    let i = c.in_ok-place.place in
    let found : IsIndexOfAnswer xs c.args.k (Some i) = c.in_ok-place.ensures in
    let at : c.remove-answer.result ≡ get_or xs i c.remove-answer.result = c.remove-answer.ensures.value ∙ ap (λ ys. get_or ys i c.remove-answer.result) (sym c.as_slice.ensures.value) in
    use_edits xs i c.remove-answer.result found.0 at
    ∙ sym found.1 ∙ ap (λ ys. edits_of_answer_to_request c.args.k (map model_answer_of ys)) c.as_slice.ensures.value ∙ ap (λ (e : Editor). edits_of_answer_to_request c.args.k e.answers) c.self.view_is
