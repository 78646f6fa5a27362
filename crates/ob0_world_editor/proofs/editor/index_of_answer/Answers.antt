use Rattle.std.proofs.Common.{arith, ap, ◌∙◌}
use Rattle.std.proofs.lemmas.Bool.{eq-eqb}
use Rattle.ob0_world_editor.proofs.Moving.{looked_here}
use Rattle.ob0_world_editor.proofs.editor.index_of_answer.Goals as goal

pub returns-then-answers-place : goal.returns-then-answers-place
returns-then-answers-place c =
    looked_here c.args.answers.now c.args.k c.loop-place.place c.index-answers-place.result (omega (arith, c.loop-place-test.true)) c.index-answers-place.is
    (eq-eqb c.index-answers-place.result.number c.args.k (ap (λ a. a.number) c.index-answers-place.is ∙ c.if-answers-place.true)) c.loop-place.invariant
