use Rattle.ob0_world_editor.proofs.Moving.{Looked}
use Rattle.ob0_world_editor.proofs.editor.index_of_answer.Given as goal

abbrev pub invariant-loop-place : goal.invariant-loop-place
invariant-loop-place l = Looked l.answers l.k l.place
