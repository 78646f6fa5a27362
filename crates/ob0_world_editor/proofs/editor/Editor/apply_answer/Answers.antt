use Rattle.std.proofs.Common.{refl, sym, subst}
use Rattle.std.specs.Prelude.{is_some}
use Rattle.ob0_world_editor.specs.declared.applied_edits.ApplyOutcome as applying
use Rattle.ob0_world_rules.specs.EditorActs.{apply, act_result, edits_of_answer_to_request}
use Rattle.ob0_world_editor.specs.EditorCalls.{CountsCanGrow, IsApplyOutcome}
use Rattle.ob0_world_editor.proofs.Moving.{comes_not_held, few_without}
use Rattle.ob0_world_editor.proofs.editor.Editor.apply_answer.Goals as goal

pub returns-in_default-clause-ok : goal.returns-in_default-clause-ok
returns-in_default-clause-ok c =
    subst (λ e. IsApplyOutcome (act_result c.args.self.now (apply c.args.k)) (is_some (edits_of_answer_to_request c.args.k c.args.self.now.answers)) applying.TheVariants.NoSuchAnswer e) (sym c.in_default.ensures.after)
    (comes_not_held c.args.self.now c.args.k _ c.in_default.ensures.edits refl)

pub asked_document_with_edits-rewritten-requires : goal.asked_document_with_edits-rewritten-requires
asked_document_with_edits-rewritten-requires c = subst CountsCanGrow (sym c.in-Some.ensures.after) (few_without c.args.self.now c.args.k c.requires)
