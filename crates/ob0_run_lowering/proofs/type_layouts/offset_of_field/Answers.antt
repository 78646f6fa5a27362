use Rattle.std.proofs.Common.{sym, ap, ◌∙◌, slice_index_or}
use Rattle.ob0_run_lowering.proofs.LaidOut.{offset-found, offset-missing}
use Rattle.ob0_run_lowering.proofs.type_layouts.offset_of_field.Goals as goal

pub returns-in-None : goal.returns-in-None
returns-in-None c = λ k fs x are h. offset-missing k fs x c.args.laid.now are (sym c.in-None.is ∙ h)

pub returns-in-Some : goal.returns-in-Some
returns-in-Some c = λ k fs x are h.
    c.offset_at_index.ensures ∙ ap (λ os. slice_index_or os c.in-Some.field.index 0) c.as_slice.ensures.value ∙ offset-found k fs x c.args.laid.now c.in-Some.field are (sym c.in-Some.is ∙ h)
