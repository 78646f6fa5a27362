use Rattle.std.proofs.Common.{◌≡◌, IfOk, suc, ap, sym, subst, ◌∙◌}
use Rattle.ob0_run_machine.specs.LoweredSyntax as machine
use Rattle.ob0_run_machine.specs.LoweredCodeViews.{conjunction_of, truth_of}
use Rattle.ob0_run_machine.proofs.TruthList.{all_made}
use Rattle.std.proofs.lemmas.Result.{IfOk-weaker}
use Rattle.ob0_run_machine.specs.declared.code.TruthList.{out-TruthList}
use Rattle.ob0_run_lowering.specs.TruthDepths.{conjunction_depth}
use Rattle.ob0_run_lowering.proofs.TruthDepths.{as_deep, all_deep}
use Rattle.ob0_run_lowering.proofs.operation_chains.conjunction_of_two_truths.Goals as goal

pub returns-in-All-clause-meaning : goal.returns-in-All-clause-meaning
returns-in-All-clause-meaning c =
    subst (λ z. IfOk c.extended_conjunction.result (λ t. truth_of t ≡ machine.both z (truth_of c.args.right)))
    (ap conjunction_of c.into_inner.ensures ∙ sym (all_made c.in-All.several) ∙ sym (ap truth_of c.in-All.is)) c.extended_conjunction.ensures.meaning

pub returns-in-All-clause-flat : goal.returns-in-All-clause-flat
returns-in-All-clause-flat c =
    let same : suc (conjunction_depth (out-TruthList c.into_inner.result).first) ≡ conjunction_depth c.args.left =
    ap (λ s. suc (conjunction_depth (out-TruthList s).first)) c.into_inner.ensures ∙ sym (all_deep c.in-All.several) ∙ sym (ap conjunction_depth c.in-All.is) in
    IfOk-weaker c.extended_conjunction.result _ _ (λ t h. as_deep _ _ (h ∙ same)) c.extended_conjunction.ensures.depth
