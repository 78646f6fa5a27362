use Rattle.std.proofs.Common.{◌≡◌, IfOk, suc, ap, sym, subst, ◌∙◌}
use Rattle.ob0_run_machine.specs.LoweredSyntax as machine
use Rattle.ob0_run_machine.specs.LoweredCodeViews.{disjunction_of, truth_of}
use Rattle.ob0_run_machine.proofs.TruthList.{any_made}
use Rattle.std.proofs.lemmas.Result.{IfOk-weaker}
use Rattle.ob0_run_machine.specs.declared.code.TruthList.{out-TruthList}
use Rattle.ob0_run_lowering.specs.TruthDepths.{disjunction_depth}
use Rattle.ob0_run_lowering.proofs.TruthDepths.{as_deep, any_deep}
use Rattle.ob0_run_lowering.proofs.operation_chains.disjunction_of_two_truths.Goals as goal

pub returns-in-Any-clause-meaning : goal.returns-in-Any-clause-meaning
returns-in-Any-clause-meaning c =
    subst (λ z. IfOk c.extended_disjunction.result (λ t. truth_of t ≡ machine.either z (truth_of c.args.right)))
    (ap disjunction_of c.into_inner.ensures ∙ sym (any_made c.in-Any.several) ∙ sym (ap truth_of c.in-Any.is)) c.extended_disjunction.ensures.meaning

pub returns-in-Any-clause-flat : goal.returns-in-Any-clause-flat
returns-in-Any-clause-flat c =
    let same : suc (disjunction_depth (out-TruthList c.into_inner.result).first) ≡ disjunction_depth c.args.left =
    ap (λ s. suc (disjunction_depth (out-TruthList s).first)) c.into_inner.ensures ∙ sym (any_deep c.in-Any.several) ∙ sym (ap disjunction_depth c.in-Any.is) in
    IfOk-weaker c.extended_disjunction.result _ _ (λ t h. as_deep _ _ (h ∙ same)) c.extended_disjunction.ensures.depth
