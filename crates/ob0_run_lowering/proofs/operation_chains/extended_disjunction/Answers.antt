use Rattle.std.proofs.Common.{suc, ap, ◌∙◌}
use Rattle.ob0_run_machine.specs.declared.code.TruthList.{out-TruthList}
use Rattle.ob0_run_machine.specs.LoweredCodeViews.{disjunction_with_list, disjunction_of, truth_of}
use Rattle.ob0_run_machine.proofs.TruthList.{any_made}
use Rattle.ob0_run_lowering.specs.TruthDepths.{disjunction_depth}
use Rattle.ob0_run_lowering.proofs.TruthDepths.{any_deep}
use Rattle.ob0_run_lowering.proofs.Longer.{any_more}
use Rattle.ob0_run_lowering.proofs.operation_chains.extended_disjunction.Goals as goal

pub returns-clause-meaning : goal.returns-clause-meaning
returns-clause-meaning c =
    let several = out-TruthList c.args.several in
    any_made c.in_ok-several.several ∙ ap disjunction_of c.in_ok-several.ensures.ok ∙ ap (disjunction_with_list (truth_of several.first)) c.in_ok-push.ensures.items ∙ any_more (truth_of several.first) several.rest.items _

pub returns-clause-depth : goal.returns-clause-depth
returns-clause-depth c =
    any_deep c.in_ok-several.several ∙ ap (λ s. suc (disjunction_depth (out-TruthList s).first)) c.in_ok-several.ensures.ok
