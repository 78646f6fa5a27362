use Rattle.std.proofs.Common.{suc, ap, ◌∙◌}
use Rattle.ob0_run_machine.specs.declared.code.TruthList.{out-TruthList}
use Rattle.ob0_run_machine.specs.LoweredCodeViews.{conjunction_with_list, conjunction_of, truth_of}
use Rattle.ob0_run_machine.proofs.TruthList.{all_made}
use Rattle.ob0_run_lowering.specs.TruthDepths.{conjunction_depth}
use Rattle.ob0_run_lowering.proofs.TruthDepths.{all_deep}
use Rattle.ob0_run_lowering.proofs.Longer.{all_more}
use Rattle.ob0_run_lowering.proofs.operation_chains.extended_conjunction.Goals as goal

pub returns-clause-meaning : goal.returns-clause-meaning
returns-clause-meaning c =
    let several = out-TruthList c.args.several in
    all_made c.in_ok-several.several ∙ ap conjunction_of c.in_ok-several.ensures.ok ∙ ap (conjunction_with_list (truth_of several.first)) c.in_ok-push.ensures.items ∙ all_more (truth_of several.first) several.rest.items _

pub returns-clause-depth : goal.returns-clause-depth
returns-clause-depth c =
    all_deep c.in_ok-several.several ∙ ap (λ s. suc (conjunction_depth (out-TruthList s).first)) c.in_ok-several.ensures.ok
