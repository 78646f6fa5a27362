use Rattle.std.proofs.Common.{map, ap, subst, ◌∙◌}
use Rattle.std.specs.Cow.{cow_value}
use Rattle.ob0_scan.specs.TextWithTokens.{IsScan}
use Rattle.ob0_scope_table.specs.FaultsAtTokens.{fault_with_span}
use Rattle.ob0_types.specs.CheckedModules.{IsCorrectlyChecked, checked_module}
use Rattle.ob0_types.specs.declared.checked_modules.CheckResult.{CheckResult}
use Rattle.ob0_types.proofs.FaultSpans.{types_checked}
use Rattle.ob0_types.proofs.checked_modules.Checked.new.Goals as goal

checked : (c : goal.In_ok-faults) → IsCorrectlyChecked (checked_module c.args.resolved.now (cow_value c.args.types))
checked c = types_checked c.args.resolved.now (cow_value c.args.types) (subst IsScan c.tokens-tokens.ensures c.text-text.ensures.scan) c.requires

pub invariant_of-result : goal.invariant_of-result
invariant_of-result c =
    let spans = c.in_ok-faults.ensures ∙ (λ i. map (fault_with_span (c.tokens-tokens.ensures i)) ((c.as_slice.ensures.value ∙ ap (λ (t : CheckResult). t.faults.items) c.borrowed_check_result.ensures) i)) in
    (c.requires, (checked c, spans))

pub returns-clause-checked : goal.returns-clause-checked
returns-clause-checked c = checked c
