use Rattle.std.proofs.Common.{◌≡◌, ◌↔◌, ◌++◌, [], length, sym, subst, ap}
use Rattle.std.specs.List.{filter}
use Rattle.ob0_scope_table.specs.Resolution.{is_duplicate_or_end_name_fault}
use Rattle.ob0_types.specs.FaultOrder.{AreFirstFaultsWhenSorted, compare_faults_by_tokens}
use Rattle.ob0_types_check.specs.WalksOverSomeBodies.{AllClosingNamesPass, faulty_bodies, is_body_in_list}
use Rattle.ob0_types.proofs.Among.{all_among}
use Rattle.ob0_types.proofs.AllReported.{known_where_typed, reported_if_faulty}
use Rattle.ob0_types.proofs.checked_modules.check_result_from_report.Goals as goal

pub returns : goal.returns
returns c =
    let r = c.args.resolved.now in
    let none_law = c.typed_modules_have_no_fault.ensures in
    let is = c.module-module.ensures.resolved in
    let faults = c.in_ok-faults.faults.items in
    let found = ap (λ fs. fs ++ filter is_duplicate_or_end_name_fault r.faults) c.requires.faults in
    record {
      resolved = is;
      reported = reported_if_faulty r faults c.modules_without_fault_pass_type_check.ensures none_law is (subst (λ fs. (faults ≡ []) ↔ (fs ≡ [])) found c.in_ok-faults.ensures.none);
      first = subst (λ fs. AreFirstFaultsWhenSorted (compare_faults_by_tokens (length r.module_read.source.tokens)) fs faults) found c.in_ok-faults.ensures.first;
      table = known_where_typed r c.args.report none_law is c.requires;
      bodies_with_faults = subst (λ bodies. AllClosingNamesPass (is_body_in_list bodies) (faulty_bodies r)) (sym c.requires.bodies_with_faults) (all_among (faulty_bodies r));
    }
