use Rattle.std.proofs.Common.{◌∷◌, sym}
use Rattle.ob0_tree.specs.View.{type_of}
use Rattle.ob0_types_check.specs.TypesAndMeanings.{a_variable}
use Rattle.ob0_types_check.specs.OperandFaults.{without_fault}
use Rattle.ob0_types_check.specs.KnownDeclarations.{TypeWithFollowingDeclarations, define_listed_names}
use Rattle.ob0_types_check.specs.CheckerViews.{declarations_in_state}
use Rattle.ob0_types_check.proofs.Chains.{steps, reports_known, reports_same}
use Rattle.ob0_types_check.proofs.ReportedDeclarations.{variables_reported}
use Rattle.ob0_types_check.proofs.reporting.ReportingWalk.report_variable_group.Goals as goal

pub returns : goal.returns
returns c =
    let ns = c.args.v.now.names in
    reports_same
    (steps (λ (u : TypeWithFollowingDeclarations). without_fault (define_listed_names u.following (a_variable u.of) (ns.first ∷ ns.more.items))) c.in_ok-of.ensures (reports_known c.check_written_type.new.self.faults.items c.define_listed_names.ensures))
    (sym (variables_reported (declarations_in_state c.args.self.now.checker_state) ns (type_of c.args.v.now.written)))
