use Rattle.std.proofs.Common.{◌≡◌, ◌∷◌, map, sym, ap, ◌∙◌}
use Rattle.ob0_types_table.specs.declared.declaration_table.FormalParameter as formal
use Rattle.ob0_tree.specs.View.{type_of}
use Rattle.ob0_types_check.specs.DeclarationFaults.{heading_with_parameters}
use Rattle.ob0_types_check.specs.OperandFaults.{without_fault}
use Rattle.ob0_types_check.specs.CheckerViews.{known_parameter_of, heading_in_state, declarations_in_state}
use Rattle.ob0_types_check.proofs.Chains.{steps, reports_known, reports_same}
use Rattle.ob0_types_check.proofs.ReportedDeclarations.{parameters_added, section_reported}
use Rattle.ob0_types_check.proofs.reporting.ReportingWalk.report_parameter_section.Goals as goal

pub returns : goal.returns
returns c =
    let s = c.args.s.now in
    let xs = s.names.first ∷ s.names.more.items in
    let old = c.args.formals.now.items in
    let h = heading_in_state c.args.self.now.checker_state old in
    let of = c.in_ok-of.of in
    let formal : formal.FormalParameter = record { by_place = s.by_reference; of = of } in
    let following : heading_in_state c.define_listed_names.new.self c.add_formal_parameters.new.formals.items ≡ heading_with_parameters h s.by_reference xs (record { of = of; following = declarations_in_state c.check_written_type.new.self.checker_state }) =
    λ i. record { formals = (ap (map known_parameter_of) c.in_ok-add_formal_parameters.ensures ∙ parameters_added old formal xs) i; following = c.define_listed_names.ensures i } in
    reports_same
    (steps (λ u. without_fault (heading_with_parameters h s.by_reference xs u)) c.in_ok-of.ensures (reports_known c.check_written_type.new.self.faults.items following))
    (sym (section_reported h s.by_reference s.names (type_of s.written)))
