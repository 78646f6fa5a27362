use Rattle.std.proofs.Common.{sym, ap, ◌∙◌}
use Rattle.std.proofs.lemmas.Result.{on_ok_weaker}
use Rattle.ob0_tree.proofs.Viewed.{block_parts}
use Rattle.ob0_tree.specs.declared.tree.Block.{out-Block}
use Rattle.ob0_tree.specs.declared.tree.Procedure.{out-Procedure}
use Rattle.ob0_tree.specs.View.{block_of, body_of, constant_section_of, items_of, procedure_of, type_section_of, variable_section_of}
use Rattle.ob0_language_names.specs.BlockParts.{section_types, section_variables}
use Rattle.ob0_types_check.specs.DeclarationFaults.{report_body_if_wanted, report_on_block, report_on_procedures, report_on_type_declarations, report_on_variable_declarations, declarations_after_heading, walk_with_declarations}
use Rattle.ob0_types_check.specs.OperandFaults.{◌>>=◌}
use Rattle.ob0_types_check.specs.WalksOverSomeBodies.{walk_progress_of, includes_body}
use Rattle.ob0_types_check.proofs.Chains.{chain_ends, chain_goes_on, steps, reports_same}
use Rattle.ob0_types_check.proofs.ReportedDeclarations.{block_reported, procedure_reported, procedures_chain}
use Rattle.ob0_types_check.proofs.reporting.ReportingWalk.+blocks.Goals as goal

pub report_block-returns : goal.report_block-returns
report_block-returns t c =
    let w = walk_progress_of c.args.self.now.checker_state c.args.bodies_with_faults.now.items in
    let wanted = includes_body c.args.wanted.now in
    let own = c.args.own in
    let b = out-Block c.args.b.now in
    let types = section_types (type_section_of b.types) in
    let variables = section_variables (variable_section_of b.variables) in
    let procedures = items_of procedure_of b.procedures.items in
    let body = body_of b.body in
    on_ok_weaker c.report_body_if_wanted.result (λ h. reports_same
    (steps (λ q. report_on_type_declarations q types >>= (λ r. report_on_variable_declarations r variables >>= (λ s. report_on_procedures wanted (walk_with_declarations w s) procedures >>= (λ o. report_body_if_wanted (wanted own) own o body)))) c.in_ok-report_constant_section.ensures
    (steps (λ r. report_on_variable_declarations r variables >>= (λ s. report_on_procedures wanted (walk_with_declarations w s) procedures >>= (λ o. report_body_if_wanted (wanted own) own o body))) c.in_ok-report_type_section.ensures
    (steps (λ s. report_on_procedures wanted (walk_with_declarations w s) procedures >>= (λ o. report_body_if_wanted (wanted own) own o body)) c.in_ok-report_variable_section.ensures
    (steps (λ o. report_body_if_wanted (wanted own) own o body) c.in_ok-report_procedures.ensures (reports_same h (ap (λ x. report_body_if_wanted x own (walk_progress_of c.report_procedures.new.self.checker_state c.report_procedures.new.bodies_with_faults.items) body) c.includes_body.ensures))))))
    (sym (ap (report_on_block wanted own w) (block_parts c.args.b.now) ∙ block_reported wanted own w (constant_section_of b.constants) (type_section_of b.types) (variable_section_of b.variables) procedures body))) c.report_body_if_wanted.ensures

pub report_procedures-loop-p-preserved : goal.report_procedures-loop-p-preserved
report_procedures-loop-p-preserved t c = chain_goes_on c.p-item.result (procedures_chain (includes_body c.args.wanted.now)) c.loop-p.invariant c.loop-p-test.true c.p-item.is c.in_ok-report_procedure.ensures

pub report_procedures-returns : goal.report_procedures-returns
report_procedures-returns t c =
    reports_same (chain_ends (procedures_chain (includes_body c.args.wanted.now)) c.loop-p.invariant c.loop-p-test.false)
    (ap (λ ps. report_on_procedures (includes_body c.args.wanted.now) (walk_progress_of c.args.self.now.checker_state c.args.bodies_with_faults.now.items) (items_of procedure_of ps)) c.deref-p-items.ensures.value)

pub report_procedure-returns : goal.report_procedure-returns
report_procedure-returns t c =
    let d = c.args.p.now in
    let w = walk_progress_of c.args.self.now.checker_state c.args.bodies_with_faults.now.items in
    let x = (out-Procedure d).name in
    let own = (out-Procedure d).closing in
    let b = block_of (out-Procedure d).block in
    let wanted = includes_body c.args.wanted.now in
    on_ok_weaker c.report_block.result (λ h. reports_same
    (steps (λ g. report_on_block wanted own (walk_with_declarations w (declarations_after_heading x g)) b) c.in_ok-formals.ensures (reports_same h (ap (λ q. report_on_block wanted own (walk_with_declarations w q) b) c.define_name_at_token.ensures)))
    (sym (procedure_reported wanted w d))) c.report_block.ensures
