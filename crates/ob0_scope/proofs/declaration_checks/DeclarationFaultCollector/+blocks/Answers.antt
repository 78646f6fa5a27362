use Rattle.std.proofs.Common.{◌≡◌, [], ◌++◌, OnOk, refl, sym, ap, ◌∙◌, subst}
use Rattle.ob0_tree.specs.declared.tree.Block.{out-Block}
use Rattle.ob0_tree.specs.declared.tree.Procedure.{out-Procedure, roll-out-Procedure}
use Rattle.ob0_tree.specs.TokenIndexLeaves.{token_text_at}
use Rattle.ob0_tree.specs.View.{block_of, body_of, constant_section_of, formals_of, items_of, procedure_of, type_section_of, variable_section_of}
use Rattle.ob0_tree.proofs.Viewed.{block_parts, procedure_made}
use Rattle.ob0_language_names.specs.ConsistentNames.{procedure_names}
use Rattle.ob0_scope_table.specs.DuplicatesAndEndNames.{duplicate_faults, block_declaration_faults, procedure_declaration_faults, procedure_list_declaration_faults}
use Rattle.ob0_language_names.specs.BlockParts.{formal_parameter_names, formal_parameter_sections, declared_type_names, section_types, section_variables, variable_names}
use Rattle.ob0_scope.proofs.Checking.{block_reported, gathered, procedure_reported}
use Rattle.ob0_scope.proofs.declaration_checks.DeclarationFaultCollector.+blocks.Goals as goal

pub check_block-returns : goal.check_block-returns
check_block-returns t c =
    let text = token_text_at c.args.tokens.now in
    let b = out-Block c.args.b.now in
    let found = c.in_ok-append_procedure_names.ensures
    ∙ (λ i. (c.in_ok-append_variable_names.ensures ∙ ap (λ z. z ++ variable_names (section_variables (variable_section_of b.variables)))
    (c.in_ok-append_type_names.ensures ∙ ap (λ z. z ++ declared_type_names (section_types (type_section_of b.types))) c.in_ok-append_constant_names.ensures)) i ++ procedure_names (items_of procedure_of (c.deref.ensures.value i))) in
    let named = c.in_ok-report_duplicates.ensures ∙ ap (λ xs. c.args.self.now ++ duplicate_faults text [] xs) c.deref-2.ensures.value in
    let rest = gathered (λ xs. procedure_list_declaration_faults text (items_of procedure_of xs)) refl c.loop-p.invariant c.loop-p-test.false
    ∙ ap (λ xs. c.report_duplicate_fields_in_variable_section.new.self ++ procedure_list_declaration_faults text (items_of procedure_of xs)) c.deref-p-items.ensures.value in
    block_reported text c.args.self.now c.args.own.items (constant_section_of b.constants) (type_section_of b.types) (variable_section_of b.variables) (items_of procedure_of b.procedures.items) (body_of b.body)
    c.append_procedure_names.new.out.items c.report_duplicates.new.self c.report_duplicate_fields_in_type_section.new.self c.report_duplicate_fields_in_variable_section.new.self c.loop-p.self found named c.in_ok-report_duplicate_fields_in_type_section.ensures c.in_ok-report_duplicate_fields_in_variable_section.ensures rest
    ∙ ap (λ t. c.args.self.now ++ block_declaration_faults text c.args.own.items t) (sym (block_parts c.args.b.now))

pub check_procedure-returns : goal.check_procedure-returns
check_procedure-returns t c =
    let text = token_text_at c.args.tokens.now in
    let p = out-Procedure c.args.p.now in
    let own = c.in_ok-append_formal_parameter_names.ensures ∙ ap (λ xs. xs ++ formal_parameter_names (formal_parameter_sections (formals_of p.formals))) c.in_ok-own.ensures.items in
    subst (λ z. OnOk c.check_block.result (c.check_block.new.self ≡ z))
    (procedure_reported text c.args.self.now c.check_closing_name.new.self c.report_duplicate_fields_in_formals.new.self p.name (formals_of p.formals) (block_of p.block) p.closing c.append_formal_parameter_names.new.out.items c.in_ok-check_closing_name.ensures c.in_ok-report_duplicate_fields_in_formals.ensures own
    ∙ ap (λ t. c.args.self.now ++ procedure_declaration_faults text t) (sym (sym (ap procedure_of (roll-out-Procedure c.args.p.now)) ∙ procedure_made p)))
    c.check_block.ensures
