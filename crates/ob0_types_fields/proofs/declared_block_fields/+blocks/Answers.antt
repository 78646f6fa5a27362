use Rattle.ob0_tree.specs.declared.tree.Role.TheVariants as role
use Rattle.std.proofs.Common.{ℕ, ◌+◌, ◌++◌, refl, sym, ap, ◌∙◌}
use Rattle.ob0_tree.proofs.Viewed.{block_parts, procedure_parts}
use Rattle.ob0_tree.specs.declared.tree.Block.{out-Block}
use Rattle.ob0_tree.specs.declared.tree.Procedure.{out-Procedure}
use Rattle.ob0_tree.specs.View.{block_of, items_of, procedure_of, type_section_of, variable_section_of, constant_section_of, formals_of, body_of}
use Rattle.ob0_language_names.specs.BlockParts.{section_types, section_variables, formal_parameter_sections}
use Rattle.ob0_language_types.specs.Declarations.{block_constructor_count, procedure_constructor_count, procedure_list_constructor_count, types_constructor_count, variables_constructor_count, formals_constructor_count}
use Rattle.ob0_types_fields.proofs.declared_block_fields.+blocks.Goals as goal
use Rattle.ob0_language_fields.specs.MarkedFields.{mark_all_names, no_field}
use Rattle.ob0_types_fields.specs.IdentifierOwners.{declared_identifiers, section_identifiers}
use Rattle.ob0_types_fields.specs.FieldIdentifiers.{identifiers_declared_in_block, identifiers_declared_in_procedure, identifiers_declared_in_procedures}
use Rattle.ob0_types_fields.proofs.FieldVisits.{declaration_visited, declarations_visited, on_ok, plain_visited, visits_after, visits_as, visits_both, visits_named, visits_plain}

pub visit_fields_declared_in_block-loop-p-preserved : goal.visit_fields_declared_in_block-loop-p-preserved
visit_fields_declared_in_block-loop-p-preserved g t c =
    let p = procedure_of c.p-item.result in
    declaration_visited procedure_of identifiers_declared_in_procedures procedure_list_constructor_count c.p-item.result (λ n. identifiers_declared_in_procedure n p) (procedure_constructor_count p)
    (λ n rest. refl) (λ rest. refl) c.loop-p.invariant c.loop-p-test.true c.p-item.is c.in_ok-visit_fields_declared_in_procedure.ensures

pub visit_fields_declared_in_block-returns : goal.visit_fields_declared_in_block-returns
visit_fields_declared_in_block-returns g t c =
    let b = out-Block c.args.b.now in
    let k : ℕ = c.args.word_count.now in
    let ts = type_section_of b.types in
    let vs = variable_section_of b.variables in
    let count = variables_constructor_count (section_variables vs) in
    let ps = items_of procedure_of c.deref-p-items.result.now in
    let ends = declarations_visited procedure_of identifiers_declared_in_procedures procedure_list_constructor_count (λ n. refl) refl c.loop-p.invariant c.loop-p-test.false in
    let later = visits_both (λ n. identifiers_declared_in_procedures n ps) c.in_ok-visit_variable_section_fields.ensures ends in
    let all = visits_plain (constant_section_of b.constants) (visits_both (λ n. section_identifiers n vs ++ identifiers_declared_in_procedures (n + count) ps) c.in_ok-visit_type_section_fields.ensures later) in
    let statements = declared_identifiers (mark_all_names no_field (body_of b.body)) in
    let whole = visits_after statements all (plain_visited g.V.FieldVisitor.state_after_one_field role.DeclaringName (body_of b.body) _) in
    let listed = ap (items_of procedure_of) c.deref-p-items.ensures.value in
    let before : ℕ = k + types_constructor_count (section_types ts) in
    visits_as
    (ap (λ zs. (declared_identifiers (mark_all_names no_field (constant_section_of b.constants)) ++ (section_identifiers k ts ++ (section_identifiers before vs ++ identifiers_declared_in_procedures (before + count) zs))) ++ statements) listed ∙ ap (identifiers_declared_in_block k) (sym (block_parts c.args.b.now)))
    (ap (λ zs. types_constructor_count (section_types ts) + (count + procedure_list_constructor_count zs)) listed ∙ ap block_constructor_count (sym (block_parts c.args.b.now)))
    whole

pub visit_fields_declared_in_procedure-returns : goal.visit_fields_declared_in_procedure-returns
visit_fields_declared_in_procedure-returns g t c =
    let p = out-Procedure c.args.p.now in
    let parts = sym (procedure_parts c.args.p.now) in
    on_ok c.visit_fields_declared_in_block.result c.visit_fields_declared_in_block.ensures
    (λ v. visits_as (ap (identifiers_declared_in_procedure c.args.word_count.now) parts) (ap procedure_constructor_count parts)
    (visits_named p.name p.closing (section_identifiers c.args.word_count.now (formals_of p.formals)) (identifiers_declared_in_block (c.args.word_count.now + formals_constructor_count (formal_parameter_sections (formals_of p.formals))) (block_of p.block)) (visits_both (λ n. identifiers_declared_in_block n (block_of p.block)) c.in_ok-visit_parameter_type_fields.ensures v)))
