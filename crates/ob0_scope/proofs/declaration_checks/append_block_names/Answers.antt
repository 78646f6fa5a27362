use Rattle.std.proofs.Common.{◌≡◌, ◌++◌, OnOk, sym, ap, ◌∙◌, subst, append_assoc}
use Rattle.ob0_tree.specs.declared.tree.Block.{out-Block}
use Rattle.ob0_tree.specs.View.{constant_section_of, items_of, procedure_of, type_section_of, variable_section_of}
use Rattle.ob0_tree.proofs.Viewed.{block_parts}
use Rattle.ob0_language_names.specs.ConsistentNames.{names_declared_in_block, procedure_names}
use Rattle.ob0_language_names.specs.BlockParts.{constant_names, declared_type_names, section_constants, section_types, section_variables, variable_names}
use Rattle.ob0_scope.proofs.declaration_checks.append_block_names.Goals as goal

pub returns : goal.returns
returns c =
    let b = out-Block c.args.b.now in
    let old = c.args.out.now.items in
    let cs = constant_names (section_constants (constant_section_of b.constants)) in
    let ts = declared_type_names (section_types (type_section_of b.types)) in
    let vs = variable_names (section_variables (variable_section_of b.variables)) in
    let ps = procedure_names (items_of procedure_of b.procedures.items) in
    let before = c.in_ok-append_variable_names.ensures ∙ ap (λ z. z ++ vs) (c.in_ok-append_type_names.ensures ∙ ap (λ z. z ++ ts) c.in_ok-append_constant_names.ensures) in
    let collected = (λ i. before i ++ procedure_names (items_of procedure_of (c.deref.ensures.value i)))
    ∙ (append_assoc ((old ++ cs) ++ ts) vs ps ∙ (append_assoc (old ++ cs) ts (vs ++ ps) ∙ append_assoc old cs (ts ++ (vs ++ ps)))) in
    subst (λ z. OnOk c.append_procedure_names.result (c.append_procedure_names.new.out.items ≡ z)) (collected ∙ ap (λ t. old ++ names_declared_in_block t) (sym (block_parts c.args.b.now))) c.append_procedure_names.ensures
