use Rattle.std.proofs.Common.{◌≡◌, OnOk, sym, ap, ◌∙◌, subst}
use Rattle.ob0_tree.specs.View.{items_of, procedure_of, body_of, type_section_of, variable_section_of}
use Rattle.ob0_tree.proofs.Viewed.{block_parts}
use Rattle.ob0_tree.specs.declared.tree.Block.{out-Block}
use Rattle.ob0_scope_numbering.specs.IdentifierWalk.{visit_nondeclaring_tree, visit_block, visit_procedure_list, visit_type_section, visit_variable_section}
use Rattle.ob0_scope_numbering.proofs.Going.{gone_through}
use Rattle.ob0_scope_numbering.proofs.numbering.NumberingWalk.+blocks.Goals as goal

pub walk_block-returns : goal.walk_block-returns
walk_block-returns t c =
    let b = out-Block c.args.b.now in
    let before = c.args.self.now in
    let declared = c.in_ok-walk_variable_section.ensures
    ∙ ap (visit_variable_section (variable_section_of b.variables)) (c.in_ok-walk_type_section.ensures ∙ ap (visit_type_section (type_section_of b.types)) c.in_ok-walk_constant_section.ensures) in
    let walked = gone_through (λ xs. visit_procedure_list (items_of procedure_of xs)) c.loop-p.invariant c.loop-p-test.false
    ∙ (ap (λ xs. visit_procedure_list (items_of procedure_of xs) c.walk_variable_section.new.self) c.deref-p-items.ensures.value
    ∙ ap (visit_procedure_list (items_of procedure_of b.procedures.items)) declared) in
    subst (λ v. OnOk c.walk_body.result (c.walk_body.new.visitor ≡ v)) (ap (visit_nondeclaring_tree (body_of b.body)) walked ∙ sym (ap (λ t. visit_block t before) (block_parts c.args.b.now))) c.walk_body.ensures
