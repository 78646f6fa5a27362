use Rattle.std.proofs.Common.{◌≡◌, [], ◌∷◌, ◌++◌, OnOk, sym, ap, ◌∙◌, subst}
use Rattle.ob0_tree.proofs.Viewed.{block_parts, procedure_parts}
use Rattle.ob0_tree.specs.declared.tree.Block.{out-Block}
use Rattle.ob0_tree.specs.declared.tree.Procedure.{out-Procedure}
use Rattle.ob0_tree.specs.declared.tree.Role.TheVariants as role
use Rattle.ob0_tree.specs.Tree.{identifiers}
use Rattle.ob0_tree.specs.View.{items_of, constant_section_of, type_section_of, variable_section_of, procedure_of, body_of, formals_of, block_of}
use Rattle.ob0_tree.specs.VisitorStates.{state_after_visit, state_after_identifiers}
use Rattle.ob0_tree.proofs.Visits.{all_visited, four_visited, then_visited, visits_on}
use Rattle.ob0_tree.proofs.identifier_walk.+blocks.Goals as goal

pub walk_block-loop-p-preserved : goal.walk_block-loop-p-preserved
walk_block-loop-p-preserved g t c = visits_on procedure_of c.p-item.result c.walk_procedure.new.visitor c.loop-p.invariant c.loop-p-test.true c.p-item.is c.in_ok-walk_procedure.ensures

pub walk_block-returns : goal.walk_block-returns
walk_block-returns g t c =
    let b = out-Block c.args.b.now in
    let start = c.args.visitor.now in
    let step = g.V.Visitor.state_after_one_identifier in
    let constants = identifiers role.DeclaringName (constant_section_of b.constants) in
    let types = identifiers role.DeclaringName (type_section_of b.types) in
    let variables = identifiers role.DeclaringName (variable_section_of b.variables) in
    let procedures = identifiers role.DeclaringName (items_of procedure_of b.procedures.items) in
    let walked = all_visited c.loop-p.invariant c.loop-p-test.false ∙ ap (λ xs. state_after_identifiers step (identifiers role.DeclaringName (items_of procedure_of xs)) c.walk_variable_declarations.new.visitor) c.deref-p-items.ensures.value in
    let before = four_visited step start constants types variables procedures c.in_ok-walk_constant_declarations.ensures c.in_ok-walk_type_declarations.ensures c.in_ok-walk_variable_declarations.ensures in
    subst (λ z. OnOk c.walk_body.result (c.walk_body.new.visitor ≡ z))
    (then_visited step start (constants ++ (types ++ (variables ++ procedures))) (identifiers role.DeclaringName (body_of b.body)) (walked ∙ before)
    ∙ ap (λ t. state_after_visit step t start) (sym (block_parts c.args.b.now))) c.walk_body.ensures

pub walk_procedure-returns : goal.walk_procedure-returns
walk_procedure-returns g t c =
    let p = out-Procedure c.args.p.now in
    let start = c.args.visitor.now in
    let step = g.V.Visitor.state_after_one_identifier in
    let formals = identifiers role.DeclaringName (formals_of p.formals) in
    let inner = identifiers role.DeclaringName (block_of p.block) in
    let closing = (role.ClosingName, p.closing) ∷ [] in
    c.in_ok-visit_one_identifier-2.ensures
    ∙ (then_visited step c.walk_formals.new.visitor inner closing c.in_ok-walk_block.ensures
    ∙ (then_visited step c.visit_one_identifier.new.self formals (inner ++ closing) c.in_ok-walk_formals.ensures
    ∙ (ap (state_after_identifiers step (formals ++ (inner ++ closing))) c.in_ok-visit_one_identifier.ensures
    ∙ ap (λ t. state_after_visit step t start) (sym (procedure_parts c.args.p.now)))))
