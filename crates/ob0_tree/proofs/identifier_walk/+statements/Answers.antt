use Rattle.std.proofs.Common.{◌≡◌, OnOk, List, [], ◌∷◌, refl, sym, ap, ◌∙◌, subst}
use Rattle.ob0_tree.proofs.Viewed.{while_read, repeat_read, if_parts}
use Rattle.ob0_tree.specs.declared.tree.If.{out-If}
use Rattle.ob0_tree.specs.declared.tree.Role.TheVariants as role
use Rattle.ob0_tree.specs.declared.tree.Statement.{Statement}
use Rattle.ob0_tree.specs.Tree.{identifiers, branches}
use Rattle.ob0_tree.specs.View.{items_of, statement_of, statement_after_semicolon_of, sequence_of_list, expression_of, elsif_of, else_part_of}
use Rattle.ob0_tree.specs.VisitorStates.{state_after_visit, state_after_identifiers}
use Rattle.ob0_tree.proofs.Visits.{all_visited, four_visited, then_visited, visits_on}
use Rattle.ob0_tree.proofs.identifier_walk.+statements.Goals as goal

sequence_visited : (ss : List Statement) → identifiers role.DeclaringName (items_of statement_after_semicolon_of ss) ≡ identifiers role.DeclaringName (sequence_of_list ss)
sequence_visited [] = refl
sequence_visited (s ∷ ss) = refl

pub walk_sequence-loop-s-preserved : goal.walk_sequence-loop-s-preserved
walk_sequence-loop-s-preserved g t c = visits_on statement_after_semicolon_of c.s-item.result c.walk_statement.new.visitor c.loop-s.invariant c.loop-s-test.true c.s-item.is c.in_ok-walk_statement.ensures

pub walk_sequence-returns : goal.walk_sequence-returns
walk_sequence-returns g t c =
    all_visited c.loop-s.invariant c.loop-s-test.false
    ∙ ap (λ is. state_after_identifiers g.V.Visitor.state_after_one_identifier is c.args.visitor.now)
    (ap (λ xs. identifiers role.DeclaringName (items_of statement_after_semicolon_of xs)) c.deref-s-items.ensures.value ∙ sequence_visited c.args.statements.now.items)

pub walk_elsifs-loop-e-preserved : goal.walk_elsifs-loop-e-preserved
walk_elsifs-loop-e-preserved g t c =
    let e = c.e-item.result in
    let condition = identifiers role.DeclaringName (expression_of e.condition) in
    visits_on elsif_of e c.walk_sequence.new.visitor c.loop-e.invariant c.loop-e-test.true c.e-item.is
    (c.in_ok-walk_sequence.ensures ∙ then_visited g.V.Visitor.state_after_one_identifier c.loop-e.visitor condition (identifiers role.DeclaringName (sequence_of_list e.then.items)) c.in_ok-walk_expression.ensures)

pub walk_elsifs-returns : goal.walk_elsifs-returns
walk_elsifs-returns g t c =
    all_visited c.loop-e.invariant c.loop-e-test.false
    ∙ ap (λ xs. state_after_identifiers g.V.Visitor.state_after_one_identifier (identifiers role.DeclaringName (items_of elsif_of xs)) c.args.visitor.now) c.deref-e-items.ensures.value

pub walk_if-returns-in-Some : goal.walk_if-returns-in-Some
walk_if-returns-in-Some g t c =
    let i = out-If c.args.i.now in
    let tree = if_parts c.args.i.now ∙ ap (λ o. branches (expression_of i.condition) (sequence_of_list i.then.items) (items_of elsif_of i.elsifs.items) (else_part_of o)) c.in-Some.is in
    subst (λ z. OnOk c.walk_sequence-in-Some.result (c.walk_sequence-in-Some.new.visitor ≡ z))
    (four_visited g.V.Visitor.state_after_one_identifier c.args.visitor.now (identifiers role.DeclaringName (expression_of i.condition)) (identifiers role.DeclaringName (sequence_of_list i.then.items)) (identifiers role.DeclaringName (items_of elsif_of i.elsifs.items)) (identifiers role.DeclaringName (sequence_of_list c.in-Some.statements.items))
    c.in_ok-walk_expression.ensures c.in_ok-walk_sequence.ensures c.in_ok-walk_elsifs.ensures
    ∙ ap (λ t. state_after_visit g.V.Visitor.state_after_one_identifier t c.args.visitor.now) (sym tree)) c.walk_sequence-in-Some.ensures

pub walk_if-returns-in-None : goal.walk_if-returns-in-None
walk_if-returns-in-None g t c =
    let i = out-If c.args.i.now in
    let tree = if_parts c.args.i.now ∙ ap (λ o. branches (expression_of i.condition) (sequence_of_list i.then.items) (items_of elsif_of i.elsifs.items) (else_part_of o)) c.in-None.is in
    four_visited g.V.Visitor.state_after_one_identifier c.args.visitor.now (identifiers role.DeclaringName (expression_of i.condition)) (identifiers role.DeclaringName (sequence_of_list i.then.items)) (identifiers role.DeclaringName (items_of elsif_of i.elsifs.items)) []
    c.in_ok-walk_expression.ensures c.in_ok-walk_sequence.ensures c.in_ok-walk_elsifs.ensures
    ∙ ap (λ t. state_after_visit g.V.Visitor.state_after_one_identifier t c.args.visitor.now) (sym tree)

pub walk_statement-returns-in_ok-walk_expression-in-While : goal.walk_statement-returns-in_ok-walk_expression-in-While
walk_statement-returns-in_ok-walk_expression-in-While g t c =
    let condition = c.deref-in-While.result.now.condition in
    let body = c.deref-in-While-2.result.now.body in
    let tree = while_read c.in-While.w c.deref-in-While.ensures c.deref-in-While-2.ensures in
    subst (λ z. OnOk c.walk_sequence.result (c.walk_sequence.new.visitor ≡ z))
    (then_visited g.V.Visitor.state_after_one_identifier c.args.visitor.now (identifiers role.DeclaringName (expression_of condition)) (identifiers role.DeclaringName (sequence_of_list body.items)) c.in_ok-walk_expression-in-While.ensures
    ∙ ap (λ t. state_after_visit g.V.Visitor.state_after_one_identifier t c.args.visitor.now) (sym tree ∙ sym (ap statement_of c.in-While.is))) c.walk_sequence.ensures

pub walk_statement-returns-in_ok-walk_sequence-in-Repeat : goal.walk_statement-returns-in_ok-walk_sequence-in-Repeat
walk_statement-returns-in_ok-walk_sequence-in-Repeat g t c =
    let body = c.deref-in-Repeat.result.now.body in
    let condition = c.deref-in-Repeat-2.result.now.condition in
    let tree = repeat_read c.in-Repeat.r c.deref-in-Repeat.ensures c.deref-in-Repeat-2.ensures in
    subst (λ z. OnOk c.walk_expression-in-Repeat.result (c.walk_expression-in-Repeat.new.visitor ≡ z))
    (then_visited g.V.Visitor.state_after_one_identifier c.args.visitor.now (identifiers role.DeclaringName (sequence_of_list body.items)) (identifiers role.DeclaringName (expression_of condition)) c.in_ok-walk_sequence-in-Repeat.ensures
    ∙ ap (λ t. state_after_visit g.V.Visitor.state_after_one_identifier t c.args.visitor.now) (sym tree ∙ sym (ap statement_of c.in-Repeat.is))) c.walk_expression-in-Repeat.ensures
