use Rattle.std.proofs.Common.{◌≡◌, ℕ, OnOk, List, [], ◌∷◌, refl, sym, ap, ◌∙◌, subst, None}
use Rattle.ob0_tree.proofs.Viewed.{if_parts, repeat_read, while_read}
use Rattle.ob0_tree.specs.declared.tree.If.{out-If}
use Rattle.ob0_tree.specs.declared.tree.Statement.{Statement}
use Rattle.ob0_tree.specs.Tree.{branches}
use Rattle.ob0_tree.specs.View.{items_of, statement_after_semicolon_of, statement_of, sequence_of_list, expression_of, elsif_of, else_part_of}
use Rattle.ob0_language_types.specs.Expressions.{Meanings}
use Rattle.ob0_language_types.specs.WellTyped.{Signature}
use Rattle.ob0_language_values.specs.Values.{Shape}
use Rattle.ob0_types_fields.proofs.field_walk.FieldWalk.+statements.Goals as goal
use Rattle.ob0_types_fields.specs.IdentifierOwners.{selected_identifiers}
use Rattle.ob0_types_fields.specs.FieldWalks.{field_walk_meanings, state_after_identifiers}
use Rattle.ob0_types_fields.proofs.FieldVisits.{all_visited, four_visited, then_visited, visits_on}

sequence_visited : (m : Meanings ℕ Shape Signature) (ss : List Statement) → selected_identifiers m None (items_of statement_after_semicolon_of ss) ≡ selected_identifiers m None (sequence_of_list ss)
sequence_visited m [] = refl
sequence_visited m (s ∷ ss) = refl

pub visit_sequence_fields-loop-s-preserved : goal.visit_sequence_fields-loop-s-preserved
visit_sequence_fields-loop-s-preserved g t c = visits_on statement_after_semicolon_of c.s-item.result c.visit_statement_fields.new.visitor c.loop-s.invariant c.loop-s-test.true c.s-item.is c.in_ok-visit_statement_fields.ensures

pub visit_sequence_fields-returns : goal.visit_sequence_fields-returns
visit_sequence_fields-returns g t c =
    let m = field_walk_meanings c.args.self.now in
    all_visited c.loop-s.invariant c.loop-s-test.false
    ∙ ap (λ is. state_after_identifiers g.V.FieldVisitor.state_after_one_field is c.args.visitor.now)
    (ap (λ xs. selected_identifiers m None (items_of statement_after_semicolon_of xs)) c.deref-s-items.ensures.value ∙ sequence_visited m c.args.statements.now.items)

pub visit_elsif_fields-loop-e-preserved : goal.visit_elsif_fields-loop-e-preserved
visit_elsif_fields-loop-e-preserved g t c =
    let e = c.e-item.result in
    let m = field_walk_meanings c.args.self.now in
    visits_on elsif_of e c.visit_sequence_fields.new.visitor c.loop-e.invariant c.loop-e-test.true c.e-item.is
    (c.in_ok-visit_sequence_fields.ensures
    ∙ then_visited g.V.FieldVisitor.state_after_one_field c.loop-e.visitor (selected_identifiers m None (expression_of e.condition)) (selected_identifiers m None (sequence_of_list e.then.items)) c.in_ok-visit_expression_fields.ensures)

pub visit_elsif_fields-returns : goal.visit_elsif_fields-returns
visit_elsif_fields-returns g t c =
    all_visited c.loop-e.invariant c.loop-e-test.false
    ∙ ap (λ xs. state_after_identifiers g.V.FieldVisitor.state_after_one_field (selected_identifiers (field_walk_meanings c.args.self.now) None (items_of elsif_of xs)) c.args.visitor.now) c.deref-e-items.ensures.value

pub visit_if_fields-returns-in-Some : goal.visit_if_fields-returns-in-Some
visit_if_fields-returns-in-Some g t c =
    let i = out-If c.args.i.now in
    let step = g.V.FieldVisitor.state_after_one_field in
    let m = field_walk_meanings c.args.self.now in
    let tree = if_parts c.args.i.now ∙ ap (λ o. branches (expression_of i.condition) (sequence_of_list i.then.items) (items_of elsif_of i.elsifs.items) (else_part_of o)) c.in-Some.is in
    subst (λ z. OnOk c.visit_sequence_fields-in-Some.result (c.visit_sequence_fields-in-Some.new.visitor ≡ z))
    (four_visited step c.args.visitor.now (selected_identifiers m None (expression_of i.condition)) (selected_identifiers m None (sequence_of_list i.then.items)) (selected_identifiers m None (items_of elsif_of i.elsifs.items)) (selected_identifiers m None (sequence_of_list c.in-Some.statements.items))
    c.in_ok-visit_expression_fields.ensures c.in_ok-visit_sequence_fields.ensures c.in_ok-visit_elsif_fields.ensures
    ∙ ap (λ t. state_after_identifiers step (selected_identifiers m None t) c.args.visitor.now) (sym tree)) c.visit_sequence_fields-in-Some.ensures

pub visit_if_fields-returns-in-None : goal.visit_if_fields-returns-in-None
visit_if_fields-returns-in-None g t c =
    let i = out-If c.args.i.now in
    let step = g.V.FieldVisitor.state_after_one_field in
    let m = field_walk_meanings c.args.self.now in
    let tree = if_parts c.args.i.now ∙ ap (λ o. branches (expression_of i.condition) (sequence_of_list i.then.items) (items_of elsif_of i.elsifs.items) (else_part_of o)) c.in-None.is in
    four_visited step c.args.visitor.now (selected_identifiers m None (expression_of i.condition)) (selected_identifiers m None (sequence_of_list i.then.items)) (selected_identifiers m None (items_of elsif_of i.elsifs.items)) []
    c.in_ok-visit_expression_fields.ensures c.in_ok-visit_sequence_fields.ensures c.in_ok-visit_elsif_fields.ensures
    ∙ ap (λ t. state_after_identifiers step (selected_identifiers m None t) c.args.visitor.now) (sym tree)

pub visit_statement_fields-returns-in_ok-visit_expression_fields-in-While : goal.visit_statement_fields-returns-in_ok-visit_expression_fields-in-While
visit_statement_fields-returns-in_ok-visit_expression_fields-in-While g t c =
    let w = c.deref-w.result.now in
    let step = g.V.FieldVisitor.state_after_one_field in
    let m = field_walk_meanings c.args.self.now in
    subst (λ z. OnOk c.visit_sequence_fields.result (c.visit_sequence_fields.new.visitor ≡ z))
    (then_visited step c.args.visitor.now (selected_identifiers m None (expression_of w.condition)) (selected_identifiers m None (sequence_of_list w.body.items)) c.in_ok-visit_expression_fields-in-While.ensures
    ∙ ap (λ t. state_after_identifiers step (selected_identifiers m None t) c.args.visitor.now) (sym (while_read c.in-While.w c.deref-w.ensures c.deref-w.ensures) ∙ sym (ap statement_of c.in-While.is))) c.visit_sequence_fields.ensures

pub visit_statement_fields-returns-in_ok-visit_sequence_fields-in-Repeat : goal.visit_statement_fields-returns-in_ok-visit_sequence_fields-in-Repeat
visit_statement_fields-returns-in_ok-visit_sequence_fields-in-Repeat g t c =
    let r = c.deref-r.result.now in
    let step = g.V.FieldVisitor.state_after_one_field in
    let m = field_walk_meanings c.args.self.now in
    subst (λ z. OnOk c.visit_expression_fields-in-Repeat.result (c.visit_expression_fields-in-Repeat.new.visitor ≡ z))
    (then_visited step c.args.visitor.now (selected_identifiers m None (sequence_of_list r.body.items)) (selected_identifiers m None (expression_of r.condition)) c.in_ok-visit_sequence_fields-in-Repeat.ensures
    ∙ ap (λ t. state_after_identifiers step (selected_identifiers m None t) c.args.visitor.now) (sym (repeat_read c.in-Repeat.r c.deref-r.ensures c.deref-r.ensures) ∙ sym (ap statement_of c.in-Repeat.is))) c.visit_expression_fields-in-Repeat.ensures
