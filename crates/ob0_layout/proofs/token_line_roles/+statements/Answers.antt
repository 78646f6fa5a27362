use Rattle.std.proofs.Common.{◌≡◌, ◌+◌, ◌++◌, [], ◌∷◌, IfOk, sym, ap, ◌∙◌, subst}
use Rattle.ob0_tree.proofs.Viewed.{while_read, repeat_read, if_parts}
use Rattle.ob0_tree.specs.declared.tree.If.{out-If}
use Rattle.ob0_tree.specs.Tree.{branches}
use Rattle.ob0_tree.specs.View.{items_of, expression_of, statement_of, sequence_of_list, elsif_of, else_part_of}
use Rattle.ob0_layout.specs.declared.line_role.LineRole.TheVariants.{BeginsLine, Plain}
use Rattle.ob0_layout.specs.LineRoles.{line_roles}
use Rattle.ob0_layout.proofs.Walks.{step, closing, while_shape, repeat_shape, else_shape, if_shape}
use Rattle.ob0_layout.proofs.token_line_roles.+statements.Goals as goal

pub add_statement_roles-returns-in_ok-add_sequence_roles-in-While : goal.add_statement_roles-returns-in_ok-add_sequence_roles-in-While
add_statement_roles-returns-in_ok-add_sequence_roles-in-While t c =
    let start = c.args.out.now.items in
    let k = c.args.level in
    let body = c.deref-in-While-2.result.now.body.items in
    let condition = line_roles 0 (expression_of c.deref-in-While.result.now.condition) in
    let inner = line_roles (k + 1) (sequence_of_list body) in
    let tree = while_read c.in-While.w c.deref-in-While.ensures c.deref-in-While-2.ensures in
    let a = step start (BeginsLine k ∷ []) condition c.in_ok-push-in-While.ensures.items c.in_ok-add_expression_roles-in-While.ensures in
    let b = step start ((BeginsLine k ∷ []) ++ condition) (Plain ∷ []) a c.in_ok-add_plain_role-in-While.ensures in
    let d = step start (((BeginsLine k ∷ []) ++ condition) ++ (Plain ∷ [])) inner b (c.in_ok-add_sequence_roles-in-While.ensures ∙ ap (λ j. c.add_plain_role.new.out.items ++ line_roles j (sequence_of_list body)) c.in_ok-deeper_level-in-While.ensures) in
    subst (λ z. IfOk c.add_line_start_role.result (λ _. c.add_line_start_role.new.out.items ≡ z))
    (closing start ((((BeginsLine k ∷ []) ++ condition) ++ (Plain ∷ [])) ++ inner) (BeginsLine k ∷ []) _ d (while_shape (BeginsLine k) Plain condition inner)
    ∙ ap (λ s. start ++ line_roles k s) (sym tree ∙ sym (ap statement_of c.in-While.is))) c.add_line_start_role.ensures

pub add_statement_roles-returns-in_ok-push-in-Repeat-2 : goal.add_statement_roles-returns-in_ok-push-in-Repeat-2
add_statement_roles-returns-in_ok-push-in-Repeat-2 t c =
    let start = c.args.out.now.items in
    let k = c.args.level in
    let body = c.deref-in-Repeat.result.now.body.items in
    let condition = line_roles 0 (expression_of c.deref-in-Repeat-2.result.now.condition) in
    let inner = line_roles (k + 1) (sequence_of_list body) in
    let tree = repeat_read c.in-Repeat.r c.deref-in-Repeat.ensures c.deref-in-Repeat-2.ensures in
    let a = step start (BeginsLine k ∷ []) inner c.in_ok-push-in-Repeat.ensures.items (c.in_ok-add_sequence_roles-in-Repeat.ensures ∙ ap (λ j. c.push-in-Repeat.new.self.items ++ line_roles j (sequence_of_list body)) c.in_ok-deeper_level-in-Repeat.ensures) in
    let b = step start ((BeginsLine k ∷ []) ++ inner) (BeginsLine k ∷ []) a c.in_ok-push-in-Repeat-2.ensures.items in
    subst (λ z. IfOk c.add_expression_roles-in-Repeat.result (λ _. c.add_expression_roles-in-Repeat.new.out.items ≡ z))
    (closing start (((BeginsLine k ∷ []) ++ inner) ++ (BeginsLine k ∷ [])) condition _ b (repeat_shape (BeginsLine k) condition inner)
    ∙ ap (λ s. start ++ line_roles k s) (sym tree ∙ sym (ap statement_of c.in-Repeat.is))) c.add_expression_roles-in-Repeat.ensures

pub add_if_roles-returns-in_ok-add_sequence_roles-in-Some : goal.add_if_roles-returns-in_ok-add_sequence_roles-in-Some
add_if_roles-returns-in_ok-add_sequence_roles-in-Some t c =
    let i = out-If c.args.i.now in
    let start = c.args.out.now.items in
    let k = c.args.level in
    let tree = if_parts c.args.i.now ∙ ap (λ o. branches (expression_of i.condition) (sequence_of_list i.then.items) (items_of elsif_of i.elsifs.items) (else_part_of o)) c.in-Some.is in
    let condition = line_roles 0 (expression_of i.condition) in
    let first = line_roles (k + 1) (sequence_of_list i.then.items) in
    let others = line_roles k (items_of elsif_of i.elsifs.items) in
    let last = line_roles (k + 1) (sequence_of_list c.in-Some.statements.items) in
    let a = step start (BeginsLine k ∷ []) condition c.in_ok-add_line_start_role.ensures c.in_ok-add_expression_roles.ensures in
    let b = step start ((BeginsLine k ∷ []) ++ condition) (Plain ∷ []) a c.in_ok-add_plain_role.ensures in
    let d = step start (((BeginsLine k ∷ []) ++ condition) ++ (Plain ∷ [])) first b (c.in_ok-add_sequence_roles.ensures ∙ ap (λ j. c.add_plain_role.new.out.items ++ line_roles j (sequence_of_list i.then.items)) c.in_ok-inner.ensures) in
    let e = step start ((((BeginsLine k ∷ []) ++ condition) ++ (Plain ∷ [])) ++ first) others d c.in_ok-add_elsif_roles.ensures in
    let f = step start (((((BeginsLine k ∷ []) ++ condition) ++ (Plain ∷ [])) ++ first) ++ others) (BeginsLine k ∷ []) e c.in_ok-add_line_start_role-in-Some.ensures in
    let h = step start ((((((BeginsLine k ∷ []) ++ condition) ++ (Plain ∷ [])) ++ first) ++ others) ++ (BeginsLine k ∷ [])) last f
    (c.in_ok-add_sequence_roles-in-Some.ensures ∙ ap (λ j. c.add_line_start_role-in-Some.new.out.items ++ line_roles j (sequence_of_list c.in-Some.statements.items)) c.in_ok-inner.ensures) in
    subst (λ z. IfOk c.add_line_start_role-in-Some-2.result (λ _. c.add_line_start_role-in-Some-2.new.out.items ≡ z))
    (closing start (((((((BeginsLine k ∷ []) ++ condition) ++ (Plain ∷ [])) ++ first) ++ others) ++ (BeginsLine k ∷ [])) ++ last) (BeginsLine k ∷ []) _ h (else_shape (BeginsLine k) Plain condition first others last)
    ∙ ap (λ s. start ++ line_roles k s) (sym tree)) c.add_line_start_role-in-Some-2.ensures

pub add_if_roles-returns-in-None : goal.add_if_roles-returns-in-None
add_if_roles-returns-in-None t c =
    let i = out-If c.args.i.now in
    let start = c.args.out.now.items in
    let k = c.args.level in
    let tree = if_parts c.args.i.now ∙ ap (λ o. branches (expression_of i.condition) (sequence_of_list i.then.items) (items_of elsif_of i.elsifs.items) (else_part_of o)) c.in-None.is in
    let condition = line_roles 0 (expression_of i.condition) in
    let first = line_roles (k + 1) (sequence_of_list i.then.items) in
    let others = line_roles k (items_of elsif_of i.elsifs.items) in
    let a = step start (BeginsLine k ∷ []) condition c.in_ok-add_line_start_role.ensures c.in_ok-add_expression_roles.ensures in
    let b = step start ((BeginsLine k ∷ []) ++ condition) (Plain ∷ []) a c.in_ok-add_plain_role.ensures in
    let d = step start (((BeginsLine k ∷ []) ++ condition) ++ (Plain ∷ [])) first b (c.in_ok-add_sequence_roles.ensures ∙ ap (λ j. c.add_plain_role.new.out.items ++ line_roles j (sequence_of_list i.then.items)) c.in_ok-inner.ensures) in
    let e = step start ((((BeginsLine k ∷ []) ++ condition) ++ (Plain ∷ [])) ++ first) others d c.in_ok-add_elsif_roles.ensures in
    subst (λ z. IfOk c.add_line_start_role-in-None.result (λ _. c.add_line_start_role-in-None.new.out.items ≡ z))
    (closing start (((((BeginsLine k ∷ []) ++ condition) ++ (Plain ∷ [])) ++ first) ++ others) (BeginsLine k ∷ []) _ e (if_shape (BeginsLine k) Plain condition first others)
    ∙ ap (λ s. start ++ line_roles k s) (sym tree)) c.add_line_start_role-in-None.ensures
