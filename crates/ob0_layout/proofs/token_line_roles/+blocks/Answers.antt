use Rattle.std.proofs.Common.{◌≡◌, ◌+◌, ◌++◌, [], ◌∷◌, IfOk, sym, ap, ◌∙◌, subst}
use Rattle.ob0_tree.proofs.Viewed.{block_parts, procedure_made}
use Rattle.ob0_tree.specs.declared.tree.Block.{out-Block}
use Rattle.ob0_tree.specs.declared.tree.Procedure.{out-Procedure, roll-out-Procedure}
use Rattle.ob0_tree.specs.View.{items_of, constant_section_of, type_section_of, variable_section_of, procedure_of, body_of, formals_of, block_of}
use Rattle.ob0_layout.specs.declared.line_role.LineRole.TheVariants.{BeginsLine, Plain}
use Rattle.ob0_layout.specs.LineRoles.{line_roles}
use Rattle.ob0_layout.proofs.Walks.{step, closing, walk_ends, block_shape, procedure_shape}
use Rattle.ob0_layout.proofs.token_line_roles.+blocks.Goals as goal

pub add_block_roles-returns : goal.add_block_roles-returns
add_block_roles-returns t c =
    let b = out-Block c.args.b.now in
    let start = c.args.out.now.items in
    let k = c.args.level in
    let constants = line_roles k (constant_section_of b.constants) in
    let types = line_roles k (type_section_of b.types) in
    let variables = line_roles k (variable_section_of b.variables) in
    let procedures = line_roles k (items_of procedure_of b.procedures.items) in
    let d = step start constants types c.in_ok-add_constant_section_roles.ensures c.in_ok-add_type_section_roles.ensures in
    let e = step start (constants ++ types) variables d c.in_ok-add_variable_section_roles.ensures in
    let f = step start ((constants ++ types) ++ variables) procedures e
    (walk_ends c.loop-p.invariant c.loop-p-test.false ∙ ap (λ xs. c.add_variable_section_roles.new.out.items ++ line_roles k (items_of procedure_of xs)) c.deref-p-items.ensures.value) in
    subst (λ z. IfOk c.add_body_roles.result (λ _. c.add_body_roles.new.out.items ≡ z))
    (closing start (((constants ++ types) ++ variables) ++ procedures) (line_roles k (body_of b.body)) _ f (block_shape constants types variables procedures (line_roles k (body_of b.body)))
    ∙ ap (λ s. start ++ line_roles k s) (sym (block_parts c.args.b.now))) c.add_body_roles.ensures

pub add_procedure_roles-returns : goal.add_procedure_roles-returns
add_procedure_roles-returns t c =
    let p = out-Procedure c.args.p.now in
    let start = c.args.out.now.items in
    let k = c.args.level + 1 in
    let formals = line_roles 0 (formals_of p.formals) in
    let inner = line_roles k (block_of p.block) in
    let same = c.in_ok-inner.ensures in
    let a = step start (BeginsLine k ∷ []) (Plain ∷ []) (c.in_ok-add_line_start_role.ensures ∙ ap (λ j. start ++ (BeginsLine j ∷ [])) same) c.in_ok-add_plain_role.ensures in
    let b = step start ((BeginsLine k ∷ []) ++ (Plain ∷ [])) formals a c.in_ok-add_formal_parameter_roles.ensures in
    let d = step start (((BeginsLine k ∷ []) ++ (Plain ∷ [])) ++ formals) (Plain ∷ []) b c.in_ok-add_plain_role-2.ensures in
    let e = step start ((((BeginsLine k ∷ []) ++ (Plain ∷ [])) ++ formals) ++ (Plain ∷ [])) inner d (c.in_ok-add_block_roles.ensures ∙ ap (λ j. c.add_plain_role-2.new.out.items ++ line_roles j (block_of p.block)) same) in
    let f = step start (((((BeginsLine k ∷ []) ++ (Plain ∷ [])) ++ formals) ++ (Plain ∷ [])) ++ inner) (BeginsLine k ∷ []) e (c.in_ok-add_line_start_role-2.ensures ∙ ap (λ j. c.add_block_roles.new.out.items ++ (BeginsLine j ∷ [])) same) in
    let h = step start ((((((BeginsLine k ∷ []) ++ (Plain ∷ [])) ++ formals) ++ (Plain ∷ [])) ++ inner) ++ (BeginsLine k ∷ [])) (Plain ∷ []) f c.in_ok-add_plain_role-3.ensures in
    subst (λ z. IfOk c.add_plain_role-4.result (λ _. c.add_plain_role-4.new.out.items ≡ z))
    (closing start (((((((BeginsLine k ∷ []) ++ (Plain ∷ [])) ++ formals) ++ (Plain ∷ [])) ++ inner) ++ (BeginsLine k ∷ [])) ++ (Plain ∷ [])) (Plain ∷ []) _ h (procedure_shape (BeginsLine k) Plain formals inner)
    ∙ ap (λ s. start ++ line_roles c.args.level s) (sym (sym (ap procedure_of (roll-out-Procedure c.args.p.now)) ∙ procedure_made p))) c.add_plain_role-4.ensures
