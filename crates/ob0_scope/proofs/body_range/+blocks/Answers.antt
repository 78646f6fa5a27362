use Rattle.std.proofs.Common.{◌++◌, sym, ap, ◌∙◌, arith, append_assoc}
use Rattle.std.proofs.lemmas.Result.{MatchResult-weaker}
use Rattle.ob0_language_names.specs.BlockParts.{declared_type_names, formal_parameter_names, formal_parameter_sections, section_types, section_variables, variable_names}
use Rattle.ob0_tree.specs.View.{block_of, body_of, formals_of, type_section_of, variable_section_of}
use Rattle.ob0_tree.specs.declared.tree.Block.{out-Block}
use Rattle.ob0_tree.specs.declared.tree.Procedure.{out-Procedure}
use Rattle.ob0_tree.proofs.Viewed.{procedure_parts}
use Rattle.ob0_scope_table.specs.BodyReplacement.{path_to_body_in_block, path_to_body_in_procedure}
use Rattle.ob0_scope.specs.NamesVisibleInBody.{names_visible_at_path_in_block, names_visible_at_path_in_procedure}
use Rattle.ob0_scope.proofs.Bodies.{Place, block_place, in_one, past_all, past_one}
use Rattle.ob0_scope.proofs.body_range.+blocks.Goals as goal

pub find_body_in_block-loop-p-preserved : goal.find_body_in_block-loop-p-preserved
find_body_in_block-loop-p-preserved t c =
    past_one c.args.low c.args.own (body_of (out-Block c.args.inner.now).body) c.deref-p-items.result.now c.loop-p.p-index c.p-item.result c.loop-p.names.items c.loop-p-test.true c.p-item.is (omega (arith, c.if-p-low.false)) c.in_ok-push.ensures.items ∙ c.loop-p.invariant

-- ---- the body is in the procedure here

pub find_body_in_block-returns-then-p-low-clause-statements : goal.find_body_in_block-returns-then-p-low-clause-statements
find_body_in_block-returns-then-p-low-clause-statements t c =
    let b = out-Block c.args.inner.now in
    let declared = c.in_ok-append_variable_names.ensures
    ∙ ap (λ z. z ++ variable_names (section_variables (variable_section_of b.variables))) (c.in_ok-append_type_names.ensures ∙ ap (λ z. z ++ declared_type_names (section_types (type_section_of b.types))) c.in_ok-append_constant_names.ensures) in
    let here = in_one c.args.low c.args.own (body_of b.body) c.deref-p-items.result.now c.loop-p.p-index c.p-item.result c.loop-p.names.items c.loop-p-test.true c.p-item.is (omega (arith, c.if-p-low.true)) c.in_ok-push.ensures.items in
    let whole = block_place c.args.low c.args.own c.args.inner.now c.args.names.now.items c.deref-p-items.result.now c.deref-p-items.ensures.value declared ∙ (sym c.loop-p.invariant ∙ here) in
    MatchResult-weaker c.find_body_in_procedure.result c.find_body_in_procedure.ensures.statements (λ found e. e ∙ sym (ap (λ (p : Place). p.statements) whole)) (λ y h. h)

pub find_body_in_block-returns-then-p-low-clause-closing : goal.find_body_in_block-returns-then-p-low-clause-closing
find_body_in_block-returns-then-p-low-clause-closing t c =
    let b = out-Block c.args.inner.now in
    let declared = c.in_ok-append_variable_names.ensures
    ∙ ap (λ z. z ++ variable_names (section_variables (variable_section_of b.variables))) (c.in_ok-append_type_names.ensures ∙ ap (λ z. z ++ declared_type_names (section_types (type_section_of b.types))) c.in_ok-append_constant_names.ensures) in
    let here = in_one c.args.low c.args.own (body_of b.body) c.deref-p-items.result.now c.loop-p.p-index c.p-item.result c.loop-p.names.items c.loop-p-test.true c.p-item.is (omega (arith, c.if-p-low.true)) c.in_ok-push.ensures.items in
    let whole = block_place c.args.low c.args.own c.args.inner.now c.args.names.now.items c.deref-p-items.result.now c.deref-p-items.ensures.value declared ∙ (sym c.loop-p.invariant ∙ here) in
    MatchResult-weaker c.find_body_in_procedure.result c.find_body_in_procedure.ensures.closing (λ found e. e ∙ sym (ap (λ (p : Place). p.closing) whole)) (λ y h. h)

pub find_body_in_block-returns-then-p-low-clause-names : goal.find_body_in_block-returns-then-p-low-clause-names
find_body_in_block-returns-then-p-low-clause-names t c =
    let b = out-Block c.args.inner.now in
    let declared = c.in_ok-append_variable_names.ensures
    ∙ ap (λ z. z ++ variable_names (section_variables (variable_section_of b.variables))) (c.in_ok-append_type_names.ensures ∙ ap (λ z. z ++ declared_type_names (section_types (type_section_of b.types))) c.in_ok-append_constant_names.ensures) in
    let here = in_one c.args.low c.args.own (body_of b.body) c.deref-p-items.result.now c.loop-p.p-index c.p-item.result c.loop-p.names.items c.loop-p-test.true c.p-item.is (omega (arith, c.if-p-low.true)) c.in_ok-push.ensures.items in
    let whole = block_place c.args.low c.args.own c.args.inner.now c.args.names.now.items c.deref-p-items.result.now c.deref-p-items.ensures.value declared ∙ (sym c.loop-p.invariant ∙ here) in
    MatchResult-weaker c.find_body_in_procedure.result c.find_body_in_procedure.ensures.names (λ found e. e ∙ sym (ap (λ (p : Place). p.names) whole)) (λ y h. h)

-- ---- the body is the block's own

pub find_body_in_block-returns-clause-statements : goal.find_body_in_block-returns-clause-statements
find_body_in_block-returns-clause-statements t c =
    let b = out-Block c.args.inner.now in
    let declared = c.in_ok-append_variable_names.ensures
    ∙ ap (λ z. z ++ variable_names (section_variables (variable_section_of b.variables))) (c.in_ok-append_type_names.ensures ∙ ap (λ z. z ++ declared_type_names (section_types (type_section_of b.types))) c.in_ok-append_constant_names.ensures) in
    let here = past_all c.args.low c.args.own (body_of b.body) c.deref-p-items.result.now c.loop-p.p-index c.loop-p.names.items (omega (arith, c.loop-p-test.false)) in
    sym (ap (λ (p : Place). p.statements) (block_place c.args.low c.args.own c.args.inner.now c.args.names.now.items c.deref-p-items.result.now c.deref-p-items.ensures.value declared ∙ (sym c.loop-p.invariant ∙ here)))

pub find_body_in_block-returns-clause-closing : goal.find_body_in_block-returns-clause-closing
find_body_in_block-returns-clause-closing t c =
    let b = out-Block c.args.inner.now in
    let declared = c.in_ok-append_variable_names.ensures
    ∙ ap (λ z. z ++ variable_names (section_variables (variable_section_of b.variables))) (c.in_ok-append_type_names.ensures ∙ ap (λ z. z ++ declared_type_names (section_types (type_section_of b.types))) c.in_ok-append_constant_names.ensures) in
    let here = past_all c.args.low c.args.own (body_of b.body) c.deref-p-items.result.now c.loop-p.p-index c.loop-p.names.items (omega (arith, c.loop-p-test.false)) in
    sym (ap (λ (p : Place). p.closing) (block_place c.args.low c.args.own c.args.inner.now c.args.names.now.items c.deref-p-items.result.now c.deref-p-items.ensures.value declared ∙ (sym c.loop-p.invariant ∙ here)))

pub find_body_in_block-returns-clause-names : goal.find_body_in_block-returns-clause-names
find_body_in_block-returns-clause-names t c =
    let b = out-Block c.args.inner.now in
    let declared = c.in_ok-append_variable_names.ensures
    ∙ ap (λ z. z ++ variable_names (section_variables (variable_section_of b.variables))) (c.in_ok-append_type_names.ensures ∙ ap (λ z. z ++ declared_type_names (section_types (type_section_of b.types))) c.in_ok-append_constant_names.ensures) in
    let here = past_all c.args.low c.args.own (body_of b.body) c.deref-p-items.result.now c.loop-p.p-index c.loop-p.names.items (omega (arith, c.loop-p-test.false)) in
    sym (ap (λ (p : Place). p.names) (block_place c.args.low c.args.own c.args.inner.now c.args.names.now.items c.deref-p-items.result.now c.deref-p-items.ensures.value declared ∙ (sym c.loop-p.invariant ∙ here)))

-- ---- a procedure's parameters

pub find_body_in_procedure-returns-clause-names : goal.find_body_in_procedure-returns-clause-names
find_body_in_procedure-returns-clause-names t c =
    let q = out-Procedure c.args.p.now in
    let old = c.args.names.now.items in
    let formal = formal_parameter_names (formal_parameter_sections (formals_of q.formals)) in
    let inner = names_visible_at_path_in_block (path_to_body_in_block c.args.low (block_of q.block)) (block_of q.block) in
    MatchResult-weaker c.find_body_in_block.result c.find_body_in_block.ensures.names
    (λ found e.
    e ∙ (ap (λ z. z ++ inner) c.in_ok-append_formal_parameter_names.ensures
    ∙ (append_assoc old formal inner
    ∙ ap (λ t. old ++ names_visible_at_path_in_procedure (path_to_body_in_procedure c.args.low t) t) (sym (procedure_parts c.args.p.now))))) (λ y h. h)
