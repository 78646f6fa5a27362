use Rattle.std.proofs.Common.{arith}
use Rattle.std.proofs.lemmas.Result.{err_from_is_err_and}
use Rattle.ob0_tree.specs.View.{items_of, constant_section_of, type_section_of, variable_section_of, procedures_of_vec, procedure_of, block_of, body_of, formals_of}
use Rattle.ob0_parse_descent.proofs.Leads.{fails_in_token, fails_in_name}
use Rattle.ob0_parse_descent.proofs.Refusals.{fails_in, fails_pass, fails_pass_token, fails_pass_name}
use Rattle.ob0_parse_descent.proofs.Items.{taking_none, taking_more, taking_done, taking_fails}
use Rattle.ob0_parse_descent.proofs.DeclarationParts.{taken_block, block_fails, taken_procedure, procedure_fails, procedure_too_deep}
use Rattle.ob0_tree.specs.Tree.{procedure}
use Rattle.ob0_tree.proofs.Viewed.{block_made, procedure_made}
use Rattle.ob0_parse_descent.proofs.parser.Parser.+blocks.Goals as goal

pub parse_block-returns-in_err-constants : goal.parse_block-returns-in_err-constants
parse_block-returns-in_err-constants t c =
    let p = err_from_is_err_and c.from_residual.result c.from_residual.ensures.1 in
    rw (p.1, p.2) (block_fails (fails_in c.in_err-constants.ensures))

pub parse_block-returns-in_err-types : goal.parse_block-returns-in_err-types
parse_block-returns-in_err-types t c =
    let p = err_from_is_err_and c.from_residual-in_err-types.result c.from_residual-in_err-types.ensures.1 in
    rw (p.1, p.2) (block_fails (fails_pass (constant_section_of c.in_ok-constants.constants) c.in_ok-constants.ensures (fails_in c.in_err-types.ensures)))

pub parse_block-returns-in_err-variables : goal.parse_block-returns-in_err-variables
parse_block-returns-in_err-variables t c =
    let p = err_from_is_err_and c.from_residual-in_err-variables.result c.from_residual-in_err-variables.ensures.1 in
    rw (p.1, p.2) (block_fails (fails_pass (constant_section_of c.in_ok-constants.constants) c.in_ok-constants.ensures (fails_pass (type_section_of c.in_ok-types.types) c.in_ok-types.ensures (fails_in c.in_err-variables.ensures))))

pub parse_block-returns-in_err-procedures : goal.parse_block-returns-in_err-procedures
parse_block-returns-in_err-procedures t c =
    let p = err_from_is_err_and c.from_residual-in_err-procedures.result c.from_residual-in_err-procedures.ensures.1 in
    rw (p.1, p.2) (block_fails (fails_pass (constant_section_of c.in_ok-constants.constants) c.in_ok-constants.ensures (fails_pass (type_section_of c.in_ok-types.types) c.in_ok-types.ensures (fails_pass (variable_section_of c.in_ok-variables.variables) c.in_ok-variables.ensures (fails_in c.in_err-procedures.ensures)))))

pub parse_block-returns-in_err-body : goal.parse_block-returns-in_err-body
parse_block-returns-in_err-body t c =
    let p = err_from_is_err_and c.from_residual-in_err-body.result c.from_residual-in_err-body.ensures.1 in
    rw (p.1, p.2) (block_fails (fails_pass (constant_section_of c.in_ok-constants.constants) c.in_ok-constants.ensures (fails_pass (type_section_of c.in_ok-types.types) c.in_ok-types.ensures (fails_pass (variable_section_of c.in_ok-variables.variables) c.in_ok-variables.ensures (fails_pass (procedures_of_vec c.in_ok-procedures.procedures) c.in_ok-procedures.ensures c.in_err-body.ensures)))))

pub parse_block-returns : goal.parse_block-returns
parse_block-returns t c =
    rw (block_made _) (taken_block (constant_section_of c.in_ok-constants.constants) (type_section_of c.in_ok-types.types) (variable_section_of c.in_ok-variables.variables) (procedures_of_vec c.in_ok-procedures.procedures) (body_of c.in_ok-body.body) c.in_ok-constants.ensures c.in_ok-types.ensures c.in_ok-variables.ensures c.in_ok-procedures.ensures c.in_ok-body.ensures)

pub parse_procedures-loop-procedures-init : goal.parse_procedures-loop-procedures-init
parse_procedures-loop-procedures-init t c =
    rw c.new-procedures.ensures.items (taking_none procedure _ _ _ c.requires)

pub parse_procedures-returns-in_err-procedure : goal.parse_procedures-returns-in_err-procedure
parse_procedures-returns-in_err-procedure t c =
    let p = err_from_is_err_and c.from_residual.result c.from_residual.ensures.1 in
    rw (p.1, p.2) (taking_fails (items_of procedure_of c.loop-procedures.procedures.items) c.loop-procedures.invariant c.in_err-procedure.ensures)

pub parse_procedures-loop-procedures-preserved : goal.parse_procedures-loop-procedures-preserved
parse_procedures-loop-procedures-preserved t c =
    let item = rw c.in-Some.is at c.in_ok-procedure.ensures in
    rw c.in_ok-push_with_doubling.ensures.added (taking_more procedure_of c.loop-procedures.procedures.items _ _ _ _ _ _ c.loop-procedures.invariant item.0)

pub parse_procedures-returns : goal.parse_procedures-returns
parse_procedures-returns t c =
    let absent = rw c.in_default.is at c.in_ok-procedure.ensures in
    taking_done (items_of procedure_of c.loop-procedures.procedures.items) c.loop-procedures.invariant absent

pub parse_procedure-returns-in_err-inner : goal.parse_procedure-returns-in_err-inner
parse_procedure-returns-in_err-inner t c =
    let p = err_from_is_err_and c.from_residual.result c.from_residual.ensures.1 in
    rw (p.1, p.2) (procedure_too_deep c.if-not-has_reserved_word_at.ensures.1 c.in_err-inner.ensures c.if-not-has_reserved_word_at.ensures.0)

pub parse_procedure-returns-in_err-name : goal.parse_procedure-returns-in_err-name
parse_procedure-returns-in_err-name t c =
    let p = err_from_is_err_and c.from_residual-in_err-name.result c.from_residual-in_err-name.ensures.1 in
    rw (p.1, p.2) (procedure_fails c.in_ok-inner.ensures c.if-not-has_reserved_word_at.ensures.0 (fails_in_name c.in_err-name.ensures))

pub parse_procedure-returns-in_err-formals : goal.parse_procedure-returns-in_err-formals
parse_procedure-returns-in_err-formals t c =
    let p = err_from_is_err_and c.from_residual-in_err-formals.result c.from_residual-in_err-formals.ensures.1 in
    rw (p.1, p.2) (procedure_fails c.in_ok-inner.ensures c.if-not-has_reserved_word_at.ensures.0 (fails_pass_name c.in_ok-name.ensures.0 c.in_ok-name.ensures.3 (fails_in c.in_err-formals.ensures)))

pub parse_procedure-returns-in_err-start : goal.parse_procedure-returns-in_err-start
parse_procedure-returns-in_err-start t c =
    let p = err_from_is_err_and c.from_residual-in_err-start.result c.from_residual-in_err-start.ensures.1 in
    rw (p.1, p.2) (procedure_fails c.in_ok-inner.ensures c.if-not-has_reserved_word_at.ensures.0 (fails_pass_name c.in_ok-name.ensures.0 c.in_ok-name.ensures.3 (fails_pass (formals_of c.in_ok-formals.formals) c.in_ok-formals.ensures (fails_in_token c.in_err-start.ensures))))

pub parse_procedure-returns-in_err-block : goal.parse_procedure-returns-in_err-block
parse_procedure-returns-in_err-block t c =
    let p = err_from_is_err_and c.from_residual-in_err-block.result c.from_residual-in_err-block.ensures.1 in
    rw (p.1, p.2) (procedure_fails c.in_ok-inner.ensures c.if-not-has_reserved_word_at.ensures.0 (fails_pass_name c.in_ok-name.ensures.0 c.in_ok-name.ensures.3 (fails_pass (formals_of c.in_ok-formals.formals) c.in_ok-formals.ensures (fails_pass_token c.in_ok-start.ensures.0 c.in_ok-start.ensures.2 (fails_in c.in_err-block.ensures)))))

pub parse_procedure-returns-in_err-last : goal.parse_procedure-returns-in_err-last
parse_procedure-returns-in_err-last t c =
    let p = err_from_is_err_and c.from_residual-in_err-last.result c.from_residual-in_err-last.ensures.1 in
    rw (p.1, p.2) (procedure_fails c.in_ok-inner.ensures c.if-not-has_reserved_word_at.ensures.0 (fails_pass_name c.in_ok-name.ensures.0 c.in_ok-name.ensures.3 (fails_pass (formals_of c.in_ok-formals.formals) c.in_ok-formals.ensures (fails_pass_token c.in_ok-start.ensures.0 c.in_ok-start.ensures.2 (fails_pass (block_of c.in_ok-block.block) c.in_ok-block.ensures (fails_in_token c.in_err-last.ensures))))))

pub parse_procedure-returns-in_err-closing : goal.parse_procedure-returns-in_err-closing
parse_procedure-returns-in_err-closing t c =
    let p = err_from_is_err_and c.from_residual-in_err-closing.result c.from_residual-in_err-closing.ensures.1 in
    rw (p.1, p.2) (procedure_fails c.in_ok-inner.ensures c.if-not-has_reserved_word_at.ensures.0 (fails_pass_name c.in_ok-name.ensures.0 c.in_ok-name.ensures.3 (fails_pass (formals_of c.in_ok-formals.formals) c.in_ok-formals.ensures (fails_pass_token c.in_ok-start.ensures.0 c.in_ok-start.ensures.2 (fails_pass (block_of c.in_ok-block.block) c.in_ok-block.ensures (fails_pass_token c.in_ok-last.ensures.0 c.in_ok-last.ensures.2 (fails_in_name c.in_err-closing.ensures)))))))

pub parse_procedure-returns-in_err-end : goal.parse_procedure-returns-in_err-end
parse_procedure-returns-in_err-end t c =
    let p = err_from_is_err_and c.from_residual-in_err-end.result c.from_residual-in_err-end.ensures.1 in
    rw (p.1, p.2) (procedure_fails c.in_ok-inner.ensures c.if-not-has_reserved_word_at.ensures.0 (fails_pass_name c.in_ok-name.ensures.0 c.in_ok-name.ensures.3 (fails_pass (formals_of c.in_ok-formals.formals) c.in_ok-formals.ensures (fails_pass_token c.in_ok-start.ensures.0 c.in_ok-start.ensures.2 (fails_pass (block_of c.in_ok-block.block) c.in_ok-block.ensures (fails_pass_token c.in_ok-last.ensures.0 c.in_ok-last.ensures.2 (fails_pass_name c.in_ok-closing.ensures.0 c.in_ok-closing.ensures.3 (fails_in_token c.in_err-end.ensures))))))))

pub parse_procedure-returns : goal.parse_procedure-returns
parse_procedure-returns t c =
    let taken = taken_procedure (formals_of c.in_ok-formals.formals) (block_of c.in_ok-block.block) c.in_ok-name.name c.in_ok-closing.closing c.in_ok-inner.ensures c.if-not-has_reserved_word_at.ensures.0 (rw c.in_ok-name.ensures.2 (c.in_ok-name.ensures.0), omega (arith, c.in_ok-name.ensures.3)) c.in_ok-formals.ensures c.in_ok-start.ensures c.in_ok-block.ensures c.in_ok-last.ensures (rw c.in_ok-closing.ensures.2 (c.in_ok-closing.ensures.0), omega (arith, c.in_ok-closing.ensures.3)) c.in_ok-end.ensures in
    (rw (procedure_made _) taken, omega (arith, c.in_ok-name.ensures.3, c.in_ok-formals.ensures.forward, c.in_ok-start.ensures.2, c.in_ok-block.ensures.forward, c.in_ok-last.ensures.2, c.in_ok-closing.ensures.3, c.in_ok-end.ensures.2))
