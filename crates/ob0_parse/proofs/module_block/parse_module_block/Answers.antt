use Rattle.std.proofs.lemmas.Result.{err_from_is_err_and}
use Rattle.ob0_tree.specs.View.{items_of, constant_section_of, type_section_of, variable_section_of, procedure_of, body_of}
use Rattle.ob0_parse_descent.proofs.Refusals.{fails_in, fails_pass}
use Rattle.ob0_parse_descent.proofs.DeclarationParts.{taken_block, block_fails}
use Rattle.ob0_parse.proofs.module_block.parse_module_block.Goals as goal

pub returns-in_err-constants-clause-read : goal.returns-in_err-constants-clause-read
returns-in_err-constants-clause-read c =
    let p = err_from_is_err_and c.from_residual.result c.from_residual.ensures.1 in
    rw (p.1, p.2) (block_fails (fails_in c.in_err-constants.ensures))

pub returns-in_err-types-clause-read : goal.returns-in_err-types-clause-read
returns-in_err-types-clause-read c =
    let p = err_from_is_err_and c.from_residual-in_err-types.result c.from_residual-in_err-types.ensures.1 in
    rw (p.1, p.2) (block_fails (fails_pass (constant_section_of c.in_ok-constants.constants) c.in_ok-constants.ensures (fails_in c.in_err-types.ensures)))

pub returns-in_err-variables-clause-read : goal.returns-in_err-variables-clause-read
returns-in_err-variables-clause-read c =
    let p = err_from_is_err_and c.from_residual-in_err-variables.result c.from_residual-in_err-variables.ensures.1 in
    rw (p.1, p.2) (block_fails (fails_pass (constant_section_of c.in_ok-constants.constants) c.in_ok-constants.ensures (fails_pass (type_section_of c.in_ok-types.types) c.in_ok-types.ensures (fails_in c.in_err-variables.ensures))))

pub returns-in_err-next-clause-read : goal.returns-in_err-next-clause-read
returns-in_err-next-clause-read c =
    let p = err_from_is_err_and c.from_residual-in_err-next.result c.from_residual-in_err-next.ensures.1 in
    rw (p.1, p.2) (block_fails (fails_pass (constant_section_of c.in_ok-constants.constants) c.in_ok-constants.ensures (fails_pass (type_section_of c.in_ok-types.types) c.in_ok-types.ensures (fails_pass (variable_section_of c.in_ok-variables.variables) c.in_ok-variables.ensures (fails_in c.in_err-next.ensures.read)))))

pub returns-in_err-body-clause-read : goal.returns-in_err-body-clause-read
returns-in_err-body-clause-read c =
    let p = err_from_is_err_and c.from_residual-in_err-body.result c.from_residual-in_err-body.ensures.1 in
    rw (p.1, p.2) (block_fails (fails_pass (constant_section_of c.in_ok-constants.constants) c.in_ok-constants.ensures (fails_pass (type_section_of c.in_ok-types.types) c.in_ok-types.ensures (fails_pass (variable_section_of c.in_ok-variables.variables) c.in_ok-variables.ensures (fails_pass (items_of procedure_of c.parse_module_procedures.new.procedures.items) c.in_ok-next.ensures.read c.in_err-body.ensures.read)))))

pub returns-clause-read : goal.returns-clause-read
returns-clause-read c =
    taken_block (constant_section_of c.in_ok-constants.constants) (type_section_of c.in_ok-types.types) (variable_section_of c.in_ok-variables.variables) (items_of procedure_of c.parse_module_procedures.new.procedures.items) (body_of c.in_ok-body.body) c.in_ok-constants.ensures c.in_ok-types.ensures c.in_ok-variables.ensures c.in_ok-next.ensures.read c.in_ok-body.ensures.read
