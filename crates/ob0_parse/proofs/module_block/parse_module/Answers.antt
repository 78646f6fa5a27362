use Rattle.std.proofs.Common.{sym, arith}
use Rattle.std.proofs.lemmas.Result.{err_from_is_err_and}
use Rattle.ob0_parse.specs.ModuleBlock.{block_with_procedures}
use Rattle.ob0_parse_descent.proofs.Leads.{fails_in_token, fails_in_name}
use Rattle.ob0_parse_descent.proofs.Refusals.{fails_in, fails_pass, fails_pass_token, fails_pass_name}
use Rattle.ob0_parse_descent.proofs.DeclarationParts.{taken_module, module_fails, ends_not}
use Rattle.ob0_parse.proofs.module_block.parse_module.Goals as goal

pub returns-in_err-start-clause-read : goal.returns-in_err-start-clause-read
returns-in_err-start-clause-read c =
    let p = err_from_is_err_and c.from_residual.result c.from_residual.ensures.1 in
    rw (p.1, p.2) (module_fails (fails_in_token c.in_err-start.ensures))

pub returns-in_err-name-clause-read : goal.returns-in_err-name-clause-read
returns-in_err-name-clause-read c =
    let p = err_from_is_err_and c.from_residual-in_err-name.result c.from_residual-in_err-name.ensures.1 in
    rw (p.1, p.2) (module_fails (fails_pass_token c.in_ok-start.ensures.0 c.in_ok-start.ensures.2 (fails_in_name c.in_err-name.ensures)))

pub returns-in_err-inside-clause-read : goal.returns-in_err-inside-clause-read
returns-in_err-inside-clause-read c =
    let p = err_from_is_err_and c.from_residual-in_err-inside.result c.from_residual-in_err-inside.ensures.1 in
    rw (p.1, p.2) (module_fails (fails_pass_token c.in_ok-start.ensures.0 c.in_ok-start.ensures.2 (fails_pass_name c.in_ok-name.ensures.0 c.in_ok-name.ensures.3 (fails_in_token c.in_err-inside.ensures))))

pub returns-in_err-parts-clause-read : goal.returns-in_err-parts-clause-read
returns-in_err-parts-clause-read c =
    let p = err_from_is_err_and c.from_residual-in_err-parts.result c.from_residual-in_err-parts.ensures.1 in
    rw (p.1, p.2) (module_fails (fails_pass_token c.in_ok-start.ensures.0 c.in_ok-start.ensures.2 (fails_pass_name c.in_ok-name.ensures.0 c.in_ok-name.ensures.3 (fails_pass_token c.in_ok-inside.ensures.0 c.in_ok-inside.ensures.2 (fails_in c.in_err-parts.ensures.read)))))

pub returns-in_err-last-clause-read : goal.returns-in_err-last-clause-read
returns-in_err-last-clause-read c =
    let p = err_from_is_err_and c.from_residual-in_err-last.result c.from_residual-in_err-last.ensures.1 in
    rw (p.1, p.2) (module_fails (fails_pass_token c.in_ok-start.ensures.0 c.in_ok-start.ensures.2 (fails_pass_name c.in_ok-name.ensures.0 c.in_ok-name.ensures.3 (fails_pass_token c.in_ok-inside.ensures.0 c.in_ok-inside.ensures.2 (fails_pass (block_with_procedures c.parse_module_block.new.procedures.items c.in_ok-parts.parts) c.in_ok-parts.ensures.read (fails_in_token c.in_err-last.ensures))))))

pub returns-in_err-closing-clause-read : goal.returns-in_err-closing-clause-read
returns-in_err-closing-clause-read c =
    let p = err_from_is_err_and c.from_residual-in_err-closing.result c.from_residual-in_err-closing.ensures.1 in
    rw (p.1, p.2) (module_fails (fails_pass_token c.in_ok-start.ensures.0 c.in_ok-start.ensures.2 (fails_pass_name c.in_ok-name.ensures.0 c.in_ok-name.ensures.3 (fails_pass_token c.in_ok-inside.ensures.0 c.in_ok-inside.ensures.2 (fails_pass (block_with_procedures c.parse_module_block.new.procedures.items c.in_ok-parts.parts) c.in_ok-parts.ensures.read (fails_pass_token c.in_ok-last.ensures.0 c.in_ok-last.ensures.2 (fails_in_name c.in_err-closing.ensures)))))))

pub returns-in_err-end-clause-read : goal.returns-in_err-end-clause-read
returns-in_err-end-clause-read c =
    let p = err_from_is_err_and c.from_residual-in_err-end.result c.from_residual-in_err-end.ensures.1 in
    rw (p.1, p.2) (module_fails (fails_pass_token c.in_ok-start.ensures.0 c.in_ok-start.ensures.2 (fails_pass_name c.in_ok-name.ensures.0 c.in_ok-name.ensures.3 (fails_pass_token c.in_ok-inside.ensures.0 c.in_ok-inside.ensures.2 (fails_pass (block_with_procedures c.parse_module_block.new.procedures.items c.in_ok-parts.parts) c.in_ok-parts.ensures.read (fails_pass_token c.in_ok-last.ensures.0 c.in_ok-last.ensures.2 (fails_pass_name c.in_ok-closing.ensures.0 c.in_ok-closing.ensures.3 (fails_in_token c.in_err-end.ensures))))))))

pub returns-in-Some-clause-read : goal.returns-in-Some-clause-read
returns-in-Some-clause-read c =
    rw c.syntax_error.ensures (module_fails (fails_pass_token c.in_ok-start.ensures.0 c.in_ok-start.ensures.2 (fails_pass_name c.in_ok-name.ensures.0 c.in_ok-name.ensures.3 (fails_pass_token c.in_ok-inside.ensures.0 c.in_ok-inside.ensures.2 (fails_pass (block_with_procedures c.parse_module_block.new.procedures.items c.in_ok-parts.parts) c.in_ok-parts.ensures.read (fails_pass_token c.in_ok-last.ensures.0 c.in_ok-last.ensures.2 (fails_pass_name c.in_ok-closing.ensures.0 c.in_ok-closing.ensures.3 (fails_pass_token c.in_ok-end.ensures.0 c.in_ok-end.ensures.2 (ends_not _ (omega (arith, c.in_ok-end.ensures.1, c.in_ok-end.ensures.2)) (rw c.in-Some.is at c.kind.ensures.here))))))))))

pub returns-in-None-clause-read : goal.returns-in-None-clause-read
returns-in-None-clause-read c =
    let at_end = rw c.in-None.is at c.kind.ensures.end in
    rw (sym at_end) (taken_module _ _ _ _ (block_with_procedures c.parse_module_block.new.procedures.items c.in_ok-parts.parts) c.in_ok-name.name c.in_ok-closing.closing c.in_ok-start.ensures (rw c.in_ok-name.ensures.2 (c.in_ok-name.ensures.0), c.in_ok-name.ensures.3) c.in_ok-inside.ensures c.in_ok-parts.ensures.read c.in_ok-last.ensures (rw c.in_ok-closing.ensures.2 (c.in_ok-closing.ensures.0), c.in_ok-closing.ensures.3) c.in_ok-end.ensures)
