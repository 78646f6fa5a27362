use Rattle.std.proofs.Common.{refl}
use Rattle.std.proofs.lemmas.Result.{err_from_is_err_and}
use Rattle.ob0_tree.specs.View.{formals_of_list}
use Rattle.ob0_parse_descent.proofs.Refusals.{fails_in_both, fails_maybe}
use Rattle.ob0_parse_descent.proofs.Expressions.{taken_item, taken_no_item}
use Rattle.ob0_parse_descent.proofs.Lists.{listed_pass}
use Rattle.ob0_parse_descent.proofs.Leads.{no_item, fails_in_token}
use Rattle.ob0_parse_descent.proofs.DeclarationParts.{formals_fail_none, formals_fail, taken_no_formals, taken_formals}
use Rattle.ob0_tree.specs.Tree.{formals, no_formals}
use Rattle.ob0_parse_descent.proofs.parser.Parser.parse_formals.Goals as goal

pub returns-then-not-has_symbol_at : goal.returns-then-not-has_symbol_at
returns-then-not-has_symbol_at c =
    taken_no_item formals _ _ _ c.requires (no_item 6 refl c.if-not-has_symbol_at.ensures)

pub returns-in_err-end : goal.returns-in_err-end
returns-in_err-end c =
    let p = err_from_is_err_and c.from_residual.result c.from_residual.ensures.1 in
    rw (p.1, p.2) (fails_maybe (formals_fail_none c.if-not-parameter_section_starts_at.ensures.0 c.if-not-parameter_section_starts_at.ensures.1 c.if-not-has_symbol_at.ensures.0 (fails_in_token c.in_err-end.ensures)))

pub returns-then-not-parameter_section_starts_at : goal.returns-then-not-parameter_section_starts_at
returns-then-not-parameter_section_starts_at c =
    rw c.new.ensures.items (taken_item no_formals (taken_no_formals c.if-not-has_symbol_at.ensures.0 c.in_ok-end.ensures))

pub returns-in_err-sections : goal.returns-in_err-sections
returns-in_err-sections c =
    let p = err_from_is_err_and c.from_residual-in_err-sections.result c.from_residual-in_err-sections.ensures.1 in
    rw (p.1, p.2) (fails_maybe (formals_fail c.if-not-parameter_section_starts_at.ensures c.if-not-has_symbol_at.ensures.0 (fails_in_both c.in_err-sections.ensures)))

pub returns-in_err-end-2 : goal.returns-in_err-end-2
returns-in_err-end-2 c =
    let p = err_from_is_err_and c.from_residual-in_err-end-2.result c.from_residual-in_err-end-2.ensures.1 in
    rw (p.1, p.2) (fails_maybe (formals_fail c.if-not-parameter_section_starts_at.ensures c.if-not-has_symbol_at.ensures.0 (listed_pass c.in_ok-sections.ensures (fails_in_token c.in_err-end-2.ensures))))

pub returns : goal.returns
returns c =
    taken_item (formals_of_list c.in_ok-sections.sections.items) (taken_formals c.in_ok-sections.sections.items c.if-not-has_symbol_at.ensures.0 c.in_ok-sections.ensures c.in_ok-end-2.ensures)
