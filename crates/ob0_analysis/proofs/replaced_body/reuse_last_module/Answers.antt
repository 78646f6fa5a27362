use Rattle.std.proofs.Common.{sym, ap, ◌∙◌, subst}
use Rattle.ob0_scope.specs.BindingsBeforeBodyReplacement.{AreBindingsBeforeBodyReplacement}
use Rattle.ob0_scope_table.specs.Bindings.{resolution_with_bindings}
use Rattle.ob0_types.specs.NewBody.{IsCheckResultBeforeBodyReplacement}
use Rattle.ob0_analysis.proofs.NewBody.{was_bound_elsewhere, were_types_elsewhere}
use Rattle.ob0_analysis.proofs.replaced_body.reuse_last_module.Goals as goal

pub rebind_replaced_body-requires : goal.rebind_replaced_body-requires
rebind_replaced_body-requires c =
    subst (λ m. AreBindingsBeforeBodyReplacement m c.args.last.bindings c.args.last.same) (sym c.from_parts.ensures)
    (was_bound_elsewhere c.args.tokens c.args.tree c.args.last c.in-Some.body c.requires.before c.in-Some.ensures c.requires.parsed)

pub check_result_after_body_replacement-requires : goal.check_result_after_body_replacement-requires
check_result_after_body_replacement-requires c =
    subst (λ r. IsCheckResultBeforeBodyReplacement r c.args.last.types c.args.last.same c.in-Some.body.closing) (sym (c.from_parts-4.ensures ∙ ap (λ m. resolution_with_bindings m c.in_ok-names.names) c.from_parts-2.ensures))
    (were_types_elsewhere c.args.tokens c.args.tree c.args.last c.in-Some.body c.requires.before c.in-Some.ensures c.requires.parsed c.in_ok-names.names)
