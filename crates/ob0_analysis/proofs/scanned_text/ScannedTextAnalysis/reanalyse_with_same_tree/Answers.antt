use Rattle.std.proofs.Common.{sym, ap, ◌∙◌, subst}
use Rattle.std.specs.Prelude.{IfSome}
use Rattle.ob0_scope.specs.BindingsBeforeBodyChange.{AreBindingsBeforeBodyChange}
use Rattle.ob0_scope_table.specs.Bindings.{resolution_with_bindings}
use Rattle.ob0_types.specs.OneBody.{IsCheckResultBeforeBodyChange}
use Rattle.ob0_analysis.proofs.OneBody.{was_bound, were_types}
use Rattle.ob0_analysis.proofs.scanned_text.ScannedTextAnalysis.reanalyse_with_same_tree.Goals as goal

pub rebind_names-requires-clause-before : goal.rebind_names-requires-clause-before
rebind_names-requires-clause-before c =
    subst (λ m. IfSome c.body_bounds_in_tree-body.result (λ _. AreBindingsBeforeBodyChange m c.args.bindings c.args.same.prefix c.args.same.old_suffix)) (sym c.from_parts.ensures)
    (was_bound c.requires.before c.requires.parsed c.body_bounds_in_tree-body.result c.body_bounds_in_tree-body.ensures)

pub recheck_types-requires : goal.recheck_types-requires
recheck_types-requires c =
    subst (λ r. IfSome c.body_bounds_in_tree-body.result (λ place. IsCheckResultBeforeBodyChange r c.args.types place.closing)) (sym (c.from_parts-4.ensures ∙ ap (λ m. resolution_with_bindings m c.in_ok-names.names) c.from_parts-2.ensures))
    (were_types c.requires.before c.in_ok-names.names c.body_bounds_in_tree-body.result c.body_bounds_in_tree-body.ensures)
