use Rattle.std.proofs.Common.{◌≡◌, true, false, IfOk, sym, ap, ◌∙◌, subst}
use Rattle.ob0_tree.specs.ParsedModule.{named_tree_of}
use Rattle.ob0_language_values.specs.declared.scalar.Scalar.{Scalar}
use Rattle.ob0_language_values.specs.declared.scalar.Scalar.TheVariants as scalar
use Rattle.ob0_inline.specs.Uses.{value_text_keeps_meaning}
use Rattle.ob0_inline.proofs.shadowed_truth_names.value_text_keeps_meaning.Goals as goal

pub returns-in-Truth-true : goal.returns-in-Truth-true
returns-in-Truth-true c =
    let value : c.args.value ≡ scalar.Truth true = c.in-Truth-true.is ∙ ap scalar.Truth c.in-Truth-true.field-0-test in
    subst (λ (v : Scalar). IfOk c.name_would_be_bound_to_ordinal.result (λ shown. shown ≡ value_text_keeps_meaning (named_tree_of c.args.names.now.module_read) c.args.occurrence v)) (sym value) c.name_would_be_bound_to_ordinal.ensures

pub returns-in-Truth-false : goal.returns-in-Truth-false
returns-in-Truth-false c =
    let value : c.args.value ≡ scalar.Truth false = c.in-Truth-false.is ∙ ap scalar.Truth c.in-Truth-false.field-0-test in
    subst (λ (v : Scalar). IfOk c.name_would_be_bound_to_ordinal-in-Truth-false.result (λ shown. shown ≡ value_text_keeps_meaning (named_tree_of c.args.names.now.module_read) c.args.occurrence v)) (sym value) c.name_would_be_bound_to_ordinal-in-Truth-false.ensures
