use Rattle.std.proofs.Common.{◌≡◌, ◌&&◌, true, false, not, length, IfOk, sym, ap, ◌∙◌, subst}
use Rattle.std.specs.List.{list_any, range_with_len}
use Rattle.ob0_tree.specs.ParsedModule.{named_tree_of}
use Rattle.ob0_language_names.specs.Occurrences.{labels_of_occurrences, ordinal_bound_at_occurrence}
use Rattle.ob0_language_names.specs.Scopes.{same_ordinal}
use Rattle.ob0_language_values.specs.declared.scalar.Scalar.{Scalar}
use Rattle.ob0_language_values.specs.declared.scalar.Scalar.TheVariants as scalar
use Rattle.ob0_inline.specs.Uses.{value_text_keeps_meaning}
use Rattle.ob0_inline.proofs.AtConstants.{numbers_shown}
use Rattle.ob0_inline.proofs.shadowed_truth_names.has_shadowed_use.Goals as goal

pub returns-in-Number : goal.returns-in-Number
returns-in-Number c = sym (numbers_shown (named_tree_of c.args.names.now.module_read) c.args.constant _ c.in-Number.is)

pub returns-in-Truth-true : goal.returns-in-Truth-true
returns-in-Truth-true c =
    let m = named_tree_of c.args.names.now.module_read in
    let value : c.args.constant.value ≡ scalar.Truth true = c.in-Truth-true.is ∙ ap scalar.Truth c.in-Truth-true.field-0-test in
    subst (λ (v : Scalar). IfOk c.is_name_shadowed_at_some_use.result (λ hidden. hidden ≡ list_any (λ k. same_ordinal (ordinal_bound_at_occurrence m k) c.args.constant.ordinal && not (value_text_keeps_meaning m k v)) (range_with_len 0 (length (labels_of_occurrences m))))) (sym value)
    c.is_name_shadowed_at_some_use.ensures

pub returns-in-Truth-false : goal.returns-in-Truth-false
returns-in-Truth-false c =
    let m = named_tree_of c.args.names.now.module_read in
    let value : c.args.constant.value ≡ scalar.Truth false = c.in-Truth-false.is ∙ ap scalar.Truth c.in-Truth-false.field-0-test in
    subst (λ (v : Scalar). IfOk c.is_name_shadowed_at_some_use-in-Truth-false.result (λ hidden. hidden ≡ list_any (λ k. same_ordinal (ordinal_bound_at_occurrence m k) c.args.constant.ordinal && not (value_text_keeps_meaning m k v)) (range_with_len 0 (length (labels_of_occurrences m))))) (sym value)
    c.is_name_shadowed_at_some_use-in-Truth-false.ensures
