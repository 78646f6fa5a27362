use Rattle.std.proofs.Common.{sym, subst}
use Rattle.ob0_language_values.specs.declared.scalar.Scalar.{Scalar}
use Rattle.ob0_edits_tokens.specs.Replacements.{MayReplaceIdentifier}
use Rattle.ob0_edits_tokens.proofs.Values.{a_truth}
use Rattle.ob0_inline.specs.Values.{value_text, value_words}
use Rattle.ob0_inline.proofs.value_texts.value_text.Goals as goal

pub returns-in-Truth-true-clause-can_replace : goal.returns-in-Truth-true-clause-can_replace
returns-in-Truth-true-clause-can_replace c = subst (λ (v : Scalar). MayReplaceIdentifier (value_text v) (value_words v)) (sym c.in-Truth-true.is) (a_truth c.in-Truth-true.field-0)

pub returns-in-Truth-false-clause-can_replace : goal.returns-in-Truth-false-clause-can_replace
returns-in-Truth-false-clause-can_replace c = subst (λ (v : Scalar). MayReplaceIdentifier (value_text v) (value_words v)) (sym c.in-Truth-false.is) (a_truth c.in-Truth-false.field-0)
