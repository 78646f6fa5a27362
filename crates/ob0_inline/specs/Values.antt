-- Defines the written form of a value: its text, the words (tokens with their spellings) of that
-- text, and the factor that the words spell.
-- Rule: docs/PROTOCOL.md, Requests on documents 9.
use Rattle.std.specs.Prelude.{ℕ, List}
use Rattle.ob0_scan.specs.TextWithTokens.{Word}
use Rattle.ob0_tree.specs.Tree.{Tree, designator, end, factor}
use Rattle.ob0_language_values.specs.declared.scalar.Scalar.{Scalar}
use Rattle.ob0_language_values.specs.declared.scalar.Scalar.TheVariants as scalar
use Rattle.ob0_edits_tokens.specs.Written.{number_text, number_words, truth_text, truth_words}
use Rattle.ob0_language_types.specs.ValueLiterals.{number_literal}

-- Returns the text, in bytes, that an inlining writes for the value.
abbrev pub value_text : Scalar → List ℕ
value_text (scalar.Number n) = number_text n
value_text (scalar.Truth b) = truth_text b

-- Returns the words of a value's text: its tokens with their spellings.
abbrev pub value_words : Scalar → List Word
value_words (scalar.Number n) = number_words n
value_words (scalar.Truth b) = truth_words b

-- Returns the factor that the words of a value's text spell.
abbrev pub value_factor : Scalar → Tree (List ℕ) factor
value_factor (scalar.Number n) = number_literal n
value_factor (scalar.Truth b) = designator (truth_text b) end
