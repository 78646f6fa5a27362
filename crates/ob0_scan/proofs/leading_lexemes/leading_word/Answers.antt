use Rattle.std.proofs.Common.{◌∙◌, sym, ap, ap₂, subst, take}
use Rattle.std.specs.List.{prefix_len}
use Rattle.std.specs.Char.{is_ascii_alphanumeric}
use Rattle.ob0_scan.specs.declared.lexeme.LexemeKind.TheVariants as lexeme
use Rattle.ob0_scan.specs.LexemeClasses.{IsIdentifierOrReservedWord, IsLexemeOfKind}
use Rattle.ob0_scan.specs.LeadingLexemes.{StartsWithLexeme}
use Rattle.ob0_scan.proofs.Runs.{word_at_front, word_first, letter_longer}
use Rattle.ob0_scan.proofs.leading_lexemes.leading_word.Goals as goal

pub word_kind-requires : goal.word_kind-requires
word_kind-requires c =
    let text = c.args.text.now in
    let same = c.as_bytes-bytes.ensures.value in
    let len = c.leading_alphanumeric_len-len.ensures ∙ ap (prefix_len is_ascii_alphanumeric) same in
    subst IsIdentifierOrReservedWord (sym (ap₂ take len same)) (word_at_front text c.requires (letter_longer text c.requires))

pub returns : goal.returns
returns c =
    let text = c.args.text.now in
    let kind = lexeme.Token c.word_kind.result in
    let same = c.as_bytes-bytes.ensures.value in
    let len = c.leading_alphanumeric_len-len.ensures ∙ ap (prefix_len is_ascii_alphanumeric) same in
    subst (StartsWithLexeme text kind) (sym len) (word_first text kind c.requires (subst (IsLexemeOfKind kind) (ap₂ take len same) c.word_kind.ensures))
