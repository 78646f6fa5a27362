use Rattle.std.proofs.Common.{◌≡◌, length, sym, ap, ◌∙◌, arith}
use Rattle.std.specs.Prelude.{bytes_eq}
use Rattle.std.proofs.lemmas.Bool.Decides.{nat_tests}
use Rattle.ob0_layout.specs.Layout.{indentation}
use Rattle.ob0_layout.proofs.Written.{spaces, tabs}
use Rattle.ob0_layout.proofs.gap.is_indent.Goals as goal

pub returns-in-Tab : goal.returns-in-Tab
returns-in-Tab c =
    let bytes = c.args.bytes.now in
    let level = c.args.level in
    let test = c.if-bytes-indent_len.false in
    let long : length bytes ≡ c.indent_len.result = grind (arith, nat_tests) in
    c.all_equal_to.ensures
    ∙ tabs bytes level (long ∙ c.indent_len.ensures.value ∙ ap (λ x. length (indentation x level)) c.in-Tab.is)
    ∙ ap (λ x. bytes_eq bytes (indentation x level)) (sym c.in-Tab.is)

pub returns-in-Spaces : goal.returns-in-Spaces
returns-in-Spaces c =
    let bytes = c.args.bytes.now in
    let level = c.args.level in
    let test = c.if-bytes-indent_len.false in
    let long : length bytes ≡ c.indent_len.result = grind (arith, nat_tests) in
    c.all_equal_to-in-Spaces.ensures
    ∙ spaces bytes c.in-Spaces.field-0 level (long ∙ c.indent_len.ensures.value ∙ ap (λ x. length (indentation x level)) c.in-Spaces.is)
    ∙ ap (λ x. bytes_eq bytes (indentation x level)) (sym c.in-Spaces.is)
