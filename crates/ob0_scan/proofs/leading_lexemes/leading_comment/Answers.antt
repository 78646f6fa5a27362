use Rattle.std.proofs.Common.{◌∙◌, ◌≤◌, sym, subst, take, length}
use Rattle.ob0_scan.specs.Comments.{IsComment}
use Rattle.ob0_scan.proofs.Symbols.{comment_first, open_comment}
use Rattle.ob0_scan.proofs.leading_lexemes.leading_comment.Goals as goal

pub returns-in-Some : goal.returns-in-Some
returns-in-Some c =
    let text = c.args.text.now in
    let len = c.in-Some.len in
    let same = c.as_bytes.ensures.value in
    comment_first text len c.requires (subst (λ t. len ≤ length t) same c.in-Some.ensures.in_range) (subst (λ t. IsComment (take len t)) same c.in-Some.ensures.closed)

pub returns-in-None : goal.returns-in-None
returns-in-None c =
    let text = c.args.text.now in
    open_comment text c.utf8.text c.requires (λ prefix following h e. c.in-None.ensures.unclosed prefix following h (e ∙ sym c.as_bytes.ensures.value))
