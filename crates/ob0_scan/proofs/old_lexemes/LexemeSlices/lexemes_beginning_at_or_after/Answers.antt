use Rattle.std.proofs.Common.{◌∙◌, ◌-◌, ap, arith, length, drop, length-drop}
use Rattle.std.proofs.lemmas.List.{take_all}
use Rattle.ob0_scan.proofs.old_lexemes.LexemeSlices.lexemes_beginning_at_or_after.Goals as goal

pub returns-clause-tokens : goal.returns-clause-tokens
returns-clause-tokens c =
    let xs = c.args.self.tokens.now in
    let n = c.count_tokens_beginning_before-tokens.result in
    take_all (length xs - n) (drop n xs) (omega (arith, length-drop n xs)) ∙ ap (λ k. drop k xs) c.count_tokens_beginning_before-tokens.ensures.count

pub returns-clause-comments : goal.returns-clause-comments
returns-clause-comments c =
    let xs = c.args.self.comments.now in
    let n = c.count_comments_beginning_before-comments.result in
    take_all (length xs - n) (drop n xs) (omega (arith, length-drop n xs)) ∙ ap (λ k. drop k xs) c.count_comments_beginning_before-comments.ensures.count
