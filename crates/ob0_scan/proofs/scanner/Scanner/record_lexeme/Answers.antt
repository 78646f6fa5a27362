use Rattle.std.proofs.Common.{List, ◌≡◌, ◌∙◌, ◌+◌, ◌++◌, append_assoc, length, refl, sym, ap, subst, arith, is_ok, append-nil}
use Rattle.std.proofs.ResultArms.{chosen}
use Rattle.ob0_scan.specs.declared.lexeme.Span.{Span}
use Rattle.ob0_scan.specs.declared.lexeme.Token.{Token}
use Rattle.ob0_scan.specs.declared.scanner.Scanner.{Scanner}
use Rattle.ob0_scan.specs.TextWithTokens.{span_with_length, tokens_of_one_lexeme, comments_of_one_lexeme}
use Rattle.ob0_scan.specs.ScanProgress.{IsScannedUpToOffset}
use Rattle.ob0_scan.proofs.Steps.{some_bytes, lexeme_step, progress_same}
use Rattle.ob0_scan.proofs.scanner.Scanner.record_lexeme.Goals as goal
use Rattle.ob0_scan.proofs.scanner.Scanner.record_lexeme.Goals.{in-WhiteSpace, in-Comment+in_ok-push-in-Comment, in-Token+in_ok-push-in-Token}

pub returns-clause-consistent_scanner : goal.returns-clause-consistent_scanner
returns-clause-consistent_scanner c =
    let old = c.args.self.now in
    let text = old.text.now in
    let at = old.at in
    let kind = c.args.kind in
    let span = span_with_length at c.args.len in
    let front = old.front.tokens.now in
    let before = old.front.comments.now in
    let taken = lexeme_step text at kind c.args.len c.requires.first (front ++ old.tokens.items) (before ++ old.comments.items) old.faults.items c.requires.consistent_scanner in
    let Kept = λ (s : Scanner). IsScannedUpToOffset s.text.now (at + c.args.len) (s.front.tokens.now ++ s.tokens.items) (s.front.comments.now ++ s.comments.items) s.faults.items in
    let with_found : (us : List Token) (ds : List Span) → us ≡ old.tokens.items ++ tokens_of_one_lexeme kind span → ds ≡ old.comments.items ++ comments_of_one_lexeme kind span → IsScannedUpToOffset text (at + c.args.len) (front ++ us) (before ++ ds) old.faults.items = λ us ds et ec.
    progress_same text (at + c.args.len) ((front ++ old.tokens.items) ++ tokens_of_one_lexeme kind span) (front ++ us) ((before ++ old.comments.items) ++ comments_of_one_lexeme kind span) (before ++ ds) old.faults.items old.faults.items
    (ap (λ x. front ++ x) et ∙ sym (append_assoc front old.tokens.items (tokens_of_one_lexeme kind span)))
    (ap (λ x. before ++ x) ec ∙ sym (append_assoc before old.comments.items (comments_of_one_lexeme kind span)))
    refl taken in
    elim c.match-kind.branch [
      | in-WhiteSpace w ↦ subst Kept (sym w.self-is) (with_found old.tokens.items old.comments.items
          (sym (ap (λ k. old.tokens.items ++ tokens_of_one_lexeme k span) w.in-WhiteSpace.is ∙ append-nil old.tokens.items))
          (sym (ap (λ k. old.comments.items ++ comments_of_one_lexeme k span) w.in-WhiteSpace.is ∙ append-nil old.comments.items)))
      | in-Comment+in_ok-push-in-Comment w ↦ subst Kept (sym w.self-is) (with_found old.tokens.items w.push.new.self.items
          (sym (ap (λ k. old.tokens.items ++ tokens_of_one_lexeme k span) w.in-Comment.is ∙ append-nil old.tokens.items))
          (chosen _ _ _ _ w.push.ensures.items (ap is_ok w.in_ok-push-in-Comment.was) ∙ sym (ap (λ k. old.comments.items ++ comments_of_one_lexeme k span) w.in-Comment.is)))
      | in-Token+in_ok-push-in-Token w ↦ subst Kept (sym w.self-is) (with_found w.push-in-Token.new.self.items old.comments.items
          (chosen _ _ _ _ w.push-in-Token.ensures.items (ap is_ok w.in_ok-push-in-Token.was) ∙ sym (ap (λ k. old.tokens.items ++ tokens_of_one_lexeme k span) w.in-Token.is))
          (sym (ap (λ k. old.comments.items ++ comments_of_one_lexeme k span) w.in-Token.is ∙ append-nil old.comments.items)))
    ]

pub returns-clause-further : goal.returns-clause-further
returns-clause-further c = omega (arith, some_bytes c.args.self.now.text.now c.args.self.now.at c.args.kind c.args.len c.requires.first)

pub returns-clause-one : goal.returns-clause-one
returns-clause-one c =
    let old = c.args.self.now in
    let kind = c.args.kind in
    let span = span_with_length old.at c.args.len in
    let Taken : Scanner → Type 0 = λ (s : Scanner). (length s.faults.items ≡ 0 → length old.faults.items ≡ 0) × (s.tokens.items ≡ old.tokens.items ++ tokens_of_one_lexeme kind span) × (s.comments.items ≡ old.comments.items ++ comments_of_one_lexeme kind span) in
    let taken : Taken c.match-kind.self = elim c.match-kind.branch [
      | in-WhiteSpace w ↦ subst Taken (sym w.self-is) (
        λ none. none,
        sym (ap (λ k. old.tokens.items ++ tokens_of_one_lexeme k span) w.in-WhiteSpace.is ∙ append-nil old.tokens.items),
        sym (ap (λ k. old.comments.items ++ comments_of_one_lexeme k span) w.in-WhiteSpace.is ∙ append-nil old.comments.items),
      )
      | in-Comment+in_ok-push-in-Comment w ↦ subst Taken (sym w.self-is) (
        λ none. none,
        sym (ap (λ k. old.tokens.items ++ tokens_of_one_lexeme k span) w.in-Comment.is ∙ append-nil old.tokens.items),
        chosen _ _ _ _ w.push.ensures.items (ap is_ok w.in_ok-push-in-Comment.was) ∙ sym (ap (λ k. old.comments.items ++ comments_of_one_lexeme k span) w.in-Comment.is),
      )
      | in-Token+in_ok-push-in-Token w ↦ subst Taken (sym w.self-is) (
        λ none. none,
        chosen _ _ _ _ w.push-in-Token.ensures.items (ap is_ok w.in_ok-push-in-Token.was) ∙ sym (ap (λ k. old.tokens.items ++ tokens_of_one_lexeme k span) w.in-Token.is),
        sym (ap (λ k. old.comments.items ++ comments_of_one_lexeme k span) w.in-Token.is ∙ append-nil old.comments.items),
      )
    ] in
    λ none. record { kind = kind; len = c.args.len; had_no_fault = taken.0 none; tokens = taken.1; comments = taken.2 }
