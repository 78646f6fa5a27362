use Rattle.std.proofs.Common.{[], ◌∙◌, ◌++◌, ℕ, ap, append-nil, sym, subst}
use Rattle.ob0_scan.specs.ScanProgress.{IsScannedUpToOffset}
use Rattle.ob0_scan.specs.RescanState.{end_of_last_lexeme}
use Rattle.ob0_scan.proofs.Steps.{progress_same}
use Rattle.ob0_scan.proofs.Reusing.{progress_following}
use Rattle.ob0_scan.proofs.scanner.Scanner.scanner_after_known_lexemes.Goals as goal

pub returns-clause-consistent_scanner : goal.returns-clause-consistent_scanner
returns-clause-consistent_scanner c =
    let text = c.args.text.now in
    let tokens = c.args.front.tokens.now in
    let comments = c.args.front.comments.now in
    let us = c.new.result.items in
    let ds = c.new-2.result.items in
    let gs = c.new-3.result.items in
    let end = end_of_last_lexeme tokens comments in
    subst (λ (n : ℕ). IsScannedUpToOffset text n (tokens ++ us) (comments ++ ds) gs) (sym c.end_of_last_lexeme.ensures)
    (progress_same text end tokens (tokens ++ us) comments (comments ++ ds) [] gs (ap (λ x. tokens ++ x) c.new.ensures.items ∙ append-nil tokens) (ap (λ x. comments ++ x) c.new-2.ensures.items ∙ append-nil comments) c.new-3.ensures.items
    (progress_following text end tokens comments c.utf8.text c.requires.short c.requires.inside c.requires.cut))
