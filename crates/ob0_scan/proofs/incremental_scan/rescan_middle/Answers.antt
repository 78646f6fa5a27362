use Rattle.std.proofs.Common.{Bor, List, ◌++◌, ◌-◌, refl, ◌≡◌, ◌∙◌, ℕ, ◌≤◌, ◌<◌, length, sym, ap, ap₂, subst, arith, eqb-true, false-eqb}
use Rattle.ob0_scan.specs.declared.lexeme.Span.{Span}
use Rattle.ob0_scan.specs.declared.lexeme.Token.{Token}
use Rattle.ob0_scan.specs.declared.old_lexemes.LexemeSlices.{LexemeSlices}
use Rattle.ob0_scan.specs.TextWithTokens.{IsScannable}
use Rattle.ob0_scan.specs.ScanRefusals.{AreFaultsOfRefusedText}
use Rattle.ob0_scan.specs.ScanProgress.{IsCutIntoLexemesUpToOffset}
use Rattle.ob0_scan.specs.RescanState.{end_of_last_lexeme}
use Rattle.ob0_scan.specs.ReusedLexemes.{tokens_ending_before, comments_ending_before}
use Rattle.ob0_scan.proofs.Steps.{too_long_refused, scan_refused}
use Rattle.ob0_scan.proofs.Reusing.{front_cut}
use Rattle.ob0_scan.proofs.RescannedMiddle.{settled}
use Rattle.ob0_scan.proofs.Kept.{lies_between}
use Rattle.ob0_scan.proofs.incremental_scan.rescan_middle.Goals as goal

pub returns-then-new_text-gt-MAX_TEXT_LENGTH-clause-err : goal.returns-then-new_text-gt-MAX_TEXT_LENGTH-clause-err
returns-then-new_text-gt-MAX_TEXT_LENGTH-clause-err c =
    too_long_refused c.args.new_text.now c.in_ok-faults_of_too_long_text.field-0.items c.utf8.new_text c.if-new_text-gt-MAX_TEXT_LENGTH.true c.in_ok-faults_of_too_long_text.ensures

pub scanner_after_known_lexemes-scanner-requires-clause-inside : goal.scanner_after_known_lexemes-scanner-requires-clause-inside
scanner_after_known_lexemes-scanner-requires-clause-inside c =
    let cut = front_cut c.args.old.now c.lexeme_slices-all.ensures.scan c.args.new_text.now c.args.change.from c.args.change.removed c.args.change.added c.requires in
    let tokens = c.lexemes_ending_before-front.ensures.tokens ∙ ap (tokens_ending_before c.args.change.from) c.lexeme_slices-all.ensures.tokens in
    let comments = c.lexemes_ending_before-front.ensures.comments ∙ ap (comments_ending_before c.args.change.from) c.lexeme_slices-all.ensures.comments in
    subst (λ n. n ≤ length c.args.new_text.now) (sym (ap₂ end_of_last_lexeme tokens comments)) cut.0

pub scanner_after_known_lexemes-scanner-requires-clause-cut : goal.scanner_after_known_lexemes-scanner-requires-clause-cut
scanner_after_known_lexemes-scanner-requires-clause-cut c =
    let new = c.args.new_text.now in
    let cut = front_cut c.args.old.now c.lexeme_slices-all.ensures.scan new c.args.change.from c.args.change.removed c.args.change.added c.requires in
    let tokens = c.lexemes_ending_before-front.ensures.tokens ∙ ap (tokens_ending_before c.args.change.from) c.lexeme_slices-all.ensures.tokens in
    let comments = c.lexemes_ending_before-front.ensures.comments ∙ ap (comments_ending_before c.args.change.from) c.lexeme_slices-all.ensures.comments in
    subst (λ (ts : List Token). IsCutIntoLexemesUpToOffset new (end_of_last_lexeme ts c.lexemes_ending_before-front.result.comments.now) ts c.lexemes_ending_before-front.result.comments.now) (sym tokens)
    (subst (λ (cs : List Span). IsCutIntoLexemesUpToOffset new (end_of_last_lexeme (tokens_ending_before c.args.change.from c.args.old.now.tokens) cs) (tokens_ending_before c.args.change.from c.args.old.now.tokens) cs) (sym comments) cut.1)

pub returns-then-not-is_empty-clause-err : goal.returns-then-not-is_empty-clause-err
returns-then-not-is_empty-clause-err c =
    let t = c.scan_until_old_lexeme.new.scanner in
    let text : t.text.now ≡ c.args.new_text.now = ap (λ (x : Bor (List ℕ)). x.now) c.in_ok-rest.ensures.text ∙ c.scanner_after_known_lexemes-scanner.ensures.text in
    let some : 0 < length t.faults.items = omega (arith, false-eqb _ 0 c.if-not-is_empty.ensures, t.faults.ok) in
    subst (λ x. (IsScannable x → ⊥) × AreFaultsOfRefusedText x t.faults.items) text
    (scan_refused t.text.now t.at (t.front.tokens.now ++ t.tokens.items) (t.front.comments.now ++ t.comments.items) t.faults.items c.in_ok-rest.ensures.consistent_scanner (c.in_ok-rest.ensures.end some) (omega (arith, c.if-new_text-gt-MAX_TEXT_LENGTH.false, ap length text)) some)

pub returns-clause-ok : goal.returns-clause-ok
returns-clause-ok c =
    let old = c.args.old.now in
    let new = c.args.new_text.now in
    let from = c.args.change.from in
    let removed = c.args.change.removed in
    let added = c.args.change.added in
    let s = c.scanner_after_known_lexemes-scanner.result in
    let t = c.scan_until_old_lexeme.new.scanner in
    let rest = c.in_ok-rest.rest in
    let front = c.lexemes_ending_before-front.result in
    let text : t.text.now ≡ new = ap (λ (x : Bor (List ℕ)). x.now) c.in_ok-rest.ensures.text ∙ c.scanner_after_known_lexemes-scanner.ensures.text in
    let none : length t.faults.items ≡ 0 = omega (arith, eqb-true _ 0 (sym c.if-not-is_empty.ensures), t.faults.ok) in
    let end = settled old c.lexeme_slices-all.ensures.scan new from removed added c.requires t rest.tokens.now rest.comments.now text c.in_ok-rest.ensures.consistent_scanner none c.if-new_text-gt-MAX_TEXT_LENGTH.false c.in_ok-rest.ensures.met in
    let same = c.in_ok-rest.ensures.front ∙ c.scanner_after_known_lexemes-scanner.ensures.front in
    lies_between old c.lexeme_slices-all.ensures.scan new from removed added s t front.tokens.now rest.tokens.now front.comments.now rest.comments.now _
    (c.lexemes_ending_before-front.ensures.tokens ∙ ap (tokens_ending_before from) c.lexeme_slices-all.ensures.tokens)
    (c.lexemes_ending_before-front.ensures.comments ∙ ap (comments_ending_before from) c.lexeme_slices-all.ensures.comments)
    (ap (λ (p : LexemeSlices). p.tokens.now) same) (ap (λ (p : LexemeSlices). p.comments.now) same)
    c.scanner_after_known_lexemes-scanner.ensures.tokens c.scanner_after_known_lexemes-scanner.ensures.comments (c.in_ok-rest.ensures.reads none) end
    refl (ap (λ (x : List Token). length x - length rest.tokens.now) c.lexeme_slices-all.ensures.tokens)
    refl (ap (λ (x : List Span). length x - length rest.comments.now) c.lexeme_slices-all.ensures.comments)
    refl refl
