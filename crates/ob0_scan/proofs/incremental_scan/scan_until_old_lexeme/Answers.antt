use Rattle.std.proofs.Common.{Bor, List, vec_len, ◌≡◌, ◌∙◌, ℕ, ◌+◌, ◌-◌, ◌||◌, refl, sym, ap, ap₂, subst, arith, false-eqb}
use Rattle.ob0_scan.specs.declared.lexeme.Span.{Span}
use Rattle.ob0_scan.specs.declared.lexeme.Token.{Token}
use Rattle.ob0_scan.specs.declared.old_lexemes.LexemeSlices.{LexemeSlices}
use Rattle.ob0_scan.specs.ReusedLexemes.{ReplacesRange, NoLexemeBeginsAt, tokens_beginning_at_or_after, comments_beginning_at_or_after}
use Rattle.ob0_scan.specs.RescanState.{first_token_begins_at, first_comment_begins_at}
use Rattle.ob0_scan.proofs.AtLexemes.{back_again}
use Rattle.ob0_scan.proofs.RescannedMiddle.{reads_none, reads_more, none_begins, end_met}
use Rattle.ob0_scan.proofs.incremental_scan.scan_until_old_lexeme.Goals as goal
use Rattle.ob0_scan.proofs.incremental_scan.scan_until_old_lexeme.Goals.{then-is_empty+then-scanner-change+else-first_lexeme_begins_at, else-is_empty, else-is_empty-via-then-is_empty+else-scanner-change, else-is_empty-via-else-is_empty}

pub loop-scanner-init : goal.loop-scanner-init
loop-scanner-init c =
    let first : ℕ = c.args.change.from + c.args.change.removed in
    record {
      consistent_scanner = c.requires.consistent_scanner;
      same_text = refl;
      same_front = refl;
      reads = λ _. reads_none c.args.old.now c.args.change.from c.args.change.removed c.args.change.added c.args.scanner.now;
      tokens = λ place far _.
          ap (tokens_beginning_at_or_after place) (c.lexemes_beginning_at_or_after-rest.ensures.tokens ∙ ap (tokens_beginning_at_or_after first) c.lexeme_slices.ensures.tokens)
          ∙ back_again (λ (t : Token). t.span.start) first place c.args.old.now.tokens far;
      comments = λ place far _.
          ap (comments_beginning_at_or_after place) (c.lexemes_beginning_at_or_after-rest.ensures.comments ∙ ap (comments_beginning_at_or_after first) c.lexeme_slices.ensures.comments)
          ∙ back_again (λ (t : Span). t.start) first place c.args.old.now.comments far;
    }

pub loop-scanner-preserved : goal.loop-scanner-preserved
loop-scanner-preserved c =
    let old = c.args.old.now in
    let from = c.args.change.from in
    let removed = c.args.change.removed in
    let added = c.args.change.added in
    let here = c.loop-scanner.scanner in
    let inv = c.loop-scanner.invariant in
    record {
      consistent_scanner = c.in_ok-read_next_lexeme.ensures.consistent_scanner;
      same_text = c.in_ok-read_next_lexeme.ensures.text ∙ inv.same_text;
      same_front = c.in_ok-read_next_lexeme.ensures.front ∙ inv.same_front;
      reads = λ none.
          let one = c.in_ok-read_next_lexeme.ensures.one none in
          reads_more old from removed added c.args.scanner.now here c.read_next_lexeme.new.self (inv.reads one.had_no_fault) one (λ far. elim c.if-is_empty.branch [
            | then-is_empty+then-scanner-change+else-first_lexeme_begins_at w ↦ (
                let place = w.offset_in_old_text-place.result in
                let same : place ≡ here.at + removed - added = omega (arith, w.offset_in_old_text-place.ensures) in
                let tokens : w.skip_lexemes_before-rest.result.tokens.now ≡ tokens_beginning_at_or_after place old.tokens = w.skip_lexemes_before-rest.ensures.tokens ∙ inv.tokens place (omega (arith, w.offset_in_old_text-place.ensures, w.if-scanner-change.true)) (omega (arith, w.offset_in_old_text-place.ensures)) in
                let comments : w.skip_lexemes_before-rest.result.comments.now ≡ comments_beginning_at_or_after place old.comments = w.skip_lexemes_before-rest.ensures.comments ∙ inv.comments place (omega (arith, w.offset_in_old_text-place.ensures, w.if-scanner-change.true)) (omega (arith, w.offset_in_old_text-place.ensures)) in
                subst (NoLexemeBeginsAt old) same (none_begins old c.lexeme_slices.ensures.scan place
                (ap₂ (λ ts cs. first_token_begins_at place ts || first_comment_begins_at place cs) (sym tokens) (sym comments) ∙ sym w.first_lexeme_begins_at.ensures ∙ w.if-first_lexeme_begins_at.false)))
            | else-is_empty w ↦ elim w.else-is_empty.branch [
              | else-is_empty-via-then-is_empty+else-scanner-change v ↦ absurd (omega (arith, far, v.if-scanner-change.false))
              | else-is_empty-via-else-is_empty v ↦ absurd (omega (arith, one.had_no_fault, false-eqb (vec_len here.faults) 0 (sym v.if-is_empty.false ∙ c.is_empty.ensures), here.faults.ok))
            ]
          ]);
      tokens = λ place far later. elim c.if-is_empty.branch [
        | then-is_empty+then-scanner-change+else-first_lexeme_begins_at w ↦
            ap (λ (r : LexemeSlices). tokens_beginning_at_or_after place r.tokens.now) w.rest-is ∙ ap (tokens_beginning_at_or_after place) w.skip_lexemes_before-rest.ensures.tokens
            ∙ back_again (λ (t : Token). t.span.start) w.offset_in_old_text-place.result place c.loop-scanner.rest.tokens.now (omega (arith, later, w.offset_in_old_text-place.ensures, c.in_ok-read_next_lexeme.ensures.further))
            ∙ inv.tokens place far (omega (arith, later, c.in_ok-read_next_lexeme.ensures.further))
        | else-is_empty w ↦ ap (λ (r : LexemeSlices). tokens_beginning_at_or_after place r.tokens.now) w.rest-is ∙ inv.tokens place far (omega (arith, later, c.in_ok-read_next_lexeme.ensures.further))
      ];
      comments = λ place far later. elim c.if-is_empty.branch [
        | then-is_empty+then-scanner-change+else-first_lexeme_begins_at w ↦
            ap (λ (r : LexemeSlices). comments_beginning_at_or_after place r.comments.now) w.rest-is ∙ ap (comments_beginning_at_or_after place) w.skip_lexemes_before-rest.ensures.comments
            ∙ back_again (λ (t : Span). t.start) w.offset_in_old_text-place.result place c.loop-scanner.rest.comments.now (omega (arith, later, w.offset_in_old_text-place.ensures, c.in_ok-read_next_lexeme.ensures.further))
            ∙ inv.comments place far (omega (arith, later, c.in_ok-read_next_lexeme.ensures.further))
        | else-is_empty w ↦ ap (λ (r : LexemeSlices). comments_beginning_at_or_after place r.comments.now) w.rest-is ∙ inv.comments place far (omega (arith, later, c.in_ok-read_next_lexeme.ensures.further))
      ];
    }

pub returns-clause-met : goal.returns-clause-met
returns-clause-met c =
    let old = c.args.old.now in
    let here = c.loop-scanner.scanner in
    let inv = c.loop-scanner.invariant in
    let replaced = subst (λ (x : Bor (List ℕ)). ReplacesRange old.text x.now c.args.change.from c.args.change.removed c.args.change.added) (sym inv.same_text) c.requires.replaced in
    λ none. end_met old c.lexeme_slices.ensures.scan here.text.now c.args.change.from c.args.change.removed c.args.change.added replaced here.at (omega (arith, c.loop-scanner-test.false, inv.consistent_scanner.place.0))
