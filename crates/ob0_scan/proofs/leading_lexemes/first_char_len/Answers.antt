use Rattle.std.proofs.Common.{◌∙◌, sym, subst, IsCharBoundary}
use Rattle.std.proofs.lemmas.Str.{length-encode}
use Rattle.ob0_scan.proofs.Runs.{boundary_after_char}
use Rattle.ob0_scan.proofs.leading_lexemes.first_char_len.Goals as goal

pub returns-clause-boundary : goal.returns-clause-boundary
returns-clause-boundary c =
    let text = c.args.text.now in
    subst (IsCharBoundary text) (sym c.len_utf8.ensures.value) (boundary_after_char text _ c.in-Some.c c.utf8.text (sym c.chars.ensures.rest ∙ c.in-Some.ensures.steps.0))

pub returns-clause-character : goal.returns-clause-character
returns-clause-character c = record {
  character = c.in-Some.c;
  rest = c.next.new.self.rest.now;
  front = sym c.chars.ensures.rest ∙ c.in-Some.ensures.steps.0;
  whole = c.len_utf8.ensures.value ∙ sym (length-encode c.in-Some.c);
}
