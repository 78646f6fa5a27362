use Rattle.std.proofs.Common.{◌∷◌, ◌++◌, sym, ap, ◌∙◌, arith}
use Rattle.std.specs.Prelude.{option_to_list}
use Rattle.std.proofs.lemmas.List.{drop_all}
use Rattle.ob0_text.specs.Texts.{ends_line}
use Rattle.ob0_text.specs.LineStarts.{line_starts_after_bytes}
use Rattle.ob0_text.proofs.StartLaws.{start_pushed, start_passed, last_test, start_last, no_start_last}
use Rattle.ob0_text.proofs.line_starts.add_line_starts.Goals as goal
use Rattle.ob0_text.proofs.line_starts.add_line_starts.Goals.{then-is_line_start_between+in_ok-push, else-is_line_start_between}

pub loop-byte-preserved : goal.loop-byte-preserved
loop-byte-preserved c =
    let v = c.loop-byte in
    elim c.if-is_line_start_between.branch [
      | then-is_line_start_between+in_ok-push w ↦
          record {
            here = omega arith;
            found = rw (w.starts-is, w.in_ok-push.ensures.items) (start_pushed v.starts.items c.args.bytes.now c.args.following.now v.at v.last v.byte-index c.loop-byte-test.true (sym c.is_line_start_between.ensures ∙ w.if-is_line_start_between.true) ∙ v.invariant.found);
          }
      | else-is_line_start_between w ↦
          record {
            here = omega arith;
            found = rw w.starts-is (start_passed v.starts.items c.args.bytes.now c.args.following.now v.at v.last v.byte-index c.loop-byte-test.true (sym c.is_line_start_between.ensures ∙ w.if-is_line_start_between.false) ∙ v.invariant.found);
          }
    ]

pub returns-in_ok-push-2 : goal.returns-in_ok-push-2
returns-in_ok-push-2 c =
    let v = c.loop-byte in
    let test = sym (last_test v.last c.args.following.now) ∙ ap (λ o. ends_line v.last (option_to_list o)) (sym (c.copied.ensures ∙ c.first.ensures.value)) ∙ sym c.is_line_start_between-2.ensures ∙ c.if-is_line_start_between-2.true in
    c.in_ok-push-2.ensures.items ∙ start_last v.starts.items c.args.following.now v.at v.last test
    ∙ ap (λ t. v.starts.items ++ line_starts_after_bytes v.at (v.last ∷ t) c.args.following.now) (sym (drop_all v.byte-index c.args.bytes.now c.loop-byte-test.false))
    ∙ v.invariant.found

pub returns-else-is_line_start_between-2 : goal.returns-else-is_line_start_between-2
returns-else-is_line_start_between-2 c =
    let v = c.loop-byte in
    let test = sym (last_test v.last c.args.following.now) ∙ ap (λ o. ends_line v.last (option_to_list o)) (sym (c.copied.ensures ∙ c.first.ensures.value)) ∙ sym c.is_line_start_between-2.ensures ∙ c.if-is_line_start_between-2.false in
    no_start_last v.starts.items c.args.following.now v.at v.last test
    ∙ ap (λ t. v.starts.items ++ line_starts_after_bytes v.at (v.last ∷ t) c.args.following.now) (sym (drop_all v.byte-index c.args.bytes.now c.loop-byte-test.false))
    ∙ v.invariant.found
