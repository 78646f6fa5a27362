use Rattle.std.proofs.Common.{◌≤◌, ◌∙◌, sym, subst, arith}
use Rattle.std.specs.List.{All}
use Rattle.std.proofs.lemmas.Bool.{ltb-false}
use Rattle.std.proofs.lemmas.List.{take_all}
use Rattle.std.proofs.lemmas.List.Elements.{All-more}
use Rattle.ob0_text.specs.Stretches.{IsNotLineBreak}
use Rattle.ob0_text.proofs.stretches.has_line_break.Goals as goal
use Rattle.ob0_text.proofs.stretches.has_line_break.Goals.{then-is_line_break, else-is_line_break}

pub loop-byte-preserved : goal.loop-byte-preserved
loop-byte-preserved c =
    elim c.if-is_line_break.branch [
      | then-is_line_break w ↦ record {
        none = λ h. absurd (omega (arith, h, w.breaks-is));
        few = omega (arith, w.breaks-is, c.loop-byte.invariant.few);
      }
      | else-is_line_break w ↦ record {
        none = λ h. All-more IsNotLineBreak c.args.bytes.now c.loop-byte.byte-index 0 c.loop-byte-test.true (c.loop-byte.invariant.none (sym w.breaks-is ∙ h)) (sym c.is_line_break.ensures ∙ w.if-is_line_break.false);
        few = omega (arith, w.breaks-is, c.loop-byte.invariant.few);
      }
    ]

pub returns : goal.returns
returns c = record {
  no = λ h.
      let none : c.loop-byte.breaks ≤ 0 = ltb-false 0 c.loop-byte.breaks h in
      subst (All IsNotLineBreak) (take_all c.loop-byte.byte-index c.args.bytes.now c.loop-byte-test.false) (c.loop-byte.invariant.none (omega arith));
}
