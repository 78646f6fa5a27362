use Rattle.std.proofs.Common.{◌≡◌, ◌++◌, drop}
use Rattle.ob0_run.specs.Outcomes.{output_items}
use Rattle.ob0_commands.specs.PrintedTexts.{IsWrittenExceptLastPart, output_text}
use Rattle.ob0_commands.proofs.run_command.print_output_items.Given as goal

-- The loop's invariant: the text of the first items is written except for the waiting text, and no
-- call has failed.
abbrev pub invariant-loop-item : goal.invariant-loop-item
invariant-loop-item g l = record {
  written : IsWrittenExceptLastPart (g.O.Write.contents l.fn.out) (g.O.Write.contents l.out) (output_text (output_items l.output)) (l.text.bytes ++ output_text (output_items (drop l.item-index l.output)));
  unfailed : g.O.TrackedOutput.has_failed l.out ≡ g.O.TrackedOutput.has_failed l.fn.out;
}
