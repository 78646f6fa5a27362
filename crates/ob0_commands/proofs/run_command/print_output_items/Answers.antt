use Rattle.std.proofs.Common.{◌∙◌, refl}
use Rattle.ob0_commands.proofs.Pieces.{item_written}
use Rattle.ob0_commands.proofs.run_command.print_output_items.Goals as goal

pub loop-item-preserved : goal.loop-item-preserved
loop-item-preserved g c = record {
  written =
      item_written (g.O.Write.contents c.args.out.now) (g.O.Write.contents c.loop-item.out) (g.O.Write.contents c.append_item_making_room.new.out) c.args.output.now c.loop-item.item-index _ _ c.loop-item.text.bytes c.append_item_making_room.new.text.bytes
      c.loop-item.invariant.written c.loop-item-test.true refl c.in_ok-append_item_making_room.ensures.written;
  unfailed = c.in_ok-append_item_making_room.ensures.unfailed ∙ c.loop-item.invariant.unfailed;
}
