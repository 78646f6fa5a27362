use Rattle.std.proofs.Common.{◌-◌, arith}
use Rattle.ob0_world_editor.proofs.Moving.{numbered_at, numbered_past}
use Rattle.ob0_world_editor.proofs.message_reader.sent_ask_with_number.Goals as goal

pub returns-then-index-requested : goal.returns-then-index-requested
returns-then-index-requested c = numbered_at c.args.requested.now c.args.number (c.args.number - 1) c.index-requested-index.result (omega (arith, c.if-number-eq0.false)) (omega (arith, c.if-index-requested.true)) c.index-requested-index.is

pub returns-else-index-requested : goal.returns-else-index-requested
returns-else-index-requested c = numbered_past c.args.requested.now c.args.number (c.args.number - 1) (omega (arith, c.if-number-eq0.false)) (omega (arith, c.if-index-requested.false))
