use Rattle.std.proofs.Common.{sym}
use Rattle.ob0_scope_table.proofs.Moved.{moved_below}
use Rattle.ob0_types.proofs.one_body.shifted_token_index.Goals as goal

pub returns-then-token-same : goal.returns-then-token-same
returns-then-token-same c = sym (moved_below c.args.same c.args.token c.if-token-same.true)
