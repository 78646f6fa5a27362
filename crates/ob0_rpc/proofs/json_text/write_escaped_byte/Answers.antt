use Rattle.std.proofs.Common.{rules}
use Rattle.json.specs.Print.{escape_byte}
use Rattle.ob0_rpc.proofs.json_text.write_escaped_byte.Goals as goal

pub returns-then-short-ne0 : goal.returns-then-short-ne0
unfolding escape_byte
returns-then-short-ne0 c = search rules

pub returns-then-byte-lt32 : goal.returns-then-byte-lt32
unfolding escape_byte
returns-then-byte-lt32 c = search rules

pub returns : goal.returns
unfolding escape_byte
returns c = search rules
