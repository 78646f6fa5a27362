use Rattle.std.proofs.Common.{ℤ, pos, FitsSigned, w32, arith}
use Rattle.std.proofs.lemmas.Int.{ints}
use Rattle.std.specs.Prelude.{negsuc}
use Rattle.ob0_edits_tokens.specs.Written.{IsInt32}
use Rattle.ob0_edits_tokens.proofs.Values.{a_value}
use Rattle.ob0_inline.proofs.value_texts.number_text_may_replace_identifier.Goals as goal

int32 : (z : ℤ) → FitsSigned w32 z → IsInt32 z
int32 (pos n) f = omega (arith, f.sfits)
int32 (negsuc n) f = omega (arith, ints, f.sfits)

pub returns : goal.returns
returns c = a_value c.args.number (int32 c.args.number c.ranges.number)
