use Rattle.std.proofs.Common.{pos, sym, ap, ◌∙◌, arith, w32}
use Rattle.std.proofs.lemmas.Int.{ints, to_z-of_z}
use Rattle.ob0_types_table.proofs.TokenNumbers.{small_number, token_value_at-past, token_value_at-read}
use Rattle.ob0_types_table.proofs.integer_tokens.integer_value_at_token.Goals as goal

pub integer_value_of_kind-requires : goal.integer_value_of_kind-requires
integer_value_of_kind-requires c = rw c.tokens-tokens.ensures (small_number c.args.tokens.now c.text-scanned.ensures.scan c.args.token _ (rw c.tokens-tokens.ensures at c.if-token-tokens.true))

pub returns-then-token-tokens : goal.returns-then-token-tokens
returns-then-token-tokens c =
    let less = rw c.tokens-tokens.ensures at c.if-token-tokens.true in
    let read = rw c.tokens-tokens.ensures at c.integer_value_of_kind.ensures in
    rw (to_z-of_z w32 c.integer_value_of_kind.result (rw c.integer_value_of_kind.ensures (omega (arith, ints)))) (read ∙ ap pos (sym (token_value_at-read c.args.tokens.now c.args.token _ less)))

pub returns-else-token-tokens : goal.returns-else-token-tokens
returns-else-token-tokens c = ap pos (sym (token_value_at-past c.args.tokens.now c.args.token (rw c.tokens-tokens.ensures at c.if-token-tokens.false)))
