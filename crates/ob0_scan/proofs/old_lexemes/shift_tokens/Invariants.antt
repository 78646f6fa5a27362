use Rattle.std.proofs.Common.{◌≡◌, ◌++◌, map, take, drop}
use Rattle.ob0_scan.specs.ReusedLexemes.{token_after_shift}
use Rattle.ob0_scan.proofs.old_lexemes.shift_tokens.Given as goal

abbrev pub invariant-loop-token : goal.invariant-loop-token
invariant-loop-token l = l.tokens ≡ map (token_after_shift l.change.removed l.change.added) (take l.token-index l.fn.tokens) ++ drop l.token-index l.fn.tokens
