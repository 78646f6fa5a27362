use Rattle.ob0_commands.proofs.Words.{is_ascii}
use Rattle.std.proofs.lemmas.Str.{IsUtf8-from_ascii}
use Rattle.ob0_commands.proofs.input_numbers.parse_number.Goals as goal

pub returns-in_default : goal.returns-in_default
returns-in_default c = λ w. c.in_default.ensures.cases.0 (IsUtf8-from_ascii c.args.word.now (is_ascii c.args.word.now w.0 w.1))
