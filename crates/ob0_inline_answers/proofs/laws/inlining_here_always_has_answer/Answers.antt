use Rattle.ob0_inline_answers.proofs.HereAnswers.{inlining_here_always_has_answer}
use Rattle.ob0_inline_answers.proofs.laws.inlining_here_always_has_answer.Goals as goal

pub returns : goal.returns
returns c = inlining_here_always_has_answer c.constant_uses_are_factors.ensures c.inlining_keeps_typing_and_runs.ensures
