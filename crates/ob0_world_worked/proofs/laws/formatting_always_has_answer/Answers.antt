use Rattle.ob0_world_worked.proofs.LayoutAnswers.{formatting_always_has_answer}
use Rattle.ob0_world_worked.proofs.laws.formatting_always_has_answer.Goals as goal

pub returns : goal.returns
returns c = formatting_always_has_answer c.formatting_keeps_module_tree.ensures c.formatting_keeps_tokens_and_comments.ensures.lexed c.replacing_gaps_gives_formatted_text.ensures.utf8
