use Rattle.ob0_world_answers.proofs.Answering.{each_list_fits}
use Rattle.ob0_world_answers.proofs.laws.each_event_list_has_a_course.Goals as goal

pub returns : goal.returns
returns c = each_list_fits c.each_ask_always_has_answer.ensures c.course_exists_if_asks_have_answers.ensures
