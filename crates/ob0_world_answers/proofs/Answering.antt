-- Proves that each request for edits has an answer, and that each list of events has a course.
use Rattle.std.proofs.Common.{List, [], ◌∷◌}
use Rattle.std.specs.Prelude.{All}
use Rattle.std.proofs.lemmas.List.Elements.{All-append, All-nil, All-push}
use Rattle.ob0_inline_answers.specs.InlineAnswers.{InliningEverywhereAlwaysHasAnswer, InliningHereAlwaysHasAnswer}
use Rattle.ob0_module_values.proofs.ModuleValues.{OneTree}
use Rattle.ob0_rename_answers.specs.RenameAnswers.{RenamingAlwaysHasAnswer}
use Rattle.ob0_world_rules.specs.Asks.{Ask, format, inline_all, inline_here, rename}
use Rattle.ob0_world_rules.specs.EditorActs.{apply, request_edits, change_document, close_document, discard, open_document}
use Rattle.ob0_world_rules.specs.Events.{Event, editor_acts, serve, take_message}
use Rattle.ob0_world_rules.specs.Laws.{CourseExistsIfAsksHaveAnswers, AlwaysHasAnswer, AlwaysHasAnswerIfAsk}
use Rattle.ob0_world_worked.specs.Formatting.{FormattingAlwaysHasAnswer}
use Rattle.ob0_world_answers.specs.AnswersExist.{EachAskAlwaysHasAnswer, EachEventListHasACourse}
use Rattle.ob0_world_answers.proofs.ModuleValues.{each_has_names, each_is_read}

pub each_ask_answered : OneTree → FormattingAlwaysHasAnswer → RenamingAlwaysHasAnswer → InliningHereAlwaysHasAnswer → InliningEverywhereAlwaysHasAnswer → EachAskAlwaysHasAnswer
each_ask_answered tree formats renames here everywhere (rename position name) = renames (each_has_names tree) position name
each_ask_answered tree formats renames here everywhere (inline_here position) = here (each_is_read tree) position
each_ask_answered tree formats renames here everywhere (inline_all position) = everywhere (each_is_read tree) position
each_ask_answered tree formats renames here everywhere (format indent) = formats indent

event_answered : EachAskAlwaysHasAnswer → (event : Event) → AlwaysHasAnswerIfAsk event
event_answered answered (editor_acts (open_document uri text)) = tt
event_answered answered (editor_acts (change_document uri how)) = tt
event_answered answered (editor_acts (close_document uri)) = tt
event_answered answered (editor_acts (request_edits uri ask)) = answered ask
event_answered answered (editor_acts (apply k)) = tt
event_answered answered (editor_acts (discard k)) = tt
event_answered answered serve = tt
event_answered answered take_message = tt

all_answered : EachAskAlwaysHasAnswer → (events : List Event) → All AlwaysHasAnswerIfAsk events
all_answered answered [] = All-nil AlwaysHasAnswerIfAsk
all_answered answered (event ∷ events) =
    All-append AlwaysHasAnswerIfAsk (event ∷ []) events (All-push AlwaysHasAnswerIfAsk [] event (All-nil AlwaysHasAnswerIfAsk) (event_answered answered event)) (all_answered answered events)

pub each_list_fits : EachAskAlwaysHasAnswer → CourseExistsIfAsksHaveAnswers → EachEventListHasACourse
each_list_fits answered fits unit events = fits unit events (all_answered answered events)
