-- Defines the report on each event, as `World::step` returns it to its caller.
-- Rule: none; used in the contract of `World::step`, which returns the report.
use Rattle.std.specs.Prelude.{◌≡◌, ℕ, ◌-◌, List, [], ◌∷◌, Bool, length, is_some, string_bytes, if◌then◌else◌}
use Rattle.ob0_world.specs.declared.events.Seen as seen
use Rattle.ob0_world_editor.specs.EditorCalls.{has_edits}
use Rattle.ob0_world_rules.specs.ClientAndServer.{Editor, MessageToServer, MessageToEditor, publishes, answers, ClientAndServer}
use Rattle.ob0_world_rules.specs.EditorActs.{EditorAct, open_document, change_document, close_document, request_edits, apply, discard, ActResult, act_result, edits_of_answer_to_request}
use Rattle.ob0_world_rules.specs.Events.{Event, editor_acts, serve, take_message, EventLeadsTo}

-- a report on an event: a message was sent or taken, an answer was applied or discarded, or nothing
-- happened
pub data EventReport : Type 0 where
  nothing : EventReport
  sent : EventReport
  -- the server took a message, and sent this many messages
  served : ℕ → EventReport
  published : List ℕ → Bool → EventReport
  -- the editor took an answer: its request's number, and whether the answer has edits
  answered : ℕ → Bool → EventReport
  applies : ℕ → EventReport
  drops : ℕ → EventReport

-- returns the report `some` if the list has an element, otherwise the report `none`
abbrev pub report_if_nonempty : {A : Type 0} → List A → EventReport → EventReport → EventReport
report_if_nonempty [] some none = none
report_if_nonempty (x ∷ xs) some none = some

-- returns the report `sent` if the act of the editor sent a message, otherwise `nothing`
abbrev pub report_on_sending : ActResult → EventReport
report_on_sending done = report_if_nonempty done.sent sent nothing

-- Returns the report on an act of this editor. For an act about a document, the report says whether
-- a message was sent (`report_on_sending`). Applying an answer is reported as `applies` if the
-- editor makes the edits, otherwise as `drops`. Discarding an answer is reported as `drops`. If the
-- editor doesn't have the answer, the report is `nothing`.
abbrev pub report_on_act : Editor → EditorAct → EventReport
report_on_act e (open_document uri text) = report_on_sending (act_result e (open_document uri text))
report_on_act e (change_document uri how) = report_on_sending (act_result e (change_document uri how))
report_on_act e (close_document uri) = report_on_sending (act_result e (close_document uri))
report_on_act e (request_edits uri ask) = report_on_sending (act_result e (request_edits uri ask))
report_on_act e (apply k) =
    if is_some (edits_of_answer_to_request k e.answers)
    then report_if_nonempty (act_result e (apply k)).applied (applies k) (drops k)
    else nothing
report_on_act e (discard k) = if is_some (edits_of_answer_to_request k e.answers) then drops k else nothing

-- Returns the report on the event `serve`: the number of messages that the server sent, or
-- `nothing` if no message waited for the server. The first argument is the queue to the server
-- before the event. `queue_before` and `queue_after` are the queue to the editor before and after
-- the event.
abbrev pub report_on_serve : List MessageToServer → List MessageToEditor → List MessageToEditor → EventReport
report_on_serve [] queue_before queue_after = nothing
report_on_serve (message ∷ rest) queue_before queue_after = served (length queue_after - length queue_before)

-- Returns the report on the event in which the editor takes the first message of this queue. If the
-- queue is empty, the report is `nothing`.
abbrev pub report_on_take : List MessageToEditor → EventReport
report_on_take [] = nothing
report_on_take (publishes uri version empty ∷ rest) = published uri empty
report_on_take (answers k edits ∷ rest) = answered k (has_edits edits)

-- returns the report on an event that leads from the state `old` to the state `new`
abbrev pub report_on_event : ClientAndServer → Event → ClientAndServer → EventReport
report_on_event old (editor_acts act) new = report_on_act old.editor act
report_on_event old serve new = report_on_serve old.to_server old.to_editor new.to_editor
report_on_event old take_message new = report_on_take old.to_editor

-- states that the event leads from the state `old` to the state `new`, and that `seen` is the
-- report on it
abbrev pub EventLeadsToWithReport : ClientAndServer → Event → EventReport → ClientAndServer → Type 0
EventLeadsToWithReport old event seen new = EventLeadsTo old event new × (seen ≡ report_on_event old event new)

-- converts a report from the code's type `Seen` to the model's type `EventReport`
abbrev pub model_report_of : seen.Seen → EventReport
model_report_of seen.TheVariants.Nothing = nothing
model_report_of seen.TheVariants.Sent = sent
model_report_of (seen.TheVariants.Served n) = served n
model_report_of (seen.TheVariants.Published uri empty) = published (string_bytes uri) empty
model_report_of (seen.TheVariants.Answered k edits) = answered k edits
model_report_of (seen.TheVariants.Applied k) = applies k
model_report_of (seen.TheVariants.Dropped k) = drops k
