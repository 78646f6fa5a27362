-- States laws about the model of client and server.
-- Rule: none; laws of the model of client and server.
use Rattle.std.specs.Prelude.{◌≡◌, ◌≤◌, ◌↔◌, ⊤, ℕ, List, All, Some, length}
use Rattle.ob0_scan.specs.TextWithTokens.{max_text_length}
use Rattle.ob0_text.specs.declared.edits.Edit.{Edit}
use Rattle.ob0_text.specs.declared.position_types.Unit.{Unit}
use Rattle.ob0_tree.specs.Tree.{Tree, module_text}
use Rattle.ob0_language_names.specs.Names.{Name}
use Rattle.ob0_edits.specs.ReportedErrors.{IsTextOfTree}
use Rattle.ob0_edits.specs.TextBytes.{utf8}
use Rattle.ob0_world_rules.specs.WellTypedTexts.{IsModuleText, WellTypedText, SameRun}
use Rattle.ob0_world_rules.specs.TextEdits.{Replacement, replacements_of_edits, text_after_edits}
use Rattle.ob0_world_rules.specs.OtherWhiteSpace.{FileLineEnd, edits_with_line_ends, HaveSameTokens}
use Rattle.ob0_world_rules.specs.Asks.{Ask}
use Rattle.ob0_world_rules.specs.Answers.{AreRequestedEdits, IsAnswerForText}
use Rattle.ob0_world_rules.specs.ClientAndServer.{ClientAndServer, initial_client_and_server}
use Rattle.ob0_world_rules.specs.EditorActs.{open_document, change_document, close_document, request_edits, apply, discard}
use Rattle.ob0_world_rules.specs.Events.{Event, editor_acts, serve, take_message, IsCourse, EventLeadsTo}
use Rattle.ob0_world_rules.specs.Headline.{PreservesRun}
use Rattle.ob0_world_rules.specs.MirroredDocuments.{ServerWillMirrorEditor}

-- ---- texts

-- States that two definitions of the text of a module with a given tree agree. `IsModuleText` uses
-- the text's lexemes, and `IsTextOfTree` uses the parser's tokens.
abbrev pub ModuleTextDefinitionsAgree : Type 0
ModuleTextDefinitionsAgree =
    (tree : Tree Name module_text) (bytes : List ℕ)
    → IsTextOfTree tree bytes ↔ IsModuleText tree bytes

-- ---- answers

-- states that these edits, with positions in this unit, turn this well-typed text into a well-typed
-- module with the same run
pub record EditsPreserveRun (unit : Unit) (text : List ℕ) (edits : List Replacement) : Type 0 where
  pub before_is_well_typed : WellTypedText text
  pub after : List ℕ
  pub makes : text_after_edits unit text edits ≡ Some after
  pub after_is_well_typed : WellTypedText after
  pub same : SameRun text after

-- States that the edits with which the server answers a request keep the module's run. They turn a
-- well-typed module into a well-typed module with the same run (`EditsPreserveRun`).
abbrev pub AnswerEditsPreserveRun : Type 0
AnswerEditsPreserveRun =
    (unit : Unit) (text : List ℕ) (ask : Ask) (edits : List Edit)
    → AreRequestedEdits unit text ask edits
    → EditsPreserveRun unit text (replacements_of_edits edits)

-- States that an edit of an answer keeps the module's run also if the editor makes it with other
-- white space or other comments, so that only the tokens are the same (`HaveSameTokens`).
abbrev pub OtherWhiteSpacePreservesRun : Type 0
OtherWhiteSpacePreservesRun =
    (unit : Unit) (uri text edited made : List ℕ) (ask : Ask) (edits : List Edit)
    → AreRequestedEdits unit text ask edits
    → text_after_edits unit text (replacements_of_edits edits) ≡ Some edited
    → HaveSameTokens edited made
    → PreservesRun (record { uri = uri; before = text; after = made })

-- States that edits make a text with the same tokens (`HaveSameTokens`) if the editor puts the
-- file's own line end in place of each LF of their new texts. The text without that must be a
-- well-typed module, and the text with it may not be longer than the text of a module may be.
abbrev pub LineEndsKeepTokens : Type 0
LineEndsKeepTokens =
    (unit : Unit) (ends : FileLineEnd) (text edited : List ℕ) (edits : List Replacement)
    → text_after_edits unit text edits ≡ Some edited
    → WellTypedText edited
    → (made : List ℕ)
    × (text_after_edits unit text (edits_with_line_ends ends edits) ≡ Some made)
    × (length (utf8 made) ≤ max_text_length → HaveSameTokens edited made)

-- states that two answers to the same request for edits of the same text are equal
abbrev pub AnswersAreUnique : Type 0
AnswersAreUnique =
    (unit : Unit) (text : List ℕ) (ask : Ask) (given other : List Replacement)
    → IsAnswerForText unit text ask given
    → IsAnswerForText unit text ask other
    → given ≡ other

-- ---- events

-- states that an event leads from a state to at most one state
abbrev pub StateAfterEventIsDetermined : Type 0
StateAfterEventIsDetermined =
    (w : ClientAndServer) (event : Event) (new other : ClientAndServer)
    → EventLeadsTo w event new
    → EventLeadsTo w event other
    → new ≡ other

-- States that a list of events leads from a state to at most one state. A state consists of the
-- documents, the queues, the applied edits and the publications.
abbrev pub CourseIsDetermined : Type 0
CourseIsDetermined =
    (w : ClientAndServer) (events : List Event) (end other : ClientAndServer)
    → IsCourse w events end
    → IsCourse w events other
    → end ≡ other

-- States that the request for edits `ask` has an answer for each text and each unit of positions.
-- The formula is a double negation: it is impossible that no list of edits is an answer.
abbrev pub AlwaysHasAnswer : Ask → Type 0
AlwaysHasAnswer ask =
    (unit : Unit) (text : List ℕ)
    → ¬ ((given : List Replacement) → ¬ IsAnswerForText unit text ask given)

-- states that the event isn't a request for edits, or is a request that always has an answer
-- (`AlwaysHasAnswer`)
abbrev pub AlwaysHasAnswerIfAsk : Event → Type 0
AlwaysHasAnswerIfAsk (editor_acts (open_document uri text)) = ⊤
AlwaysHasAnswerIfAsk (editor_acts (change_document uri how)) = ⊤
AlwaysHasAnswerIfAsk (editor_acts (close_document uri)) = ⊤
AlwaysHasAnswerIfAsk (editor_acts (request_edits uri ask)) = AlwaysHasAnswer ask
AlwaysHasAnswerIfAsk (editor_acts (apply k)) = ⊤
AlwaysHasAnswerIfAsk (editor_acts (discard k)) = ⊤
AlwaysHasAnswerIfAsk serve = ⊤
AlwaysHasAnswerIfAsk take_message = ⊤

-- States that a list of events leads from the initial state to some state if each request for edits
-- in the list always has an answer. So the laws about all courses of events aren't vacuous. The
-- formula is a double negation: it is impossible that the events lead to no state.
abbrev pub CourseExistsIfAsksHaveAnswers : Type 0
CourseExistsIfAsksHaveAnswers =
    (unit : Unit) (events : List Event)
    → All AlwaysHasAnswerIfAsk events
    → ¬ ((end : ClientAndServer) → ¬ IsCourse (initial_client_and_server unit) events end)

-- States that the server and the editor have the same documents once the server has taken all
-- waiting messages. This holds in each state to which a list of events leads from the initial
-- state.
abbrev pub ServerMirrorsEditor : Type 0
ServerMirrorsEditor =
    (u : Unit) (events : List Event) (w : ClientAndServer) → IsCourse (initial_client_and_server u) events w → ServerWillMirrorEditor w
