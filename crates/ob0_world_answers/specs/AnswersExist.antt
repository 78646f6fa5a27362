-- States that each request for edits has an answer, and that each list of events leads to some
-- state of the model of client and server.
-- Rule: docs/PROTOCOL.md, Requests on documents 6 to 10.
use Rattle.std.specs.Prelude.{List}
use Rattle.ob0_text.specs.declared.position_types.Unit.{Unit}
use Rattle.ob0_world_rules.specs.Asks.{Ask}
use Rattle.ob0_world_rules.specs.ClientAndServer.{ClientAndServer, initial_client_and_server}
use Rattle.ob0_world_rules.specs.Events.{Event, IsCourse}
use Rattle.ob0_world_rules.specs.Laws.{AlwaysHasAnswer}

-- States that each request for edits has an answer for each text and unit. The formula is a double
-- negation: it is impossible that there is no answer (`AlwaysHasAnswer`).
abbrev pub EachAskAlwaysHasAnswer : Type 0
EachAskAlwaysHasAnswer = (ask : Ask) → AlwaysHasAnswer ask

-- States that each list of events leads from the initial state (`initial_client_and_server`) to some state. So the laws
-- about all courses of events aren't vacuous. The formula is a double negation: it is impossible
-- that the events lead to no state.
abbrev pub EachEventListHasACourse : Type 0
EachEventListHasACourse =
    (unit : Unit) (events : List Event)
    → ¬ ((end : ClientAndServer) → ¬ IsCourse (initial_client_and_server unit) events end)
