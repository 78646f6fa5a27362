-- Proves the clauses of a world's step.
use Rattle.std.proofs.Common.{◌≡◌, ◌+◌, false, [], ◌∷◌, ◌++◌, refl, sym, subst}
use Rattle.ob0_world_rules.specs.ClientAndServer.{ClientAndServer, initial_client_and_server}
use Rattle.ob0_world_rules.specs.Events.{Event, EventLeadsTo}
use Rattle.ob0_world_rules.specs.MirroredDocuments.{ServerWillMirrorEditor}
use Rattle.ob0_world_rules.specs.Headline.{GuaranteesHold}
use Rattle.ob0_world_rules.proofs.ModelEditor.{guarantees_hold_in_every_interleaving, server_mirrors_editor}
use Rattle.ob0_world_rules.proofs.CourseIsDetermined.{course_push}
use Rattle.ob0_text.specs.declared.position_types.Unit.{Unit}
use Rattle.ob0_world.specs.Queues.{IsReachable}
use Rattle.ob0_world.specs.EventReport.{EventReport, EventLeadsToWithReport}
use Rattle.ob0_world.specs.Worlds.{World, EventChangesWire, QueuesMatch, HaveSameHistory, WorldStepsUnlessEnded, WorldSteps, WorldFailsGivenEnded, WorldFails}
use Rattle.ob0_world.specs.declared.faults.WorldFault.{WorldFault}
use Rattle.ob0_world.specs.declared.faults.WorldFault.TheVariants.{Memory, Ended}

pub made_step : (w old : World) (event : Event) (seen : EventReport) (new : World) → w ≡ old → w.ended ≡ false → EventLeadsToWithReport w.connection.model event seen new.connection.model → EventChangesWire event w.connection.wire new.connection.wire → QueuesMatch new.connection
    → new.steps ≡ w.steps + 1 → new.ended ≡ false → WorldSteps old event seen new
made_step w old event seen new same on shows moves tied counted has_not_ended =
    subst (λ (x : World). WorldSteps x event seen new) same (subst (λ b. WorldStepsUnlessEnded b w event seen new) (sym on) (record { made = record { happens = shows.0; moves = moves; tied = tied }; shown = shows.1; counted = counted; has_not_ended = has_not_ended }))

-- A step of a world that hasn't ended is a step that is made and counted.
pub step_made : (old : World) (event : Event) (seen : EventReport) (new : World) → old.ended ≡ false → WorldSteps old event seen new → WorldStepsUnlessEnded false old event seen new
step_made old event seen new on steps = subst (λ b. WorldStepsUnlessEnded b old event seen new) on steps

pub step_failed : (old : World) (fault : WorldFault) (new : World) → old.ended ≡ false → WorldFails old fault new → HaveSameHistory old.connection new.connection × (new.steps ≡ old.steps)
step_failed old Memory new on fails = let so : WorldFailsGivenEnded false old Memory new = subst (λ b. WorldFailsGivenEnded b old Memory new) on fails in (so.0, so.1)
step_failed old Ended new on fails = let no : WorldFailsGivenEnded false old Ended new = subst (λ b. WorldFailsGivenEnded b old Ended new) on fails in absurd no

-- ---- what is reached

pub reached_start : (unit : Unit) → IsReachable (initial_client_and_server unit)
reached_start unit = (unit, [], refl)

pub reached_more : (w : ClientAndServer) (event : Event) (new : ClientAndServer) → IsReachable w → EventLeadsTo w event new → IsReachable new
reached_more w event new (unit, events, course) happens = (unit, events ++ event ∷ [], course_push (initial_client_and_server unit) events w event new course happens)

pub reached_holds : (w : ClientAndServer) → IsReachable w → GuaranteesHold w
reached_holds w (unit, events, course) = guarantees_hold_in_every_interleaving unit events w course

pub reached_mirrors : (w : ClientAndServer) → IsReachable w → ServerWillMirrorEditor w
reached_mirrors w (unit, events, course) = server_mirrors_editor unit events w course
