use Rattle.std.proofs.Common.{◌∙◌, ◌+◌, map, refl, ap, subst}
use Rattle.std.proofs.lemmas.List.{take_all}
use Rattle.ob0_world.specs.ModelValues.{model_event_of}
use Rattle.ob0_world.specs.Worlds.{IsConnectionCourse}
use Rattle.ob0_world.proofs.world.World.play_in.Goals as goal
use Rattle.ob0_world.proofs.Courses.{plays, plays_nothing, plays_before, course_more, come_before, passed_before}
use Rattle.ob0_world.proofs.Stepping.{step_made, step_failed}

-- If memory runs out before the first event, the code returns no results.
pub returns-in-Err-clause-err : goal.returns-in-Err-clause-err
returns-in-Err-clause-err g c =
    let none = c.no_results.ensures in
    plays_nothing c.args.unit c.args.events.now (record { played = c.no_results.result; steps = 0 }) refl none.applied none.made none.taken none.got none.unread

pub loop-event-init : goal.loop-event-init
loop-event-init g c = (c.in-Ok.world.connection, c.in-Ok.ensures.start.begins, refl, c.in-Ok.ensures.start.none, c.in-Ok.ensures.start.has_not_ended)

-- If memory runs out at an event, the code returns the results of the events before it.
pub returns-in-Err-step-clause-err : goal.returns-in-Err-step-clause-err
returns-in-Err-step-clause-err g c =
    let i = c.loop-event.invariant in
    let failed = step_failed _ _ _ i.4 c.in-Err-step.ensures.err in
    plays_before c.args.unit c.args.events.now c.loop-event.event-index i.0 c.loop-event.world.connection (record { played = c.into_played.result; steps = c.steps-steps.result }) (c.steps-steps.ensures ∙ failed.1 ∙ i.3)
    c.loop-event-test.true i.1 i.2 (come_before _ _ c.into_played.result failed.0 c.into_played.ensures.results_match) (passed_before _ _ c.into_played.result failed.0 c.into_played.ensures.contents_match)

pub loop-event-preserved : goal.loop-event-preserved
loop-event-preserved g c =
    let i = c.loop-event.invariant in
    let made = step_made _ _ _ _ i.4 c.in-Ok-step.ensures.ok in
    (i.0, i.1, course_more i.0 c.args.events.now c.loop-event.event-index c.event-item.result _ _ c.loop-event-test.true c.event-item.is i.2 made.made, made.counted ∙ ap (λ n. n + 1) i.3, made.has_not_ended)

pub returns-clause-ok : goal.returns-clause-ok
returns-clause-ok g c =
    let i = c.loop-event.invariant in
    plays c.args.unit c.args.events.now i.0 c.loop-event.world.connection c.into_played-2.result i.1
    (subst (λ events. IsConnectionCourse i.0 (map model_event_of events) c.loop-event.world.connection) (take_all c.loop-event.event-index c.args.events.now c.loop-event-test.false) i.2)
    c.into_played-2.ensures.results_match c.into_played-2.ensures.contents_match
