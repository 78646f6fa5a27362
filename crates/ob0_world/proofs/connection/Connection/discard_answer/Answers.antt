use Rattle.std.proofs.Common.{◌≡◌, ◌∙◌, ap, sym, subst, cond}
use Rattle.ob0_world_rules.specs.ClientAndServer.{ClientAndServer}
use Rattle.ob0_world_rules.specs.EditorActs as acts
use Rattle.ob0_world_rules.specs.Events.{editor_acts}
use Rattle.ob0_world.specs.Queues.{model_from_fields, wire_from_fields}
use Rattle.ob0_world.specs.EventReport.{drops, nothing, model_report_of, EventLeadsToWithReport}
use Rattle.ob0_world.specs.Worlds.{Connection, AppendsAtMostOneContent}
use Rattle.ob0_world.proofs.Moved.{discard_shows, writes_none}
use Rattle.ob0_world.proofs.connection.Connection.discard_answer.Goals as goal
use Rattle.ob0_world.proofs.connection.Connection.discard_answer.Goals.{then-discard_answer, else-discard_answer}

pub returns-clause-ok : goal.returns-clause-ok
returns-clause-ok g c =
    let k = c.args.k in
    let i = c.self.inside in
    let shown : model_report_of c.if-discard_answer.result ≡ cond c.discard_answer.result (drops k) nothing =
    elim c.if-discard_answer.branch [
      | then-discard_answer w ↦ ap model_report_of w.result-is ∙ sym (ap (λ b. cond b (drops k) nothing) w.if-discard_answer.true)
      | else-discard_answer w ↦ ap model_report_of w.result-is ∙ sym (ap (λ b. cond b (drops k) nothing) w.if-discard_answer.false)
    ] in
    let shows = discard_shows i.editor c.discard_answer.new.self k i.to_server.items i.to_editor.items i.session i.applied.items i.made.items c.discard_answer.result c.discard_answer.ensures.held c.discard_answer.ensures.after c.self.invariant in
    subst (λ (w : ClientAndServer). EventLeadsToWithReport w (editor_acts (acts.discard k)) (model_report_of c.if-discard_answer.result) (model_from_fields c.discard_answer.new.self i.to_server.items i.session i.to_editor.items i.applied.items i.made.items)) (ap (λ (w : Connection). w.model) c.self.view_is)
    (shows.0, shown ∙ shows.1)

pub returns-clause-wire : goal.returns-clause-wire
returns-clause-wire g c =
    let i = c.self.inside in
    subst (λ (w : Connection). AppendsAtMostOneContent w.wire (wire_from_fields i.session i.taken.items i.to_server.items i.got.items i.to_editor.items)) c.self.view_is
    (writes_none i.session i.taken.items i.to_server.items i.got.items i.to_editor.items)
