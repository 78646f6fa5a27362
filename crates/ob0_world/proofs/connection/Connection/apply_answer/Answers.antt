use Rattle.std.proofs.Common.{ap, subst}
use Rattle.std.specs.Prelude.{is_ok, is_some}
use Rattle.ob0_world_editor.specs.EditorCalls.{IsApplyOutcome}
use Rattle.ob0_world_rules.specs.ClientAndServer.{ClientAndServer}
use Rattle.ob0_world_rules.specs.EditorActs.{apply, act_result, edits_of_answer_to_request}
use Rattle.ob0_world_rules.specs.Events.{editor_acts}
use Rattle.ob0_world.specs.Queues.{model_from_fields, wire_from_fields}
use Rattle.ob0_world.specs.EventReport.{nothing, applies, drops, EventLeadsToWithReport}
use Rattle.ob0_world.specs.Worlds.{Connection, AppendsAtMostOneContent}
use Rattle.ob0_world.proofs.Moved.{writes_none, writes_one, applied_sound, made_says, made_happens, not_held_happens, dropped_happens, maybe_pushed}
use Rattle.ob0_world.proofs.connection.Connection.apply_answer.Goals as goal

pub invariant_of-self-in-NoSuchAnswer : goal.invariant_of-self-in-NoSuchAnswer
invariant_of-self-in-NoSuchAnswer g c =
    let i = c.self.inside in
    applied_sound i.editor c.apply_answer.new.self c.args.k _ i.to_server.items i.to_editor.items i.session c.in_ok-apply_answer.ensures.ok c.self.invariant

pub invariant_of-self-in-Dropped : goal.invariant_of-self-in-Dropped
invariant_of-self-in-Dropped g c =
    let i = c.self.inside in
    applied_sound i.editor c.apply_answer.new.self c.args.k _ i.to_server.items i.to_editor.items i.session c.in_ok-apply_answer.ensures.ok c.self.invariant

pub invariant_of-self-in_err-push_back-in-EditsMade : goal.invariant_of-self-in_err-push_back-in-EditsMade
invariant_of-self-in_err-push_back-in-EditsMade g c =
    let i = c.self.inside in
    maybe_pushed c.apply_answer.new.self.requested i.to_server.items c.push_back.new.self.items i.to_editor.items i.session c.in-EditsMade.content (is_ok c.push_back.result) c.push_back.ensures.items
    (made_says i.editor c.apply_answer.new.self c.args.k c.in-EditsMade.applied c.in-EditsMade.content
    (subst (λ x. IsApplyOutcome (act_result i.editor (apply c.args.k)) (is_some (edits_of_answer_to_request c.args.k i.editor.answers)) x c.apply_answer.new.self) c.in-EditsMade.is c.in_ok-apply_answer.ensures.ok))
    (applied_sound i.editor c.apply_answer.new.self c.args.k _ i.to_server.items i.to_editor.items i.session c.in_ok-apply_answer.ensures.ok c.self.invariant)

pub invariant_of-self-in_err-push-in-EditsMade : goal.invariant_of-self-in_err-push-in-EditsMade
invariant_of-self-in_err-push-in-EditsMade g c =
    let i = c.self.inside in
    maybe_pushed c.apply_answer.new.self.requested i.to_server.items c.push_back.new.self.items i.to_editor.items i.session c.in-EditsMade.content (is_ok c.push_back.result) c.push_back.ensures.items
    (made_says i.editor c.apply_answer.new.self c.args.k c.in-EditsMade.applied c.in-EditsMade.content
    (subst (λ x. IsApplyOutcome (act_result i.editor (apply c.args.k)) (is_some (edits_of_answer_to_request c.args.k i.editor.answers)) x c.apply_answer.new.self) c.in-EditsMade.is c.in_ok-apply_answer.ensures.ok))
    (applied_sound i.editor c.apply_answer.new.self c.args.k _ i.to_server.items i.to_editor.items i.session c.in_ok-apply_answer.ensures.ok c.self.invariant)

pub invariant_of-self-in-EditsMade : goal.invariant_of-self-in-EditsMade
invariant_of-self-in-EditsMade g c =
    let i = c.self.inside in
    maybe_pushed c.apply_answer.new.self.requested i.to_server.items c.push_back.new.self.items i.to_editor.items i.session c.in-EditsMade.content (is_ok c.push_back.result) c.push_back.ensures.items
    (made_says i.editor c.apply_answer.new.self c.args.k c.in-EditsMade.applied c.in-EditsMade.content
    (subst (λ x. IsApplyOutcome (act_result i.editor (apply c.args.k)) (is_some (edits_of_answer_to_request c.args.k i.editor.answers)) x c.apply_answer.new.self) c.in-EditsMade.is c.in_ok-apply_answer.ensures.ok))
    (applied_sound i.editor c.apply_answer.new.self c.args.k _ i.to_server.items i.to_editor.items i.session c.in_ok-apply_answer.ensures.ok c.self.invariant)

pub returns-in-NoSuchAnswer-clause-ok : goal.returns-in-NoSuchAnswer-clause-ok
returns-in-NoSuchAnswer-clause-ok g c =
    let i = c.self.inside in
    subst (λ (w : ClientAndServer). EventLeadsToWithReport w (editor_acts (apply c.args.k)) nothing (model_from_fields c.apply_answer.new.self i.to_server.items i.session i.to_editor.items i.applied.items i.made.items)) (ap (λ (w : Connection). w.model) c.self.view_is)
    (not_held_happens i.editor c.apply_answer.new.self c.args.k i.to_server.items i.to_editor.items i.session i.applied.items i.made.items
    (subst (λ x. IsApplyOutcome (act_result i.editor (apply c.args.k)) (is_some (edits_of_answer_to_request c.args.k i.editor.answers)) x c.apply_answer.new.self) c.in-NoSuchAnswer.is c.in_ok-apply_answer.ensures.ok) c.self.invariant)

pub returns-in-NoSuchAnswer-clause-wire : goal.returns-in-NoSuchAnswer-clause-wire
returns-in-NoSuchAnswer-clause-wire g c =
    let i = c.self.inside in
    subst (λ (w : Connection). AppendsAtMostOneContent w.wire (wire_from_fields i.session i.taken.items i.to_server.items i.got.items i.to_editor.items)) c.self.view_is
    (writes_none i.session i.taken.items i.to_server.items i.got.items i.to_editor.items)

pub returns-in-Dropped-clause-ok : goal.returns-in-Dropped-clause-ok
returns-in-Dropped-clause-ok g c =
    let i = c.self.inside in
    subst (λ (w : ClientAndServer). EventLeadsToWithReport w (editor_acts (apply c.args.k)) (drops c.args.k) (model_from_fields c.apply_answer.new.self i.to_server.items i.session i.to_editor.items i.applied.items i.made.items)) (ap (λ (w : Connection). w.model) c.self.view_is)
    (dropped_happens i.editor c.apply_answer.new.self c.args.k i.to_server.items i.to_editor.items i.session i.applied.items i.made.items
    (subst (λ x. IsApplyOutcome (act_result i.editor (apply c.args.k)) (is_some (edits_of_answer_to_request c.args.k i.editor.answers)) x c.apply_answer.new.self) c.in-Dropped.is c.in_ok-apply_answer.ensures.ok) c.self.invariant)

pub returns-in-Dropped-clause-wire : goal.returns-in-Dropped-clause-wire
returns-in-Dropped-clause-wire g c =
    let i = c.self.inside in
    subst (λ (w : Connection). AppendsAtMostOneContent w.wire (wire_from_fields i.session i.taken.items i.to_server.items i.got.items i.to_editor.items)) c.self.view_is
    (writes_none i.session i.taken.items i.to_server.items i.got.items i.to_editor.items)

pub returns-in_ok-push-in-EditsMade-clause-ok : goal.returns-in_ok-push-in-EditsMade-clause-ok
returns-in_ok-push-in-EditsMade-clause-ok g c =
    let i = c.self.inside in
    subst (λ (w : ClientAndServer). EventLeadsToWithReport w (editor_acts (apply c.args.k)) (applies c.args.k) (model_from_fields c.apply_answer.new.self c.push_back.new.self.items i.session i.to_editor.items c.push.new.self.items i.made.items)) (ap (λ (w : Connection). w.model) c.self.view_is)
    (made_happens i.editor c.apply_answer.new.self c.args.k c.in-EditsMade.applied c.in-EditsMade.content i.to_server.items c.push_back.new.self.items i.to_editor.items i.session i.applied.items c.push.new.self.items i.made.items
    (subst (λ x. IsApplyOutcome (act_result i.editor (apply c.args.k)) (is_some (edits_of_answer_to_request c.args.k i.editor.answers)) x c.apply_answer.new.self) c.in-EditsMade.is c.in_ok-apply_answer.ensures.ok)
    c.in_ok-push_back-in-EditsMade.ensures.items c.in_ok-push-in-EditsMade.ensures.items c.self.invariant)

pub returns-in_ok-push-in-EditsMade-clause-wire : goal.returns-in_ok-push-in-EditsMade-clause-wire
returns-in_ok-push-in-EditsMade-clause-wire g c =
    let i = c.self.inside in
    subst (λ (w : Connection). AppendsAtMostOneContent w.wire (wire_from_fields i.session i.taken.items c.push_back.new.self.items i.got.items i.to_editor.items)) c.self.view_is
    (writes_one i.session i.taken.items i.to_server.items i.got.items i.to_editor.items c.push_back.new.self.items c.in-EditsMade.content c.in_ok-push_back-in-EditsMade.ensures.items)
