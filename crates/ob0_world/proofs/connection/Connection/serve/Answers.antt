use Rattle.std.proofs.Common.{◌∙◌, [], ◌∷◌, ◌++◌, cond, inr, ap, sym, subst}
use Rattle.std.specs.Prelude.{is_ok}
use Rattle.std.specs.Option.{option_to_list}
use Rattle.std.proofs.lemmas.List.{append-nil}
use Rattle.ob0_session_server.specs.Answers.{Answers}
use Rattle.ob0_world_rules.specs.ClientAndServer.{ClientAndServer}
use Rattle.ob0_world_rules.specs.Events.{serve}
use Rattle.ob0_world.specs.EventReport.{served, EventLeadsToWithReport}
use Rattle.ob0_world.specs.Queues.{bytes_of_contents, model_from_fields, wire_from_fields, publication_in_first_content}
use Rattle.ob0_world.specs.Worlds.{Connection, SessionTakesFirstContent}
use Rattle.ob0_world.proofs.Serving.{turn, rest_sound, turn_running, turn_sound, turn_happens, turn_taken}
use Rattle.ob0_world.proofs.connection.Connection.serve.Goals as goal
use Rattle.ob0_world.proofs.connection.Connection.serve.Goals.{in-Some-made, in_default-made}

pub invariant_of-self-in_err-sent : goal.invariant_of-self-in_err-sent
invariant_of-self-in_err-sent g c =
    rest_sound c.self.inside.editor.requested c.self.inside.to_server.items c.pop_front.new.self.items c.self.inside.to_editor.items c.self.inside.session c.give_content_to_session.new.session c.in-Some.content c.in-Some.ensures.items c.self.invariant (inr c.in_err-sent.ensures.err)

pub invariant_of-self-in_err-made : goal.invariant_of-self-in_err-made
invariant_of-self-in_err-made g c =
    rest_sound c.self.inside.editor.requested c.self.inside.to_server.items c.pop_front.new.self.items c.self.inside.to_editor.items c.self.inside.session c.give_content_to_session.new.session c.in-Some.content c.in-Some.ensures.items c.self.invariant
    (turn_running c.self.inside.editor c.self.inside.to_server.items c.pop_front.new.self.items c.self.inside.session c.give_content_to_session.new.session c.in-Some.content c.in_ok-sent.sent.items
    (turn c.self.inside.editor c.self.inside.to_server.items c.pop_front.new.self.items c.self.inside.to_editor.items c.self.inside.session c.give_content_to_session.new.session c.in-Some.content c.in_ok-sent.sent.items c.in-Some.ensures.items c.self.invariant
    (subst (λ x. Answers c.self.inside.session x (bytes_of_contents c.in_ok-sent.sent.items) c.give_content_to_session.new.session) c.as_slice.ensures.value c.in_ok-sent.ensures.ok)))

pub invariant_of-self-in_err-reserve : goal.invariant_of-self-in_err-reserve
invariant_of-self-in_err-reserve g c =
    rest_sound c.self.inside.editor.requested c.self.inside.to_server.items c.pop_front.new.self.items c.self.inside.to_editor.items c.self.inside.session c.give_content_to_session.new.session c.in-Some.content c.in-Some.ensures.items c.self.invariant
    (turn_running c.self.inside.editor c.self.inside.to_server.items c.pop_front.new.self.items c.self.inside.session c.give_content_to_session.new.session c.in-Some.content c.in_ok-sent.sent.items
    (turn c.self.inside.editor c.self.inside.to_server.items c.pop_front.new.self.items c.self.inside.to_editor.items c.self.inside.session c.give_content_to_session.new.session c.in-Some.content c.in_ok-sent.sent.items c.in-Some.ensures.items c.self.invariant
    (subst (λ x. Answers c.self.inside.session x (bytes_of_contents c.in_ok-sent.sent.items) c.give_content_to_session.new.session) c.as_slice.ensures.value c.in_ok-sent.ensures.ok)))

pub invariant_of-self-in_err-reserve-2 : goal.invariant_of-self-in_err-reserve-2
invariant_of-self-in_err-reserve-2 g c =
    rest_sound c.self.inside.editor.requested c.self.inside.to_server.items c.pop_front.new.self.items c.self.inside.to_editor.items c.self.inside.session c.give_content_to_session.new.session c.in-Some.content c.in-Some.ensures.items c.self.invariant
    (turn_running c.self.inside.editor c.self.inside.to_server.items c.pop_front.new.self.items c.self.inside.session c.give_content_to_session.new.session c.in-Some.content c.in_ok-sent.sent.items
    (turn c.self.inside.editor c.self.inside.to_server.items c.pop_front.new.self.items c.self.inside.to_editor.items c.self.inside.session c.give_content_to_session.new.session c.in-Some.content c.in_ok-sent.sent.items c.in-Some.ensures.items c.self.invariant
    (subst (λ x. Answers c.self.inside.session x (bytes_of_contents c.in_ok-sent.sent.items) c.give_content_to_session.new.session) c.as_slice.ensures.value c.in_ok-sent.ensures.ok)))

pub invariant_of-self-in_err-append : goal.invariant_of-self-in_err-append
invariant_of-self-in_err-append g c =
    turn_sound c.self.inside.editor c.self.inside.to_server.items c.pop_front.new.self.items c.self.inside.to_editor.items c.append.new.self.items c.self.inside.session c.give_content_to_session.new.session c.in-Some.content c.in_ok-sent.sent.items (is_ok c.append.result) c.in-Some.ensures.items c.self.invariant
    (turn c.self.inside.editor c.self.inside.to_server.items c.pop_front.new.self.items c.self.inside.to_editor.items c.self.inside.session c.give_content_to_session.new.session c.in-Some.content c.in_ok-sent.sent.items c.in-Some.ensures.items c.self.invariant
    (subst (λ x. Answers c.self.inside.session x (bytes_of_contents c.in_ok-sent.sent.items) c.give_content_to_session.new.session) c.as_slice.ensures.value c.in_ok-sent.ensures.ok))
    (c.append.ensures.items ∙ ap (λ x. cond (is_ok c.append.result) (c.self.inside.to_editor.items ++ x) c.self.inside.to_editor.items) c.from_vec.ensures.items)

pub invariant_of-self-in-Some-made : goal.invariant_of-self-in-Some-made
invariant_of-self-in-Some-made g c =
    turn_sound c.self.inside.editor c.self.inside.to_server.items c.pop_front.new.self.items c.self.inside.to_editor.items c.append.new.self.items c.self.inside.session c.give_content_to_session.new.session c.in-Some.content c.in_ok-sent.sent.items (is_ok c.append.result) c.in-Some.ensures.items c.self.invariant
    (turn c.self.inside.editor c.self.inside.to_server.items c.pop_front.new.self.items c.self.inside.to_editor.items c.self.inside.session c.give_content_to_session.new.session c.in-Some.content c.in_ok-sent.sent.items c.in-Some.ensures.items c.self.invariant
    (subst (λ x. Answers c.self.inside.session x (bytes_of_contents c.in_ok-sent.sent.items) c.give_content_to_session.new.session) c.as_slice.ensures.value c.in_ok-sent.ensures.ok))
    (c.append.ensures.items ∙ ap (λ x. cond (is_ok c.append.result) (c.self.inside.to_editor.items ++ x) c.self.inside.to_editor.items) c.from_vec.ensures.items)

pub invariant_of-self-in_default-made : goal.invariant_of-self-in_default-made
invariant_of-self-in_default-made g c =
    turn_sound c.self.inside.editor c.self.inside.to_server.items c.pop_front.new.self.items c.self.inside.to_editor.items c.append.new.self.items c.self.inside.session c.give_content_to_session.new.session c.in-Some.content c.in_ok-sent.sent.items (is_ok c.append.result) c.in-Some.ensures.items c.self.invariant
    (turn c.self.inside.editor c.self.inside.to_server.items c.pop_front.new.self.items c.self.inside.to_editor.items c.self.inside.session c.give_content_to_session.new.session c.in-Some.content c.in_ok-sent.sent.items c.in-Some.ensures.items c.self.invariant
    (subst (λ x. Answers c.self.inside.session x (bytes_of_contents c.in_ok-sent.sent.items) c.give_content_to_session.new.session) c.as_slice.ensures.value c.in_ok-sent.ensures.ok))
    (c.append.ensures.items ∙ ap (λ x. cond (is_ok c.append.result) (c.self.inside.to_editor.items ++ x) c.self.inside.to_editor.items) c.from_vec.ensures.items)

pub returns-clause-ok : goal.returns-clause-ok
returns-clause-ok g c =
    elim c.match-made-4.branch [
      | in-Some-made w ↦
          subst (λ (x : Connection). EventLeadsToWithReport c.args.self.now.model serve (served c.len-count.result) x.model) (sym w.self-is)
          (subst (λ (x : ClientAndServer). EventLeadsToWithReport x serve (served c.len-count.result) (model_from_fields c.self.inside.editor c.pop_front.new.self.items c.give_content_to_session.new.session c.append.new.self.items c.self.inside.applied.items w.push_reserved-in-Some-made.new.self.items)) (ap (λ (w : Connection). w.model) c.self.view_is)
          (turn_happens c.self.inside.editor c.self.inside.to_server.items c.pop_front.new.self.items c.self.inside.to_editor.items c.append.new.self.items c.self.inside.session c.give_content_to_session.new.session c.self.inside.applied.items c.self.inside.made.items w.push_reserved-in-Some-made.new.self.items c.in-Some.content c.in_ok-sent.sent.items c.documents.result.now c.in_ok-made.made c.len-count.result c.in-Some.ensures.items
          (turn c.self.inside.editor c.self.inside.to_server.items c.pop_front.new.self.items c.self.inside.to_editor.items c.self.inside.session c.give_content_to_session.new.session c.in-Some.content c.in_ok-sent.sent.items c.in-Some.ensures.items c.self.invariant
          (subst (λ x. Answers c.self.inside.session x (bytes_of_contents c.in_ok-sent.sent.items) c.give_content_to_session.new.session) c.as_slice.ensures.value c.in_ok-sent.ensures.ok))
          c.documents.ensures (c.in_ok-made.ensures ∙ ap (publication_in_first_content c.documents.result.now c.self.inside.editor.requested) c.as_slice-2.ensures.value) (c.in_ok-append.ensures.items ∙ ap (λ x. c.self.inside.to_editor.items ++ x) c.from_vec.ensures.items)
          (w.push_reserved-in-Some-made.ensures.items ∙ ap (λ x. x ++ w.in-Some-made.made ∷ []) c.reserve-2.ensures.items ∙ ap (λ o. c.self.inside.made.items ++ option_to_list o) (sym w.in-Some-made.is)) (c.len-count.ensures ∙ c.in_ok-sent.sent.ok.0)))
      | in_default-made w ↦
          subst (λ (x : Connection). EventLeadsToWithReport c.args.self.now.model serve (served c.len-count.result) x.model) (sym w.self-is)
          (subst (λ (x : ClientAndServer). EventLeadsToWithReport x serve (served c.len-count.result) (model_from_fields c.self.inside.editor c.pop_front.new.self.items c.give_content_to_session.new.session c.append.new.self.items c.self.inside.applied.items c.reserve-2.new.self.items)) (ap (λ (w : Connection). w.model) c.self.view_is)
          (turn_happens c.self.inside.editor c.self.inside.to_server.items c.pop_front.new.self.items c.self.inside.to_editor.items c.append.new.self.items c.self.inside.session c.give_content_to_session.new.session c.self.inside.applied.items c.self.inside.made.items c.reserve-2.new.self.items c.in-Some.content c.in_ok-sent.sent.items c.documents.result.now c.in_ok-made.made c.len-count.result c.in-Some.ensures.items
          (turn c.self.inside.editor c.self.inside.to_server.items c.pop_front.new.self.items c.self.inside.to_editor.items c.self.inside.session c.give_content_to_session.new.session c.in-Some.content c.in_ok-sent.sent.items c.in-Some.ensures.items c.self.invariant
          (subst (λ x. Answers c.self.inside.session x (bytes_of_contents c.in_ok-sent.sent.items) c.give_content_to_session.new.session) c.as_slice.ensures.value c.in_ok-sent.ensures.ok))
          c.documents.ensures (c.in_ok-made.ensures ∙ ap (publication_in_first_content c.documents.result.now c.self.inside.editor.requested) c.as_slice-2.ensures.value) (c.in_ok-append.ensures.items ∙ ap (λ x. c.self.inside.to_editor.items ++ x) c.from_vec.ensures.items)
          (c.reserve-2.ensures.items ∙ sym (ap (λ o. c.self.inside.made.items ++ option_to_list o) w.in_default-made.is ∙ append-nil c.self.inside.made.items)) (c.len-count.ensures ∙ c.in_ok-sent.sent.ok.0)))
    ]

pub returns-clause-wire : goal.returns-clause-wire
returns-clause-wire g c =
    let i = c.self.inside in
    let answered = subst (λ x. Answers i.session x (bytes_of_contents c.in_ok-sent.sent.items) c.give_content_to_session.new.session) c.as_slice.ensures.value c.in_ok-sent.ensures.ok in
    let taken = turn_taken i.to_server.items c.pop_front.new.self.items i.to_editor.items c.append.new.self.items i.taken.items c.push_reserved.new.self.items i.got.items i.session c.give_content_to_session.new.session c.in-Some.content c.in_ok-sent.sent.items c.in-Some.ensures.items answered
    (c.in_ok-append.ensures.items ∙ ap (λ x. i.to_editor.items ++ x) c.from_vec.ensures.items) (c.push_reserved.ensures.items ∙ ap (λ x. x ++ c.in-Some.content ∷ []) c.reserve.ensures.items) in
    let after = wire_from_fields c.give_content_to_session.new.session c.push_reserved.new.self.items c.pop_front.new.self.items i.got.items c.append.new.self.items in
    let from_old : SessionTakesFirstContent c.args.self.now.wire.to_server c.args.self.now.wire after = subst (λ (x : Connection). SessionTakesFirstContent x.wire.to_server x.wire after) c.self.view_is taken in
    elim c.match-made-4.branch [
      | in-Some-made w ↦ subst (λ (x : Connection). SessionTakesFirstContent c.args.self.now.wire.to_server c.args.self.now.wire x.wire) (sym w.self-is) from_old
      | in_default-made w ↦ subst (λ (x : Connection). SessionTakesFirstContent c.args.self.now.wire.to_server c.args.self.now.wire x.wire) (sym w.self-is) from_old
    ]
