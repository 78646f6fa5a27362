use Rattle.std.specs.Prelude.{[], ◌∷◌, ◌++◌}
use Rattle.std.proofs.Common.{◌≡◌, ◌∙◌, ap, append-nil, subst, sym}
use Rattle.std.proofs.lemmas.List.{append_cancel_left}
use Rattle.std.specs.List.{flat_map}
use Rattle.ob0_frame.specs.Frames.{frame}
use Rattle.ob0_session_server.specs.Answers.{initial_server_state, IsConversation}
use Rattle.ob0_world.proofs.Conversing.{conversation_then}
use Rattle.ob0_world_determined.specs.DeterminedOutput.{ServeMayReturn}
use Rattle.ob0_world_determined.proofs.laws.serve_guarantees_hold_for_every_exchange.Goals as goal

pub returns : goal.returns
returns c unit begin now turns begins leads =
    let holds = c.guarantees_hold_for_every_exchange.ensures unit begin now turns begins leads in
    record {
      holds = holds;
      written = λ short more put result written served.
          let sent = now.wire.got ++ now.wire.to_editor in
          let first = c.serve_answers_prefix_like_session.ensures now.wire.taken sent now.wire.session short holds.conversation more put result written served in (
            first.0,
            first.1,
            λ none.
                let bytes : flat_map frame now.wire.taken ++ more ≡ flat_map frame now.wire.taken = ap (λ xs. flat_map frame now.wire.taken ++ xs) none ∙ append-nil (flat_map frame now.wire.taken) in
                let all : put ≡ flat_map frame sent = c.serve_answers_like_session.ensures now.wire.taken sent now.wire.session short holds.conversation put result written (subst (λ xs. ServeMayReturn result xs put) bytes served) in
                append_cancel_left (flat_map frame sent) first.0 [] (sym first.1 ∙ all ∙ sym (append-nil (flat_map frame sent))),
          );
      ended = λ id shutdown exit is_shutdown is_exit sent end talked short more put result written served.
          c.serve_ends_like_session.ensures (now.wire.taken ++ shutdown ∷ exit ∷ []) ((now.wire.got ++ now.wire.to_editor) ++ sent) end 0 short
          (conversation_then initial_server_state now.wire.taken (now.wire.got ++ now.wire.to_editor) now.wire.session (shutdown ∷ exit ∷ []) sent end holds.conversation talked)
          (holds.ends id shutdown exit is_shutdown is_exit sent end talked).ended more put result written served;
      answered_at_reads = λ short steps more owes given.
          c.serve_has_answered_at_reads.ensures now.wire.taken (now.wire.got ++ now.wire.to_editor) now.wire.session short holds.conversation steps more owes given;
      written_after_memory_fault = λ taken put part are.
          part.frames
          ∙ ap (flat_map frame)
          (c.conversation_is_determined.ensures initial_server_state now.wire.taken part.sent (now.wire.got ++ now.wire.to_editor) part.after now.wire.session
          (subst (λ contents. IsConversation initial_server_state contents part.sent part.after) are part.conversation) holds.conversation).0;
    }
