use Rattle.std.proofs.Common.{◌≡◌, ap, map, option_map, refl, string_bytes, subst, sym}
use Rattle.std.proofs.Math.Facts.{to_z-of_z}
use Rattle.std.proofs.lemmas.Result.{IfOk-weaker}
use Rattle.std.specs.Option.{option_to_list}
use Rattle.ob0_text.specs.OpenDocuments.{documents_after_change, document_at, text_change_of}
use Rattle.ob0_session_server.specs.Answers.{ServerState, AreContentsOfReply, publication_reply}
use Rattle.ob0_session_server.proofs.Answering.{publishes}
use Rattle.ob0_session_server.proofs.session.Session.change_and_publish_diagnostics.Goals as goal

pub returns : goal.returns
returns g c =
    let uri = string_bytes c.args.uri in
    let reported = c.as_str-2.result.now in
    let held = documents_after_change c.args.self.now.held uri c.args.version (map text_change_of c.args.all.items) in
    let is = rw (to_z-of_z c.ranges.version, ap (λ s. s.held) c.self.view_is) at c.in_ok-did_change.ensures.ok in
    let after : c.diagnostics_message.new.self ≡ record c.args.self.now { held = held } =
    rw (c.diagnostics_message.ensures.same, is, ap (λ s. s.phase) c.self.view_is, ap (λ s. s.client) c.self.view_is, c.as_str.ensures.value) refl in
    IfOk-weaker c.diagnostics_message.result _ _ (λ sent said.
    publishes c.args.self.now c.diagnostics_message.new.self uri reported held sent c.as_str-2.ensures.value after
    (subst (λ (s : ServerState). AreContentsOfReply (publication_reply s.held.unit reported (document_at s.held reported)) (option_to_list (option_map (λ v. v.items) sent))) (sym c.diagnostics_message.ensures.same) said)) c.diagnostics_message.ensures.says
