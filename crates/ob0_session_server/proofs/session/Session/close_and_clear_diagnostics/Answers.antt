use Rattle.std.proofs.Common.{◌≡◌, [], ap, refl, sym, ◌∙◌, true}
use Rattle.std.specs.Prelude.{is_some}
use Rattle.ob0_text.specs.OpenDocuments.{document_at}
use Rattle.ob0_session_server.proofs.session.Session.close_and_clear_diagnostics.Goals as goal

pub returns : goal.returns
returns g c =
    let there : is_some (document_at c.args.self.now.held c.args.uri.now) ≡ true = rw (← ap (λ s. s.held) c.self.view_is) (sym c.did_close.ensures.was_open ∙ c.if-not-did_close.false) in (
      rw (c.did_close.ensures.after, ap (λ s. s.held) c.self.view_is, ap (λ s. s.phase) c.self.view_is, ap (λ s. s.client) c.self.view_is) refl,
      rw there (_, refl, c.in_ok-publication.ensures [] (rw c.new-none.ensures.items refl)),
    )
