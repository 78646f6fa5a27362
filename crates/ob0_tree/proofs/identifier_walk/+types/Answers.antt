use Rattle.std.proofs.Common.{◌≡◌, OnOk, sym, ap, ◌∙◌, subst}
use Rattle.ob0_tree.proofs.Viewed.{made_record_type}
use Rattle.ob0_tree.specs.View.{type_of}
use Rattle.ob0_tree.specs.VisitorStates.{state_after_visit}
use Rattle.ob0_tree.proofs.identifier_walk.+types.Goals as goal

pub walk_type-returns-in-Record : goal.walk_type-returns-in-Record
walk_type-returns-in-Record g t c =
    subst (λ z. OnOk c.walk_record_type.result (c.walk_record_type.new.visitor ≡ state_after_visit g.V.Visitor.state_after_one_identifier z c.args.visitor.now))
    (sym (made_record_type c.in-Record.r) ∙ sym (ap type_of c.in-Record.is)) c.walk_record_type.ensures
