use Rattle.std.proofs.Common.{◌≡◌, ◌++◌, IfOk, sym, ap, ◌∙◌, subst}
use Rattle.ob0_tree.proofs.Viewed.{made_record_type}
use Rattle.ob0_tree.specs.View.{type_of}
use Rattle.ob0_layout.specs.LineRoles.{line_roles}
use Rattle.ob0_layout.proofs.token_line_roles.+types.Goals as goal

pub add_written_type_roles-returns-in-Record : goal.add_written_type_roles-returns-in-Record
add_written_type_roles-returns-in-Record t c =
    subst (λ z. IfOk c.add_record_type_roles.result (λ _. c.add_record_type_roles.new.out.items ≡ c.args.out.now.items ++ z))
    (ap (line_roles 0) (sym (made_record_type c.in-Record.r) ∙ sym (ap type_of c.in-Record.is))) c.add_record_type_roles.ensures
