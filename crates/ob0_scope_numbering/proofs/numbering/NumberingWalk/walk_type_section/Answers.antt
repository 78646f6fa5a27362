use Rattle.std.proofs.Common.{sym, ap, ◌∙◌}
use Rattle.ob0_tree.specs.View.{items_of, type_section_of, type_declaration_of}
use Rattle.ob0_scope_numbering.specs.IdentifierWalk.{visit_type_section, visit_types}
use Rattle.ob0_scope_numbering.proofs.Going.{gone_through}
use Rattle.ob0_scope_numbering.proofs.numbering.NumberingWalk.walk_type_section.Goals as goal

pub returns-after-loop-t : goal.returns-after-loop-t
returns-after-loop-t c = gone_through (λ xs. visit_types (items_of type_declaration_of xs)) c.loop-t.invariant c.loop-t-test.false
    ∙ (ap (λ xs. visit_types (items_of type_declaration_of xs) c.args.self.now) c.deref-t-items.ensures.value ∙ sym (ap (λ s. visit_type_section (type_section_of s) c.args.self.now) c.in-Some.is))
