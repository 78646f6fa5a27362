use Rattle.std.proofs.Common.{◌≡◌, List, [], ◌∷◌, refl, sym, ap, ◌∙◌}
use Rattle.ob0_tree.specs.declared.tree.ParameterSection.{ParameterSection}
use Rattle.ob0_tree.specs.CappedDepth.{capped_to_u32}
use Rattle.ob0_tree.specs.Tree.{nesting}
use Rattle.ob0_tree.specs.View.{items_of, parameter_section_after_semicolon_of, formals_of_list, formals_of}
use Rattle.ob0_tree.proofs.Deepest.{deeper_on, list_ends}
use Rattle.ob0_tree.proofs.nesting.formals_nesting.Goals as goal

sections_nest : (ss : List ParameterSection) → nesting (items_of parameter_section_after_semicolon_of ss) ≡ nesting (formals_of_list ss)
sections_nest [] = refl
sections_nest (s ∷ ss) = refl

pub loop-s-preserved : goal.loop-s-preserved
loop-s-preserved c = deeper_on parameter_section_after_semicolon_of c.s-item.result c.loop-s.invariant c.loop-s-test.true c.s-item.is c.parameter_section_nesting.ensures c.max-deepest.ensures

pub returns : goal.returns
returns c =
    list_ends c.loop-s.invariant c.loop-s-test.false
    ∙ ap capped_to_u32 (ap (λ xs. nesting (items_of parameter_section_after_semicolon_of xs)) c.deref-s-items.ensures.value ∙ (sections_nest c.in-Some.sections.items ∙ sym (ap (λ o. nesting (formals_of o)) c.in-Some.is)))
