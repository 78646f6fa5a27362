use Rattle.std.proofs.Common.{◌≡◌, ◌++◌, ℕ, Bool, true, false, List, [], ◌∷◌, refl, sym, ap, ◌∙◌, cond}
use Rattle.ob0_language_names.specs.BlockParts.{formal_parameter_names, formal_parameter_sections, names_in_list, parameter_section_names}
use Rattle.ob0_tree.specs.declared.tree.ParameterSection.{ParameterSection}
use Rattle.ob0_tree.specs.Tree.{Tree, names, one, value_section, variable_section, written_type}
use Rattle.ob0_tree.specs.View.{formals_of_list, formals_of, parameter_section_after_semicolon_of, items_of, names_of, type_of}
use Rattle.ob0_scope.proofs.Checking.{gathered, gathers_on}
use Rattle.ob0_scope.proofs.declaration_checks.append_formal_parameter_names.Goals as goal

either_section : (by_reference : Bool) (ns : Tree ℕ names) (t : Tree ℕ written_type) → parameter_section_names (cond by_reference (variable_section ns t) (value_section ns t)) ≡ names_in_list ns
either_section true ns t = refl
either_section false ns t = refl

pub loop-s-preserved : goal.loop-s-preserved
loop-s-preserved c =
    let s = c.s-item.result in
    gathers_on (λ xs. formal_parameter_names (items_of parameter_section_after_semicolon_of xs)) s (names_in_list (names_of s.names)) (λ rest. ap (λ ns. ns ++ formal_parameter_names (items_of parameter_section_after_semicolon_of rest)) (either_section s.by_reference (names_of s.names) (type_of s.written))) c.loop-s.invariant c.loop-s-test.true c.s-item.is c.in_ok-append_names.ensures

sections_listed : (ss : List ParameterSection) → formal_parameter_names (items_of parameter_section_after_semicolon_of ss) ≡ formal_parameter_names (formal_parameter_sections (one (formals_of_list ss)))
sections_listed [] = refl
sections_listed (s ∷ ss) = refl

pub returns : goal.returns
returns c =
    gathered (λ xs. formal_parameter_names (items_of parameter_section_after_semicolon_of xs)) refl c.loop-s.invariant c.loop-s-test.false
    ∙ ap (λ is. c.args.out.now.items ++ is)
    (ap (λ xs. formal_parameter_names (items_of parameter_section_after_semicolon_of xs)) c.deref-s-items.ensures.value ∙ (sections_listed c.in-Some.sections.items ∙ sym (ap (λ o. formal_parameter_names (formal_parameter_sections (formals_of o))) c.in-Some.is)))
