-- One edit that writes the literals and removes the declaration gives the same module as two edits
-- that do this one after the other.
use Rattle.std.proofs.Common.{ap, arith, eqb-true, false, if◌then◌else◌, length, ne_eqb, refl, suc, sym, true, ℕ, ◌+◌, ◌<◌, ◌==◌, ◌∙◌, ◌∷◌, ◌≡◌}
use Rattle.ob0_tree.specs.Tree.{Tree, block, constant, constants, declares, declares_constant, declares_const_section, declares_procedure, end, factor, forms_block, forms_module, item, items, maybe, module_text, more, none, occurrences, one, procedure}
use Rattle.ob0_language_names.specs.Inlining.{OccurrenceSet, block_without_constant, inline_in_tree, inlined, module_without_constant, procedure_without_constant, procedure_list_without_constant, section_without_constant, constant_list_without_constant}
use Rattle.ob0_language_names.specs.Names.{Name}
use Rattle.ob0_language_names.specs.BlockParts.{constant_names, formal_parameter_names, formal_parameter_sections, section_constants}
use Rattle.ob0_language_names.specs.Scopes.{ordinal_after_block, ordinal_after_names, ordinal_after_procedure, ordinal_after_procedure_list, first_procedure_ordinal}
use Rattle.ob0_language_names.proofs.EditedOnce.{formal_parameter_names-leaf, type_definitions-leaf, variable_names-leaf}
use Rattle.ob0_language_names.proofs.EditedTrees.{Edit, edited, edited_block, edited_constants, edited_procedure, edited_procedures, edited_section, writing}

abbrev pub everywhere : OccurrenceSet → Tree Name factor → ℕ → Edit
everywhere uses v d = record { uses = uses; literal = v; constant = d; gone = true }

constant_names-inlined : (uses : OccurrenceSet) (v : Tree Name factor) (j : ℕ) (cs : Tree Name (items constant)) → constant_names (inline_in_tree uses v j cs) ≡ constant_names cs
constant_names-inlined uses v j end = refl
constant_names-inlined uses v j (more (declares_constant x e) cs) = λ i. x ∷ constant_names-inlined uses v (j + length (occurrences e)) cs i

parameter_section_names-inlined : (uses : OccurrenceSet) (v : Tree Name factor) (j : ℕ) (cs : Tree Name (maybe constants)) → constant_names (section_constants (inline_in_tree uses v j cs)) ≡ constant_names (section_constants cs)
parameter_section_names-inlined uses v j none = refl
parameter_section_names-inlined uses v j (one (declares_const_section cs)) = constant_names-inlined uses v j cs

-- Inlining leaves the ordinals of a tree's declarations unchanged.
pub first_procedure_ordinal-inlined : (uses : OccurrenceSet) (v : Tree Name factor) (d j k : ℕ) (b : Tree Name block) → first_procedure_ordinal k (inline_in_tree uses v j b) ≡ first_procedure_ordinal k b
first_procedure_ordinal-inlined uses v d j k (forms_block (declares cs ts vs ps) statements) = λ i.
    ordinal_after_names (ordinal_after_names (ordinal_after_names k (parameter_section_names-inlined uses v j cs i)) (type_definitions-leaf (writing uses v d) (j + length (occurrences cs)) ts i)) (variable_names-leaf (writing uses v d) (j + length (occurrences cs) + length (occurrences ts)) vs i)

mutual
  ordinal_after_block-inlined : (uses : OccurrenceSet) (v : Tree Name factor) (d j k : ℕ) (b : Tree Name block) → ordinal_after_block k (inline_in_tree uses v j b) ≡ ordinal_after_block k b
  ordinal_after_block-inlined uses v d j k (forms_block (declares cs ts vs ps) statements) =
      let b : Tree Name block = forms_block (declares cs ts vs ps) statements in
      let jp : ℕ = j + length (occurrences cs) + length (occurrences ts) + length (occurrences vs) in
      ap (λ n. ordinal_after_procedure_list n (inline_in_tree uses v jp ps)) (first_procedure_ordinal-inlined uses v d j k b) ∙ ordinal_after_procedure_list-inlined uses v d jp (first_procedure_ordinal k b) ps

  ordinal_after_procedure_list-inlined : (uses : OccurrenceSet) (v : Tree Name factor) (d j k : ℕ) (ps : Tree Name (items procedure)) → ordinal_after_procedure_list k (inline_in_tree uses v j ps) ≡ ordinal_after_procedure_list k ps
  ordinal_after_procedure_list-inlined uses v d j k end = refl
  ordinal_after_procedure_list-inlined uses v d j k (more p rest) =
      ap (λ n. ordinal_after_procedure_list n (inline_in_tree uses v (j + length (occurrences p)) rest)) (ordinal_after_procedure-inlined uses v d j (suc k) p) ∙ ordinal_after_procedure_list-inlined uses v d (j + length (occurrences p)) (ordinal_after_procedure (suc k) p) rest

  ordinal_after_procedure-inlined : (uses : OccurrenceSet) (v : Tree Name factor) (d j k : ℕ) (p : Tree Name (item procedure)) → ordinal_after_procedure k (inline_in_tree uses v j p) ≡ ordinal_after_procedure k p
  ordinal_after_procedure-inlined uses v d j k (declares_procedure x fs b closing) =
      ap (λ xs. ordinal_after_block (ordinal_after_names k xs) (inline_in_tree uses v (j + length (occurrences fs)) b)) (formal_parameter_names-leaf (writing uses v d) j fs) ∙ ordinal_after_block-inlined uses v d (j + length (occurrences fs)) (ordinal_after_names k (formal_parameter_names (formal_parameter_sections fs))) b

gone-later : (uses : OccurrenceSet) (v : Tree Name factor) (d j k : ℕ) (cs : Tree Name (items constant)) → d < k → edited_constants (everywhere uses v d) j k cs ≡ inline_in_tree uses v j cs
gone-later uses v d j k end h = refl
gone-later uses v d j k (more (declares_constant x e) cs) h =
    ap (λ b. if b then edited_constants (everywhere uses v d) (j + length (occurrences e)) (suc k) cs else more (declares_constant x (inline_in_tree uses v j e)) (edited_constants (everywhere uses v d) (j + length (occurrences e)) (suc k) cs))
    (ne_eqb k d (λ e. omega (arith, e, h)))
    ∙ (λ i. more (declares_constant x (inline_in_tree uses v j e)) (gone-later uses v d (j + length (occurrences e)) (suc k) cs (omega (arith, h)) i))

gone-constants : (uses : OccurrenceSet) (v : Tree Name factor) (d j k : ℕ) (cs : Tree Name (items constant)) → edited_constants (everywhere uses v d) j k cs ≡ constant_list_without_constant d k (inline_in_tree uses v j cs)
gone-constants uses v d j k end = refl
gone-constants uses v d j k (more (declares_constant x e) cs) =
    (elim (k == d) as (λ b. k == d ≡ b → (if b then edited_constants (everywhere uses v d) (j + length (occurrences e)) (suc k) cs else more (declares_constant x (inline_in_tree uses v j e)) (edited_constants (everywhere uses v d) (j + length (occurrences e)) (suc k) cs))
    ≡ (if b then inline_in_tree uses v (j + length (occurrences e)) cs else more (declares_constant x (inline_in_tree uses v j e)) (constant_list_without_constant d (suc k) (inline_in_tree uses v (j + length (occurrences e)) cs)))) [
      | true ↦ λ h. gone-later uses v d (j + length (occurrences e)) (suc k) cs (omega (arith, eqb-true k d h))
      | false ↦ λ h i. more (declares_constant x (inline_in_tree uses v j e)) (gone-constants uses v d (j + length (occurrences e)) (suc k) cs i)
    ]) refl

gone-section : (uses : OccurrenceSet) (v : Tree Name factor) (d j k : ℕ) (cs : Tree Name (maybe constants)) → edited_section (everywhere uses v d) j k cs ≡ section_without_constant d k (inline_in_tree uses v j cs)
gone-section uses v d j k none = refl
gone-section uses v d j k (one (declares_const_section cs)) = λ i. one (declares_const_section (gone-constants uses v d j k cs i))

mutual
  gone-block : (uses : OccurrenceSet) (v : Tree Name factor) (d j k : ℕ) (b : Tree Name block) → edited_block (everywhere uses v d) j k b ≡ block_without_constant d k (inline_in_tree uses v j b)
  gone-block uses v d j k (forms_block (declares cs ts vs ps) statements) =
      let b : Tree Name block = forms_block (declares cs ts vs ps) statements in
      let jp : ℕ = j + length (occurrences cs) + length (occurrences ts) + length (occurrences vs) in
      λ i. forms_block
      (declares (gone-section uses v d j k cs i) (inline_in_tree uses v (j + length (occurrences cs)) ts) (inline_in_tree uses v (j + length (occurrences cs) + length (occurrences ts)) vs)
      ((gone-procedures uses v d jp (first_procedure_ordinal k b) ps ∙ ap (λ n. procedure_list_without_constant d n (inline_in_tree uses v jp ps)) (sym (first_procedure_ordinal-inlined uses v d j k b))) i))
      (inline_in_tree uses v (j + length (occurrences (declares cs ts vs ps))) statements)

  gone-procedures : (uses : OccurrenceSet) (v : Tree Name factor) (d j k : ℕ) (ps : Tree Name (items procedure)) → edited_procedures (everywhere uses v d) j k ps ≡ procedure_list_without_constant d k (inline_in_tree uses v j ps)
  gone-procedures uses v d j k end = refl
  gone-procedures uses v d j k (more p rest) = λ i.
      more (gone-procedure uses v d j (suc k) p i)
      ((gone-procedures uses v d (j + length (occurrences p)) (ordinal_after_procedure (suc k) p) rest ∙ ap (λ n. procedure_list_without_constant d n (inline_in_tree uses v (j + length (occurrences p)) rest)) (sym (ordinal_after_procedure-inlined uses v d j (suc k) p))) i)

  gone-procedure : (uses : OccurrenceSet) (v : Tree Name factor) (d j k : ℕ) (p : Tree Name (item procedure)) → edited_procedure (everywhere uses v d) j k p ≡ procedure_without_constant d k (inline_in_tree uses v j p)
  gone-procedure uses v d j k (declares_procedure x fs b closing) = λ i.
      declares_procedure x (inline_in_tree uses v j fs)
      ((gone-block uses v d (j + length (occurrences fs)) (ordinal_after_names k (formal_parameter_names (formal_parameter_sections fs))) b
      ∙ ap (λ xs. block_without_constant d (ordinal_after_names k xs) (inline_in_tree uses v (j + length (occurrences fs)) b)) (sym (formal_parameter_names-leaf (writing uses v d) j fs))) i) closing

pub gone-module : (uses : OccurrenceSet) (v : Tree Name factor) (d : ℕ) (m : Tree Name module_text) → edited (everywhere uses v d) m ≡ module_without_constant d (inlined m uses v)
gone-module uses v d (forms_module x b closing) = λ i. forms_module x (gone-block uses v d 0 7 b i) closing
