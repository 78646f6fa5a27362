-- Proves which refusal of an inlining is the first, given the facts about the edits or about their
-- refusal.
use Rattle.std.proofs.Common.{◌≡◌, ◌⊎◌, ℕ, ◌<◌, ◌≤◌, if◌then◌else◌, nat_lt, Option, Some, List, length, sym, ap, ◌∙◌, inl, inr}
use Rattle.std.proofs.lemmas.Bool.{le-ltb, lt-ltb}
use Rattle.ob0_scan.specs.TextWithTokens.{max_text_length}
use Rattle.ob0_text.specs.declared.edits.Edit.{Edit}
use Rattle.ob0_text.specs.declared.position_types.Unit as counting
use Rattle.ob0_text.specs.declared.refusals.EditRefusal.{EditRefusal}
use Rattle.ob0_text.specs.declared.refusals.EditRefusal.TheVariants.{Memory, TooDeep, TooLong}
use Rattle.ob0_tree.specs.Tree.{Tree, module_text, nesting}
use Rattle.ob0_inline.specs.EditedModuleTexts.{EditedTextHasTree, size_refusal_or_other}

-- States that the edits leave this text. If the constant's names are factors by themselves, it is a
-- text of the module.
pub record MakeText (alone : Type 0) (new : List ℕ) (t : Tree (List ℕ) module_text) (unit : counting.Unit) (text : List ℕ) (edits : List Edit) : Type 0 where
  pub leaves : alone → EditedTextHasTree unit text edits t
  pub short : length new ≤ max_text_length

pub record Refused (alone : Type 0) (new : List ℕ) (t : Tree (List ℕ) module_text) (refusal : EditRefusal) : Type 0 where
  pub too_long : refusal ≡ TooLong → max_text_length < length new
  pub too_deep : alone → refusal ≡ TooDeep → 100 < nesting t
  pub deep_and_short : refusal ≡ TooDeep → length new ≤ max_text_length
  pub one_of : (refusal ≡ TooLong) ⊎ ((refusal ≡ TooDeep) ⊎ (refusal ≡ Memory))

module _ (alone : Type 0) (so : alone) (new : List ℕ) (t : Tree (List ℕ) module_text) (other : Option EditRefusal) where
  pub other_is_first : (unit : counting.Unit) (text : List ℕ) (edits : List Edit) → MakeText alone new t unit text edits → size_refusal_or_other new t other ≡ other
  other_is_first unit text edits h = λ i.
      if le-ltb max_text_length (length new) h.short i then Some TooLong else if le-ltb 100 (nesting t) (h.leaves so).module_of.shallow i then Some TooDeep else other

  pub refused_first : (refusal : EditRefusal) → Refused alone new t refusal → (size_refusal_or_other new t other ≡ Some refusal) ⊎ (refusal ≡ Memory)
  refused_first refusal h =
      elim h.one_of [
        | inl e ↦ inl (ap (λ b. if b then Some TooLong else if nat_lt 100 (nesting t) then Some TooDeep else other) (lt-ltb max_text_length (length new) (h.too_long e)) ∙ ap Some (sym e))
        | inr rest ↦
            elim rest [
              | inl e ↦
                  let deep : size_refusal_or_other new t other ≡ Some TooDeep =
                  λ i. if le-ltb max_text_length (length new) (h.deep_and_short e) i then Some TooLong else if lt-ltb 100 (nesting t) (h.too_deep so e) i then Some TooDeep else other in
                  inl (deep ∙ ap Some (sym e))
              | inr e ↦ inr e
            ]
      ]
