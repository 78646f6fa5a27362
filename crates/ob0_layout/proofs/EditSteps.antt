-- Proves that each step of the loop over the changed gaps makes the edit of the next gap.
use Rattle.std.proofs.Common.{◌≡◌, ℕ, ◌+◌, ◌<◌, List, [], ◌∷◌, ◌++◌, length, map, take, get_or, sym, ap, ◌∙◌, arith}
use Rattle.std.proofs.lemmas.List.{get_or-map, map-append, map_more, length-map}
use Rattle.ob0_text.specs.declared.edits.Edit.{Edit}
use Rattle.ob0_text.specs.declared.edits.Indent.{Indent}
use Rattle.ob0_text.specs.declared.position_types.Position.{Position}
use Rattle.ob0_text.specs.declared.position_types.Range.{Range}
use Rattle.ob0_text.specs.declared.position_types.Unit as counting
use Rattle.ob0_text.specs.Texts.{position_of}
use Rattle.ob0_text.specs.Units.{width_of}
use Rattle.ob0_edits_tokens.specs.ByteCuts.{edit_of_cut}
use Rattle.ob0_edits_tokens.specs.Replacements.{range_and_text}
use Rattle.ob0_layout.specs.declared.gap_sites.GapSite.{GapSite}
use Rattle.ob0_layout.specs.Cuts.{gap_cut}

-- returns the edit of a gap that the code found
abbrev pub edit_of_site : counting.Unit → List ℕ → Indent → GapSite → Range × List ℕ
edit_of_site unit content indent g = edit_of_cut unit content (gap_cut indent g)

module _ (unit : counting.Unit) (content : List ℕ) (gs : List GapSite) (i : ℕ) (low : i < length gs) (d : GapSite) where
  pub position_at : (part : GapSite → ℕ) (offsets : List ℕ) (ps : List Position) (p : Position) → ps ≡ map (position_of (width_of unit) content) offsets → offsets ≡ map part gs → get_or ps i p ≡ position_of (width_of unit) content (part (get_or gs i d))
  position_at part offsets ps p e f =
      let long : i < length (map part gs) = omega (arith, length-map gs part) in
      ap (λ qs. get_or qs i p) (e ∙ ap (map (position_of (width_of unit) content)) f) ∙ get_or-map (position_of (width_of unit) content) (map part gs) i 0 p long
      ∙ ap (position_of (width_of unit) content) (get_or-map part gs i d 0 low)

  pub edit_further : (indent : Indent) (edits : List Edit) (e : Edit) → map range_and_text edits ≡ map (edit_of_site unit content indent) (take i gs)
      → range_and_text e ≡ edit_of_site unit content indent (get_or gs i d) → map range_and_text (edits ++ (e ∷ [])) ≡ map (edit_of_site unit content indent) (take (i + 1) gs)
  edit_further indent edits e so_far is =
      map-append range_and_text edits (e ∷ []) ∙ (λ j. so_far j ++ (is j ∷ [])) ∙ sym (map_more (edit_of_site unit content indent) gs i d low)
