-- Proves that edits with other line ends make a text with the same tokens.
use Rattle.std.proofs.Common.{◌≡◌, ◌∙◌, ℕ, ◌-◌, Bool, true, false, cond, ◌&&◌, List, [], ◌∷◌, ◌++◌, map, take, drop, refl, sym, ap, subst, Option, Some, None}
use Rattle.std.specs.List.{list_all}
use Rattle.ob0_text.specs.declared.position_types.Unit.{Unit}
use Rattle.ob0_text.specs.Units.{width_of}
use Rattle.ob0_text.specs.Patches.{Cut, cut_of_range, are_disjoint, are_all_disjoint, is_cut_before, insert_cut_in_order, cuts_in_text_order, text_after_cuts_from_offset, text_patched_by_cuts}
use Rattle.std.proofs.lemmas.Option.{same_Some}
use Rattle.ob0_world_rules.specs.TextEdits.{Replacement, text_after_edits}
use Rattle.ob0_world_rules.specs.OtherWhiteSpace.{FileLineEnd, text_with_line_ends, edits_with_line_ends}
use Rattle.ob0_world_rules.proofs.LineEnds.{Ended, ended_all, ended_same, ended_append}

module _ (ends : FileLineEnd) where
  -- returns the cut with other line ends in its new text
  abbrev ended_cut : Cut → Cut
  ended_cut c = record { from = c.from; to = c.to; new = text_with_line_ends ends c.new }

  disjoint_ended : (c : Cut) (cs : List Cut) → list_all (are_disjoint (ended_cut c)) (map ended_cut cs) ≡ list_all (are_disjoint c) cs
  disjoint_ended c [] = refl
  disjoint_ended c (d ∷ cs) = ap (λ b. are_disjoint c d && b) (disjoint_ended c cs)

  all_disjoint_ended : (cs : List Cut) → are_all_disjoint (map ended_cut cs) ≡ are_all_disjoint cs
  unfolding are_all_disjoint
  all_disjoint_ended [] = refl
  all_disjoint_ended (c ∷ cs) = λ i. disjoint_ended c cs i && all_disjoint_ended cs i

  insert_ended : (c : Cut) (cs : List Cut) → insert_cut_in_order (ended_cut c) (map ended_cut cs) ≡ map ended_cut (insert_cut_in_order c cs)
  insert_ended c [] = refl
  insert_ended c (d ∷ cs) = go (is_cut_before d c) (insert_ended c cs)
    where
      go : (b : Bool) → insert_cut_in_order (ended_cut c) (map ended_cut cs) ≡ map ended_cut (insert_cut_in_order c cs)
          → cond b (ended_cut d ∷ insert_cut_in_order (ended_cut c) (map ended_cut cs)) (ended_cut c ∷ ended_cut d ∷ map ended_cut cs) ≡ map ended_cut (cond b (d ∷ insert_cut_in_order c cs) (c ∷ d ∷ cs))
      go true more = ap (λ ds. ended_cut d ∷ ds) more
      go false more = refl

  order_ended : (cs : List Cut) → cuts_in_text_order (map ended_cut cs) ≡ map ended_cut (cuts_in_text_order cs)
  unfolding cuts_in_text_order
  order_ended [] = refl
  order_ended (c ∷ cs) = ap (insert_cut_in_order (ended_cut c)) (order_ended cs) ∙ insert_ended c (cuts_in_text_order cs)

  after_ended : (text : List ℕ) (at : ℕ) (cs : List Cut) → Ended ends (text_after_cuts_from_offset text at cs) (text_after_cuts_from_offset text at (map ended_cut cs))
  unfolding text_after_cuts_from_offset
  after_ended text at [] = ended_same ends (drop at text)
  after_ended text at (c ∷ cs) =
      let kept = take (c.from - at) (drop at text) in
      ended_append ends kept (c.new ++ text_after_cuts_from_offset text c.to cs) kept (text_with_line_ends ends c.new ++ text_after_cuts_from_offset text c.to (map ended_cut cs)) (ended_same ends kept)
      (ended_append ends c.new (text_after_cuts_from_offset text c.to cs) (text_with_line_ends ends c.new) (text_after_cuts_from_offset text c.to (map ended_cut cs)) (ended_all ends c.new) (after_ended text c.to cs))

  -- states that cuts make a text, and that it is the first one with other line ends
  record Makes (made : Option (List ℕ)) (edited : List ℕ) : Type 0 where
    text : List ℕ
    is : made ≡ Some text
    ended : Ended ends edited text

  patched_ended : (text edited : List ℕ) (cs : List Cut) → text_patched_by_cuts text cs ≡ Some edited → Makes (text_patched_by_cuts text (map ended_cut cs)) edited
  unfolding text_patched_by_cuts
  patched_ended text edited cs is = go (are_all_disjoint cs) refl is
    where
      before : List ℕ
      before = text_after_cuts_from_offset text 0 (cuts_in_text_order cs)

      after : List ℕ
      after = text_after_cuts_from_offset text 0 (cuts_in_text_order (map ended_cut cs))

      go : (b : Bool) → are_all_disjoint cs ≡ b → cond b (Some before) None ≡ Some edited → Makes (cond (are_all_disjoint (map ended_cut cs)) (Some after) None) edited
      go true e h = record {
        text = after;
        is = ap (λ b. cond b (Some after) None) (all_disjoint_ended cs ∙ e);
        ended = subst (λ t. Ended ends t after) (same_Some before edited h)
            (subst (λ ds. Ended ends before (text_after_cuts_from_offset text 0 ds)) (sym (order_ended cs)) (after_ended text 0 (cuts_in_text_order cs)));
      }
      go false e h = cc

  cuts_ended : (unit : Unit) (text : List ℕ) (edits : List Replacement)
      → map (λ (e : Replacement). cut_of_range (width_of unit) text e.range e.text) (edits_with_line_ends ends edits) ≡ map ended_cut (map (λ (e : Replacement). cut_of_range (width_of unit) text e.range e.text) edits)
  unfolding cut_of_range
  cuts_ended unit text [] = refl
  cuts_ended unit text (e ∷ edits) = ap (λ cs. ended_cut (cut_of_range (width_of unit) text e.range e.text) ∷ cs) (cuts_ended unit text edits)

  pub edits_ended : (unit : Unit) (text edited : List ℕ) (edits : List Replacement) → text_after_edits unit text edits ≡ Some edited
      → (made : List ℕ) × (text_after_edits unit text (edits_with_line_ends ends edits) ≡ Some made) × Ended ends edited made
  unfolding text_after_edits
  edits_ended unit text edited edits is =
      let found = patched_ended text edited (map (λ (e : Replacement). cut_of_range (width_of unit) text e.range e.text) edits) is in
      (found.text, ap (text_patched_by_cuts text) (cuts_ended unit text edits) ∙ found.is, found.ended)
