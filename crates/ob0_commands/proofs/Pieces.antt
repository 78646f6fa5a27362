-- Proves that the pieces in which a run's output is written make up the text of all its items.
use Rattle.std.proofs.Common.{◌≡◌, ℕ, ◌+◌, ◌<◌, List, ◌∷◌, ◌++◌, None, Some, Option, length, get_or, drop, sym, ap, ◌∙◌, append_assoc}
use Rattle.std.proofs.lemmas.List.{drop_more}
use Rattle.std.specs.Io.KnownBytes.{Appends}
use Rattle.ob0_run.specs.Outcomes.{item_of, output_items}
use Rattle.ob0_run_machine.specs.declared.machine.Item.{Item}
use Rattle.ob0_commands.specs.PrintedTexts.{IsWrittenExceptLastPart, output_text, output_item_text}

both_appended : (a b c : Option (List ℕ)) (bs cs : List ℕ) → Appends a b bs → Appends b c cs → Appends a c (bs ++ cs)
both_appended None b c bs cs p q = tt
both_appended (Some x) None c bs cs p q = absurd p
both_appended (Some x) (Some y) None bs cs p q = absurd q
both_appended (Some x) (Some y) (Some z) bs cs p q = q ∙ ap (λ l. l ++ cs) p ∙ append_assoc x bs cs

-- After the next item is appended, the written text, the waiting text and the text of the remaining
-- items still make up the text of all items.
pub item_written : (a b c : Option (List ℕ)) (xs : List Item) (k : ℕ) (d x : Item) (text left : List ℕ)
    → IsWrittenExceptLastPart a b (output_text (output_items xs)) (text ++ output_text (output_items (drop k xs))) → k < length xs → x ≡ get_or xs k d
    → IsWrittenExceptLastPart b c (text ++ output_item_text (item_of x)) left → IsWrittenExceptLastPart a c (output_text (output_items xs)) (left ++ output_text (output_items (drop (k + 1) xs)))
item_written a b c xs k d x text left h less is m =
    let rest = output_text (output_items (drop (k + 1) xs)) in
    let next : output_text (output_items (drop k xs)) ≡ output_item_text (item_of x) ++ rest =
    ap (λ ys. output_text (output_items ys)) (drop_more xs k d less ∙ ap (λ z. z ∷ drop (k + 1) xs) (sym is)) in
    record {
      written = h.written ++ m.written;
      appends_written = both_appended a b c h.written m.written h.appends_written m.appends_written;
      split = h.split
          ∙ ap (λ l. h.written ++ l) (ap (λ l. text ++ l) next ∙ sym (append_assoc text (output_item_text (item_of x)) rest) ∙ ap (λ l. l ++ rest) m.split ∙ append_assoc m.written left rest)
          ∙ sym (append_assoc h.written m.written (left ++ rest));
    }
