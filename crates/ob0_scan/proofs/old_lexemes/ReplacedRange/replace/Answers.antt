use Rattle.std.proofs.Common.{◌≡◌, ◌+◌, ◌++◌, ℕ, List, take, drop, ap, ap₂, sym, ◌∙◌, arith, append_assoc, take-append-drop, string_bytes}
use Rattle.std.specs.Prelude.{slice_range}
use Rattle.std.specs.List.{replace_range}
use Rattle.std.proofs.lemmas.Result.{MatchResult-weaker}
use Rattle.std.proofs.lemmas.List.Folds.{drop_split}
use Rattle.ob0_scan.specs.ReusedLexemes.{ReplacesRange}
use Rattle.ob0_scan.proofs.old_lexemes.ReplacedRange.replace.Goals as goal

-- The old text with the changed bytes replaced by the new ones is the new text.
put_in : (old new : List ℕ) (from removed added : ℕ) → ReplacesRange old new from removed added → replace_range old from (from + removed) (slice_range new from (from + added)) ≡ new
put_in old new from removed added r =
    ap₂ (λ a b. (a ++ slice_range new from (from + added)) ++ b) r.front r.behind
    ∙ append_assoc (take from new) (slice_range new from (from + added)) (drop (from + added) new)
    ∙ ap (λ t. take from new ++ t) (sym (drop_split new from (from + added) (omega arith)))
    ∙ take-append-drop from new

pub returns-then-is_between : goal.returns-then-is_between
returns-then-is_between c = MatchResult-weaker c.replace_range.result c.replace_range.ensures.bytes
    (λ _ e. e ∙ ap (replace_range (string_bytes c.args.old.now) c.args.self.from (c.args.self.from + c.args.self.removed)) c.range.ensures.value
    ∙ put_in (string_bytes c.args.old.now) c.args.new.now c.args.self.from c.args.self.removed c.args.self.added c.requires)
    (λ y h. h)
