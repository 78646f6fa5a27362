-- Proves that the code tests correctly whether bytes are the text of a gap.
use Rattle.std.proofs.Common.{◌≡◌, ℕ, ◌*◌, ◌&&◌, List, [], ◌∷◌, length, replicate, refl, ap, ◌∙◌}
use Rattle.std.specs.Prelude.{bytes_eq, ◌==◌}
use Rattle.std.proofs.lemmas.List.{length-replicate}
use Rattle.ob0_text.specs.declared.edits.Indent.TheVariants as indent_by
use Rattle.ob0_layout.specs.Cuts.{all_equal_to}
use Rattle.ob0_layout.specs.Layout.{indentation}

-- Bytes that are all b are a run of b of the same length.
pub run_of : (b : ℕ) (bs : List ℕ) → all_equal_to b bs ≡ bytes_eq bs (replicate (length bs) b)
run_of b [] = refl
run_of b (c ∷ cs) = ap (λ t. (c == b) && t) (run_of b cs)

pub tabs : (bs : List ℕ) (level : ℕ) → length bs ≡ length (indentation indent_by.Tab level) → all_equal_to 9 bs ≡ bytes_eq bs (indentation indent_by.Tab level)
tabs bs level long = run_of 9 bs ∙ ap (λ n. bytes_eq bs (replicate n 9)) (long ∙ length-replicate level 9)

pub spaces : (bs : List ℕ) (n level : ℕ) → length bs ≡ length (indentation (indent_by.Spaces n) level) → all_equal_to 32 bs ≡ bytes_eq bs (indentation (indent_by.Spaces n) level)
spaces bs n level long = run_of 32 bs ∙ ap (λ k. bytes_eq bs (replicate k 32)) (long ∙ length-replicate (level * n) 32)
