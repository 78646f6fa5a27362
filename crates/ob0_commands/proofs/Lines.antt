-- Proves that the loop over diagnostics and their positions makes the lines that report these
-- diagnostics.
use Rattle.std.proofs.Common.{◌≡◌, ℕ, ◌<◌, zero, suc, min, List, [], ◌∷◌, ◌++◌, codes, length, drop, map, get_or, refl, ap, ap₂, sym, ◌∙◌, arith, append_assoc, append-nil}
use Rattle.std.specs.Fmt.{digits}
use Rattle.std.specs.Str.{chars}
use Rattle.ob0_text.specs.Texts.{position_of}
use Rattle.ob0_text.specs.Units.{width_of}
use Rattle.ob0_text.specs.declared.position_types.Position.{Position}
use Rattle.ob0_text.specs.declared.position_types.Unit.TheVariants.{Utf16}
use Rattle.ob0_analysis.specs.ReportedErrors.{reported_diagnosis_of}
use Rattle.ob0_analysis.specs.declared.diagnoses.Diagnosis.{Diagnosis}
use Rattle.ob0_commands.specs.PrintedTexts.{all_diagnosis_lines, diagnosis_line_at, diagnosis_lines_at_positions, too_long_line}

-- The literal that the code prints for a text that is too long is the defined line.
pub too_long_text : too_long_line ≡ codes "0:0: TooLong: text too long\n"
unfolding digits
too_long_text = refl

-- Holds if the first n lines, followed by the lines of the remaining diagnostics, are the lines of
-- all diagnostics.
abbrev pub Gathered : List Diagnosis → List Position → ℕ → List ℕ → Type 0
Gathered ds ps n lines = lines ++ diagnosis_lines_at_positions (drop n ps) (map reported_diagnosis_of (drop n ds)) ≡ diagnosis_lines_at_positions ps (map reported_diagnosis_of ds)

one_more : (ds : List Diagnosis) (ps : List Position) (n : ℕ) → n < length ds → n < length ps → (d : Diagnosis) (p : Position)
    → diagnosis_lines_at_positions (drop n ps) (map reported_diagnosis_of (drop n ds)) ≡ diagnosis_line_at (get_or ps n p) (reported_diagnosis_of (get_or ds n d)) ++ diagnosis_lines_at_positions (drop (suc n) ps) (map reported_diagnosis_of (drop (suc n) ds))
one_more [] ps n h g d p = absurd (omega arith)
one_more (x ∷ ds) [] n h g d p = absurd (omega arith)
one_more (x ∷ ds) (y ∷ ps) zero h g d p = refl
one_more (x ∷ ds) (y ∷ ps) (suc n) h g d p = one_more ds ps n (omega arith) (omega arith) d p

pub gathered_further : (ds : List Diagnosis) (ps : List Position) (n : ℕ) (lines : List ℕ) (d : Diagnosis) (p : Position) → Gathered ds ps n lines
    → n < length ds → n < length ps → ((e : Diagnosis) → d ≡ get_or ds n e) → ((e : Position) → p ≡ get_or ps n e) → Gathered ds ps (suc n) (lines ++ diagnosis_line_at p (reported_diagnosis_of d))
gathered_further ds ps n lines d p so_far h g at here =
    append_assoc lines (diagnosis_line_at p (reported_diagnosis_of d)) (diagnosis_lines_at_positions (drop (suc n) ps) (map reported_diagnosis_of (drop (suc n) ds)))
    ∙ ap (λ l. lines ++ l) (ap₂ (λ (q : Position) (e : Diagnosis). diagnosis_line_at q (reported_diagnosis_of e) ++ diagnosis_lines_at_positions (drop (suc n) ps) (map reported_diagnosis_of (drop (suc n) ds))) (here p) (at d) ∙ sym (one_more ds ps n h g d p))
    ∙ so_far

none_left : (ds : List Diagnosis) (ps : List Position) (n : ℕ) → n ≡ min (length ds) (length ps) → diagnosis_lines_at_positions (drop n ps) (map reported_diagnosis_of (drop n ds)) ≡ []
none_left [] [] zero e = refl
none_left [] [] (suc n) e = refl
none_left [] (y ∷ ps) zero e = refl
none_left [] (y ∷ ps) (suc n) e = absurd (omega arith)
none_left (x ∷ ds) [] zero e = refl
none_left (x ∷ ds) [] (suc n) e = refl
none_left (x ∷ ds) (y ∷ ps) zero e = absurd (omega arith)
none_left (x ∷ ds) (y ∷ ps) (suc n) e = none_left ds ps n (omega arith)

pub gathered_all : (ds : List Diagnosis) (ps : List Position) (n : ℕ) (lines : List ℕ) → Gathered ds ps n lines → n ≡ min (length ds) (length ps) → lines ≡ diagnosis_lines_at_positions ps (map reported_diagnosis_of ds)
gathered_all ds ps n lines so_far e = sym (append-nil lines) ∙ ap (λ l. lines ++ l) (sym (none_left ds ps n e)) ∙ so_far

-- The lines at the positions of the diagnostics' starts are the lines of the diagnostics.
pub placed : (text : List ℕ) (ds : List Diagnosis) → diagnosis_lines_at_positions (map (position_of (width_of Utf16) (chars text)) (map (λ (d : Diagnosis). d.span.start) ds)) (map reported_diagnosis_of ds) ≡ all_diagnosis_lines text (map reported_diagnosis_of ds)
placed text [] = refl
placed text (d ∷ ds) = ap (λ l. diagnosis_line_at (position_of (width_of Utf16) (chars text) d.span.start) (reported_diagnosis_of d) ++ l) (placed text ds)
