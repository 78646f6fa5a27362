-- Proves that if a text has the bytes of a file, the error lines printed for the text are the error
-- lines of the file.
use Rattle.std.proofs.Common.{◌≡◌, ◌∙◌, ℕ, List, [], ◌∷◌, Option, false, nat_eq, length, map, encode_utf8_all, inl, inr, ap, subst}
use Rattle.std.proofs.lemmas.Str.{encodes-chars}
use Rattle.std.specs.Io.KnownBytes.{Appends}
use Rattle.std.specs.Str.{chars, IsUtf8}
use Rattle.ob0_analysis.specs.ReportedErrors.{IsWellTypedModule, ReportsErrorsOf, reported_diagnosis_of}
use Rattle.ob0_analysis.specs.declared.diagnoses.Diagnosis.{Diagnosis}
use Rattle.ob0_commands.specs.PrintedTexts.{PrintsDiagnostics, all_diagnosis_lines}

of_faults : (file : List ℕ) (reported : List Diagnosis) (before after : Option (List ℕ)) → ReportsErrorsOf file (map reported_diagnosis_of reported) → nat_eq (length reported) 0 ≡ false
    → Appends before after (all_diagnosis_lines file (map reported_diagnosis_of reported)) → PrintsDiagnostics file before after
of_faults file [] before after h some printed = cc
of_faults file (d ∷ ds) before after (inl h) some printed = let no = h.1 in cc
of_faults file (d ∷ ds) before after (inr h) some printed = inr (map reported_diagnosis_of (d ∷ ds), h.0, h.1, printed)

-- If a text has the bytes of a file, the lines printed for the text are the lines of the file.
pub printed_of_file : (text file : List ℕ) (reported shown : List Diagnosis) (before mid after : Option (List ℕ)) → text ≡ file → mid ≡ before → shown ≡ reported
    → Appends mid after (all_diagnosis_lines text (map reported_diagnosis_of shown)) → Appends before after (all_diagnosis_lines file (map reported_diagnosis_of reported))
printed_of_file text file reported shown before mid after same kept is printed =
    let all : Appends mid after (all_diagnosis_lines text (map reported_diagnosis_of reported)) = subst (λ (ds : List Diagnosis). Appends mid after (all_diagnosis_lines text (map reported_diagnosis_of ds))) is printed in
    let in_file : Appends mid after (all_diagnosis_lines file (map reported_diagnosis_of reported)) = subst (λ (t : List ℕ). Appends mid after (all_diagnosis_lines t (map reported_diagnosis_of reported))) same all in
    subst (λ (b : Option (List ℕ)). Appends b after (all_diagnosis_lines file (map reported_diagnosis_of reported))) kept in_file

pub reports_wrong : (text file : List ℕ) (reported shown : List Diagnosis) (before mid after : Option (List ℕ)) → text ≡ file → mid ≡ before → shown ≡ reported
    → ReportsErrorsOf text (map reported_diagnosis_of reported) → nat_eq (length reported) 0 ≡ false → Appends mid after (all_diagnosis_lines text (map reported_diagnosis_of shown)) → PrintsDiagnostics file before after
reports_wrong text file reported shown before mid after same kept is h some printed =
    of_faults file reported before after (subst (λ (t : List ℕ). ReportsErrorsOf t (map reported_diagnosis_of reported)) same h) some (printed_of_file text file reported shown before mid after same kept is printed)

-- The bytes of a text's characters are the text's bytes.
pub bytes_of : (content text : List ℕ) → content ≡ chars text → IsUtf8 text → encode_utf8_all content ≡ text
bytes_of content text is u = ap encode_utf8_all is ∙ encodes-chars text u

-- If the text isn't a well-typed module, the lines of its reported diagnoses are the lines of its
-- errors.
pub not_well_typed : (text : List ℕ) (reported shown : List Diagnosis) (before after : Option (List ℕ)) → shown ≡ reported
    → ¬ IsWellTypedModule text → ReportsErrorsOf text (map reported_diagnosis_of reported) → Appends before after (all_diagnosis_lines text (map reported_diagnosis_of shown)) → PrintsDiagnostics text before after
not_well_typed text reported shown before after is isnt (inl h) printed = absurd (isnt h.0)
not_well_typed text reported shown before after is isnt (inr h) printed =
    inr (map reported_diagnosis_of reported, h.0, h.1, subst (λ (ds : List Diagnosis). Appends before after (all_diagnosis_lines text (map reported_diagnosis_of ds))) is printed)

-- If the text isn't a well-typed module, the lines that `rename` prints are the lines of its
-- errors.
pub ill_typed : (content text : List ℕ) (reported shown : List Diagnosis) (before after : Option (List ℕ)) → content ≡ chars text → IsUtf8 text → shown ≡ reported
    → ¬ IsWellTypedModule (encode_utf8_all content) → ReportsErrorsOf text (map reported_diagnosis_of reported) → Appends before after (all_diagnosis_lines text (map reported_diagnosis_of shown)) → PrintsDiagnostics text before after
ill_typed content text reported shown before after holds u is isnt h printed =
    not_well_typed text reported shown before after is (subst (λ (t : List ℕ). IsWellTypedModule t → ⊥) (bytes_of content text holds u) isnt) h printed
