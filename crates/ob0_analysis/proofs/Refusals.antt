-- Proves that the parser refuses a text in only one way, and that its refusal is reported in only
-- one way.
use Rattle.std.proofs.Common.{◌≡◌, ℕ, [], ◌∷◌, sym, ◌∙◌, ap, subst}
use Rattle.ob0_scan.specs.TextWithTokens.{TextWithTokens}
use Rattle.ob0_parse_descent.specs.Descent.{DescentEndIsUnique, Expects, TooDeepAt}
use Rattle.ob0_parse_descent.specs.ExpectedText.{expected_text}
use Rattle.ob0_parse.specs.IsRightParseRefusal.{IsRightParseRefusal}
use Rattle.ob0_parse_descent.specs.declared.refusal.ExpectedSyntax.{ExpectedSyntax}
use Rattle.ob0_parse_descent.specs.declared.refusal.ParseRefusal.{ParseRefusal}
use Rattle.ob0_parse_descent.specs.declared.refusal.ParseRefusal.TheVariants.{Syntax, TooDeep, Memory}
use Rattle.ob0_analysis.specs.ReportedErrors.{ReportedDiagnosis, IsDiagnosisOfRefusal, ReportedRefusalIsUnique, syntax_error_diagnosis, depth_error_diagnosis, token_span_or_end}
use Rattle.ob0_analysis.proofs.Scanning.{OneScan}

same_place : {i j : ℕ} {x y : ExpectedSyntax} → Expects i x ≡ Expects j y → (i ≡ j) × (x ≡ y)
same_place e = (cc, cc)

same_depth : {i j : ℕ} → TooDeepAt i ≡ TooDeepAt j → i ≡ j
same_depth e = cc

not_deep : {i j : ℕ} {x : ExpectedSyntax} → Expects i x ≡ TooDeepAt j → ⊥
not_deep e = cc

same_parser_diagnosis : (s : TextWithTokens) (p q : ParseRefusal) (c d : ReportedDiagnosis) → DescentEndIsUnique → IsRightParseRefusal s p → IsRightParseRefusal s q → IsDiagnosisOfRefusal s p c → IsDiagnosisOfRefusal s q d → c ≡ d
same_parser_diagnosis s (Syntax i x) (Syntax j y) c d one p q a b =
    let same = same_place (one _ _ _ _ _ p.2 q.2) in
    a ∙ (ap (λ k. syntax_error_diagnosis (expected_text x) (token_span_or_end s k)) same.0 ∙ (ap (λ z. syntax_error_diagnosis (expected_text z) (token_span_or_end s j)) same.1 ∙ sym b))
same_parser_diagnosis s (TooDeep i) (TooDeep j) c d one p q a b = a ∙ (ap (λ k. depth_error_diagnosis (token_span_or_end s k)) (same_depth (one _ _ _ _ _ p.2 q.2)) ∙ sym b)
same_parser_diagnosis s (Syntax i x) (TooDeep j) c d one p q a b = absurd (not_deep (one _ _ _ _ _ p.2 q.2))
same_parser_diagnosis s (TooDeep i) (Syntax j y) c d one p q a b = absurd (not_deep (one _ _ _ _ _ q.2 p.2))
same_parser_diagnosis s Memory q c d one p r a b = absurd a
same_parser_diagnosis s p Memory c d one r q a b = absurd b

pub reported_refusal_is_unique : OneScan → DescentEndIsUnique → ReportedRefusalIsUnique
reported_refusal_is_unique scans stops text a b p q =
    let same : q.scanned ≡ p.scanned = scans q.scanned p.scanned q.scan.scan p.scan.scan (q.scan.of ∙ sym p.scan.of) in
    let refused : IsRightParseRefusal p.scanned q.refusal = subst (λ (s : TextWithTokens). IsRightParseRefusal s q.refusal) same q.refused in
    let reports_refusal : IsDiagnosisOfRefusal p.scanned q.refusal q.parser_diagnosis = subst (λ (s : TextWithTokens). IsDiagnosisOfRefusal s q.refusal q.parser_diagnosis) same q.reports_refusal in
    p.only_diagnosis ∙ (ap (λ c. c ∷ []) (same_parser_diagnosis p.scanned p.refusal q.refusal p.parser_diagnosis q.parser_diagnosis stops p.refused refused p.reports_refusal reports_refusal) ∙ sym q.only_diagnosis)
