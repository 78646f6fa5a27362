use Rattle.std.proofs.Common.{◌≡◌, ℕ, List, map, ap, ap₂, ◌∙◌}
use Rattle.std.proofs.lemmas.Result.{IfOk-weaker}
use Rattle.std.specs.Str.{chars}
use Rattle.ob0_analysis.specs.ReportedErrors.{reported_diagnosis_of}
use Rattle.ob0_analysis.specs.declared.diagnoses.Diagnosis.{Diagnosis}
use Rattle.ob0_text.specs.Texts.{position_of}
use Rattle.ob0_text.specs.Units.{width_of}
use Rattle.ob0_text.specs.declared.position_types.Unit.{Unit}
use Rattle.ob0_text.specs.declared.position_types.Unit.TheVariants.{Utf16}
use Rattle.ob0_commands.proofs.Lines.{placed}
use Rattle.ob0_commands.specs.PrintedTexts.{diagnosis_lines_at_positions}
use Rattle.ob0_commands.proofs.check_command.all_diagnosis_lines.Goals as goal

pub returns : goal.returns
returns c =
    let of_text = map (position_of (width_of Utf16) (chars c.args.text.now)) in
    let places : c.as_slice-2.result.now ≡ of_text (map (λ (d : Diagnosis). d.span.start) c.args.reported.now) =
    c.as_slice-2.ensures.value ∙ c.in_ok-positions.ensures
    ∙ ap₂ (λ (u : Unit) (t : List ℕ). map (position_of (width_of u) t) c.as_slice.result.now) c.in_ok-store.ensures.unit c.in_ok-store.ensures.content
    ∙ ap of_text (c.as_slice.ensures.value ∙ c.in_ok-starts.ensures) in
    IfOk-weaker c.diagnosis_lines_at_positions.result _ _ (λ lines h. h ∙ ap (λ ps. diagnosis_lines_at_positions ps (map reported_diagnosis_of c.args.reported.now)) places ∙ placed c.args.text.now c.args.reported.now) c.diagnosis_lines_at_positions.ensures
