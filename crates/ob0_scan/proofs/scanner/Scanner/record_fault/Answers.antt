use Rattle.std.proofs.Common.{◌≡◌, ℕ, ◌∙◌, ◌+◌, ◌++◌, ◌∷◌, [], inl, inr, true, false, refl, sym, ap, subst, arith, is_ok, length, eqb-true, false-eqb}
use Rattle.std.proofs.ResultArms.{chosen}
use Rattle.std.proofs.lemmas.List.{length_push}
use Rattle.ob0_scan.specs.declared.fault.Fault.{Fault}
use Rattle.ob0_scan.specs.ScanProgress.{IsScannedUpToOffset}
use Rattle.ob0_scan.proofs.Steps.{fault_passed, fault_ends, progress_same}
use Rattle.ob0_scan.proofs.scanner.Scanner.record_fault.Goals as goal
use Rattle.ob0_scan.proofs.scanner.Scanner.record_fault.Goals.{then-ends_scan, else-ends_scan, then-len-eq-MAX_FAULTS, else-len-eq-MAX_FAULTS}

pub returns-clause-consistent_scanner : goal.returns-clause-consistent_scanner
returns-clause-consistent_scanner c =
    let old = c.args.self.now in
    let text = old.text.now in
    let new : Fault = record { code = c.args.code; span = record { start = old.at; end = old.at + c.args.len } } in
    let pushed = chosen _ _ _ _ c.push.ensures.items (ap is_ok c.in_ok-push.was) in
    let had = length_push old.faults.items new in
    let many : length c.push.new.self.items ≡ length old.faults.items + 1 = ap length pushed ∙ had in
    let room = c.requires.consistent_scanner.room c.requires.more in
    let ts = old.front.tokens.now ++ old.tokens.items in
    let cs = old.front.comments.now ++ old.comments.items in
    let Kept = λ (at : ℕ). IsScannedUpToOffset text at ts cs c.push.new.self.items in
    elim c.if-len-eq-MAX_FAULTS.branch [
      | then-len-eq-MAX_FAULTS w ↦ subst Kept (sym w.self-is)
          (progress_same text (length text) ts ts cs cs (old.faults.items ++ new ∷ []) c.push.new.self.items refl refl pushed
          (fault_ends text old.at ts cs old.faults.items c.args.code c.args.len c.requires.consistent_scanner c.requires.fault c.requires.more
          (elim c.if-ends_scan.branch [
            | then-ends_scan v ↦ inl (sym c.ends_scan.ensures ∙ v.if-ends_scan.true)
            | else-ends_scan v ↦ inr (omega (arith, eqb-true v.len.result 100 (sym v.value-is ∙ w.if-len-eq-MAX_FAULTS.true), v.len.ensures, many, c.push.new.self.ok))
          ])))
      | else-len-eq-MAX_FAULTS w ↦ subst Kept (sym w.self-is)
          (progress_same text (old.at + c.args.len) ts ts cs cs (old.faults.items ++ new ∷ []) c.push.new.self.items refl refl pushed
          (elim c.if-ends_scan.branch [
            | then-ends_scan v ↦ (let clash : true ≡ false = sym v.if-ends_scan.true ∙ sym v.value-is ∙ w.if-len-eq-MAX_FAULTS.false in cc)
            | else-ends_scan v ↦ (
                let fewer = false-eqb v.len.result 100 (sym w.if-len-eq-MAX_FAULTS.false ∙ v.value-is) in
                fault_passed text old.at ts cs old.faults.items c.args.code c.args.len c.requires.consistent_scanner c.requires.fault c.requires.more
                (sym c.ends_scan.ensures ∙ v.if-ends_scan.false) (omega (arith, fewer, v.len.ensures, many, c.push.new.self.ok)))
          ]))
    ]
