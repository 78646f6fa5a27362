-- Proves facts about a record of steps.
use Rattle.std.proofs.Common.{◌≡◌, List, [], Option, None, Some, IfSome, sym, subst}
use Rattle.ob0_session.specs.StreamSteps.{StreamStep, Records}
use Rattle.ob0_session.specs.OwedAnswers.{NeverReadsOwing}

by_record : (new : Option (List StreamStep)) (steps : List StreamStep) → NeverReadsOwing steps → Records (Some []) new steps → IfSome new NeverReadsOwing
by_record None steps never is = tt
by_record (Some after) steps never is = subst NeverReadsOwing (sym is) never

-- If the record was empty and is complete, it has the steps of the contract.
pub recorded_from_empty : (old new : Option (List StreamStep)) (steps : List StreamStep) → old ≡ Some [] → Records old new steps → NeverReadsOwing steps → IfSome new NeverReadsOwing
recorded_from_empty old new steps empty recorded never = by_record new steps never (subst (λ (o : Option (List StreamStep)). Records o new steps) empty recorded)
