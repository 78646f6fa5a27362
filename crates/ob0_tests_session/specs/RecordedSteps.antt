-- Defines what a record of steps shows, in the words of the contract of `Stream`.
-- Rule: none; used in the contracts of the tests' recording stream.
use Rattle.std.specs.Prelude.{List, map, Option, Some, None, if◌then◌else◌}
use Rattle.ob0_session.specs.StreamSteps.{StreamStep, read_begins, read_gives, read_fails, writes, write_fails, flushes, flush_fails}
use Rattle.ob0_tests_session.specs.declared.recorder.RecordedStep.{RecordedStep}
use Rattle.ob0_tests_session.specs.declared.recorder.RecordedStep.TheVariants as recorded
use Rattle.ob0_tests_session.specs.declared.recorder.StepRecord.{StepRecord}

-- Returns the step that was recorded.
abbrev pub step_view : RecordedStep → StreamStep
step_view recorded.ReadBegins = read_begins
step_view (recorded.ReadGives bytes) = read_gives bytes.items
step_view recorded.ReadFails = read_fails
step_view (recorded.Writes bytes) = writes bytes.items
step_view recorded.WriteFails = write_fails
step_view recorded.Flushes = flushes
step_view recorded.FlushFails = flush_fails

-- Returns the recorded steps, or None if the record isn't complete.
abbrev pub recorded_steps : StepRecord → Option (List StreamStep)
recorded_steps r = if r.is_complete then Some (map step_view r.steps.items) else None
