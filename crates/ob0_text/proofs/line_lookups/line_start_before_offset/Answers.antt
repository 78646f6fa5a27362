use Rattle.std.proofs.Common.{◌≡◌, ◌-◌, ◌<◌, get_or, length, sym, ap, ◌∙◌, subst, arith}
use Rattle.std.specs.Str.{chars}
use Rattle.ob0_text.specs.Units.{width_of}
use Rattle.ob0_text.proofs.Widths.{narrow}
use Rattle.ob0_text.proofs.LinePlaces.{some_start, counts, searched}
use Rattle.ob0_text.proofs.line_lookups.line_start_before_offset.Goals as goal

pub overflow_sub-started : goal.overflow_sub-started
overflow_sub-started c =
    let found = searched c.args.text.now c.args.table.now.starts c.min.result _ _ c.utf8.text c.requires.starts (omega arith) (omega arith) c.count_starts_before-started.ensures.count in
    omega (arith, found.0)

pub line_start_place-requires : goal.line_start_place-requires
line_start_place-requires c =
    subst (λ t. 0 < length t) (sym c.requires.starts) (some_start (chars c.args.text.now))

pub returns-clause-place : goal.returns-clause-place
returns-clause-place c =
    let place = c.line_start_place in
    λ unit. counts (width_of unit) (narrow unit) c.args.text.now c.args.table.now.starts _ place.result c.utf8.text c.requires.starts place.ensures.offset place.ensures.line place.ensures.character

pub returns-clause-following : goal.returns-clause-following
returns-clause-following c =
    let place = c.line_start_place in
    let found = searched c.args.text.now c.args.table.now.starts c.min.result _ _ c.utf8.text c.requires.starts (omega arith) (omega arith) c.count_starts_before-started.ensures.count in
    let line : place.result.line ≡ c.count_starts_before-started.result - 1 = omega (arith, place.ensures.line, found.0, found.1) in
    let start : place.result.offset ≡ get_or c.args.table.now.starts (c.count_starts_before-started.result - 1) 0 = place.ensures.offset ∙ ap (λ k. get_or c.args.table.now.starts k 0) line in
    omega (arith, start, found.2)
