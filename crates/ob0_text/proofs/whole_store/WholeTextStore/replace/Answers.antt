use Rattle.std.proofs.Common.{arith, refl, string_bytes}
use Rattle.std.specs.Str.{chars}
use Rattle.std.proofs.lemmas.Str.{IsUtf8-string_bytes}
use Rattle.ob0_text.specs.Units.{width_of}
use Rattle.ob0_text.proofs.Replacing.{from_border, to_border, replaced_is}
use Rattle.ob0_text.proofs.whole_store.WholeTextStore.replace.Goals as goal

pub replace_range-requires-clause-in_bounds : goal.replace_range-requires-clause-in_bounds
replace_range-requires-clause-in_bounds c =
    let bs = string_bytes c.args.self.now.text in
    let border = to_border (width_of c.args.self.now.unit) (chars bs) bs (IsUtf8-string_bytes c.args.self.now.text) refl c.args.range c.offset-start.result c.offset-end.result c.min-from.result c.max-to.result c.offset-start.ensures c.offset-end.ensures c.min-from.ensures c.max-to.ensures in
    omega (arith, border.0, c.args.self.now.text.bytes.ok.0)

pub replace_range-requires-clause-start_boundary : goal.replace_range-requires-clause-start_boundary
replace_range-requires-clause-start_boundary c =
    let bs = string_bytes c.args.self.now.text in
    let border = from_border (width_of c.args.self.now.unit) (chars bs) bs (IsUtf8-string_bytes c.args.self.now.text) refl c.args.range c.offset-start.result c.offset-end.result c.min-from.result c.max-to.result c.offset-start.ensures c.offset-end.ensures c.min-from.ensures c.max-to.ensures in
    (border.0, λ _. border.1)

pub replace_range-requires-clause-end_boundary : goal.replace_range-requires-clause-end_boundary
replace_range-requires-clause-end_boundary c =
    let bs = string_bytes c.args.self.now.text in
    let border = to_border (width_of c.args.self.now.unit) (chars bs) bs (IsUtf8-string_bytes c.args.self.now.text) refl c.args.range c.offset-start.result c.offset-end.result c.min-from.result c.max-to.result c.offset-start.ensures c.offset-end.ensures c.min-from.ensures c.max-to.ensures in
    (border.0, λ _. border.1)

pub returns-clause-ok : goal.returns-clause-ok
returns-clause-ok c =
    let bs = string_bytes c.args.self.now.text in
    replaced_is (width_of c.args.self.now.unit) (chars bs) bs (IsUtf8-string_bytes c.args.self.now.text) refl c.args.range c.offset-start.result c.offset-end.result c.min-from.result c.max-to.result c.offset-start.ensures c.offset-end.ensures c.min-from.ensures c.max-to.ensures c.args.text.now (string_bytes c.replace_range.new.self) c.utf8.text c.in_ok-replace_range.ensures.bytes
