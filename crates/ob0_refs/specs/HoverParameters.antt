-- Converts the program's `Parameter` to the specification's `HoverParameter`.
-- Rule: none; used in contracts about the program's `Parameter`.
use Rattle.std.specs.Prelude.{string_bytes}
use Rattle.ob0_refs.specs.Hovers as hovers
use Rattle.ob0_refs.specs.declared.hover_texts.Parameter.{Parameter}

-- returns a `Parameter` as a `HoverParameter`: its name, the text of its type, and whether it is a
-- VAR parameter (`by_place`)
abbrev pub parameter_view : Parameter → hovers.HoverParameter
parameter_view p = record { by_place = p.by_place; name = p.name.now; text_of_type = string_bytes p.text_of_type }
