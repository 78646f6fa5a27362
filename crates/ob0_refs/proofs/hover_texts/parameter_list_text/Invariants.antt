use Rattle.std.proofs.Common.{◌≡◌, ◌++◌, map, drop, string_bytes}
use Rattle.ob0_refs.specs.Hovers.{further_parameters_text, parameter_list_text}
use Rattle.ob0_refs.specs.HoverParameters.{parameter_view}
use Rattle.ob0_refs.proofs.hover_texts.parameter_list_text.Given as goal

abbrev pub invariant-loop-other : goal.invariant-loop-other
invariant-loop-other l =
    string_bytes l.text ++ further_parameters_text (map parameter_view (drop l.other-index l.others)) ≡ parameter_list_text (map parameter_view l.parameters)
