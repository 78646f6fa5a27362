-- Defines when edits give the text of a module with a certain tree. Also defines when edits are
-- refused because the edited text is too long or nested too deep.
-- Rule: docs/PROTOCOL.md, Requests on documents 9, 10, Refusals of edits.
use Rattle.std.specs.Prelude.{◌≡◌, ℕ, nat_lt, if◌then◌else◌, length, List, Option, Some}
use Rattle.std.specs.Str.{chars}
use Rattle.ob0_scan.specs.TextWithTokens.{TextWithTokens, IsScan, max_text_length}
use Rattle.ob0_text.specs.declared.edits.Edit.{Edit}
use Rattle.ob0_text.specs.declared.position_types.Unit as counting
use Rattle.ob0_text.specs.declared.refusals.EditRefusal.{EditRefusal}
use Rattle.ob0_text.specs.declared.refusals.EditRefusal.TheVariants.{TooDeep, TooLong}
use Rattle.ob0_text.specs.Patches.{patched_text}
use Rattle.ob0_text.specs.Units.{width_of}
use Rattle.ob0_tree.specs.Module.{IsModuleWithTree, max_nesting}
use Rattle.ob0_tree.specs.Tree.{Tree, module_text, nesting}

-- States that applying the edits to the text gives a text that can be scanned and is the module
-- with the tree `t`.
pub record EditedTextHasTree (unit : counting.Unit) (text : List ℕ) (edits : List Edit)
    (t : Tree (List ℕ) module_text) : Type 0 where
  pub after : TextWithTokens
  pub scan : IsScan after
  pub made : patched_text (width_of unit) text edits ≡ Some (chars after.text)
  pub module_of : IsModuleWithTree after t

-- Returns the first refusal that applies to edits, given the edited text in bytes and its tree.
-- `TooLong` and `TooDeep` are tested first, in this order. If neither applies, the result is
-- `other`.
abbrev pub size_refusal_or_other : List ℕ → Tree (List ℕ) module_text → Option EditRefusal → Option EditRefusal
size_refusal_or_other text t other =
    if nat_lt max_text_length (length text) then Some TooLong
    else if nat_lt max_nesting (nesting t) then Some TooDeep
    else other
