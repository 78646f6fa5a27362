-- Defines the asks. An ask is a request for edits, which the editor may apply.
-- Rule: docs/PROTOCOL.md, Requests on documents 6 to 8.
use Rattle.std.specs.Prelude.{ℕ, List}
use Rattle.ob0_text.specs.declared.position_types.Position.{Position}
use Rattle.ob0_text.specs.declared.edits.Indent.{Indent}
use Rattle.ob0_text.specs.declared.edits.Indent.TheVariants.{Tab, Spaces}
use Rattle.ob0_text.specs.Indents.{indent_spaces_for_tab_size}

-- a request for edits of a document; the editor may apply the edits in the answer
pub data Ask : Type 0 where
  -- renames the declaration or field whose name is at this position; the list has the bytes of the
  -- new name
  rename : Position → List ℕ → Ask
  -- `inline_here` replaces the constant's use at this position by the constant's value;
  -- `inline_all` replaces all its uses and removes the declaration
  inline_here : Position → Ask
  inline_all : Position → Ask
  format : Indent → Ask

-- Returns the indent that the server uses if an editor requests this indent. A number of spaces
-- outside the allowed range is replaced by the nearest allowed number
-- (`indent_spaces_for_tab_size`).
abbrev pub clamped_indent : Indent → Indent
clamped_indent Tab = Tab
clamped_indent (Spaces n) = Spaces (indent_spaces_for_tab_size n)
