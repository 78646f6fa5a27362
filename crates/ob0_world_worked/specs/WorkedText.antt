-- Defines the example text for which `WorkedAnswers` states answers.
-- Rule: none; an example.
use Rattle.std.specs.Prelude.{ℕ, List, ◌∷◌, [], ◌++◌, codes}
use Rattle.ob0_text.specs.declared.position_types.Position.{Position}

-- returns this text followed by a line feed
abbrev pub with_line_feed : List ℕ → List ℕ
with_line_feed text = text ++ 10 ∷ []

-- the example text, as characters
abbrev pub example_text : List ℕ
example_text =
    with_line_feed (codes "MODULE M;")
    ++ (with_line_feed (codes "CONST")
    ++ (with_line_feed (codes "  n = 2;")
    ++ (with_line_feed (codes "VAR")
    ++ (with_line_feed (codes "  x: INTEGER;")
    ++ (with_line_feed (codes "BEGIN")
    ++ (with_line_feed (codes "  x := n;")
    ++ (with_line_feed (codes "  Write(x)")
    ++ with_line_feed (codes "END M."))))))))

-- returns the position of a character on a line; lines and characters are counted from 0
abbrev pub position_on_line : ℕ → ℕ → Position
position_on_line line character = record { line = line; character = character }
