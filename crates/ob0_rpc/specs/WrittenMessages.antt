-- States when bytes are the text of a message, and when a value is shallow enough for a message.
-- Rule: docs/PROTOCOL.md, JSON shapes 1.
use Rattle.std.specs.Prelude.{◌≡◌, ◌≤◌, ℕ, List, Some}
use Rattle.serde_json.specs.Data.{Data, depth}
use Rattle.serde_json.specs.Written.{compact_text}
use Rattle.ob0_rpc.specs.Messages.{IsJsonOfContent}

-- States that these bytes are the message's compact text (JSON without added white space), and that
-- reading them gives the message.
pub record Writes (message : Data) (bytes : List ℕ) : Type 0 where
  pub text : bytes ≡ compact_text message
  pub reads : IsJsonOfContent bytes (Some message)

-- States that a message can contain this value: the value is nested at most 126 deep. A message may
-- be nested at most 127 deep, and it adds one level around the value.
pub record FitsInMessage (value : Data) : Type 0 where
  pub shallow : depth value ≤ 126
