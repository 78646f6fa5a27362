-- Defines faults whose places are tokens, and the spans that these faults have in a text.
-- Rule: none; used in contracts about the faults of names and types.
use Rattle.std.specs.Prelude.{ℕ, ◌-◌, min, length}
use Rattle.ob0_scan.specs.declared.fault.Fault.{Fault}
use Rattle.ob0_scan.specs.declared.fault.FaultCode.{FaultCode}
use Rattle.ob0_scan.specs.TextWithTokens.{TextWithTokens}
use Rattle.ob0_scope_table.specs.Spans.{token_span}
use Rattle.ob0_scope_table.specs.declared.faults.FaultAtTokens.{FaultAtTokens}

-- returns the fault with this code at one token
abbrev pub fault_at_token : FaultCode → ℕ → FaultAtTokens
fault_at_token c token = record { code = c; first = token; last = token }

-- Returns the index `token`, or the index of the last token if there is no token with the index
-- `token`. The text has `count` tokens. Returns 0 if the text has no tokens.
abbrev pub clamped_token_index : ℕ → ℕ → ℕ
clamped_token_index count token = min token (count - 1)

-- Returns a fault with its span in the text `source`. The span goes from the start of the fault's
-- first token to the end of its last token.
abbrev pub fault_with_span : TextWithTokens → FaultAtTokens → Fault
fault_with_span source f =
    record {
      code = f.code;
      span =
          record {
            start = (token_span source (clamped_token_index (length source.tokens) f.first)).start;
            end = (token_span source (clamped_token_index (length source.tokens) f.last)).end;
          };
    }
