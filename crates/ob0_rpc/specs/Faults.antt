-- Defines the JSON-RPC error that reports an `RpcFault`: an error code and a text.
-- Rule: docs/PROTOCOL.md, Order of checks, and errors; JSON-RPC 2.0, error object.
use Rattle.std.specs.Prelude.{◌-◌, ℕ, ℤ, negsuc, List, codes}
use Rattle.ob0_rpc.specs.declared.incoming_messages.RpcFault.{RpcFault}
use Rattle.ob0_rpc.specs.declared.incoming_messages.RpcFault.TheVariants.{NotJson, NotAMessage, UnknownMethod, BadParams, Memory}

-- Returns the number -n, if n is at least 1.
abbrev pub negative_of : ℕ → ℤ
negative_of n = negsuc (n - 1)

-- Returns the error code that reports a fault. `Memory` has a code, but is never reported.
abbrev pub error_code : RpcFault → ℤ
error_code NotJson = negative_of 32700
error_code NotAMessage = negative_of 32600
error_code UnknownMethod = negative_of 32601
error_code BadParams = negative_of 32602
error_code Memory = negative_of 32603

-- Returns the message of the error that reports a fault.
abbrev pub error_text : RpcFault → List ℕ
error_text NotJson = codes "not JSON"
error_text NotAMessage = codes "not a message"
error_text UnknownMethod = codes "unknown method"
error_text BadParams = codes "bad params"
error_text Memory = codes "out of memory"
