-- Defines the unit in which positions are counted.
-- Rule: docs/PROTOCOL.md, Capabilities (`positionEncoding`), Positions 1.
use Rattle.std.specs.Prelude.{if◌then◌else◌}
use Rattle.ob0_text.specs.declared.position_types.Unit.{Unit}
use Rattle.ob0_text.specs.declared.position_types.Unit.TheVariants.{Utf16, Utf8}
use Rattle.ob0_rpc.specs.declared.client_capabilities.ClientFeatures.{ClientFeatures}

-- Returns the unit in which positions are counted for a client. The unit is a byte of UTF-8 if the
-- client offers that, otherwise a UTF-16 unit.
abbrev pub unit_for_client : ClientFeatures → Unit
unit_for_client client = if client.offers_utf8 then Utf8 else Utf16
