-- Proves that a message has only whole numbers if its result or params do, and that it is nested
-- one level deeper than these.
use Rattle.std.proofs.Common.{◌≡◌, ◌≤◌, ℤ, pos, negsuc, List, false, ℕ, arith, refl}
use Rattle.serde_json.specs.Data.{Data, depth}
use Rattle.serde_json.specs.Written.{has_float}
use Rattle.ob0_rpc.specs.MessageViews.{json_of_id}
use Rattle.ob0_rpc.specs.JsonShapes.{result_message, notification_message, whole_number_value}
use Rattle.ob0_rpc.specs.declared.incoming_messages.Id.{Id}
use Rattle.ob0_rpc.specs.declared.incoming_messages.Id.TheVariants.{Signed, Unsigned, Text}

whole_is_plain : (z : ℤ) → has_float (whole_number_value z) ≡ false
whole_is_plain (pos n) = refl
whole_is_plain (negsuc n) = refl

id_is_plain : (id : Id) → has_float (json_of_id id) ≡ false
id_is_plain (Signed z) = whole_is_plain z
id_is_plain (Unsigned n) = refl
id_is_plain (Text t) = refl

pub whole_is_flat : (z : ℤ) → depth (whole_number_value z) ≡ 0
whole_is_flat (pos n) = refl
whole_is_flat (negsuc n) = refl

id_is_flat : (id : Id) → depth (json_of_id id) ≡ 0
id_is_flat (Signed z) = whole_is_flat z
id_is_flat (Unsigned n) = refl
id_is_flat (Text t) = refl

pub plain_result : (id : Id) (value : Data) → has_float value ≡ false
    → has_float (result_message (json_of_id id) value) ≡ false
plain_result id value e = rw (id_is_plain id, e)

pub plain_notification : (method : List ℕ) (params : Data) → has_float params ≡ false
    → has_float (notification_message method params) ≡ false
plain_notification method params e = rw e

pub shallow_result : (id : Id) (value : Data) → depth value ≤ 126
    → depth (result_message (json_of_id id) value) ≤ 127
shallow_result id value h = rw (id_is_flat id) (omega arith)

pub shallow_notification : (method : List ℕ) (params : Data) → depth params ≤ 126
    → depth (notification_message method params) ≤ 127
shallow_notification method params h = omega arith
