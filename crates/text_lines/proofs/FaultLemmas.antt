-- A fault, or a value.
use Rattle.std.proofs.Common.{◌≡◌, Option, Some, None, Ok, Err, refl}
use Rattle.text_lines.specs.code.Answers.{fault_or}

pub fault_or_err : {T E : Type 0} (fault : Option E) (x : T) (e : E) → Err e ≡ fault_or fault x → fault ≡ Some e
fault_or_err None x e is = cc
fault_or_err (Some f) x e is = cc

pub fault_or_ok : {T E : Type 0} (fault : Option E) (x y : T) → Ok y ≡ fault_or fault x → (fault ≡ None) × (y ≡ x)
fault_or_ok None x y is = (refl, cc)
fault_or_ok (Some f) x y is = cc
