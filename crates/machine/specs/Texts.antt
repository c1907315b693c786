-- Bound texts: bytes_of, the bytes of a text; fitting, bytes that are no more than a text may have.
use Rattle.std.specs.Prelude.{ℕ, cond, List, length, Some, None, Option, nat_lt}
use Rattle.machine.specs.declared.text.Text.{Text}

abbrev pub bytes_of : Text → List ℕ
bytes_of x = x.bytes

abbrev pub fitting : List ℕ → Option (List ℕ)
fitting t = cond (nat_lt 40 (length t)) None (Some t)
