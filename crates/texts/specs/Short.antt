-- padded: a text with zeros after it, n bytes in all; within: the text, where it has at most n bytes
use Rattle.std.specs.Prelude.{ℕ, ◌-◌, cond, List, ◌++◌, length, replicate, Some, None, Option, nat_lt}

abbrev pub padded : ℕ → List ℕ → List ℕ
padded n text = text ++ replicate (n - length text) 0

abbrev pub within : ℕ → List ℕ → Option (List ℕ)
within n text = cond (nat_lt n (length text)) None (Some text)
