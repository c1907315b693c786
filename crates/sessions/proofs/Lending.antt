-- Outputs that still lend the buffer that they lent. Assumes nothing.
use Rattle.std.proofs.Common.{List, ℕ, length, refl, ap, ◌∙◌}
use Rattle.texts.proofs.Fill.{written_length}
use Rattle.texts.specs.Output.{Puts}
use Rattle.texts.specs.declared.output.Output.{Output}
use Rattle.sessions.specs.Lends.{Lends}

pub lends_same : {o : Output} → Lends o o
lends_same = record { same_reference = refl; same_length = refl }

-- a text that was put
pub puts_lends : {a b : Output} {s : List ℕ} → Puts a s b → Lends a b
puts_lends {a} {s = s} p = record {
  same_reference = p.same_reference;
  same_length = ap length p.wrote.bytes ∙ written_length a.bytes.now a.fill s;
}

-- one call after another
pub lends_join : {a b c : Output} → Lends a b → Lends b c → Lends a c
lends_join x y = record { same_reference = y.same_reference ∙ x.same_reference; same_length = y.same_length ∙ x.same_length }
