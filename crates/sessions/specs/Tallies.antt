-- Tallies: how many lines each refusal number refused, how many numbers were met, and how many there is room for
-- tallies_in: the tallies that a store's pairs make; untallied: none yet; under: a refusal number as a key
-- tallied: one more line that a number refused, where the store takes it
use Rattle.std.specs.Prelude.{ℕ, cond, not, ◌&&◌, List, length, is_some, Some, None, Option, nat_le}
use Rattle.stores.specs.Pairs.{look, turned, more}
use Rattle.stores.specs.Tallies.{same_tally, raised}
use Rattle.stores.specs.declared.tally.TallyKey.{TallyKey}

pub record Tallies : Type 0 where
  pub counts : TallyKey → Option ℕ
  pub many : ℕ
  pub capacity : ℕ

abbrev pub tallies_in : List (TallyKey × ℕ) → ℕ → Tallies
tallies_in ps c = record { counts = look same_tally ps; many = length ps; capacity = c }

abbrev pub untallied : ℕ → Tallies
untallied c = record { counts = λ k. None; many = 0; capacity = c }

abbrev pub under : ℕ → TallyKey
under n = record { number = n }

abbrev pub tallied : ℕ → Tallies → Tallies
tallied n t =
    cond (not (is_some (t.counts (under n))) && nat_le t.capacity t.many) t (record {
      counts = turned same_tally t.counts (under n) (Some (raised (t.counts (under n))));
      many = more (is_some (t.counts (under n))) t.many;
      capacity = t.capacity;
    })
