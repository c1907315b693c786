-- What a source means, and what its meaning obeys.
use Rattle.std.specs.Prelude.{◌≡◌, ℕ, ◌^◌, ◌<◌, ◌≤◌, Bool, true, false, cond, List, [], length, is_ok, Some, None, Ok, Option, Result, ◌==◌, ◌≢◌, slice_index, slice_set}
use Rattle.sources.specs.Lists.{count, has, first, rest}
use Rattle.names.specs.Texts.{swapped}
use Rattle.names.specs.declared.fault.NameFault.{NameFault}
use Rattle.sources.specs.declared.source.Stand.{Stand}
use Rattle.sources.specs.declared.source.Stand.TheVariants.{Ahead, Given, Foreign}

pub record Stock : Type 0 where
  -- the numbers to come, in the order of their draws
  pub ahead : List ℕ
  -- where each number stands
  pub stands : ℕ → Stand
  -- a bound on the numbers that have a name
  pub reach : ℕ
  -- the name of a number
  pub named : ℕ → List ℕ
  -- the number of a text that is a name, or why it is none
  pub reads : List ℕ → Result ℕ NameFault
  -- the names end in a check character
  pub checked : Bool

abbrev pub is_ahead : Stand → Bool
is_ahead Ahead = true
is_ahead Given = false
is_ahead Foreign = false

abbrev pub is_foreign : Stand → Bool
is_foreign Ahead = false
is_foreign Given = false
is_foreign Foreign = true

abbrev pub is_given : Stand → Bool
is_given Ahead = false
is_given Given = true
is_given Foreign = false

-- where n stands after m, if any, was drawn
abbrev pub moved : Option ℕ → (ℕ → Stand) → ℕ → Stand
moved None f n = f n
moved (Some m) f n = cond (n == m) Given (f n)

-- after a draw: the first number to come is given, all else is as it was
abbrev pub drawn : Stock → Stock
drawn s = record { ahead = rest s.ahead; stands = moved (first s.ahead) s.stands; reach = s.reach; named = s.named; reads = s.reads; checked = s.checked }

-- what every source obeys
pub record Lawful (s : Stock) : Type 0 where
  -- no number stands twice in the list
  pub once : (n : ℕ) → count n s.ahead ≤ 1
  -- a number stands ahead exactly if the list has it
  pub listed : (n : ℕ) → is_ahead (s.stands n) ≡ has n s.ahead
  -- the source's numbers lie below its reach, which is at most 2^39
  pub within : (n : ℕ) → is_foreign (s.stands n) ≡ false → n < s.reach
  pub small : s.reach ≤ 2 ^ 39
  -- below the reach each number's name is read as that number; from it on the name is empty
  pub names : (n : ℕ) → n < s.reach → s.reads (s.named n) ≡ Ok n
  pub nameless : (n : ℕ) → s.reach ≤ n → s.named n ≡ []
  pub short : (n : ℕ) → length (s.named n) ≤ 28
  -- and nothing else is read as a number
  pub readings : (t : List ℕ) (n : ℕ) → s.reads t ≡ Ok n → (n < s.reach) × (t ≡ s.named n)
  -- with a check character: a name with one byte changed to any other, or two unequal bytes exchanged, is refused
  pub changes : s.checked ≡ true → (n i b : ℕ) → n < s.reach → i < length (s.named n) → (b ≢ slice_index (s.named n) i) → is_ok (s.reads (slice_set (s.named n) i b)) ≡ false
  pub exchanges : s.checked ≡ true → (n i j : ℕ) → n < s.reach → i < length (s.named n) → j < length (s.named n) → (slice_index (s.named n) i ≢ slice_index (s.named n) j) → is_ok (s.reads (swapped (s.named n) i j)) ≡ false
