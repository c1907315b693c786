-- The law of every run of the machine: Sound, what lasts between calls; Matches, a start that says of names what a machine has;
-- FromAnyStart and FromNew, the law; StaysSound, StaysMatched and SameNaming, what a run leaves; PassedOnce, of a mint.
use Rattle.std.specs.Prelude.{◌≡◌, ℕ, ◌+◌, ◌≤◌, Bool, true, false, cond, not, ◌&&◌, ◌||◌, List, [], ◌∷◌, length, Ok, ◌==◌, nat_lt}
use Rattle.sources.specs.Lists.{count, has}
use Rattle.sources.specs.Stock.{Stock, Lawful, is_foreign}
use Rattle.stores.specs.declared.text.Element.{Element}
use Rattle.machine.specs.Names.{Name, read_as}
use Rattle.machine.specs.History.{Start, History, told, after}
use Rattle.machine.specs.Law.{Law, new}
use Rattle.machine.specs.Machine.{Machine, fresh, final, answers, numbers, waiting, holds, places, text_under}
use Rattle.machine.specs.Calls.{Asked}
use Rattle.machine.specs.declared.call.Due.{Due}

abbrev pub all_after : ℕ → List Due → Bool
all_after t [] = true
all_after t (x ∷ xs) = nat_lt t x.second && all_after t xs

-- what each making gives and each call keeps
pub record Sound (m : Machine) : Type 0 where
  -- the source obeys the laws of sources
  pub lawful : Lawful m.source
  -- a waiting number stands once in the four lists together, and is the source's
  pub once : (n : ℕ) → count n m.aside + (count n m.returned + (count n m.source.ahead + count n (numbers m.delayed))) ≤ 1
  pub ours : (n : ℕ) → waiting m n ≡ true → is_foreign (m.source.stands n) ≡ false
  -- no text is under a waiting number
  pub textless : (n : ℕ) (e : Element) → waiting m n ≡ true → text_under m n e ≡ false
  -- what is delayed is due after the clock
  pub to_come : all_after m.clock m.delayed ≡ true
  -- no number is on hold twice
  pub hold_once : (n : ℕ) → count n m.held ≤ 1
  -- aside and held together have at most 64 different numbers; returned and delayed together at most 64
  pub hold_places : places m ≤ 64
  pub queue_places : length m.returned + length m.delayed ≤ 64

-- the second at which a delayed number is due; 0 for any other
abbrev pub second_of : List Due → ℕ → ℕ
second_of [] n = 0
second_of (x ∷ xs) n = cond (n == x.number) x.second (second_of xs n)

-- what a machine has, said of the number of a name; x of a text that is no name
abbrev pub of_name : {X : Type 0} → Machine → X → (ℕ → X) → Name → X
of_name m x f t = read_as f x (m.source.reads t)

pub record Matches (o : Start) (m : Machine) : Type 0 where
  pub ours : (t : Name) → o.ours t ≡ of_name m false (λ n. not (is_foreign (m.source.stands n))) t
  pub waiting : (t : Name) → o.waiting t ≡ of_name m false (λ n. waiting m n) t
  pub holding : (t : Name) → o.holding t ≡ of_name m false (λ n. holds m n) t
  pub texts : (t : Name) (e : Element) → o.texts t e ≡ of_name m false (λ n. text_under m n e) t
  pub clock : o.clock ≡ m.clock
  -- the delayed ones are those that wait and are not yet due, each with its second
  pub delayed : (t : Name) → (o.waiting t && nat_lt o.clock (o.second t)) ≡ of_name m false (λ n. has n (numbers m.delayed)) t
  pub second : (t : Name) (n : ℕ) → m.source.reads t ≡ Ok n → has n (numbers m.delayed) ≡ true → o.second t ≡ second_of m.delayed n

-- the history of a run
abbrev pub past : Machine → List Asked → History
past m calls = told m.source.named calls (answers m calls)

-- every run from a sound machine has the law
abbrev pub FromAnyStart : Type 0
FromAnyStart = (o : Start) (m : Machine) (calls : List Asked) → Sound m → Matches o m → Law m.source o (past m calls)

-- every run of a new register has the law
abbrev pub FromNew : Type 0
FromNew = (s : Stock) (c : ℕ) (calls : List Asked) → Lawful s → Law s (new s) (past (fresh s c) calls)

-- a run leaves a sound machine, so the limits stand after it too
abbrev pub StaysSound : Type 0
StaysSound = (m : Machine) (calls : List Asked) → Sound m → Sound (final m calls)

-- and what its history says is what the machine has then
abbrev pub StaysMatched : Type 0
StaysMatched = (o : Start) (m : Machine) (calls : List Asked) → Sound m → Matches o m → Matches (after o (past m calls)) (final m calls)

-- the naming is the same at its end
abbrev pub SameNaming : Type 0
SameNaming = (m : Machine) (calls : List Asked) → Sound m → ((final m calls).source.reads ≡ m.source.reads) × ((final m calls).source.named ≡ m.source.named)

-- a number that a mint may pass does not stand aside already
abbrev pub PassedOnce : Type 0
PassedOnce = (m : Machine) → Sound m → (n : ℕ) → (has n m.returned || has n m.source.ahead) ≡ true → has n m.aside ≡ false
