-- The register's machine over what its source and its store mean: Machine, its state; the checks of each call in their order;
-- outcome and step, one call; answers and final, a list of calls.
use Rattle.std.specs.Prelude.{ℕ, suc, pred, ◌+◌, Bool, cond, not, ◌&&◌, ◌||◌, ltb, leb, List, [], ◌∷◌, ◌++◌, length, is_some, Some, None, Ok, Err, Option, Result, ◌==◌, nat_le, nat_lt}
use Rattle.sources.specs.Lists.{has}
use Rattle.sources.specs.Stock.{Stock, is_foreign, drawn}
use Rattle.sources.specs.declared.fault.SourceFault.TheVariants.{Foreign}
use Rattle.stores.specs.Pairs.{turned, more}
use Rattle.stores.specs.Texts.{same_key}
use Rattle.stores.specs.declared.fault.StoreFault.TheVariants.{Full}
use Rattle.stores.specs.declared.text.Element.{Element}
use Rattle.stores.specs.declared.text.Element.TheVariants.{Who, What, When, Where}
use Rattle.stores.specs.declared.text.TextKey.{TextKey}
use Rattle.machine.specs.Names.{bare}
use Rattle.machine.specs.Calls.{Asked, Mint, Hold, Release, Queue, Tick, Bind, Purge}
use Rattle.machine.specs.declared.call.Answer.{Answer}
use Rattle.machine.specs.declared.call.Answer.TheVariants.{Minted, Held, Released, Queued, Ticked, Bound, Purged, Refused}
use Rattle.machine.specs.declared.call.Due.{Due}
use Rattle.machine.specs.declared.fault.RegisterFault.{RegisterFault}
use Rattle.machine.specs.declared.fault.RegisterFault.TheVariants.{Name, Source, Store, HeldAlready, NotHeld, HoldPlaces, Waits, IsHeld, HasText, QueuePlaces, Delay, Clock, ElementWord, LongText, NoText, NothingWaits, AllStopped}

-- ---- the state

pub record Machine : Type 0 where
  -- what the source means
  pub source : Stock
  -- numbers that a mint passed while they were held, and numbers taken back, each in their order
  pub aside : List ℕ
  pub returned : List ℕ
  -- numbers taken back that are not yet due, in the order of queuing
  pub delayed : List Due
  -- the numbers on hold, ascending
  pub held : List ℕ
  pub clock : ℕ
  -- the text under a number and an element; how many there are, and how many there may be
  pub texts : TextKey → Option (List ℕ)
  pub many : ℕ
  pub capacity : ℕ

-- at its making, over a source and an empty store of c places
abbrev pub fresh : Stock → ℕ → Machine
fresh s c = record { source = s; aside = []; returned = []; delayed = []; held = []; clock = 0; texts = λ k. None; many = 0; capacity = c }

-- the machine with other lists to mint from
abbrev pub with_lists : Machine → Stock → List ℕ → List ℕ → Machine
with_lists m s xs ys = record { source = s; aside = xs; returned = ys; delayed = m.delayed; held = m.held; clock = m.clock; texts = m.texts; many = m.many; capacity = m.capacity }

-- with other numbers on hold
abbrev pub with_held : Machine → List ℕ → Machine
with_held m xs = record { source = m.source; aside = m.aside; returned = m.returned; delayed = m.delayed; held = xs; clock = m.clock; texts = m.texts; many = m.many; capacity = m.capacity }

-- with other numbers taken back, at another second
abbrev pub with_queue : Machine → List ℕ → List Due → ℕ → Machine
with_queue m xs ys t = record { source = m.source; aside = m.aside; returned = xs; delayed = ys; held = m.held; clock = t; texts = m.texts; many = m.many; capacity = m.capacity }

-- with other texts
abbrev pub with_texts : Machine → (TextKey → Option (List ℕ)) → ℕ → Machine
with_texts m f k = record { source = m.source; aside = m.aside; returned = m.returned; delayed = m.delayed; held = m.held; clock = m.clock; texts = f; many = k; capacity = m.capacity }

-- ---- numbers on hold

abbrev pub holds : Machine → ℕ → Bool
holds m n = has n m.held

-- one number more, in its place; one less
abbrev pub added : ℕ → List ℕ → List ℕ
added n [] = n ∷ []
added n (x ∷ xs) = cond (nat_lt n x) (n ∷ (x ∷ xs)) (x ∷ added n xs)

abbrev pub without : ℕ → List ℕ → List ℕ
without n [] = []
without n (x ∷ xs) = cond (n == x) xs (x ∷ without n xs)

-- how many of ys are not among xs
abbrev pub outside : List ℕ → List ℕ → ℕ
outside xs [] = 0
outside xs (y ∷ ys) = cond (has y xs) (outside xs ys) (suc (outside xs ys))

-- how many different numbers are aside or held
abbrev pub places : Machine → ℕ
places m = length m.aside + outside m.aside m.held

-- ---- numbers that are not yet due

abbrev pub numbers : List Due → List ℕ
numbers [] = []
numbers (x ∷ xs) = x.number ∷ numbers xs

-- those due by the second t, and those due later, in their order
abbrev pub by : ℕ → List Due → List Due
by t [] = []
by t (x ∷ xs) = cond (nat_le x.second t) (x ∷ by t xs) (by t xs)

abbrev pub later_than : ℕ → List Due → List Due
later_than t [] = []
later_than t (x ∷ xs) = cond (nat_le x.second t) (later_than t xs) (x ∷ later_than t xs)

-- in the order of their second, equal ones as they stood
abbrev pub placed : Due → List Due → List Due
placed d [] = d ∷ []
placed d (x ∷ xs) = cond (nat_le d.second x.second) (d ∷ (x ∷ xs)) (x ∷ placed d xs)

abbrev pub in_order : List Due → List Due
in_order [] = []
in_order (x ∷ xs) = placed x (in_order xs)

-- ---- what waits, what has a text

abbrev pub waiting : Machine → ℕ → Bool
waiting m n = has n m.source.ahead || (has n m.aside || (has n m.returned || has n (numbers m.delayed)))

abbrev pub key : ℕ → Element → TextKey
key n e = record { number = n; element = e }

abbrev pub text_under : Machine → ℕ → Element → Bool
text_under m n e = is_some (m.texts (key n e))

abbrev pub text_bound : Machine → ℕ → Bool
text_bound m n = text_under m n Who || (text_under m n What || (text_under m n When || text_under m n Where))

-- ---- checks: the first that fails refuses, and leaves all as it was

-- a call's effect, and the number or second that it answers, or its fault
abbrev pub Outcome : Type 0
Outcome = Machine × Result ℕ RegisterFault

pub record Check : Type 0 where
  pub fails : Bool
  pub fault : RegisterFault

infixl 20 ◌⇒◌
abbrev pub ◌⇒◌ : Bool → RegisterFault → Check
b ⇒ f = record { fails = b; fault = f }

abbrev pub tried : Machine → List Check → Outcome → Outcome
tried m [] o = o
tried m (c ∷ cs) o = cond c.fails (m, Err c.fault) (tried m cs o)

-- a call on a name reads it, then refuses a foreign one
abbrev pub number_of : Machine → List ℕ → Result ℕ RegisterFault
number_of m t = elim (m.source.reads (bare t)) [ Err e ↦ Err (Name e) | Ok n ↦ cond (is_foreign (m.source.stands n)) (Err (Source Foreign)) (Ok n) ]

abbrev pub on_name : Machine → List ℕ → (ℕ → Outcome) → Outcome
on_name m t f = elim (number_of m t) [ Err e ↦ (m, Err e) | Ok n ↦ f n ]

abbrev pub on_element : Machine → Option Element → (Element → Outcome) → Outcome
on_element m e f = elim e [ None ↦ (m, Err ElementWord) | Some w ↦ f w ]

-- ---- mint

-- the longest front of which the test holds, and what is left after it
abbrev pub front : (ℕ → Bool) → List ℕ → List ℕ
front p [] = []
front p (x ∷ xs) = cond (p x) (x ∷ front p xs) []

abbrev pub back : (ℕ → Bool) → List ℕ → List ℕ
back p [] = []
back p (x ∷ xs) = cond (p x) (back p xs) (x ∷ xs)

-- as many draws as the list has numbers
abbrev pub drawn_over : List ℕ → Stock → Stock
drawn_over [] s = s
drawn_over (x ∷ xs) s = drawn_over xs (drawn s)

-- 22 where nothing waits, else 23
abbrev pub none_to_mint : Machine → RegisterFault
none_to_mint m = cond (length m.source.ahead + length m.aside + length m.returned + length m.delayed == 0) NothingWaits AllStopped

-- by what aside, returned and the source's list have from their first number not held on
abbrev pub mint_from : Machine → List ℕ → List ℕ → List ℕ → Outcome
mint_from m (n ∷ xs) ys zs = (with_lists m m.source (front (holds m) m.aside ++ xs) m.returned, Ok n)
mint_from m [] (n ∷ ys) zs = (with_lists m m.source (m.aside ++ front (holds m) m.returned) ys, Ok n)
mint_from m [] [] (n ∷ zs) = (with_lists m (drawn (drawn_over (front (holds m) m.source.ahead) m.source)) (m.aside ++ (m.returned ++ front (holds m) m.source.ahead)) [], Ok n)
mint_from m [] [] [] = (m, Err (none_to_mint m))

abbrev pub mint : Machine → Outcome
mint m = mint_from m (back (holds m) m.aside) (back (holds m) m.returned) (back (holds m) m.source.ahead)

-- ---- the other calls: their checks, in their order, and what they do once these are passed

abbrev pub hold_checks : Machine → ℕ → List Check
hold_checks m n = (holds m n ⇒ HeldAlready) ∷ ((not (has n m.aside) && nat_le 64 (places m)) ⇒ HoldPlaces) ∷ []

abbrev pub hold : Machine → List ℕ → Outcome
hold m t = on_name m t (λ n. tried m (hold_checks m n) (with_held m (added n m.held), Ok n))

abbrev pub release_checks : Machine → ℕ → List Check
release_checks m n = (not (holds m n) ⇒ NotHeld) ∷ []

abbrev pub release : Machine → List ℕ → Outcome
release m t = on_name m t (λ n. tried m (release_checks m n) (with_held m (without n m.held), Ok n))

abbrev pub queue_checks : Machine → ℕ → ℕ → List Check
queue_checks m n d =
    (ltb 31536000 d ⇒ Delay) ∷ (waiting m n ⇒ Waits) ∷ (holds m n ⇒ IsHeld) ∷ (text_bound m n ⇒ HasText)
    ∷ (leb 64 (length m.returned + length m.delayed) ⇒ QueuePlaces) ∷ []

-- delay 0 puts a number at the end of returned; another makes it due at clock + delay
abbrev pub queued_in : Machine → ℕ → ℕ → Machine
queued_in m n d = with_queue m
    (cond (d == 0) (m.returned ++ (n ∷ [])) m.returned)
    (cond (d == 0) m.delayed (m.delayed ++ (record { number = n; second = m.clock + d } ∷ []))) m.clock

abbrev pub queue : Machine → List ℕ → ℕ → Outcome
queue m t d = on_name m t (λ n. tried m (queue_checks m n d) (queued_in m n d, Ok n))

abbrev pub tick_checks : Machine → ℕ → List Check
tick_checks m t = (not (nat_le m.clock t && nat_le t 1000000000000) ⇒ Clock) ∷ []

-- what is due by then goes to the end of returned
abbrev pub ticked_to : Machine → ℕ → Machine
ticked_to m t = with_queue m (m.returned ++ numbers (in_order (by t m.delayed))) (later_than t m.delayed) t

abbrev pub tick : Machine → ℕ → Outcome
tick m t = tried m (tick_checks m t) (ticked_to m t, Ok t)

abbrev pub bind_checks : Machine → ℕ → Element → List ℕ → List Check
bind_checks m n f w = (ltb 40 (length w) ⇒ LongText) ∷ (waiting m n ⇒ Waits) ∷ ((not (text_under m n f) && nat_le m.capacity m.many) ⇒ Store Full) ∷ []

-- the text under n and f becomes w
abbrev pub bound_in : Machine → ℕ → Element → Option (List ℕ) → ℕ → Machine
bound_in m n f w k = with_texts m (turned same_key m.texts (key n f) w) k

abbrev pub bind : Machine → List ℕ → Option Element → List ℕ → Outcome
bind m t e w = on_name m t (λ n. on_element m e (λ f. tried m (bind_checks m n f w) (bound_in m n f (Some w) (more (text_under m n f) m.many), Ok n)))

abbrev pub text_checks : Machine → ℕ → Element → List Check
text_checks m n f = (not (text_under m n f) ⇒ NoText) ∷ []

abbrev pub purge : Machine → List ℕ → Option Element → Outcome
purge m t e = on_name m t (λ n. on_element m e (λ f. tried m (text_checks m n f) (bound_in m n f None (pred m.many), Ok n)))

-- fetch changes nothing; the text that it copies out
abbrev pub fetch : Machine → List ℕ → Option Element → Outcome
fetch m t e = on_name m t (λ n. on_element m e (λ f. tried m (text_checks m n f) (m, Ok n)))

abbrev pub fetched : Machine → List ℕ → Option Element → Option (List ℕ)
fetched m t e = elim (number_of m t) [ Err f ↦ None | Ok n ↦ elim e [ None ↦ None | Some w ↦ m.texts (key n w) ] ]

-- validate only reads
abbrev pub validate : Machine → List ℕ → Result ℕ RegisterFault
validate m t = elim (m.source.reads (bare t)) [ Err e ↦ Err (Name e) | Ok n ↦ Ok n ]

-- ---- runs

-- what a call does, and its number, second or fault
abbrev pub outcome : Machine → Asked → Outcome
outcome m Mint = mint m
outcome m (Hold t) = hold m t
outcome m (Release t) = release m t
outcome m (Queue t d) = queue m t d
outcome m (Tick s) = tick m s
outcome m (Bind t e w) = bind m t e w
outcome m (Purge t e) = purge m t e

-- the answer to an accepted call, by its number or second
abbrev pub answer : Asked → ℕ → Answer
answer Mint n = Minted n
answer (Hold t) n = Held n
answer (Release t) n = Released n
answer (Queue t d) n = Queued n
answer (Tick s) n = Ticked n
answer (Bind t e w) n = Bound n
answer (Purge t e) n = Purged n

abbrev pub said : (ℕ → Answer) → Result ℕ RegisterFault → Answer
said f (Ok n) = f n
said f (Err e) = Refused e

abbrev pub step : Machine → Asked → Machine × Answer
step m Mint = ((mint m).0, said (λ n. Minted n) (mint m).1)
step m (Hold t) = ((hold m t).0, said (λ n. Held n) (hold m t).1)
step m (Release t) = ((release m t).0, said (λ n. Released n) (release m t).1)
step m (Queue t d) = ((queue m t d).0, said (λ n. Queued n) (queue m t d).1)
step m (Tick s) = ((tick m s).0, said (λ n. Ticked n) (tick m s).1)
step m (Bind t e w) = ((bind m t e w).0, said (λ n. Bound n) (bind m t e w).1)
step m (Purge t e) = ((purge m t e).0, said (λ n. Purged n) (purge m t e).1)

-- after a list of calls, the first call first
abbrev pub final : Machine → List Asked → Machine
final m [] = m
final m (c ∷ cs) = final (step m c).0 cs

abbrev pub answers : Machine → List Asked → List Answer
answers m [] = []
answers m (c ∷ cs) = (step m c).1 ∷ answers (step m c).0 cs
