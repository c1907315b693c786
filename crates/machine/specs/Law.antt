-- The law over whole runs: new, the start of a new register; Stopped, when a mint is refused; Law, one field for each sentence of it.
use Rattle.std.specs.Prelude.{◌≡◌, ℕ, ◌+◌, ◌<◌, Bool, true, false, cond, not, ◌||◌, ◌∷◌, ◌++◌, length, is_ok, Ok, ◌≢◌, slice_index, slice_set}
use Rattle.names.specs.Texts.{swapped}
use Rattle.sources.specs.Stock.{Stock, is_ahead, is_foreign, is_given}
use Rattle.stores.specs.declared.text.Element.{Element}
use Rattle.machine.specs.Names.{Name, read_as}
use Rattle.machine.specs.History.{Event, History, minted, mint_refused, Start, waits, on_hold, not_yet_due, has_text, times_minted, queuings}

abbrev pub one_if : Bool → ℕ
one_if b = cond b 1 0

-- t is the name of a number of the source, given or ahead; of one ahead
abbrev pub is_name_of : Stock → Name → Bool
is_name_of s t = read_as (λ n. not (is_foreign (s.stands n))) false (s.reads t)

abbrev pub is_ahead_in : Stock → Name → Bool
is_ahead_in s t = read_as (λ n. is_ahead (s.stands n)) false (s.reads t)

-- a new register over a source and an empty store: what is ahead in the source waits, all else is nothing yet
abbrev pub new : Stock → Start
new s = record { ours = is_name_of s; waiting = is_ahead_in s; second = λ t. 0; holding = λ t. false; texts = λ t e. false; clock = 0 }

-- every name that waits is on hold or not yet due
abbrev pub Stopped : Start → History → Type 0
Stopped o g = (t : Name) → waits o g t ≡ true → (on_hold o g t || not_yet_due o g t) ≡ true

-- in the history h the event e came right after g
abbrev pub Came : History → Event → History → Type 0
Came h e g = (late : History) × (h ≡ late ++ (e ∷ g))

-- of a run over the source s that began as o says, and of its history h
pub record Law (s : Stock) (o : Start) (h : History) : Type 0 where
  -- times minted, and 1 if it waits now, are 1 for a first turn (where it waited at the start) and its accepted queuings
  pub turns : (t : Name) → times_minted h t + one_if (waits o h t) ≡ one_if (o.waiting t) + queuings h t
  -- no name was minted that is not the source's
  pub ours_alone : (t : Name) → o.ours t ≡ false → times_minted h t ≡ 0
  -- a mint was refused only when each name that waited was on hold or not yet due
  pub refused_only_if_stopped : (g : History) → Came h mint_refused g → Stopped o g
  -- and then always: no name was minted when all that waited were stopped
  pub refused_if_stopped : (g : History) (n : ℕ) (t : Name) → Came h (minted n t) g → Stopped o g → ⊥
  -- a minted name waited, was due and was not on hold
  pub free : (g : History) (n : ℕ) (t : Name) → Came h (minted n t) g → (waits o g t ≡ true) × (on_hold o g t ≡ false) × (not_yet_due o g t ≡ false)
  -- no name was minted while a text was bound to it
  pub textless : (g : History) (n : ℕ) (t : Name) → Came h (minted n t) g → (e : Element) → has_text o g t e ≡ false
  -- validate answers each minted name's number
  pub validates : (g : History) (n : ℕ) (t : Name) → Came h (minted n t) g → s.reads t ≡ Ok n
  -- where names end in a check character: a minted name with one byte changed to any other is refused
  pub one_changed : s.checked ≡ true → (g : History) (n : ℕ) (t : Name) → Came h (minted n t) g → (i b : ℕ) → i < length t → (b ≢ slice_index t i) → is_ok (s.reads (slice_set t i b)) ≡ false
  -- and so is one with any two unequal bytes exchanged
  pub two_exchanged : s.checked ≡ true → (g : History) (n : ℕ) (t : Name) → Came h (minted n t) g → (i j : ℕ) → i < length t → j < length t → (slice_index t i ≢ slice_index t j) → is_ok (s.reads (swapped t i j)) ≡ false

-- nothing was drawn from the source
abbrev pub Undrawn : Stock → Type 0
Undrawn s = (n : ℕ) → is_given (s.stands n) ≡ false

-- then the first turn counts 1 for each of its names
abbrev pub FirstTurns : Stock → Type 0
FirstTurns s = Undrawn s → (t : Name) → is_name_of s t ≡ true → one_if ((new s).waiting t) ≡ 1
