-- What a run's calls and answers say, in the words of the subject and of names alone; nothing here knows of the machine.
-- Event, a call with what came of it; History, a run's events, the latest first; Start, what is so before the first of them;
-- waits, on_hold, has_text, due, clock_after, times_minted, queuings: what a history says; after, what is so at its end.
use Rattle.std.specs.Prelude.{ℕ, suc, ◌+◌, Bool, true, false, cond, ◌&&◌, List, [], ◌∷◌, Some, None, Option, nat_lt}
use Rattle.stores.specs.Texts.{same_element}
use Rattle.stores.specs.declared.text.Element.{Element}
use Rattle.machine.specs.Names.{Name, bare}
use Rattle.machine.specs.Calls.{Asked, Mint, Hold, Release, Queue, Tick, Bind, Purge}
use Rattle.machine.specs.declared.call.Answer.{Answer}
use Rattle.machine.specs.declared.call.Answer.TheVariants.{Minted, Held, Released, Queued, Ticked, Bound, Purged, Refused}
use Rattle.std.specs.Str.{bytes_eq}

-- ---- events

-- a call that was accepted, or a refusal; a mint's has the number that it answered and that number's name
pub data Event : Type 0 where
  minted : ℕ → Name → Event
  mint_refused : Event
  held : Name → Event
  released : Name → Event
  queued : Name → ℕ → Event
  ticked : ℕ → Event
  bound : Name → Element → Event
  purged : Name → Element → Event
  refused : Event

abbrev pub History : Type 0
History = List Event

abbrev pub accepted : Answer → Bool
accepted (Minted n) = true
accepted (Held n) = true
accepted (Released n) = true
accepted (Queued n) = true
accepted (Ticked t) = true
accepted (Bound n) = true
accepted (Purged n) = true
accepted (Refused f) = false

-- what a mint's answer says: a minted name, or a refusal
abbrev pub mint_event : (ℕ → Name) → Answer → Event
mint_event named (Minted n) = minted n (named n)
mint_event named (Held n) = mint_refused
mint_event named (Released n) = mint_refused
mint_event named (Queued n) = mint_refused
mint_event named (Ticked t) = mint_refused
mint_event named (Bound n) = mint_refused
mint_event named (Purged n) = mint_refused
mint_event named (Refused f) = mint_refused

abbrev pub with_element : Option Element → (Element → Event) → Event
with_element None f = refused
with_element (Some e) f = f e

-- of every other call: what was asked, if it was accepted
abbrev pub event : (ℕ → Name) → Asked → Answer → Event
event named Mint a = mint_event named a
event named (Hold t) a = cond (accepted a) (held (bare t)) refused
event named (Release t) a = cond (accepted a) (released (bare t)) refused
event named (Queue t d) a = cond (accepted a) (queued (bare t) d) refused
event named (Tick s) a = cond (accepted a) (ticked s) refused
event named (Bind t e w) a = cond (accepted a) (with_element e (λ f. bound (bare t) f)) refused
event named (Purge t e) a = cond (accepted a) (with_element e (λ f. purged (bare t) f)) refused

-- the history g, and after it the calls with their answers
abbrev pub told_after : (ℕ → Name) → History → List Asked → List Answer → History
told_after named g [] bs = g
told_after named g (c ∷ cs) [] = g
told_after named g (c ∷ cs) (a ∷ bs) = told_after named (event named c a ∷ g) cs bs

abbrev pub told : (ℕ → Name) → List Asked → List Answer → History
told named cs bs = told_after named [] cs bs

-- ---- which events are of a name

abbrev pub is_minted : Name → Event → Bool
is_minted t (minted n u) = bytes_eq t u
is_minted t mint_refused = false
is_minted t (held u) = false
is_minted t (released u) = false
is_minted t (queued u d) = false
is_minted t (ticked s) = false
is_minted t (bound u e) = false
is_minted t (purged u e) = false
is_minted t refused = false

abbrev pub is_queued : Name → Event → Bool
is_queued t (minted n u) = false
is_queued t mint_refused = false
is_queued t (held u) = false
is_queued t (released u) = false
is_queued t (queued u d) = bytes_eq t u
is_queued t (ticked s) = false
is_queued t (bound u e) = false
is_queued t (purged u e) = false
is_queued t refused = false

abbrev pub is_held : Name → Event → Bool
is_held t (minted n u) = false
is_held t mint_refused = false
is_held t (held u) = bytes_eq t u
is_held t (released u) = false
is_held t (queued u d) = false
is_held t (ticked s) = false
is_held t (bound u e) = false
is_held t (purged u e) = false
is_held t refused = false

abbrev pub is_released : Name → Event → Bool
is_released t (minted n u) = false
is_released t mint_refused = false
is_released t (held u) = false
is_released t (released u) = bytes_eq t u
is_released t (queued u d) = false
is_released t (ticked s) = false
is_released t (bound u e) = false
is_released t (purged u e) = false
is_released t refused = false

abbrev pub is_bound : Name → Element → Event → Bool
is_bound t e (minted n u) = false
is_bound t e mint_refused = false
is_bound t e (held u) = false
is_bound t e (released u) = false
is_bound t e (queued u d) = false
is_bound t e (ticked s) = false
is_bound t e (bound u f) = bytes_eq t u && same_element e f
is_bound t e (purged u f) = false
is_bound t e refused = false

abbrev pub is_purged : Name → Element → Event → Bool
is_purged t e (minted n u) = false
is_purged t e mint_refused = false
is_purged t e (held u) = false
is_purged t e (released u) = false
is_purged t e (queued u d) = false
is_purged t e (ticked s) = false
is_purged t e (bound u f) = false
is_purged t e (purged u f) = bytes_eq t u && same_element e f
is_purged t e refused = false

-- ---- what a history says

-- what is so before the first call
pub record Start : Type 0 where
  -- which texts are names of the source
  pub ours : Name → Bool
  -- which of them wait, and from which second on they are due
  pub waiting : Name → Bool
  pub second : Name → ℕ
  pub holding : Name → Bool
  pub texts : Name → Element → Bool
  pub clock : ℕ

-- from an event of the first kind until the next of the second; `start` where there was neither
abbrev pub since : (Event → Bool) → (Event → Bool) → Bool → History → Bool
since on off start [] = start
since on off start (e ∷ g) = cond (on e) true (cond (off e) false (since on off start g))

abbrev pub times : (Event → Bool) → History → ℕ
times p [] = 0
times p (e ∷ g) = cond (p e) (suc (times p g)) (times p g)

-- a name waits from an accepted queuing until its next mint
abbrev pub waits : Start → History → Name → Bool
waits o h t = since (is_queued t) (is_minted t) (o.waiting t) h

-- it is on hold from an accepted hold until its next accepted release
abbrev pub on_hold : Start → History → Name → Bool
on_hold o h t = since (is_held t) (is_released t) (o.holding t) h

-- a text is bound from an accepted bind until its accepted purge
abbrev pub has_text : Start → History → Name → Element → Bool
has_text o h t e = since (is_bound t e) (is_purged t e) (o.texts t e) h

abbrev pub times_minted : History → Name → ℕ
times_minted h t = times (is_minted t) h

abbrev pub queuings : History → Name → ℕ
queuings h t = times (is_queued t) h

-- the second of the last accepted tick
abbrev pub clock_after : Start → History → ℕ
clock_after o [] = o.clock
clock_after o (minted n u ∷ g) = clock_after o g
clock_after o (mint_refused ∷ g) = clock_after o g
clock_after o (held u ∷ g) = clock_after o g
clock_after o (released u ∷ g) = clock_after o g
clock_after o (queued u d ∷ g) = clock_after o g
clock_after o (ticked s ∷ g) = s
clock_after o (bound u e ∷ g) = clock_after o g
clock_after o (purged u e ∷ g) = clock_after o g
clock_after o (refused ∷ g) = clock_after o g

-- the clock of a name's last accepted queuing + that delay
abbrev pub due : Start → History → Name → ℕ
due o [] t = o.second t
due o (minted n u ∷ g) t = due o g t
due o (mint_refused ∷ g) t = due o g t
due o (held u ∷ g) t = due o g t
due o (released u ∷ g) t = due o g t
due o (queued u d ∷ g) t = cond (bytes_eq t u) (clock_after o g + d) (due o g t)
due o (ticked s ∷ g) t = due o g t
due o (bound u e ∷ g) t = due o g t
due o (purged u e ∷ g) t = due o g t
due o (refused ∷ g) t = due o g t

-- it is not yet due while the clock is below that
abbrev pub not_yet_due : Start → History → Name → Bool
not_yet_due o h t = nat_lt (clock_after o h) (due o h t)

-- what is so after a history; another run may begin there
abbrev pub after : Start → History → Start
after o h = record { ours = o.ours; waiting = waits o h; second = due o h; holding = on_hold o h; texts = has_text o h; clock = clock_after o h }
