-- Worked examples, computed: a source of four numbers, number n named by its digit written twice; and 70 numbers, each named by one byte.
use Rattle.std.proofs.Common.{◌≡◌, ℕ, zero, suc, ◌+◌, ◌-◌, Bool, true, false, cond, ◌&&◌, eqb, ltb, leb, List, [], ◌∷◌, length, Some, None, Ok, Err, Result, refl}
use Rattle.names.specs.declared.fault.NameFault.{NameFault}
use Rattle.names.specs.declared.fault.NameFault.TheVariants.{Length, Byte}
use Rattle.sources.specs.Stock.{Stock}
use Rattle.sources.specs.declared.source.Stand.TheVariants.{Ahead, Given, Foreign}
use Rattle.stores.specs.declared.fault.StoreFault.TheVariants.{Full}
use Rattle.stores.specs.declared.text.Element.TheVariants.{Who, What}
use Rattle.machine.specs.Machine.{fresh, answers}
use Rattle.machine.specs.History.{waits, times_minted, queuings}
use Rattle.machine.specs.Law.{new}
use Rattle.machine.specs.Runs.{past}
use Rattle.machine.specs.declared.call.Answer.{Answer}
use Rattle.machine.specs.declared.call.Answer.TheVariants.{Minted, Held, Released, Queued, Ticked, Bound, Purged, Refused}
use Rattle.machine.specs.Calls.{Asked, Mint, Hold, Release, Queue, Tick, Bind, Purge}
use Rattle.machine.specs.declared.fault.RegisterFault.TheVariants.{Name, Store, Waits, HasText, HoldPlaces, Clock, Delay, ElementWord, NoText, NothingWaits, AllStopped, HeldAlready, NotHeld}

abbrev pub twin : ℕ → List ℕ
twin n = cond (ltb n 4) ((48 + n) ∷ (48 + n) ∷ []) []

-- the number n if the test holds, else a wrong byte
abbrev pub number_if : Bool → ℕ → Result ℕ NameFault
number_if b n = cond b (Ok n) (Err (Byte 0))

abbrev pub read_twin : List ℕ → Result ℕ NameFault
read_twin [] = Err (Length 0)
read_twin (a ∷ []) = Err (Length 1)
read_twin (a ∷ (b ∷ [])) = number_if (leb 48 a && (ltb a 52 && eqb a b)) (a - 48)
read_twin (a ∷ (b ∷ (c ∷ ds))) = Err (Length (3 + length ds))

abbrev pub four : Stock
four = record {
  ahead = 0 ∷ 1 ∷ 2 ∷ 3 ∷ [];
  stands = λ n. cond (ltb n 4) Ahead Foreign;
  reach = 4;
  named = twin;
  reads = read_twin;
  checked = true;
}

abbrev name : ℕ → List ℕ
name n = twin n

-- a held name is passed, and minted first after its release; a queued one comes after it
abbrev pub held_session : List Asked
held_session = Mint ∷ Mint ∷ Hold (name 2) ∷ Mint ∷ Queue (name 1) 0 ∷ Release (name 2) ∷ Mint ∷ Mint ∷ Mint ∷ Hold ((50 ∷ 51 ∷ [])) ∷ []

held_answers : answers (fresh four 4) held_session
    ≡ Minted 0 ∷ Minted 1 ∷ Held 2 ∷ Minted 3 ∷ Queued 1 ∷ Released 2 ∷ Minted 2 ∷ Minted 1 ∷ Refused NothingWaits ∷ Refused (Name (Byte 0)) ∷ []
held_answers = refl

minted_twice : times_minted (past (fresh four 4) held_session) (twin 1) ≡ 2
minted_twice = refl

queued_once : queuings (past (fresh four 4) held_session) (twin 1) ≡ 1
queued_once = refl

waits_no_more : waits (new four) (past (fresh four 4) held_session) (twin 2) ≡ false
waits_no_more = refl

-- texts and delays: a store of one place
abbrev pub text_session : List Asked
text_session =
    Mint ∷ Bind (name 0) (Some Who) ((104 ∷ [])) ∷ Queue (name 0) 5 ∷ Bind (name 1) (Some Who) ([]) ∷ Mint ∷ Bind (name 1) (Some What) ([])
    ∷ Purge (name 0) None ∷ Purge (name 0) (Some What) ∷ Purge (name 0) (Some Who) ∷ Queue (name 0) 31536001 ∷ Queue (name 0) 5 ∷ Tick 4 ∷ Tick 3 ∷ Tick 5 ∷ Mint ∷ []

text_answers : answers (fresh four 1) text_session
    ≡ Minted 0 ∷ Bound 0 ∷ Refused HasText ∷ Refused Waits ∷ Minted 1 ∷ Refused (Store Full)
    ∷ Refused ElementWord ∷ Refused NoText ∷ Purged 0 ∷ Refused Delay ∷ Queued 0 ∷ Ticked 4 ∷ Refused Clock ∷ Ticked 5 ∷ Minted 0 ∷ []
text_answers = refl

-- names come back by due second, equal ones in the order of queuing; 23 while all that wait are stopped
abbrev pub due_session : List Asked
due_session =
    Mint ∷ Mint ∷ Mint ∷ Mint ∷ Mint ∷ Queue (name 2) 7 ∷ Queue (name 3) 5 ∷ Queue (name 0) 7 ∷ Mint ∷ Hold (name 3) ∷ Hold (name 3) ∷ Tick 9
    ∷ Mint ∷ Mint ∷ Mint ∷ Queue (name 1) 0 ∷ Queue (name 3) 0 ∷ Release (name 3) ∷ Release (name 3) ∷ Mint ∷ []

due_answers : answers (fresh four 1) due_session
    ≡ Minted 0 ∷ Minted 1 ∷ Minted 2 ∷ Minted 3 ∷ Refused NothingWaits ∷ Queued 2 ∷ Queued 3 ∷ Queued 0 ∷ Refused AllStopped ∷ Held 3 ∷ Refused HeldAlready ∷ Ticked 9
    ∷ Minted 2 ∷ Minted 0 ∷ Refused AllStopped ∷ Queued 1 ∷ Refused Waits ∷ Released 3 ∷ Refused NotHeld ∷ Minted 3 ∷ []
due_answers = refl

-- ---- the 64th hold is taken, the 65th refused

abbrev read_byte : List ℕ → Result ℕ NameFault
read_byte [] = Err (Length 0)
read_byte (b ∷ []) = number_if (ltb b 70) b
read_byte (b ∷ (c ∷ cs)) = Err (Length (2 + length cs))

abbrev seventy : Stock
seventy = record { ahead = []; stands = λ n. cond (ltb n 70) Given Foreign; reach = 70; named = λ n. cond (ltb n 70) (n ∷ []) []; reads = read_byte; checked = false }

-- a hold on each number below k, the greatest first, then on the number x
abbrev holds_below : ℕ → ℕ → List Asked
holds_below zero x = Hold ((x ∷ [])) ∷ []
holds_below (suc k) x = Hold ((k ∷ [])) ∷ holds_below k x

abbrev last : List Answer → Answer
last [] = Refused NothingWaits
last (a ∷ []) = a
last (a ∷ (b ∷ bs)) = last (b ∷ bs)

hold_64 : last (answers (fresh seventy 0) (holds_below 63 69)) ≡ Held 69
hold_64 = refl

hold_65 : last (answers (fresh seventy 0) (holds_below 64 69)) ≡ Refused HoldPlaces
hold_65 = refl
