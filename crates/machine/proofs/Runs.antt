-- The law of every run: from any sound machine, and of a new register.
use Rattle.std.proofs.Common.{◌≡◌, ℕ, Bool, true, false, not, ◌&&◌, ◌||◌, ltb, List, [], ◌∷◌, Ok, Err, Result, refl, ◌∙◌, subst, subst₂, arith}
use Rattle.std.proofs.lemmas.Bool.Decides.{nat_tests}
use Rattle.names.specs.declared.fault.NameFault.{NameFault}
use Rattle.sources.specs.Lists.{has}
use Rattle.sources.specs.Stock.{Stock, Lawful, is_ahead, is_foreign, is_given}
use Rattle.sources.specs.declared.source.Stand.{Stand}
use Rattle.sources.specs.declared.source.Stand.TheVariants.{Ahead, Given, Foreign}
use Rattle.machine.specs.Names.{Name, read_as}
use Rattle.machine.specs.Machine.{Machine, fresh, step, final, answers, waiting, holds, numbers, text_under}
use Rattle.machine.specs.History.{History, Start, event, told_after, after}
use Rattle.machine.specs.Law.{new, FirstTurns, one_if}
use Rattle.machine.specs.Runs.{Sound, Matches, of_name, second_of, past, FromAnyStart, FromNew, StaysSound, StaysMatched, SameNaming}
use Rattle.machine.specs.Calls.{Asked}
use Rattle.machine.proofs.Counts.{second_none, second_after}
use Rattle.machine.proofs.Draws.{ahead_not_foreign}
use Rattle.machine.proofs.Keeps.{step_sound}
use Rattle.machine.proofs.Readings.{read_ok}
use Rattle.machine.proofs.Right.{Right, AllRight, law_so}
use Rattle.machine.proofs.Steps.{step_goes}

-- a run that has the history g so far, over the naming that it began with
pub record Goes_on (s : Stock) (o : Start) (m : Machine) (g : History) : Type 0 where
  pub sound : Sound m
  pub matches : Matches (after o g) m
  pub reads : m.source.reads ≡ s.reads
  pub named : m.source.named ≡ s.named
  pub right : AllRight s.reads o g

one_more : (s : Stock) (o : Start) (m : Machine) (g : History) → Goes_on s o m g → (c : Asked) → Goes_on s o (step m c).0 (event s.named c (step m c).1 ∷ g)
one_more s o m g on c =
    let a = step_goes o g m on.sound on.matches c in
    record {
      sound = step_sound m on.sound c;
      matches = subst (λ (f : ℕ → Name). Matches (after o (event f c (step m c).1 ∷ g)) (step m c).0) on.named a.matches;
      reads = a.reads ∙ on.reads;
      named = a.named ∙ on.named;
      right = (subst₂ (λ (r : Name → Result ℕ NameFault) (f : ℕ → Name). Right r o g (event f c (step m c).1)) on.reads on.named a.right, on.right);
    }

pub run_goes : (s : Stock) (o : Start) (m : Machine) (g : History) → Goes_on s o m g → (cs : List Asked) → Goes_on s o (final m cs) (told_after s.named g cs (answers m cs))
run_goes s o m g on [] = on
run_goes s o m g on (c ∷ cs) = run_goes s o (step m c).0 (event s.named c (step m c).1 ∷ g) (one_more s o m g on c) cs

pub begins : (o : Start) (m : Machine) → Sound m → Matches o m → Goes_on m.source o m []
begins o m i k = record { sound = i; matches = k; reads = refl; named = refl; right = tt }

-- what a machine says of names by itself
abbrev pub start_of : Machine → Start
start_of m = record {
  ours = of_name m false (λ n. not (is_foreign (m.source.stands n)));
  waiting = of_name m false (λ n. waiting m n);
  second = of_name m 0 (λ n. second_of m.delayed n);
  holding = of_name m false (λ n. holds m n);
  texts = λ t e. of_name m false (λ n. text_under m n e) t;
  clock = m.clock;
}

pub start_matches : (m : Machine) → Sound m → Matches (start_of m) m
start_matches m i = record {
  ours = λ t. refl;
  waiting = λ t. refl;
  holding = λ t. refl;
  texts = λ t e. refl;
  clock = refl;
  delayed = λ t. at (m.source.reads t);
  second = λ t n r there. read_ok (λ n. second_of m.delayed n) 0 (m.source.reads t) n r;
}
  where
    at : (r : Result ℕ NameFault) → (read_as (λ n. waiting m n) false r && ltb m.clock (read_as (λ n. second_of m.delayed n) 0 r)) ≡ read_as (λ n. has n (numbers m.delayed)) false r
    at (Ok n) = let a = second_none m.delayed n in let b = second_after m.clock m.delayed n i.to_come in grind (arith, nat_tests)
    at (Err f) = refl

pub from_any_start : FromAnyStart
from_any_start o m calls i k = law_so m.source i.lawful o (past m calls) (run_goes m.source o m [] (begins o m i k) calls).right

pub stays_sound : StaysSound
stays_sound m [] i = i
stays_sound m (c ∷ cs) i = stays_sound (step m c).0 cs (step_sound m i c)

pub stays_matched : StaysMatched
stays_matched o m calls i k = (run_goes m.source o m [] (begins o m i k) calls).matches

pub same_naming : SameNaming
same_naming m calls i =
    let r = run_goes m.source (start_of m) m [] (begins (start_of m) m i (start_matches m i)) calls in
    (r.reads, r.named)

-- ---- a new register

waits_fresh : (s : Stock) (c n : ℕ) → Lawful s → is_ahead (s.stands n) ≡ waiting (fresh s c) n
waits_fresh s c n l = l.listed n ∙ or_none (has n s.ahead)
  where
    or_none : (b : Bool) → b ≡ (b || (false || (false || false)))
    or_none true = refl
    or_none false = refl

pub fresh_sound : (s : Stock) (c : ℕ) → Lawful s → Sound (fresh s c)
fresh_sound s c l = record {
  lawful = l;
  once = λ n. let o = l.once n in omega arith;
  ours = λ n w. ahead_not_foreign (s.stands n) (waits_fresh s c n l ∙ w);
  textless = λ n e w. refl;
  to_come = refl;
  hold_once = λ n. omega arith;
  hold_places = omega arith;
  queue_places = omega arith;
}

nothing_read : (r : Result ℕ NameFault) → false ≡ read_as (λ n. false) false r
nothing_read (Ok n) = refl
nothing_read (Err f) = refl

pub fresh_matches : (s : Stock) (c : ℕ) → Lawful s → Matches (new s) (fresh s c)
fresh_matches s c l = record {
  ours = λ t. refl;
  waiting = λ t. same (s.reads t);
  holding = λ t. nothing_read (s.reads t);
  texts = λ t e. nothing_read (s.reads t);
  clock = refl;
  delayed = λ t. none ((new s).waiting t) ∙ nothing_read (s.reads t);
  second = λ t n r there. let z : ◌≡◌ {A = ℕ} 0 1 = cc in absurd (omega arith);
}
  where
    same : (r : Result ℕ NameFault) → read_as (λ n. is_ahead (s.stands n)) false r ≡ read_as (λ n. waiting (fresh s c) n) false r
    same (Ok n) = waits_fresh s c n l
    same (Err f) = refl

    none : (b : Bool) → (b && false) ≡ false
    none true = refl
    none false = refl

pub from_new : FromNew
from_new s c calls l = from_any_start (new s) (fresh s c) calls (fresh_sound s c l) (fresh_matches s c l)

-- where nothing was drawn, each name of the source has its first turn to come
pub first_turns : (s : Stock) → FirstTurns s
first_turns s undrawn t e = at (s.reads t) e
  where
    stand : (x : Stand) → is_given x ≡ false → not (is_foreign x) ≡ true → one_if (is_ahead x) ≡ 1
    stand Ahead g f = refl
    stand Given g f = let z : ◌≡◌ {A = ℕ} 0 1 = cc in absurd (omega arith)
    stand Foreign g f = let z : ◌≡◌ {A = ℕ} 0 1 = cc in absurd (omega arith)

    at : (r : Result ℕ NameFault) → read_as (λ n. not (is_foreign (s.stands n))) false r ≡ true → one_if (read_as (λ n. is_ahead (s.stands n)) false r) ≡ 1
    at (Ok n) h = stand (s.stands n) (undrawn n) h
    at (Err f) h = let z : ◌≡◌ {A = ℕ} 0 1 = cc in absurd (omega arith)
