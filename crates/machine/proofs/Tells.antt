-- After each call the history says of every name what the machine has of its number; and the law stands at the call.
use Rattle.std.proofs.Common.{◌≡◌, ℕ, ◌+◌, ◌≤◌, Bool, true, false, cond, not, ◌&&◌, eqb, ltb, List, ◌∷◌, Some, None, Ok, Err, Result, sym, refl, ap, ◌∙◌, arith}
use Rattle.std.proofs.lemmas.Bool.Decides.{nat_tests}
use Rattle.std.specs.Str.{bytes_eq}
use Rattle.names.specs.declared.fault.NameFault.{NameFault}
use Rattle.sources.specs.Lists.{count, has}
use Rattle.sources.specs.Stock.{Stock, is_foreign}
use Rattle.stores.specs.Texts.{same_element}
use Rattle.stores.specs.declared.text.Element.{Element}
use Rattle.machine.specs.Names.{Name, read_as}
use Rattle.machine.specs.Machine.{Machine, with_lists, with_held, holds, added, without, numbers, later_than, waiting, text_under, queued_in, ticked_to, bound_in}
use Rattle.machine.specs.History.{History, Start, minted, mint_refused, held, released, queued, ticked, bound, purged, refused, waits, due, clock_after, not_yet_due, after}
use Rattle.machine.specs.Runs.{Sound, Matches, of_name, second_of}
use Rattle.machine.proofs.Counts.{has_tells, has_later, second_later}
use Rattle.machine.proofs.Effects.{waits_tells, hold_holds, release_holds, queue_waits, queue_delayed, queue_second, tick_waits, Gone, mint_waits, bound_under}
use Rattle.machine.proofs.Readings.{read_ok, alike, turned_at, turned_if}

module _ (o : Start) (h : History) (m : Machine) (i : Sound m) (k : Matches (after o h) m) where
  pub refused_tells : Matches (after o (refused ∷ h)) m
  refused_tells = k

  pub mint_refused_tells : Matches (after o (mint_refused ∷ h)) m
  mint_refused_tells = k

  module _ (u : Name) (n : ℕ) (r : m.source.reads u ≡ Ok n) where
    pub hold_tells : Matches (after o (held u ∷ h)) (with_held m (added n m.held))
    hold_tells = record {
      ours = k.ours;
      waiting = k.waiting;
      texts = k.texts;
      clock = k.clock;
      delayed = k.delayed;
      second = k.second;
      holding = λ t. ap (cond (bytes_eq t u) true) (k.holding t) ∙ turned_at m.source i.lawful u n r (λ x. holds m x) (λ x. has x (added n m.held)) true false (hold_holds m n) t;
    }

    pub release_tells : Matches (after o (released u ∷ h)) (with_held m (without n m.held))
    release_tells = record {
      ours = k.ours;
      waiting = k.waiting;
      texts = k.texts;
      clock = k.clock;
      delayed = k.delayed;
      second = k.second;
      holding = λ t. ap (cond (bytes_eq t u) false) (k.holding t) ∙ turned_at m.source i.lawful u n r (λ x. holds m x) (λ x. has x (without n m.held)) false false (λ x. release_holds m n x (i.hold_once x)) t;
    }

    pub bind_tells : (f : Element) (w : List ℕ) (c : ℕ) → Matches (after o (bound u f ∷ h)) (bound_in m n f (Some w) c)
    bind_tells f w c = record {
      ours = k.ours;
      waiting = k.waiting;
      holding = k.holding;
      clock = k.clock;
      delayed = k.delayed;
      second = k.second;
      texts = λ t e. ap (cond (bytes_eq t u && same_element e f) true) (k.texts t e) ∙ turned_if m.source i.lawful u n r (λ x. text_under m x e) (λ x. text_under (bound_in m n f (Some w) c) x e) true false (same_element e f) (λ x. bound_under m n f (Some w) c x e) t;
    }

    pub purge_tells : (f : Element) (c : ℕ) → Matches (after o (purged u f ∷ h)) (bound_in m n f None c)
    purge_tells f c = record {
      ours = k.ours;
      waiting = k.waiting;
      holding = k.holding;
      clock = k.clock;
      delayed = k.delayed;
      second = k.second;
      texts = λ t e. ap (cond (bytes_eq t u && same_element e f) false) (k.texts t e) ∙ turned_if m.source i.lawful u n r (λ x. text_under m x e) (λ x. text_under (bound_in m n f None c) x e) false false (same_element e f) (λ x. bound_under m n f None c x e) t;
    }

    pub queue_tells : (d : ℕ) → waiting m n ≡ false → Matches (after o (queued u d ∷ h)) (queued_in m n d)
    queue_tells d out = record {
      ours = k.ours;
      holding = k.holding;
      texts = k.texts;
      clock = k.clock;
      waiting = λ t. ap (cond (bytes_eq t u) true) (k.waiting t) ∙ turned_at m.source i.lawful u n r (λ x. waiting m x) (λ x. waiting (queued_in m n d) x) true false (queue_waits m n d) t;
      delayed = λ t. now_delayed t (bytes_eq t u) (k.delayed t) ∙ turned_at m.source i.lawful u n r (λ x. has x (numbers m.delayed)) (λ x. has x (numbers (queued_in m n d).delayed)) (not (eqb d 0)) false (queue_delayed m n d not_there) t;
      second = λ t x q there. ap (λ (b : Bool). cond b (clock_after o h + d) (due o h t)) (alike m.source i.lawful u n r t x q) ∙ due_there t x q there (k.second t x q) ∙ sym (queue_second m n d not_there x there);
    }
      where
        not_there : has n (numbers m.delayed) ≡ false
        not_there = let a = has_tells n (numbers m.delayed) in let b = waits_tells m n in grind arith

        now_delayed : (t : Name) (b : Bool) → (waits o h t && not_yet_due o h t) ≡ of_name m false (λ x. has x (numbers m.delayed)) t
            → (cond b true (waits o h t) && ltb (clock_after o h) (cond b (clock_after o h + d) (due o h t))) ≡ cond b (not (eqb d 0)) (of_name m false (λ x. has x (numbers m.delayed)) t)
        now_delayed t true e = grind (arith, nat_tests)
        now_delayed t false e = e

        due_there : (t : Name) (x : ℕ) → m.source.reads t ≡ Ok x → has x (numbers (queued_in m n d).delayed) ≡ true → (has x (numbers m.delayed) ≡ true → due o h t ≡ second_of m.delayed x)
            → cond (eqb x n) (clock_after o h + d) (due o h t) ≡ cond (eqb x n) (m.clock + d) (second_of m.delayed x)
        due_there t x q there before = let a = queue_delayed m n d not_there x in let c = k.clock in grind (arith, nat_tests)

  pub tick_tells : (s : ℕ) → m.clock ≤ s → Matches (after o (ticked s ∷ h)) (ticked_to m s)
  tick_tells s later = record {
    ours = k.ours;
    holding = k.holding;
    texts = k.texts;
    clock = refl;
    waiting = λ t. k.waiting t ∙ same_waits (m.source.reads t);
    delayed = λ t. still t (m.source.reads t) refl;
    second = λ t x q there. let a = has_later s m.delayed x (once x) in let b = second_later s m.delayed x (once x) there in k.second t x q (grind arith) ∙ sym b;
  }
    where
      once : (x : ℕ) → count x (numbers m.delayed) ≤ 1
      once x = let a = i.once x in omega arith

      same_waits : (r : Result ℕ NameFault) → read_as (λ x. waiting m x) false r ≡ read_as (λ x. waiting (ticked_to m s) x) false r
      same_waits (Ok x) = sym (tick_waits m s x)
      same_waits (Err f) = refl

      still : (t : Name) (r : Result ℕ NameFault) → m.source.reads t ≡ r → (waits o h t && ltb s (due o h t)) ≡ read_as (λ x. has x (numbers (later_than s m.delayed))) false r
      still t (Ok x) q =
          let a = k.delayed t ∙ read_ok (λ x. has x (numbers m.delayed)) false (m.source.reads t) x q in
          let b = k.second t x q in
          let c = has_later s m.delayed x (once x) in
          let d = k.clock in
          grind (arith, nat_tests)
      still t (Err f) q = let a : waits o h t ≡ false = k.waiting t ∙ ap (read_as (λ x. waiting m x) false) q in grind (arith, nat_tests)

  -- a mint from any of the lists
  pub mint_tells : (n : ℕ) (s : Stock) (xs ys : List ℕ) (u : Name) → m.source.reads u ≡ Ok n → Gone m n (with_lists m s xs ys) → s.reads ≡ m.source.reads
      → ((x : ℕ) → is_foreign (s.stands x) ≡ is_foreign (m.source.stands x)) → Matches (after o (minted n u ∷ h)) (with_lists m s xs ys)
  mint_tells n s xs ys u r gone rd own = record {
    ours = λ t. k.ours t ∙ same_ours (m.source.reads t) ∙ moved (λ x. not (is_foreign (s.stands x))) t;
    holding = λ t. k.holding t ∙ moved (λ x. holds m x) t;
    texts = λ t e. k.texts t e ∙ moved (λ x. text_under m x e) t;
    clock = k.clock;
    waiting = λ t. ap (cond (bytes_eq t u) false) (k.waiting t) ∙ turned_at m.source i.lawful u n r (λ x. waiting m x) (λ x. waiting (with_lists m s xs ys) x) false false (mint_waits m (with_lists m s xs ys) n gone i.once) t
        ∙ moved (λ x. waiting (with_lists m s xs ys) x) t;
    delayed = λ t. no_more t (bytes_eq t u) (k.delayed t) ∙ turned_at m.source i.lawful u n r (λ x. has x (numbers m.delayed)) (λ x. has x (numbers m.delayed)) false false not_there t ∙ moved (λ x. has x (numbers m.delayed)) t;
    second = λ t x q there. k.second t x (sym (ap (λ (f : Name → Result ℕ NameFault). f t) rd) ∙ q) there;
  }
    where
      moved : (f : ℕ → Bool) (t : Name) → read_as f false (m.source.reads t) ≡ read_as f false (s.reads t)
      moved f t = ap (λ (g : Name → Result ℕ NameFault). read_as f false (g t)) (sym rd)

      same_ours : (q : Result ℕ NameFault) → read_as (λ x. not (is_foreign (m.source.stands x))) false q ≡ read_as (λ x. not (is_foreign (s.stands x))) false q
      same_ours (Ok x) = ap not (sym (own x))
      same_ours (Err f) = refl

      not_there : (x : ℕ) → has x (numbers m.delayed) ≡ cond (eqb x n) false (has x (numbers m.delayed))
      not_there x = let a = gone x in let b = i.once x in let c = has_tells x (numbers m.delayed) in grind (arith, nat_tests)

      no_more : (t : Name) (b : Bool) → (waits o h t && not_yet_due o h t) ≡ of_name m false (λ x. has x (numbers m.delayed)) t
          → (cond b false (waits o h t) && not_yet_due o h t) ≡ cond b false (of_name m false (λ x. has x (numbers m.delayed)) t)
      no_more t true e = refl
      no_more t false e = e
