-- Each call of a sound machine is right, and the history with its event still says what the machine has.
use Rattle.std.proofs.Common.{◌≡◌, ℕ, ◌≤◌, Bool, true, false, not, ◌&&◌, ◌||◌, leb, List, [], ◌∷◌, Some, None, Ok, Err, Result, sym, refl, ap, ◌∙◌, arith}
use Rattle.std.proofs.lemmas.Bool.Decides.{nat_tests}
use Rattle.names.specs.declared.fault.NameFault.{NameFault}
use Rattle.sources.specs.Lists.{has}
use Rattle.sources.specs.Stock.{Stock, is_foreign}
use Rattle.machine.specs.Names.{Name, bare, read_as}
use Rattle.machine.specs.Machine.{Machine, Outcome, with_lists, holds, numbers, waiting, text_under, back, mint_from, said, step, hold_checks, release_checks, queue_checks, tick_checks, bind_checks, text_checks}
use Rattle.machine.specs.History.{Event, History, Start, minted, refused, waits, on_hold, not_yet_due, event, mint_event, after}
use Rattle.machine.specs.Law.{Stopped}
use Rattle.machine.specs.Runs.{Sound, Matches}
use Rattle.machine.specs.declared.call.Answer.{Answer}
use Rattle.machine.specs.declared.call.Answer.TheVariants.{Minted, Held, Released, Queued, Ticked, Bound, Purged}
use Rattle.machine.specs.Calls.{Asked, Mint, Hold, Release, Queue, Tick, Bind, Purge}
use Rattle.machine.proofs.Checks.{tried_so, on_name_so}
use Rattle.machine.proofs.Counts.{has_tells, all_front, back_first}
use Rattle.machine.proofs.Draws.{minted_stock, minted_foreign, minted_reads, minted_named}
use Rattle.machine.proofs.Effects.{waits_tells, Gone}
use Rattle.machine.proofs.Keeps.{gone_aside, gone_returned, gone_ahead}
use Rattle.machine.proofs.Readings.{read_ok}
use Rattle.machine.proofs.Right.{Right, RightMint}
use Rattle.machine.proofs.Tells.{refused_tells, mint_refused_tells, hold_tells, release_tells, queue_tells, tick_tells, bind_tells, purge_tells, mint_tells}

-- what is so of a call after the history h, with its event e and the machine m' that it leaves
pub record Goes (o : Start) (h : History) (m : Machine) (e : Event) (m' : Machine) : Type 0 where
  pub matches : Matches (after o (e ∷ h)) m'
  pub right : Right m.source.reads o h e
  -- the naming stays
  pub reads : m'.source.reads ≡ m.source.reads
  pub named : m'.source.named ≡ m.source.named

module _ (o : Start) (h : History) (m : Machine) (i : Sound m) (k : Matches (after o h) m) where
  -- the name of a waiting number is read as that number
  named_read : (n : ℕ) → waiting m n ≡ true → m.source.reads (m.source.named n) ≡ Ok n
  named_read n w = i.lawful.names n (i.lawful.within n (i.ours n w))

  -- ---- mint

  -- a number that a mint takes out of the lists, and that is not held
  mint_right : (n : ℕ) (s : Stock) (xs ys : List ℕ) → Gone m n (with_lists m s xs ys) → holds m n ≡ false → RightMint m.source.reads o h n (m.source.named n)
  mint_right n s xs ys gone free = record {
    ours = k.ours u ∙ read_ok _ false _ n r ∙ ap not (i.ours n w);
    waited = waited;
    not_held = k.holding u ∙ read_ok _ false _ n r ∙ free;
    was_due = let a = k.delayed u ∙ read_ok (λ x. has x (numbers m.delayed)) false _ n r ∙ not_there in let b = waited in due (waits o h u) (not_yet_due o h u) b a;
    textless = λ e. k.texts u e ∙ read_ok (λ x. text_under m x e) false _ n r ∙ i.textless n e w;
    validates = r;
  }
    where
      w : waiting m n ≡ true
      w = let a = gone n in let b = waits_tells m n in grind (arith, nat_tests)

      not_there : has n (numbers m.delayed) ≡ false
      not_there = let a = gone n in let b = i.once n in let c = has_tells n (numbers m.delayed) in grind (arith, nat_tests)

      due : (a b : Bool) → a ≡ true → (a && b) ≡ false → b ≡ false
      due a b e f = grind arith

      u : Name
      u = m.source.named n

      r : m.source.reads (m.source.named n) ≡ Ok n
      r = named_read n w

      waited : waits o h (m.source.named n) ≡ true
      waited = k.waiting (m.source.named n) ∙ read_ok (λ x. waiting m x) false _ n r ∙ w

  -- where no list has a number that is not held
  all_stopped : back (holds m) m.aside ≡ [] → back (holds m) m.returned ≡ [] → back (holds m) m.source.ahead ≡ [] → Stopped o h
  all_stopped a b c t w = at (m.source.reads t) refl
    where
      either : (x : ℕ) → waiting m x ≡ true → (holds m x || has x (numbers m.delayed)) ≡ true
      either x w = let d = all_front (holds m) x m.aside a in let e = all_front (holds m) x m.returned b in let f = all_front (holds m) x m.source.ahead c in grind arith

      join : (p q w' y z : Bool) → p ≡ y → (w' && q) ≡ z → (y || z) ≡ true → (p || q) ≡ true
      join p q w' y z e f g = grind arith

      at : (r : Result ℕ NameFault) → m.source.reads t ≡ r → (on_hold o h t || not_yet_due o h t) ≡ true
      at (Ok x) q =
          join (on_hold o h t) (not_yet_due o h t) (waits o h t) (holds m x) (has x (numbers m.delayed))
          (k.holding t ∙ read_ok (λ x. holds m x) false _ x q) (k.delayed t ∙ read_ok (λ x. has x (numbers m.delayed)) false _ x q)
          (either x (sym (k.waiting t ∙ read_ok (λ x. waiting m x) false _ x q) ∙ w))
      at (Err f) q = let e : false ≡ true = sym (k.waiting t ∙ ap (read_as (λ x. waiting m x) false) q) ∙ w in let z : ◌≡◌ {A = ℕ} 0 1 = cc in absurd (omega arith)

  minting : (n : ℕ) (s : Stock) (xs ys : List ℕ) → Gone m n (with_lists m s xs ys) → holds m n ≡ false → s.reads ≡ m.source.reads → s.named ≡ m.source.named
      → ((x : ℕ) → is_foreign (s.stands x) ≡ is_foreign (m.source.stands x)) → Goes o h m (minted n (m.source.named n)) (with_lists m s xs ys)
  minting n s xs ys gone free rd nm own = record {
    matches = mint_tells o h m i k n s xs ys (m.source.named n) (mint_right n s xs ys gone free).validates gone rd own;
    right = mint_right n s xs ys gone free;
    reads = rd;
    named = nm;
  }

  mint_goes : (xs ys zs : List ℕ) → back (holds m) m.aside ≡ xs → back (holds m) m.returned ≡ ys → back (holds m) m.source.ahead ≡ zs
      → Goes o h m (mint_event m.source.named (said (λ n. Minted n) (mint_from m xs ys zs).1)) (mint_from m xs ys zs).0
  mint_goes (n ∷ xs) ys zs a b c = minting n m.source _ _ (gone_aside m i n xs a) (back_first (holds m) n xs m.aside a) refl refl (λ x. refl)
  mint_goes [] (n ∷ ys) zs a b c = minting n m.source _ _ (gone_returned m i n ys b) (back_first (holds m) n ys m.returned b) refl refl (λ x. refl)
  mint_goes [] [] (n ∷ zs) a b c =
      minting n (minted_stock (holds m) m.source i.lawful) _ _ (gone_ahead m i n zs c) (back_first (holds m) n zs m.source.ahead c)
      (minted_reads (holds m) m.source i.lawful) (minted_named (holds m) m.source i.lawful) (minted_foreign (holds m) m.source i.lawful)
  mint_goes [] [] [] a b c = record { matches = mint_refused_tells o h m i k; right = all_stopped a b c; reads = refl; named = refl }

  -- ---- the other calls

  abbrev Going : Asked → (ℕ → Answer) → Outcome → Type 0
  Going c f out = Goes o h m (event m.source.named c (said f out.1)) out.0

  stays : Goes o h m refused m
  stays = record { matches = refused_tells o h m i k; right = tt; reads = refl; named = refl }

  queue_right : (u : Name) (n : ℕ) → m.source.reads u ≡ Ok n → waiting m n ≡ false → waits o h u ≡ false
  queue_right u n r out = k.waiting u ∙ read_ok (λ x. waiting m x) false _ n r ∙ out

  in_time : (s : ℕ) → not (leb m.clock s && leb s 1000000000000) ≡ false → m.clock ≤ s
  in_time s p = grind (arith, nat_tests)

  pub step_goes : (c : Asked) → Goes o h m (event m.source.named c (step m c).1) (step m c).0
  step_goes Mint = mint_goes _ _ _ refl refl refl
  step_goes (Hold t) =
      let P = Going (Hold t) (λ n. Held n) in
      on_name_so P m (λ f. stays) t _ (λ n r own. tried_so P m (λ f. stays) (hold_checks m n) _ (λ p. record { matches = hold_tells o h m i k (bare t) n r; right = tt; reads = refl; named = refl }))
  step_goes (Release t) =
      let P = Going (Release t) (λ n. Released n) in
      on_name_so P m (λ f. stays) t _ (λ n r own. tried_so P m (λ f. stays) (release_checks m n) _ (λ p. record { matches = release_tells o h m i k (bare t) n r; right = tt; reads = refl; named = refl }))
  step_goes (Queue t d) =
      let P = Going (Queue t d) (λ n. Queued n) in
      on_name_so P m (λ f. stays) t _ (λ n r own. tried_so P m (λ f. stays) (queue_checks m n d) _ (λ p. record { matches = queue_tells o h m i k (bare t) n r d p.1.0; right = queue_right (bare t) n r p.1.0; reads = refl; named = refl }))
  step_goes (Tick s) =
      let P = Going (Tick s) (λ n. Ticked n) in
      tried_so P m (λ f. stays) (tick_checks m s) _ (λ p. record { matches = tick_tells o h m i k s (in_time s p.0); right = tt; reads = refl; named = refl })
  step_goes (Bind t None w) = on_name_so (Going (Bind t None w) (λ n. Bound n)) m (λ f. stays) t _ (λ n r own. stays)
  step_goes (Bind t (Some e) w) =
      let P = Going (Bind t (Some e) w) (λ n. Bound n) in
      on_name_so P m (λ f. stays) t _ (λ n r own. tried_so P m (λ f. stays) (bind_checks m n e w) _ (λ p. record { matches = bind_tells o h m i k (bare t) n r e w _; right = tt; reads = refl; named = refl }))
  step_goes (Purge t None) = on_name_so (Going (Purge t None) (λ n. Purged n)) m (λ f. stays) t _ (λ n r own. stays)
  step_goes (Purge t (Some e)) =
      let P = Going (Purge t (Some e)) (λ n. Purged n) in
      on_name_so P m (λ f. stays) t _ (λ n r own. tried_so P m (λ f. stays) (text_checks m n e) _ (λ p. record { matches = purge_tells o h m i k (bare t) n r e _; right = tt; reads = refl; named = refl }))
