-- The law at each event of a history, and the law of the whole from it.
use Rattle.std.proofs.Common.{◌≡◌, ℕ, suc, ◌+◌, ◌<◌, Bool, true, false, cond, [], ◌∷◌, ◌++◌, length, get_or, set, is_ok, Ok, Result, sym, refl, ap, ◌∙◌, subst, arith}
use Rattle.std.proofs.lemmas.Slice.Eq.{bytes_eq-Decides}
use Rattle.std.specs.Str.{bytes_eq}
use Rattle.names.specs.declared.fault.NameFault.{NameFault}
use Rattle.names.specs.Texts.{swapped}
use Rattle.sources.specs.Stock.{Stock, Lawful}
use Rattle.stores.specs.declared.text.Element.{Element}
use Rattle.machine.specs.Names.{Name}
use Rattle.machine.specs.History.{Event, History, Start, minted, mint_refused, held, released, queued, ticked, bound, purged, refused, waits, on_hold, has_text, not_yet_due, times_minted, queuings}
use Rattle.machine.specs.Law.{Law, Stopped, Came, one_if}

-- what the law says of the mint of a name t with the number n, after the history g
pub record RightMint (reads : Name → Result ℕ NameFault) (o : Start) (g : History) (n : ℕ) (t : Name) : Type 0 where
  pub ours : o.ours t ≡ true
  pub waited : waits o g t ≡ true
  pub not_held : on_hold o g t ≡ false
  pub was_due : not_yet_due o g t ≡ false
  pub textless : (e : Element) → has_text o g t e ≡ false
  pub validates : reads t ≡ Ok n

-- of one event; a name is queued only where it does not wait
abbrev pub Right : (Name → Result ℕ NameFault) → Start → History → Event → Type 0
Right reads o g (minted n t) = RightMint reads o g n t
Right reads o g mint_refused = Stopped o g
Right reads o g (held t) = Unit {0}
Right reads o g (released t) = Unit {0}
Right reads o g (queued t d) = waits o g t ≡ false
Right reads o g (ticked s) = Unit {0}
Right reads o g (bound t e) = Unit {0}
Right reads o g (purged t e) = Unit {0}
Right reads o g refused = Unit {0}

abbrev pub AllRight : (Name → Result ℕ NameFault) → Start → History → Type 0
AllRight reads o [] = Unit {0}
AllRight reads o (e ∷ g) = Right reads o g e × AllRight reads o g

module _ (reads : Name → Result ℕ NameFault) (o : Start) where
  pub right_at : (h : History) (e : Event) (g : History) → AllRight reads o h → Came h e g → Right reads o g e
  right_at h e g all came = at came.0 (subst (AllRight reads o) came.1 all)
    where
      at : (late : History) → AllRight reads o (late ++ (e ∷ g)) → Right reads o g e
      at [] a = a.0
      at (x ∷ late) a = at late a.1

  -- where a name is the same, what is said of one is said of the other
  same_said : (f : Name → Bool) (b : Bool) (t u : Name) → f u ≡ b → bytes_eq t u ≡ true → f t ≡ b
  same_said f b t u e s = ap f ((bytes_eq-Decides t u).0 s) ∙ e

  pub turns_so : (h : History) → AllRight reads o h → (t : Name) → times_minted h t + one_if (waits o h t) ≡ one_if (o.waiting t) + queuings h t
  turns_so [] all t = omega arith
  turns_so (minted n u ∷ g) all t = at (bytes_eq t u) (same_said (waits o g) true t u all.0.waited) (turns_so g all.1 t)
    where
      at : (b : Bool) → (b ≡ true → waits o g t ≡ true) → times_minted g t + one_if (waits o g t) ≡ one_if (o.waiting t) + queuings g t
          → cond b (suc (times_minted g t)) (times_minted g t) + one_if (cond b false (waits o g t)) ≡ one_if (o.waiting t) + queuings g t
      at true w ih = let e = w refl in grind arith
      at false w ih = ih
  turns_so (mint_refused ∷ g) all t = turns_so g all.1 t
  turns_so (held u ∷ g) all t = turns_so g all.1 t
  turns_so (released u ∷ g) all t = turns_so g all.1 t
  turns_so (queued u d ∷ g) all t = at (bytes_eq t u) (same_said (waits o g) false t u all.0) (turns_so g all.1 t)
    where
      at : (b : Bool) → (b ≡ true → waits o g t ≡ false) → times_minted g t + one_if (waits o g t) ≡ one_if (o.waiting t) + queuings g t
          → times_minted g t + one_if (cond b true (waits o g t)) ≡ one_if (o.waiting t) + cond b (suc (queuings g t)) (queuings g t)
      at true w ih = let e = w refl in grind arith
      at false w ih = ih
  turns_so (ticked s ∷ g) all t = turns_so g all.1 t
  turns_so (bound u e ∷ g) all t = turns_so g all.1 t
  turns_so (purged u e ∷ g) all t = turns_so g all.1 t
  turns_so (refused ∷ g) all t = turns_so g all.1 t

  pub ours_so : (h : History) → AllRight reads o h → (t : Name) → o.ours t ≡ false → times_minted h t ≡ 0
  ours_so [] all t out = refl
  ours_so (minted n u ∷ g) all t out = at (bytes_eq t u) (same_said o.ours true t u all.0.ours) (ours_so g all.1 t out)
    where
      at : (b : Bool) → (b ≡ true → o.ours t ≡ true) → times_minted g t ≡ 0 → cond b (suc (times_minted g t)) (times_minted g t) ≡ 0
      at true w ih = let e = w refl in grind arith
      at false w ih = ih
  ours_so (mint_refused ∷ g) all t out = ours_so g all.1 t out
  ours_so (held u ∷ g) all t out = ours_so g all.1 t out
  ours_so (released u ∷ g) all t out = ours_so g all.1 t out
  ours_so (queued u d ∷ g) all t out = ours_so g all.1 t out
  ours_so (ticked s ∷ g) all t out = ours_so g all.1 t out
  ours_so (bound u e ∷ g) all t out = ours_so g all.1 t out
  ours_so (purged u e ∷ g) all t out = ours_so g all.1 t out
  ours_so (refused ∷ g) all t out = ours_so g all.1 t out

-- over a source that obeys its laws, a history that is right at each event has the law
pub law_so : (s : Stock) → Lawful s → (o : Start) (h : History) → AllRight s.reads o h → Law s o h
law_so s l o h all = record {
  turns = turns_so s.reads o h all;
  ours_alone = ours_so s.reads o h all;
  refused_only_if_stopped = λ g came. right_at s.reads o h mint_refused g all came;
  refused_if_stopped = λ g n t came stop. let m = mint g n t came in let a = m.not_held in let b = m.was_due in let c = stop t m.waited in grind arith;
  free = λ g n t came. let m = mint g n t came in (m.waited, m.not_held, m.was_due);
  textless = λ g n t came. (mint g n t came).textless;
  validates = λ g n t came. (mint g n t came).validates;
  one_changed = λ k g n t came i b. let r = l.readings t n (mint g n t came).validates in changed k n t r.0 r.1 i b;
  two_exchanged = λ k g n t came i j. let r = l.readings t n (mint g n t came).validates in exchanged k n t r.0 r.1 i j;
}
  where
    mint : (g : History) (n : ℕ) (t : Name) → Came h (minted n t) g → RightMint s.reads o g n t
    mint g n t came = right_at s.reads o h (minted n t) g all came

    changed : s.checked ≡ true → (n : ℕ) (t : Name) → n < s.reach → t ≡ s.named n → (i b : ℕ) → i < length t → (b ≡ get_or t i 0 → ⊥) → is_ok (s.reads (set t i b)) ≡ false
    changed k n t in_reach e i b = subst (λ (u : Name). i < length u → (b ≡ get_or u i 0 → ⊥) → is_ok (s.reads (set u i b)) ≡ false) (sym e) (l.changes k n i b in_reach)

    exchanged : s.checked ≡ true → (n : ℕ) (t : Name) → n < s.reach → t ≡ s.named n → (i j : ℕ) → i < length t → j < length t → (get_or t i 0 ≡ get_or t j 0 → ⊥) → is_ok (s.reads (swapped t i j)) ≡ false
    exchanged k n t in_reach e i j = subst (λ (u : Name). i < length u → j < length u → (get_or u i 0 ≡ get_or u j 0 → ⊥) → is_ok (s.reads (swapped u i j)) ≡ false) (sym e) (l.exchanges k n i j in_reach)
