-- One turn of a squeeze.
use Rattle.std.proofs.Common.{◌≡◌, ℕ, ◌+◌, ◌<◌, ◌≤◌, Bool, true, false, List, ◌∷◌, ◌++◌, length, get_or, take, drop, set, arith, append_assoc}
use Rattle.std.proofs.lemmas.List.{drop_more, drop-set-lt, take_more_set}
use Rattle.logs.specs.declared.entry.Entry.{Entry}
use Rattle.logs.specs.Logs.{live, lasts}

module _ {K V : Type 0} (al : K → K → Bool) (es : List (Entry K V)) (w i : ℕ) (e : Entry K V) (h : i < length es) (wi : w ≤ i) (is : e ≡ get_or es i e) where
  live_at : drop i es ≡ e ∷ drop (i + 1) es
  live_at = grind (arith, drop_more es i e h)

  pub stays_step : lasts al e (drop (i + 1) es) ≡ true → take (w + 1) (set es w e) ++ live al (drop (i + 1) (set es w e)) ≡ take w es ++ live al (drop i es)
  stays_step t = grind (arith, live_at, take_more_set, drop-set-lt, append_assoc)

  pub goes_step : lasts al e (drop (i + 1) es) ≡ false → take w es ++ live al (drop (i + 1) es) ≡ take w es ++ live al (drop i es)
  goes_step t = grind (arith, live_at)
