-- What a list of records tells: the live ones tell the same, have each key once, and one more record changes them at its own key.
use Rattle.std.proofs.Common.{◌≡◌, ℕ, ◌+◌, ◌≤◌, Bool, true, false, cond, List, [], ◌∷◌, ◌++◌, length, is_some, None, Option, sym, refl, ap, ◌∙◌, arith}
use Rattle.std.specs.List.{flat_map}
use Rattle.std.proofs.lemmas.List.Folds.{list_any-append}
use Rattle.logs.specs.declared.entry.Entry.{Entry}
use Rattle.logs.specs.declared.entry.Entry.TheVariants.{Put, Dropped}
use Rattle.logs.specs.Logs.{names, named, tells, told, live, pair_in}
use Rattle.stores.specs.Pairs.{look, Lone}
use Rattle.stores.proofs.Counts.{bit}
use Rattle.stores.proofs.Laws.{Lawful, alike_eq}

module _ {K V : Type 0} (alike : K → K → Bool) where
  -- what was told before counts where no record is of the key
  pub told_split : (q : K) (o : Option V) (es : List (Entry K V)) → told alike q o es ≡ cond (named alike q es) (told alike q None es) o
  told_split q o [] = refl
  told_split q o (e ∷ es) = grind (arith, told_split q (tells alike q o e) es, told_split q (tells alike q None e) es)

  told_none : (q : K) (es : List (Entry K V)) → named alike q es ≡ false → told alike q None es ≡ None
  told_none q es n = grind (arith, told_split)

  -- a first record of another key, or one that a later record outdoes, tells nothing
  told_other : (q : K) (e : Entry K V) (es : List (Entry K V)) → names alike q e ≡ false → told alike q None (e ∷ es) ≡ told alike q None es
  told_other q e es n = grind arith

  told_later : (q : K) (e : Entry K V) (es : List (Entry K V)) → named alike q es ≡ true → told alike q None (e ∷ es) ≡ told alike q None es
  told_later q e es n = grind (arith, told_split q (tells alike q None e) es)

  told_last : (q : K) (e : Entry K V) (es : List (Entry K V)) → named alike q es ≡ false → told alike q None (e ∷ es) ≡ tells alike q None e
  told_last q e es n = grind (arith, told_split q (tells alike q None e) es)

  pub length_live : (es : List (Entry K V)) → length (live alike es) ≤ length es
  length_live [] = omega arith
  length_live (e ∷ es) = grind (arith, length_live es)

  named_live : (q : K) (es : List (Entry K V)) → named alike q es ≡ false → named alike q (live alike es) ≡ false
  named_live q [] n = refl
  named_live q (e ∷ es) n = grind (arith, named_live q es)

  pub live_live : (es : List (Entry K V)) → live alike (live alike es) ≡ live alike es
  live_live [] = refl
  live_live (Put k v ∷ es) = grind (arith, named_live k es, live_live es)
  live_live (Dropped k ∷ es) = live_live es

  pub length_pairs : (es : List (Entry K V)) → length (flat_map (pair_in alike) (live alike es)) ≡ length (live alike es)
  length_pairs [] = refl
  length_pairs (Put k v ∷ es) = grind (arith, length_pairs es)
  length_pairs (Dropped k ∷ es) = length_pairs es

module _ {K V : Type 0} (alike : K → K → Bool) (bucket : K → ℕ) (L : Lawful alike bucket) where
  names_eq : (k q : K) (e : Entry K V) → alike k q ≡ true → names alike k e ≡ names alike q e
  names_eq k q e h = alike_eq alike bucket L k q _ h

  named_eq : (k q : K) (es : List (Entry K V)) → alike k q ≡ true → named alike k es ≡ named alike q es
  named_eq k q [] h = refl
  named_eq k q (e ∷ es) h = grind (arith, names_eq k q e h, named_eq k q es h)

  -- same keys are told the same
  pub told_same : (k q : K) (o : Option V) (es : List (Entry K V)) → alike k q ≡ true → told alike k o es ≡ told alike q o es
  told_same k q o [] h = refl
  told_same k q o (e ∷ es) h = grind (arith, names_eq k q e h, told_same k q (tells alike k o e) es h)

  pub look_live : (q : K) (es : List (Entry K V)) → look alike (flat_map (pair_in alike) (live alike es)) q ≡ told alike q None es
  look_live q [] = refl
  look_live q (Put k v ∷ es) = grind (arith, look_live q es, told_later alike q (Put k v) es, told_other alike q (Put k v) es, told_last alike q (Put k v) es, named_eq k q es)
  look_live q (Dropped k ∷ es) = grind (arith, look_live q es, told_other alike q (Dropped k) es)

  pub lone_live : (es : List (Entry K V)) → Lone alike (flat_map (pair_in alike) (live alike es))
  lone_live [] = tt
  lone_live (Put k v ∷ es) = grind (arith, lone_live es, look_live k es, told_none alike k es)
  lone_live (Dropped k ∷ es) = lone_live es

  -- the live records tell what all tell
  pub told_live : (q : K) (es : List (Entry K V)) → told alike q None (live alike es) ≡ told alike q None es
  told_live q es = sym (look_live q (live alike es)) ∙ ap (λ (xs : List (Entry K V)). look alike (flat_map (pair_in alike) xs) q) (live_live alike es) ∙ look_live q es

  -- one more record of k takes the live record of k away, and is live itself if it is a put
  module _ (k : K) (e : Entry K V) (of : (j : K) → names alike j e ≡ alike k j) where
    abbrev Counts : List (Entry K V) → Type 0
    Counts es = length (live alike (es ++ e ∷ [])) + bit (is_some (told alike k None es)) ≡ length (live alike (e ∷ [])) + length (live alike es)

    pub live_push : (es : List (Entry K V)) → Counts es
    live_push [] = omega arith
    live_push (Put j w ∷ es) =
        let P = list_any-append (names alike j) es (e ∷ []) in
        grind (arith, live_push es, of j, L.symmetric j k, L.symmetric k j, named_eq k j es, told_later alike k (Put j w) es, told_other alike k (Put j w) es, told_last alike k (Put j w) es, told_none alike k es)
    live_push (Dropped j ∷ es) = grind (arith, live_push es)
