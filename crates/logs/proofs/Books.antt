-- What put and drop leave in a log is what a store's put and drop leave.
use Rattle.std.proofs.Common.{◌≡◌, ℕ, suc, ◌+◌, ◌<◌, ◌≤◌, Bool, true, false, cond, List, [], ◌∷◌, ◌++◌, length, is_some, Some, None, sym, refl, ap, ◌∙◌, ⊎_elim, arith, length-append, length-drop, length-set, le-ltb, lt-ltb}
use Rattle.std.proofs.lemmas.Bool.{cases_Bool, cases_lt}
use Rattle.std.proofs.lemmas.Bool.Decides.{nat_tests}
use Rattle.std.proofs.lemmas.Grind.{common_steps}
use Rattle.std.proofs.lemmas.List.{take_at, length-take}
use Rattle.std.proofs.lemmas.List.Sums.{fold_push}
use Rattle.logs.specs.declared.entry.Entry.{Entry}
use Rattle.logs.specs.declared.entry.Entry.TheVariants.{Put, Dropped}
use Rattle.logs.specs.Logs.{Book, written, names, tells, told, live, squeezed, noted, appended, value_of, put_refuses, put_book, drop_book, pairs, room, Sound}
use Rattle.stores.specs.Pairs.{look, turned, full, more, Kept}
use Rattle.stores.proofs.Laws.{Lawful}
use Rattle.stores.proofs.Counts.{bit}
use Rattle.logs.proofs.Tolds.{length_live, live_live, length_pairs, look_live, lone_live, told_live, told_same, live_push}

-- ws are the records in use of b, or its live ones, and one more
record Adds {K V : Type 0} (alike : K → K → Bool) (b : Book K V) (e : Entry K V) (ws : List (Entry K V)) : Type 0 where
  pub base : List (Entry K V)
  pub is : ws ≡ base ++ e ∷ []
  pub same : (q : K) → told alike q None base ≡ told alike q None (written b)
  pub many : length (live alike base) ≡ length (live alike (written b))

module _ {K V : Type 0} (alike : K → K → Bool) where
  squeezed_size : (b : Book K V) → length (squeezed alike b).entries ≡ length b.entries
  squeezed_size b = grind (arith, length-append, length-drop, length-take, length_live)

  squeezed_written : (b : Book K V) → written (squeezed alike b) ≡ live alike (written b)
  squeezed_written b = take_at _ _ _ refl

  -- a record written at a place that there is
  noted_written : (e : Entry K V) (b : Book K V) → b.used < length b.entries → written (noted alike e b) ≡ written b ++ e ∷ []
  noted_written e b l = grind (arith, nat_tests, common_steps)

  pub appended_size : (e : Entry K V) (b : Book K V) → length (appended alike e b).entries ≡ length b.entries
  appended_size e b = grind (arith, length-set, squeezed_size)

module _ {K V : Type 0} (alike : K → K → Bool) (bucket : K → ℕ) (L : Lawful alike bucket) (b : Book K V) (S : Sound alike b) where
  appended_adds : (e : Entry K V) → Adds alike b e (written (appended alike e b))
  appended_adds e =
      let one : Bool → List (Entry K V) = λ t. written (noted alike e (cond t b (squeezed alike b))) in
      ⊎_elim
      (λ (l : b.used < length b.entries). record { base = written b; is = ap one (lt-ltb _ _ l) ∙ noted_written alike e b l; same = λ q. refl; many = refl })
      (λ (l : length b.entries ≤ b.used).
      let n = noted_written alike e (squeezed alike b) (omega (arith, squeezed_size alike b, S.paired, S.fits, S.long)) in
      record { base = live alike (written b); is = grind (arith, ap one (le-ltb _ _ l), n, squeezed_written); same = λ q. told_live alike bucket L q (written b); many = ap length (live_live alike (written b)) })
      (cases_lt b.used (length b.entries))

  appended_within : (e : Entry K V) → (appended alike e b).used ≤ length (appended alike e b).entries
  appended_within e = grind (arith, nat_tests, length-set, squeezed_size, S.within)

  pub look_pairs : (q : K) → look alike (pairs alike b) q ≡ value_of alike b q
  look_pairs q = look_live alike bucket L q (written b)

  pub many_pairs : length (pairs alike b) ≡ b.count
  many_pairs = length_pairs alike (written b) ∙ sym S.paired

  pub kept : Kept alike (pairs alike b) (room b)
  kept = record { lone = lone_live alike bucket L (written b); room = omega (arith, many_pairs, S.fits) }

  pub full_is : (k : K) → full alike (pairs alike b) (room b) k ≡ put_refuses alike b k
  full_is k = grind (arith, look_pairs, many_pairs)

-- one more record of the key k
module _ {K V : Type 0} (alike : K → K → Bool) (bucket : K → ℕ) (L : Lawful alike bucket) (b : Book K V) (k : K) (e : Entry K V) (ws : List (Entry K V)) (of : (j : K) → names alike j e ≡ alike k j) (A : Adds alike b e ws) where
  adds_live : length (live alike ws) + bit (is_some (value_of alike b k)) ≡ length (live alike (e ∷ [])) + length (live alike (written b))
  adds_live = grind (arith, A.is, A.many, A.same k, live_push alike bucket L k e of A.base)

  adds_told : (q : K) → told alike q None ws ≡ tells alike q (value_of alike b q) e
  adds_told q = grind (arith, A.is, A.same q, fold_push)

module _ {K V : Type 0} (alike : K → K → Bool) (bucket : K → ℕ) (L : Lawful alike bucket) (b b' : Book K V) (k : K) (v : V) (e : b' ≡ put_book alike b k v) where
  pub put_room : room b' ≡ room b
  put_room = grind (arith, appended_size alike (Put k v) b)

  module _ (S : Sound alike b) where
    abbrev A : Adds alike b (Put k v) (written (appended alike (Put k v) b))
    A = appended_adds alike bucket L b S (Put k v)

    put_live : put_refuses alike b k ≡ false → length (live alike (written b')) ≡ more (is_some (value_of alike b k)) b.count
    put_live f = grind (arith, adds_live alike bucket L b k (Put k v) _ (λ j. refl) A, S.paired)

    pub put_refused : full alike (pairs alike b) (room b) k ≡ true → b' ≡ b
    put_refused f = grind (arith, full_is alike bucket L b S k)

    pub put_stays : Sound alike b'
    put_stays =
        ⊎_elim (λ (f : put_refuses alike b k ≡ true). grind arith)
        (λ (f : put_refuses alike b k ≡ false). record {
          long = grind (arith, put_room, S.long);
          short = grind (arith, put_room, S.short);
          within = grind (arith, appended_within alike bucket L b S (Put k v));
          paired = grind (arith, put_live);
          fits = grind (arith, put_room, S.fits, nat_tests);
        })
        (cases_Bool (put_refuses alike b k))

    pub put_found : full alike (pairs alike b) (room b) k ≡ false → (q : K) → look alike (pairs alike b') q ≡ turned alike (look alike (pairs alike b)) k (Some v) q
    put_found f q = grind (arith, full_is alike bucket L b S k, look_live, adds_told alike bucket L b k (Put k v) _ (λ j. refl) A q, look_pairs alike bucket L b S)

    pub put_many : full alike (pairs alike b) (room b) k ≡ false → length (pairs alike b') ≡ more (is_some (look alike (pairs alike b) k)) (length (pairs alike b))
    put_many f = grind (arith, full_is alike bucket L b S k, length_pairs, put_live, many_pairs alike bucket L b S, look_pairs alike bucket L b S)

module _ {K V : Type 0} (alike : K → K → Bool) (bucket : K → ℕ) (L : Lawful alike bucket) (b b' : Book K V) (k : K) (r : Bool)
    (a : r ≡ is_some (value_of alike b k)) (e : b' ≡ drop_book alike b k) where
  pub drop_refused : r ≡ false → b' ≡ b
  drop_refused f = grind arith

  pub drop_room : room b' ≡ room b
  drop_room = grind (arith, appended_size alike (Dropped k) b)

  module _ (S : Sound alike b) where
    pub drop_answer : r ≡ is_some (look alike (pairs alike b) k)
    drop_answer = grind (arith, look_pairs alike bucket L b S)

    abbrev D : Adds alike b (Dropped k) (written (appended alike (Dropped k) b))
    D = appended_adds alike bucket L b S (Dropped k)

    drop_live : r ≡ true → suc (length (live alike (written b'))) ≡ b.count
    drop_live f = grind (arith, adds_live alike bucket L b k (Dropped k) _ (λ j. refl) D, S.paired)

    pub drop_stays : Sound alike b'
    drop_stays =
        ⊎_elim (λ (f : r ≡ true). record {
          long = grind (arith, drop_room, S.long);
          short = grind (arith, drop_room, S.short);
          within = grind (arith, appended_within alike bucket L b S (Dropped k));
          paired = grind (arith, drop_live);
          fits = grind (arith, drop_room, S.fits);
        })
        (λ (f : r ≡ false). grind arith)
        (cases_Bool r)

    pub drop_found : (q : K) → look alike (pairs alike b') q ≡ turned alike (look alike (pairs alike b)) k None q
    drop_found q = grind (arith, cases_Bool r, drop_refused, look_live, adds_told alike bucket L b k (Dropped k) _ (λ j. refl) D q, look_pairs alike bucket L b S, told_same alike bucket L k q None (written b))

    pub drop_many : more r (length (pairs alike b)) ≡ suc (length (pairs alike b'))
    drop_many = grind (arith, cases_Bool r, drop_refused, length_pairs, drop_live, many_pairs alike bucket L b S)
