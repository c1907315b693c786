-- The pairs of a sound table: what is found in them, that no two have the same key, and how many they are.
use Rattle.std.proofs.Common.{◌≡◌, ℕ, zero, suc, ◌+◌, ◌<◌, ◌≤◌, Bool, true, false, cond, not, ◌&&◌, eqb, ltb, leb, List, [], ◌∷◌, ◌++◌, map, length, get_or, is_some, Some, None, sym, refl, ap, ◌∙◌, subst, ⊎_elim, arith, length-append}
use lib.ListN.{length-map}
use Rattle.std.specs.List.{flat_map}
use Rattle.std.proofs.lemmas.Bool.{cases_eq, cases_Bool, cases_lt, false_from_ne_true, le-ltb, lt-ltb}
use Rattle.std.proofs.lemmas.List.Folds.{list_any-append}
use Rattle.chains.specs.declared.node.Node.{Node}
use Rattle.chains.specs.Chains.{run, Ends, seek, has, chain, in_use, Linked}
use Rattle.stores.specs.Pairs.{look, Lone, Kept, full}
use Rattle.chains.specs.Tables.{table, marks, held, found, free, spot, Sound, pairs, pair_at, room}
use Rattle.stores.proofs.Laws.{Lawful}
use Rattle.chains.proofs.Moves.{fresh, suffix}
use Rattle.chains.proofs.Seeks.{seek_nought, held_some}
use Rattle.chains.proofs.Shifts.{in_use_more, free_inside}
use Rattle.chains.proofs.Walks.{run_zero, seek_within}

-- one record
module _ {K V : Type 0} (alike : K → K → Bool) (q : K) (rest : List (K × V)) where
  look_at : (ns : List (Node K V)) (x : ℕ) → look alike (pair_at ns x ++ rest) q
      ≡ cond (get_or (marks alike q (table ns).keys) x false) (get_or (map (λ v. Some v) (table ns).values) x None) (look alike rest q)
  look_at [] x = refl
  look_at (n ∷ ns) zero = refl
  look_at (n ∷ ns) (suc x) = look_at ns x

module _ {K V : Type 0} (alike : K → K → Bool) (rfl : (x : K) → alike x x ≡ true) (rest : List (K × V)) (L : Lone alike rest) where
  lone_at : (ns : List (Node K V)) (x : ℕ) → ((q : K) → get_or (marks alike q (table ns).keys) x false ≡ true → look alike rest q ≡ None) → Lone alike (pair_at ns x ++ rest)
  lone_at [] x f = L
  lone_at (n ∷ ns) zero f = (f n.key (rfl n.key), L)
  lone_at (n ∷ ns) (suc x) f = lone_at ns x f

length_at : {K V : Type 0} (ns : List (Node K V)) (x : ℕ) → x < length ns → length (pair_at ns x) ≡ 1
length_at [] x h = absurd (omega arith)
length_at (n ∷ ns) zero h = refl
length_at (n ∷ ns) (suc x) h = length_at ns x (omega arith)

-- a list of records
module _ {K V : Type 0} (ns : List (Node K V)) where
  pub length_joined : (xs : List ℕ) → ((y : ℕ) → has y xs ≡ true → y < length ns) → length (flat_map (pair_at ns) xs) ≡ length xs
  length_joined [] f = refl
  length_joined (x ∷ xs) f =
      let ih = length_joined xs (λ y h. f y (grind arith)) in
      omega (arith, ih, length-append (pair_at ns x) (flat_map (pair_at ns) xs), length_at ns x (f x (grind arith)))

  pub look_joined : (alike : K → K → Bool) (q : K) (xs : List ℕ) → ((y : ℕ) → has y xs ≡ true → 0 < y) →
      look alike (flat_map (pair_at ns) xs) q ≡ held (table ns).values (seek (marks alike q (table ns).keys) xs)
  look_joined alike q [] f = refl
  look_joined alike q (x ∷ xs) f =
      grind (arith, look_at alike q (flat_map (pair_at ns) xs) ns x, look_joined alike q xs (λ y h. f y (grind arith)), f x (grind arith))

-- no record stands twice
abbrev Once : List ℕ → Type 0
Once [] = Unit {0}
Once (x ∷ xs) = (has x xs ≡ false) × Once xs

once_append : (xs ys : List ℕ) → Once xs → Once ys → ((y : ℕ) → has y xs ≡ true → has y ys ≡ true → ⊥) → Once (xs ++ ys)
once_append [] ys a b f = b
once_append (x ∷ xs) ys a b f = (grind (arith, list_any-append (eqb x) xs ys, a.0, f x), once_append xs ys a.1 b (λ y h. f y (grind arith)))

once_run : (xs ls : List ℕ) (at : ℕ) → Ends ls at xs → Once xs
once_run [] ls at e = tt
once_run (x ∷ xs) ls at e = (fresh xs ls x e.1 e.2 e.3, once_run xs ls (get_or ls x 0) e.3)

module _ (ls : List ℕ) (L : Linked ls) where
  -- a record in use stands in a chain
  pub in_chain : (n y : ℕ) → has y (in_use ls n) ≡ true → (h : ℕ) × (h < n) × (has y (chain ls h) ≡ true)
  unfolding in_use
  in_chain zero y t = absurd cc
  in_chain (suc n) y t =
      ⊎_elim (λ (e : has y (chain ls n) ≡ true). (n, omega arith, e))
      (λ (e : has y (chain ls n) ≡ false). let r = in_chain n y (grind (arith, list_any-append (eqb y) (chain ls n) (in_use ls n))) in (r.0, omega (arith, r.1), r.2))
      (cases_Bool (has y (chain ls n)))

  once_in_use : (n : ℕ) → n ≤ 17 → Once (in_use ls n)
  unfolding in_use
  once_in_use zero l = tt
  once_in_use (suc n) l =
      once_append (chain ls n) (in_use ls n) (once_run (chain ls n) ls (get_or ls n 0) (L.ends n (omega arith))) (once_in_use n (omega arith))
      (λ y a b. let r = in_chain n y b in let e : n ≡ r.0 = L.apart n r.0 y (omega arith) (omega (arith, r.1)) a r.2 in omega (arith, r.1))

  pub within : (n y : ℕ) → n ≤ 17 → has y (in_use ls n) ≡ true → (17 ≤ y) × (y < length ls)
  within n y l t =
      let r = in_chain n y t in
      let s = suffix (chain ls r.0) ls (get_or ls r.0 0) y r.2 (L.ends r.0 (omega (arith, r.1))) in
      (s.1.1, s.1.2)

seek_skip : (ms : List Bool) (xs ys : List ℕ) → ((y : ℕ) → has y xs ≡ true → get_or ms y false ≡ false) → seek ms (xs ++ ys) ≡ seek ms ys
seek_skip ms [] ys f = refl
seek_skip ms (x ∷ xs) ys f = grind (arith, f x, seek_skip ms xs ys (λ y h. f y (grind arith)))

seek_front : (ms : List Bool) (xs ys : List ℕ) → seek ms ys ≡ 0 → seek ms (xs ++ ys) ≡ seek ms xs
seek_front ms [] ys e = e
seek_front ms (x ∷ xs) ys e = grind (arith, seek_front ms xs ys e)

has_long : (x : ℕ) (xs : List ℕ) → has x xs ≡ true → 0 < length xs
has_long x [] h = absurd cc
has_long x (y ∷ ys) h = omega arith

module _ {K V : Type 0} (alike : K → K → Bool) (bucket : K → ℕ) (L : Lawful alike bucket) (ns : List (Node K V)) (S : Sound alike bucket (table ns)) where
  abbrev ls : List ℕ
  ls = (table ns).links

  abbrev ks : List K
  ks = (table ns).keys

  abbrev vs : List V
  vs = (table ns).values

  mark_home : (q : K) (js : List K) (y : ℕ) → get_or (marks alike q js) y false ≡ true → get_or (map bucket js) y 16 ≡ bucket q
  mark_home q [] y m = absurd cc
  mark_home q (j ∷ js) zero m = L.shared j q m
  mark_home q (j ∷ js) (suc y) m = mark_home q js y m

  -- a record whose key is the same as q stands in the chain of q's hash
  home : (q : K) (h y : ℕ) → h < 16 → has y (chain ls h) ≡ true → get_or (marks alike q ks) y false ≡ true → h ≡ bucket q
  home q h y l t m = sym (S.homed h y l t) ∙ mark_home q ks y m

  seek_in_use : (q : K) (n : ℕ) → n ≤ 16 → seek (marks alike q ks) (in_use ls n) ≡ cond (ltb (bucket q) n) (seek (marks alike q ks) (chain ls (bucket q))) 0
  unfolding in_use
  seek_in_use q zero l = sym (ap (λ (t : Bool). cond t (seek (marks alike q ks) (chain ls (bucket q))) 0) (le-ltb (bucket q) 0 (omega arith)))
  seek_in_use q (suc n) l =
      let ms = marks alike q ks in
      let b = bucket q in
      let ih = seek_in_use q n (omega arith) in
      ⊎_elim
      (λ (e : n ≡ b).
      seek_front ms (chain ls n) (in_use ls n) (ih ∙ ap (λ (t : Bool). cond t (seek ms (chain ls b)) 0) (le-ltb b n (omega (arith, e))))
      ∙ ap (λ (h : ℕ). seek ms (chain ls h)) e
      ∙ sym (ap (λ (t : Bool). cond t (seek ms (chain ls b)) 0) (lt-ltb b (suc n) (omega (arith, e)))))
      (λ (e : n ≡ b → ⊥).
      let same : ltb b n ≡ ltb b (suc n) =
      ⊎_elim (λ (a : b < n). lt-ltb b n a ∙ sym (lt-ltb b (suc n) (omega (arith, a)))) (λ (a : n ≤ b). le-ltb b n a ∙ sym (le-ltb b (suc n) (omega (arith, a, e)))) (cases_lt b n) in
      seek_skip ms (chain ls n) (in_use ls n) (λ y t. false_from_ne_true _ (λ m. e (home q n y (omega arith) t m)))
      ∙ ih ∙ ap (λ (t : Bool). cond t (seek ms (chain ls b)) 0) same)
      (cases_eq n b)

  pub look_pairs : (q : K) → look alike (pairs ns) q ≡ found alike bucket (table ns) q
  look_pairs q =
      let above : (y : ℕ) → has y (in_use ls 16) ≡ true → 0 < y = λ y t. omega (arith, (within ls S.linked 16 y (omega arith) t).0) in
      grind (arith, look_joined ns alike q (in_use ls 16) above, seek_in_use q 16 (omega arith), L.small q)

  pub length_pairs : length (pairs ns) ≡ length (in_use ls 16)
  length_pairs = length_joined ns (in_use ls 16) (λ y t. omega (arith, (within ls S.linked 16 y (omega arith) t).1, length-map ns (λ n. n.next)))

  alone : (q : K) (x y : ℕ) → has x (in_use ls 16) ≡ true → has y (in_use ls 16) ≡ true → get_or (marks alike q ks) x false ≡ true → get_or (marks alike q ks) y false ≡ true → x ≡ y
  alone q x y a b m n =
      let r = in_chain ls S.linked 16 x a in
      let s = in_chain ls S.linked 16 y b in
      S.lone q x y (subst (λ (h : ℕ). has x (chain ls h) ≡ true) (home q r.0 x r.1 r.2 m) r.2) (subst (λ (h : ℕ). has y (chain ls h) ≡ true) (home q s.0 y s.1 s.2 n) s.2) m n

  lone_joined : (xs : List ℕ) → Once xs → ((y : ℕ) → has y xs ≡ true → has y (in_use ls 16) ≡ true) → Lone alike (flat_map (pair_at ns) xs)
  lone_joined [] o f = tt
  lone_joined (x ∷ xs) o f =
      let g : (y : ℕ) → has y xs ≡ true → has y (in_use ls 16) ≡ true = λ y h. f y (grind arith) in
      lone_at alike L.reflexive (flat_map (pair_at ns) xs) (lone_joined xs o.1 g) ns x (λ q m.
      look_joined ns alike q xs (λ y h. omega (arith, (within ls S.linked 16 y (omega arith) (g y h)).0))
      ∙ ap (held vs) (seek_nought (marks alike q ks) xs (λ y h. grind (arith, o.0, alone q x y (f x (grind arith)) (g y h) m))))

  count_is : length (chain ls 16) + (length (in_use ls 16) + 17) ≡ length ns
  count_is = omega (arith, in_use_more ls 16, S.linked.all, length-map ns (λ n. n.next))

  pub kept : Kept alike (pairs ns) (room ns)
  kept = record {
    lone = lone_joined (in_use ls 16) (once_in_use ls S.linked 16 (omega arith)) (λ y h. h);
    room = omega (arith, length_pairs, count_is);
  }

  pub spot_held : (k : K) → is_some (found alike bucket (table ns) k) ≡ not (eqb (spot alike bucket (table ns) k) 0)
  spot_held k =
      let w = seek_within ls (marks alike k ks) (get_or ls (bucket k) 0) (chain ls (bucket k)) (omega (arith, S.linked.long)) (S.linked.ends (bucket k) (omega (arith, L.small k))) in
      grind (arith, cases_eq (spot alike bucket (table ns) k) 0, held_some vs (spot alike bucket (table ns) k), w, S.deep)

  no_room : leb (room ns) (length (pairs ns)) ≡ eqb (free (table ns)) 0
  no_room =
      ⊎_elim (λ (e : free (table ns) ≡ 0).
      let none : chain ls 16 ≡ [] = ap (run (length ls) ls) e ∙ run_zero (length ls) ls in
      grind (arith, length_pairs, count_is, ap length none))
      (λ (e : free (table ns) ≡ 0 → ⊥).
      let one = has_long (free (table ns)) (chain ls 16) (free_inside ls (free (table ns)) S.linked refl (omega arith)).0 in
      grind (arith, length_pairs, count_is, one))
      (cases_eq (free (table ns)) 0)

  pub full_is : (k : K) → full alike (pairs ns) (room ns) k ≡ (eqb (spot alike bucket (table ns) k) 0 && eqb (free (table ns)) 0)
  full_is k = grind (arith, look_pairs k, spot_held k, no_room)
