-- How chains of records lie in a list of next indices; index 0 ends each chain.
-- run: the records met from an index on
-- chain: the records that a head leads to
-- seek: the first marked record of a chain
-- before: what stands before it, a record or the head
-- unlink: a record taken out of its chain
-- link: a record put at the front of a chain
-- Ends: these are all the records from an index on
-- has: whether a record is among some
-- in_use: the records of the chains below a head
-- Linked: 17 chains that end, share no record, and have every record past the heads
-- laid, laid_out: the next indices of a table with no pair
use Rattle.std.specs.Prelude.{◌≡◌, ℕ, zero, suc, ◌+◌, ◌<◌, ◌≤◌, Bool, true, false, cond, List, [], ◌∷◌, ◌++◌, map, length, ◌==◌, nat_lt, slice_index, slice_index_or, slice_set}
use Rattle.std.specs.List.{range_with_len, list_any}

-- the records met from `at` on, until index 0, at most f of them
abbrev pub run : ℕ → List ℕ → ℕ → List ℕ
run zero ls at = []
run (suc f) ls zero = []
run (suc f) ls (suc j) = suc j ∷ run f ls (slice_index ls (suc j))

-- the chain that record h heads; in a list whose chains have no end, as many records as the list is long
abbrev pub chain : List ℕ → ℕ → List ℕ
chain ls h = run (length ls) ls (slice_index ls h)

-- the first of xs that is marked, or 0
abbrev pub seek : List Bool → List ℕ → ℕ
seek ms [] = 0
seek ms (x ∷ xs) = cond (slice_index_or ms x false) x (seek ms xs)

-- what stands before the first of xs that is marked, where p stands before xs; the last of them where none is
abbrev pub before : ℕ → List Bool → List ℕ → ℕ
before p ms [] = p
before p ms (x ∷ xs) = cond (slice_index_or ms x false) p (before x ms xs)

-- the record after p is taken out of the chain
abbrev pub unlink : List ℕ → ℕ → List ℕ
unlink ls p = slice_set ls p (slice_index ls (slice_index ls p))

-- the record x is put at the front of the chain of h
abbrev pub link : List ℕ → ℕ → ℕ → List ℕ
link ls x h = slice_set (slice_set ls x (slice_index ls h)) h x

-- xs are all the records met from `at` on, none of them a head, and the last one's next index is 0
abbrev pub Ends : List ℕ → ℕ → List ℕ → Type 0
Ends ls at [] = at ≡ 0
Ends ls at (x ∷ xs) = (at ≡ x) × (17 ≤ x) × (x < length ls) × Ends ls (slice_index ls x) xs

abbrev pub has : ℕ → List ℕ → Bool
has x xs = list_any (λ y. x == y) xs

-- the records of the chains below h
unfoldable pub in_use : List ℕ → ℕ → List ℕ
in_use ls zero = []
in_use ls (suc h) = chain ls h ++ in_use ls h

pub record Linked (ls : List ℕ) : Type 0 where
  pub long : 18 ≤ length ls
  pub short : length ls ≤ 65536
  pub ends : (h : ℕ) → h < 17 → Ends ls (slice_index ls h) (chain ls h)
  pub apart : (h i x : ℕ) → h < 17 → i < 17 → has x (chain ls h) ≡ true → has x (chain ls i) ≡ true → h ≡ i
  pub all : length (in_use ls 17) + 17 ≡ length ls

-- the next index of record i in a table of n records with no pair: each free record leads to the one after it
abbrev pub laid : ℕ → ℕ → ℕ
laid n i = cond (nat_lt i 16) 0 (cond (nat_lt (i + 1) n) (i + 1) 0)

abbrev pub laid_out : ℕ → List ℕ
laid_out n = map (laid n) (range_with_len 0 n)
