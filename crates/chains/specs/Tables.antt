-- The chain table: what each call answers and leaves, on any list of records, and which pairs a sound table has.
-- Table, table: the three columns of the records, which have all that the records have
-- marks: which records have a key
-- held: the value of a record
-- free: the first free record
-- spot, spot_before: the record of a key, and what stands before it
-- found: the value of a key
-- set_value, take_free: a key's new value, and a new key's record
-- put_table, put_answer: what put leaves and answers
-- drop_table: what drop leaves
-- fresh_table, fits_table: what formatting leaves, and the lengths that it takes
-- Sound: what formatting gives and every call keeps
-- room: the capacity
-- pair_at, pairs: the pair of a record, and those of the records in the 16 chains
use Rattle.std.specs.Prelude.{◌≡◌, ℕ, ◌-◌, ◌<◌, Bool, true, false, cond, ◌&&◌, List, [], ◌∷◌, map, length, Some, None, Ok, Err, Option, Result, ◌==◌, nat_le, slice_index, slice_index_or, slice_set}
use Rattle.std.specs.List.{flat_map}
use Rattle.stores.specs.declared.fault.StoreFault.{StoreFault}
use Rattle.stores.specs.declared.fault.StoreFault.TheVariants.{Full}
use Rattle.chains.specs.declared.node.Node.{Node}
use Rattle.chains.specs.Chains.{chain, seek, before, unlink, link, has, in_use, Linked, laid_out}

pub record Table (K V : Type 0) : Type 0 where
  pub links : List ℕ
  pub keys : List K
  pub values : List V

abbrev pub table : {K V : Type 0} → List (Node K V) → Table K V
table ns = record { links = map (λ n. n.next) ns; keys = map (λ n. n.key) ns; values = map (λ n. n.value) ns }

-- which records have a key that is the same as k
abbrev pub marks : {K : Type 0} → (K → K → Bool) → K → List K → List Bool
marks alike k ks = map (λ y. alike y k) ks

-- the value of record x; record 0 has none, nor has an index past the records
abbrev pub held : {V : Type 0} → List V → ℕ → Option V
held vs x = cond (x == 0) None (slice_index_or (map (λ v. Some v) vs) x None)

-- the first free record, or 0
abbrev pub free : {K V : Type 0} → Table K V → ℕ
free t = slice_index t.links 16

abbrev pub set_value : {K V : Type 0} → Table K V → ℕ → V → Table K V
set_value t x v = record { links = t.links; keys = t.keys; values = slice_set t.values x v }

module _ {K V : Type 0} (alike : K → K → Bool) (bucket : K → ℕ) where
  -- the record of k in the chain of its hash, or 0
  abbrev pub spot : Table K V → K → ℕ
  spot t k = seek (marks alike k t.keys) (chain t.links (bucket k))

  -- what stands before it
  abbrev pub spot_before : Table K V → K → ℕ
  spot_before t k = before (bucket k) (marks alike k t.keys) (chain t.links (bucket k))

  abbrev pub found : Table K V → K → Option V
  found t k = held t.values (spot t k)

  -- the first free record gets the pair and goes to the front of the chain of the key's hash
  abbrev pub take_free : Table K V → K → V → Table K V
  take_free t k v = record {
    links = link (unlink t.links 16) (free t) (bucket k);
    keys = slice_set t.keys (free t) k;
    values = slice_set t.values (free t) v;
  }

  -- a key's record gets the new value; a new key takes a free record; with none, nothing changes
  abbrev pub put_table : Table K V → K → V → Table K V
  put_table t k v = cond (spot t k == 0) (cond (free t == 0) t (take_free t k v)) (set_value t (spot t k) v)

  abbrev pub put_answer : Table K V → K → Result Unit StoreFault
  put_answer t k = cond (spot t k == 0 && free t == 0) (Err Full) (Ok tt)

  -- a key's record goes to the front of the free chain, and keeps its key and value
  abbrev pub drop_table : Table K V → K → Table K V
  drop_table t k = cond (spot t k == 0) t (record {
    links = link (unlink t.links (spot_before t k)) (spot t k) 16;
    keys = t.keys;
    values = t.values;
  })

  -- a record in the chain of a hash has a key of that hash; no two records of a chain have the same key
  pub record Sound (t : Table K V) : Type 0 where
    pub linked : Linked t.links
    pub wide : length t.keys ≡ length t.links
    pub deep : length t.values ≡ length t.links
    pub homed : (h x : ℕ) → h < 16 → has x (chain t.links h) ≡ true → slice_index_or (map bucket t.keys) x 16 ≡ h
    pub lone : (k : K) (x y : ℕ) → has x (chain t.links (bucket k)) ≡ true → has y (chain t.links (bucket k)) ≡ true →
        slice_index_or (marks alike k t.keys) x false ≡ true → slice_index_or (marks alike k t.keys) y false ≡ true → x ≡ y

-- a table with no pair; keys and values stay
abbrev pub fresh_table : {K V : Type 0} → Table K V → Table K V
fresh_table t = record { links = laid_out (length t.links); keys = t.keys; values = t.values }

-- the lengths that a chain table may have
abbrev pub fits_table : ℕ → Bool
fits_table n = nat_le 18 n && nat_le n 65536

abbrev pub room : {K V : Type 0} → List (Node K V) → ℕ
room ns = length ns - 17

-- the pair of record x, or nothing past the records
abbrev pub pair_at : {K V : Type 0} → List (Node K V) → ℕ → List (K × V)
pair_at ns x = slice_index_or (map (λ n. (n.key, n.value) ∷ []) ns) x []

abbrev pub pairs : {K V : Type 0} → List (Node K V) → List (K × V)
pairs ns = flat_map (pair_at ns) (in_use (table ns).links 16)
