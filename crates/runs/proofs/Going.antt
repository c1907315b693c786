-- A run that has made i of its calls.
use Rattle.std.proofs.Common.{◌≡◌, ℕ, ◌+◌, ◌<◌, ◌≤◌, List, [], ◌∷◌, ◌++◌, length, get_or, take, drop, set, sym, refl, ap, ◌∙◌, subst, ap₂, append_assoc, arith}
use Rattle.std.proofs.lemmas.List.{at_drop_more, at_drop_all, append-nil, length-take-le, take_more_set, drop-set-lt, drop-drop, take-append-drop}
use Rattle.machine.specs.Calls.{Asked, asked, asks}
use Rattle.machine.specs.Names.{Name}
use Rattle.machine.specs.History.{History, event, told_after}
use Rattle.machine.specs.Machine.{Machine, step, final, answers}
use Rattle.machine.specs.Runs.{Sound}
use Rattle.machine.specs.declared.call.Answer.{Answer}
use Rattle.machine.specs.declared.call.Call.{Call}
use Rattle.machine.specs.declared.call.Call.TheVariants.{Mint}
use Rattle.machine.proofs.Keeps.{step_sound}

-- it began with m, has the answers so far and now stands at n, which is sound; the store is as `kept` says
pub record Going (kept : Type 0) (m n : Machine) (cs : List Call) (i : ℕ) (out : List Answer) : Type 0 where
  pub sound : Sound n
  pub store : kept
  pub after : final n (asks (drop i cs)) ≡ final m (asks cs)
  pub so_far : out ++ answers n (asks (drop i cs)) ≡ answers m (asks cs)

pub begins : (kept : Type 0) (m : Machine) (cs : List Call) (out : List Answer) → Sound m → kept → out ≡ [] → Going kept m m cs 0 out
begins kept m cs out s k e = record { sound = s; store = k; after = refl; so_far = ap (λ (o : List Answer). o ++ answers m (asks cs)) e }

pub goes_on : (kept kept' : Type 0) (m n n' : Machine) (cs : List Call) (i : ℕ) (out out' : List Answer) (a : Answer) → i < length cs
    → n' ≡ (step n (asked (get_or cs i Mint))).0 → a ≡ (step n (asked (get_or cs i Mint))).1 → kept' → out' ≡ out ++ (a ∷ [])
    → Going kept m n cs i out → Going kept' m n' cs (i + 1) out'
goes_on kept kept' m n n' cs i out out' a h e f k o going = record {
  sound = subst Sound (sym e) (step_sound n going.sound (asked (get_or cs i Mint)));
  store = k;
  after = ap (λ (x : Machine). final x (asks (drop (i + 1) cs))) e ∙ sym (at_drop_more (λ (xs : List Call). final n (asks xs)) cs i Mint h) ∙ going.after;
  so_far =
      ap (λ (x : List Answer). x ++ answers n' (asks (drop (i + 1) cs))) o
      ∙ append_assoc out (a ∷ []) (answers n' (asks (drop (i + 1) cs)))
      ∙ ap (λ (x : List Answer). out ++ x) (ap₂ (λ (x : Answer) (y : Machine). x ∷ answers y (asks (drop (i + 1) cs))) f e ∙ sym (at_drop_more (λ (xs : List Call). answers n (asks xs)) cs i Mint h))
      ∙ going.so_far;
}

pub all_after : (kept : Type 0) (m n : Machine) (cs : List Call) (i : ℕ) (out : List Answer) → length cs ≤ i → Going kept m n cs i out → n ≡ final m (asks cs)
all_after kept m n cs i out h going = sym (at_drop_all (λ (xs : List Call). final n (asks xs)) cs i h) ∙ going.after

pub all_answers : (kept : Type 0) (m n : Machine) (cs : List Call) (i : ℕ) (out : List Answer) → length cs ≤ i → Going kept m n cs i out → out ≡ answers m (asks cs)
all_answers kept m n cs i out h going = sym (ap (λ (x : List Answer). out ++ x) (at_drop_all (λ (xs : List Call). answers n (asks xs)) cs i h) ∙ append-nil out) ∙ going.so_far

-- answers beyond the calls are not told
pub told_more : (named : ℕ → Name) (g : History) (m : Machine) (cs : List Asked) (bs : List Answer) → told_after named g cs (answers m cs ++ bs) ≡ told_after named g cs (answers m cs)
told_more named g m [] bs = refl
told_more named g m (c ∷ cs) bs = told_more named (event named c (step m c).1 ∷ g) (step m c).0 cs bs

-- a run over the first n of the calls, whose answers are written into a list; what lies past them is as it was
module _ (kept kept' : Type 0) (m k k' : Machine) (calls : List Call) (n i : ℕ) (was out : List Answer) (a : Answer) (here : i < n) (fits : n ≤ length calls) (room : n ≤ length out) where
  pub writes_on : k' ≡ (step k (asked (get_or (take n calls) i Mint))).0 → a ≡ (step k (asked (get_or (take n calls) i Mint))).1 → kept'
      → Going kept m k (take n calls) i (take i out) → Going kept' m k' (take n calls) (i + 1) (take (i + 1) (set out i a))
  writes_on e f s going =
      let within : i < length (take n calls) = let l = length-take-le n calls fits in omega arith in
      goes_on kept kept' m k k' (take n calls) i (take i out) (take (i + 1) (set out i a)) a within
      e f s (take_more_set out i a (omega arith)) going

  pub past_stays : drop i out ≡ drop i was → drop (i + 1) (set out i a) ≡ drop (i + 1) was
  past_stays e = drop-set-lt (i + 1) out i a (omega arith) ∙ sym (drop-drop 1 i out) ∙ ap (drop 1) e ∙ drop-drop 1 i was

module _ (kept : Type 0) (m k : Machine) (calls : List Call) (n i : ℕ) (was out : List Answer) (end : i ≡ n) (fits : n ≤ length calls) (going : Going kept m k (take n calls) i (take i out)) where
  all_made : length (take n calls) ≤ i
  all_made = let l = length-take-le n calls fits in omega arith

  pub ends_after : k ≡ final m (asks (take n calls))
  ends_after = all_after kept m k (take n calls) i (take i out) all_made going

  pub ends_written : drop i out ≡ drop i was → out ≡ answers m (asks (take n calls)) ++ drop n was
  ends_written e =
      sym (take-append-drop i out)
      ∙ ap₂ (λ (xs ys : List Answer). xs ++ ys) (all_answers kept m k (take n calls) i (take i out) all_made going) (e ∙ ap (λ (j : ℕ). drop j was) end)
