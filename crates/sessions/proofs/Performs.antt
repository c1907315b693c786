-- What a call, and a list of mints, did. Assumes nothing.
use Rattle.std.proofs.Common.{◌≡◌, ℕ, suc, ◌+◌, ◌-◌, ◌<◌, true, false, cond, List, [], ◌∷◌, ◌++◌, is_some, is_ok, Some, None, Ok, Err, Option, Result, sym, refl, ap, ◌∙◌, subst, ap₂, append_assoc, append-nil, add-zero, add_assoc, arith}
use Rattle.machine.proofs.Runs.{same_naming}
use Rattle.machine.specs.Calls.{Asked, Mint}
use Rattle.machine.specs.History.{accepted}
use Rattle.machine.specs.Machine.{Machine, mint, said, step, final, answers}
use Rattle.machine.specs.Names.{Name}
use Rattle.machine.specs.Runs.{Sound}
use Rattle.machine.specs.declared.call.Answer.{Answer}
use Rattle.machine.specs.declared.call.Answer.TheVariants.{Minted, Held, Released, Queued, Ticked, Bound, Purged, Refused}
use Rattle.machine.specs.declared.fault.RegisterFault.{RegisterFault}
use Rattle.sessions.specs.Performing.{mints, told_of, tells, minted_by, names_minted, fault_of, or_else, first_fault, Performed, by_calls, Did}
use Rattle.reports.specs.Reports.{line, minted}
use Rattle.texts.proofs.Fill.{puts_join}
use Rattle.sessions.specs.declared.perform.Done.{Done}
use Rattle.texts.specs.Output.{Puts}
use Rattle.texts.specs.declared.output.Output.{Output}

or_none : (o : Option RegisterFault) → or_else o None ≡ o
or_none (Some f) = refl
or_none None = refl

-- an answer that has a fault was no acceptance
pub not_accepted : (a : Answer) → is_some (fault_of a) ≡ true → accepted a ≡ false
not_accepted (Minted n) e = sym e
not_accepted (Held n) e = sym e
not_accepted (Released n) e = sym e
not_accepted (Queued n) e = sym e
not_accepted (Ticked s) e = sym e
not_accepted (Bound n) e = sym e
not_accepted (Purged n) e = sym e
not_accepted (Refused f) e = refl

-- one call, reported under the names that the register has after it
pub one_call : {m after : Machine} (word : List ℕ) (c : Asked) {a : Answer} {old new : Output} {done : Done}
    → Sound m → after ≡ (step m c).0 → a ≡ (step m c).1
    → Puts old (told_of after.source.named word a) new → done.minted ≡ minted_by a → done.fault ≡ fault_of a
    → Did (by_calls m word (c ∷ [])) after old new done
one_call {m} {after} word c {a} {old} {new} {done} sound e f wrote many why =
    let same : after.source.named ≡ m.source.named = ap (λ (x : Machine). x.source.named) e ∙ (same_naming m (c ∷ []) sound).1 in
    let told : told_of after.source.named word a ≡ told_of m.source.named word (step m c).1 ++ [] =
    ap₂ (λ (x : ℕ → Name) (b : Answer). told_of x word b) same f ∙ sym (append-nil (told_of m.source.named word (step m c).1)) in
    record {
      machine = e;
      text = subst (λ (t : List ℕ). Puts old t new) told wrote;
      minted = many ∙ ap minted_by f ∙ sym (add-zero (minted_by (step m c).1));
      fault = why ∙ ap fault_of f ∙ sym (or_none (fault_of (step m c).1));
    }

-- ---- so many mints

-- the calls reported under names that are given
abbrev pub by_named : (ℕ → Name) → Machine → List ℕ → List Asked → Performed
by_named f m word cs = record { machine = final m cs; text = tells f word (answers m cs); minted = names_minted (answers m cs); fault = first_fault (answers m cs) }

-- after lines and names that came before
abbrev pub led : List ℕ → ℕ → Performed → Performed
led t i p = record { machine = p.machine; text = t ++ p.text; minted = i + p.minted; fault = p.fault }

-- the first mint was accepted, or was not
taken : (f : ℕ → Name) (m : Machine) (k n : ℕ) → (mint m).1 ≡ Ok n
    → by_named f m [] (mints (suc k) m) ≡ led (line (minted (f n))) 1 (by_named f (mint m).0 [] (mints k (mint m).0))
taken f m k n e =
    let m' = (mint m).0 in
    let F : Result ℕ RegisterFault → Performed = λ r. record {
      machine = final m' (cond (is_ok r) (mints k m') []);
      text = told_of f [] (said (λ n. Minted n) r) ++ tells f [] (answers m' (cond (is_ok r) (mints k m') []));
      minted = minted_by (said (λ n. Minted n) r) + names_minted (answers m' (cond (is_ok r) (mints k m') []));
      fault = or_else (fault_of (said (λ n. Minted n) r)) (first_fault (answers m' (cond (is_ok r) (mints k m') [])));
    } in
    ap F e

stopped : (f : ℕ → Name) (m : Machine) (k : ℕ) (x : RegisterFault) → (mint m).1 ≡ Err x → by_named f m [] (mints (suc k) m) ≡ by_named f m [] (Mint ∷ [])
stopped f m k x e = ap (λ (r : Result ℕ RegisterFault). by_named f m [] (Mint ∷ cond (is_ok r) (mints k (mint m).0) [])) e

-- a run of mints that has made i of them: it began with m, has put the text so far, and now stands at n
pub record Minting (kept : Type 0) (m n : Machine) (count i : ℕ) (old now : Output) : Type 0 where
  pub sound : Sound n
  pub store : kept
  pub named : n.source.named ≡ m.source.named
  pub so_far : List ℕ
  pub wrote : Puts old so_far now
  pub whole : led so_far i (by_named m.source.named n [] (mints (count - i) n)) ≡ by_calls m [] (mints count m)

-- a mint that has no fault has a number, one that has a fault has that one
has_number : (r : Result ℕ RegisterFault) → is_some (or_else (fault_of (said (λ n. Minted n) r)) None) ≡ false → (n : ℕ) × (r ≡ Ok n)
has_number (Ok n) e = (n, refl)
has_number (Err x) e = let z : ◌≡◌ {A = ℕ} 0 1 = cc in absurd (omega arith)

has_fault : (r : Result ℕ RegisterFault) → is_some (or_else (fault_of (said (λ n. Minted n) r)) None) ≡ true → (x : RegisterFault) × (r ≡ Err x)
has_fault (Ok n) e = let z : ◌≡◌ {A = ℕ} 0 1 = cc in absurd (omega arith)
has_fault (Err x) e = (x, refl)

module _ {kept : Type 0} {m n n' : Machine} {count i : ℕ} {old was now : Output} {one : Done}
    (here : i < count) (going : Minting kept m n count i old was) (did : Did (by_calls n [] (Mint ∷ [])) n' was now one) where
  left : count - i ≡ suc (count - (i + 1))
  left = omega arith

  pub goes_on : {kept' : Type 0} → is_some one.fault ≡ false → Sound n' → kept' → Minting kept' m n' count (i + 1) old now
  goes_on fine sound store =
      let got = has_number (mint n).1 (ap is_some (sym did.fault) ∙ fine) in
      let f = m.source.named in
      let told : told_of n.source.named [] (said (λ n. Minted n) (mint n).1) ++ [] ≡ line (minted (f got.0)) =
      ap₂ (λ (g : ℕ → Name) (r : Result ℕ RegisterFault). told_of g [] (said (λ n. Minted n) r) ++ []) going.named got.1 ∙ append-nil (line (minted (f got.0))) in
      let rest = by_named f (mint n).0 [] (mints (count - (i + 1)) (mint n).0) in
      record {
        sound = sound;
        store = store;
        named = ap (λ (x : Machine). x.source.named) did.machine ∙ (same_naming n (Mint ∷ []) going.sound).1 ∙ going.named;
        so_far = going.so_far ++ line (minted (f got.0));
        wrote = puts_join going.wrote (subst (λ (t : List ℕ). Puts was t now) told did.text);
        whole =
            ap (λ (x : Machine). led (going.so_far ++ line (minted (f got.0))) (i + 1) (by_named f x [] (mints (count - (i + 1)) x))) did.machine
            ∙ (λ j. record {
              machine = rest.machine;
              text = append_assoc going.so_far (line (minted (f got.0))) rest.text j;
              minted = add_assoc i 1 rest.minted j;
              fault = rest.fault;
            })
            ∙ ap (led going.so_far i) (sym (taken f n (count - (i + 1)) got.0 got.1) ∙ ap (λ (k : ℕ). by_named f n [] (mints k n)) (sym left))
            ∙ going.whole;
      }

  pub ends_refused : {done : Done} → is_some one.fault ≡ true → done.minted ≡ i → done.fault ≡ one.fault → Did (by_calls m [] (mints count m)) n' old now done
  ends_refused {done} bad many why =
      let got = has_fault (mint n).1 (ap is_some (sym did.fault) ∙ bad) in
      let f = m.source.named in
      let all : led going.so_far i (by_named f n [] (Mint ∷ [])) ≡ by_calls m [] (mints count m) =
      ap (led going.so_far i) (sym (ap (λ (k : ℕ). by_named f n [] (mints k n)) left ∙ stopped f n (count - (i + 1)) got.0 got.1)) ∙ going.whole in
      let told : tells n.source.named [] (answers n (Mint ∷ [])) ≡ tells f [] (answers n (Mint ∷ [])) = ap (λ (g : ℕ → Name). tells g [] (answers n (Mint ∷ []))) going.named in
      let none-minted : names_minted (answers n (Mint ∷ [])) ≡ 0 = ap (λ (r : Result ℕ RegisterFault). minted_by (said (λ n. Minted n) r) + 0) got.1 in
      record {
        machine = did.machine ∙ ap (λ (p : Performed). p.machine) all;
        text = subst (λ (t : List ℕ). Puts old t now) (ap (λ (t : List ℕ). going.so_far ++ t) told ∙ ap (λ (p : Performed). p.text) all) (puts_join going.wrote did.text);
        minted = many ∙ sym (add-zero i) ∙ ap (λ (k : ℕ). i + k) (sym none-minted) ∙ ap (λ (p : Performed). p.minted) all;
        fault = why ∙ did.fault ∙ ap (λ (p : Performed). p.fault) all;
      }
