-- What holds of a refusal, and of the outcome once the checks are passed, holds of the call.
use Rattle.std.proofs.Common.{◌≡◌, ℕ, Bool, true, false, cond, List, [], ◌∷◌, Some, None, Ok, Err, Option, Result, refl}
use Rattle.names.specs.declared.fault.NameFault.{NameFault}
use Rattle.sources.specs.Stock.{is_foreign}
use Rattle.sources.specs.declared.fault.SourceFault.TheVariants.{Foreign}
use Rattle.stores.specs.declared.text.Element.{Element}
use Rattle.machine.specs.Names.{bare}
use Rattle.machine.specs.Machine.{Machine, Outcome, Check, tried, on_name, on_element}
use Rattle.machine.specs.declared.fault.RegisterFault.{RegisterFault}
use Rattle.machine.specs.declared.fault.RegisterFault.TheVariants.{Name, Source, ElementWord}

-- no check fails
abbrev pub Passed : List Check → Type 0
Passed [] = Unit {0}
Passed (c ∷ cs) = (c.fails ≡ false) × Passed cs

module _ (P : Outcome → Type 0) (m : Machine) (out : (f : RegisterFault) → P (m, Err f)) where
  pub tried_so : (cs : List Check) (o : Outcome) → (Passed cs → P o) → P (tried m cs o)
  tried_so [] o into = into tt
  tried_so (c ∷ cs) o into = at c.fails refl (tried_so cs o)
    where
      at : (b : Bool) → c.fails ≡ b → ((Passed cs → P o) → P (tried m cs o)) → P (cond b (m, Err c.fault) (tried m cs o))
      at true e r = out c.fault
      at false e r = r (λ p. into (e, p))

  pub on_name_so : (t : List ℕ) (k : ℕ → Outcome) → ((n : ℕ) → m.source.reads (bare t) ≡ Ok n → is_foreign (m.source.stands n) ≡ false → P (k n)) → P (on_name m t k)
  on_name_so t k into = at (m.source.reads (bare t)) refl
    where
      ours : (n : ℕ) → m.source.reads (bare t) ≡ Ok n → (b : Bool) → is_foreign (m.source.stands n) ≡ b → P (elim (cond {A = Result ℕ RegisterFault} b (Err (Source Foreign)) (Ok n)) [ Err e ↦ (m, Err e) | Ok n ↦ k n ])
      ours n e true q = out (Source Foreign)
      ours n e false q = into n e q

      at : (r : Result ℕ NameFault) → m.source.reads (bare t) ≡ r
          → P (elim (elim r as (λ x. Result ℕ RegisterFault) [ Err e ↦ Err (Name e) | Ok n ↦ cond (is_foreign (m.source.stands n)) (Err (Source Foreign)) (Ok n) ]) [ Err e ↦ (m, Err e) | Ok n ↦ k n ])
      at (Ok n) e = ours n e (is_foreign (m.source.stands n)) refl
      at (Err f) e = out (Name f)

  pub on_element_so : (e : Option Element) (k : Element → Outcome) → ((f : Element) → e ≡ Some f → P (k f)) → P (on_element m e k)
  on_element_so None k into = out ElementWord
  on_element_so (Some f) k into = into f refl
