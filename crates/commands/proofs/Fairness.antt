-- A command that is read is fair, and its line is short. Assumes nothing.
use Rattle.std.proofs.Common.{◌≡◌, ℕ, ◌≤◌, Bool, true, false, cond, ltb, List, [], ◌∷◌, length, codes, Ok, Err, Result, refl}
use Rattle.commands.specs.Forms.{Said, spoken, reads, opening, opens, short}
use Rattle.commands.specs.Spelling.{with_spaces, Spelt, Reading, Opened}
use Rattle.commands.specs.declared.fault.CommandFault.{CommandFault}
use Rattle.commands.specs.declared.fault.CommandFault.TheVariants.{Line}
use Rattle.commands.proofs.Spelling.{spoken_read, opening_read}
use Rattle.std.proofs.lemmas.Bool.{ltb-false}

-- what is read has at most 120 bytes
short_ok : {X : Type 0} (line : List ℕ) (r : Result X CommandFault) (x : X) → short line r ≡ Ok x → (length line ≤ 120) × (r ≡ Ok x)
short_ok {X} line r x e = go (ltb 120 (length line)) refl e
  where
    go : (v : Bool) → ltb 120 (length line) ≡ v → cond v (Err (Line 120)) r ≡ Ok x → (length line ≤ 120) × (r ≡ Ok x)
    go true s h = absurd (cc)
    go false s h = (ltb-false 120 (length line) s, h)

pub reading : (line : List ℕ) (c : Said) → reads line ≡ Ok c → Reading line c
reading line c e = let s = short_ok line (spoken line) c e in let r = spoken_read line c s.1 in record { spelt = r.0; fair = r.1; short = s.0 }

pub opened : (line template : List ℕ) → opens line ≡ Ok template → Opened line template
opened line template e = let s = short_ok line (opening line) template e in let r = opening_read line template s.1 in record { spelt = r.0; fair = r.1; short = s.0 }

-- what is read is typed out
pub reads_spelt : (line : List ℕ) (c : Said) → reads line ≡ Ok c → Spelt line c
reads_spelt line c e = (reading line c e).spelt

pub opens_spelt : (line template : List ℕ) → opens line ≡ Ok template → line ≡ with_spaces (codes "template" ∷ template ∷ [])
opens_spelt line template e = (opened line template e).spelt
