-- Tallies written one after another. Assumes nothing.
use Rattle.std.proofs.Common.{◌≡◌, ℕ, suc, ◌+◌, ◌-◌, ◌*◌, ◌<◌, ◌≤◌, List, [], ◌++◌, length, sym, refl, ap, ◌∙◌, subst, append_assoc, append-nil, arith, length-append}
use Rattle.texts.proofs.Fill.{puts_none, puts_join}
use Rattle.texts.specs.Output.{Puts}
use Rattle.texts.specs.declared.output.Output.{Output}
use Rattle.sessions.specs.Ends.{tally_line, tally_lines}
use Rattle.sessions.specs.Tallies.{Tallies, under}

-- the numbers below one are written, the others are to come
pub record Tallying (t : Tallies) (n : ℕ) (old now : Output) : Type 0 where
  pub so_far : List ℕ
  pub wrote : Puts old so_far now
  pub whole : so_far ++ tally_lines t (31 - n) n ≡ tally_lines t 30 1
  pub few : length so_far ≤ 48 * (n - 1)

pub begins : {t : Tallies} {old : Output} → Tallying t 1 old old
begins {old = old} = record { so_far = []; wrote = puts_none old; whole = refl; few = omega arith }

more : (t : Tallies) (n : ℕ) → n < 31 → tally_lines t (31 - n) n ≡ tally_line n (t.counts (under n)) ++ tally_lines t (31 - (n + 1)) (n + 1)
unfolding tally_lines
more t n h = let left : 31 - n ≡ suc (31 - (n + 1)) = omega arith in ap (λ k. tally_lines t k n) left

pub goes_on : {t : Tallies} {n : ℕ} {old was now : Output} → n < 31
    → Tallying t n old was → 1 ≤ n → Puts was (tally_line n (t.counts (under n))) now → length (tally_line n (t.counts (under n))) ≤ 48 → Tallying t (n + 1) old now
goes_on {t} {n} h going past wrote short =
    let this = tally_line n (t.counts (under n)) in
    record {
      so_far = going.so_far ++ this;
      wrote = puts_join going.wrote wrote;
      whole = append_assoc going.so_far this (tally_lines t (31 - (n + 1)) (n + 1)) ∙ ap (λ l. going.so_far ++ l) (sym (more t n h)) ∙ going.whole;
      few = omega (arith, going.few, length-append going.so_far this);
    }

all_written : {t : Tallies} {n : ℕ} {old new : Output} → n ≡ 31 → (going : Tallying t n old new) → going.so_far ≡ tally_lines t 30 1
unfolding tally_lines
all_written {t} {n} end going =
    let none_left : 31 - n ≡ 0 = omega arith in
    sym (append-nil going.so_far) ∙ ap (λ k. going.so_far ++ tally_lines t k n) (sym none_left) ∙ going.whole

pub ends : {t : Tallies} {n : ℕ} {old new : Output} → n ≡ 31 → Tallying t n old new → Puts old (tally_lines t 30 1) new
ends {old = old} {new} end going = subst (λ (s : List ℕ). Puts old s new) (all_written end going) going.wrote

-- each line has at most 48 bytes
pub ends_few : {t : Tallies} {n : ℕ} {old new : Output} → n ≡ 31 → Tallying t n old new → length (tally_lines t 30 1) ≤ 1440
ends_few end going = omega (arith, going.few, ap length (all_written end going))
