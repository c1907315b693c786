-- Subcounters as they are kept.
-- lives: the live ones; gives: what the live one at an index gives.
-- Unused: subcounters that gave nothing; GaveOne: what giving one number changes.
use Rattle.std.specs.Prelude.{◌≡◌, ℕ, ◌+◌, ◌*◌, List, slice_index}
use Rattle.sources.specs.Subcounters.{share_of, live_from, given, none_given}
use Rattle.sources.specs.declared.subcounters.Subcounters.{Subcounters}

abbrev pub lives : Subcounters → List ℕ
lives s = live_from s.total s.share 0 s.counts

abbrev pub gives : Subcounters → ℕ → ℕ
gives s index = slice_index (lives s) index * s.share + slice_index s.counts (slice_index (lives s) index)

pub record Unused (t : ℕ) (s : Subcounters) : Type 0 where
  pub total : s.total ≡ t
  pub share : s.share ≡ share_of t
  pub draws : s.draws ≡ 0
  pub counts : s.counts ≡ none_given

pub record GaveOne (s : Subcounters) (index : ℕ) (s' : Subcounters) : Type 0 where
  pub total : s'.total ≡ s.total
  pub share : s'.share ≡ s.share
  pub draws : s'.draws ≡ s.draws + 1
  pub counts : s'.counts ≡ given s.counts (slice_index (lives s) index)
