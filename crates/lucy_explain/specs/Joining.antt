-- What only serves the proofs of the bodies: streams as far as some needs tell them.
use Rattle.std.specs.Prelude.{ℕ, ◌<◌, ◌≡◌, ◌==◌, List, Some, length, slice_index, slice_get, cond}
use Rattle.lucy_need.specs.declared.need.Need.{Need}
use Rattle.lucy_explain.specs.Streams.{Ties, AreOne}

-- a number in place of another
abbrev pub renamed : (old new : ℕ) → ℕ → ℕ
renamed old new s = cond (s == old) new s

-- as `AreStreams`, but of the first so many needs
pub record AreStreamsOf (needs : List Need) (clocks upto : ℕ) (streams : List ℕ) : Type 0 where
  pub all : length streams ≡ clocks
  pub each : (c : ℕ) → c < clocks → AreOne needs c (slice_index streams c)
  pub tied : (c d k : ℕ) (need : Need) → c < clocks → d < clocks → k < upto → slice_get needs k ≡ Some need → Ties need c d → slice_index streams c ≡ slice_index streams d
