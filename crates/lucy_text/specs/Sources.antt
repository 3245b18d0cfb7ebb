-- What the reading of a source has met.
use Rattle.std.specs.Prelude.{ℕ, ◌+◌, ◌<◌, ◌≤◌, ◌≡◌, ◌⊎◌, List, [], length, Result, MatchResult}
use Rattle.std.specs.declared.alloc.Global.{Global}
use Rattle.std.specs.declared.vec.Vec.{Vec}
use Rattle.lucy_text.specs.Outside.{SeenSource, GaveBytes, HasEnded, Rose, NoneFollows}
use Rattle.lucy_text.specs.declared.read.ReadError.{ReadError}
use Rattle.lucy_text.specs.declared.read.ReadError.TheVariants as read_error

-- how the reading of a source stopped: nothing was read, it met the end, a read failed, a byte past the limit was taken, reading
-- ended before any of these, or at the end, behind a byte past the limit, if need be
pub data ReadStop : Type 0 where
  Unread Ended Failed Passed Open Drained : ReadStop

-- the reading of at most so many bytes, and one more, stopped so; memory may run out behind that one too
abbrev pub StoppedAt : (most : ℕ) (before after : SeenSource) (taken : List ℕ) → ReadStop → Type 0
StoppedAt most before after taken Unread = (taken ≡ []) × (after ≡ before)
StoppedAt most before after taken Ended = (length taken ≤ most) × HasEnded after × (after.faults ≡ before.faults)
StoppedAt most before after taken Failed = (length taken ≤ most) × Rose before.faults after.faults
StoppedAt most before after taken Passed = (length taken ≡ most + 1) × (after.faults ≡ before.faults)
StoppedAt most before after taken Open = (length taken ≤ most + 1) × (after.faults ≡ before.faults)
StoppedAt most before after taken Drained = (length taken ≤ most + 1) × HasEnded after × (after.faults ≡ before.faults)

-- these bytes were taken, and then reading stopped so
pub record Read (most : ℕ) (before after : SeenSource) (taken : List ℕ) (stop : ReadStop) : Type 0 where
  pub took : GaveBytes before after taken
  pub stopped : StoppedAt most before after taken stop
  pub none_follows : NoneFollows before.since_stop after.since_stop

-- how the reading of all bytes, up to a limit, stopped that gave this
abbrev pub IsGathered : (most : ℕ) (taken : List ℕ) → ReadStop → Result (Vec ℕ Global) ReadError → Type 0
IsGathered most taken stop gathered = MatchResult gathered
    (λ bytes. (bytes.items ≡ taken) × (((length taken ≤ most) × (stop ≡ Ended)) ⊎ ((most < length taken) × (stop ≡ Passed))))
    (λ e. ((e ≡ read_error.Failed) × (stop ≡ Failed)) ⊎ ((e ≡ read_error.OutOfMemory) × (stop ≡ Open)))
