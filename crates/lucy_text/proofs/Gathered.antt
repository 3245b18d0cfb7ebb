-- How reading stopped, by what was taken.
use Rattle.std.proofs.Common.{ℕ, ◌+◌, ◌≤◌, ◌≡◌, List, length, Result, Ok, Err, refl, inr}
use Rattle.std.specs.Prelude.{IsErrAnd}
use Rattle.std.specs.declared.alloc.Global.{Global}
use Rattle.std.specs.declared.vec.Vec.{Vec}
use Rattle.lucy_text.specs.Outside.{SeenSource, GaveBytes, NoneFollows}
use Rattle.lucy_text.specs.Sources.{ReadStop, Open, Read, IsGathered}
use Rattle.lucy_text.specs.declared.read.ReadError.{ReadError}
use Rattle.lucy_text.specs.declared.read.ReadError.TheVariants.{OutOfMemory}

-- what a reading gives, with how it stopped
abbrev pub Gives : (most : ℕ) (before after : SeenSource) → Result (Vec ℕ Global) ReadError → Type 0
Gives most before after r = (taken : List ℕ) × (stop : ReadStop) × Read most before after taken stop × IsGathered most taken stop r

-- all that was taken up to now
pub record Took (before after : SeenSource) (taken : List ℕ) : Type 0 where
  pub took : GaveBytes before after taken
  pub none_follows : NoneFollows before.since_stop after.since_stop

-- memory ran out behind these bytes
pub ran_out : (most : ℕ) (before after : SeenSource) (taken : List ℕ) (r : Result (Vec ℕ Global) ReadError) → Took before after taken → length taken ≤ most + 1 → after.faults ≡ before.faults →
    IsErrAnd r (λ e. e ≡ OutOfMemory) → Gives most before after r
ran_out most before after taken (Ok bytes) took short calm is = absurd is
ran_out most before after taken (Err e) took short calm is =
    (taken, Open, record { took = took.took; stopped = (short, calm); none_follows = took.none_follows }, inr (is, refl))
