-- What a call that runs a program leaves on the sink.
use Rattle.std.specs.Prelude.{ℕ, ℤ, ◌+◌, ◌≤◌, ◌≡◌, ◌⊎◌, List, [], ◌++◌, take, Option, Result, Ok, Err}
use Rattle.lucy_host.specs.declared.kind.HostKind.{HostKind}
use Rattle.lucy_host.specs.Operators.{Operator}
use Rattle.lucy_text.specs.Sources.{ReadStop, Unread}
use Rattle.lucy_lines.specs.Feeding.{IsAsked}
use Rattle.lucy_text.specs.Outside.{SeenSink, Writes, Fails}
use Rattle.lucy_run.specs.declared.ending.Ending.{Ending}
use Rattle.lucy_run.specs.declared.ending.Ending.TheVariants as ending
use Rattle.lucy_program.specs.declared.accepted.Accepted.{Accepted}
use Rattle.lucy_run.specs.Feeds.{LinesFeed, IsNeededFor}
use Rattle.lucy_trace.specs.declared.error.TraceError.{TraceError}
use Rattle.lucy_run.specs.Replays.{OwesReplay}
use Rattle.lucy_run.specs.Tracing.{OwesTrace}
use Rattle.lucy_run.specs.Owes.{IsHorizonOf, OwesRun, LinesAllow, heading, input_words, lines_to}

-- a front of an output in which a call may break off; nothing is one, also where there is no such output yet
abbrev pub IsFrontOf : (MayBreak : List ℕ → Type 0) → (front : List ℕ) → Type 0
IsFrontOf MayBreak front = (front ≡ []) ⊎ ((output : List ℕ) × (n : ℕ) × MayBreak output × (front ≡ take n output))

-- an output that is owed, with some ending
abbrev pub Outputs : (Owes : List ℕ → Ending → Type 0) → (output : List ℕ) → Type 0
Outputs Owes output = (end : Ending) × Owes output end

-- The output that is owed with this ending stands there; or a write failed, and a front stands there of an output in which the call may
-- break off; or memory ran out, and a front of one was written.
abbrev pub EndsWith : (Owes : List ℕ → Ending → Type 0) (MayBreak : List ℕ → Type 0) → (before after : SeenSink) → Ending → Type 0
EndsWith Owes MayBreak before after ending.WriteFault = (output : List ℕ) × MayBreak output × Fails before after output
EndsWith Owes MayBreak before after ending.OutOfMemory = (front : List ℕ) × IsFrontOf MayBreak front × Writes before after front
EndsWith Owes MayBreak before after end = (output : List ℕ) × Owes output end × Writes before after output

-- so ends a call that breaks off in an output that is owed, and in no other
abbrev pub EndsOwed : (Owes : List ℕ → Ending → Type 0) → (before after : SeenSink) → Ending → Type 0
EndsOwed Owes before after end = EndsWith Owes (Outputs Owes) before after end

-- The heading and the lines of so many instants were written, and then a write of lines failed. Bytes were asked for only as long as
-- their items were too few for an instant that is a block later at most.
pub record FailsInBlock (kinds : List HostKind) (a : Accepted) (given : Option ℕ) (block : ℕ) (taken : List ℕ) (stop : ReadStop) (was now : SeenSink) : Type 0 where
  pub lists : List (List ℤ)
  pub horizon : ℕ
  pub fed : LinesFeed a.inputs.items taken stop lists
  pub horizon_is : IsHorizonOf (input_words a) given lists horizon
  pub done : ℕ
  pub early : done ≤ horizon
  pub between : SeenSink
  pub rest : List ℕ
  pub written : Writes was between (heading a ++ lines_to kinds a lists done)
  pub failed : Fails between now rest
  pub aim : ℕ
  pub near : aim ≤ done + block
  pub needed : IsNeededFor (input_words a) aim a.inputs.items taken

-- a write of the heading failed, and nothing was read
abbrev pub FailsUnread : Accepted → ReadStop → (was now : SeenSink) → Type 0
FailsUnread a stop was now = Fails was now (heading a) × (stop ≡ Unread)

-- where a write failed nothing more was read: nothing at all where it was a write of the heading, and else no more than its block needs
abbrev pub FailsInOrder : List HostKind → Accepted → (given : Option ℕ) (block : ℕ) (taken : List ℕ) → ReadStop → (was now : SeenSink) → Type 0
FailsInOrder kinds a given block taken stop was now = FailsUnread a stop was now ⊎ FailsInBlock kinds a given block taken stop was now

-- how `run` ends, by the bytes taken and how reading stopped
pub record EndsRun (kinds : List HostKind) (a : Accepted) (given : Option ℕ) (block : ℕ) (taken : List ℕ) (stop : ReadStop) (before after : SeenSink) (end : Ending) : Type 0 where
  pub asked : IsAsked a.inputs.items taken
  pub output : EndsWith (OwesRun kinds a given taken stop) (LinesAllow kinds a given taken stop) before after end
  pub in_order : end ≡ ending.WriteFault → FailsInOrder kinds a given block taken stop before after

-- how `replay` ends: the output that is owed of the events stands there, or a front of it; or the first event that isn't possible is
-- told, and nothing was written
abbrev pub EndsReplay : List Operator → Accepted → (given : Option ℕ) → (picks taken : List ℕ) → ReadStop → (before after : SeenSink) → Result Ending TraceError → Type 0
EndsReplay ops a given picks taken stop before after (Ok end) =
    EndsOwed (λ output way. OwesReplay ops a given picks taken stop output (Ok way)) before after end
EndsReplay ops a given picks taken stop before after (Err e) = OwesReplay ops a given picks taken stop [] (Err e) × (after ≡ before)

-- how `trace` ends: a trace stands there, or a front of one
abbrev pub EndsTrace : Accepted → (given : Option ℕ) → (taken : List ℕ) → ReadStop → (before after : SeenSink) → Ending → Type 0
EndsTrace a given taken stop before after end = EndsOwed (OwesTrace a given taken stop) before after end
