-- What an engine plays, what it is asked for and what it answers, and how a run ends that has one play.
use Rattle.std.specs.Prelude.{ℕ, ℤ, ◌≤◌, ◌≡◌, ◌⊎◌, List, [], ◌∷◌, ◌++◌, length, Option, Result, IfOk}
use Rattle.std.specs.Option.{option_map}
use Rattle.lucy_word.specs.Limits.{limit_number}
use Rattle.std.specs.declared.alloc.AllocError.{AllocError}
use Rattle.lucy_word.specs.declared.limit.Limit.TheVariants as limit
use Rattle.lucy_host.specs.declared.kind.HostKind.{HostKind}
use Rattle.lucy_host.specs.Operators.{Operator, kinds_of}
use Rattle.lucy_text.specs.Outside.{SeenSink, Writes, Fails}
use Rattle.lucy_text.specs.Sources.{ReadStop}
use Rattle.lucy_lines.specs.declared.reader.TextFault.{TextFault}
use Rattle.lucy_kahn.specs.Spots.{main_of}
use Rattle.lucy_kahn.specs.Horizons.{Suffice}
use Rattle.lucy_kahn.specs.Turns.{params_in}
use Rattle.lucy_runner.specs.Views.{most_workers}
use Rattle.lucy_results.specs.Streams.{param_words, main_streams}
use Rattle.lucy_program.specs.declared.accepted.Accepted.{Accepted}
use Rattle.lucy_run.specs.declared.ending.Ending.{Ending}
use Rattle.lucy_run.specs.declared.ending.Ending.TheVariants as ending
use Rattle.lucy_run.specs.Owes.{heading, IsMainFed, OwesRun, LinesAllow}
use Rattle.lucy_run.specs.Ends.{EndsWith, FailsUnread}
use Rattle.lucy_run.specs.Calls.{WasAccepted}

-- a program that is accepted for these operators can be played on these inputs up to a horizon, by so many workers
pub record CanBePlayed (operators : List Operator) (a : Accepted) (inputs : List (List ℤ)) (instants workers : ℕ) : Type 0 where
  pub accepted : WasAccepted operators a
  pub lists : params_in (main_of a.placed.nodes) ≡ length inputs
  pub suffice : Suffice (param_words a.placed.nodes a.clocks.items) inputs instants
  pub early : instants ≤ limit_number limit.Instants
  pub some_worker : 1 ≤ workers
  pub few_workers : workers ≤ most_workers

-- the streams of its results up to the horizon are answered, if any are
abbrev pub IsPlayedTo : (operators : List Operator) (a : Accepted) (inputs : List (List ℤ)) (instants : ℕ) →
    Result (List (List ℤ)) AllocError → Type 0
IsPlayedTo operators a inputs instants answer = IfOk answer (λ lists. lists ≡ main_streams (kinds_of operators) inputs a.placed.nodes
    a.clocks.items instants)

-- what an engine is asked for once: to play up to an instant, by so many workers
pub record PlayRequest : Type 0 where
  pub instants : ℕ
  pub workers : ℕ

-- what it was asked for so far and then this, where it tells that
abbrev pub asked_more : PlayRequest → Option (List PlayRequest) → Option (List PlayRequest)
asked_more one before = option_map (λ all. all ++ one ∷ []) before

-- it was asked once, for something of which this holds
abbrev pub AsksOnce : (Asks : PlayRequest → Type 0) → (before after : Option (List PlayRequest)) → Type 0
AsksOnce Asks before after = (one : PlayRequest) × Asks one × (after ≡ asked_more one before)

-- so it was asked; or for nothing, which may be where that holds
abbrev pub AsksUnless : (MayNot : Type 0) (Asks : PlayRequest → Type 0) → (before after : Option (List PlayRequest)) → Type 0
AsksUnless MayNot Asks before after = AsksOnce Asks before after ⊎ (MayNot × (after ≡ before))

-- it is asked to play what main is fed up to its horizon, by so many workers
pub record AsksToRun (a : Accepted) (given : Option ℕ) (workers : ℕ) (taken : List ℕ) (stop : ReadStop) (one : PlayRequest) : Type 0 where
  pub lists : List (List ℤ)
  pub fault : Option TextFault
  pub fed : IsMainFed a given taken stop lists fault one.instants
  pub workers_are : one.workers ≡ workers

-- the heading was written, and then a write behind it failed
abbrev pub FailsBehindHeading : Accepted → (was now : SeenSink) → Type 0
FailsBehindHeading a was now = (between : SeenSink) × (rest : List ℕ) × Writes was between (heading a) × Fails between now rest

-- Where a write failed nothing more was done. Where it was a write of the heading, nothing was read and the engine was asked for nothing;
-- else the heading was written, and the engine was asked once, to play what main is fed.
abbrev pub FailsInPiece : Accepted → (given : Option ℕ) (workers : ℕ) (taken : List ℕ) → ReadStop → (asked asked' : Option (List PlayRequest)) →
    (was now : SeenSink) → Type 0
FailsInPiece a given workers taken stop asked asked' was now =
    (FailsUnread a stop was now × (asked' ≡ asked)) ⊎ (FailsBehindHeading a was now × AsksOnce (AsksToRun a given workers taken stop) asked asked')

-- a write failed, or memory ran out
abbrev pub HasBroken : Ending → Type 0
HasBroken end = (end ≡ ending.WriteFault) ⊎ (end ≡ ending.OutOfMemory)

-- how `run_by` ends, by the bytes taken, how reading stopped, and what its engine was asked for before and after
pub record EndsRunBy (kinds : List HostKind) (a : Accepted) (given : Option ℕ) (workers : ℕ) (taken : List ℕ) (stop : ReadStop)
    (asked asked' : Option (List PlayRequest)) (before after : SeenSink) (end : Ending) : Type 0 where
  pub output : EndsWith (OwesRun kinds a given taken stop) (LinesAllow kinds a given taken stop) before after end
  pub in_order : end ≡ ending.WriteFault → FailsInPiece a given workers taken stop asked asked' before after
  pub asks : AsksUnless (HasBroken end) (AsksToRun a given workers taken stop) asked asked'
