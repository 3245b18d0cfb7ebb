-- What a trace of a net is, and how it is printed.
use Rattle.std.specs.Prelude.{ℕ, ◌<◌, ◌≡◌, ◌^◌, List, [], ◌∷◌, ◌++◌, All, map, length}
use Rattle.std.specs.Fmt.{decimal}
use Rattle.std.specs.List.{concat, join_with_byte}
use Rattle.lucy_stream.specs.Runs.{IsWhole}
use Rattle.lucy_fields.specs.Readings.{AreRead}
use Rattle.lucy_net.specs.declared.net.Net.{Net}
use Rattle.lucy_net.specs.Plans.{net_system}
use Rattle.lucy_trace.specs.Logs.{picks_of}

-- a trace of a net up to a horizon: rounds whose events, in turn, are a run of all operations; none is without an event
pub record IsTrace (net : Net) (instants : ℕ) (rounds : List (List ℕ)) : Type 0 where
  pub whole : IsWhole (net_system net instants) (concat rounds)
  pub some : All (λ picks. 0 < length picks) rounds

-- the line of a round: the actors of its events in decimal, parted by single spaces
abbrev pub round_line : (picks : List ℕ) → List ℕ
round_line picks = join_with_byte 32 (map decimal picks) ++ 10 ∷ []

-- the lines of rounds
abbrev pub trace_text : (rounds : List (List ℕ)) → List ℕ
trace_text rounds = concat (map round_line rounds)

-- the text of a trace
abbrev pub IsTraceText : Net → (instants : ℕ) → (text : List ℕ) → Type 0
IsTraceText net instants text = (rounds : List (List ℕ)) × IsTrace net instants rounds × (text ≡ trace_text rounds)

-- the lines of rounds are a log of their events, in order
abbrev pub TracesAreLogs : Type 0
TracesAreLogs = (rounds : List (List ℕ)) → All (λ a. a < 2 ^ 32) (concat rounds) → AreRead (picks_of (trace_text rounds)) (concat rounds)
