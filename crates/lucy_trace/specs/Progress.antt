-- A trace between two rounds.
use Rattle.std.specs.Prelude.{ℕ, ◌<◌, ◌≡◌, List, All, length}
use Rattle.std.specs.List.{concat}
use Rattle.lucy_text.specs.Outside.{SeenSink, Writes}
use Rattle.lucy_core.specs.Seen.{Seen, CanRun, IsOver, after_picks}
use Rattle.lucy_trace.specs.Traces.{round_line, trace_text}

-- events of a round led from the one core to the other, and their line was written
pub record IsRoundPrinted (from to : Seen) (was is : SeenSink) : Type 0 where
  pub picks : List ℕ
  pub some : 0 < length picks
  pub run : CanRun from picks
  pub here : to ≡ after_picks from picks
  pub written : Writes was is (round_line picks)

-- those of the rounds so far, and their lines
pub record AreRoundsPrinted (first now : Seen) (was is : SeenSink) : Type 0 where
  pub rounds : List (List ℕ)
  pub some : All (λ picks. 0 < length picks) rounds
  pub run : CanRun first (concat rounds)
  pub here : now ≡ after_picks first (concat rounds)
  pub written : Writes was is (trace_text rounds)

-- in turn the events of these rounds lead to the end
pub record LeadsToEnd (seen : Seen) (rounds : List (List ℕ)) : Type 0 where
  pub some : All (λ picks. 0 < length picks) rounds
  pub run : CanRun seen (concat rounds)
  pub over : IsOver (after_picks seen (concat rounds))

-- the lines of such rounds
abbrev pub IsRest : Seen → (text : List ℕ) → Type 0
IsRest seen text = (rounds : List (List ℕ)) × LeadsToEnd seen rounds × (text ≡ trace_text rounds)
