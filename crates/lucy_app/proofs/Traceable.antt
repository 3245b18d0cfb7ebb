-- An accepted program has a trace up to each horizon.
use Rattle.std.proofs.Common.{ℕ, ◌≡◌, ◌<◌, List, [], ◌∷◌, length, refl, sym, subst, arith}
use Rattle.std.specs.Prelude.{All}
use Rattle.std.specs.List.{concat}
use Rattle.std.proofs.lemmas.List.{append-nil}
use Rattle.std.proofs.lemmas.List.Elements.{All-nil, All-cons}
use Rattle.lucy_stream.specs.Runs.{IsWhole}
use Rattle.lucy_stream.specs.Schedules.{events_to}
use Rattle.lucy_net.specs.declared.net.Net.{Net}
use Rattle.lucy_net.specs.Plans.{net_system}
use Rattle.lucy_net.specs.Schedules.{events_at}
use Rattle.lucy_trace.specs.Traces.{trace_text, IsTraceText}
use Rattle.lucy_app.specs.Complete.{TracesSuit}

-- all events in one round, where there are any
abbrev in_one_round : List ℕ → List (List ℕ)
in_one_round [] = []
in_one_round (pick ∷ picks) = (pick ∷ picks) ∷ []

all_of : (picks : List ℕ) → concat (in_one_round picks) ≡ picks
all_of [] = refl
all_of (pick ∷ picks) = append-nil (pick ∷ picks)

some_of : (picks : List ℕ) → All (λ round. 0 < length round) (in_one_round picks)
some_of [] = All-nil (λ (round : List ℕ). 0 < length round)
some_of (pick ∷ picks) = All-cons (λ (round : List ℕ). 0 < length round) (pick ∷ picks) [] (omega arith)
    (All-nil (λ (round : List ℕ). 0 < length round))

-- a run of all events is a trace
has_trace : (net : Net) (horizon : ℕ) (picks : List ℕ) → IsWhole (net_system net horizon) picks →
    (output : List ℕ) × IsTraceText net horizon output
has_trace net horizon picks whole =
    let rounds = in_one_round picks in
    let all : IsWhole (net_system net horizon) (concat rounds) = subst (IsWhole (net_system net horizon)) (sym (all_of picks)) whole in
    (trace_text rounds, (rounds, record { whole = all; some = some_of picks }, refl))

pub run_suits : TracesSuit
run_suits words workers block before (printing, (a, lists, horizon, (text, held, can), fed, is)) =
    let (output, traced) = has_trace a.net horizon (events_to (events_at a.schedule) horizon) (can.0.schedule.sound horizon) in
    (output, (a, lists, horizon, (text, held, can), fed, traced))
