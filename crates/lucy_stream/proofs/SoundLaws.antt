-- Orders of the horizons, one after another, are a whole run for every horizon.
use Rattle.std.proofs.Common.{ℕ, suc, zero, ◌<◌, ◌≡◌, List, ◌++◌, length, sym, ◌∙◌, arith}
use Rattle.lucy_stream.specs.Systems.{System}
use Rattle.lucy_stream.specs.Runs.{none_done, after, Leads, IsWhole}
use Rattle.lucy_stream.specs.Horizons.{IsLonger}
use Rattle.lucy_stream.specs.Schedules.{all_done, events_to}
use Rattle.lucy_stream.proofs.AlikeLaws.{IsRun-same, after-same}
use Rattle.lucy_stream.proofs.HorizonLaws.{IsWhole-longer}

pub whole_more : (sys longer : System) (before order : List ℕ) → IsLonger sys longer → IsWhole sys before → Leads longer (all_done sys) order (all_done longer) → IsWhole longer (before ++ order)
whole_more sys longer before order h whole leads =
    let same : (a : ℕ) → all_done sys a ≡ after none_done before a = λ a. sym (whole.all a) in
    IsWhole-longer sys longer before order h whole (IsRun-same longer (all_done sys) (after none_done before) order same leads.run)
    (λ a. sym (after-same (all_done sys) (after none_done before) order same a) ∙ leads.ends a)

-- up to a horizon, by the orders up to it
pub whole_to : (systems : ℕ → System) (events : ℕ → List ℕ) (n : ℕ) → ((a : ℕ) → length ((systems 0).ops a) ≡ 0) → ((k : ℕ) → k < n → IsLonger (systems k) (systems (suc k))) →
    ((k : ℕ) → k < n → Leads (systems (suc k)) (all_done (systems k)) (events (suc k)) (all_done (systems (suc k)))) → IsWhole (systems n) (events_to events n)
whole_to systems events zero none longer leads = record { run = tt; all = λ a. sym (none a) }
whole_to systems events (suc n) none longer leads =
    whole_more (systems n) (systems (suc n)) (events_to events n) (events (suc n)) (longer n (omega arith))
    (whole_to systems events n none (λ k l. longer k (omega arith)) (λ k l. leads k (omega arith))) (leads n (omega arith))
