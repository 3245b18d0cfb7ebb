-- The state of given counts.
use Rattle.std.proofs.Common.{ℕ, ◌≡◌, List, [], ◌++◌, sym, ◌∙◌, subst, arith}
use Rattle.std.proofs.lemmas.List.{nil_from_length}
use Rattle.lucy_stream.specs.Systems.{System, IsWired}
use Rattle.lucy_stream.specs.Runs.{none_done, IsRun, after, Leads, IsWhole, IsWithin, between}
use Rattle.lucy_stream.specs.States.{Machine, IsLocal, State, start, events, IsSame, IsState}
use Rattle.lucy_stream.specs.Counted.{state_at}
use Rattle.lucy_stream.proofs.CountLaws.{given-le, taken-le, given-none, taken-none}
use Rattle.lucy_stream.proofs.RunLaws.{IsWithin-run}
use Rattle.lucy_stream.proofs.EventLaws.{events-done}
use Rattle.lucy_stream.proofs.StateLaws.{IsState-start, IsState-events}
use Rattle.lucy_stream.proofs.ConverseLaws.{converse-counts}
use Rattle.lucy_stream.proofs.ReachLaws.{counts_decide}
use Rattle.lucy_stream.proofs.AlikeLaws.{IsRun-same, after-same}
use Rattle.lucy_stream.proofs.JoinedLaws.{run_joined, after_joined, events_joined}

within_same : (sys : System) (d e : ℕ → ℕ) → ((b : ℕ) → d b ≡ e b) → IsWithin sys d → IsWithin sys e
within_same sys d e h w = record {
  listed = λ a. omega (arith, h a, w.listed a);
  behind = λ r. omega (arith, w.behind r, taken-le sys e d r (omega (arith, h (sys.to r))), given-le sys d e r (omega (arith, h (sys.from r))));
  fits = λ r. omega (arith, w.fits r, given-le sys e d r (omega (arith, h (sys.from r))), taken-le sys d e r (omega (arith, h (sys.to r))));
}

pub within_later : (sys : System) (d e : ℕ → ℕ) (picks : List ℕ) → IsWithin sys d → IsRun sys d picks → ((b : ℕ) → after d picks b ≡ e b) → IsWithin sys e
within_later sys d e picks w run h = within_same sys (after d picks) e h (IsWithin-run sys d picks run w)

way_to : (sys : System) (order : List ℕ) (d : ℕ → ℕ) → IsWired sys → IsWhole sys order → IsWithin sys d → Leads sys none_done (between none_done d order) d
way_to sys order d wired whole w = converse-counts sys none_done d order wired whole w (λ b. omega arith)

pub counted_done : (m : Machine) (order : List ℕ) (d : ℕ → ℕ) (b : ℕ) → IsWired m.sys → IsWhole m.sys order → IsWithin m.sys d → (state_at m order d).done b ≡ d b
counted_done m order d b wired whole w = events-done m start (between none_done d order) b ∙ (way_to m.sys order d wired whole w).ends b

pub counted_state : (m : Machine) (order : List ℕ) (d : ℕ → ℕ) → IsWired m.sys → IsLocal m → IsWhole m.sys order → IsWithin m.sys d → IsState m (state_at m order d)
counted_state m order d wired local whole w = IsState-events m start (between none_done d order) wired local (way_to m.sys order d wired whole w).run (IsState-start m)

pub counted_later : (m : Machine) (order : List ℕ) (d e : ℕ → ℕ) (picks : List ℕ) → IsWired m.sys → IsLocal m → IsWhole m.sys order → IsWithin m.sys d → IsRun m.sys d picks → ((b : ℕ) → after d picks b ≡ e b) →
    IsSame (state_at m order e) (events m (state_at m order d) picks)
counted_later m order d e picks wired local whole w run h =
    let xs : List ℕ = between none_done d order in
    let ys : List ℕ = between none_done e order in
    let low : Leads m.sys none_done xs d = way_to m.sys order d wired whole w in
    let high : Leads m.sys none_done ys e = way_to m.sys order e wired whole (within_later m.sys d e picks w run h) in
    let more : IsRun m.sys (after none_done xs) picks = IsRun-same m.sys d (after none_done xs) picks (λ b. sym (low.ends b)) run in
    let both : IsRun m.sys none_done (xs ++ picks) = run_joined m.sys none_done xs picks low.run more in
    let counts : (b : ℕ) → after none_done ys b ≡ after none_done (xs ++ picks) b =
    λ b. high.ends b ∙ sym (h b) ∙ sym (after-same (after none_done xs) d picks low.ends b) ∙ sym (after_joined none_done xs picks b) in
    subst (λ (t : State). IsSame (state_at m order e) t) (events_joined m start xs picks) (counts_decide m ys (xs ++ picks) wired local high.run both counts)

pub none_within : (sys : System) (d : ℕ → ℕ) → ((b : ℕ) → d b ≡ 0) → IsWithin sys d
none_within sys d z = record {
  listed = λ a. omega (arith, z a);
  behind = λ r. omega (arith, taken-none sys d r (z (sys.to r)));
  fits = λ r. omega (arith, given-none sys d r (z (sys.from r)));
}

pub counted_none : (m : Machine) (order : List ℕ) (d : ℕ → ℕ) → IsWired m.sys → IsLocal m → IsWhole m.sys order → ((b : ℕ) → d b ≡ 0) → IsSame (state_at m order d) start
counted_none m order d wired local whole z =
    let w : IsWithin m.sys d = none_within m.sys d z in
    let s : State = state_at m order d in
    let is : IsState m s = counted_state m order d wired local whole w in
    let zero_there : (b : ℕ) → s.done b ≡ 0 = λ b. counted_done m order d b wired whole w ∙ z b in
    record {
      done = zero_there;
      gave = λ r. nil_from_length (s.gave r) (is.gave_count r ∙ given-none m.sys s.done r (zero_there (m.sys.from r)));
      took = λ r. nil_from_length (s.took r) (is.took_count r ∙ taken-none m.sys s.done r (zero_there (m.sys.to r)));
    }
