-- How runs go on from a core.
use Rattle.std.proofs.Common.{ℕ, ◌<◌, ◌≡◌, ◌⊎◌, List, [], ◌∷◌, ◌++◌, length, ap, sym, refl, ◌∙◌, inl, inr, arith}
use Rattle.std.specs.Prelude.{All}
use Rattle.std.proofs.lemmas.Grind.{same_number_lists}
use Rattle.std.proofs.lemmas.List.Elements.{All-nil, All-cons}
use Rattle.lucy_stream.specs.Systems.{System}
use Rattle.lucy_stream.specs.Runs.{IsPossible, IsRun, step, after, none_done, IsWithin, Leads, between}
use Rattle.lucy_stream.proofs.AlikeLaws.{IsRun-same}
use Rattle.lucy_stream.proofs.CountLaws.{step-same}
use Rattle.lucy_stream.proofs.CountedLaws.{within_later, none_within}
use Rattle.lucy_stream.proofs.ConverseLaws.{converse-counts}
use Rattle.lucy_stream.proofs.JoinedLaws.{run_joined}
use Rattle.lucy_stream.proofs.TotalLaws.{after-times}
use Rattle.lucy_core.specs.Seen.{Seen, machine_of, order_of, done_of, more_done, after_picks, CanRun, IsOver, HasDoneAtMost, CanGoOn}
use Rattle.lucy_core.proofs.PickLaws.{more_after, more_length, possible_in}
use Rattle.lucy_core.proofs.OpenLaws.{IsSound}

-- lists of as many counts that are the same
same_counts : (xs ys : List ℕ) → length xs ≡ length ys → ((a : ℕ) → done_of xs a ≡ done_of ys a) → xs ≡ ys
unfolding done_of
same_counts xs ys e h = same_number_lists xs ys e (λ k l. h k)

-- by its first event a run does one operation more of its actor
first_counts : (d : ℕ → ℕ) (a : ℕ) (picks : List ℕ) → d a < after d (a ∷ picks) a
first_counts d a picks = omega (arith, after-times (step d a) picks a, step-same d a)

-- where the counts lead on by some events, the first is possible, and its actor has done fewer; where by none, they are the same
leads_on : (sys : System) (low high : ℕ → ℕ) (picks : List ℕ) → Leads sys low picks high →
    ((a : ℕ) → low a ≡ high a) ⊎ ((a : ℕ) × IsPossible sys low a × (low a < high a))
leads_on sys low high [] leads = inl leads.ends
leads_on sys low high (a ∷ picks) leads = inr (a, leads.run.0, omega (arith, first_counts low a picks, leads.ends a))

module _ (seen : Seen) (all : IsSound seen) where
  pub counted_on : (picks : List ℕ) → length (after_picks seen picks).done ≡ length seen.net.actors
  counted_on picks =
      more_length seen.net (machine_of seen) (order_of seen) seen.inputs _ seen.instants all.machine seen.done picks ∙ all.count

  pub counts_on : (picks : List ℕ) → CanRun seen picks → (b : ℕ) → done_of (after_picks seen picks).done b ≡ after (done_of seen.done) picks b
  counts_on picks run b =
      more_after seen.net (machine_of seen) (order_of seen) seen.inputs _ seen.instants all.machine seen.done picks all.count run b

  actors_in : (d : ℕ → ℕ) (picks : List ℕ) → IsRun (machine_of seen).sys d picks → All (λ a. a < length seen.net.actors) picks
  actors_in d [] run = All-nil (λ a. a < length seen.net.actors)
  actors_in d (a ∷ picks) run =
      All-cons (λ a. a < length seen.net.actors) a picks
      (possible_in seen.net (machine_of seen) (order_of seen) seen.inputs _ seen.instants all.machine d a run.0) (actors_in (step d a) picks run.1)

  -- only actors have events
  pub actors_on : (picks : List ℕ) → CanRun seen picks → All (λ a. a < length seen.net.actors) picks
  actors_on picks run = actors_in (done_of seen.done) picks run

  pub joined_on : (picks more : List ℕ) → CanRun seen picks → CanRun (after_picks seen picks) more → CanRun seen (picks ++ more)
  joined_on picks more run on =
      run_joined (machine_of seen).sys (done_of seen.done) picks more run
      (IsRun-same (machine_of seen).sys (done_of (more_done seen.done picks)) (after (done_of seen.done) picks) more (counts_on picks run) on)

  -- the counts after a run are within their bounds
  within_on : (picks : List ℕ) → CanRun seen picks → IsWithin (machine_of seen).sys (done_of (after_picks seen picks).done)
  within_on picks run =
      within_later (machine_of seen).sys (done_of seen.done) (done_of (more_done seen.done picks)) picks all.within run (λ b. sym (counts_on picks run b))

  pub towards : (picks other : List ℕ) → CanRun seen picks → CanRun seen other → HasDoneAtMost (after_picks seen picks) (after_picks seen other).done →
      (after_picks seen picks ≡ after_picks seen other) ⊎ CanGoOn (after_picks seen picks) (after_picks seen other).done
  towards picks other run there most =
      let low : ℕ → ℕ = done_of (more_done seen.done picks) in
      let high : ℕ → ℕ = done_of (more_done seen.done other) in
      elim (leads_on (machine_of seen).sys low high (between low high (order_of seen))
      (converse-counts (machine_of seen).sys low high (order_of seen) all.machine.wired all.machine.whole (within_on other there) most)) [
        | inl same ↦ inl (ap (λ ds. record seen { done = ds }) (same_counts (more_done seen.done picks) (more_done seen.done other) (counted_on picks ∙ sym (counted_on other)) same))
        | inr on ↦ inr (record { actor = on.0; can = on.1; fewer = on.2 })
      ]

  pub end_on : (picks : List ℕ) × CanRun seen picks × IsOver (after_picks seen picks)
  end_on =
      let sys : System = (machine_of seen).sys in
      let order : List ℕ = order_of seen in
      let low : ℕ → ℕ = done_of seen.done in
      let high : ℕ → ℕ = after none_done order in
      let within : IsWithin sys high = within_later sys none_done high order (none_within sys none_done (λ b. refl)) all.machine.whole.run (λ b. refl) in
      let leads : Leads sys low (between low high order) high =
      converse-counts sys low high order all.machine.wired all.machine.whole within (λ a. omega (arith, all.within.listed a, all.machine.whole.all a)) in (
        between low high order,
        leads.run,
        λ a. counts_on (between low high order) leads.run a ∙ leads.ends a ∙ all.machine.whole.all a,
      )
