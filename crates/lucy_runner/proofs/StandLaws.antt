-- After a round the parts and ends stand in the state of the new counts.
use Rattle.std.proofs.Common.{ℕ, ◌≤◌, ◌≡◌, List, [], ◌++◌, ap, sym, refl, ◌∙◌, subst, arith}
use Rattle.std.specs.Prelude.{ℤ, Some, slice_get}
use Rattle.std.proofs.lemmas.List.{append-nil}
use Rattle.lucy_stream.specs.Runs.{IsWithin}
use Rattle.lucy_stream.specs.States.{events, IsSame}
use Rattle.lucy_stream.proofs.CountedLaws.{within_later}
use Rattle.lucy_net.specs.declared.kind.ActorKind.{ActorKind}
use Rattle.lucy_net.specs.declared.kind.ActorKind.TheVariants as kind
use Rattle.lucy_net.specs.Plans.{giver, taker}
use Rattle.lucy_core.specs.Seen as core
use Rattle.lucy_core.specs.Seen.{Seen, machine_on, done_of}
use Rattle.lucy_core.proofs.OpenLaws.{IsSound, events_lead}
use Rattle.lucy_worker.specs.declared.part.Part.{Part}
use Rattle.lucy_worker.specs.Parts.{state_of, given_on, taken_on, PutsOut}
use Rattle.lucy_runner.specs.Crews.{part_of, done_list, AreJoined}
use Rattle.lucy_runner.specs.Standing.{TookAsMany}
use Rattle.lucy_runner.proofs.CrewLaws.{done_is}
use Rattle.lucy_runner.proofs.OwnLaws.{none_given, none_taken}
use Rattle.lucy_runner.proofs.Rounds.{Round, engine, low, high, given_in, taken_in, Goes}
use Rattle.lucy_runner.proofs.LowLaws.{engine_is}
use Rattle.lucy_runner.proofs.HighLaws.{high_state}
use Rattle.lucy_runner.proofs.ReachLaws.{picks_of, reaches, can_run, met_done, list_after}

-- what is seen after the round
abbrev pub next : Round → Seen
next x = record x.seen { done = done_list x.met x.places }

pub sound : (x : Round) → IsSound x.seen
sound x = record { fixed = x.standing.fixed; machine = engine_is x; within = x.standing.within; count = x.as_many ∙ x.standing.placed }

pub next_is : (x : Round) → next x ≡ core.after_picks x.seen (picks_of x)
next_is x = ap (λ ds. record x.seen { done = ds }) (list_after x)

-- the state of its counts is the one after the round
pub same_state : (x : Round) → IsSame (core.state_of (next x)) (high x)
unfolding machine_on
same_state x =
    let lead : IsSame (core.state_of (next x)) (events (engine x) (low x) (picks_of x)) =
    subst (λ (s : Seen). IsSame (core.state_of s) (events (core.machine_of x.seen) (low x) (picks_of x))) (sym (next_is x)) (events_lead x.seen (picks_of x) (sound x) (can_run x)) in
    let end : IsSame (events (engine x) (low x) (picks_of x)) (high x) = (reaches x).ends in
    record { done = λ a. lead.done a ∙ end.done a; gave = λ r. lead.gave r ∙ end.gave r; took = λ r. lead.took r ∙ end.took r }

pub next_within : (x : Round) → IsWithin (core.machine_of x.seen).sys (done_of (done_list x.met x.places))
unfolding machine_on
next_within x = within_later (engine x).sys (high x).done (done_of (done_list x.met x.places)) [] (high_state x).within tt (λ b. sym (done_is x.met x.places b ∙ met_done x b))

-- the part after the meetings: that after the turn with other ends
abbrev pub last : (x : Round) (a : ℕ) → Goes x a → Part
last x a w = record w.turn.after { givers = w.meet.after.givers; takers = w.meet.after.takers }

pub is_last : (x : Round) (a : ℕ) (w : Goes x a) → w.meet.after ≡ last x a w
is_last x a w = w.meet.rest.rest

-- the ends of every ring after the meetings
abbrev ends_after : (x : Round) → AreJoined x.met x.places x.ends x.seen.net.rings
ends_after x r ring e = (x.meets.each r ring e).after

still_there : (x : Round) (a : ℕ) (w : Goes x a) → slice_get x.seen.net.actors a ≡ Some w.meet.after.actor
still_there x a w = w.there ∙ ap Some (sym (ap (λ (y : Part). y.actor) (is_last x a w) ∙ w.turn.run.actor))

-- nothing was given or taken since
idle_given : (x : Round) (a r : ℕ) (w : Goes x a) → given_on (last x a w) r ≡ []
idle_given x a r w =
    subst (λ (y : Part). given_on y r ≡ []) (is_last x a w)
    (none_given x.seen.net x.met x.places x.ends (ends_after x) a r w.meet.after x.standing.fixed.proper (still_there x a w) w.meet.at (λ q ring e. (x.meets.each q ring e).meets.anew.0))

idle_taken : (x : Round) (a r : ℕ) (w : Goes x a) → taken_on (last x a w) r ≡ []
idle_taken x a r w =
    subst (λ (y : Part). taken_on y r ≡ []) (is_last x a w)
    (none_taken x.seen.net x.met x.places x.ends (ends_after x) a r w.meet.after x.standing.fixed.proper (still_there x a w) w.meet.at (λ q ring e. (x.meets.each q ring e).meets.anew.1))

-- so the lists of an actor's rings are those at which its part stood before the meetings
pub gave_now : (x : Round) (a r : ℕ) (w : Goes x a) → giver x.seen.net r ≡ a → (state_of (core.state_of (next x)) (last x a w)).gave r ≡ (state_of (low x) w.turn.after).gave r
gave_now x a r w own =
    ap (λ (xs : List ℤ). (core.state_of (next x)).gave r ++ xs) (idle_given x a r w) ∙ append-nil ((core.state_of (next x)).gave r) ∙ (same_state x).gave r
    ∙ ap (λ b. (low x).gave r ++ given_in (part_of x.turned x.places b) r) own ∙ ap (λ o. (low x).gave r ++ given_in o r) w.turn.at

pub took_now : (x : Round) (a r : ℕ) (w : Goes x a) → taker x.seen.net r ≡ a → (core.state_of (next x)).took r ≡ (low x).took r ++ taken_on w.turn.after r
took_now x a r w own = (same_state x).took r ∙ ap (λ b. (low x).took r ++ taken_in (part_of x.turned x.places b) r) own ∙ ap (λ o. (low x).took r ++ taken_in o r) w.turn.at

pub took_there : (x : Round) (a r : ℕ) (w : Goes x a) → taker x.seen.net r ≡ a → (state_of (core.state_of (next x)) (last x a w)).took r ≡ (state_of (low x) w.turn.after).took r
took_there x a r w own =
    ap (λ (xs : List ℤ). (core.state_of (next x)).took r ++ xs) (idle_taken x a r w) ∙ append-nil ((core.state_of (next x)).took r) ∙ took_now x a r w own

-- an output's list, where the same was taken and carried away
pub puts_same : (what : ActorKind) (front fore took more items : List ℤ) → ((output : ℕ) → what ≡ kind.Output output → (fore ≡ front) × (more ≡ took)) → PutsOut what front took items → PutsOut what fore more items
puts_same (kind.Output output) front fore took more items same puts = (let s = same output refl in s.1 ∙ puts ∙ ap (λ (xs : List ℤ). xs ++ items) (sym s.0))
puts_same what front fore took more items same puts = tt

pub took_more : (what : ActorKind) (most less more : ℕ) → less ≤ more → TookAsMany what most less → TookAsMany what most more
took_more (kind.Output output) most less more l took = omega arith
took_more what most less more l took = tt
