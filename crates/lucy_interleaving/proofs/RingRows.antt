-- What no state of an accepted program's net and no runner of it may be: from each the statement gives ⊥.
use Rattle.std.proofs.Common.{ℕ, ◌<◌, ◌≡◌, List, [], ◌∷◌, ◌++◌, length, ap, sym, ◌∙◌, subst, arith}
use Rattle.std.specs.Prelude.{ℤ, Some, slice_get, ◌≢◌}
use Rattle.lucy_host.specs.declared.kind.HostKind.{HostKind}
use Rattle.lucy_host.specs.Operators.{Operator, kinds_of}
use Rattle.lucy_stream.specs.Fronts.{IsFront}
use Rattle.lucy_stream.specs.Runs.{IsPossible, IsFinished}
use Rattle.lucy_stream.specs.States.{State, held}
use Rattle.lucy_net.specs.Plans.{giver, taker, net_system}
use Rattle.lucy_core.specs.Seen.{state_of}
use Rattle.lucy_runner.specs.Views.{RingView, RunnerView}
use Rattle.lucy_kahn.specs.Spots.{Spot, IsSpot}
use Rattle.lucy_kahn.specs.Numbers.{number}
use Rattle.lucy_program.specs.declared.accepted.Accepted.{Accepted}
use Rattle.lucy_program.specs.declared.options.Options.{Options}
use Rattle.lucy_interleaving.specs.Interleavings.{IsBuffer, reported_size, stream_for, IsSafe, IsFedText}
use Rattle.lucy_interleaving.specs.Runners.{IsSafeRunner, IsMadeFor, IsSafeIfMade}

-- no buffer takes from the ring
abbrev IsPlain : Accepted → ℕ → Type 0
IsPlain a r = (spot : Spot) (buffer : ℕ) → IsBuffer a spot buffer → taker a.net r ≡ number a.placed.nodes spot → ⊥

-- a buffer of this size takes from the ring
record IsOfSize (a : Accepted) (r size : ℕ) : Type 0 where
  spot : Spot
  buffer : ℕ
  is : IsBuffer a spot buffer
  here : r < length a.net.rings
  takes : taker a.net r ≡ number a.placed.nodes spot
  printed : reported_size a spot buffer ≡ size

module _ (kinds : List HostKind) (a : Accepted) (inputs : List (List ℤ)) (horizon : ℕ) where
  -- a ring of size 0 holds two items
  two_held : (s : State) (r : ℕ) → IsOfSize a r 0 → length (held s r) ≡ 2 → IsSafe kinds a inputs horizon s → ⊥
  two_held s r b two safe = omega (arith, safe.buffers b.spot b.buffer r b.is b.here b.takes, b.printed, two)

  -- so does one from which no buffer takes
  two_held_plain : (s : State) (r : ℕ) → IsPlain a r → length (held s r) ≡ 2 → IsSafe kinds a inputs horizon s → ⊥
  two_held_plain s r plain two safe = omega (arith, safe.others r plain, two)

  -- one gave another value first than the first of the Kahn stream
  other_value : (s : State) (spot : Spot) (r : ℕ) (v w : ℤ) (more : List ℤ) → IsSpot a.placed.nodes spot → giver a.net r ≡ number a.placed.nodes spot →
      s.gave r ≡ v ∷ [] → stream_for kinds a inputs horizon spot ≡ w ∷ more → v ≢ w → IsSafe kinds a inputs horizon s → ⊥
  other_value s spot r v w more is gives gave stream apart safe =
      let front : IsFront (v ∷ []) (w ∷ more) = subst (λ xs. IsFront xs (w ∷ more)) gave (subst (IsFront (s.gave r)) stream (safe.places spot r is gives)) in apart front.0

  -- it is stuck
  stuck : (s : State) → (IsFinished (net_system a.net horizon) s.done → ⊥) → ((actor : ℕ) → IsPossible (net_system a.net horizon) s.done actor → ⊥) →
      IsSafe kinds a inputs horizon s → ⊥
  stuck s left none safe = let next = safe.goes_on left in none next.0 next.1

  -- a runner's ring of size 0 holds two items, by its two ends
  two_in_ring : (runner : RunnerView) (r : ℕ) (ring : RingView) → IsOfSize a r 0 → slice_get runner.rings r ≡ Some ring → length ring.items ≡ 2 →
      IsSafeRunner kinds a inputs horizon runner → ⊥
  two_in_ring runner r ring b there two safe = omega (arith, safe.rings.within r ring there, safe.rings.buffers b.spot b.buffer r ring b.is b.takes there, b.printed, two)

  -- one has lost an item that was given to it and not taken
  item_lost : (runner : RunnerView) (r : ℕ) (ring : RingView) (v : ℤ) → slice_get runner.rings r ≡ Some ring → (state_of runner.seen).gave r ≡ v ∷ [] →
      (state_of runner.seen).took r ≡ [] → ring.items ≡ [] → IsSafeRunner kinds a inputs horizon runner → ⊥
  item_lost runner r ring v there gave took items safe =
      let kept : v ∷ [] ≡ [] ++ [] = sym gave ∙ safe.rings.holds r ring there ∙ ap (λ t. t ++ ring.items) took ∙ ap (λ i. [] ++ i) items in
      let bad : v ∷ [] ≡ [] = kept in cc bad

-- so the law refuses a runner that was made for an accepted text, and has a ring of size 0 with two items
made_with_two : (runner : RunnerView) → IsSafeIfMade runner → (ops : List Operator) (o : Options) (text : List ℕ) (a : Accepted) (inputs : List (List ℤ)) (horizon : ℕ) → IsFedText ops o text a inputs horizon →
    IsMadeFor ops a inputs horizon runner → (r : ℕ) (ring : RingView) → IsOfSize a r 0 → slice_get runner.rings r ≡ Some ring → length ring.items ≡ 2 → ⊥
made_with_two runner law ops o text a inputs horizon fed made r ring b there two = two_in_ring (kinds_of ops) a inputs horizon runner r ring b there two (law ops o text a inputs horizon fed made)
