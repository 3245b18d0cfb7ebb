-- What an output took by the end of a block is the front of what it takes later.
use Rattle.std.proofs.Common.{ℕ, ◌≡◌, Bool, true, false, cond, List, [], ◌∷◌, ◌++◌, length, take, drop, ap, sym, refl, ◌∙◌, subst}
use Rattle.std.specs.Prelude.{ℤ, nat_eq}
use Rattle.std.proofs.lemmas.Option.{slice_get_within}
use Rattle.lucy_word.specs.Bits.{ones_to}
use Rattle.lucy_stream.specs.Fronts.{IsFront}
use Rattle.lucy_stream.proofs.FrontLaws.{IsFront-refl, IsFront-trans, IsFront-append}
use Rattle.lucy_stream.specs.Systems.{RingOp, Takes, Gives, op_at}
use Rattle.lucy_stream.specs.States.{Machine, State, held, took_after, event, events}
use Rattle.lucy_net.specs.declared.net.Actor.{Actor}
use Rattle.lucy_core.specs.Seen as core
use Rattle.lucy_core.specs.Seen.{CanRun, IsOutputOf, first_ring, after_picks}
use Rattle.lucy_core.proofs.OpenLaws.{IsSound, events_lead}
use Rattle.lucy_runner.proofs.Blocks.{Block, then, Gets, gets}
use Rattle.lucy_runner.proofs.BlockStates.{last, same_state}
use Rattle.lucy_runner.proofs.BlockParts.{took_all}

-- what is taken from a ring is added at the end
took_or_not : (c : Bool) (took more : List ℤ) → IsFront took (cond c (took ++ more) took)
took_or_not true took more = IsFront-append took more
took_or_not false took more = IsFront-refl took

took_grows : (op : RingOp) (r : ℕ) (there took : List ℤ) → IsFront took (took_after op r there took)
took_grows (Takes q) r there took = took_or_not (nat_eq q r) took (take 1 there)
took_grows (Gives q) r there took = IsFront-refl took

events_take : (m : Machine) (s : State) (picks : List ℕ) (r : ℕ) → IsFront (s.took r) ((events m s picks).took r)
events_take m s [] r = IsFront-refl (s.took r)
events_take m s (a ∷ picks) r =
    IsFront-trans (s.took r) ((event m s a).took r) ((events m (event m s a) picks).took r) (took_grows (op_at m.sys a (s.done a)) r (held s r) (s.took r)) (events_take m (event m s a) picks r)

-- a front, and what comes after it
front_joined : (xs ys : List ℤ) → IsFront xs ys → ys ≡ xs ++ drop (length xs) ys
front_joined [] ys f = refl
front_joined (x ∷ xs) [] f = absurd f
front_joined (x ∷ xs) (y ∷ ys) f = (let head : x ≡ y = f.0 in let rest : ys ≡ xs ++ drop (length xs) ys = front_joined xs ys f.1 in cc)

-- what an output took when the block began is the front of all that it takes in it
pub block_joins : (b : Block) (number a : ℕ) (actor : Actor) (picks : List ℕ) → IsSound (then b) → IsOutputOf b.seen.net number a actor → CanRun (then b) picks →
    (core.state_of (after_picks (then b) picks)).took (first_ring actor)
    ≡ (core.state_of b.seen).took (first_ring actor) ++ drop (ones_to actor.firing b.seen.instants) ((core.state_of (after_picks (then b) picks)).took (first_ring actor))
block_joins b number a actor picks sound out run =
    let r : ℕ = first_ring actor in
    let old : List ℤ = (core.state_of b.seen).took r in
    let new : List ℤ = (core.state_of (after_picks (then b) picks)).took r in
    let w : Gets b a = gets b a (slice_get_within b.seen.net.actors a actor out.there) in
    let own : w.part.actor ≡ actor = (let here = w.there in let there = out.there in cc) in
    let many : length ((last b).took (first_ring w.part.actor)) ≡ ones_to w.part.actor.firing b.seen.instants = took_all b a number w (ap (λ (y : Actor). y.kind) own ∙ out.kind) in
    let count : length ((last b).took r) ≡ ones_to actor.firing b.seen.instants = subst (λ (y : Actor). length ((last b).took (first_ring y)) ≡ ones_to y.firing b.seen.instants) own many in
    let same : old ≡ (last b).took r = (same_state b).took r in
    let leads : new ≡ (events (core.machine_of (then b)) (last b) picks).took r = (events_lead (then b) picks sound run).took r in
    let front : IsFront ((last b).took r) new = subst (λ (xs : List ℤ). IsFront ((last b).took r) xs) (sym leads) (events_take (core.machine_of (then b)) (last b) picks r) in
    let joined : new ≡ (last b).took r ++ drop (length ((last b).took r)) new = front_joined ((last b).took r) new front in
    joined ∙ ap (λ (n : ℕ). (last b).took r ++ drop n new) count ∙ ap (λ (xs : List ℤ). xs ++ drop (ones_to actor.firing b.seen.instants) new) (sym same)
