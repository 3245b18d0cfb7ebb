-- A net that is proper: an input that is put out.
use Rattle.std.proofs.Common.{ℕ, zero, suc, ◌<◌, ◌≡◌, true, [], ◌∷◌, refl, subst, arith}
use Rattle.std.specs.Prelude.{Some, slice_get}
use Rattle.lucy_word.specs.Bits.{Bits}
use Rattle.lucy_stream.specs.Plans.{times}
use Rattle.lucy_net.specs.declared.kind.ActorKind.TheVariants.{Input, Output}
use Rattle.lucy_net.specs.declared.net.Actor.{Actor}
use Rattle.lucy_net.specs.declared.net.RingSpec.{RingSpec}
use Rattle.lucy_net.specs.declared.net.Net.{Net}
use Rattle.lucy_net.specs.Proper.{IsProperActor, IsProperRing, IsProper}

abbrev always : Bits
always = record { prefix = []; period = true ∷ [] }

abbrev giver : Actor
giver = record { kind = Input 0; firing = always; takes = []; gives = 0 ∷ [] }

abbrev taker : Actor
taker = record { kind = Output 0; firing = always; takes = 0 ∷ []; gives = [] }

abbrev ring : RingSpec
ring = record { from = 0; to = 1; write = always; read = always; size = 0 }

abbrev echo : Net
echo = record { actors = giver ∷ taker ∷ []; rings = ring ∷ [] }

giver_proper : IsProperActor echo 0 giver
giver_proper = record { gives = refl; takes = refl; arity = refl; gives_none = tt }

taker_proper : IsProperActor echo 1 taker
taker_proper = record { gives = refl; takes = refl; arity = refl; gives_none = refl }

ring_proper : IsProperRing echo 0 ring
ring_proper = record {
  giver = giver;
  taker = taker;
  gives_here = refl;
  takes_here = refl;
  write = λ i l. refl;
  read = λ j l e i s. refl;
  adaptable = (refl, λ i. omega arith);
  size = record { reached = (0, omega arith); passed = λ i. omega arith };
}

actors_proper : (a : ℕ) (actor : Actor) → slice_get echo.actors a ≡ Some actor → IsProperActor echo a actor
actors_proper zero actor e = (let same : giver ≡ actor = cc in subst (IsProperActor echo 0) same giver_proper)
actors_proper (suc zero) actor e = (let same : taker ≡ actor = cc in subst (IsProperActor echo 1) same taker_proper)
actors_proper (suc (suc a)) actor e = absurd (cc)

rings_proper : (r : ℕ) (spec : RingSpec) → slice_get echo.rings r ≡ Some spec → IsProperRing echo r spec
rings_proper zero spec e = (let same : ring ≡ spec = cc in subst (IsProperRing echo 0) same ring_proper)
rings_proper (suc r) spec e = absurd (cc)

numbered : (n : ℕ) → n < 1 → times n (0 ∷ []) ≡ 1
numbered zero l = refl
numbered (suc n) l = absurd (omega arith)

echo_proper : IsProper echo
echo_proper = record {
  few_actors = omega arith;
  few_rings = omega arith;
  few_slots = omega arith;
  inputs = numbered;
  outputs = numbered;
  actors = actors_proper;
  rings = rings_proper;
}
