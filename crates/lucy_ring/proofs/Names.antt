-- The ends of one ring have one name, which an end keeps as long as it keeps its counts at the last meeting.
use Rattle.std.proofs.Common.{◌≡◌, sym, ap}
use Rattle.rtrb.specs.Ring.{SameProducer, SameConsumer}
use Rattle.lucy_ring.specs.declared.giver_end.GiverEnd.{GiverEnd}
use Rattle.lucy_ring.specs.declared.taker_end.TakerEnd.{TakerEnd}
use Rattle.lucy_ring.specs.Ring.{AreEnds, ring_of_giver, ring_of_taker, pushed_before, fetched_before, popped_before, returned_before, held, taken, known, return_slots, taker_view}

pub giver_keeps : (a b : GiverEnd) → SameProducer a.items b.items → SameConsumer a.numbers b.numbers →
    pushed_before b ≡ pushed_before a → fetched_before b ≡ fetched_before a → b.held ≡ a.held → ring_of_giver b ≡ ring_of_giver a
unfolding ring_of_giver
giver_keeps a b items numbers pushed fetched held = cc

pub taker_keeps : (a b : TakerEnd) → SameConsumer a.items b.items → SameProducer a.numbers b.numbers →
    popped_before b ≡ popped_before a → returned_before b ≡ returned_before a → held b ≡ held a → ring_of_taker b ≡ ring_of_taker a
unfolding ring_of_taker
taker_keeps a b items numbers popped returned held = cc

pub one_name : (g : GiverEnd) (t : TakerEnd) → AreEnds g t → ring_of_giver g ≡ ring_of_taker t
unfolding ring_of_giver ring_of_taker
one_name g t ends = cc

pub one_ring : (g : GiverEnd) (t : TakerEnd) → ring_of_giver g ≡ ring_of_taker t → AreEnds g t
unfolding ring_of_giver ring_of_taker
one_ring g t e =
    record {
      items = (sym (ap (λ n. n.items.0) e), sym (ap (λ n. n.items.1) e), sym (ap (λ n. n.items.2) e), sym (ap (λ n. n.items.3) e));
      numbers = (ap (λ n. n.numbers.0) e, ap (λ n. n.numbers.1) e, ap (λ n. n.numbers.2) e, ap (λ n. n.numbers.3) e);
      passed = ap (λ n. n.items_before) e;
      returned = sym (ap (λ n. n.numbers_before) e);
      held = ap (λ n. n.held) e;
      capacity = ap (λ n. n.capacity) e;
      numbers_capacity = ap (λ n. n.numbers_capacity) e;
    }

pub same_view : (a b : TakerEnd) → ring_of_taker b ≡ ring_of_taker a → held b ≡ held a → taken b ≡ taken a → known b ≡ known a → b.returned ≡ a.returned → return_slots b ≡ return_slots a → taker_view b ≡ taker_view a
same_view a b ring held taken known returned slots = cc
