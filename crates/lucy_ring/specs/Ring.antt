-- How the two ends of a ring are seen, by what they hold.
use Rattle.std.specs.Prelude.{◌≡◌, ℕ, ℤ, ◌-◌, List, ◌++◌, length, take, drop, vec_len}
use Rattle.rtrb.specs.Ring.{sent, known_free, producer_capacity, received, known_items, consumer_capacity, IsPair}
use Rattle.lucy_ring.specs.Views.{RingName, GiverView, TakerView}
use Rattle.lucy_ring.specs.declared.giver_end.GiverEnd.{GiverEnd}
use Rattle.lucy_ring.specs.declared.taker_end.TakerEnd.{TakerEnd}

-- how many items had been pushed at the last meeting
abbrev pub pushed_before : GiverEnd → ℕ
pushed_before g = length (sent g.items) - g.pushed

-- how many items had been popped at the last meeting
abbrev pub popped_before : TakerEnd → ℕ
popped_before t = length (received t.items) - t.popped

-- how many numbers had been sent back at the last meeting
abbrev pub returned_before : TakerEnd → ℕ
returned_before t = length (sent t.numbers) - t.returned

-- how many numbers had been fetched at the last meeting
abbrev pub fetched_before : GiverEnd → ℕ
fetched_before g = length (received g.numbers) - g.fetched

-- what was given since the last meeting
abbrev pub given : GiverEnd → List ℤ
given g = drop (pushed_before g) (sent g.items) ++ g.side.items

-- the slots that the giver knows to be free
abbrev pub known_slots : GiverEnd → ℕ
known_slots g = g.free

-- what the taker held at the last meeting
abbrev pub held : TakerEnd → List ℤ
held t = t.side.items

-- what was taken since the last meeting
abbrev pub taken : TakerEnd → List ℤ
taken t = take t.place t.side.items ++ drop (popped_before t) (received t.items)

-- the items that the taker knows to be there
abbrev pub known : TakerEnd → List ℤ
known t = drop t.place t.side.items ++ known_items t.items

-- the slots for numbers that the taker knows to be free
abbrev pub return_slots : TakerEnd → ℕ
return_slots t = known_free t.numbers

-- the two ends of one ring
pub record AreEnds (g : GiverEnd) (t : TakerEnd) : Type 0 where
  pub items : IsPair g.items t.items
  pub numbers : IsPair t.numbers g.numbers
  pub passed : pushed_before g ≡ popped_before t
  pub returned : returned_before t ≡ fetched_before g
  pub held : g.held ≡ vec_len t.side
  pub capacity : producer_capacity g.items ≡ consumer_capacity t.items
  pub numbers_capacity : consumer_capacity g.numbers ≡ producer_capacity t.numbers

-- the giver's ring and its last meeting
unfoldable pub ring_of_giver : GiverEnd → RingName
ring_of_giver g = record {
  items = (g.items.end.words, g.items.end.slots, g.items.end.names, g.items.end.heap);
  numbers = (g.numbers.end.words, g.numbers.end.slots, g.numbers.end.names, g.numbers.end.heap);
  items_before = pushed_before g;
  numbers_before = fetched_before g;
  held = g.held;
  capacity = producer_capacity g.items;
  numbers_capacity = consumer_capacity g.numbers;
}

-- the taker's ring and its last meeting
unfoldable pub ring_of_taker : TakerEnd → RingName
ring_of_taker t = record {
  items = (t.items.end.words, t.items.end.slots, t.items.end.names, t.items.end.heap);
  numbers = (t.numbers.end.words, t.numbers.end.slots, t.numbers.end.names, t.numbers.end.heap);
  items_before = popped_before t;
  numbers_before = returned_before t;
  held = vec_len t.side;
  capacity = consumer_capacity t.items;
  numbers_capacity = producer_capacity t.numbers;
}

-- the giver as contracts see it
abbrev pub giver_view : GiverEnd → GiverView
giver_view g = record { ring = ring_of_giver g; given = given g; slots = known_slots g }

-- the taker as contracts see it
abbrev pub taker_view : TakerEnd → TakerView
taker_view t = record { ring = ring_of_taker t; held = held t; taken = taken t; known = known t; returned = t.returned; return_slots = return_slots t }
