-- What a contract sees of the two ends of a ring. Lists have the oldest item first. Before the first meeting the making of
-- the ring stands for the last one.
use Rattle.std.specs.Prelude.{ℕ, ◌^◌, ℤ, List}
use denote.RawPtr.{Ptr}
use Rattle.std.specs.declared.alloc.Global.{Global}
use Rattle.rtrb.specs.Shared.{Names}

-- a ring of `rtrb`, by its blocks of memory, its ghost names and its allocator
abbrev pub Buffer : Type 0
Buffer = Ptr × Ptr × Names × Global

-- what the two ends of one ring have in common from one meeting to the next: the buffers of the items and of the numbers
-- sent back, how many of each had gone through them by the last meeting, how many items were held then, and how many slots
-- the buffers have
pub record RingName : Type 0 where
  pub items : Buffer
  pub numbers : Buffer
  pub items_before : ℕ
  pub numbers_before : ℕ
  pub held : ℕ
  pub capacity : ℕ
  pub numbers_capacity : ℕ

-- from one meeting to the next an end moves at most so many items
abbrev pub most_between : ℕ
most_between = 2 ^ 40

-- the giver's ring, what it gave since the last meeting, and how many slots it knows to be free
pub record GiverView : Type 0 where
  pub ring : RingName
  pub given : List ℤ
  pub slots : ℕ

-- the taker's ring, what it held at the last meeting, what it took since, the items that it knows to be there, how many
-- numbers it sent back since the last meeting, and how many slots for numbers it knows to be free
pub record TakerView : Type 0 where
  pub ring : RingName
  pub held : List ℤ
  pub taken : List ℤ
  pub known : List ℤ
  pub returned : ℕ
  pub return_slots : ℕ
