-- Where an actor is in the word that it reads, one bit a firing: a cursor that goes through the word's own bits, those of the
-- prefix and then those of the period again and again, so that the next bit is found without a division.
use Rattle.std.specs.Prelude.{ℕ, ◌+◌, ◌≤◌, ◌≡◌, Bool}
use Rattle.lucy_word.specs.Bits.{Bits, bit_at, bit_count}
use Rattle.lucy_stream.specs.Forms.{Form, Kept, Merged}

-- this is the bit that a sampling or a merge reads in the firing after `fired` others
abbrev pub Reads : Form → ℕ → Bool → Type 0
Reads (Kept word) fired bit = bit ≡ bit_at word (fired + 1)
Reads (Merged word) fired bit = bit ≡ bit_at word (fired + 1)
Reads form fired bit = Unit {0}

-- the cursor, counted from 1, is at one of the word's own bits, from which on the word goes as after so many others
pub record IsCursor (word : Bits) (fired cursor : ℕ) : Type 0 where
  pub counted : 1 ≤ cursor
  pub within : cursor ≤ bit_count word
  pub goes_on : (i : ℕ) → bit_at word (cursor + i) ≡ bit_at word (fired + 1 + i)

-- the actor's cursor after so many firings
abbrev pub HasCursor : Form → ℕ → ℕ → Type 0
HasCursor (Kept word) fired cursor = IsCursor word fired cursor
HasCursor (Merged word) fired cursor = IsCursor word fired cursor
HasCursor form fired cursor = Unit {0}
