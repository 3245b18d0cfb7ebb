-- Bits kept in limbs of 64: bit k of the list is bit k % 64 of limb k / 64.
use Rattle.std.specs.Prelude.{ℕ, ◌+◌, ◌/◌, ◌%◌, ◌^◌, ◌<◌, ◌≡◌, ◌==◌, Bool, ◌&&◌, List, length, map, slice_index}
use Rattle.std.specs.List.{range_with_len}
use Rattle.std.specs.Int.RustNames.{count_ones}
use Rattle.lucy_word.specs.Bits.{Bits, bit_at}

-- whether a number has a one at this place, counted from 0
abbrev pub is_set : ℕ → ℕ → Bool
is_set limb i = limb / 2 ^ i % 2 == 1

-- the first bits of one limb
unfoldable pub limb_bits : ℕ → ℕ → List Bool
limb_bits n limb = map (is_set limb) (range_with_len 0 n)

-- the bit at a place of all the limbs
abbrev pub packed_bit : List ℕ → ℕ → Bool
packed_bit limbs k = is_set (slice_index limbs (k / 64)) (k % 64)

-- the first bits of the limbs
unfoldable pub unpacked : ℕ → List ℕ → List Bool
unpacked len limbs = map (packed_bit limbs) (range_with_len 0 len)

-- so many limbs as hold the bits, and one that holds what is past whole limbs (maybe nothing), whose other bits are 0
pub record ArePacked (len : ℕ) (limbs : List ℕ) : Type 0 where
  pub count : length limbs ≡ len / 64 + 1
  pub rest : slice_index limbs (len / 64) < 2 ^ (len % 64)
  pub each : (k : ℕ) → k < length limbs → slice_index limbs k < 2 ^ 64

-- the same, while the last limb is not yet whole
pub record ArePacking (len : ℕ) (whole : List ℕ) (last : ℕ) : Type 0 where
  pub count : length whole ≡ len / 64
  pub rest : last < 2 ^ (len % 64)
  pub each : (k : ℕ) → k < length whole → slice_index whole k < 2 ^ 64

-- the bit of a deposit: where `first` has a one, the bit of `next` at that one's number
abbrev pub deposit_bit : ℕ → ℕ → ℕ → Bool
deposit_bit first next i = is_set first i && is_set next (count_ones (first % 2 ^ i))

-- a number is the bits of a word that come next
pub record AreNext (w : Bits) (n limb : ℕ) : Type 0 where
  pub within : limb < 2 ^ n
  pub bits : (i : ℕ) → i < n → is_set limb i ≡ bit_at w (i + 1)
