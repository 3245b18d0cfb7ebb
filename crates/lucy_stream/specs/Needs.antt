-- Which items of places depend on which, and which programs are causal. The items of a stream count from 1.
use Rattle.std.specs.Prelude.{ℕ, suc, zero, ◌+◌, ◌-◌, ◌<◌, ◌≤◌, ◌≡◌, true, false, List, [], ◌∷◌, slice_get, Some}
use Rattle.lucy_word.specs.Bits.{bit_at, ones_to}
use Rattle.lucy_stream.specs.Forms.{Form, Kept, Merged, Delayed, operands}
use Rattle.lucy_stream.specs.Iterates.{Place}

-- item k of a stream of the form depends on item m of its operand j: a sampling keeps the item of the word's k-th one, a
-- merge reads its first operand at a one of its word and its second at a zero, and a delay is one item behind
abbrev pub IsNeed : Form → ℕ → ℕ → ℕ → Type 0
IsNeed (Kept word) k j m = (bit_at word m ≡ true) × (ones_to word m ≡ k)
IsNeed (Merged word) k zero m = (bit_at word k ≡ true) × (m ≡ ones_to word k)
IsNeed (Merged word) k (suc j) m = (bit_at word k ≡ false) × (m ≡ k - ones_to word k)
IsNeed (Delayed first) k j m = k ≡ m + 1
IsNeed form k j m = m ≡ k

-- an item: its place, and its number in the place's stream
pub record StreamItem : Type 0 where
  pub place : ℕ
  pub number : ℕ

-- the one item depends on the other, by some operand of its place
pub record Needs (places : List Place) (x y : StreamItem) : Type 0 where
  pub place : Place
  pub there : slice_get places x.place ≡ Some place
  pub operand : ℕ
  pub within : operand < operands place.form
  pub reads : slice_get place.reads operand ≡ Some y.place
  pub counted : 1 ≤ y.number
  pub need : IsNeed place.form x.number operand y.number

-- each item of the walk depends on the next one, and the last one on `end`
abbrev pub IsWalk : List Place → StreamItem → List StreamItem → StreamItem → Type 0
IsWalk places x [] end = Needs places x end
IsWalk places x (y ∷ walk) end = Needs places x y × IsWalk places y walk end

-- the item reaches itself
abbrev pub ReachesItself : List Place → StreamItem → Type 0
ReachesItself places x = (walk : List StreamItem) × IsWalk places x walk x

-- each of the items depends on the next one, and the last one on the first
abbrev pub IsCycle : List Place → List StreamItem → Type 0
IsCycle places [] = ⊥
IsCycle places (x ∷ walk) = IsWalk places x walk x

-- no item reaches itself
abbrev pub IsCausal : List Place → Type 0
IsCausal places = (x : StreamItem) → 1 ≤ x.number → ReachesItself places x → ⊥
