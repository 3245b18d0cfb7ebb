-- Between two clocks whose words aren't written with too many bits no more than 2^20 items wait.
use Rattle.std.proofs.Common.{◌≡◌, ℕ, ◌+◌, ◌-◌, ◌<◌, ◌≤◌, inl, inr, sym, ap, ◌∙◌, subst, arith}
use Rattle.std.specs.List.{Contains}
use Rattle.std.proofs.lemmas.Bool.{cases_lt}
use Rattle.lucy_word.specs.Bits.{Bits, IsWord, ones_to, most_bits}
use Rattle.lucy_word.specs.Adaptable.{IsSize}
use Rattle.lucy_word.proofs.BitsLaws.{ones_to-le}
use Rattle.lucy_need.specs.Meeting.{Assignment, alone}
use Rattle.lucy_need.specs.declared.need.Need.TheVariants.{Adapt}
use Rattle.lucy_need.specs.declared.need.Needs.{Needs}
use Rattle.lucy_shape.specs.declared.shape.ClockShape.{ClockShape}
use Rattle.lucy_shape.specs.declared.shape.Shape.{Shape}
use Rattle.lucy_shape.specs.Index.{index_of, Recurs}
use Rattle.lucy_shape.specs.Fitting.{clock_at, IsShapeFor, IsFitting}
use Rattle.lucy_shape.specs.Sized.{HasSizeWithin}
use Rattle.lucy_shape.proofs.Bases.{placed}
use Rattle.lucy_shape.proofs.Indexes.{decided}
use Rattle.lucy_shape.proofs.Places.{index_rises, index_some}
use Rattle.lucy_shape.proofs.SizeLaws.{carried_at, alone_turn}
use Rattle.lucy_shape.proofs.WordIndex.{word_index}
use Rattle.lucy_inference.specs.Inference.{HasLongClock, written_bits}

-- a later one stands later
later : (w : Bits) → IsWord w → (k m : ℕ) → k ≤ m → index_of w k ≤ index_of w m
later w is k m l =
    let law = word_index w is in
    let there = law.there m (index_of w m) (omega arith) in
    law.first k (index_of w m) (omega arith)

-- and no sooner than its number
no_sooner : (w : Bits) → IsWord w → (k : ℕ) → k ≤ index_of w k
no_sooner w is k =
    let law = word_index w is in
    let there = law.there k (index_of w k) (omega arith) in
    let most = ones_to-le w (index_of w k) in
    omega arith

-- ones that stand so close leave no more waiting
close : (a b : Bits) (size : ℕ) → IsWord a → IsWord b → ((k : ℕ) → 0 < k → index_of b k ≤ index_of a (k + size)) → HasSizeWithin a b size
close a b size of_a of_b h i = elim (cases_lt size (ones_to a i)) [
  | inr few ↦ omega arith
  | inl many ↦
      let k : ℕ = ones_to a i - size in
      let same : index_of a (k + size) ≡ index_of a (ones_to a i) = ap (index_of a) (omega arith) in
      let c = h k (omega arith) in
      let d = (word_index a of_a).first (ones_to a i) i (omega arith) in
      let e = (word_index b of_b).there k i (omega arith) in
      omega arith
]

module _ (needs : Needs) (shape : Shape) (w : Assignment) (from to : ℕ) (is : IsShapeFor needs shape) (fitting : IsFitting shape w) (has : Contains needs.list (Adapt (alone from) (alone to)))
    (short : HasLongClock shape w → ⊥) where
  pub keeps_small : HasSizeWithin (w from) (w to) most_bits
  keeps_small =
      let carried = carried_at needs shape (Adapt (alone from) (alone to)) is has in
      let c : ClockShape = clock_at shape.clocks from in
      let d : ClockShape = clock_at shape.clocks to in
      let P : ℕ = shape.period in
      let I : ℕ → ℕ = index_of (w from) in
      let J : ℕ → ℕ = index_of (w to) in
      let of_from = fitting.words from carried.first_used.0 in
      let of_to = fitting.words to carried.second_used.0 in
      let same : d.ones ≡ c.ones = sym (alone_turn shape.clocks to) ∙ sym carried.same ∙ alone_turn shape.clocks from in
      let fits : Recurs J d.lead c.ones P = subst (λ q. Recurs J d.lead q P) same (fitting.fits to carried.second_used) in
      let some = is.laid.ones from carried.first_used in
      let few = is.laid.few in
      let within = (placed shape from is.laid carried.first_used).within in
      let bits : written_bits shape w to ≤ most_bits = elim (cases_lt most_bits (written_bits shape w to)) [
        | inl long ↦ absurd (short (to, carried.second_used, long))
        | inr l ↦ l
      ] in
      let first = index_some (w to) of_to (d.lead + 1) (omega arith) in
      let turn = fits (d.lead + 1) (omega arith) in
      let order : d.lead + c.ones + 1 ≡ d.lead + 1 + c.ones = omega arith in
      let e = ap J order in
      let rises = index_rises (w to) of_to (d.lead + c.ones) in
      let last : J (d.lead + c.ones) ≤ most_bits = omega arith in
      close (w from) (w to) most_bits of_from of_to
      (decided J (λ k. I (k + most_bits)) d.lead c.ones P some fits
      (λ m l. let a = fitting.fits from carried.first_used (m + most_bits) (omega arith) in
      let b : I (m + c.ones + most_bits) ≡ I (m + most_bits + c.ones) = ap I (omega arith) in omega arith)
      (λ k l m. let a = later (w to) of_to k (d.lead + c.ones) m in let b = no_sooner (w from) of_from (k + most_bits) in omega arith))

-- so a size is no more
pub small_size : (a b : Bits) (size most : ℕ) → HasSizeWithin a b most → IsSize a b size → size ≤ most
small_size a b size most h is =
    let at = is.reached.1 in
    let l = h is.reached.0 in
    omega arith
