-- A form's list has what so many firings give, where the lists of its operands have what they take.
use Rattle.std.proofs.Common.{ℕ, suc, zero, ◌+◌, ◌-◌, ◌<◌, ◌≤◌, ◌≡◌, List, length, ap, refl, sym, ◌∙◌, inl, inr, arith}
use Rattle.std.specs.Prelude.{ℤ, Some, None}
use Rattle.std.proofs.lemmas.Bool.{cases_Bool, cases_lt}
use Rattle.std.proofs.lemmas.List.{length-replicate}
use Rattle.std.proofs.lemmas.List.FromFn.{length-map-range_with_len}
use Rattle.lucy_word.specs.Bits.{Bits, bit_at, one_if, ones_to}
use Rattle.lucy_word.proofs.BitsLaws.{ones_to-more, ones_to-le}
use Rattle.lucy_word.proofs.IndexLaws.{ones_to-rises}
use Rattle.lucy_host.specs.OpValue.{op_value}
use Rattle.lucy_host.specs.Arity.{arity}
use Rattle.lucy_host.specs.HostValue.{hosted_value}
use Rattle.lucy_host.specs.declared.kind.HostKind.{HostKind}
use Rattle.lucy_stream.specs.Items.{item_at, list_at}
use Rattle.lucy_stream.specs.Forms.{Form, Given, Constant, Pointwise, Hosted, Kept, Merged, Delayed, Same, operands}
use Rattle.lucy_stream.specs.Merges.{merge_item, merged}
use Rattle.lucy_stream.specs.Lists.{shortest, form_list}
use Rattle.lucy_stream.specs.Firings.{gave_in, took_in}
use Rattle.lucy_stream.proofs.KeptLaws.{kept-length}
use Rattle.lucy_stream.proofs.MergeLaws.{merge_item-one, merge_item-zero, get_some, merged-is}
use Rattle.lucy_stream.proofs.ListLaws.{arity-some}
use Rattle.lucy_stream.proofs.FiringLaws.{ones_to-most}

-- where no list is shorter than so many items, the shortest isn't
shortest-least : (count n : ℕ) (lists : List (List ℤ)) → 0 < count → ((i : ℕ) → i < count → n ≤ length (list_at lists i)) →
    n ≤ shortest count lists
shortest-least zero n lists some h = absurd (omega arith)
shortest-least (suc zero) n lists some h = h 0 (omega arith)
shortest-least (suc (suc count)) n lists some h = omega (
  arith,
  shortest-least (suc count) n lists (omega arith) (λ i l. h i (omega arith)),
  h (suc count) (omega arith),
)

-- the item of a merge behind all that are there isn't among the first, whose items are all there
merged-past : (word : Bits) (xs ys : List ℤ) (n k : ℕ) → ones_to word n ≤ length xs → n - ones_to word n ≤ length ys → k < n →
    merge_item word xs ys (k + 1) ≡ None → ⊥
merged-past word xs ys n k ones zeros l none =
    let rises : ones_to word (k + 1) ≤ ones_to word n = ones_to-rises word (k + 1) n (omega arith) in
    let last : ones_to word (k + 1 + (n - (k + 1))) ≡ ones_to word n = ap (ones_to word) (omega arith) in
    let most : ones_to word (k + 1 + (n - (k + 1))) ≤ ones_to word (k + 1) + (n - (k + 1)) = ones_to-most word (k + 1) (n - (k + 1)) in
    let more : ones_to word (k + 1) ≡ ones_to word k + one_if (bit_at word (k + 1)) = ones_to-more word k in
    elim (cases_Bool (bit_at word (k + 1))) [
      | inl b ↦
          let one : one_if (bit_at word (k + 1)) ≡ 1 = ap one_if b in
          let i : ℕ = ones_to word (k + 1) - 1 in
          let there : merge_item word xs ys (k + 1) ≡ Some (item_at xs i) =
          merge_item-one word xs ys (k + 1) b ∙ get_some xs i (omega arith) in
          cc (sym none ∙ there)
      | inr b ↦
          let no_one : one_if (bit_at word (k + 1)) ≡ 0 = ap one_if b in
          let i : ℕ = k + 1 - ones_to word (k + 1) - 1 in
          let there : merge_item word xs ys (k + 1) ≡ Some (item_at ys i) =
          merge_item-zero word xs ys (k + 1) b ∙ get_some ys i (omega (arith, ones_to-le word k)) in
          cc (sym none ∙ there)
    ]

merged-least : (word : Bits) (xs ys : List ℤ) (n : ℕ) → ones_to word n ≤ length xs → n - ones_to word n ≤ length ys →
    n ≤ length (merged word xs ys)
merged-least word xs ys n ones zeros = elim (cases_lt (length (merged word xs ys)) n) [
  | inl few ↦ absurd (merged-past word xs ys n (length (merged word xs ys)) ones zeros few (merged-is word xs ys).longest)
  | inr all ↦ all
]

-- the list has what so many firings give: those of an input have its items, those of a literal are at most as many as the turns
pub form_list-enough : (kinds : List HostKind) (inputs : List (List ℤ)) (n : ℕ) (form : Form) (lists : List (List ℤ)) (fired : ℕ) →
    ((input : ℕ) → form ≡ Given input → fired ≤ length (list_at inputs input)) → fired ≤ n + 1 →
    ((j : ℕ) → j < operands form → took_in form fired j ≤ length (list_at lists j)) →
    gave_in form fired ≤ length (form_list kinds inputs n form lists)
form_list-enough kinds inputs n (Given input) lists fired given few took = given input refl
form_list-enough kinds inputs n (Constant value) lists fired given few took = omega (arith, length-replicate (n + 1) value)
form_list-enough kinds inputs n (Pointwise op) lists fired given few took =
    let count : ℕ = shortest (arity op) lists in
    omega (
      arith,
      length-map-range_with_len (λ k. op_value op (item_at (list_at lists 0) k) (item_at (list_at lists 1) k)
          (item_at (list_at lists 2) k)) 0 count,
      shortest-least (arity op) fired lists (arity-some op) took,
    )
form_list-enough kinds inputs n (Hosted op) lists fired given few took =
    let count : ℕ = shortest 2 lists in
    omega (
      arith,
      length-map-range_with_len (λ k. hosted_value kinds op (item_at (list_at lists 0) k)
          (item_at (list_at lists 1) k)) 0 count,
      shortest-least 2 fired lists (omega arith) took,
    )
form_list-enough kinds inputs n (Kept word) lists fired given few took =
    omega (arith, kept-length word (list_at lists 0), ones_to-rises word fired (length (list_at lists 0)) (took 0 (omega arith)))
form_list-enough kinds inputs n (Merged word) lists fired given few took =
    merged-least word (list_at lists 0) (list_at lists 1) fired (took 0 (omega arith)) (took 1 (omega arith))
form_list-enough kinds inputs n (Delayed first) lists fired given few took = omega (arith, took 0 (omega arith))
form_list-enough kinds inputs n Same lists fired given few took = took 0 (omega arith)
