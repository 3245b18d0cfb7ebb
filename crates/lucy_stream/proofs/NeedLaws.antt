-- An item that some iterate has depends on items of the iterate before. So it doesn't reach itself (Kahn 1974).
use Rattle.std.proofs.Common.{ℕ, suc, zero, ◌+◌, ◌-◌, ◌<◌, ◌≤◌, ◌≡◌, true, List, [], ◌∷◌, length, ap, sym, ◌∙◌, inl, inr, arith}
use Rattle.std.specs.Prelude.{ℤ, Some, slice_get}
use Rattle.std.specs.List.{range_with_len}
use Rattle.std.proofs.lemmas.Bool.{cases_lt}
use Rattle.std.proofs.lemmas.List.{length-map, get_or-map}
use Rattle.std.proofs.lemmas.List.FromFn.{length-range_with_len}
use Rattle.std.proofs.lemmas.Option.{slice_get_within, get_or_from_slice_get}
use Rattle.lucy_word.specs.Bits.{Bits, bit_at, one_if, ones_to}
use Rattle.lucy_word.proofs.BitsLaws.{ones_to-more}
use Rattle.lucy_word.proofs.ShortLaws.{ones_to-later}
use Rattle.lucy_host.specs.OpValue.{op_value}
use Rattle.lucy_host.specs.Arity.{arity}
use Rattle.lucy_host.specs.declared.kind.HostKind.{HostKind}
use Rattle.lucy_stream.specs.Items.{list_at, item_at}
use Rattle.lucy_stream.specs.Forms.{Form, Given, Constant, Pointwise, Hosted, Kept, Merged, Delayed, Same, operands}
use Rattle.lucy_host.specs.HostValue.{hosted_value}
use Rattle.lucy_stream.specs.Lists.{shortest, item_by_item, kept, form_list}
use Rattle.lucy_stream.specs.Merges.{merge_item, merged}
use Rattle.lucy_stream.specs.Iterates.{Place, lists_of, iterate}
use Rattle.lucy_stream.specs.Needs.{IsNeed, StreamItem, Needs, IsWalk, ReachesItself}
use Rattle.lucy_stream.proofs.ListLaws.{shortest-le}
use Rattle.lucy_stream.proofs.KeptLaws.{kept-length}
use Rattle.lucy_stream.proofs.MergeLaws.{merged-is, merge_item-one, merge_item-zero}
use Rattle.lucy_stream.proofs.IterateLaws.{iterate-at, iterate-none}

item_by_item-length : (count : ℕ) (value : ℤ → ℤ → ℤ → ℤ) (lists : List (List ℤ)) → length (item_by_item count value lists) ≡ shortest count lists
item_by_item-length count value lists =
    length-map (range_with_len 0 (shortest count lists)) (λ k. value (item_at (list_at lists 0) k) (item_at (list_at lists 1) k) (item_at (list_at lists 2) k)) ∙ length-range_with_len 0 (shortest count lists)

-- the item that a sampling keeps is there where what it keeps is
kept_back : (word : Bits) (items : List ℤ) (k m : ℕ) → 1 ≤ m → bit_at word m ≡ true → ones_to word m ≡ k → k ≤ length (kept word items) → m ≤ length items
kept_back word items k m one bit count l = elim (cases_lt (length items) m) [
  | inr h ↦ h
  | inl h ↦
      let all : length (kept word items) ≡ ones_to word (length items) = kept-length word items in
      let u : ones_to word (length items + (m - 1 - length items)) ≡ ones_to word (m - 1) = ap (ones_to word) (omega arith) in
      let v : ones_to word (m - 1 + 1) ≡ ones_to word m = ap (ones_to word) (omega arith) in
      let b : bit_at word (m - 1 + 1) ≡ true = ap (bit_at word) (let z : m - 1 + 1 ≡ m = omega arith in z) ∙ bit in
      let o : one_if (bit_at word (m - 1 + 1)) ≡ 1 = ap one_if b in
      absurd (omega (arith, ones_to-later word (length items) (m - 1 - length items), ones_to-more word (m - 1)))
]

-- the items of a merge are those of its operands
merged_there : (word : Bits) (xs ys : List ℤ) (k : ℕ) → 1 ≤ k → k ≤ length (merged word xs ys) → merge_item word xs ys k ≡ Some (item_at (merged word xs ys) (k - 1))
merged_there word xs ys k one l = ap (merge_item word xs ys) (let z : k ≡ k - 1 + 1 = omega arith in z) ∙ (merged-is word xs ys).each (k - 1) (omega arith)

-- what an item depends on is there
pub form_back : (kinds : List HostKind) (inputs : List (List ℤ)) (n : ℕ) (form : Form) (lists : List (List ℤ)) (k j m : ℕ) → j < operands form → 1 ≤ k → 1 ≤ m → IsNeed form k j m → k ≤ length (form_list kinds inputs n form lists) → m ≤ length (list_at lists j)
form_back kinds inputs n (Given input) lists k j m w a b need l = absurd (omega arith)
form_back kinds inputs n (Constant value) lists k j m w a b need l = absurd (omega arith)
form_back kinds inputs n (Pointwise op) lists k j m w a b need l = omega (arith, item_by_item-length (arity op) (op_value op) lists, shortest-le (arity op) j lists w)
form_back kinds inputs n (Hosted op) lists k j m w a b need l = omega (arith, item_by_item-length 2 (λ x y c. hosted_value kinds op x y) lists, shortest-le 2 j lists w)
form_back kinds inputs n (Kept word) lists k zero m w a b need l = kept_back word (list_at lists 0) k m b need.0 need.1 l
form_back kinds inputs n (Kept word) lists k (suc j) m w a b need l = absurd (omega arith)
form_back kinds inputs n (Merged word) lists k zero m w a b need l =
    let xs : List ℤ = list_at lists 0 in
    let ys : List ℤ = list_at lists 1 in
    let e : slice_get xs (ones_to word k - 1) ≡ Some (item_at (merged word xs ys) (k - 1)) = sym (merge_item-one word xs ys k need.0) ∙ merged_there word xs ys k a l in
    omega (arith, slice_get_within xs (ones_to word k - 1) (item_at (merged word xs ys) (k - 1)) e, need.1)
form_back kinds inputs n (Merged word) lists k (suc zero) m w a b need l =
    let xs : List ℤ = list_at lists 0 in
    let ys : List ℤ = list_at lists 1 in
    let e : slice_get ys (k - ones_to word k - 1) ≡ Some (item_at (merged word xs ys) (k - 1)) = sym (merge_item-zero word xs ys k need.0) ∙ merged_there word xs ys k a l in
    omega (arith, slice_get_within ys (k - ones_to word k - 1) (item_at (merged word xs ys) (k - 1)) e, need.1)
form_back kinds inputs n (Merged word) lists k (suc (suc j)) m w a b need l = absurd (omega arith)
form_back kinds inputs n (Delayed first) lists k zero m w a b need l = omega arith
form_back kinds inputs n (Delayed first) lists k (suc j) m w a b need l = absurd (omega arith)
form_back kinds inputs n Same lists k zero m w a b need l = omega arith
form_back kinds inputs n Same lists k (suc j) m w a b need l = absurd (omega arith)

-- the list of an operand, by the place that is read
operand_list : (lists : List (List ℤ)) (reads : List ℕ) (j i : ℕ) → slice_get reads j ≡ Some i → list_at (lists_of lists reads) j ≡ list_at lists i
operand_list lists reads j i e =
    get_or-map (list_at lists) reads j 0 [] (slice_get_within reads j i e) ∙ ap (list_at lists) (get_or_from_slice_get reads j i 0 e)

pub needs_back : (kinds : List HostKind) (inputs : List (List ℤ)) (places : List Place) (n : ℕ) (x y : StreamItem) → 1 ≤ x.number → Needs places x y →
    x.number ≤ length (list_at (iterate kinds inputs places (suc n)) x.place) → y.number ≤ length (list_at (iterate kinds inputs places n) y.place)
needs_back kinds inputs places n x y one need l =
    let lists : List (List ℤ) = iterate kinds inputs places n in
    let place : Place = need.place in
    let here : list_at (iterate kinds inputs places (suc n)) x.place ≡ form_list kinds inputs n place.form (lists_of lists place.reads) = iterate-at kinds inputs places n x.place place need.there in
    let back : y.number ≤ length (list_at (lists_of lists place.reads) need.operand) =
    form_back kinds inputs n place.form (lists_of lists place.reads) x.number need.operand y.number need.within one need.counted need.need (omega (arith, ap length here)) in
    omega (arith, ap length (operand_list lists place.reads need.operand y.place need.reads))

walk_back : (kinds : List HostKind) (inputs : List (List ℤ)) (places : List Place) (n : ℕ) (x end : StreamItem) (walk : List StreamItem) → 1 ≤ x.number → IsWalk places x walk end →
    x.number ≤ length (list_at (iterate kinds inputs places (suc n)) x.place) → (m : ℕ) × (m ≤ n) × (end.number ≤ length (list_at (iterate kinds inputs places m) end.place))
walk_back kinds inputs places n x end [] one w l = (n, omega arith, needs_back kinds inputs places n x end one w l)
walk_back kinds inputs places zero x end (y ∷ walk) one w l =
    absurd (omega (arith, needs_back kinds inputs places 0 x y one w.0 l, ap length (iterate-none kinds inputs places y.place), w.0.counted))
walk_back kinds inputs places (suc n) x end (y ∷ walk) one w l =
    let r = walk_back kinds inputs places n y end walk w.0.counted w.1 (needs_back kinds inputs places (suc n) x y one w.0 l) in
    (r.0, omega (arith, r.1), r.2)

no_cycle_within : (kinds : List HostKind) (inputs : List (List ℤ)) (places : List Place) (bound n : ℕ) (x : StreamItem) (walk : List StreamItem) → 1 ≤ x.number → n ≤ bound → IsWalk places x walk x →
    x.number ≤ length (list_at (iterate kinds inputs places n) x.place) → ⊥
no_cycle_within kinds inputs places bound zero x walk one b w l = absurd (omega (arith, ap length (iterate-none kinds inputs places x.place)))
no_cycle_within kinds inputs places zero (suc n) x walk one b w l = absurd (omega arith)
no_cycle_within kinds inputs places (suc bound) (suc n) x walk one b w l =
    let r = walk_back kinds inputs places n x x walk one w l in
    no_cycle_within kinds inputs places bound r.0 x walk one (omega (arith, r.1)) w r.2

pub no_cycle : (kinds : List HostKind) (inputs : List (List ℤ)) (places : List Place) (n : ℕ) (x : StreamItem) → 1 ≤ x.number → x.number ≤ length (list_at (iterate kinds inputs places n) x.place) → ReachesItself places x → ⊥
no_cycle kinds inputs places n x one l reaches = no_cycle_within kinds inputs places n n x reaches.0 one (omega arith) reaches.1 l
