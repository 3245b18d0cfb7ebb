-- The list that each form makes of the lists of its operands (Kahn 1974).
use Rattle.std.specs.Prelude.{ℕ, suc, zero, ◌+◌, min, List, [], ◌∷◌, map, ℤ, length, replicate, slice_index_or, if◌then◌else◌}
use Rattle.std.specs.List.{range_with_len}
use Rattle.lucy_word.specs.Bits.{Bits, bit_at}
use Rattle.lucy_host.specs.OpValue.{op_value}
use Rattle.lucy_host.specs.HostValue.{hosted_value}
use Rattle.lucy_host.specs.declared.kind.HostKind.{HostKind}
use Rattle.lucy_stream.specs.Items.{item_at, list_at}
use Rattle.lucy_host.specs.Arity.{arity}
use Rattle.lucy_stream.specs.Forms.{Form, Given, Constant, Pointwise, Hosted, Kept, Merged, Delayed, Same}
use Rattle.lucy_stream.specs.Merges.{merged}

-- the length of the shortest of the first lists, so many of them
abbrev pub shortest : ℕ → List (List ℤ) → ℕ
shortest zero lists = 0
shortest (suc zero) lists = length (list_at lists 0)
shortest (suc (suc n)) lists = min (shortest (suc n) lists) (length (list_at lists (suc n)))

-- the values of so many operands item by item, as long as the shortest of their lists
abbrev pub item_by_item : ℕ → (ℤ → ℤ → ℤ → ℤ) → List (List ℤ) → List ℤ
item_by_item count value lists =
    map (λ k. value (item_at (list_at lists 0) k) (item_at (list_at lists 1) k) (item_at (list_at lists 2) k)) (range_with_len 0 (shortest count lists))

-- of the items after so many others, those whose number has a one in the word
abbrev pub kept_past : Bits → ℕ → List ℤ → List ℤ
kept_past word before [] = []
kept_past word before (item ∷ items) = if bit_at word (before + 1) then item ∷ kept_past word (before + 1) items else kept_past word (before + 1) items

-- the items whose number, counted from 1, has a one in the word
abbrev pub kept : Bits → List ℤ → List ℤ
kept word items = kept_past word 0 items

-- a form's list in the iterate n + 1, of its operands' lists in the iterate n
abbrev pub form_list : List HostKind → List (List ℤ) → ℕ → Form → List (List ℤ) → List ℤ
form_list kinds inputs n (Given input) lists = list_at inputs input
form_list kinds inputs n (Constant value) lists = replicate (n + 1) value
form_list kinds inputs n (Pointwise op) lists = item_by_item (arity op) (op_value op) lists
form_list kinds inputs n (Hosted op) lists = item_by_item 2 (λ a b c. hosted_value kinds op a b) lists
form_list kinds inputs n (Kept word) lists = kept word (list_at lists 0)
form_list kinds inputs n (Merged word) lists = merged word (list_at lists 0) (list_at lists 1)
form_list kinds inputs n (Delayed first) lists = first ∷ list_at lists 0
form_list kinds inputs n Same lists = list_at lists 0
