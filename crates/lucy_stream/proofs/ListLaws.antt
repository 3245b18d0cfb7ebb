-- Laws of the forms' lists: they grow as the operands' lists grow.
use Rattle.std.proofs.Common.{ℕ, suc, zero, ◌+◌, ◌<◌, ◌≤◌, ◌≡◌, List, length, ap, refl, ◌∙◌, inl, inr, arith}
use Rattle.std.specs.Prelude.{ℤ}
use Rattle.std.proofs.lemmas.Bool.{cases_lt}
use Rattle.lucy_host.specs.OpValue.{op_value}
use Rattle.lucy_host.specs.declared.op.Op.{Op}
use Rattle.lucy_host.specs.declared.op.Op.TheVariants.{Not, If}
use Rattle.lucy_host.specs.declared.kind.HostKind.{HostKind}
use Rattle.lucy_stream.specs.Items.{item_at, list_at}
use Rattle.lucy_stream.specs.Fronts.{IsFront, AreFronts}
use Rattle.lucy_host.specs.Arity.{arity}
use Rattle.lucy_stream.specs.Forms.{Form, Given, Constant, Pointwise, Hosted, Kept, Merged, Delayed, Same}
use Rattle.lucy_host.specs.HostValue.{hosted_value}
use Rattle.lucy_stream.specs.Lists.{shortest, item_by_item, form_list}
use Rattle.lucy_stream.proofs.FrontLaws.{IsFront-refl, IsFront-replicate, IsFront-length, IsFront-item, IsFront-by_number}
use Rattle.lucy_stream.proofs.MergeLaws.{merged-front}
use Rattle.lucy_stream.proofs.KeptLaws.{kept-front}

-- the operands that an operator lacks are ignored
pub op_value-lacks : (op : Op) (a b c b' c' : ℤ) → (1 < arity op → b ≡ b') → (2 < arity op → c ≡ c') → op_value op a b c ≡ op_value op a b' c'
unfolding op_value
op_value-lacks Not a b c b' c' f g = refl
op_value-lacks If a b c b' c' f g = ap (λ t. op_value If a t c) (f (omega arith)) ∙ ap (op_value If a b') (g (omega arith))
op_value-lacks op a b c b' c' f g = ap (λ t. op_value op a t c) (f (omega arith))

-- the shortest is no longer than each
pub shortest-le : (count i : ℕ) (lists : List (List ℤ)) → i < count → shortest count lists ≤ length (list_at lists i)
shortest-le zero i lists l = absurd (omega arith)
shortest-le (suc zero) zero lists l = omega arith
shortest-le (suc zero) (suc i) lists l = absurd (omega arith)
shortest-le (suc (suc n)) i lists l = elim (cases_lt i (suc n)) [
  | inl below ↦ omega (arith, shortest-le (suc n) i lists below)
  | inr last ↦
      let same : length (list_at lists i) ≡ length (list_at lists (suc n)) = ap (λ t. length (list_at lists t)) (omega arith) in
      omega arith
]

-- and grows with them
shortest-rises : (count : ℕ) (xs us : List (List ℤ)) → AreFronts xs us → shortest count xs ≤ shortest count us
shortest-rises zero xs us h = omega arith
shortest-rises (suc zero) xs us h = IsFront-length (list_at xs 0) (list_at us 0) (h 0)
shortest-rises (suc (suc n)) xs us h = omega (arith, shortest-rises (suc n) xs us h, IsFront-length (list_at xs (suc n)) (list_at us (suc n)) (h (suc n)))

-- the items of an operand that is there
operand_item : (count i k : ℕ) (xs us : List (List ℤ)) → AreFronts xs us → k < shortest count xs → i < count → item_at (list_at xs i) k ≡ item_at (list_at us i) k
operand_item count i k xs us h l there = IsFront-item (list_at xs i) (list_at us i) k (h i) (omega (arith, shortest-le count i xs there))

-- a value that doesn't look past so many operands
abbrev pub LooksAt : ℕ → (ℤ → ℤ → ℤ → ℤ) → Type 0
LooksAt count value = (a b c b' c' : ℤ) → (1 < count → b ≡ b') → (2 < count → c ≡ c') → value a b c ≡ value a b' c'

pub item_by_item-front : (count : ℕ) (value : ℤ → ℤ → ℤ → ℤ) (xs us : List (List ℤ)) → 0 < count → LooksAt count value → AreFronts xs us →
    IsFront (item_by_item count value xs) (item_by_item count value us)
item_by_item-front count value xs us some looks h =
    IsFront-by_number (λ k. value (item_at (list_at xs 0) k) (item_at (list_at xs 1) k) (item_at (list_at xs 2) k)) (λ k. value (item_at (list_at us 0) k) (item_at (list_at us 1) k) (item_at (list_at us 2) k))
    0 (shortest count xs) (shortest count us) (shortest-rises count xs us h) (λ k above below.
    let first : item_at (list_at xs 0) k ≡ item_at (list_at us 0) k = operand_item count 0 k xs us h (omega arith) some in
    let others = looks (item_at (list_at xs 0) k) (item_at (list_at xs 1) k) (item_at (list_at xs 2) k) (item_at (list_at us 1) k) (item_at (list_at us 2) k)
    (λ there. operand_item count 1 k xs us h (omega arith) there) (λ there. operand_item count 2 k xs us h (omega arith) there) in
    others ∙ ap (λ t. value t (item_at (list_at us 1) k) (item_at (list_at us 2) k)) first)

pub arity-some : (op : Op) → 0 < arity op
arity-some Not = omega arith
arity-some If = omega arith
arity-some op = omega arith

-- what the host's operators look at
pub hosted_value-looks : (kinds : List HostKind) (op : ℕ) → LooksAt 2 (λ a b c. hosted_value kinds op a b)
hosted_value-looks kinds op a b c b' c' f g = ap (hosted_value kinds op a) (f (omega arith))

-- a form's list grows as the lists of its operands grow, and from one iterate to a later one
pub form_list-front : (kinds : List HostKind) (inputs : List (List ℤ)) (n m : ℕ) (form : Form) (lists longer : List (List ℤ)) → n ≤ m → AreFronts lists longer →
    IsFront (form_list kinds inputs n form lists) (form_list kinds inputs m form longer)
form_list-front kinds inputs n m (Given input) xs us l h = IsFront-refl (list_at inputs input)
form_list-front kinds inputs n m (Constant value) xs us l h = IsFront-replicate value (n + 1) (m + 1) (omega arith)
form_list-front kinds inputs n m (Pointwise op) xs us l h = item_by_item-front (arity op) (op_value op) xs us (arity-some op) (op_value-lacks op) h
form_list-front kinds inputs n m (Hosted op) xs us l h = item_by_item-front 2 (λ a b c. hosted_value kinds op a b) xs us (omega arith) (hosted_value-looks kinds op) h
form_list-front kinds inputs n m (Kept word) xs us l h = kept-front word (list_at xs 0) (list_at us 0) (h 0)
form_list-front kinds inputs n m (Merged word) xs us l h = merged-front word (list_at xs 0) (list_at xs 1) (list_at us 0) (list_at us 1) (h 0) (h 1)
form_list-front kinds inputs n m (Delayed first) xs us l h = (refl, h 0)
form_list-front kinds inputs n m Same xs us l h = h 0
