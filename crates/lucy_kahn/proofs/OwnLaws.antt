-- The lists of places that read in their own instance.
use Rattle.std.proofs.Common.{ℕ, zero, suc, ◌-◌, ◌≤◌, ◌≡◌, List, [], ◌∷◌, ◌++◌, Some, length, map, set, replicate, ap, sym, refl, ◌∙◌, arith}
use Rattle.std.specs.Prelude.{ℤ, slice_get, slice_index_or}
use Rattle.std.specs.List.{AllByRecursion, range_with_len}
use Rattle.std.proofs.lemmas.Option.{get_or_from_slice_get}
use Rattle.lucy_host.specs.Arity.{arity}
use Rattle.lucy_host.specs.OpValue.{op_value}
use Rattle.lucy_host.specs.declared.op.Op.{Op}
use Rattle.lucy_host.specs.declared.op.Op.TheVariants as op
use Rattle.lucy_host.specs.declared.kind.HostKind.{HostKind}
use Rattle.lucy_stream.specs.Items.{list_at}
use Rattle.lucy_stream.specs.Forms.{Pointwise}
use Rattle.lucy_stream.specs.Lists.{item_by_item, form_list}
use Rattle.lucy_kahn.specs.Outcomes.{most_items}
use Rattle.lucy_kahn.specs.Turns.{own_at, AreShort}

-- the list of a place that is there
pub at_is : (own : List (List ℤ)) (place : ℕ) (list : List ℤ) → slice_get own (place - 1) ≡ Some list → list ≡ own_at own place
at_is own place list e = sym (get_or_from_slice_get own (place - 1) list [] e)

-- an operator looks at the lists of its operands alone
pointwise_law : (kinds : List HostKind) (n : ℕ) (o : Op) (lists : List (List ℤ)) →
    item_by_item (arity o) (op_value o) (list_at lists 0 ∷ list_at lists 1 ∷ list_at lists 2 ∷ []) ≡ form_list kinds [] n (Pointwise o) lists
pointwise_law kinds n op.Not lists = refl
pointwise_law kinds n op.If lists = refl
pointwise_law kinds n _ lists = refl

pub operands_law : (kinds : List HostKind) (n : ℕ) (o : Op) (lists : List (List ℤ)) (a b c : List ℤ) → a ≡ list_at lists 0 → b ≡ list_at lists 1 → c ≡ list_at lists 2 →
    item_by_item (arity o) (op_value o) (a ∷ b ∷ c ∷ []) ≡ form_list kinds [] n (Pointwise o) lists
operands_law kinds n o lists a b c d e f =
    let made : List (List ℤ) → List ℤ = λ xs. item_by_item (arity o) (op_value o) xs in
    ap (λ x. made (x ∷ b ∷ c ∷ [])) d ∙ ap (λ x. made (list_at lists 0 ∷ x ∷ c ∷ [])) e ∙ ap (λ x. made (list_at lists 0 ∷ list_at lists 1 ∷ x ∷ [])) f ∙ pointwise_law kinds n o lists

-- a list of those that are short
pub short_at : (own : List (List ℤ)) (i : ℕ) → AreShort own → length (list_at own i) ≤ most_items
short_at [] i all = omega arith
short_at (x ∷ own) zero all = all.0
short_at (x ∷ own) (suc i) all = short_at own i all.1

-- one more list behind others that are short
pub short_push : (lists : List (List ℤ)) (list : List ℤ) → AreShort lists → length list ≤ most_items → AreShort (lists ++ list ∷ [])
short_push [] list all l = (l, tt)
short_push (x ∷ lists) list all l = (all.0, short_push lists list all.1 l)

pub all_push : (each : List (List (List ℤ))) (lists : List (List ℤ)) → AllByRecursion AreShort each → AreShort lists → AllByRecursion AreShort (each ++ lists ∷ [])
all_push [] lists all l = (l, tt)
all_push (x ∷ each) lists all l = (all.0, all_push each lists all.1 l)

-- a list at the end is put back with an item more
pub last_is : (lists : List (List ℤ)) (list : List ℤ) → slice_index_or (lists ++ list ∷ []) (length lists) [] ≡ list
last_is [] list = refl
last_is (x ∷ lists) list = last_is lists list

-- a list that is written over the last one
pub last_set : (lists : List (List ℤ)) (list new : List ℤ) → set (lists ++ list ∷ []) (length lists) new ≡ lists ++ new ∷ []
last_set [] list new = refl
last_set (x ∷ lists) list new = ap (λ xs. x ∷ xs) (last_set lists list new)

-- one item more at the end of the last list
pub grown_last : (lists : List (List ℤ)) (list : List ℤ) (i : ℕ) (item : ℤ) → i ≡ length lists →
    set (lists ++ list ∷ []) i (slice_index_or (lists ++ list ∷ []) i [] ++ item ∷ []) ≡ lists ++ (list ++ item ∷ []) ∷ []
grown_last lists list i item e =
    ap (λ k. set (lists ++ list ∷ []) k (slice_index_or (lists ++ list ∷ []) k [] ++ item ∷ [])) e
    ∙ ap (λ xs. set (lists ++ list ∷ []) (length lists) (xs ++ item ∷ [])) (last_is lists list) ∙ last_set lists list (list ++ item ∷ [])

pub none_lists : (count a : ℕ) → replicate {A = List ℤ} count [] ≡ map (λ p. []) (range_with_len a count)
none_lists zero a = refl
none_lists (suc n) a = ap (λ xs. [] ∷ xs) (none_lists n _)

pub none_short : (count : ℕ) → AreShort (replicate count [])
none_short zero = tt
none_short (suc n) = (omega arith, none_short n)
