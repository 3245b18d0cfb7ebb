-- How many items were taken since the last meeting.
use Rattle.std.proofs.Common.{◌≡◌, ℕ, ◌+◌, ◌-◌, ◌≤◌, List, length, take, drop, ◌++◌, arith, rules}
use Rattle.std.proofs.lemmas.List.{length-append, length-take-le, length-drop}
use Rattle.lucy_ring.specs.declared.taker_end.TakerEnd.{TakerEnd}
use Rattle.lucy_ring.specs.Ring.{taken}

since : {A : Type 0} → (xs ys : List A) (n k : ℕ) → n ≤ length xs → k ≤ length ys → length (take n xs ++ drop (length ys - k) ys) ≡ n + k
since xs ys n k h m = omega (arith, length-append (take n xs) (drop (length ys - k) ys), length-take-le n xs h, length-drop (length ys - k) ys)

pub taken_length : (t : TakerEnd) → length (taken t) ≡ t.place + t.popped
taken_length t = since _ _ _ _ (search rules) (search rules)
