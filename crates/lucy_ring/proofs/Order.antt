-- What is handed on at a meet.
use Rattle.std.proofs.Common.{◌≡◌, ℕ, ◌≤◌, ◌⊎◌, inl, inr, ◌∙◌, sym, refl, List, [], ap, length, take, drop, ◌++◌, vec_len, ℤ, arith, rules}
use Rattle.std.proofs.lemmas.List.{drop-append-le, take-append-drop, append_assoc, append-nil}
use Rattle.std.proofs.lemmas.Bool.{cases_lt}
use Rattle.std.proofs.Math.ListN.{drop_of_length-le}
use Rattle.rtrb.specs.Ring.{received}
use Rattle.lucy_ring.specs.declared.taker_end.TakerEnd.{TakerEnd}
use Rattle.lucy_ring.specs.Ring.{held, taken, popped_before}

pub swapped : {A : Type 0} → (t e x d m : List A) → (e ≡ []) ⊎ (x ≡ []) → (t ++ e) ++ ((x ++ d) ++ m) ≡ (t ++ x) ++ ((e ++ d) ++ m)
swapped t e x d m none = elim none [ inl h ↦ rw h (simp (append_assoc, append-nil) refl) | inr h ↦ rw h (simp (append_assoc, append-nil) refl) ]

-- the items since `base` are those that were popped since, and the rest
pub rest : {A : Type 0} → (base : ℕ) (popped sent : List A) → base ≤ length popped → take (length popped) sent ≡ popped → drop base sent ≡ drop base popped ++ drop (length popped) sent
rest base popped sent h front =
    let whole : sent ≡ popped ++ drop (length popped) sent = sym (take-append-drop (length popped) sent) ∙ ap (λ l. l ++ drop (length popped) sent) front in
    ap (λ l. drop base l) whole ∙ drop-append-le base popped _ h

pub handed_on : (t : TakerEnd) (sent more : List ℤ) → take (length (received t.items)) sent ≡ received t.items
    → held t ++ (drop (popped_before t) sent ++ more) ≡ taken t ++ (drop t.place t.side.items ++ drop (length (received t.items)) sent ++ more)
handed_on t sent more front =
    let some : (drop t.place t.side.items ≡ []) ⊎ (drop (popped_before t) (received t.items) ≡ []) =
    elim (cases_lt t.place (vec_len t.side)) [ inl h ↦ inr (drop_of_length-le (received t.items) (let z = t.in_turn h in omega (arith, z))) | inr h ↦ inl (drop_of_length-le t.side.items (search rules)) ] in
    let parts = take-append-drop t.place t.side.items in
    let all = rest (popped_before t) (received t.items) sent (omega arith) front in
    let moved = swapped (take t.place t.side.items) (drop t.place t.side.items) (drop (popped_before t) (received t.items)) (drop (length (received t.items)) sent) more some in
    cc
