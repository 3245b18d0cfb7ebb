-- What an event makes of the items that are held.
use Rattle.std.proofs.Common.{ℕ, ◌+◌, ◌<◌, ◌≡◌, List, [], ◌∷◌, ◌++◌, length, take, drop, ap, sym, ◌∙◌, arith, get_or-drop}
use Rattle.std.specs.Prelude.{ℤ, pos}
use Rattle.std.proofs.lemmas.List.{drop-append-le, drop_more}
use Rattle.lucy_stream.specs.Items.{item_at}
use Rattle.lucy_stream.proofs.FrontLaws.{IsFront-length}
use Rattle.lucy_stream.specs.Systems.{RingOp, Takes, Gives, op_at}
use Rattle.lucy_stream.specs.Runs.{IsPossible}
use Rattle.lucy_stream.specs.States.{Machine, State, held, event, IsState}
use Rattle.lucy_stream.proofs.EventLaws.{gave_after-give, gave_after-other, took_after-take, took_after-other, next_length}

-- what takes does not give
pub takes_not_gives : (op : RingOp) (r q : ℕ) → op ≡ Takes r → op ≡ Gives q → ⊥
takes_not_gives (Takes x) r q e f = cc
takes_not_gives (Gives x) r q e f = cc

drop_next : (ys : List ℤ) (k : ℕ) → k < length ys → drop k ys ≡ item_at (drop k ys) 0 ∷ drop (k + 1) ys
drop_next ys k l =
    let same : item_at (drop k ys) 0 ≡ item_at ys k = get_or-drop k ys 0 (pos 0) ∙ ap (item_at ys) (omega arith) in
    drop_more ys k (pos 0) l ∙ ap (λ x. x ∷ drop (k + 1) ys) (sym same)

take_one : (xs : List ℤ) (x : ℤ) (rest : List ℤ) → xs ≡ x ∷ rest → take 1 xs ≡ x ∷ []
take_one xs x rest e = ap (take 1) e

some_held : (m : Machine) (s : State) (a r : ℕ) → IsState m s → IsPossible m.sys s.done a → op_at m.sys a (s.done a) ≡ Takes r → length (s.took r) < length (s.gave r)
some_held m s a r is can op = omega (arith, can.item_held r op, is.gave_count r, is.took_count r)

pub held_before : (m : Machine) (s : State) (a r : ℕ) → IsState m s → IsPossible m.sys s.done a → op_at m.sys a (s.done a) ≡ Takes r → held s r ≡ item_at (held s r) 0 ∷ held (event m s a) r
held_before m s a r is can op =
    let v : ℤ = m.value a (s.done a) s.took in
    let some : length (s.took r) < length (s.gave r) = some_held m s a r is can op in
    let gave : (event m s a).gave r ≡ s.gave r = gave_after-other (op_at m.sys a (s.done a)) r v (s.gave r) (takes_not_gives (op_at m.sys a (s.done a)) r r op) in
    let count : length ((event m s a).took r) ≡ length (s.took r) + 1 =
    ap length (took_after-take (op_at m.sys a (s.done a)) r (held s r) (s.took r) op) ∙ next_length (s.took r) (s.gave r) some in
    drop_next (s.gave r) (length (s.took r)) some
    ∙ ap (λ k. item_at (held s r) 0 ∷ drop k (s.gave r)) (sym count) ∙ ap (λ xs. item_at (held s r) 0 ∷ drop (length ((event m s a).took r)) xs) (sym gave)

pub took_item : (m : Machine) (s : State) (a r : ℕ) → IsState m s → IsPossible m.sys s.done a → op_at m.sys a (s.done a) ≡ Takes r → (event m s a).took r ≡ s.took r ++ item_at (held s r) 0 ∷ []
took_item m s a r is can op =
    took_after-take (op_at m.sys a (s.done a)) r (held s r) (s.took r) op
    ∙ ap (λ xs. s.took r ++ xs) (take_one (held s r) (item_at (held s r) 0) (held (event m s a) r) (held_before m s a r is can op))

pub gave_item : (m : Machine) (s : State) (a r : ℕ) → IsState m s → op_at m.sys a (s.done a) ≡ Gives r → held (event m s a) r ≡ held s r ++ m.value a (s.done a) s.took ∷ []
gave_item m s a r is op =
    let v : ℤ = m.value a (s.done a) s.took in
    let took : (event m s a).took r ≡ s.took r = took_after-other (op_at m.sys a (s.done a)) r (held s r) (s.took r) (λ (e : op_at m.sys a (s.done a) ≡ Takes r). takes_not_gives (op_at m.sys a (s.done a)) r r e op) in
    ap (λ xs. drop (length xs) ((event m s a).gave r)) took
    ∙ ap (drop (length (s.took r))) (gave_after-give (op_at m.sys a (s.done a)) r v (s.gave r) op)
    ∙ drop-append-le (length (s.took r)) (s.gave r) (v ∷ []) (IsFront-length (s.took r) (s.gave r) (is.fronts r))

pub took_other : (m : Machine) (s : State) (a r : ℕ) → (op_at m.sys a (s.done a) ≡ Takes r → ⊥) → (event m s a).took r ≡ s.took r
took_other m s a r ne = took_after-other (op_at m.sys a (s.done a)) r (held s r) (s.took r) ne

pub held_other : (m : Machine) (s : State) (a r : ℕ) → (op_at m.sys a (s.done a) ≡ Takes r → ⊥) → (op_at m.sys a (s.done a) ≡ Gives r → ⊥) → held (event m s a) r ≡ held s r
held_other m s a r nt ng =
    ap (λ xs. drop (length xs) ((event m s a).gave r)) (took_other m s a r nt)
    ∙ ap (drop (length (s.took r))) (gave_after-other (op_at m.sys a (s.done a)) r (m.value a (s.done a) s.took) (s.gave r) ng)
