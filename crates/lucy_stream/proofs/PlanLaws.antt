-- Actors that are plugged together: each operates on its own rings alone, and gives by what it took alone.
use Rattle.std.proofs.Common.{ℕ, suc, zero, ◌+◌, ◌<◌, ◌≡◌, true, false, cond, List, [], ◌∷◌, ◌++◌, map, length, get_or, ap, refl, subst, arith}
use Rattle.std.specs.Prelude.{ℤ, All, Option, Some, None, slice_get}
use Rattle.std.proofs.lemmas.List.Elements.{All-append, All-get_or, All-cons, All-nil, All-map, All-head, All-tail}
use Rattle.lucy_word.specs.Bits.{bit_at}
use Rattle.lucy_host.specs.declared.kind.HostKind.{HostKind}
use Rattle.lucy_stream.specs.Forms.{Form, Kept, Merged, Delayed, operands}
use Rattle.lucy_stream.specs.Firings.{fire_value}
use Rattle.lucy_stream.specs.Systems.{RingOp, Takes, Gives, IsWired}
use Rattle.lucy_stream.specs.States.{IsLocal}
use Rattle.lucy_stream.specs.Operations.{firing_ops, ops_of, fired_at}
use Rattle.lucy_stream.specs.Plans.{Task, Plan, task_ops, system, task_value, machine, IsPluggedAt, IsPlugged}

-- an operation on a ring of the actor
abbrev pub IsOwn : Plan → ℕ → RingOp → Type 0
IsOwn plan a (Takes r) = plan.to r ≡ a
IsOwn plan a (Gives r) = plan.from r ≡ a

own_gives : (plan : Plan) (a : ℕ) (task : Task) → IsPluggedAt plan a task → All (IsOwn plan a) (map Gives task.gives)
own_gives plan a task is = All-map (IsOwn plan a) Gives task.gives is.gives

own_takes : (plan : Plan) (a : ℕ) (task : Task) → IsPluggedAt plan a task → All (IsOwn plan a) (map Takes task.takes)
own_takes plan a task is = All-map (IsOwn plan a) Takes task.takes is.takes

own_firing : (plan : Plan) (a : ℕ) (task : Task) → IsPluggedAt plan a task → (form : Form) → length task.takes ≡ operands form → (k : ℕ) → All (IsOwn plan a) (firing_ops form task.takes task.gives k)
own_firing plan a task is (Kept word) l k =
    let both : All (IsOwn plan a) (map Takes task.takes ++ map Gives task.gives) = All-append (IsOwn plan a) (map Takes task.takes) (map Gives task.gives) (own_takes plan a task is) (own_gives plan a task is) in
    let one : All (IsOwn plan a) (map Takes task.takes ++ []) = All-append (IsOwn plan a) (map Takes task.takes) [] (own_takes plan a task is) (All-nil (IsOwn plan a)) in
    elim (bit_at word (k + 1)) as (λ c. All (IsOwn plan a) (map Takes task.takes ++ cond c (map Gives task.gives) [])) [ true ↦ both | false ↦ one ]
own_firing plan a task is (Merged word) l k =
    let first : plan.to (get_or task.takes 0 0) ≡ a = All-get_or (λ r. plan.to r ≡ a) task.takes 0 0 (omega arith) is.takes in
    let second : plan.to (get_or task.takes 1 0) ≡ a = All-get_or (λ r. plan.to r ≡ a) task.takes 1 0 (omega arith) is.takes in
    All-cons (IsOwn plan a) (Takes (cond (bit_at word (k + 1)) (get_or task.takes 0 0) (get_or task.takes 1 0))) (map Gives task.gives)
    (elim (bit_at word (k + 1)) as (λ c. plan.to (cond c (get_or task.takes 0 0) (get_or task.takes 1 0)) ≡ a) [ true ↦ first | false ↦ second ])
    (own_gives plan a task is)
own_firing plan a task is (Delayed first) l k = All-append (IsOwn plan a) (map Gives task.gives) (map Takes task.takes) (own_gives plan a task is) (own_takes plan a task is)
own_firing plan a task is form l k = All-append (IsOwn plan a) (map Takes task.takes) (map Gives task.gives) (own_takes plan a task is) (own_gives plan a task is)

own_ops : (plan : Plan) (a : ℕ) (task : Task) → IsPluggedAt plan a task → (quota : ℕ) → All (IsOwn plan a) (ops_of task.form task.takes task.gives quota)
own_ops plan a task is zero = All-nil (IsOwn plan a)
own_ops plan a task is (suc k) =
    All-append (IsOwn plan a) (ops_of task.form task.takes task.gives k) (firing_ops task.form task.takes task.gives k) (own_ops plan a task is k) (own_firing plan a task is task.form is.arity k)

own_at : (plan : Plan) (a n : ℕ) → IsPlugged plan → (task : Option Task) → slice_get plan.tasks a ≡ task → n < length (task_ops task) → IsOwn plan a (get_or (task_ops task) n (Takes 0))
own_at plan a n is None e l = absurd (omega arith)
own_at plan a n is (Some task) e l = All-get_or (IsOwn plan a) (task_ops (Some task)) n (Takes 0) l (own_ops plan a task (is a task e) task.quota)

-- only a ring's own actors operate on it
pub IsWired-plan : (plan : Plan) → IsPlugged plan → IsWired (system plan)
IsWired-plan plan is = record {
  giver = λ a n r l op. subst (IsOwn plan a) op (own_at plan a n is (slice_get plan.tasks a) refl l);
  taker = λ a n r l op. subst (IsOwn plan a) op (own_at plan a n is (slice_get plan.tasks a) refl l);
}

map_alike : (P : ℕ → Type 0) (f g : ℕ → List ℤ) → ((r : ℕ) → P r → f r ≡ g r) → (xs : List ℕ) → All P xs → map f xs ≡ map g xs
map_alike P f g h [] all = refl
map_alike P f g h (x ∷ xs) all =
    let first : f x ≡ g x = h x (All-head P x xs all) in
    let rest : map f xs ≡ map g xs = map_alike P f g h xs (All-tail P x xs all) in
    cc

local_at : (kinds : List HostKind) (inputs : List (List ℤ)) (plan : Plan) (a n : ℕ) (f g : ℕ → List ℤ) → IsPlugged plan → ((r : ℕ) → plan.to r ≡ a → f r ≡ g r) → (task : Option Task) → slice_get plan.tasks a ≡ task →
    task_value kinds inputs task n f ≡ task_value kinds inputs task n g
local_at kinds inputs plan a n f g is h None e = refl
local_at kinds inputs plan a n f g is h (Some task) e =
    ap (fire_value kinds inputs task.form (get_or (fired_at task.form task.takes task.gives task.quota) n 0))
    (map_alike (λ r. plan.to r ≡ a) f g h task.takes (is a task e).takes)

-- what an actor gives depends on what it took alone
pub IsLocal-plan : (kinds : List HostKind) (inputs : List (List ℤ)) (plan : Plan) → IsPlugged plan → IsLocal (machine kinds inputs plan)
IsLocal-plan kinds inputs plan is a n f g h = local_at kinds inputs plan a n f g is h (slice_get plan.tasks a) refl
