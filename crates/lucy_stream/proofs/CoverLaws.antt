-- What an actor gives, on fronts of the iterates' lists, is the item of its own list in the next iterate.
use Rattle.std.proofs.Common.{ℕ, suc, zero, ◌+◌, ◌<◌, ◌≤◌, ◌≡◌, true, false, cond, eqb, List, [], ◌∷◌, map, length, get_or, take, ap, sym, refl, ◌∙◌, subst, arith, add-one}
use Rattle.std.specs.Prelude.{ℤ, count_by, All, Option, Some, None, slice_get}
use Rattle.std.proofs.lemmas.Bool.{eq-eqb}
use Rattle.std.proofs.lemmas.List.{take_all}
use Rattle.std.proofs.lemmas.List.Elements.{All-get_or, All-head, All-tail}
use Rattle.lucy_word.specs.Bits.{bit_at}
use Rattle.lucy_host.specs.declared.kind.HostKind.{HostKind}
use Rattle.lucy_stream.specs.Items.{HasItem, list_at}
use Rattle.lucy_stream.specs.Fronts.{IsFront, AreFronts}
use Rattle.lucy_stream.specs.Forms.{Form, Given, Constant, Kept, operands}
use Rattle.lucy_stream.specs.Lists.{form_list}
use Rattle.lucy_stream.specs.Iterates.{lists_of, iterate}
use Rattle.lucy_stream.specs.Firings.{fire_value, gave_in, HasTaken, IsThere}
use Rattle.lucy_stream.proofs.FrontLaws.{IsFront-length, IsFront-item}
use Rattle.lucy_stream.proofs.ListLaws.{form_list-front}
use Rattle.lucy_stream.proofs.IterateLaws.{iterate-front, iterate-at}
use Rattle.lucy_stream.proofs.FiringLaws.{fire_value-item}
use Rattle.lucy_stream.specs.Systems.{RingOp, Takes, Gives, is_give, is_take}
use Rattle.lucy_stream.specs.Operations.{firing_ops}
use Rattle.lucy_stream.specs.Plans.{Task, Plan, task_ops, task_value, machine, times, IsOperand, IsPluggedAt, IsPlugged, HasInput, IsFed, place_of, places_of}
use Rattle.lucy_stream.proofs.CountLaws.{count_take-lt, eqb-same}
use Rattle.lucy_stream.proofs.GiveCounts.{gives_in, gives_in_firing, gives_in_ops, does_give}
use Rattle.lucy_stream.proofs.TakeCounts.{takes_in_ops, took_here}
use Rattle.lucy_stream.proofs.OperatingLaws.{IsIn, find_firing}
use Rattle.lucy_stream.proofs.TurnLaws.{KeepsTo}

operand_of : (f : ℕ → List ℤ) (xs : List ℕ) (i : ℕ) → i < length xs → list_at (map f xs) i ≡ f (get_or xs i 0)
operand_of f [] i l = absurd (omega arith)
operand_of f (x ∷ xs) zero l = refl
operand_of f (x ∷ xs) (suc i) l = operand_of f xs i (omega arith)

fronts_of : (P : ℕ → Type 0) (f g : ℕ → List ℤ) → ((r : ℕ) → P r → IsFront (f r) (g r)) → (xs : List ℕ) → All P xs → AreFronts (map f xs) (map g xs)
fronts_of P f g h [] all i = tt
fronts_of P f g h (x ∷ xs) all zero = h x (All-head P x xs all)
fronts_of P f g h (x ∷ xs) all (suc i) = fronts_of P f g h xs (All-tail P x xs all) i

-- a ring that a list names once at most is there once
pub once_at : (xs : List ℕ) (i r : ℕ) → i < length xs → get_or xs i 0 ≡ r → times r xs ≤ 1 → times r xs ≡ 1
once_at xs i r l e most =
    let here : eqb (get_or xs i 0) r ≡ true = eq-eqb (get_or xs i 0) r e in
    let some : count_by (λ s. eqb s r) (take i xs) < count_by (λ s. eqb s r) (take (length xs) xs) = count_take-lt (λ s. eqb s r) xs i (length xs) 0 l l here in
    let all : count_by (λ s. eqb s r) (take (length xs) xs) ≡ times r xs = ap (count_by (λ s. eqb s r)) (take_all (length xs) xs (omega arith)) in
    omega arith

pub gives_in-le : (form : Form) (gives : List ℕ) (k r : ℕ) → gives_in form gives k r ≤ times r gives
gives_in-le (Kept word) gives k r = elim (bit_at word (k + 1)) as (λ b. cond b (times r gives) 0 ≤ times r gives) [ true ↦ omega arith | false ↦ omega arith ]
gives_in-le form gives k r = omega arith

-- what a firing without operands gives is there in time
there_in_time : (inputs : List (List ℤ)) (n : ℕ) (form : Form) (quota fired : ℕ) → HasInput inputs form quota → fired < quota → gave_in form fired ≤ n → IsThere inputs n form fired
there_in_time inputs n (Given input) quota fired fed l le = omega arith
there_in_time inputs n (Constant value) quota fired fed l le = le
there_in_time inputs n form quota fired fed l le = tt

-- a give of a task is in a firing, and how many of its ring stand before it
pub record GivesAt (task : Task) (k r fired i : ℕ) : Type 0 where
  pub at : IsIn task.form task.takes task.gives task.quota k fired i
  pub here : get_or (firing_ops task.form task.takes task.gives fired) i (Takes 0) ≡ Gives r
  pub once : times r task.gives ≡ 1
  pub before : count_by (is_give r) (take k (task_ops (Some task))) ≡ gave_in task.form fired

pub gives_at : (task : Task) (k r : ℕ) → times r task.gives ≤ 1 → k < length (task_ops (Some task)) → get_or (task_ops (Some task)) k (Takes 0) ≡ Gives r → (fired : ℕ) × (i : ℕ) × GivesAt task k r fired i
gives_at task k r most l op =
    let found = find_firing task.form task.takes task.gives task.quota k l in
    let fired : ℕ = found.0 in
    let i : ℕ = found.1 in
    let at : IsIn task.form task.takes task.gives task.quota k fired i = found.2 in
    let xs : List RingOp = firing_ops task.form task.takes task.gives fired in
    let here : get_or xs i (Takes 0) ≡ Gives r = sym at.op ∙ op in
    let is : is_give r (get_or xs i (Takes 0)) ≡ true = ap (is_give r) here ∙ eqb-same r in
    let some : count_by (is_give r) (take i xs) < count_by (is_give r) (take (length xs) xs) = count_take-lt (is_give r) xs i (length xs) (Takes 0) at.within at.within is in
    let all : count_by (is_give r) (take (length xs) xs) ≡ count_by (is_give r) xs = ap (count_by (is_give r)) (take_all (length xs) xs (omega arith)) in
    let in_one : count_by (is_give r) xs ≡ gives_in task.form task.gives fired r = gives_in_firing task.form task.takes task.gives fired r in
    let once : times r task.gives ≡ 1 = omega (arith, gives_in-le task.form task.gives fired r) in (
      fired,
      i,
      record {
        at = at;
        here = here;
        once = once;
        before = omega (arith, at.before (is_give r), gives_in_ops task.form task.takes task.gives fired r once, gives_in-le task.form task.gives fired r);
      },
    )

-- what a give gives is the next item of the list that its form makes of what was taken
gives_item : (kinds : List HostKind) (inputs : List (List ℤ)) (plan : Plan) (a n k r : ℕ) (took : ℕ → List ℤ) (task : Task) → IsPluggedAt plan a task → HasInput inputs task.form task.quota →
    count_by (is_give r) (take k (task_ops (Some task))) ≤ n → k < length (task_ops (Some task)) → get_or (task_ops (Some task)) k (Takes 0) ≡ Gives r →
    ((q : ℕ) → plan.to q ≡ a → length (took q) ≡ count_by (is_take q) (take k (task_ops (Some task)))) →
    HasItem (form_list kinds inputs n task.form (map took task.takes)) (count_by (is_give r) (take k (task_ops (Some task)))) (task_value kinds inputs (Some task) k took)
gives_item kinds inputs plan a n k r took task is fed le l op len =
    let form : Form = task.form in
    let ts : List ℕ = task.takes in
    let found = gives_at task k r (is.gives_once r) l op in
    let fired : ℕ = found.0 in
    let i : ℕ = found.1 in
    let gives : GivesAt task k r fired i = found.2 in
    let at : IsIn form ts task.gives task.quota k fired i = gives.at in
    let taken : HasTaken form fired (map took ts) = λ j (below : j < operands form).
    let q : ℕ = get_or ts j 0 in
    let there : j < length ts = omega (arith, is.arity) in
    let operand : IsOperand ts j q = record { there = there; is = refl; once = once_at ts j q there refl (is.takes_once q) } in
    let mine : plan.to q ≡ a = All-get_or (λ s. plan.to s ≡ a) ts j 0 there is.takes in
    let size : length (list_at (map took ts) j) ≡ length (took q) = ap length (operand_of took ts j there) in
    omega (arith, len q mine, at.before (is_take q), takes_in_ops form ts task.gives fired j q is.arity operand, took_here form ts task.gives fired i j q r is.arity operand at.within gives.here) in
    let upto : gave_in form fired ≤ n = omega (arith, gives.before) in
    let item : HasItem (form_list kinds inputs n form (map took ts)) (gave_in form fired) (fire_value kinds inputs form fired (map took ts)) =
    fire_value-item kinds inputs n form fired (map took ts) (there_in_time inputs n form task.quota fired fed at.below upto) taken (does_give form ts task.gives fired i r gives.here) in
    let same : task_value kinds inputs (Some task) k took ≡ fire_value kinds inputs form fired (map took ts) = ap (λ t. fire_value kinds inputs form t (map took ts)) at.number in
    subst (λ t. HasItem (form_list kinds inputs n form (map took ts)) t (task_value kinds inputs (Some task) k took)) (sym gives.before) (item.0, same ∙ item.1)

map_map : (f : ℕ → List ℤ) (g : ℕ → ℕ) (xs : List ℕ) → map f (map g xs) ≡ map (λ x. f (g x)) xs
map_map f g [] = refl
map_map f g (x ∷ xs) = ap (λ t. f (g x) ∷ t) (map_map f g xs)

place_at : (plan : Plan) (a : ℕ) (tasks : List Task) (task : Task) → slice_get tasks a ≡ Some task → slice_get (map (place_of plan) tasks) a ≡ Some (place_of plan task)
place_at plan a [] task e = cc
place_at plan zero (t ∷ tasks) task e = (let same : t ≡ task = cc in ap (λ u. Some (place_of plan u)) same)
place_at plan (suc a) (t ∷ tasks) task e = place_at plan a tasks task e

covers_at : (kinds : List HostKind) (inputs : List (List ℤ)) (plan : Plan) (a n k r : ℕ) (took : ℕ → List ℤ) → IsPlugged plan → IsFed inputs plan → (task : Option Task) → slice_get plan.tasks a ≡ task →
    count_by (is_give r) (take k (task_ops task)) ≤ n → k < length (task_ops task) → get_or (task_ops task) k (Takes 0) ≡ Gives r →
    ((q : ℕ) → plan.to q ≡ a → length (took q) ≡ count_by (is_take q) (take k (task_ops task))) →
    ((q : ℕ) → plan.to q ≡ a → IsFront (took q) (list_at (iterate kinds inputs (places_of plan) n) (plan.from q))) →
    HasItem (list_at (iterate kinds inputs (places_of plan) (suc n)) a) (count_by (is_give r) (take k (task_ops task))) (task_value kinds inputs task k took)
covers_at kinds inputs plan a n k r took plugged fed None e le l op len fronts = absurd (omega arith)
covers_at kinds inputs plan a n k r took plugged fed (Some task) e le l op len fronts =
    let is : IsPluggedAt plan a task = plugged a task e in
    let before : List (List ℤ) = iterate kinds inputs (places_of plan) n in
    let from : ℕ → ℕ = λ (q : ℕ). plan.from q in
    let mine : List ℤ = form_list kinds inputs n task.form (map took task.takes) in
    let theirs : List ℤ = form_list kinds inputs n task.form (lists_of before (map from task.takes)) in
    let j : ℕ = count_by (is_give r) (take k (task_ops (Some task))) in
    let item : HasItem mine j (task_value kinds inputs (Some task) k took) = gives_item kinds inputs plan a n k r took task is (fed a task e) le l op len in
    let parts : AreFronts (map took task.takes) (map (λ (q : ℕ). list_at before (from q)) task.takes) =
    fronts_of (λ q. plan.to q ≡ a) took (λ (q : ℕ). list_at before (from q)) fronts task.takes is.takes in
    let joined : AreFronts (map took task.takes) (lists_of before (map from task.takes)) = subst (AreFronts (map took task.takes)) (sym (map_map (list_at before) from task.takes)) parts in
    let front : IsFront mine theirs = form_list-front kinds inputs n n task.form (map took task.takes) (lists_of before (map from task.takes)) (omega arith) joined in
    let here : list_at (iterate kinds inputs (places_of plan) (suc n)) a ≡ theirs = iterate-at kinds inputs (places_of plan) n a (place_of plan task) (place_at plan a plan.tasks task e) in
    subst (λ xs. HasItem xs j (task_value kinds inputs (Some task) k took)) (sym here) (omega (arith, item.0, IsFront-length mine theirs front), item.1 ∙ IsFront-item mine theirs j front item.0)

-- the machine of plugged actors keeps to the iterates of their places
pub KeepsTo-plan : (kinds : List HostKind) (inputs : List (List ℤ)) (plan : Plan) → IsPlugged plan → IsFed inputs plan → KeepsTo (machine kinds inputs plan) (λ (n a : ℕ). list_at (iterate kinds inputs (places_of plan) n) a)
KeepsTo-plan kinds inputs plan plugged fed = record {
  grows = λ n a. subst (λ m. IsFront (list_at (iterate kinds inputs (places_of plan) n) a) (list_at (iterate kinds inputs (places_of plan) m) a)) (sym (add-one n)) (iterate-front kinds inputs (places_of plan) n a);
  covers = λ a n k r took le l op len fronts.
      subst (λ m. HasItem (list_at (iterate kinds inputs (places_of plan) m) a) (count_by (is_give r) (take k (task_ops (slice_get plan.tasks a)))) (task_value kinds inputs (slice_get plan.tasks a) k took)) (sym (add-one n))
      (covers_at kinds inputs plan a n k r took plugged fed (slice_get plan.tasks a) refl le l op len fronts);
}
