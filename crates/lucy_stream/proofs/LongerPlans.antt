-- Actors with as many firings or more have longer lists of operations, with the same values.
use Rattle.std.proofs.Common.{ℕ, suc, zero, ◌<◌, ◌≤◌, ◌≡◌, List, [], ◌∷◌, ◌++◌, map, length, get_or, take, ap, sym, refl, ◌∙◌, subst, inl, inr, arith, length-append}
use Rattle.std.specs.Prelude.{ℤ, Option, Some, None, slice_get, replicate}
use Rattle.std.specs.List.{AllZip}
use Rattle.std.proofs.lemmas.Bool.{cases_eq}
use Rattle.std.proofs.lemmas.List.{get_or-take, take_all, take-append-le}
use Rattle.lucy_host.specs.declared.kind.HostKind.{HostKind}
use Rattle.lucy_stream.specs.Items.{list_at}
use Rattle.lucy_stream.specs.Fronts.{AreFronts}
use Rattle.lucy_stream.specs.Forms.{Form, Given}
use Rattle.lucy_stream.specs.Firings.{fire_value}
use Rattle.lucy_stream.proofs.FrontLaws.{IsFront-item}
use Rattle.lucy_stream.specs.Operations.{firing_ops, ops_of, fired_at}
use Rattle.lucy_stream.specs.Plans.{Task, Plan, task_ops, system, task_value, machine, HasInput, IsFed}
use Rattle.lucy_stream.specs.Horizons.{IsLonger, KeepsValues, IsLongerTask, IsLongerPlan}
use Rattle.lucy_stream.proofs.OperatingLaws.{IsIn, same_length, find_firing}

-- a list that grows by appending
record IsGrown {X : Type 0} (xs ys : List X) : Type 0 where
  pub lengths : length xs ≤ length ys
  pub front : take (length xs) ys ≡ xs

grown : {X : Type 0} (lists more : ℕ → List X) → ((n : ℕ) → lists (suc n) ≡ lists n ++ more n) → (q k : ℕ) → q ≤ k → IsGrown (lists q) (lists k)
grown lists more h q zero l = (let same : q ≡ 0 = omega arith in subst (λ n. IsGrown (lists n) (lists 0)) (sym same) (record { lengths = omega arith; front = take_all (length (lists 0)) (lists 0) (omega arith) }))
grown lists more h q (suc k) l = elim (cases_eq q (suc k)) [
  | inl same ↦ subst (λ n. IsGrown (lists q) (lists n)) same (record { lengths = omega arith; front = take_all (length (lists q)) (lists q) (omega arith) })
  | inr before ↦
      let rest : IsGrown (lists q) (lists k) = grown lists more h q k (omega arith) in
      record {
        lengths = omega (arith, rest.lengths, ap length (h k), length-append (lists k) (more k));
        front = ap (take (length (lists q))) (h k) ∙ take-append-le (length (lists q)) (lists k) (more k) rest.lengths ∙ rest.front;
      }
]

ops_grown : (form : Form) (takes gives : List ℕ) (q k : ℕ) → q ≤ k → IsGrown (ops_of form takes gives q) (ops_of form takes gives k)
ops_grown form takes gives = grown (ops_of form takes gives) (firing_ops form takes gives) (λ n. refl)

fired_grown : (form : Form) (takes gives : List ℕ) (q k : ℕ) → q ≤ k → IsGrown (fired_at form takes gives q) (fired_at form takes gives k)
fired_grown form takes gives = grown (fired_at form takes gives) (λ n. replicate (length (firing_ops form takes gives n)) n) (λ n. refl)

-- the actors of one number in both, or none in both
abbrev IsLongerAt : Option Task → Option Task → Type 0
IsLongerAt None None = Unit {0}
IsLongerAt None (Some longer) = ⊥
IsLongerAt (Some task) None = ⊥
IsLongerAt (Some task) (Some longer) = IsLongerTask task longer

longer_at : (tasks longer : List Task) (a : ℕ) → AllZip IsLongerTask tasks longer → IsLongerAt (slice_get tasks a) (slice_get longer a)
longer_at [] [] a h = tt
longer_at [] (t ∷ longer) a h = absurd h
longer_at (t ∷ tasks) [] a h = absurd h
longer_at (t ∷ tasks) (u ∷ longer) zero h = h.0
longer_at (t ∷ tasks) (u ∷ longer) (suc a) h = longer_at tasks longer a h.1

task_ops_grown : (task longer : Option Task) → IsLongerAt task longer → IsGrown (task_ops task) (task_ops longer)
task_ops_grown None None h = record { lengths = omega arith; front = refl }
task_ops_grown None (Some u) h = absurd h
task_ops_grown (Some t) None h = absurd h
task_ops_grown (Some t) (Some u) h =
    let same : ops_of t.form t.takes t.gives u.quota ≡ task_ops (Some u) =
    ap (λ f. ops_of f t.takes t.gives u.quota) (sym h.form) ∙ ap (λ xs. ops_of u.form xs t.gives u.quota) (sym h.takes) ∙ ap (λ xs. ops_of u.form u.takes xs u.quota) (sym h.gives) in
    subst (IsGrown (task_ops (Some t))) same (ops_grown t.form t.takes t.gives t.quota u.quota h.quota)

-- inputs that go on give the same to a firing that had its item
fire_value-longer : (kinds : List HostKind) (inputs more : List (List ℤ)) (form : Form) (quota fired : ℕ) (took : List (List ℤ)) → AreFronts inputs more → HasInput inputs form quota → fired < quota →
    fire_value kinds more form fired took ≡ fire_value kinds inputs form fired took
fire_value-longer kinds inputs more (Given input) quota fired took h has l = sym (IsFront-item (list_at inputs input) (list_at more input) fired (h input) (omega arith))
fire_value-longer kinds inputs more form quota fired took h has l = refl

fired_below : (task : Task) (n : ℕ) → n < length (task_ops (Some task)) → get_or (fired_at task.form task.takes task.gives task.quota) n 0 < task.quota
fired_below task n l =
    let found = find_firing task.form task.takes task.gives task.quota n l in
    let at : IsIn task.form task.takes task.gives task.quota n found.0 found.1 = found.2 in
    omega (arith, at.below, at.number)

value_longer : (kinds : List HostKind) (inputs more : List (List ℤ)) (task longer : Option Task) (n : ℕ) (took : ℕ → List ℤ) → AreFronts inputs more → ((t : Task) → task ≡ Some t → HasInput inputs t.form t.quota) → IsLongerAt task longer → n < length (task_ops task) →
    task_value kinds more longer n took ≡ task_value kinds inputs task n took
value_longer kinds inputs more None None n took fronts fed h l = refl
value_longer kinds inputs more None (Some u) n took fronts fed h l = absurd h
value_longer kinds inputs more (Some t) None n took fronts fed h l = absurd h
value_longer kinds inputs more (Some t) (Some u) n took fronts fed h l =
    let fired : ℕ = get_or (fired_at t.form t.takes t.gives t.quota) n 0 in
    let goes_on : IsGrown (fired_at t.form t.takes t.gives t.quota) (fired_at t.form t.takes t.gives u.quota) = fired_grown t.form t.takes t.gives t.quota u.quota h.quota in
    let within : n < length (fired_at t.form t.takes t.gives t.quota) = omega (arith, same_length t.form t.takes t.gives t.quota) in
    let same : get_or (fired_at t.form t.takes t.gives u.quota) n 0 ≡ fired =
    sym (get_or-take (length (fired_at t.form t.takes t.gives t.quota)) (fired_at t.form t.takes t.gives u.quota) n 0 within) ∙ ap (λ xs. get_or xs n 0) goes_on.front in
    let now : get_or (fired_at u.form u.takes u.gives u.quota) n 0 ≡ fired =
    ap (λ f. get_or (fired_at f u.takes u.gives u.quota) n 0) h.form ∙ ap (λ xs. get_or (fired_at t.form xs u.gives u.quota) n 0) h.takes ∙ ap (λ xs. get_or (fired_at t.form t.takes xs u.quota) n 0) h.gives ∙ same in
    ap (λ k. fire_value kinds more u.form k (map took u.takes)) now ∙ ap (λ f. fire_value kinds more f fired (map took u.takes)) h.form ∙ ap (λ xs. fire_value kinds more t.form fired (map took xs)) h.takes
    ∙ fire_value-longer kinds inputs more t.form t.quota fired (map took t.takes) fronts (fed t refl) (fired_below t n l)

-- more firings of each actor are longer lists
pub IsLonger-plan : (plan longer : Plan) → IsLongerPlan plan longer → IsLonger (system plan) (system longer)
IsLonger-plan plan longer h =
    let tasks : (a : ℕ) → IsGrown (task_ops (slice_get plan.tasks a)) (task_ops (slice_get longer.tasks a)) =
    λ a. task_ops_grown (slice_get plan.tasks a) (slice_get longer.tasks a) (longer_at plan.tasks longer.tasks a h.tasks) in
    record {
      from = h.from;
      to = h.to;
      size = h.size;
      lengths = λ a. (tasks a).lengths;
      ops = λ a. (tasks a).front;
    }

-- which keep their values where the inputs go on
pub KeepsValues-plan : (kinds : List HostKind) (inputs more : List (List ℤ)) (plan longer : Plan) → IsLongerPlan plan longer → IsFed inputs plan → AreFronts inputs more → KeepsValues (machine kinds inputs plan) (machine kinds more longer)
KeepsValues-plan kinds inputs more plan longer h fed fronts a n took l =
    value_longer kinds inputs more (slice_get plan.tasks a) (slice_get longer.tasks a) n took fronts (fed a) (longer_at plan.tasks longer.tasks a h.tasks) l
