-- A run leads from state to state: the counts are those of the lists, and each give is of what the actor had taken.
use Rattle.std.proofs.Common.{ℕ, ◌+◌, ◌<◌, ◌≤◌, ◌≡◌, List, [], ◌∷◌, length, take, ap, sym, refl, ◌∙◌, subst, inl, inr, arith, length-drop}
use Rattle.std.specs.Prelude.{ℤ, pos}
use Rattle.std.proofs.lemmas.Bool.{cases_lt, cases_eq}
use Rattle.std.proofs.lemmas.List.{take_all, length_push, get_or_push}
use Rattle.lucy_stream.specs.Items.{item_at}
use Rattle.lucy_stream.specs.Systems.{RingOp, Takes, Gives, op_at, IsWired, is_give, is_take, gives_before, takes_before, given, taken}
use Rattle.lucy_stream.specs.Runs.{IsPossible, none_done, step, IsRun}
use Rattle.lucy_stream.specs.States.{Machine, IsLocal, State, start, held, event, events, IsState}
use Rattle.lucy_stream.proofs.CountLaws.{count_take-le, count_take-lt, eqb-same, step-same, step-other, given-none, taken-none, given-is, taken-is, gives_next, takes_next}
use Rattle.lucy_stream.proofs.RunLaws.{IsWithin-step, IsWithin-none}
use Rattle.lucy_stream.proofs.EventLaws.{gave_after-give, gave_after-other, took_after-take, took_after-other, gave_after-item, took_after-take_front, front_after, next_length}

gave_length : (m : Machine) (s : State) (a r : ℕ) → IsWired m.sys → s.done a < length (m.sys.ops a) → length (s.gave r) ≡ given m.sys s.done r →
    length ((event m s a).gave r) ≡ given m.sys (step s.done a) r
gave_length m s a r wired l h =
    let op : RingOp = op_at m.sys a (s.done a) in
    let v : ℤ = m.value a (s.done a) s.took in
    elim (gives_next m.sys s.done a r wired l) [
      | inl g ↦ ap length (gave_after-give op r v (s.gave r) g.0) ∙ length_push (s.gave r) v ∙ omega (arith, g.1)
      | inr g ↦ ap length (gave_after-other op r v (s.gave r) g.0) ∙ omega (arith, g.1)
    ]

took_length : (m : Machine) (s : State) (a r : ℕ) → IsWired m.sys → IsPossible m.sys s.done a → length (s.gave r) ≡ given m.sys s.done r → length (s.took r) ≡ taken m.sys s.done r →
    length ((event m s a).took r) ≡ taken m.sys (step s.done a) r
took_length m s a r wired possible g h =
    let op : RingOp = op_at m.sys a (s.done a) in
    elim (takes_next m.sys s.done a r wired possible.left) [
      | inl t ↦
          ap length (took_after-take op r (held s r) (s.took r) t.0) ∙ next_length (s.took r) (s.gave r) (omega (arith, possible.item_held r t.0)) ∙ omega (arith, t.1)
      | inr t ↦ ap length (took_after-other op r (held s r) (s.took r) t.0) ∙ omega (arith, t.1)
    ]

-- what an actor's operation so far had taken is there
pub before_le : (m : Machine) (s : State) (b n q : ℕ) → m.sys.to q ≡ b → n ≤ s.done b → length (s.took q) ≡ taken m.sys s.done q → takes_before m.sys b n q ≤ length (s.took q)
before_le m s b n q t l h = omega (arith, taken-is m.sys s.done b (s.done b) q t refl, count_take-le (is_take q) (m.sys.ops b) n (s.done b) l)

-- so its value stays
same_value : (m : Machine) (s : State) (a b n : ℕ) → IsLocal m → ((r : ℕ) → length (s.took r) ≡ taken m.sys s.done r) → n ≤ s.done b →
    m.value b n (λ q. take (takes_before m.sys b n q) (s.took q)) ≡ m.value b n (λ q. take (takes_before m.sys b n q) ((event m s a).took q))
same_value m s a b n local counts l =
    local b n (λ q. take (takes_before m.sys b n q) (s.took q)) (λ q. take (takes_before m.sys b n q) ((event m s a).took q))
    (λ q t. sym (took_after-take_front (op_at m.sys a (s.done a)) q (held s q) (s.took q) (takes_before m.sys b n q) (before_le m s b n q t l (counts q))))

-- and the new operation gives its value
new_value : (m : Machine) (s : State) (a r : ℕ) → IsWired m.sys → IsLocal m → IsState m s → s.done a < length (m.sys.ops a) → op_at m.sys a (s.done a) ≡ Gives r →
    item_at ((event m s a).gave r) (gives_before m.sys a (s.done a) r) ≡ m.value a (s.done a) (λ q. take (takes_before m.sys a (s.done a) q) ((event m s a).took q))
new_value m s a r wired local state l op =
    let n : ℕ = s.done a in
    let v : ℤ = m.value a n s.took in
    let place : gives_before m.sys a n r ≡ given m.sys s.done r = given-is m.sys s.done a n r (wired.giver a n r l op) refl in
    let got : item_at ((event m s a).gave r) (gives_before m.sys a n r) ≡ v =
    ap (λ xs. item_at xs (gives_before m.sys a n r)) (gave_after-give (op_at m.sys a n) r v (s.gave r) op) ∙ get_or_push (s.gave r) v (pos 0) (gives_before m.sys a n r) (omega (arith, state.gave_count r)) in
    let all : v ≡ m.value a n (λ q. take (takes_before m.sys a n q) (s.took q)) =
    local a n s.took (λ q. take (takes_before m.sys a n q) (s.took q)) (λ q t. sym (take_all (takes_before m.sys a n q) (s.took q) (omega (arith, state.took_count q, taken-is m.sys s.done a n q t refl)))) in
    got ∙ all ∙ same_value m s a a n local state.took_count (omega arith)

values_step : (m : Machine) (s : State) (a : ℕ) → IsWired m.sys → IsLocal m → IsPossible m.sys s.done a → IsState m s → (b n r : ℕ) → n < step s.done a b → op_at m.sys b n ≡ Gives r →
    item_at ((event m s a).gave r) (gives_before m.sys b n r) ≡ m.value b n (λ q. take (takes_before m.sys b n q) ((event m s a).took q))
values_step m s a wired local possible state b n r l op =
    let v : ℤ = m.value a (s.done a) s.took in
    elim (cases_lt n (s.done b)) [
      | inl old ↦
          let within : n < length (m.sys.ops b) = omega (arith, state.within.listed b) in
          let below : gives_before m.sys b n r < gives_before m.sys b (s.done b) r = count_take-lt (is_give r) (m.sys.ops b) n (s.done b) (Takes 0) old within (ap (is_give r) op ∙ eqb-same r) in
          let place : gives_before m.sys b (s.done b) r ≡ given m.sys s.done r = given-is m.sys s.done b (s.done b) r (wired.giver b n r within op) refl in
          gave_after-item (op_at m.sys a (s.done a)) r v (s.gave r) (gives_before m.sys b n r) (omega (arith, state.gave_count r))
          ∙ state.values b n r old op ∙ same_value m s a b n local state.took_count (omega arith)
      | inr new ↦
          elim (cases_eq a b) [
            | inr other ↦ absurd (omega (arith, step-other s.done a b other))
            | inl e ↦
                let more : step s.done a b ≡ s.done b + 1 = subst (λ (c : ℕ). step s.done a c ≡ s.done c + 1) e (step-same s.done a) in
                let last : n ≡ s.done b = omega arith in
                let Gave : ℕ → ℕ → Type 0 = λ (c k : ℕ). op_at m.sys c k ≡ Gives r → item_at ((event m s a).gave r) (gives_before m.sys c k r) ≡ m.value c k (λ q. take (takes_before m.sys c k q) ((event m s a).took q)) in
                let here : Gave a (s.done a) = new_value m s a r wired local state possible.left in
                subst (λ (k : ℕ). Gave b k) (sym last) (subst (λ (c : ℕ). Gave c (s.done c)) e here) op
          ]
    ]

pub IsState-event : (m : Machine) (s : State) (a : ℕ) → IsWired m.sys → IsLocal m → IsPossible m.sys s.done a → IsState m s → IsState m (event m s a)
IsState-event m s a wired local possible state = record {
  within = IsWithin-step m.sys s.done a possible state.within;
  gave_count = λ r. gave_length m s a r wired possible.left (state.gave_count r);
  took_count = λ r. took_length m s a r wired possible (state.gave_count r) (state.took_count r);
  fronts = λ r. front_after (op_at m.sys a (s.done a)) r (m.value a (s.done a) s.took) (s.gave r) (s.took r) (state.fronts r);
  values = values_step m s a wired local possible state;
}

pub IsState-events : (m : Machine) (s : State) (picks : List ℕ) → IsWired m.sys → IsLocal m → IsRun m.sys s.done picks → IsState m s → IsState m (events m s picks)
IsState-events m s [] wired local run state = state
IsState-events m s (a ∷ picks) wired local run state = IsState-events m (event m s a) picks wired local run.1 (IsState-event m s a wired local run.0 state)

-- nothing done and empty rings are a state
pub IsState-start : (m : Machine) → IsState m start
IsState-start m = record {
  within = IsWithin-none m.sys;
  gave_count = λ r. sym (given-none m.sys none_done r refl);
  took_count = λ r. sym (taken-none m.sys none_done r refl);
  fronts = λ r. tt;
  values = λ a n r l op. absurd (omega arith);
}

-- what a ring holds, by the counts
pub held-count : (m : Machine) (s : State) (r : ℕ) → IsState m s → taken m.sys s.done r + length (held s r) ≡ given m.sys s.done r
held-count m s r state =
    omega (arith, length-drop (length (s.took r)) (s.gave r), state.took_count r, state.gave_count r, state.within.behind r)

pub held-most : (m : Machine) (s : State) (r : ℕ) → IsState m s → length (held s r) ≤ m.sys.size r + 1
held-most m s r state = omega (arith, held-count m s r state, state.within.fits r)
