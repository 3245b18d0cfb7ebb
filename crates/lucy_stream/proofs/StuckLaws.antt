-- What isn't finished isn't stuck: the first event of a whole run that isn't done is possible, whatever else is done.
use Rattle.std.proofs.Common.{ℕ, ◌<◌, ◌≤◌, ◌≡◌, Bool, cond, leb, List, [], ◌∷◌, ap, sym, refl, ◌∙◌, subst, inl, inr, arith}
use Rattle.std.specs.Prelude.{Option, Some, None}
use Rattle.std.proofs.lemmas.Bool.{cases_eq, cases_Bool, leb-true, leb-false}
use Rattle.lucy_stream.specs.Systems.{Takes, Gives, System, op_at, IsWired}
use Rattle.lucy_stream.specs.Runs.{IsPossible, none_done, step, IsRun, after, IsFinished, IsStuck, IsWhole, IsListed, first_left_from, first_left}
use Rattle.lucy_stream.proofs.CountLaws.{step-same, step-other, given-le, taken-le}

-- an event that is possible at s is possible at d, if its actor stands alike and no other one has done less
pub IsPossible-later : (sys : System) (s d : ℕ → ℕ) (a : ℕ) → IsWired sys → IsPossible sys s a → d a ≡ s a → ((b : ℕ) → s b ≤ d b) → IsPossible sys d a
IsPossible-later sys s d a wired can same more = record {
  left = omega (arith, can.left);
  item_held = λ r op.
      let q : op_at sys a (s a) ≡ Takes r = ap (op_at sys a) (sym same) ∙ op in
      let t : sys.to r ≡ a = wired.taker a (s a) r can.left q in
      let e : d (sys.to r) ≡ s (sys.to r) = subst (λ (b : ℕ). d b ≡ s b) (sym t) same in
      omega (arith, can.item_held r q, taken-le sys d s r (omega arith), given-le sys s d r (more (sys.from r)));
  room_left = λ r op.
      let q : op_at sys a (s a) ≡ Gives r = ap (op_at sys a) (sym same) ∙ op in
      let t : sys.from r ≡ a = wired.giver a (s a) r can.left q in
      let e : d (sys.from r) ≡ s (sys.from r) = subst (λ (b : ℕ). d b ≡ s b) (sym t) same in
      omega (arith, can.room_left r q, given-le sys d s r (omega arith), taken-le sys s d r (more (sys.to r)));
}

abbrev pub FirstLeft : System → (ℕ → ℕ) → (ℕ → ℕ) → Option ℕ → Type 0
FirstLeft sys d end None = (b : ℕ) → end b ≤ d b
FirstLeft sys d end (Some a) = IsPossible sys d a

-- the first event of a run that isn't done is possible, whatever else is done
pub first_left-possible : (sys : System) (d s : ℕ → ℕ) (order : List ℕ) → IsWired sys → IsRun sys s order → ((b : ℕ) → s b ≤ d b) →
    FirstLeft sys d (after s order) (first_left_from d s order)
first_left-possible sys d s [] wired run h = h
first_left-possible sys d s (a ∷ order) wired run h = elim (cases_Bool (leb (d a) (s a))) [
  | inl y ↦
      let l : d a ≤ s a = leb-true (d a) (s a) y in
      subst (λ (b : Bool). FirstLeft sys d (after (step s a) order) (cond b (Some a) (first_left_from d (step s a) order))) (sym y)
      (IsPossible-later sys s d a wired run.0 (omega (arith, h a)) h)
  | inr z ↦
      let l : s a < d a = leb-false (d a) (s a) z in
      let k : (b : ℕ) → step s a b ≤ d b = λ b. elim (cases_eq a b) [
        | inl e ↦ subst (λ (c : ℕ). step s a c ≤ d c) e (omega (arith, step-same s a))
        | inr n ↦ omega (arith, step-other s a b n, h b)
      ] in
      subst (λ (b : Bool). FirstLeft sys d (after (step s a) order) (cond b (Some a) (first_left_from d (step s a) order))) (sym z)
      (first_left-possible sys d (step s a) order wired run.1 k)
]

-- where no event of a whole run is left, all is done
pub first_left-none : (sys : System) (d : ℕ → ℕ) (order : List ℕ) → IsWired sys → IsWhole sys order → IsListed sys d → first_left d order ≡ None → IsFinished sys d
first_left-none sys d order wired whole listed none a =
    let found : FirstLeft sys d (after none_done order) (first_left d order) = first_left-possible sys d none_done order wired whole.run (λ b. omega arith) in
    let all : (b : ℕ) → after none_done order b ≤ d b = subst (FirstLeft sys d (after none_done order)) none found in
    omega (arith, all a, whole.all a, listed a)

-- the first event that is left is possible
pub first_left-some : (sys : System) (d : ℕ → ℕ) (order : List ℕ) (a : ℕ) → IsWired sys → IsWhole sys order → first_left d order ≡ Some a → IsPossible sys d a
first_left-some sys d order a wired whole some =
    let found : FirstLeft sys d (after none_done order) (first_left d order) = first_left-possible sys d none_done order wired whole.run (λ b. omega arith) in
    subst (FirstLeft sys d (after none_done order)) some found

none_by : (sys : System) (d : ℕ → ℕ) (order : List ℕ) → IsWired sys → IsWhole sys order → IsFinished sys d → (o : Option ℕ) → first_left d order ≡ o → first_left d order ≡ None
none_by sys d order wired whole finished None e = e
none_by sys d order wired whole finished (Some a) e = (let is : IsPossible sys d a = first_left-some sys d order a wired whole e in absurd (omega (arith, is.left, finished a)))

-- and only there
pub first_left-finished : (sys : System) (d : ℕ → ℕ) (order : List ℕ) → IsWired sys → IsWhole sys order → IsFinished sys d → first_left d order ≡ None
first_left-finished sys d order wired whole finished = none_by sys d order wired whole finished (first_left d order) refl

stuck_by : (sys : System) (d : ℕ → ℕ) (order : List ℕ) → IsWired sys → IsWhole sys order → IsListed sys d → IsStuck sys d → (o : Option ℕ) → first_left d order ≡ o → ⊥
stuck_by sys d order wired whole listed stuck None e = stuck.unfinished (first_left-none sys d order wired whole listed e)
stuck_by sys d order wired whole listed stuck (Some a) e = stuck.none a (first_left-some sys d order a wired whole e)

-- so nothing is stuck
pub never_stuck : (sys : System) (d : ℕ → ℕ) (order : List ℕ) → IsWired sys → IsWhole sys order → IsListed sys d → IsStuck sys d → ⊥
never_stuck sys d order wired whole listed stuck = stuck_by sys d order wired whole listed stuck (first_left d order) refl
