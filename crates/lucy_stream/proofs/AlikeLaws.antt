-- Runs from counts that are alike are the same runs, in this system and in another.
use Rattle.std.proofs.Common.{ℕ, ◌+◌, ◌<◌, ◌≡◌, List, [], ◌∷◌, length, get_or, drop, ap, sym, ◌∙◌, subst, inl, inr, arith, length-drop}
use Rattle.std.proofs.lemmas.Bool.{cases_eq}
use Rattle.std.proofs.lemmas.List.{get_or-drop, drop-drop}
use Rattle.lucy_stream.specs.Systems.{Takes, System, op_at, IsWired, given, taken}
use Rattle.lucy_stream.specs.Runs.{IsPossible, step, IsRun, after}
use Rattle.lucy_stream.specs.Instants.{IsAlike}
use Rattle.lucy_stream.proofs.CountLaws.{step-same, step-other, given-le, taken-le, gives_next, takes_next}

op_at-alike : (sys other : System) (d e : ℕ → ℕ) (a : ℕ) → IsAlike sys d other e → op_at sys a (d a) ≡ op_at other a (e a)
op_at-alike sys other d e a h =
    let x : get_or (drop (d a) (sys.ops a)) 0 (Takes 0) ≡ get_or (sys.ops a) (d a + 0) (Takes 0) = get_or-drop (d a) (sys.ops a) 0 (Takes 0) in
    let y : get_or (drop (e a) (other.ops a)) 0 (Takes 0) ≡ get_or (other.ops a) (e a + 0) (Takes 0) = get_or-drop (e a) (other.ops a) 0 (Takes 0) in
    let z : get_or (drop (d a) (sys.ops a)) 0 (Takes 0) ≡ get_or (drop (e a) (other.ops a)) 0 (Takes 0) = ap (λ xs. get_or xs 0 (Takes 0)) (h.left a) in
    let u : get_or (sys.ops a) (d a + 0) (Takes 0) ≡ op_at sys a (d a) = ap (λ n. get_or (sys.ops a) n (Takes 0)) (omega arith) in
    let v : get_or (other.ops a) (e a + 0) (Takes 0) ≡ op_at other a (e a) = ap (λ n. get_or (other.ops a) n (Takes 0)) (omega arith) in
    sym u ∙ sym x ∙ z ∙ y ∙ v

left_after : (sys other : System) (d e : ℕ → ℕ) (a : ℕ) → IsAlike sys d other e → d a < length (sys.ops a) → e a < length (other.ops a)
left_after sys other d e a h l =
    let x : length (drop (d a) (sys.ops a)) ≡ length (drop (e a) (other.ops a)) = ap length (h.left a) in
    omega (arith, length-drop (d a) (sys.ops a), length-drop (e a) (other.ops a))

IsPossible-alike : (sys other : System) (d e : ℕ → ℕ) (a : ℕ) → IsAlike sys d other e → IsPossible sys d a → IsPossible other e a
IsPossible-alike sys other d e a h can = record {
  left = left_after sys other d e a h can.left;
  item_held = λ r op. omega (arith, can.item_held r (op_at-alike sys other d e a h ∙ op), h.held r);
  room_left = λ r op. omega (arith, can.room_left r (op_at-alike sys other d e a h ∙ op), h.held r, h.size r);
}

given_alike : (sys other : System) (d e : ℕ → ℕ) (a r : ℕ) → IsWired sys → IsWired other → IsAlike sys d other e → IsPossible sys d a →
    given sys (step d a) r + given other e r ≡ given other (step e a) r + given sys d r
given_alike sys other d e a r wired wired' h can =
    let op : op_at sys a (d a) ≡ op_at other a (e a) = op_at-alike sys other d e a h in
    elim (gives_next sys d a r wired can.left) [
      | inl g ↦ elim (gives_next other e a r wired' (left_after sys other d e a h can.left)) [
        | inl k ↦ omega (arith, g.1, k.1)
        | inr k ↦ absurd (k.0 (sym op ∙ g.0))
      ]
      | inr g ↦ elim (gives_next other e a r wired' (left_after sys other d e a h can.left)) [
        | inl k ↦ absurd (g.0 (op ∙ k.0))
        | inr k ↦ omega (arith, g.1, k.1)
      ]
    ]

taken_alike : (sys other : System) (d e : ℕ → ℕ) (a r : ℕ) → IsWired sys → IsWired other → IsAlike sys d other e → IsPossible sys d a →
    taken sys (step d a) r + taken other e r ≡ taken other (step e a) r + taken sys d r
taken_alike sys other d e a r wired wired' h can =
    let op : op_at sys a (d a) ≡ op_at other a (e a) = op_at-alike sys other d e a h in
    elim (takes_next sys d a r wired can.left) [
      | inl g ↦ elim (takes_next other e a r wired' (left_after sys other d e a h can.left)) [
        | inl k ↦ omega (arith, g.1, k.1)
        | inr k ↦ absurd (k.0 (sym op ∙ g.0))
      ]
      | inr g ↦ elim (takes_next other e a r wired' (left_after sys other d e a h can.left)) [
        | inl k ↦ absurd (g.0 (op ∙ k.0))
        | inr k ↦ omega (arith, g.1, k.1)
      ]
    ]

left_step : (sys other : System) (d e : ℕ → ℕ) (a b : ℕ) → IsAlike sys d other e → drop (step d a b) (sys.ops b) ≡ drop (step e a b) (other.ops b)
left_step sys other d e a b h = elim (cases_eq a b) [
  | inl k ↦
      let x : step d a b ≡ d b + 1 = subst (λ (c : ℕ). step d a c ≡ d c + 1) k (step-same d a) in
      let y : step e a b ≡ e b + 1 = subst (λ (c : ℕ). step e a c ≡ e c + 1) k (step-same e a) in
      ap (λ n. drop n (sys.ops b)) x ∙ sym (drop-drop 1 (d b) (sys.ops b)) ∙ ap (drop 1) (h.left b) ∙ drop-drop 1 (e b) (other.ops b) ∙ ap (λ n. drop n (other.ops b)) (sym y)
  | inr k ↦ ap (λ n. drop n (sys.ops b)) (step-other d a b k) ∙ h.left b ∙ ap (λ n. drop n (other.ops b)) (sym (step-other e a b k))
]

pub IsAlike-step : (sys other : System) (d e : ℕ → ℕ) (a : ℕ) → IsWired sys → IsWired other → IsAlike sys d other e → IsPossible sys d a → IsAlike sys (step d a) other (step e a)
IsAlike-step sys other d e a wired wired' h can = record {
  size = h.size;
  left = λ b. left_step sys other d e a b h;
  held = λ r. omega (arith, h.held r, given_alike sys other d e a r wired wired' h can, taken_alike sys other d e a r wired wired' h can);
}

-- what was a run at one instant is one at each instant that is alike
pub IsRun-alike : (sys other : System) (d e : ℕ → ℕ) (picks : List ℕ) → IsWired sys → IsWired other → IsAlike sys d other e → IsRun sys d picks → IsRun other e picks
IsRun-alike sys other d e [] wired wired' h run = tt
IsRun-alike sys other d e (a ∷ picks) wired wired' h run =
    (IsPossible-alike sys other d e a h run.0, IsRun-alike sys other (step d a) (step e a) picks wired wired' (IsAlike-step sys other d e a wired wired' h run.0) run.1)

-- and it leads to counts that are alike
pub IsAlike-run : (sys other : System) (d e : ℕ → ℕ) (picks : List ℕ) → IsWired sys → IsWired other → IsAlike sys d other e → IsRun sys d picks → IsAlike sys (after d picks) other (after e picks)
IsAlike-run sys other d e [] wired wired' h run = h
IsAlike-run sys other d e (a ∷ picks) wired wired' h run =
    IsAlike-run sys other (step d a) (step e a) picks wired wired' (IsAlike-step sys other d e a wired wired' h run.0) run.1

-- only the numbers at each actor count
IsPossible-same : (sys : System) (d e : ℕ → ℕ) (a : ℕ) → ((b : ℕ) → d b ≡ e b) → IsPossible sys d a → IsPossible sys e a
IsPossible-same sys d e a h can = record {
  left = omega (arith, h a, can.left);
  item_held = λ r op. omega (arith, can.item_held r (ap (op_at sys a) (h a) ∙ op), taken-le sys e d r (omega (arith, h (sys.to r))), given-le sys d e r (omega (arith, h (sys.from r))));
  room_left = λ r op. omega (arith, can.room_left r (ap (op_at sys a) (h a) ∙ op), given-le sys e d r (omega (arith, h (sys.from r))), taken-le sys d e r (omega (arith, h (sys.to r))));
}

step-equal : (d e : ℕ → ℕ) (a : ℕ) → ((b : ℕ) → d b ≡ e b) → (b : ℕ) → step d a b ≡ step e a b
step-equal d e a h b = omega (arith, h b)

pub IsRun-same : (sys : System) (d e : ℕ → ℕ) (picks : List ℕ) → ((b : ℕ) → d b ≡ e b) → IsRun sys d picks → IsRun sys e picks
IsRun-same sys d e [] h run = tt
IsRun-same sys d e (a ∷ picks) h run = (IsPossible-same sys d e a h run.0, IsRun-same sys (step d a) (step e a) picks (step-equal d e a h) run.1)

pub after-same : (d e : ℕ → ℕ) (picks : List ℕ) → ((b : ℕ) → d b ≡ e b) → (b : ℕ) → after d picks b ≡ after e picks b
after-same d e [] h b = h b
after-same d e (a ∷ picks) h b = after-same (step d a) (step e a) picks (step-equal d e a h) b

-- a list of events adds the same to any counts
pub after-count : (d e : ℕ → ℕ) (picks : List ℕ) (b : ℕ) → after d picks b + e b ≡ after e picks b + d b
after-count d e [] b = omega arith
after-count d e (a ∷ picks) b = omega (arith, after-count (step d a) (step e a) picks b)
