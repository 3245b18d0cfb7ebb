-- The turns that a run needs: one for each item, however many rings carry it. So what was given to a ring is a front of its giver's list in that iterate.
use Rattle.std.proofs.Common.{ℕ, suc, zero, ◌+◌, ◌<◌, ◌≤◌, ◌≡◌, true, false, cond, eqb, List, [], ◌∷◌, length, ap, sym, refl, ◌∙◌, subst, inl, inr, arith}
use Rattle.std.specs.Prelude.{ℤ}
use Rattle.std.proofs.lemmas.Bool.{cases_eq, eq-eqb, ne_eqb}
use Rattle.lucy_stream.specs.Items.{item_at, HasItem}
use Rattle.lucy_stream.specs.Fronts.{IsFront}
use Rattle.lucy_stream.proofs.FrontLaws.{IsFront-trans, IsFront-push, IsFront-length, IsFront-item}
use Rattle.lucy_stream.specs.Systems.{RingOp, Takes, Gives, System, op_at, IsWired, gives_before, takes_before, given}
use Rattle.lucy_stream.specs.Runs.{IsPossible, step, IsRun}
use Rattle.lucy_stream.specs.States.{Machine, IsLocal, State, event, events, IsState}
use Rattle.lucy_stream.proofs.CountLaws.{given-is, taken-is, gives_next}
use Rattle.lucy_stream.proofs.EventLaws.{gave_after-give, gave_after-other}
use Rattle.lucy_stream.proofs.StateLaws.{IsState-event}

-- the first ring to which an actor gives an item: each other ring of the actor gets it later
pub record IsLead (sys : System) (lead : ℕ → ℕ) : Type 0 where
  pub same : (r : ℕ) → sys.from (lead r) ≡ sys.from r
  pub first : (a k r : ℕ) → k < length (sys.ops a) → op_at sys a k ≡ Gives r → (lead r ≡ r → ⊥) → gives_before sys a k r < gives_before sys a k (lead r)

-- lists by turns that the machine keeps to: they grow, and what an actor gives, on fronts of the lists of one turn, is the item of its list in the next
pub record KeepsTo (m : Machine) (turns : ℕ → ℕ → List ℤ) : Type 0 where
  pub grows : (n a : ℕ) → IsFront (turns n a) (turns (n + 1) a)
  pub covers : (a n k r : ℕ) (took : ℕ → List ℤ) → gives_before m.sys a k r ≤ n → k < length (m.sys.ops a) → op_at m.sys a k ≡ Gives r →
      ((q : ℕ) → m.sys.to q ≡ a → length (took q) ≡ takes_before m.sys a k q) → ((q : ℕ) → m.sys.to q ≡ a → IsFront (took q) (turns n (m.sys.from q))) →
      HasItem (turns (n + 1) a) (gives_before m.sys a k r) (m.value a k took)

-- whether an operation gives an item to its first ring
abbrev pub fresh : (ℕ → ℕ) → RingOp → ℕ
fresh lead (Takes r) = 0
fresh lead (Gives r) = cond (eqb (lead r) r) 1 0

-- how many items a run gives to their first rings
abbrev pub items_in : System → (ℕ → ℕ) → (ℕ → ℕ) → List ℕ → ℕ
items_in sys lead done [] = 0
items_in sys lead done (a ∷ picks) = fresh lead (op_at sys a (done a)) + items_in sys lead (step done a) picks

fresh-le : (lead : ℕ → ℕ) (op : RingOp) → fresh lead op ≤ 1
fresh-le lead (Takes r) = omega arith
fresh-le lead (Gives r) = elim (eqb (lead r) r) as (λ b. cond b 1 0 ≤ 1) [ true ↦ omega arith | false ↦ omega arith ]

fresh-first : (lead : ℕ → ℕ) (op : RingOp) (r : ℕ) → op ≡ Gives r → lead r ≡ r → fresh lead op ≡ 1
fresh-first lead op r e same = ap (fresh lead) e ∙ ap (λ b. cond b 1 0) (eq-eqb (lead r) r same)

fresh-later : (lead : ℕ → ℕ) (op : RingOp) (r : ℕ) → op ≡ Gives r → (lead r ≡ r → ⊥) → fresh lead op ≡ 0
fresh-later lead op r e other = ap (fresh lead) e ∙ ap (λ b. cond b 1 0) (ne_eqb (lead r) r other)

grown : (m : Machine) (turns : ℕ → ℕ → List ℤ) → KeepsTo m turns → (xs : List ℤ) (n f a : ℕ) → f ≤ 1 → IsFront xs (turns n a) → IsFront xs (turns (f + n) a)
grown m turns keeps xs n zero a l h = subst (λ (k : ℕ). IsFront xs (turns k a)) (omega arith) h
grown m turns keeps xs n (suc f) a l h =
    subst (λ (k : ℕ). IsFront xs (turns k a)) (omega arith) (IsFront-trans xs (turns n a) (turns (n + 1) a) h (keeps.grows n a))

-- the item that a give appends stands in its actor's list
new_item : (m : Machine) (lead : ℕ → ℕ) (turns : ℕ → ℕ → List ℤ) (s : State) (a n r : ℕ) → IsWired m.sys → IsLead m.sys lead → KeepsTo m turns → IsPossible m.sys s.done a → IsState m s →
    ((q : ℕ) → given m.sys s.done q ≤ n) → ((q : ℕ) → IsFront (s.gave q) (turns n (m.sys.from q))) → op_at m.sys a (s.done a) ≡ Gives r →
    HasItem (turns (fresh lead (op_at m.sys a (s.done a)) + n) a) (length (s.gave r)) (m.value a (s.done a) s.took)
new_item m lead turns s a n r wired leads keeps possible state le fronts op =
    let k : ℕ = s.done a in
    let f : ℕ = fresh lead (op_at m.sys a k) in
    let v : ℤ = m.value a k s.took in
    let from : m.sys.from r ≡ a = wired.giver a k r possible.left op in
    let place : gives_before m.sys a k r ≡ length (s.gave r) = given-is m.sys s.done a k r from refl ∙ sym (state.gave_count r) in
    let cover : HasItem (turns (n + 1) a) (gives_before m.sys a k r) v = keeps.covers a n k r s.took (omega (arith, le r, state.gave_count r)) possible.left op
    (λ q t. state.took_count q ∙ sym (taken-is m.sys s.done a k q t refl))
    (λ q t. IsFront-trans (s.took q) (s.gave q) (turns n (m.sys.from q)) (state.fronts q) (fronts q)) in
    let here : HasItem (turns (n + 1) a) (length (s.gave r)) v = subst (λ i. HasItem (turns (n + 1) a) i v) place cover in
    elim (cases_eq (lead r) r) [
      | inl same ↦
          let one : n + 1 ≡ f + n = omega (arith, fresh-first lead (op_at m.sys a k) r op same) in
          subst (λ t. HasItem (turns t a) (length (s.gave r)) v) one here
      | inr other ↦
          let q : ℕ = lead r in
          let no_turn : n ≡ f + n = omega (arith, fresh-later lead (op_at m.sys a k) r op other) in
          let qa : m.sys.from q ≡ a = leads.same r ∙ from in
          let more : gives_before m.sys a k r < gives_before m.sys a k q = leads.first a k r possible.left op other in
          let place_q : gives_before m.sys a k q ≡ length (s.gave q) = given-is m.sys s.done a k q qa refl ∙ sym (state.gave_count q) in
          let old : length (s.gave q) ≤ length (turns n a) = subst (λ b. length (s.gave q) ≤ length (turns n b)) qa (IsFront-length (s.gave q) (turns n (m.sys.from q)) (fronts q)) in
          let below : length (s.gave r) < length (turns n a) = omega arith in
          let alike : item_at (turns n a) (length (s.gave r)) ≡ item_at (turns (n + 1) a) (length (s.gave r)) = IsFront-item (turns n a) (turns (n + 1) a) (length (s.gave r)) (keeps.grows n a) below in
          subst (λ t. HasItem (turns t a) (length (s.gave r)) v) no_turn (below, here.1 ∙ sym alike)
    ]

turn_step : (m : Machine) (lead : ℕ → ℕ) (turns : ℕ → ℕ → List ℤ) (s : State) (a n : ℕ) → IsWired m.sys → IsLead m.sys lead → KeepsTo m turns → IsPossible m.sys s.done a → IsState m s →
    ((r : ℕ) → given m.sys s.done r ≤ n) → ((r : ℕ) → IsFront (s.gave r) (turns n (m.sys.from r))) → (r : ℕ) → IsFront ((event m s a).gave r) (turns (fresh lead (op_at m.sys a (s.done a)) + n) (m.sys.from r))
turn_step m lead turns s a n wired leads keeps possible state le fronts r =
    let k : ℕ = s.done a in
    let op : RingOp = op_at m.sys a k in
    let v : ℤ = m.value a k s.took in
    let t : ℕ = fresh lead op + n in
    let old : IsFront (s.gave r) (turns t (m.sys.from r)) = grown m turns keeps (s.gave r) n (fresh lead op) (m.sys.from r) (fresh-le lead op) (fronts r) in
    elim (gives_next m.sys s.done a r wired possible.left) [
      | inl gives ↦
          let from : m.sys.from r ≡ a = wired.giver a k r possible.left gives.0 in
          let item : HasItem (turns t (m.sys.from r)) (length (s.gave r)) v =
          subst (λ b. HasItem (turns t b) (length (s.gave r)) v) (sym from) (new_item m lead turns s a n r wired leads keeps possible state le fronts gives.0) in
          subst (λ xs. IsFront xs (turns t (m.sys.from r))) (sym (gave_after-give op r v (s.gave r) gives.0)) (IsFront-push (s.gave r) (turns t (m.sys.from r)) v old item.0 item.1)
      | inr other ↦ subst (λ xs. IsFront xs (turns t (m.sys.from r))) (sym (gave_after-other op r v (s.gave r) other.0)) old
    ]

-- each ring got at most as many items as were given first
given_next : (sys : System) (lead d : ℕ → ℕ) (a n : ℕ) → IsWired sys → IsLead sys lead → d a < length (sys.ops a) → ((r : ℕ) → given sys d r ≤ n) → (r : ℕ) →
    given sys (step d a) r ≤ fresh lead (op_at sys a (d a)) + n
given_next sys lead d a n wired leads l le r = elim (gives_next sys d a r wired l) [
  | inr g ↦ omega (arith, le r, g.1)
  | inl g ↦ elim (cases_eq (lead r) r) [
    | inl same ↦ omega (arith, le r, g.1, fresh-first lead (op_at sys a (d a)) r g.0 same)
    | inr other ↦
        let from : sys.from r ≡ a = wired.giver a (d a) r l g.0 in
        let mine : gives_before sys a (d a) r ≡ given sys d r = given-is sys d a (d a) r from refl in
        let first : gives_before sys a (d a) (lead r) ≡ given sys d (lead r) = given-is sys d a (d a) (lead r) (leads.same r ∙ from) refl in
        omega (arith, le (lead r), g.1, leads.first a (d a) r l g.0 other)
  ]
]

pub turn_law : (m : Machine) (lead : ℕ → ℕ) (turns : ℕ → ℕ → List ℤ) (s : State) (picks : List ℕ) (n : ℕ) → IsWired m.sys → IsLocal m → IsLead m.sys lead → KeepsTo m turns → IsRun m.sys s.done picks → IsState m s →
    ((r : ℕ) → given m.sys s.done r ≤ n) → ((r : ℕ) → IsFront (s.gave r) (turns n (m.sys.from r))) → (r : ℕ) → IsFront ((events m s picks).gave r) (turns (items_in m.sys lead s.done picks + n) (m.sys.from r))
turn_law m lead turns s [] n wired local leads keeps run state le fronts r = subst (λ (k : ℕ). IsFront (s.gave r) (turns k (m.sys.from r))) (omega arith) (fronts r)
turn_law m lead turns s (a ∷ picks) n wired local leads keeps run state le fronts r =
    let f : ℕ = fresh lead (op_at m.sys a (s.done a)) in
    subst (λ (k : ℕ). IsFront ((events m (event m s a) picks).gave r) (turns k (m.sys.from r))) (omega arith)
    (turn_law m lead turns (event m s a) picks (f + n) wired local leads keeps run.1 (IsState-event m s a wired local run.0 state)
    (given_next m.sys lead s.done a n wired leads run.0.left le) (turn_step m lead turns s a n wired leads keeps run.0 state le fronts) r)
