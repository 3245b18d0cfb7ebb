-- The ends of one ring, given to the parts of its actors.
use Rattle.std.proofs.Common.{ℕ, ◌≡◌, cond, List, [], ◌∷◌, ◌++◌, length, set, ap, sym, refl, ◌∙◌, subst, inl, inr}
use Rattle.std.specs.Prelude.{Some, slice_get}
use Rattle.std.proofs.lemmas.Bool.{cases_eq, eq-eqb, ne_eqb}
use Rattle.std.proofs.lemmas.List.{append-nil, length-set}
use Rattle.lucy_word.proofs.Lists.{get_set_same}
use Rattle.lucy_core.proofs.ListLaws.{get_set_other, some_same}
use Rattle.lucy_net.specs.declared.net.RingSpec.{RingSpec}
use Rattle.lucy_ring.specs.Views.{GiverView, TakerView}
use Rattle.lucy_worker.specs.declared.part.Part.{Part}
use Rattle.lucy_runner.specs.declared.place.Ends.{Ends}
use Rattle.lucy_runner.specs.Making.{AreNewEnds, HasGained, HaveJoined, end_for}
use Rattle.lucy_worker.proofs.WithinLaws.{get_set}

-- no end more
none_gained : (p : Part) → HasGained p [] [] p
none_gained p = record { rest = refl; givers_on = sym (append-nil p.givers.items); takers_on = sym (append-nil p.takers.items) }

-- givers and then takers
both_gained : (p m q : Part) (gs : List GiverView) (ts : List TakerView) → HasGained p gs [] m → HasGained m [] ts q → HasGained p gs ts q
both_gained p m q gs ts one two = record {
  rest = two.rest ∙ ap (λ (x : Part). record x { givers = q.givers; takers = q.takers }) one.rest;
  givers_on = two.givers_on ∙ append-nil m.givers.items ∙ one.givers_on;
  takers_on = two.takers_on ∙ ap (λ xs. xs ++ ts) (one.takers_on ∙ append-nil p.takers.items);
}

-- a giver more for the one part, and nothing for the others
giver_gained : (before : List Part) (owner a : ℕ) (g : GiverView) (x y p m : Part) → slice_get before owner ≡ Some x → HasGained x (g ∷ []) [] y → slice_get before a ≡ Some p → slice_get (set before owner y) a ≡ Some m → HasGained p (end_for owner a g) [] m
giver_gained before owner a g x y p m at gained e f = elim (cases_eq owner a) [
  | inl same ↦
      let from : x ≡ p = some_same (slice_get before owner) x p at (ap (slice_get before) same ∙ e) in
      let to : m ≡ y = get_set_same before owner y m (ap (slice_get (set before owner y)) same ∙ f) in
      let one : g ∷ [] ≡ end_for owner a g = sym (ap (λ b. cond b (g ∷ []) []) (eq-eqb owner a same)) in
      subst (λ (gs : List GiverView). HasGained p gs [] m) one (subst (λ (z : Part). HasGained z (g ∷ []) [] m) from (subst (λ (z : Part). HasGained x (g ∷ []) [] z) (sym to) gained))
  | inr other ↦
      let to : p ≡ m = some_same (slice_get before a) p m e (sym (get_set_other before owner a y other) ∙ f) in
      let one : [] ≡ end_for owner a g = sym (ap (λ b. cond b (g ∷ []) []) (ne_eqb owner a other)) in
      subst (λ (gs : List GiverView). HasGained p gs [] m) one (subst (λ (z : Part). HasGained p [] [] z) to (none_gained p))
]

taker_gained : (before : List Part) (owner a : ℕ) (t : TakerView) (x y p m : Part) → slice_get before owner ≡ Some x → HasGained x [] (t ∷ []) y → slice_get before a ≡ Some p → slice_get (set before owner y) a ≡ Some m → HasGained p [] (end_for owner a t) m
taker_gained before owner a t x y p m at gained e f = elim (cases_eq owner a) [
  | inl same ↦
      let from : x ≡ p = some_same (slice_get before owner) x p at (ap (slice_get before) same ∙ e) in
      let to : m ≡ y = get_set_same before owner y m (ap (slice_get (set before owner y)) same ∙ f) in
      let one : t ∷ [] ≡ end_for owner a t = sym (ap (λ b. cond b (t ∷ []) []) (eq-eqb owner a same)) in
      subst (λ (ts : List TakerView). HasGained p [] ts m) one (subst (λ (z : Part). HasGained z [] (t ∷ []) m) from (subst (λ (z : Part). HasGained x [] (t ∷ []) z) (sym to) gained))
  | inr other ↦
      let to : p ≡ m = some_same (slice_get before a) p m e (sym (get_set_other before owner a y other) ∙ f) in
      let one : [] ≡ end_for owner a t = sym (ap (λ b. cond b (t ∷ []) []) (ne_eqb owner a other)) in
      subst (λ (ts : List TakerView). HasGained p [] ts m) one (subst (λ (z : Part). HasGained p [] [] z) to (none_gained p))
]

still_there : (before : List Part) (owner a : ℕ) (x y p : Part) → slice_get before owner ≡ Some x → slice_get before a ≡ Some p → (m : Part) × (slice_get (set before owner y) a ≡ Some m)
still_there before owner a x y p at e = elim (cases_eq owner a) [
  | inl same ↦ (y, ap (slice_get (set before owner y)) (sym same) ∙ get_set before owner x y at)
  | inr other ↦ (p, get_set_other before owner a y other ∙ e)
]

-- both ends of a ring
pub ends_gained : (before : List Part) (ring : RingSpec) (at : Ends) (g : GiverView) (t : TakerView) (x x' y y' : Part) → AreNewEnds ring g t → slice_get before ring.from ≡ Some x → HasGained x (g ∷ []) [] x' →
    slice_get (set before ring.from x') ring.to ≡ Some y → HasGained y [] (t ∷ []) y' → at.giver ≡ length x.givers.items → at.taker ≡ length y.takers.items → HaveJoined before ring at (set (set before ring.from x') ring.to y')
ends_gained before ring at g t x x' y y' ends from gives to takes giver taker =
    let mid : List Part = set before ring.from x' in
    record {
      g = g;
      t = t;
      ends = ends;
      count = length-set mid ring.to y' ∙ length-set before ring.from x';
      each = λ a p q e f.
          let (m, m_is) = still_there before ring.from a x x' p from e in
          both_gained p m q (end_for ring.from a g) (end_for ring.to a t) (giver_gained before ring.from a g x x' p m from gives e m_is) (taker_gained mid ring.to a t y y' m q to takes m_is f);
      giver = λ p e. giver ∙ ap (λ (z : Part). length z.givers.items) (some_same (slice_get before ring.from) x p from e);
      taker = λ p e. taker ∙ ap length ((giver_gained before ring.from ring.to g x x' p y from gives e to).takers_on ∙ append-nil p.takers.items);
    }
