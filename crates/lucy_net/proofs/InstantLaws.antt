-- An instant is played when all its firings are.
use Rattle.std.proofs.Common.{below_more, ℕ, ◌+◌, ◌<◌, ◌≤◌, ◌≡◌, List, [], length, set, ap, sym, ◌∙◌, subst, inl, inr, arith}
use Rattle.std.specs.Prelude.{Some, slice_get, slice_index, All}
use Rattle.std.proofs.lemmas.Bool.{cases_eq, cases_lt, lt-ltb}
use Rattle.std.proofs.lemmas.List.{length-set, get_or-set_same, get_or-set_other, get_or_past}
use borrow.Author.Tests.{ltb-true}
use Rattle.std.proofs.lemmas.List.Elements.{All-get_or}
use Rattle.lucy_stream.specs.Systems.{System, given, taken}
use Rattle.lucy_stream.specs.Plans.{times, IsOperand}
use Rattle.lucy_net.specs.declared.net.RingSpec.{RingSpec}
use Rattle.lucy_net.specs.declared.net.Net.{Net}
use Rattle.lucy_net.specs.Plans.{net_system, done_by}
use Rattle.lucy_net.specs.Proper.{numbers_where, IsProper}
use Rattle.lucy_net.specs.Orders.{IsOrder}
use Rattle.lucy_net.specs.Instants.{slot, is_busy}
use Rattle.lucy_net.specs.Play.{done_in, IsPlayedSoFar, CanBeginInstant}
use Rattle.lucy_net.specs.declared.settle.Wait.{Wait}
use Rattle.lucy_net.specs.Settling.{AreFiringsOver}
use Rattle.lucy_net.proofs.WhereLaws.{times_yes, where_all, operand_of}
use Rattle.lucy_net.proofs.NetLaws.{given_by_word, taken_by_word, ring_cases}
use Rattle.lucy_net.proofs.SlotLaws.{done_more, slot_within}
use Rattle.lucy_stream.proofs.CountLaws.{given-same, taken-same}
use Rattle.std.proofs.lemmas.Option.{slice_get_within}

pub zero_here : (steps : List ℕ) (x : ℕ) → slice_index (set steps x 0) x ≡ 0
zero_here steps x = elim (cases_lt x (length steps)) [
  | inl l ↦ get_or-set_same steps x 0 0 l
  | inr past ↦ get_or_past (set steps x 0) x 0 (omega (arith, length-set steps x 0))
]

pub zero_set : (steps : List ℕ) (x a : ℕ) → slice_index steps a ≡ 0 → slice_index (set steps x 0) a ≡ 0
zero_set steps x a z = elim (cases_eq a x) [
  | inr other ↦ get_or-set_other steps x a 0 0 other ∙ z
  | inl same ↦ ap (slice_index (set steps x 0)) same ∙ zero_here steps x
]

-- a ring below their count is there
pub held_ring : (net : Net) (r : ℕ) → r < length net.rings → (ring : RingSpec) × (slice_get net.rings r ≡ Some ring)
held_ring net r l = elim (ring_cases net r) [ inl x ↦ x | inr past ↦ absurd (omega arith) ]

-- before an instant nothing is done in it
pub played_none : (net : Net) (n : ℕ) (order steps held depth : List ℕ) → IsProper net → CanBeginInstant net n steps held depth → order ≡ [] → IsPlayedSoFar net n order steps held
played_none net n order steps held depth is ready none = subst (λ (xs : List ℕ). IsPlayedSoFar net n xs steps held) (sym none) (record {
  actors = ready.actors;
  rings = ready.rings;
  run = tt;
  steps_are = λ a. omega (arith, ready.unmoved a);
  within = λ a. omega (arith, ready.unmoved a);
  held_are = λ r l. let x = held_ring net r l in omega (arith, given_by_word net n (n + 1) r x.0 (omega arith) is x.1, taken_by_word net n (n + 1) r x.0 (omega arith) is x.1, ready.held_are r x.0 x.1);
})

-- those that fire are there, and have something to do
pub firing_busy : (net : Net) (n : ℕ) (firing : List ℕ) → firing ≡ numbers_where (is_busy net n) (length net.actors) → All (λ a. 0 < length (slot net n a)) firing
firing_busy net n firing e = subst (All (λ a. 0 < length (slot net n a))) (sym e) (where_all (λ a. 0 < length (slot net n a)) (is_busy net n) (length net.actors) (λ a l y. ltb-true 0 (length (slot net n a)) y))

pub firing_there : (net : Net) (n : ℕ) (firing : List ℕ) → firing ≡ numbers_where (is_busy net n) (length net.actors) → All (λ a. a < length net.actors) firing
firing_there net n firing e = subst (All (λ a. a < length net.actors)) (sym e) (where_all (λ a. a < length net.actors) (is_busy net n) (length net.actors) (λ a l y. l))

-- what holds of them holds of each actor that has something to do
pub busy_all : (net : Net) (n : ℕ) (firing : List ℕ) (P : ℕ → Type 0) → firing ≡ numbers_where (is_busy net n) (length net.actors) → All P firing → (a : ℕ) → 0 < length (slot net n a) → P a
busy_all net n firing P e all a l =
    let one : times a firing ≡ 1 = ap (times a) e ∙ times_yes (is_busy net n) (length net.actors) a (slot_within net n a l) (lt-ltb 0 (length (slot net n a)) l) in
    let at = operand_of a firing one in
    let o : IsOperand firing at.0 a = at.1 in
    subst P o.is (All-get_or P firing at.0 0 o.there all)

steps_full : (net : Net) (n : ℕ) (firing order steps held depth : List ℕ) (waits : List Wait) → firing ≡ numbers_where (is_busy net n) (length net.actors) → IsPlayedSoFar net n order steps held → AreFiringsOver net n firing steps depth waits → (a : ℕ) → slice_index steps a ≡ length (slot net n a)
steps_full net n firing order steps held depth waits e played over a = elim (cases_lt 0 (length (slot net n a))) [
  | inl some ↦ busy_all net n firing (λ b. slice_index steps b ≡ length (slot net n b)) e over.done a some
  | inr none ↦ omega (arith, played.within a)
]

-- then the events are an order of the instant
pub ordered : (net : Net) (n : ℕ) (firing order steps held depth : List ℕ) (waits : List Wait) → firing ≡ numbers_where (is_busy net n) (length net.actors) → IsPlayedSoFar net n order steps held → AreFiringsOver net n firing steps depth waits → IsOrder net n order
ordered net n firing order steps held depth waits e played over = record {
  run = played.run;
  ends = λ a. omega (arith, played.steps_are a, steps_full net n firing order steps held depth waits e played over a, done_more net n a);
}

-- and the next one can begin
pub ready_again : (net : Net) (n : ℕ) (firing order steps held depth new_steps : List ℕ) (waits : List Wait) → IsProper net → firing ≡ numbers_where (is_busy net n) (length net.actors) → IsPlayedSoFar net n order steps held → AreFiringsOver net n firing steps depth waits →
    length new_steps ≡ length steps → All (λ a. slice_index new_steps a ≡ 0) firing → ((a : ℕ) → slice_index steps a ≡ 0 → slice_index new_steps a ≡ 0) → CanBeginInstant net (n + 1) new_steps held depth
ready_again net n firing order steps held depth new_steps waits is e played over len cleared kept =
    let order_is : IsOrder net n order = ordered net n firing order steps held depth waits e played over in
    let sys : System = net_system net (n + 1) in
    record {
      actors = len ∙ played.actors;
      rings = played.rings;
      depths = over.depths;
      unmoved = λ a. elim (cases_lt 0 (length (slot net n a))) [
        | inl some ↦ busy_all net n firing (λ b. slice_index new_steps b ≡ 0) e cleared a some
        | inr none ↦ kept a (omega (arith, played.within a))
      ];
      unmarked = over.unmarked;
      held_are = λ r ring x.
          let g : given sys (done_in net n order) r ≡ given sys (done_by net (n + 1)) r = given-same sys (done_in net n order) (done_by net (n + 1)) r order_is.ends in
          let t : taken sys (done_in net n order) r ≡ taken sys (done_by net (n + 1)) r = taken-same sys (done_in net n order) (done_by net (n + 1)) r order_is.ends in
          omega (arith, played.held_are r (slice_get_within net.rings r ring x), given_by_word net (n + 1) (n + 1) r ring (omega arith) is x, taken_by_word net (n + 1) (n + 1) r ring (omega arith) is x);
    }

-- one more has done its firing, and those before it still have
pub done_next : (net : Net) (n : ℕ) (firing steps new_steps : List ℕ) (i : ℕ) →
    ((k : ℕ) → k < i → slice_index steps (slice_index firing k) ≡ length (slot net n (slice_index firing k))) → ((a : ℕ) → slice_index steps a ≤ slice_index new_steps a) →
    ((a : ℕ) → slice_index new_steps a ≤ length (slot net n a)) → slice_index new_steps (slice_index firing i) ≡ length (slot net n (slice_index firing i)) →
    (k : ℕ) → k < i + 1 → slice_index new_steps (slice_index firing k) ≡ length (slot net n (slice_index firing k))
done_next net n firing steps new_steps i done grown within here =
    below_more (λ k. slice_index new_steps (slice_index firing k) ≡ length (slot net n (slice_index firing k))) i
    (λ k l. let a : ℕ = slice_index firing k in omega (arith, done k l, grown a, within a)) here
