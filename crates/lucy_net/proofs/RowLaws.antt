-- The instants that are played, one after another.
use Rattle.std.proofs.Common.{ℕ, suc, zero, ◌+◌, ◌<◌, ◌≤◌, ◌≡◌, List, [], ◌∷◌, ◌++◌, map, length, get_or, take, drop, ap, sym, refl, ◌∙◌, subst, inl, inr, arith, length-append}
use Rattle.std.specs.Prelude.{Some, slice_get, slice_index, slice_index_or, All, Vec, replicate}
use Rattle.std.specs.Option.{option_map}
use Rattle.std.proofs.lemmas.Bool.{cases_lt}
use Rattle.std.proofs.lemmas.Option.{slice_get-map, slice_get_read, slice_get_within, slice_get-get_or, get_or_from_slice_get}
use Rattle.std.proofs.lemmas.List.{length-map, get_or-map, map-append, get_or_append_left, get_or-append-add, get_or_past, length-replicate, get_or-replicate, length-drop}
use Rattle.lucy_stream.specs.Systems.{Takes}
use Rattle.lucy_word.proofs.BitsLaws.{ones_to-none}
use Rattle.lucy_net.specs.declared.net.Net.{Net}
use Rattle.lucy_net.specs.Proper.{IsProper}
use Rattle.lucy_stream.specs.Needs.{StreamItem}
use Rattle.lucy_net.specs.Orders.{IsOrder}
use Rattle.lucy_net.specs.declared.settle.Wait.{Wait}
use Rattle.lucy_net.specs.Instants.{slot}
use Rattle.lucy_net.specs.Play.{IsPlayedSoFar, CanBeginInstant}
use Rattle.lucy_net.specs.Waiting.{actor_at, ring_at, IsKnot, IsTurnedToLeast}
use Rattle.lucy_net.specs.Faults.{item_now, rows_of, AreOrders, IsFirstCycle}
use Rattle.lucy_net.proofs.SlotLaws.{slot_within}
use Rattle.lucy_net.proofs.NeedLaws.{knot_cycle}
use Rattle.lucy_net.proofs.TurnLaws.{turned_cycle, turned_least}
use Rattle.std.proofs.lemmas.List.Elements.{All-append, All-take, All-drop}
use Rattle.lucy_net.proofs.SoundLaws.{none_reaches}

-- a row that a program reads
pub row_at : {Z : Type 0} (rows : List (Vec ℕ Z)) (i : ℕ) (row : Vec ℕ Z) → i < length rows → row ≡ get_or rows i row → slice_get (rows_of rows) i ≡ Some row.items
row_at rows i row l e = slice_get-map (λ row. row.items) rows i ∙ ap (option_map (λ row. row.items)) (slice_get_read rows (length rows) i row refl l e)

-- one row more
pub rows_push : {Z : Type 0} (P : ℕ → List ℕ → Type 0) (rows new : List (Vec ℕ Z)) (row : Vec ℕ Z) (n : ℕ) → ((before : ℕ) (order : List ℕ) → slice_get (rows_of rows) before ≡ Some order → P before order) → length rows ≡ n → new ≡ rows ++ row ∷ [] → P n row.items →
    (before : ℕ) (order : List ℕ) → slice_get (rows_of new) before ≡ Some order → P before order
rows_push P rows new row n are len e is before order at =
    let lists : List (List ℕ) = rows_of rows in
    let same : rows_of new ≡ lists ++ row.items ∷ [] = ap rows_of e ∙ map-append (λ row. row.items) rows (row ∷ []) in
    let at_new : slice_get (lists ++ row.items ∷ []) before ≡ Some order = ap (λ xs. slice_get xs before) (sym same) ∙ at in
    let l : before < length (lists ++ row.items ∷ []) = slice_get_within (lists ++ row.items ∷ []) before order at_new in
    let here : get_or (lists ++ row.items ∷ []) before [] ≡ order = get_or_from_slice_get (lists ++ row.items ∷ []) before order [] at_new in
    let size : length lists ≡ n = length-map rows (λ row. row.items) ∙ len in
    elim (cases_lt before n) [
      | inl below ↦
          let old : get_or lists before [] ≡ order = sym (get_or_append_left lists (row.items ∷ []) [] before (omega arith)) ∙ here in
          are before order (slice_get-get_or lists before [] (omega arith) ∙ ap (λ o. Some o) old)
      | inr top ↦
          let last : before ≡ length lists + 0 = omega (arith, length-append lists (row.items ∷ [])) in
          let mine : row.items ≡ order = sym (get_or-append-add lists (row.items ∷ []) 0 []) ∙ ap (λ k. get_or (lists ++ row.items ∷ []) k []) (sym last) ∙ here in
          subst (P before) mine (subst (λ (k : ℕ). P k row.items) (let z : n ≡ before = omega arith in z) is)
    ]

pub orders_push : {Z : Type 0} (net : Net) (rows new : List (Vec ℕ Z)) (row : Vec ℕ Z) (n : ℕ) → AreOrders net (rows_of rows) → length rows ≡ n → new ≡ rows ++ row ∷ [] → IsOrder net n row.items → AreOrders net (rows_of new)
orders_push net rows new row n are len e is = rows_push (IsOrder net) rows new row n are len e is

-- the events of an instant by its row
abbrev pub row_events : List (List ℕ) → ℕ → List ℕ
row_events rows zero = []
row_events rows (suc n) = slice_index_or rows n []

pub row_orders : (net : Net) (rows : List (List ℕ)) → AreOrders net rows → (n : ℕ) → n < length rows → IsOrder net n (row_events rows (suc n))
row_orders net rows are n l = are n (get_or rows n []) (slice_get-get_or rows n [] l)

pub part_there : (waits : List Wait) (place : ℕ) → 0 < length (drop place waits) → place ≤ length waits
part_there waits place some = omega (arith, some, length-drop place waits)

-- those that wait are actors that are there
pub knot_actors : (net : Net) (n : ℕ) (steps held : List ℕ) (waits : List Wait) → IsKnot net n steps held waits → All (λ wait. wait.actor < length net.actors) waits
knot_actors net n steps held waits knot k d l =
    let same : actor_at waits 0 k ≡ (get_or waits k d).actor = get_or-map (λ (w : Wait). w.actor) waits k d 0 l in
    let busy : slice_index steps (actor_at waits 0 k) < length (slot net n (actor_at waits 0 k)) = slice_get_within (slot net n (actor_at waits 0 k)) (slice_index steps (actor_at waits 0 k)) (Takes (ring_at waits k)) (knot.each k l).takes in
    subst (λ (a : ℕ). a < length net.actors) same (slot_within net n (actor_at waits 0 k) (omega arith))

-- in another turn too
pub turned_actors : (net : Net) (waits copy turned list : List Wait) → copy ≡ waits → IsTurnedToLeast copy turned → list ≡ turned → All (λ wait. wait.actor < length net.actors) waits → All (λ wait. wait.actor < length net.actors) list
turned_actors net waits copy turned list same turn read all =
    let P : Wait → Type 0 = λ w. w.actor < length net.actors in
    let there : All P copy = subst (All P) (sym same) all in
    subst (All P) (sym (read ∙ turn.turned)) (All-append P (drop turn.place copy) (take turn.place copy) (All-drop P turn.place copy there) (All-take P turn.place copy there))

-- a knot in the first instant that has no order
pub first_cycle : (net : Net) (n : ℕ) (order steps held : List ℕ) (waits turned : List Wait) (rows : List (List ℕ)) (items : List StreamItem) → IsProper net → IsPlayedSoFar net n order steps held → IsKnot net n steps held waits →
    IsTurnedToLeast waits turned → AreOrders net rows → length rows ≡ n → items ≡ map (λ wait. item_now net (n + 1) wait.actor) turned → IsFirstCycle net (n + 1) items
first_cycle net n order steps held waits turned rows items is played knot turn are len e =
    let knot_is = knot_cycle net n order steps held waits is played knot in
    let cycle = turned_cycle net n waits turned turn knot_is.0 knot_is.1 in
    subst (IsFirstCycle net (n + 1)) (sym e) (record {
      before = n;
      instant_is = refl;
      cycle = cycle.0;
      of_instant = cycle.1;
      least = turned_least net n waits turned turn;
      first = λ u x l of reaches. none_reaches net (row_events rows) n u x is (λ k h. row_orders net rows are k (omega arith)) l of reaches;
    })

zeros_at : (n a : ℕ) → slice_index (replicate {A = ℕ} n 0) a ≡ 0
zeros_at n a = elim (cases_lt a n) [
  | inl l ↦ get_or-replicate {A = ℕ} n a 0 0 l
  | inr l ↦ get_or_past (replicate {A = ℕ} n 0) a 0 (omega (arith, length-replicate {A = ℕ} n 0))
]

-- before the first instant
pub ready_first : (net : Net) (steps held depth : List ℕ) (a r d : ℕ) → a ≡ length net.actors → r ≡ length net.rings → d ≡ length net.actors → steps ≡ replicate a 0 → held ≡ replicate r 0 → depth ≡ replicate d 0 → CanBeginInstant net 0 steps held depth
ready_first net steps held depth a r d ea er ed es eh edp = record {
  actors = ap length es ∙ length-replicate {A = ℕ} a 0 ∙ ea;
  rings = ap length eh ∙ length-replicate {A = ℕ} r 0 ∙ er;
  depths = ap length edp ∙ length-replicate {A = ℕ} d 0 ∙ ed;
  unmoved = λ x. ap (λ xs. slice_index xs x) es ∙ zeros_at a x;
  unmarked = λ x. ap (λ xs. slice_index xs x) edp ∙ zeros_at d x;
  held_are = λ x ring e.
      let z : slice_index held x ≡ 0 = ap (λ xs. slice_index xs x) eh ∙ zeros_at r x in
      omega (arith, ones_to-none ring.write, ones_to-none ring.read);
}
