-- A state goes on with each operation.
use Rattle.std.proofs.Common.{ℕ, suc, zero, ◌+◌, ◌-◌, ◌<◌, ◌≤◌, ◌≡◌, ◌^◌, Bool, true, false, cond, List, [], ◌∷◌, ◌++◌, length, get_or, ap, sym, refl, ◌∙◌, subst, inl, inr, arith, length-append}
use Rattle.std.specs.Prelude.{ℤ, pos, Some, None, slice_get, replicate}
use Rattle.std.proofs.lemmas.Bool.{cases_lt}
use Rattle.std.proofs.lemmas.Option.{slice_get_past, slice_get-get_or}
use Rattle.std.proofs.lemmas.List.{length-set, length-replicate, get_or-replicate, get_or_past, get_or-set_same, get_or-set_other, get_or_push}
use Rattle.lucy_word.specs.Bits.{Bits, bit_at, ones_to}
use Rattle.lucy_stream.specs.Items.{item_at, newest, list_at}
use Rattle.lucy_stream.specs.Forms.{Form, operands}
use Rattle.lucy_stream.specs.Systems.{RingOp, Takes, Gives}
use Rattle.lucy_stream.specs.Operations.{firing_ops, ops_of, fired_at}
use Rattle.lucy_host.specs.Arity.{arity}
use Rattle.lucy_host.specs.declared.kind.HostKind.{HostKind}
use Rattle.lucy_host.specs.HostValue.{hosted_value}
use Rattle.lucy_stream.specs.Firings.{fire_value, delayed_value}
use Rattle.lucy_host.specs.declared.op.Op.{Op}
use Rattle.lucy_host.specs.declared.op.Op.TheVariants.{Add, Sub, Mul, Div, Rem, Eq, Ne, Lt, Le, Gt, Ge, And, Or, Not, If}
use Rattle.lucy_net.specs.declared.kind.ActorKind.{ActorKind}
use Rattle.lucy_net.specs.declared.kind.ActorKind.TheVariants as kind
use Rattle.lucy_net.specs.declared.net.Actor.{Actor}
use Rattle.lucy_net.specs.declared.firing.Move.TheVariants.{Done}
use Rattle.lucy_net.specs.declared.state.ActorState.{ActorState}
use Rattle.lucy_net.specs.Plans.{form_of, actor_ops}
use Rattle.lucy_net.specs.Moves.{move_of}
use Rattle.lucy_net.specs.Cursors.{Reads, HasCursor}
use Rattle.lucy_net.specs.States.{IsUsable, IsActorState, IsOfActor, IsNext, ReadsInput, KnowsOperator, took_more}
use Rattle.lucy_net.specs.Stepping.{IsMovedOn, IsSteppedOn}
use Rattle.lucy_stream.proofs.PlaceLaws.{op_found, fired_in}
use Rattle.lucy_net.proofs.FiringLaws.{firing_some, firing_few, ops_idle}

-- the next operation
pub move_open : (actor : Actor) (instants n : ℕ) (took : List (List ℤ)) (s : ActorState) → IsActorState actor instants n took s → s.fired < s.quota →
    slice_get (firing_ops (form_of actor.kind) actor.takes actor.gives s.fired) s.step ≡ slice_get (actor_ops instants actor) n
move_open actor instants n took s is going =
    let form : Form = form_of actor.kind in
    sym (op_found form actor.takes actor.gives s.fired s.quota s.step going (is.inside going)) ∙ ap (λ k. slice_get (ops_of form actor.takes actor.gives s.quota) k) (sym is.done) ∙ ap (λ q. slice_get (ops_of form actor.takes actor.gives q) n) is.quota

none_ended : (actor : Actor) (instants n : ℕ) (took : List (List ℤ)) (s : ActorState) → IsActorState actor instants n took s → s.quota ≤ s.fired → slice_get (actor_ops instants actor) n ≡ None
none_ended actor instants n took s is ended =
    let form : Form = form_of actor.kind in
    let same : s.fired ≡ ones_to actor.firing instants = omega (arith, is.quota, is.within) in
    let all : length (ops_of form actor.takes actor.gives (ones_to actor.firing instants)) ≤ n = omega (arith, is.done, ap (λ q. length (ops_of form actor.takes actor.gives q)) same) in
    slice_get_past (ops_of form actor.takes actor.gives (ones_to actor.firing instants)) n all

pub move_ended : (actor : Actor) (instants n : ℕ) (took : List (List ℤ)) (s : ActorState) → IsActorState actor instants n took s → s.quota ≤ s.fired → Done ≡ move_of (slice_get (actor_ops instants actor) n)
move_ended actor instants n took s is ended = ap move_of (sym (none_ended actor instants n took s is ended))

-- so the next operation is the planned one
pub next_is : (actor : Actor) (instants n : ℕ) (took : List (List ℤ)) (s : ActorState) (op : RingOp) → IsActorState actor instants n took s → IsNext actor s op → slice_get (actor_ops instants actor) n ≡ Some op
next_is actor instants n took s op is next = sym (move_open actor instants n took s is next.going) ∙ next.is

pub planned_is : (actor : Actor) (instants n : ℕ) (took : List (List ℤ)) (s : ActorState) (op : RingOp) → IsActorState actor instants n took s → slice_get (actor_ops instants actor) n ≡ Some op → IsNext actor s op
planned_is actor instants n took s op is e = elim (cases_lt s.fired s.quota) [
  | inl going ↦ record { going = going; is = move_open actor instants n took s is going ∙ e }
  | inr ended ↦ absurd (let none : None ≡ Some op = sym (none_ended actor instants n took s is ended) ∙ e in cc)
]

some_move : (op : RingOp) → move_of (Some op) ≡ Done → ⊥
some_move (Takes r) e = cc
some_move (Gives r) e = cc

pub some_next : (actor : Actor) (s : ActorState) → IsOfActor actor s → s.fired < s.quota → (op : RingOp) × IsNext actor s op
some_next actor s of going =
    let is : IsActorState actor of.0 of.1 of.2 s = of.3 in
    let ops : List RingOp = firing_ops (form_of actor.kind) actor.takes actor.gives s.fired in
    (get_or ops s.step (Takes 0), record { going = going; is = slice_get-get_or ops s.step (Takes 0) (is.inside going) })

pub next_not_done : (actor : Actor) (s : ActorState) → IsOfActor actor s → s.fired < s.quota → move_of (slice_get (firing_ops (form_of actor.kind) actor.takes actor.gives s.fired) s.step) ≡ Done → ⊥
next_not_done actor s of going e =
    let next = some_next actor s of going in
    some_move next.0 (ap move_of (sym next.1.is) ∙ e)

-- the firing in which it is
pub fired_open : (actor : Actor) (instants n : ℕ) (took : List (List ℤ)) (s : ActorState) → IsActorState actor instants n took s → s.fired < s.quota →
    get_or (fired_at (form_of actor.kind) actor.takes actor.gives (ones_to actor.firing instants)) n 0 ≡ s.fired
fired_open actor instants n took s is going =
    let form : Form = form_of actor.kind in
    ap (λ q. get_or (fired_at form actor.takes actor.gives q) n 0) (sym is.quota) ∙ ap (λ k. get_or (fired_at form actor.takes actor.gives s.quota) k 0) is.done ∙ fired_in form actor.takes actor.gives s.fired s.quota s.step going (is.inside going)

-- the numbers of a state after one operation more
record Numbers (actor : Actor) (instants n : ℕ) (t : ActorState) : Type 0 where
  pub quota : t.quota ≡ ones_to actor.firing instants
  pub within : t.fired ≤ t.quota
  pub done : n ≡ length (ops_of (form_of actor.kind) actor.takes actor.gives t.fired) + t.step
  pub inside : t.fired < t.quota → t.step < length (firing_ops (form_of actor.kind) actor.takes actor.gives t.fired)
  pub ended : t.quota ≤ t.fired → t.step ≡ 0
  pub cursor : t.fired < t.quota → HasCursor (form_of actor.kind) t.fired t.cursor

numbers_on : (actor : Actor) (instants n : ℕ) (took : List (List ℤ)) (s t : ActorState) → IsUsable actor → IsActorState actor instants n took s → s.fired < s.quota → IsSteppedOn actor s t → Numbers actor instants (n + 1) t
numbers_on actor instants n took s t usable is going on =
    let form : Form = form_of actor.kind in
    let here : s.step < length (firing_ops form actor.takes actor.gives s.fired) = is.inside going in
    elim (cases_lt (s.step + 1) (length (firing_ops form actor.takes actor.gives s.fired))) [
      | inl more ↦
          let e = on.moved.goes_on more in
          let ops : length (ops_of form actor.takes actor.gives t.fired) ≡ length (ops_of form actor.takes actor.gives s.fired) = ap (λ q. length (ops_of form actor.takes actor.gives q)) e.0 in
          let now : length (firing_ops form actor.takes actor.gives t.fired) ≡ length (firing_ops form actor.takes actor.gives s.fired) = ap (λ q. length (firing_ops form actor.takes actor.gives q)) e.0 in
          record {
            quota = on.moved.quota ∙ is.quota;
            within = omega (arith, e.0, on.moved.quota);
            done = omega (arith, e.1, is.done);
            inside = λ l. omega (arith, e.1);
            ended = λ l. absurd (omega (arith, e.0, on.moved.quota));
            cursor = λ l. on.cursor;
          }
      | inr last ↦
          let e = on.moved.next last in
          let f : t.fired ≡ suc s.fired = omega (arith, e.0) in
          let ops : length (ops_of form actor.takes actor.gives t.fired) ≡ length (ops_of form actor.takes actor.gives s.fired ++ firing_ops form actor.takes actor.gives s.fired) = ap (λ q. length (ops_of form actor.takes actor.gives q)) f in
          let rings : 0 < length actor.takes + length actor.gives = omega (arith, firing_few form actor.takes actor.gives s.fired usable.arity) in
          record {
            quota = on.moved.quota ∙ is.quota;
            within = omega (arith, e.0, on.moved.quota);
            done = omega (arith, e.1, is.done, length-append (ops_of form actor.takes actor.gives s.fired) (firing_ops form actor.takes actor.gives s.fired));
            inside = λ l. omega (arith, e.1, firing_some form actor.takes actor.gives t.fired usable.arity rings);
            ended = λ l. e.1;
            cursor = λ l. on.cursor;
          }
    ]

pub gave_on : (actor : Actor) (instants n : ℕ) (took : List (List ℤ)) (s t : ActorState) → IsUsable actor → IsActorState actor instants n took s → s.fired < s.quota → IsSteppedOn actor s t → IsActorState actor instants (n + 1) took t
gave_on actor instants n took s t usable is going on =
    let m : Numbers actor instants (n + 1) t = numbers_on actor instants n took s t usable is going on in
    record {
      quota = m.quota;
      within = m.within;
      done = m.done;
      inside = m.inside;
      ended = m.ended;
      cursor = m.cursor;
      lists = is.lists;
      a = on.moved.a ∙ is.a;
      b = on.moved.b ∙ is.b;
      c = on.moved.c ∙ is.c;
      kept = on.moved.kept ∙ is.kept;
    }

newest_push : (items : List ℤ) (value : ℤ) → newest (items ++ value ∷ []) ≡ value
newest_push items value = get_or_push items value (pos 0) (length (items ++ value ∷ []) - 1) (omega (arith, length-append items (value ∷ [])))

-- the newest item of each operand, where one has one more
pub newest_more : (took : List (List ℤ)) (j : ℕ) (value : ℤ) → j < length took → newest (list_at (took_more took j value) j) ≡ value
newest_more took j value l = ap newest (get_or-set_same took j (list_at took j ++ value ∷ []) [] l) ∙ newest_push (list_at took j) value

pub newest_other : (took : List (List ℤ)) (j i : ℕ) (value : ℤ) → (i ≡ j → ⊥) → newest (list_at (took_more took j value) i) ≡ newest (list_at took i)
newest_other took j i value ne = ap newest (get_or-set_other took j i (list_at took j ++ value ∷ []) [] ne)

-- a state that was changed so far as the item that was taken goes, and then went on
pub took_on : (actor : Actor) (instants n : ℕ) (took : List (List ℤ)) (s u t : ActorState) (j : ℕ) (value : ℤ) → IsUsable actor → IsActorState actor instants n took s → s.fired < s.quota → j < operands (form_of actor.kind) →
    u.quota ≡ s.quota → u.fired ≡ s.fired → u.step ≡ s.step → u.cursor ≡ s.cursor → u.a ≡ newest (list_at (took_more took j value) 0) → u.b ≡ newest (list_at (took_more took j value) 1) → u.c ≡ newest (list_at (took_more took j value) 2) → u.kept ≡ newest (list_at (took_more took j value) 0) →
    IsSteppedOn actor u t → IsActorState actor instants (n + 1) (took_more took j value) t
took_on actor instants n took s u t j value usable is going l q f st cu ea eb ec ek on =
    let form : Form = form_of actor.kind in
    let mid : IsActorState actor instants n (took_more took j value) u = record {
      quota = q ∙ is.quota;
      within = omega (arith, q, f, is.within);
      done = is.done ∙ ap (λ k. length (ops_of form actor.takes actor.gives k) + s.step) (sym f) ∙ ap (λ k. length (ops_of form actor.takes actor.gives u.fired) + k) (sym st);
      inside = λ o. (let was : s.step < length (firing_ops form actor.takes actor.gives s.fired) = is.inside going in omega (arith, st, ap (λ k. length (firing_ops form actor.takes actor.gives k)) f));
      ended = λ o. st ∙ is.ended (omega (arith, q, f));
      cursor = λ o. subst (λ (k : ℕ). HasCursor form k u.cursor) (sym f) (subst (λ (k : ℕ). HasCursor form s.fired k) (sym cu) (is.cursor going));
      lists = length-set took j (list_at took j ++ value ∷ []) ∙ is.lists;
      a = ea;
      b = eb;
      c = ec;
      kept = ek;
    } in
    gave_on actor instants n (took_more took j value) u t usable mid (omega (arith, q, f)) on

none_at : (n i : ℕ) → newest (list_at (replicate n []) i) ≡ pos 0
none_at n i = elim (cases_lt i n) [
  | inl l ↦ ap newest (get_or-replicate n i [] [] l)
  | inr l ↦ ap newest (get_or_past (replicate n []) i [] (omega (arith, length-replicate {A = List ℤ} n [])))
]

-- an actor without rings is at its end from the beginning
pub first_idle : (actor : Actor) (instants q cursor : ℕ) → IsUsable actor → q ≡ ones_to actor.firing instants → length actor.takes + length actor.gives ≡ 0 →
    IsActorState actor instants 0 (replicate (operands (form_of actor.kind)) []) (record { quota = q; fired = q; step = 0; cursor = cursor; a = pos 0; b = pos 0; c = pos 0; kept = pos 0 })
first_idle actor instants q cursor usable e none = record {
  quota = e;
  within = omega arith;
  done = omega (arith, ops_idle (form_of actor.kind) actor.takes actor.gives q usable.arity none);
  inside = λ l. absurd (omega arith);
  ended = λ l. refl;
  cursor = λ l. absurd (omega arith);
  lists = length-replicate (operands (form_of actor.kind)) [];
  a = sym (none_at (operands (form_of actor.kind)) 0);
  b = sym (none_at (operands (form_of actor.kind)) 1);
  c = sym (none_at (operands (form_of actor.kind)) 2);
  kept = sym (none_at (operands (form_of actor.kind)) 0);
}

pub first_busy : (actor : Actor) (instants q cursor : ℕ) → IsUsable actor → HasCursor (form_of actor.kind) 0 cursor → q ≡ ones_to actor.firing instants → 0 < length actor.takes + length actor.gives →
    IsActorState actor instants 0 (replicate (operands (form_of actor.kind)) []) (record { quota = q; fired = 0; step = 0; cursor = cursor; a = pos 0; b = pos 0; c = pos 0; kept = pos 0 })
first_busy actor instants q cursor usable has e some = record {
  quota = e;
  within = omega arith;
  done = omega arith;
  inside = λ l. firing_some (form_of actor.kind) actor.takes actor.gives 0 usable.arity some;
  ended = λ l. refl;
  cursor = λ l. has;
  lists = length-replicate (operands (form_of actor.kind)) [];
  a = sym (none_at (operands (form_of actor.kind)) 0);
  b = sym (none_at (operands (form_of actor.kind)) 1);
  c = sym (none_at (operands (form_of actor.kind)) 2);
  kept = sym (none_at (operands (form_of actor.kind)) 0);
}

-- the item that was taken, kept for its operand
pub took_zero : (actor : Actor) (instants n : ℕ) (took : List (List ℤ)) (s u t : ActorState) (j : ℕ) (value : ℤ) → IsUsable actor → IsActorState actor instants n took s → s.fired < s.quota → j < operands (form_of actor.kind) → j ≡ 0 →
    u ≡ record { quota = s.quota; fired = s.fired; step = s.step; cursor = s.cursor; a = value; b = s.b; c = s.c; kept = value } → IsSteppedOn actor u t → IsActorState actor instants (n + 1) (took_more took j value) t
took_zero actor instants n took s u t j value usable is going l here e on =
    let inside : j < length took = omega (arith, is.lists) in
    let new : newest (list_at (took_more took j value) 0) ≡ value = ap (λ i. newest (list_at (took_more took j value) i)) (sym here) ∙ newest_more took j value inside in
    took_on actor instants n took s u t j value usable is going l (ap (λ (x : ActorState). x.quota) e) (ap (λ (x : ActorState). x.fired) e) (ap (λ (x : ActorState). x.step) e) (ap (λ (x : ActorState). x.cursor) e)
    (ap (λ (x : ActorState). x.a) e ∙ sym new)
    (ap (λ (x : ActorState). x.b) e ∙ is.b ∙ sym (newest_other took j 1 value (λ (z : 1 ≡ j). absurd (omega arith))))
    (ap (λ (x : ActorState). x.c) e ∙ is.c ∙ sym (newest_other took j 2 value (λ (z : 2 ≡ j). absurd (omega arith))))
    (ap (λ (x : ActorState). x.kept) e ∙ sym new) on

pub took_one : (actor : Actor) (instants n : ℕ) (took : List (List ℤ)) (s u t : ActorState) (j : ℕ) (value : ℤ) → IsUsable actor → IsActorState actor instants n took s → s.fired < s.quota → j < operands (form_of actor.kind) → j ≡ 1 →
    u ≡ record { quota = s.quota; fired = s.fired; step = s.step; cursor = s.cursor; a = s.a; b = value; c = s.c; kept = s.kept } → IsSteppedOn actor u t → IsActorState actor instants (n + 1) (took_more took j value) t
took_one actor instants n took s u t j value usable is going l here e on =
    let inside : j < length took = omega (arith, is.lists) in
    let new : newest (list_at (took_more took j value) 1) ≡ value = ap (λ i. newest (list_at (took_more took j value) i)) (sym here) ∙ newest_more took j value inside in
    let first : newest (list_at (took_more took j value) 0) ≡ newest (list_at took 0) = newest_other took j 0 value (λ (z : 0 ≡ j). absurd (omega arith)) in
    took_on actor instants n took s u t j value usable is going l (ap (λ (x : ActorState). x.quota) e) (ap (λ (x : ActorState). x.fired) e) (ap (λ (x : ActorState). x.step) e) (ap (λ (x : ActorState). x.cursor) e)
    (ap (λ (x : ActorState). x.a) e ∙ is.a ∙ sym first) (ap (λ (x : ActorState). x.b) e ∙ sym new)
    (ap (λ (x : ActorState). x.c) e ∙ is.c ∙ sym (newest_other took j 2 value (λ (z : 2 ≡ j). absurd (omega arith))))
    (ap (λ (x : ActorState). x.kept) e ∙ is.kept ∙ sym first) on

pub took_two : (actor : Actor) (instants n : ℕ) (took : List (List ℤ)) (s u t : ActorState) (j : ℕ) (value : ℤ) → IsUsable actor → IsActorState actor instants n took s → s.fired < s.quota → j < operands (form_of actor.kind) → j ≡ 2 →
    u ≡ record { quota = s.quota; fired = s.fired; step = s.step; cursor = s.cursor; a = s.a; b = s.b; c = value; kept = s.kept } → IsSteppedOn actor u t → IsActorState actor instants (n + 1) (took_more took j value) t
took_two actor instants n took s u t j value usable is going l here e on =
    let inside : j < length took = omega (arith, is.lists) in
    let new : newest (list_at (took_more took j value) 2) ≡ value = ap (λ i. newest (list_at (took_more took j value) i)) (sym here) ∙ newest_more took j value inside in
    let first : newest (list_at (took_more took j value) 0) ≡ newest (list_at took 0) = newest_other took j 0 value (λ (z : 0 ≡ j). absurd (omega arith)) in
    took_on actor instants n took s u t j value usable is going l (ap (λ (x : ActorState). x.quota) e) (ap (λ (x : ActorState). x.fired) e) (ap (λ (x : ActorState). x.step) e) (ap (λ (x : ActorState). x.cursor) e)
    (ap (λ (x : ActorState). x.a) e ∙ is.a ∙ sym first)
    (ap (λ (x : ActorState). x.b) e ∙ is.b ∙ sym (newest_other took j 1 value (λ (z : 1 ≡ j). absurd (omega arith))))
    (ap (λ (x : ActorState). x.c) e ∙ sym new)
    (ap (λ (x : ActorState). x.kept) e ∙ is.kept ∙ sym first) on

arity_few : (op : Op) → arity op ≤ 3
arity_few op = elim op as (λ (o : Op). arity o ≤ 3) [ Add ↦ omega arith | Sub ↦ omega arith | Mul ↦ omega arith | Div ↦ omega arith | Rem ↦ omega arith | Eq ↦ omega arith | Ne ↦ omega arith | Lt ↦ omega arith | Le ↦ omega arith | Gt ↦ omega arith | Ge ↦ omega arith | And ↦ omega arith | Or ↦ omega arith | Not ↦ omega arith | If ↦ omega arith ]

-- no form has more than three operands
pub operands_few : (kind : ActorKind) → operands (form_of kind) ≤ 3
operands_few (kind.Input input) = omega arith
operands_few (kind.Lit value) = omega arith
operands_few (kind.Op op) = arity_few op
operands_few (kind.Host op) = omega arith
operands_few (kind.When word) = omega arith
operands_few (kind.Merge word) = omega arith
operands_few (kind.Fby first) = omega arith
operands_few kind.Pass = omega arith
operands_few (kind.Output output) = omega arith

-- a firing has few operations
pub firing_short : (actor : Actor) (q : ℕ) → IsUsable actor → length (firing_ops (form_of actor.kind) actor.takes actor.gives q) < 2 ^ 32
firing_short actor q usable = omega (arith, firing_few (form_of actor.kind) actor.takes actor.gives q usable.arity, operands_few actor.kind, usable.arity, usable.few)

-- one operation more, by how many the firing has
pub stepped : (actor : Actor) (s t : ActorState) (moves : ℕ) → moves ≡ length (firing_ops (form_of actor.kind) actor.takes actor.gives s.fired) → IsMovedOn moves s t → HasCursor (form_of actor.kind) t.fired t.cursor → IsSteppedOn actor s t
stepped actor s t moves e on has = record { moved = subst (λ (k : ℕ). IsMovedOn k s t) e on; cursor = has }

-- the value of a firing, by its actor's kind
pub value_input : (kinds : List HostKind) (inputs : List (List ℤ)) (k : ℕ) (took : List (List ℤ)) (what : ActorKind) (x : ℕ) (items : List ℤ) → what ≡ kind.Input x → ReadsInput what inputs items → fire_value kinds inputs (form_of what) k took ≡ item_at items k
value_input kinds inputs k took what x items e reads =
    let same : items ≡ list_at inputs x = subst (λ (y : ActorKind). ReadsInput y inputs items) e reads in
    ap (λ (y : ActorKind). fire_value kinds inputs (form_of y) k took) e ∙ ap (λ xs. item_at xs k) (sym same)

pub value_one : (kinds : List HostKind) (inputs : List (List ℤ)) (k : ℕ) (took : List (List ℤ)) (what : ActorKind) (word : Bits) (bit : Bool) → what ≡ kind.Merge word → Reads (form_of what) k bit → bit ≡ true →
    fire_value kinds inputs (form_of what) k took ≡ newest (list_at took 0)
value_one kinds inputs k took what word bit e reads h =
    let read : bit ≡ bit_at word (k + 1) = subst (λ (y : ActorKind). Reads (form_of y) k bit) e reads in
    ap (λ (y : ActorKind). fire_value kinds inputs (form_of y) k took) e ∙ ap (λ b. cond b (newest (list_at took 0)) (newest (list_at took 1))) (sym read ∙ h)

pub value_zero : (kinds : List HostKind) (inputs : List (List ℤ)) (k : ℕ) (took : List (List ℤ)) (what : ActorKind) (word : Bits) (bit : Bool) → what ≡ kind.Merge word → Reads (form_of what) k bit → bit ≡ false →
    fire_value kinds inputs (form_of what) k took ≡ newest (list_at took 1)
value_zero kinds inputs k took what word bit e reads h =
    let read : bit ≡ bit_at word (k + 1) = subst (λ (y : ActorKind). Reads (form_of y) k bit) e reads in
    ap (λ (y : ActorKind). fire_value kinds inputs (form_of y) k took) e ∙ ap (λ b. cond b (newest (list_at took 0)) (newest (list_at took 1))) (sym read ∙ h)

pub value_host : (kinds : List HostKind) (inputs : List (List ℤ)) (k : ℕ) (took : List (List ℤ)) (what : ActorKind) (op : ℕ) → what ≡ kind.Host op → fire_value kinds inputs (form_of what) k took ≡ hosted_value kinds op (newest (list_at took 0)) (newest (list_at took 1))
value_host kinds inputs k took what op e = ap (λ (y : ActorKind). fire_value kinds inputs (form_of y) k took) e

pub op_known : (what : ActorKind) (op count : ℕ) → what ≡ kind.Host op → KnowsOperator what count → op < count
op_known what op count e h = subst (λ (y : ActorKind). KnowsOperator y count) e h

pub value_begun : (kinds : List HostKind) (inputs : List (List ℤ)) (k : ℕ) (took : List (List ℤ)) (what : ActorKind) (first : ℤ) → what ≡ kind.Fby first → k ≡ 0 → fire_value kinds inputs (form_of what) k took ≡ first
value_begun kinds inputs k took what first e z = ap (λ (y : ActorKind). fire_value kinds inputs (form_of y) k took) e ∙ ap (λ n. delayed_value first n (list_at took 0)) z

delayed_later : (first : ℤ) (k : ℕ) (items : List ℤ) → 0 < k → delayed_value first k items ≡ newest items
delayed_later first zero items l = absurd (omega arith)
delayed_later first (suc k) items l = refl

pub value_later : (kinds : List HostKind) (inputs : List (List ℤ)) (k : ℕ) (took : List (List ℤ)) (what : ActorKind) (first : ℤ) → what ≡ kind.Fby first → 0 < k → fire_value kinds inputs (form_of what) k took ≡ newest (list_at took 0)
value_later kinds inputs k took what first e l = ap (λ (y : ActorKind). fire_value kinds inputs (form_of y) k took) e ∙ delayed_later first k (list_at took 0) l
