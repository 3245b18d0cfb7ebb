-- The operations of an instant among all those of an actor.
use Rattle.std.proofs.Common.{ℕ, suc, zero, ◌+◌, ◌<◌, ◌≤◌, ◌≡◌, true, false, cond, List, [], ◌∷◌, ◌++◌, length, get_or, ap, sym, refl, ◌∙◌, subst, inl, inr, arith, length-append}
use Rattle.std.specs.Prelude.{Option, Some, None, slice_get, All}
use Rattle.std.proofs.lemmas.Bool.{cases_Bool}
use Rattle.std.proofs.lemmas.Option.{get_or_from_slice_get, slice_get_within}
use Rattle.std.proofs.lemmas.List.{append-nil, get_or-append-add}
use Rattle.std.proofs.lemmas.List.Elements.{All-get_or, All-nil}
use Rattle.lucy_word.specs.Bits.{bit_at, one_if, ones_to}
use Rattle.lucy_word.proofs.BitsLaws.{ones_to-more}
use Rattle.lucy_stream.specs.Forms.{Form}
use Rattle.lucy_stream.specs.Systems.{RingOp, Takes, op_at}
use Rattle.lucy_stream.specs.Operations.{ops_of, IsOnRings}
use Rattle.lucy_stream.proofs.OperationLaws.{firing_rings, firing_short}
use Rattle.lucy_net.specs.declared.net.Actor.{Actor}
use Rattle.lucy_net.specs.declared.net.Net.{Net}
use Rattle.lucy_net.specs.Plans.{form_of, net_system, done_by}
use Rattle.lucy_net.specs.Proper.{IsProper, IsProperActor}
use Rattle.lucy_net.specs.Instants.{slot_of, slot, firing_of}
use Rattle.lucy_net.proofs.WhereLaws.{where_length}
use Rattle.lucy_net.proofs.NetLaws.{ops_in, ops_at, gives_there, takes_there, gives_short}

more_ops : (n : ℕ) (o : Option Actor) → ops_in (n + 1) o ≡ ops_in n o ++ slot_of n o
more_ops n None = refl
more_ops n (Some actor) =
    let form : Form = form_of actor.kind in
    let q : ℕ = ones_to actor.firing n in
    elim (cases_Bool (bit_at actor.firing (n + 1))) [
      | inl h ↦
          let o : one_if (bit_at actor.firing (n + 1)) ≡ 1 = ap one_if h in
          let e : ones_to actor.firing (n + 1) ≡ suc q = omega (arith, ones_to-more actor.firing n) in
          ap (ops_of form actor.takes actor.gives) e ∙ ap (λ c. ops_of form actor.takes actor.gives q ++ cond c (firing_of actor q) []) (sym h)
      | inr h ↦
          let o : one_if (bit_at actor.firing (n + 1)) ≡ 0 = ap one_if h in
          let e : ones_to actor.firing (n + 1) ≡ q = omega (arith, ones_to-more actor.firing n) in
          ap (ops_of form actor.takes actor.gives) e ∙ sym (append-nil (ops_of form actor.takes actor.gives q)) ∙ ap (λ c. ops_of form actor.takes actor.gives q ++ cond c (firing_of actor q) []) (sym h)
    ]

-- an instant adds its operations to an actor's list
pub slot_more : (net : Net) (n a : ℕ) → (net_system net (n + 1)).ops a ≡ (net_system net n).ops a ++ slot net n a
unfolding slot
slot_more net n a = ops_at net (n + 1) a ∙ more_ops n (slice_get net.actors a) ∙ ap (λ xs. xs ++ slot_of n (slice_get net.actors a)) (sym (ops_at net n a))

pub done_more : (net : Net) (n a : ℕ) → done_by net (n + 1) a ≡ done_by net n a + length (slot net n a)
unfolding done_by
done_more net n a = ap length (slot_more net n a) ∙ length-append ((net_system net n).ops a) (slot net n a)

-- the operation after k others of the instant
pub slot_at : (net : Net) (n a k : ℕ) (op : RingOp) → slice_get (slot net n a) k ≡ Some op → op_at (net_system net (n + 1)) a (done_by net n a + k) ≡ op
unfolding done_by
slot_at net n a k op e =
    ap (λ xs. get_or xs (length ((net_system net n).ops a) + k) (Takes 0)) (slot_more net n a) ∙ get_or-append-add ((net_system net n).ops a) (slot net n a) k (Takes 0) ∙ get_or_from_slice_get (slot net n a) k op (Takes 0) e

slot_of_some : (n : ℕ) (actor : Actor) → 0 < length (slot_of n (Some actor)) → slot_of n (Some actor) ≡ firing_of actor (ones_to actor.firing n)
slot_of_some n actor l = elim (cases_Bool (bit_at actor.firing (n + 1))) [
  | inl h ↦ ap (λ c. cond c (firing_of actor (ones_to actor.firing n)) []) h
  | inr h ↦ absurd (let z : length (slot_of n (Some actor)) ≡ 0 = ap (λ c. length (cond c (firing_of actor (ones_to actor.firing n)) [])) h in omega arith)
]

within_at : (n : ℕ) (actors : List Actor) (a : ℕ) → 0 < length (slot_of n (slice_get actors a)) → a < length actors
within_at n [] a l = absurd (omega arith)
within_at n (x ∷ actors) zero l = omega arith
within_at n (x ∷ actors) (suc a) l = omega (arith, within_at n actors a l)

-- where an actor has something to do in an instant, that is its firing
pub slot_is : (net : Net) (n a : ℕ) (actor : Actor) → slice_get net.actors a ≡ Some actor → 0 < length (slot net n a) → slot net n a ≡ firing_of actor (ones_to actor.firing n)
unfolding slot
slot_is net n a actor e l = ap (slot_of n) e ∙ slot_of_some n actor (subst (λ o. 0 < length (slot_of n o)) e l)

takes_short : (net : Net) (a : ℕ) (actor : Actor) → IsProperActor net a actor → length actor.takes ≤ length net.rings
takes_short net a actor is = subst (λ xs. length xs ≤ length net.rings) (sym is.takes) (where_length _ (length net.rings))

short_at : (net : Net) (n a : ℕ) → IsProper net → (o : Option Actor) → slice_get net.actors a ≡ o → length (slot_of n o) ≤ 65537
short_at net n a is None e = omega arith
short_at net n a is (Some actor) e =
    let p : IsProperActor net a actor = is.actors a actor e in
    let q : ℕ = ones_to actor.firing n in
    let l : length (firing_of actor q) ≤ length actor.takes + length actor.gives + 1 = firing_short (form_of actor.kind) actor.takes actor.gives q in
    let few : length (firing_of actor q) ≤ 65537 = omega (arith, takes_short net a actor p, gives_short net a actor p, is.few_rings) in
    elim (bit_at actor.firing (n + 1)) as (λ c. length (cond c (firing_of actor q) []) ≤ 65537) [ true ↦ few | false ↦ omega arith ]

pub slot_short : (net : Net) (n a : ℕ) → IsProper net → length (slot net n a) ≤ 65537
unfolding slot
slot_short net n a is = short_at net n a is (slice_get net.actors a) refl

there_at : (net : Net) (n a : ℕ) → IsProper net → (o : Option Actor) → slice_get net.actors a ≡ o → All (IsOnRings (length net.rings)) (slot_of n o)
there_at net n a is None e = All-nil (IsOnRings (length net.rings))
there_at net n a is (Some actor) e =
    let p : IsProperActor net a actor = is.actors a actor e in
    let q : ℕ = ones_to actor.firing n in
    let all : All (IsOnRings (length net.rings)) (firing_of actor q) = firing_rings (length net.rings) (form_of actor.kind) actor.takes actor.gives q p.arity (takes_there net a actor p) (gives_there net a actor p) in
    elim (bit_at actor.firing (n + 1)) as (λ c. All (IsOnRings (length net.rings)) (cond c (firing_of actor q) [])) [ true ↦ all | false ↦ All-nil (IsOnRings (length net.rings)) ]

-- an operation is on a ring that is there
pub slot_ring : (net : Net) (n a k : ℕ) (op : RingOp) → IsProper net → slice_get (slot net n a) k ≡ Some op → IsOnRings (length net.rings) op
unfolding slot
slot_ring net n a k op is e =
    let xs : List RingOp = slot_of n (slice_get net.actors a) in
    subst (IsOnRings (length net.rings)) (get_or_from_slice_get xs k op (Takes 0) e) (All-get_or (IsOnRings (length net.rings)) xs k (Takes 0) (slice_get_within xs k op e) (there_at net n a is (slice_get net.actors a) refl))

-- only an actor that is there has something to do
pub slot_within : (net : Net) (n a : ℕ) → 0 < length (slot net n a) → a < length net.actors
unfolding slot
slot_within net n a l = within_at n net.actors a l

pub slot_here : (net : Net) (n a : ℕ) (actor : Actor) → slice_get net.actors a ≡ Some actor → slot net n a ≡ slot_of n (Some actor)
unfolding slot
slot_here net n a actor e = ap (slot_of n) e
