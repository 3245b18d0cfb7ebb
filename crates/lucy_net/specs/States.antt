-- Where an actor stands in its list of operations, and what it keeps of what it took.
use Rattle.std.specs.Prelude.{ℕ, suc, zero, ◌+◌, ◌-◌, ◌<◌, ◌≤◌, ◌≡◌, ◌^◌, List, [], ◌∷◌, ◌++◌, ℤ, length, nat_lt, slice_get, slice_set, if◌then◌else◌, Some}
use Rattle.lucy_word.specs.Bits.{bit_at, ones_to}
use Rattle.lucy_stream.specs.Items.{newest, list_at}
use Rattle.lucy_stream.specs.Forms.{Form, Kept, Merged, Delayed, operands}
use Rattle.lucy_stream.specs.Systems.{RingOp}
use Rattle.lucy_stream.specs.Operations.{firing_ops, ops_of}
use Rattle.lucy_net.specs.declared.kind.ActorKind.{ActorKind}
use Rattle.lucy_net.specs.declared.kind.ActorKind.TheVariants.{Input, Host, Output}
use Rattle.lucy_net.specs.declared.net.Actor.{Actor}
use Rattle.lucy_net.specs.declared.ends.EndMove.{EndMove}
use Rattle.lucy_net.specs.declared.ends.EndMove.TheVariants.{Take, Give}
use Rattle.lucy_net.specs.declared.state.ActorState.{ActorState}
use Rattle.lucy_net.specs.Plans.{form_of}
use Rattle.lucy_net.specs.Cursors.{HasCursor}

-- an output gives on no ring
abbrev pub GivesNone : ActorKind → List ℕ → Type 0
GivesNone (Output output) gives = gives ≡ []
GivesNone kind gives = Unit {0}

-- an actor takes from as many rings as it has operands, its operations can be counted, and an output gives on none
pub record IsUsable (actor : Actor) : Type 0 where
  pub arity : length actor.takes ≡ operands (form_of actor.kind)
  pub few : length actor.gives < 2 ^ 31
  pub gives_none : GivesNone actor.kind actor.gives

-- after n of the operations of its first instants, and with these lists taken from its operands
pub record IsActorState (actor : Actor) (instants n : ℕ) (took : List (List ℤ)) (s : ActorState) : Type 0 where
  pub quota : s.quota ≡ ones_to actor.firing instants
  pub within : s.fired ≤ s.quota
  pub done : n ≡ length (ops_of (form_of actor.kind) actor.takes actor.gives s.fired) + s.step
  pub inside : s.fired < s.quota → s.step < length (firing_ops (form_of actor.kind) actor.takes actor.gives s.fired)
  pub ended : s.quota ≤ s.fired → s.step ≡ 0
  pub cursor : s.fired < s.quota → HasCursor (form_of actor.kind) s.fired s.cursor
  pub lists : length took ≡ operands (form_of actor.kind)
  pub a : s.a ≡ newest (list_at took 0)
  pub b : s.b ≡ newest (list_at took 1)
  pub c : s.c ≡ newest (list_at took 2)
  pub kept : s.kept ≡ newest (list_at took 0)

-- the state is one of the actor
abbrev pub IsOfActor : Actor → ActorState → Type 0
IsOfActor actor s = (instants : ℕ) × (n : ℕ) × (took : List (List ℤ)) × IsActorState actor instants n took s

-- the actor's next operation
pub record IsNext (actor : Actor) (s : ActorState) (op : RingOp) : Type 0 where
  pub going : s.fired < s.quota
  pub is : slice_get (firing_ops (form_of actor.kind) actor.takes actor.gives s.fired) s.step ≡ Some op

-- in each firing it takes from all of its rings and then gives to all
abbrev pub IsPlain : Form → Type 0
IsPlain (Kept word) = ⊥
IsPlain (Merged word) = ⊥
IsPlain (Delayed first) = ⊥
IsPlain form = Unit {0}

-- the operand from which the operation of this number takes, in the firing after `fired` others
abbrev pub operand_at : Form → ℕ → ℕ → ℕ
operand_at (Merged word) fired step = if bit_at word (fired + 1) then 0 else 1
operand_at (Delayed first) fired step = 0
operand_at form fired step = step

-- the operation of this number, by which of so many takes, or of so many gives, it is on
abbrev pub end_move_at : Form → ℕ → ℕ → ℕ → ℕ → EndMove
end_move_at (Merged word) takes gives fired zero = Take (if bit_at word (fired + 1) then 0 else 1)
end_move_at (Merged word) takes gives fired (suc step) = Give step
end_move_at (Delayed first) takes gives fired step = if nat_lt step gives then Give step else Take (step - gives)
end_move_at form takes gives fired step = if nat_lt step takes then Take step else Give (step - takes)

-- one item more from an operand
abbrev pub took_more : List (List ℤ) → ℕ → ℤ → List (List ℤ)
took_more took j value = slice_set took j (list_at took j ++ value ∷ [])

-- an input has an item for its next firing
abbrev pub HasItem : ActorKind → ℕ → List ℤ → Type 0
HasItem (Input input) fired items = fired < length items
HasItem kind fired items = Unit {0}

-- an input's list is that of its number
abbrev pub ReadsInput : ActorKind → List (List ℤ) → List ℤ → Type 0
ReadsInput (Input input) inputs items = items ≡ list_at inputs input
ReadsInput kind inputs items = Unit {0}

-- an operator of a host is one of the first, so many of them
abbrev pub KnowsOperator : ActorKind → ℕ → Type 0
KnowsOperator (Host op) count = op < count
KnowsOperator kind count = Unit {0}
