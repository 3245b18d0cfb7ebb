-- What the actors of a net have to do up to a horizon.
use Rattle.std.specs.Prelude.{ℕ, List, [], map, slice_index_or}
use Rattle.lucy_word.specs.Bits.{ones_to}
use Rattle.lucy_stream.specs.Forms.{Form, Given, Constant, Pointwise, Hosted, Kept, Merged, Delayed, Same}
use Rattle.lucy_stream.specs.Systems.{RingOp, System}
use Rattle.lucy_stream.specs.Operations.{ops_of}
use Rattle.lucy_stream.specs.Plans.{Task, Plan}
use Rattle.lucy_stream.specs.Schedules.{all_done}
use Rattle.lucy_net.specs.declared.kind.ActorKind.{ActorKind}
use Rattle.lucy_net.specs.declared.kind.ActorKind.TheVariants.{Input, Lit, Op, Host, When, Merge, Fby, Pass, Output}
use Rattle.lucy_net.specs.declared.net.Actor.{Actor}
use Rattle.lucy_net.specs.declared.net.Net.{Net}

-- the form of an actor's stream; an output's stream is what it takes
abbrev pub form_of : ActorKind → Form
form_of (Input input) = Given input
form_of (Lit value) = Constant value
form_of (Op op) = Pointwise op
form_of (Host op) = Hosted op
form_of (When word) = Kept word
form_of (Merge word) = Merged word
form_of (Fby first) = Delayed first
form_of Pass = Same
form_of (Output output) = Same

-- the operations of an actor in the first instants: it fires where its word has a one
abbrev pub actor_ops : ℕ → Actor → List RingOp
actor_ops instants actor = ops_of (form_of actor.kind) actor.takes actor.gives (ones_to actor.firing instants)

-- the actor that gives to the ring of this number
abbrev pub giver : Net → ℕ → ℕ
giver net r = slice_index_or (map (λ ring. ring.from) net.rings) r 0

-- the actor that takes from the ring of this number
abbrev pub taker : Net → ℕ → ℕ
taker net r = slice_index_or (map (λ ring. ring.to) net.rings) r 0

-- the actors as a system of operations on rings, up to a horizon
unfoldable pub net_system : Net → ℕ → System
net_system net instants = record {
  ops = λ (a : ℕ). slice_index_or (map (actor_ops instants) net.actors) a [];
  from = giver net;
  to = taker net;
  size = λ (r : ℕ). slice_index_or (map (λ ring. ring.size) net.rings) r 0;
}

-- how many operations each actor does in the first instants: all of its list
unfoldable pub done_by : Net → ℕ → ℕ → ℕ
done_by net instants = all_done (net_system net instants)

-- what an actor has to do in the first instants, for the laws of plans
abbrev pub task_of : ℕ → Actor → Task
task_of instants actor = record { form = form_of actor.kind; takes = actor.takes; gives = actor.gives; quota = ones_to actor.firing instants }

-- the plan whose system is that of the net, up to a horizon
abbrev pub plan : Net → ℕ → Plan
plan net instants = record {
  tasks = map (task_of instants) net.actors;
  from = giver net;
  to = taker net;
  size = λ (r : ℕ). slice_index_or (map (λ ring. ring.size) net.rings) r 0;
}
