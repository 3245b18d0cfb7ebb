-- Actors by their forms, and the rings between them: the machine that they are, up to their quotas of firings.
use Rattle.std.specs.Prelude.{ℕ, ◌<◌, ◌≤◌, ◌≡◌, List, [], map, ℤ, pos, length, slice_get, slice_index_or, nat_eq, count_by, Option, Some, None, All}
use Rattle.lucy_host.specs.declared.kind.HostKind.{HostKind}
use Rattle.lucy_stream.specs.Items.{list_at}
use Rattle.lucy_stream.specs.Forms.{Form, Given, operands}
use Rattle.lucy_stream.specs.Iterates.{Place, iterate}
use Rattle.lucy_stream.specs.Firings.{fire_value}
use Rattle.lucy_stream.specs.Systems.{RingOp, System}
use Rattle.lucy_stream.specs.States.{Machine}
use Rattle.lucy_stream.specs.Operations.{ops_of, fired_at}

-- what an actor has to do: its form, the rings that it takes from and gives to, and how many firings
pub record Task : Type 0 where
  pub form : Form
  pub takes : List ℕ
  pub gives : List ℕ
  pub quota : ℕ

-- the actors and the rings: who gives to and who takes from each ring, and the ring's size
pub record Plan : Type 0 where
  pub tasks : List Task
  pub from : ℕ → ℕ
  pub to : ℕ → ℕ
  pub size : ℕ → ℕ

-- the operations of an actor, none where there is no such actor
abbrev pub task_ops : Option Task → List RingOp
task_ops None = []
task_ops (Some task) = ops_of task.form task.takes task.gives task.quota

-- the actors' lists of operations on the rings
abbrev pub system : Plan → System
system plan = record {
  ops = λ (a : ℕ). task_ops (slice_get plan.tasks a);
  from = plan.from;
  to = plan.to;
  size = plan.size;
}

-- what an actor gives at its operation after n others, by what was taken from its rings
abbrev pub task_value : List HostKind → List (List ℤ) → Option Task → ℕ → (ℕ → List ℤ) → ℤ
task_value kinds inputs None n took = pos 0
task_value kinds inputs (Some task) n took = fire_value kinds inputs task.form (slice_index_or (fired_at task.form task.takes task.gives task.quota) n 0) (map took task.takes)

-- the actors with their values
abbrev pub machine : List HostKind → List (List ℤ) → Plan → Machine
machine kinds inputs plan = record {
  sys = system plan;
  value = λ (a n : ℕ) (took : ℕ → List ℤ). task_value kinds inputs (slice_get plan.tasks a) n took;
}

-- how often a list has the number
abbrev pub times : ℕ → List ℕ → ℕ
times r numbers = count_by (λ s. nat_eq s r) numbers

-- the ring is that of operand j, and of no other one
pub record IsOperand (takes : List ℕ) (j r : ℕ) : Type 0 where
  pub there : j < length takes
  pub is : slice_index_or takes j 0 ≡ r
  pub once : times r takes ≡ 1

-- the actor of this number is the one that gives to the rings of its one list and takes from those of the other: each ring
-- stands in its list once, and there is one to take from for each operand
pub record IsPluggedAt (plan : Plan) (a : ℕ) (task : Task) : Type 0 where
  pub gives : All (λ r. plan.from r ≡ a) task.gives
  pub takes : All (λ r. plan.to r ≡ a) task.takes
  pub gives_once : (r : ℕ) → times r task.gives ≤ 1
  pub takes_once : (r : ℕ) → times r task.takes ≤ 1
  pub arity : length task.takes ≡ operands task.form

-- every actor is plugged to its rings in this way
abbrev pub IsPlugged : Plan → Type 0
IsPlugged plan = (a : ℕ) (task : Task) → slice_get plan.tasks a ≡ Some task → IsPluggedAt plan a task

-- a task that gives an input has an item of it for each of its firings
abbrev pub HasInput : List (List ℤ) → Form → ℕ → Type 0
HasInput inputs (Given input) quota = quota ≤ length (list_at inputs input)
HasInput inputs form quota = Unit {0}

-- every task that gives an input has so many items of it
abbrev pub IsFed : List (List ℤ) → Plan → Type 0
IsFed inputs plan = (a : ℕ) (task : Task) → slice_get plan.tasks a ≡ Some task → HasInput inputs task.form task.quota

-- the place that an actor is: it reads those that give to its rings
abbrev pub place_of : Plan → Task → Place
place_of plan task = record { form = task.form; reads = map plan.from task.takes }

-- the places that the actors are
abbrev pub places_of : Plan → List Place
places_of plan = map (place_of plan) plan.tasks

-- the list, in iterate n of these places, of the actor that gives to the ring
abbrev pub kahn_list : List HostKind → List (List ℤ) → Plan → ℕ → ℕ → List ℤ
kahn_list kinds inputs plan n r = list_at (iterate kinds inputs (places_of plan) n) (plan.from r)

-- no actor has more firings than so many
abbrev pub QuotasWithin : Plan → ℕ → Type 0
QuotasWithin plan most = (a : ℕ) (task : Task) → slice_get plan.tasks a ≡ Some task → task.quota ≤ most

-- the actors from this number on give to no ring
abbrev pub GiveBelow : Plan → ℕ → Type 0
GiveBelow plan count = (a : ℕ) (task : Task) → slice_get plan.tasks a ≡ Some task → count ≤ a → task.gives ≡ []

-- plugged actors with their inputs; only the first `count` actors give, and each has at most `most` firings
pub record IsRunnable (inputs : List (List ℤ)) (plan : Plan) (count most : ℕ) : Type 0 where
  pub plugged : IsPlugged plan
  pub fed : IsFed inputs plan
  pub give_below : GiveBelow plan count
  pub quotas : QuotasWithin plan most
