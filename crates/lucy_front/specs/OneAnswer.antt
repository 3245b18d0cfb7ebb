-- A text has one answer: what it is accepted as, or why it is refused.
use Rattle.std.specs.Prelude.{ℕ, ◌≡◌, ◌⊎◌, List}
use Rattle.lucy_host.specs.Operators.{Operator}
use Rattle.lucy_place.specs.PlacedProgram.{PlacedProgram}
use Rattle.lucy_types.specs.declared.ty.Ty.{Ty}
use Rattle.lucy_clock.specs.declared.node_clock.NodeClock.{NodeClock}
use Rattle.lucy_program.specs.declared.options.Options.{Options}
use Rattle.lucy_front.specs.declared.refusal.Refusal.{Refusal}
use Rattle.lucy_front.specs.declared.refusal.Refusal.TheVariants.{Types, Node, Cause, OutOfMemory}
use Rattle.lucy_front.specs.declared.fault.NodeFault.{NodeFault}
use Rattle.lucy_front.specs.declared.fault.NodeFault.TheVariants.{Rates, Clocks}
use Rattle.lucy_program.specs.declared.accepted.Accepted.{Accepted}
use Rattle.lucy_program.specs.Accepting.{IsClockedText, IsAccepted}
use Rattle.lucy_front.specs.Refusing.{RefusesPhases, Refuses}

-- the faults tell the same of a node: they are equal, but that other inequalities may show that there are no clocks
abbrev pub AreFaultsAlike : NodeFault → NodeFault → Type 0
AreFaultsAlike (Rates needs walk) (Rates those way) = (needs ≡ those) × (walk.items ≡ way.items)
AreFaultsAlike (Clocks needs shape diffs cycle) (Clocks those like these round) = (needs ≡ those) × (shape ≡ like) × (diffs ≡ these)
AreFaultsAlike f g = f ≡ g

-- the refusals tell the same of a text: they are equal, but that faults of a node need only be alike, that other paths may show that a
-- node has no typing, and other items that some of an instant depend on each other
abbrev pub AreAlike : Refusal → Refusal → Type 0
AreAlike (Types placed node path) (Types other at way) = (placed ≡ other) × (node ≡ at)
AreAlike (Node placed node fault) (Node other at flaw) = (placed ≡ other) × (node ≡ at) × AreFaultsAlike fault flaw
AreAlike (Cause net names instant items) (Cause other texts at way) = (net ≡ other) × (instant ≡ at)
AreAlike r s = r ≡ s

-- a text has one program: its places, their types and the clocks of its nodes
abbrev pub HaveOneProgram : Type 0
HaveOneProgram =
    (ops : List Operator) (o : Options) (text : List ℕ) (p q : PlacedProgram) (xs ys : List (List Ty)) (cs ds : List NodeClock) → IsClockedText ops o text p xs cs → IsClockedText ops o text q ys ds
    → (p ≡ q) × (xs ≡ ys) × (cs ≡ ds)

-- no phase refuses a text that has a program, unless memory ran out
abbrev pub AreNotRefused : Type 0
AreNotRefused =
    (ops : List Operator) (o : Options) (text : List ℕ) (p : PlacedProgram) (xs : List (List Ty)) (cs : List NodeClock) (r : Refusal) → IsClockedText ops o text p xs cs → RefusesPhases ops o text r
    → r ≡ OutOfMemory

-- and the phases refuse a text in one way, unless memory ran out
abbrev pub HaveOneRefusal : Type 0
HaveOneRefusal =
    (ops : List Operator) (o : Options) (text : List ℕ) (r s : Refusal) → RefusesPhases ops o text r → RefusesPhases ops o text s → (r ≡ OutOfMemory) ⊎ (s ≡ OutOfMemory) ⊎ AreAlike r s

-- a text is accepted as one thing, but that the events of an instant may be ordered in other ways
abbrev pub HaveOneAcceptance : Type 0
HaveOneAcceptance =
    (ops : List Operator) (o : Options) (text : List ℕ) (a b : Accepted) → IsAccepted ops o text a → IsAccepted ops o text b
    → (a.placed ≡ b.placed) × (a.typed ≡ b.typed) × (a.clocks.items ≡ b.clocks.items) × (a.net ≡ b.net) × (a.inputs.items ≡ b.inputs.items) × (a.outputs.items ≡ b.outputs.items)

-- what is accepted is not refused, unless memory ran out
abbrev pub AcceptedAreNotRefused : Type 0
AcceptedAreNotRefused = (ops : List Operator) (o : Options) (text : List ℕ) (a : Accepted) (r : Refusal) → IsAccepted ops o text a → Refuses ops o text r → r ≡ OutOfMemory

-- and what is refused is refused in one way, unless memory ran out
abbrev pub AreRefusedInOneWay : Type 0
AreRefusedInOneWay = (ops : List Operator) (o : Options) (text : List ℕ) (r s : Refusal) → Refuses ops o text r → Refuses ops o text s → (r ≡ OutOfMemory) ⊎ (s ≡ OutOfMemory) ⊎ AreAlike r s
