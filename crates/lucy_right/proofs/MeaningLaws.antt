-- What a text is accepted as its program stands for.
use Rattle.std.proofs.Common.{◌≡◌, ◌<◌, ℕ, zero, suc, List, [], ◌∷◌, length, Some, slice_get, take, refl, sym, ◌∙◌, inl, inr, arith}
use Rattle.std.specs.Prelude.{true, false}
use Rattle.std.specs.List.{AllByRecursion}
use Rattle.std.proofs.lemmas.Option.{slice_get_within}
use Rattle.lucy_word.specs.Bits.{Bits}
use Rattle.lucy_word.specs.Shortest.{IsShortest}
use Rattle.lucy_word.specs.Stored.{IsStored}
use Rattle.lucy_host.proofs.Elements.{get_there}
use Rattle.lucy_place.specs.declared.placed.PlacedNode.{PlacedNode}
use Rattle.lucy_place.specs.WrittenNodes.{IsWritten}
use Rattle.lucy_clock.specs.declared.signature.Signature.{Signature}
use Rattle.lucy_clock.specs.declared.node_clock.NodeClock.{NodeClock}
use Rattle.lucy_clock.specs.NodeClocks.{signatures}
use Rattle.lucy_flat.specs.Laws.{NetsAreCausal}
use Rattle.lucy_program.specs.declared.options.Options.{Options}
use Rattle.lucy_program.specs.Clocked.{IsClocked, AreClocksOf}
use Rattle.lucy_program.specs.Laws.{AcceptedAreProper, AcceptedAreClocked}
use Rattle.lucy_right.specs.Owed.{AcceptedStand}
use Rattle.lucy_right.specs.Accepted.{AcceptedAreWritten}
use Rattle.lucy_right.proofs.NameLaws.{faultless_well}

-- words in memory are in shortest form
all_shortest : (words : List Bits) → AllByRecursion IsStored words → AllByRecursion IsShortest words
all_shortest [] h = tt
all_shortest (w ∷ words) h = (h.0.shortest, all_shortest words h.1)

node_shortest : (o : Options) (above : List Signature) (n : PlacedNode) (c : NodeClock) → IsClocked o above n c → AllByRecursion IsShortest c.words
node_shortest o above n c is = elim is.its [
  | inl h ↦ all_shortest c.words h.1.of.stored
  | inr h ↦ h.inferred.are.earliest.shortest
]

-- what holds of each entry holds of all
each_of : {A : Type 0} (P : A → Type 0) (xs : List A) → ((i : ℕ) (x : A) → slice_get xs i ≡ Some x → P x) → AllByRecursion P xs
each_of P [] h = tt
each_of P (x ∷ xs) h = (h zero x refl, each_of P xs (λ i y e. h (suc i) y e))

module _ (o : Options) (nodes : List PlacedNode) (clocks : List NodeClock) (are : AreClocksOf o nodes clocks) where
  clock_shortest : (i : ℕ) (c : NodeClock) → slice_get clocks i ≡ Some c → AllByRecursion IsShortest c.words
  clock_shortest i c e =
      let within : i < length clocks = slice_get_within clocks i c e in
      let node = get_there nodes i (omega (arith, within, are.all)) in node_shortest o (signatures (take i nodes) (take i clocks)) node.0 c (are.each i node.0 c node.1 e)

  pub clocks_shortest : AllByRecursion (λ (c : NodeClock). AllByRecursion IsShortest c.words) clocks
  clocks_shortest = each_of (λ (c : NodeClock). AllByRecursion IsShortest c.words) clocks clock_shortest

-- where all nodes have to be written, each is
module _ (o : Options) (only : o.written_only ≡ true) (nodes : List PlacedNode) (clocks : List NodeClock) (are : AreClocksOf o nodes clocks) where
  node_written : (i : ℕ) (n : PlacedNode) → slice_get nodes i ≡ Some n → IsWritten n
  node_written i n e =
      let within : i < length nodes = slice_get_within nodes i n e in
      let clock = get_there clocks i (omega (arith, within, are.all)) in
      elim (are.each i n clock.0 e clock.1).its [
        | inl h ↦ h.0
        | inr h ↦ let bad : true ≡ false = sym only ∙ h.is_open.0 in absurd (cc bad)
      ]

  nodes_written : AllByRecursion IsWritten nodes
  nodes_written = each_of IsWritten nodes node_written

pub are_written : AcceptedAreWritten
are_written ops o text a is only = nodes_written o only a.placed.nodes a.clocks.items is.clocked.clocks

pub stand : AcceptedAreClocked → AcceptedAreProper → NetsAreCausal → AcceptedStand
stand clocked proper causal ops o text a is =
    let placed = is.clocked.program.program in (
      placed.tree,
      placed.read,
      record {
        named = faultless_well ops placed.tree placed.is_placed.good;
        placed = placed.is_placed.nodes;
        typed = is.clocked.program.typed;
        clocked = clocked ops o text a is;
        shortest = clocks_shortest o a.placed.nodes a.clocks.items is.clocked.clocks;
        causal = (causal a.placed.nodes a.clocks.items a.net (proper ops o text a is) is.net.flat.flat).1 is.schedule.causal;
      },
    )
