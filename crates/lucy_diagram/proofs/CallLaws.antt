-- What is known of the calls of a node, and of the sizes of its buffers.
use Rattle.std.proofs.Common.{ℕ, ◌≡◌, ◌<◌, List, Some, length, take}
use Rattle.std.specs.Prelude.{slice_get}
use Rattle.std.proofs.lemmas.Option.{slice_get_within}
use Rattle.lucy_host.specs.Operators.{Operator}
use Rattle.lucy_place.specs.declared.entry.CallSite.{CallSite}
use Rattle.lucy_place.specs.declared.placed.PlacedNode.{PlacedNode}
use Rattle.lucy_place.specs.Standing.{at_one}
use Rattle.lucy_place.specs.Proper.{IsProperCall, IsProperNode}
use Rattle.lucy_types.proofs.ListLaws.{taken}
use Rattle.lucy_clock.specs.declared.node_clock.NodeClock.{NodeClock}
use Rattle.lucy_clock.specs.Clocks.{call_clock}
use Rattle.lucy_program.specs.declared.accepted.Accepted.{Accepted}
use Rattle.lucy_program.specs.declared.options.Options.{Options}
use Rattle.lucy_program.specs.Accepting.{IsAccepted}
use Rattle.lucy_diagram.specs.declared.call.DrawnCall.{DrawnCall}
use Rattle.lucy_diagram.specs.Diagrams.{IsDrawnCall}

module _ (nodes : List PlacedNode) (i : ℕ) (n : PlacedNode) (k : ℕ) (site : CallSite) (proper : IsProperNode (take i nodes) n) (there : at_one n.calls k ≡ Some site) where
  -- the callee
  callee : PlacedNode
  callee = (proper.calls k site there).callee

  found : slice_get nodes site.node ≡ Some callee
  unfolding callee
  found = (taken i nodes site.node (proper.calls k site there).callee (proper.calls k site there).found).1

  pub callee_within : site.node < length nodes
  callee_within = slice_get_within nodes site.node callee found

  -- the call is proper among all nodes, too
  among : IsProperCall nodes n k site
  unfolding callee
  among =
      let own = proper.calls k site there in record {
        callee = own.callee;
        found = found;
        arguments = own.arguments;
        places = own.places;
        some = own.some;
        results = own.results;
        only = own.only;
      }

  -- a call by its parts
  pub call_is : (call : DrawnCall) → call.number ≡ k → call.node ≡ site.node → call.base ≡ call_clock n k → call.first ≡ site.first →
      ((m : PlacedNode) → slice_get nodes site.node ≡ Some m → call.results ≡ length m.results) → IsDrawnCall nodes n k call
  unfolding among
  call_is call numbered node base first results = record {
    number = numbered;
    site = site;
    there = there;
    node = node;
    base = base;
    first = first;
    proper = among;
    count = results among.callee among.found;
  }

-- each buffer of a node of an accepted program has a size
pub sizes_count : (ops : List Operator) (o : Options) (text : List ℕ) (a : Accepted) → IsAccepted ops o text a → (node : ℕ) (n : PlacedNode) (c : NodeClock) → slice_get a.placed.nodes node ≡ Some n →
    slice_get a.clocks.items node ≡ Some c → length c.sizes ≡ length n.buffers
sizes_count ops o text a is node n c at of = (is.clocked.clocks.each node n c at of).sizes.count
