-- How items go through the buffers of a node.
use Rattle.std.specs.Prelude.{ℕ, ◌≤◌, ◌≡◌, List, Some, length, map, slice_get}
use Rattle.lucy_word.specs.Bits.{Bits, ones_to}
use Rattle.lucy_need.specs.Meeting.{assigned}
use Rattle.lucy_clock.specs.declared.node_clock.NodeClock.{NodeClock}
use Rattle.lucy_picture.specs.declared.fill.Fill.{Fill}
use Rattle.lucy_picture.specs.Charts.{instants}
use Rattle.lucy_svg.specs.declared.join.Join.{Join}
use Rattle.lucy_svg.specs.declared.flow.Flow.{Flow}
use Rattle.lucy_svg.specs.Joins.{AreJoins}

-- how many items have gone by up to each instant that is shown, that instant included
abbrev pub counts_of : Bits → (shown : ℕ) → List ℕ
counts_of w shown = map (ones_to w) (instants shown)

-- the items that are written on one word and read on the other, and how many there have been of each
pub record IsFlow (write read : Bits) (shown : ℕ) (flow : Flow) : Type 0 where
  pub joins : AreJoins write read shown flow.joins
  pub goes_in : flow.written ≡ counts_of write shown
  pub comes_out : flow.read ≡ counts_of read shown

-- one for each buffer of a node, on the words of the place that it reads and of its own; no item is read before it is written
pub record AreFlows (c : NodeClock) (shown : ℕ) (fills : List Fill) (flows : List Flow) : Type 0 where
  pub all : length flows ≡ length fills
  pub each : (k : ℕ) (fill : Fill) (flow : Flow) → slice_get fills k ≡ Some fill → slice_get flows k ≡ Some flow →
      IsFlow (assigned c.words fill.operand) (assigned c.words fill.place) shown flow
  pub in_order : (k i : ℕ) (flow : Flow) (join : Join) → slice_get flows k ≡ Some flow → slice_get flow.joins i ≡ Some join →
      join.written ≤ join.read
