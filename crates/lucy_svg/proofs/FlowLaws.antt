-- What is known of how items go through buffers.
use Rattle.std.proofs.Common.{ℕ, ◌+◌, ◌≡◌, ◌<◌, ◌≤◌, List, [], ◌∷◌, ◌++◌, Some, length, sym, ap, ◌∙◌, subst, inl, inr, arith}
use Rattle.std.specs.Prelude.{slice_get}
use Rattle.std.proofs.lemmas.List.{length_push}
use Rattle.std.proofs.lemmas.Option.{same_Some, slice_get_within}
use Rattle.lucy_word.specs.Bits.{Bits, ones_to}
use Rattle.lucy_word.proofs.IndexLaws.{IsIndex-behind}
use Rattle.lucy_host.proofs.Elements.{get_there}
use Rattle.lucy_place.specs.declared.placed.PlacedNode.{PlacedNode}
use Rattle.lucy_types.proofs.ListLaws.{get_push}
use Rattle.lucy_need.specs.Meeting.{assigned}
use Rattle.lucy_clock.specs.declared.node_clock.NodeClock.{NodeClock}
use Rattle.lucy_picture.specs.declared.fill.Fill.{Fill}
use Rattle.lucy_picture.specs.Charts.{AreFills}
use Rattle.lucy_svg.specs.declared.join.Join.{Join}
use Rattle.lucy_svg.specs.declared.flow.Flow.{Flow}
use Rattle.lucy_svg.specs.Joins.{IsJoin}
use Rattle.lucy_svg.specs.Flows.{IsFlow, AreFlows}
use Rattle.lucy_svg.specs.Ones.{Follows, AllFollow}

-- so many of them
pub record FollowTo (fills : List Fill) (i : ℕ) (flows : List Flow) : Type 0 where
  pub count : length flows ≡ i
  pub each : (k : ℕ) (fill : Fill) (flow : Flow) → slice_get fills k ≡ Some fill → slice_get flows k ≡ Some flow → Follows fill flow

pub follow_more : (fills : List Fill) (i : ℕ) (old new : List Flow) (fill : Fill) (flow : Flow) → FollowTo fills i old →
    new ≡ old ++ flow ∷ [] → slice_get fills i ≡ Some fill → Follows fill flow → FollowTo fills (i + 1) new
follow_more fills i old new fill flow before more at own = record {
  count = (let a = ap length more in let b = length_push old flow in omega (arith, before.count));
  each = λ k f g fill_at flow_at.
      elim (get_push old flow k g (ap (λ l. slice_get l k) (sym more) ∙ flow_at)) [
        | inl x ↦ before.each k f g fill_at x.1
        | inr x ↦
            let here : k ≡ i = x.0 ∙ before.count in
            let same : fill ≡ f = same_Some fill f (sym at ∙ ap (slice_get fills) (sym here) ∙ fill_at) in
            subst (λ y. Follows f y) x.1 (subst (λ y. Follows y flow) same own)
      ];
}

-- no item is read before it is written, where at no instant more have come out than gone in
join_in_order : (write read : Bits) (shown number : ℕ) (join : Join) → ones_to read join.read ≤ ones_to write join.read →
    IsJoin write read shown number join → join.written ≤ join.read
join_in_order write read shown number join less is =
    let out = is.comes_out in
    IsIndex-behind write number join.written join.read is.goes_in (omega (arith, out.there))

-- the words of an accepted program are those of the marks
module _ (n : PlacedNode) (c : NodeClock) (shown : ℕ) (fills : List Fill) (flows : List Flow) (follow : AllFollow fills flows) (are : AreFills n c shown fills) where
  flow_is : (k : ℕ) (fill : Fill) (flow : Flow) → slice_get fills k ≡ Some fill → slice_get flows k ≡ Some flow →
      IsFlow (assigned c.words fill.operand) (assigned c.words fill.place) shown flow
  flow_is k fill flow fill_at flow_at =
      let is = are.each k fill fill_at in
      follow.each k fill flow fill_at flow_at (assigned c.words fill.operand) (assigned c.words fill.place) shown is.written is.read

  pub flows_are : AreFlows c shown fills flows
  flows_are = record {
    all = follow.all;
    each = flow_is;
    in_order = λ k i flow join flow_at join_at.
        let within : k < length flows = slice_get_within flows k flow flow_at in
        let there = get_there fills k (omega (arith, follow.all)) in
        let fill = there.0 in
        let is = are.each k fill there.1 in
        let count = is.counts join.read in
        let flows_so = flow_is k fill flow there.1 flow_at in
        join_in_order (assigned c.words fill.operand) (assigned c.words fill.place) shown (i + 1) join (omega (arith, count))
        (flows_so.joins.each i join join_at);
  }
