use Rattle.std.proofs.Common.{ℕ, ◌≡◌, List, length, get_or, ap, subst, sym, ◌∙◌, arith}
use Rattle.std.specs.Prelude.{All, Some, slice_get, replicate}
use Rattle.std.proofs.lemmas.Option.{slice_get-get_or}
use Rattle.lucy_net.specs.declared.kind.ActorKind.TheVariants.{Output}
use Rattle.lucy_net.specs.declared.net.Actor.{Actor}
use Rattle.lucy_net.specs.declared.net.RingSpec.{RingSpec}
use Rattle.lucy_net.specs.States.{IsUsable}
use Rattle.lucy_net.proofs.NetLaws.{usable}
use Rattle.lucy_net.proofs.NumberedLaws.{outputs_apart}
use Rattle.lucy_stream.specs.Runs.{first_left}
use Rattle.lucy_core.specs.Seen.{order_on, done_of}
use Rattle.lucy_core.specs.Cursors.{StandsInOrder}
use Rattle.lucy_core.specs.Inside.{going_in, AreFirst, AreEmpty, HaveTrays}
use Rattle.lucy_core.proofs.making.begin.Goals as goal

pub first_states-requires : goal.first_states-requires
first_states-requires c =
    let n = c.args.net.now in
    subst (All IsUsable) (sym c.list.ensures) (λ k d l. usable n k (get_or n.actors k d) c.requires.proper (slice_get-get_or n.actors k d l))

pub empty_trays-requires : goal.empty_trays-requires
empty_trays-requires c =
    let n = c.args.net.now in
    subst (λ (xs : List Actor). (a b k : ℕ) (x y : Actor) → slice_get xs a ≡ Some x → slice_get xs b ≡ Some y → x.kind ≡ Output k → y.kind ≡ Output k → a ≡ b) (sym c.list-3.ensures)
    (λ a b k x y e f g h. outputs_apart n.actors a b k x y c.requires.proper.outputs e f g h)

pub new-requires-clause-none : goal.new-requires-clause-none
new-requires-clause-none c =
    let n = c.args.net.now in
    let first : AreFirst n.actors c.args.instants c.in_ok-states.states.items = subst (λ (xs : List Actor). AreFirst xs c.args.instants c.in_ok-states.states.items) c.list.ensures c.in_ok-states.ensures in
    let zeros : c.in_ok-done.done.items ≡ replicate (length n.actors) 0 = c.in_ok-done.ensures.items_if_clones_equal (λ y e. e) ∙ ap (λ k. replicate k 0) (omega (arith, c.len.ensures, first.count)) in
    (length n.actors, c.deref-2.ensures.value ∙ zeros)

pub returns : goal.returns
returns c =
    let n = c.args.net.now in
    let order = order_on c.args.schedule.now c.args.instants in
    let first : AreFirst n.actors c.args.instants c.in_ok-states.states.items = subst (λ (xs : List Actor). AreFirst xs c.args.instants c.in_ok-states.states.items) c.list.ensures c.in_ok-states.ensures in
    record {
      states = first;
      done = c.in_ok-done.ensures.items_if_clones_equal (λ y e. e) ∙ ap (λ k. replicate k 0) (omega (arith, c.len.ensures, first.count));
      going = c.going_count-going.ensures ∙ ap going_in c.deref.ensures.value;
      circles = subst (λ (xs : List RingSpec). AreEmpty xs c.in_ok-circles.circles.items) c.list-2.ensures c.in_ok-circles.ensures;
      trays = subst (λ (xs : List Actor). HaveTrays xs c.args.instants (length xs) c.in_ok-trays.trays.items) c.list-3.ensures c.in_ok-trays.ensures;
      within = subst (λ (ds : List ℕ). StandsInOrder c.args.schedule.now c.args.instants ds c.in_ok-cursor.cursor) c.deref-2.ensures.value c.in_ok-cursor.ensures.within;
      next = c.in_ok-cursor.ensures.next ∙ ap (λ (ds : List ℕ). first_left (done_of ds) order) c.deref-2.ensures.value;
    }
