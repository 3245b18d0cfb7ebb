use Rattle.std.proofs.Common.{◌≡◌, ◌+◌, ◌++◌, ◌∷◌, [], ap, subst, refl, ◌∙◌, to_z, of_z, w64, arith, rules}
use Rattle.std.specs.Prelude.{ℤ}
use Rattle.std.proofs.lemmas.Int.{ints}
use Rattle.lucy_net.specs.Plans.{form_of}
use Rattle.lucy_net.specs.States.{IsActorState, operand_at, took_more}
use Rattle.lucy_worker.specs.Readiness.{out_after}
use Rattle.lucy_worker.proofs.TakeLaws.{Took, take_inside, take_few, slot_there, knows_item, none_known, took_ready, took_run, took_moved, kept_run, kept_ready}
use Rattle.lucy_worker.proofs.part.Part.take.Goals as goal
use Rattle.lucy_worker.proofs.part.Part.take.Goals.{In-None, After-put_out}

pub index_mut-requires : goal.index_mut-requires
index_mut-requires c =
    let next = c.requires.next in
    let inside = take_inside c.args.self.now next.0 c.args.end c.requires.ready next.2 in
    omega arith

pub take-requires : goal.take-requires
take-requires c =
    let next = c.requires.next in
    record { few = take_few c.args.self.now next.0 c.args.end c.index_mut.result.now c.requires.ready next.2 c.index_mut.ensures.value }

pub put_out-requires : goal.put_out-requires
put_out-requires c = (let next = c.requires.next in record { room = slot_there c.args.self.now next.0 c.requires.ready next.1 })

unchanged : (c : In-None) → c.take.new.self ≡ c.index_mut.result.now
unchanged c = search rules

pub returns-in-None-clause-ready : goal.returns-in-None-clause-ready
returns-in-None-clause-ready c = kept_ready c.args.self.now c.args.end c.index_mut.result.now c.take.new.self c.requires.ready c.index_mut.ensures.value (unchanged c)

pub returns-in-None-clause-run : goal.returns-in-None-clause-run
returns-in-None-clause-run c = λ kinds. kept_run kinds c.args.self.now c.args.end c.index_mut.result.now c.take.new.self c.index_mut.ensures.value (unchanged c)

pub returns-in-None-clause-stayed : goal.returns-in-None-clause-stayed
returns-in-None-clause-stayed c f = (refl, refl)

pub returns-in-None-clause-rests : goal.returns-in-None-clause-rests
returns-in-None-clause-rests c f can =
    let next = c.requires.next in
    let found = c.take.ensures.succeeds (none_known c.args.self.now next.0 c.args.end c.index_mut.result.now c.take.new.self c.requires.ready next.1 next.2 c.index_mut.ensures.value (unchanged c) can) in
    search rules

pub returns-in-None-clause-possible : goal.returns-in-None-clause-possible
returns-in-None-clause-possible c can =
    let next = c.requires.next in
    let found = c.take.ensures.succeeds (knows_item c.args.self.now next.0 c.args.end c.index_mut.result.now c.requires.ready can next.1 next.2 c.index_mut.ensures.value) in
    search rules

taken : (c : After-put_out) → c.take.new.self.taken ≡ c.index_mut.result.now.taken ++ c.in-Some.value ∷ []
taken c = search rules

back : (c : After-put_out) → to_z w64 (of_z w64 c.in-Some.value) ≡ c.in-Some.value
back c = omega (arith, ints)

took : (c : After-put_out) → Took c.args.self.now c.after_end_take.new.state c.put_out.new.output c.requires.next.0 c.args.end c.in-Some.value c.index_mut.result.now c.take.new.self
took c = record {
  ready = c.requires.ready;
  next = c.requires.next.1;
  end = c.requires.next.2;
  was = c.index_mut.ensures.value;
  ring = c.take.ensures.ring;
  held = c.take.ensures.held;
  taken = taken c;
  after = λ instants n taken is. subst (λ (x : ℤ). IsActorState c.args.self.now.actor instants (n + 1) (took_more taken (operand_at (form_of c.args.self.now.actor.kind) c.args.self.now.state.fired c.args.self.now.state.step) x) c.after_end_take.new.state) (back c) (c.after_end_take.ensures instants n taken is);
  kept = (let e = c.put_out.ensures.kept in e ∙ ap (out_after c.args.self.now.actor.kind c.args.self.now.output.items) (back c));
  room = c.put_out.ensures.room;
}

pub returns-in-Some-clause-ready : goal.returns-in-Some-clause-ready
returns-in-Some-clause-ready c = took_ready _ _ _ _ _ _ _ _ (took c)

pub returns-in-Some-clause-run : goal.returns-in-Some-clause-run
returns-in-Some-clause-run c = λ kinds. took_run kinds _ _ _ _ _ _ _ _ (took c)

pub returns-in-Some-clause-moved : goal.returns-in-Some-clause-moved
returns-in-Some-clause-moved c t = took_moved _ _ _ _ _ _ _ _ (took c)
