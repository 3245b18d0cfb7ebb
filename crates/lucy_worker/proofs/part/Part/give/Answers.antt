use Rattle.std.proofs.Common.{◌≡◌, ◌++◌, ◌∷◌, [], List, refl, sym, subst, arith, rules}
use Rattle.std.specs.Prelude.{ℤ}
use Rattle.lucy_host.specs.Host.{lent}
use Rattle.lucy_host.specs.Operators.{kinds_of}
use Rattle.lucy_net.specs.States.{ReadsInput, HasItem}
use Rattle.lucy_worker.proofs.GiveLaws.{Gave, give_inside, give_few, item_there, knows_slot, none_known, gave_ready, gave_run, gave_moved, kept_run, kept_ready}
use Rattle.lucy_worker.proofs.part.Part.give.Goals as goal
use Rattle.lucy_worker.proofs.part.Part.give.Goals.{After-after_end_give}
use Rattle.lucy_worker.proofs.part.Part.give.Given.{Over}

pub index_mut-requires : goal.index_mut-requires
index_mut-requires g c =
    let next = c.requires.next in
    let inside = give_inside c.args.self.now next.0 c.args.end c.requires.ready next.2 in
    omega arith

pub give-requires : goal.give-requires
give-requires g c =
    let next = c.requires.next in
    record { few = give_few c.args.self.now next.0 c.args.end c.index_mut.result.now c.requires.ready next.2 c.index_mut.ensures.value }

pub give_value-value-requires-clause-item : goal.give_value-value-requires-clause-item
give_value-value-requires-clause-item g c k l =
    let next = c.requires.next in
    subst (λ (xs : List ℤ). HasItem c.args.self.now.actor.kind c.args.self.now.state.fired xs) (sym c.deref.ensures.value) (item_there c.args.self.now next.0 c.requires.ready next.1)

pub returns-then-is_err-clause-ready : goal.returns-then-is_err-clause-ready
returns-then-is_err-clause-ready g c =
    let same : c.give.new.self ≡ c.index_mut.result.now = search rules in
    kept_ready c.args.self.now c.args.end c.index_mut.result.now c.give.new.self c.requires.ready c.index_mut.ensures.value same

pub returns-then-is_err-clause-run : goal.returns-then-is_err-clause-run
returns-then-is_err-clause-run g c =
    let same : c.give.new.self ≡ c.index_mut.result.now = search rules in
    kept_run (kinds_of (lent c.args.host.now)) c.args.self.now c.args.end c.index_mut.result.now c.give.new.self c.index_mut.ensures.value same

pub returns-then-is_err-clause-stayed : goal.returns-then-is_err-clause-stayed
returns-then-is_err-clause-stayed g c f = (refl, refl)

pub returns-then-is_err-clause-rests : goal.returns-then-is_err-clause-rests
returns-then-is_err-clause-rests g c f can =
    let next = c.requires.next in
    let same : c.give.new.self ≡ c.index_mut.result.now = search rules in
    let found = c.give.ensures.succeeds (none_known c.args.self.now next.0 c.args.end c.index_mut.result.now c.give.new.self c.requires.ready next.1 next.2 c.index_mut.ensures.value same can) in
    search rules

pub returns-then-is_err-clause-possible : goal.returns-then-is_err-clause-possible
returns-then-is_err-clause-possible g c can =
    let next = c.requires.next in
    let found = c.give.ensures.succeeds (knows_slot c.args.self.now next.0 c.args.end c.index_mut.result.now c.requires.ready can next.1 next.2 c.index_mut.ensures.value) in
    search rules

given : (g : Over) (c : After-after_end_give g) → c.give.new.self.given ≡ c.index_mut.result.now.given ++ c.give_value-value.result ∷ []
given g c = search rules

gave : (g : Over) (c : After-after_end_give g) → Gave (kinds_of (lent c.args.host.now)) c.args.self.now c.after_end_give.new.state c.requires.next.0 c.args.end c.give_value-value.result c.index_mut.result.now c.give.new.self
gave g c = record {
  ready = c.requires.ready;
  next = c.requires.next.1;
  end = c.requires.next.2;
  was = c.index_mut.ensures.value;
  ring = c.give.ensures.ring;
  given = given g c;
  value = λ inputs instants n took is reads. c.give_value-value.ensures inputs instants n took is (subst (λ (xs : List ℤ). ReadsInput c.args.self.now.actor.kind inputs xs) (sym c.deref.ensures.value) reads);
  after = c.after_end_give.ensures;
}

pub returns-clause-ready : goal.returns-clause-ready
returns-clause-ready g c = gave_ready _ _ _ _ _ _ _ _ (gave g c)

pub returns-clause-run : goal.returns-clause-run
returns-clause-run g c = gave_run _ _ _ _ _ _ _ _ (gave g c)

pub returns-clause-moved : goal.returns-clause-moved
returns-clause-moved g c t = gave_moved _ _ _ _ _ _ _ _ (gave g c)
