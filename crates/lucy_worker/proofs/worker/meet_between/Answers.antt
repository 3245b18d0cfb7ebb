use Rattle.std.proofs.Common.{◌≡◌, List, ap, sym, ◌∙◌, arith}
use Rattle.lucy_ring.specs.Views.{GiverView, TakerView}
use Rattle.lucy_worker.specs.declared.part.Part.{Part}
use Rattle.lucy_worker.specs.Views.{WorkerView}
use Rattle.lucy_worker.proofs.MeetLaws.{read_is, read_at, read_within, giver_set, taker_set, giver_is, taker_is, given_at, taken_at, have_met}
use Rattle.lucy_worker.proofs.worker.meet_between.Goals as goal

pub index_mut-part-requires : goal.index_mut-part-requires
index_mut-part-requires c =
    let g = c.requires.giver in
    omega (arith, c.first.inside.parts.ok.0, read_within c.first.inside.parts.items c.args.first.now.parts c.args.giver.part g.part (ap (λ (w : WorkerView). w.parts) c.first.view_is) g.part_is)

pub index_mut-other-requires : goal.index_mut-other-requires
index_mut-other-requires c =
    let t = c.requires.taker in
    omega (arith, c.second.inside.parts.ok.0, read_within c.second.inside.parts.items c.args.second.now.parts c.args.taker.part t.part (ap (λ (w : WorkerView). w.parts) c.second.view_is) t.part_is)

pub index_mut-requires : goal.index_mut-requires
index_mut-requires c =
    let g = c.requires.giver in
    let p = read_is _ c.args.first.now.parts c.args.giver.part g.part c.index_mut-part.result.now _ (ap (λ (w : WorkerView). w.parts) c.first.view_is) g.part_is c.index_mut-part.ensures.value in
    omega (arith, c.index_mut-part.result.now.givers.ok.0, read_within c.index_mut-part.result.now.givers.items g.part.givers.items c.args.giver.number g.end (ap (λ (x : Part). x.givers.items) p) g.end_is)

pub index_mut-requires-2 : goal.index_mut-requires-2
index_mut-requires-2 c =
    let t = c.requires.taker in
    let q = read_is _ c.args.second.now.parts c.args.taker.part t.part c.index_mut-other.result.now _ (ap (λ (w : WorkerView). w.parts) c.second.view_is) t.part_is c.index_mut-other.ensures.value in
    omega (arith, c.index_mut-other.result.now.takers.ok.0, read_within c.index_mut-other.result.now.takers.items t.part.takers.items c.args.taker.number t.end (ap (λ (x : Part). x.takers.items) q) t.end_is)

pub meet-requires : goal.meet-requires
meet-requires c =
    let ps : List Part = c.args.first.now.parts in
    let qs : List Part = c.args.second.now.parts in
    let g = c.requires.giver in
    let t = c.requires.taker in
    let p = read_is _ ps c.args.giver.part g.part c.index_mut-part.result.now _ (ap (λ (w : WorkerView). w.parts) c.first.view_is) g.part_is
    c.index_mut-part.ensures.value in
    let q = read_is _ qs c.args.taker.part t.part c.index_mut-other.result.now _ (ap (λ (w : WorkerView). w.parts) c.second.view_is)
    t.part_is c.index_mut-other.ensures.value in
    record {
      ends = ap (λ (x : GiverView). x.ring) (giver_is ps c.args.giver _ c.index_mut.result.now _ g p c.index_mut.ensures.value) ∙
          c.requires.ring g t
          ∙ sym (ap (λ (x : TakerView). x.ring) (taker_is qs c.args.taker _ c.index_mut-2.result.now _ t q c.index_mut-2.ensures.value));
    }

pub invariant_of-first : goal.invariant_of-first
invariant_of-first c =
    let g = c.requires.giver in
    giver_set c.first.inside.parts.items c.args.giver.part c.args.giver.number c.index_mut-part.result.now c.meet.new.giver
    c.first.invariant
    (read_at _ c.args.first.now.parts c.args.giver.part g.part c.index_mut-part.result.now _
    (ap (λ (w : WorkerView). w.parts) c.first.view_is) g.part_is c.index_mut-part.ensures.value) c.meet.ensures.anew.0

pub invariant_of-second : goal.invariant_of-second
invariant_of-second c =
    let t = c.requires.taker in
    taker_set c.second.inside.parts.items c.args.taker.part c.args.taker.number c.index_mut-other.result.now c.meet.new.taker
    c.second.invariant
    (read_at _ c.args.second.now.parts c.args.taker.part t.part c.index_mut-other.result.now _
    (ap (λ (w : WorkerView). w.parts) c.second.view_is) t.part_is c.index_mut-other.ensures.value) c.meet.ensures.anew.1

pub returns-clause-first : goal.returns-clause-first
returns-clause-first c = ap (λ (w : WorkerView). w.number) c.first.view_is

pub returns-clause-second : goal.returns-clause-second
returns-clause-second c = ap (λ (w : WorkerView). w.number) c.second.view_is

pub returns-clause-met : goal.returns-clause-met
returns-clause-met c =
    let ps : List Part = c.args.first.now.parts in
    let qs : List Part = c.args.second.now.parts in
    let g = c.requires.giver in
    let t = c.requires.taker in
    let first : c.first.inside.parts.items ≡ ps = ap (λ (w : WorkerView). w.parts) c.first.view_is in
    let second : c.second.inside.parts.items ≡ qs = ap (λ (w : WorkerView). w.parts) c.second.view_is in
    let p = read_is _ ps c.args.giver.part g.part c.index_mut-part.result.now _ first g.part_is c.index_mut-part.ensures.value in
    let q = read_is _ qs c.args.taker.part t.part c.index_mut-other.result.now _ second t.part_is c.index_mut-other.ensures.value in
    record {
      g = g;
      t = t;
      h = c.meet.new.giver;
      u = c.meet.new.taker;
      met = have_met _ _ _ _ _ _ (giver_is ps c.args.giver _ c.index_mut.result.now _ g p c.index_mut.ensures.value)
          (taker_is qs c.args.taker _ c.index_mut-2.result.now _ t q c.index_mut-2.ensures.value) (record {
            ends = c.meet.ensures.ends;
            fifo = c.meet.ensures.fifo;
            within = c.meet.ensures.within;
            all_items = c.meet.ensures.all_items;
            all_slots = c.meet.ensures.all_slots;
            anew = c.meet.ensures.anew;
            capacity = c.meet.ensures.capacity;
          });
      givers = given_at ps _ c.args.giver c.index_mut-part.result.now c.meet.new.giver g first p;
      takers = taken_at qs _ c.args.taker c.index_mut-other.result.now c.meet.new.taker t second q;
    }
