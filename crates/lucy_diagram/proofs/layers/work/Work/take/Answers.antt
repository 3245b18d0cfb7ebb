use Rattle.std.proofs.Common.{◌≡◌, ◌++◌, Some, None, length, get_or, set, take, drop, ap, sym, ◌∙◌, arith}
use Rattle.std.proofs.lemmas.List.{length-set}
use Rattle.std.proofs.lemmas.Option.{slice_get_within}
use Rattle.lucy_diagram.proofs.ListLaws.{whole}
use Rattle.lucy_diagram.proofs.LayeringLaws.{IsTaken, taken_place}
use Rattle.lucy_diagram.proofs.layers.work.Work.take.Goals.{After-find}
use Rattle.lucy_diagram.proofs.layers.work.Work.take.Goals as goal

pub find-requires : goal.find-requires
find-requires c =
    let f = c.args.self.now.found.items in omega (arith, slice_get_within f c.args.place None c.requires.left, ap length c.deref_mut.ensures.value)

taken : (c : After-find) → IsTaken c.args.ways.now c.args.self.now.found.items (take c.args.self.now.found.len (c.find.new.found ++ drop (length c.find.new.found) c.args.self.now.found.items))
    c.args.self.now.least.items c.args.self.now.waits.items c.args.self.now.free.items c.args.place c.at-layer.result
taken c =
    let w = c.args.self.now in
    let f = w.found.items in
    let p = c.args.place in
    let k = c.at-layer.result in
    let layer : k ≡ get_or w.least.items p 0 = c.at-layer.ensures ∙ ap (λ l. get_or l p 0) c.deref.ensures.value in
    let found : c.find.new.found ≡ set f p (Some k) = c.find.ensures ∙ ap (λ l. set l p (Some k)) c.deref_mut.ensures.value in
    let long : length c.find.new.found ≡ w.found.len = ap length found ∙ length-set f p (Some k) ∙ sym w.found.ok.0 in
    let back = whole w.found.len c.find.new.found f long in
    taken_place c.args.ways.now f _ w.least.items w.waits.items w.free.items p k c.requires.counts c.requires.left layer c.requires.free (back ∙ found)

pub pass-requires : goal.pass-requires
pass-requires c =
    let now = taken (goal.at.pass-requires c).After-find in record {
      place = omega (arith, slice_get_within c.args.self.now.found.items c.args.place None c.requires.left, c.requires.count);
      chained = c.requires.chained;
      counts = now.counts;
      free = now.free;
      low = now.low;
    }

pub returns : goal.returns
returns c = record {
  found = c.in_ok-pass.ensures.found ∙ (taken (goal.at.returns c).After-find).found;
  counts = c.in_ok-pass.ensures.counts;
  free = c.in_ok-pass.ensures.free;
}
