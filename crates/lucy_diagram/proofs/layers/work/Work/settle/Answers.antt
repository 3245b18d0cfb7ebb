use Rattle.std.proofs.Common.{ℕ, ◌≡◌, ◌∷◌, ◌++◌, [], List, length, subst, arith}
use Rattle.std.proofs.lemmas.Grind.{common_steps}
use Rattle.std.proofs.lemmas.List.{nil_from_length}
use Rattle.lucy_diagram.specs.Layers.{none}
use Rattle.lucy_diagram.specs.Layering.{AreFree}
use Rattle.lucy_diagram.proofs.LayerLaws.{finds_length}
use Rattle.lucy_diagram.proofs.LayeringLaws.{no_wait, take_free, left_less, finds_free}
use Rattle.lucy_diagram.proofs.layers.work.Work.settle.Goals as goal

pub each-init : goal.each-init
each-init c = record { counts = c.requires.counts; free = c.requires.free; finds = λ spares. none }

pub take-requires : goal.take-requires
take-requires c =
    let w = c.each.self in
    let ways = c.args.ways.now in
    let found = w.found.items in
    let p = c.in-Some.place in
    let rest = c.pop.new.self.items in
    let free = subst (λ (l : List ℕ). AreFree found w.waits.items (length found) l) c.in-Some.ensures.items c.each.invariant.free in
    let here = no_wait ways found w.least.items w.waits.items rest p c.each.invariant.counts free in record {
      left = here.0;
      chained = c.requires.chained;
      count = omega (arith, c.requires.count, finds_length ways [] c.args.self.now.found.items (c.each.invariant.finds []));
      counts = c.each.invariant.counts;
      free = take_free ways found w.waits.items rest p free;
    }

pub each-smaller : goal.each-smaller
each-smaller c =
    let w = c.each.self in
    let ways = c.args.ways.now in
    let found = w.found.items in
    let p = c.in-Some.place in
    let rest = c.pop.new.self.items in
    let free = subst (λ (l : List ℕ). AreFree found w.waits.items (length found) l) c.in-Some.ensures.items c.each.invariant.free in
    let here = no_wait ways found w.least.items w.waits.items rest p c.each.invariant.counts free in
    left_less ways found c.take.new.self.found.items p here.0 c.in_ok-take.ensures.found

pub each-preserved : goal.each-preserved
each-preserved c =
    let w = c.each.self in
    let ways = c.args.ways.now in
    let found = w.found.items in
    let p = c.in-Some.place in
    let rest = c.pop.new.self.items in
    let free = subst (λ (l : List ℕ). AreFree found w.waits.items (length found) l) c.in-Some.ensures.items c.each.invariant.free in record {
      counts = c.in_ok-take.ensures.counts;
      free = c.in_ok-take.ensures.free;
      finds = λ spares. finds_free ways spares c.args.self.now.found.items found c.take.new.self.found.items w.least.items w.waits.items rest p (c.each.invariant.finds spares) c.each.invariant.counts free c.in_ok-take.ensures.found;
    }

pub returns-clause-free : goal.returns-clause-free
returns-clause-free c =
    let w = c.each.self in
    let found = w.found.items in
    let empty : length w.free.items ≡ 0 = grind (arith, common_steps) in
    subst (λ (l : List ℕ). AreFree found w.waits.items (length found) l) (nil_from_length w.free.items empty) c.each.invariant.free
