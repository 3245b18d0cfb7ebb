use Rattle.std.proofs.Common.{ℕ, ◌+◌, ◌≡◌, Option, None, length, ap, sym, ◌∙◌, subst, arith}
use Rattle.std.proofs.lemmas.List.{length-replicate}
use Rattle.lucy_diagram.specs.Layering.{ArePassed}
use Rattle.lucy_diagram.proofs.LayeringLaws.{passed_none}
use Rattle.lucy_diagram.proofs.layers.found_of.Goals as goal

pub settle-requires : goal.settle-requires
settle-requires c = record {
  chained = c.in_ok-chains.ensures.chained;
  count = c.in_ok-chains.ensures.count ∙ sym (ap length c.in_ok-work.ensures.found ∙ length-replicate {A = Option ℕ} c.args.count None);
  counts = c.in_ok-work.ensures.counts;
  free = c.in_ok-work.ensures.free;
}

pub each-init : goal.each-init
each-init c =
    let now = c.in_ok-settle.ensures in
    passed_none c.args.ways.now c.args.spares.now c.args.count c.in_ok-work.work.found.items c.settle.new.self c.in_ok-work.ensures.found (now.finds c.args.spares.now) now.counts now.none now.free

pub take_spare-requires : goal.take_spare-requires
take_spare-requires c = record {
  number = omega arith;
  chained = c.in_ok-chains.ensures.chained;
  passed = subst (λ (n : ℕ). ArePassed c.args.ways.now c.args.spares.now n c.each.number c.each.work) (sym c.in_ok-chains.ensures.count) c.each.invariant;
}

pub each-preserved : goal.each-preserved
each-preserved c =
    subst (λ (n : ℕ). ArePassed c.args.ways.now c.args.spares.now n (c.each.number + 1) c.take_spare.new.self) c.in_ok-chains.ensures.count c.in_ok-take_spare.ensures

pub returns : goal.returns
returns c =
    let e : c.each.number ≡ length c.args.spares.now = omega arith in
    subst (λ (n : ℕ). ArePassed c.args.ways.now c.args.spares.now c.args.count n c.each.work) e c.each.invariant
