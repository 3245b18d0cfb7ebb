use Rattle.std.proofs.Common.{◌≡◌, ◌+◌, ℕ, [], length, refl, arith, sym, ◌∙◌, subst}
use Rattle.std.specs.List.{All}
use Rattle.lucy_need.specs.Meeting.{IsWithin}
use Rattle.lucy_rates.specs.Growing.{AreFirstNeeds, ArePlanted}
use Rattle.lucy_rates.proofs.Planting.{planted_none, deep_none}
use Rattle.lucy_rates.proofs.Assembling.{forest_of}
use Rattle.lucy_rates.proofs.forest.plant_all.Goals as goal

pub loop-clock-init : goal.loop-clock-init
loop-clock-init c =
    let sizes = c.requires.sizes in
    record {
      tree = λ r. [];
      planted = planted_none c.args.needs.now (length c.args.roots.now) c.args.roots.now c.args.parents.now c.args.depths.now c.args.rates.now c.requires.none refl c.requires.clocks c.requires.within;
      deep = deep_none c.args.roots.now c.args.depths.now c.requires.level;
      size = refl;
      parents_size = sizes.0;
      depths_size = sizes.1;
      rates_size = sizes.2;
    }

pub plant-requires-clause-within : goal.plant-requires-clause-within
plant-requires-clause-within c = subst (λ (x : ℕ). All (IsWithin x) c.args.needs.now) (sym c.loop-clock.invariant.size) c.requires.within

pub plant-requires-clause-firsts : goal.plant-requires-clause-firsts
plant-requires-clause-firsts c = subst (λ (x : ℕ). AreFirstNeeds c.args.needs.now x c.args.firsts.now) (sym c.loop-clock.invariant.size) c.requires.firsts

pub plant-requires-clause-planted : goal.plant-requires-clause-planted
plant-requires-clause-planted c =
    let i = c.loop-clock.invariant in
    let l = c.loop-clock in
    (i.tree, subst (λ (x : ℕ). ArePlanted c.args.needs.now x l.clock i.tree l.roots l.parents l.depths l.rates) (sym i.size) i.planted)

pub loop-clock-preserved : goal.loop-clock-preserved
loop-clock-preserved c =
    let size = c.loop-clock.invariant.size in
    let new = c.plant.new in
    let sizes = c.plant.ensures.sizes in
    let planted = c.in_ok-plant.ensures.planted in
    record {
      tree = planted.0;
      planted = subst (λ (x : ℕ). ArePlanted c.args.needs.now x (c.loop-clock.clock + 1) planted.0 new.roots new.parents new.depths new.rates) size planted.1;
      deep = c.plant.ensures.deep;
      size = sizes.0 ∙ size;
      parents_size = sizes.1 ∙ size;
      depths_size = sizes.2 ∙ size;
      rates_size = sizes.3 ∙ size;
    }

pub returns-clause-forest : goal.returns-clause-forest
returns-clause-forest c =
    let i = c.loop-clock.invariant in
    let n = length c.args.roots.now in
    let a = c.loop-clock-test.false in
    let b = c.loop-clock.auto.clock-end in
    let e : c.loop-clock.clock ≡ n = omega arith in
    let planted = subst (λ (z : ℕ). ArePlanted c.args.needs.now n z i.tree c.loop-clock.roots c.loop-clock.parents c.loop-clock.depths c.loop-clock.rates) e i.planted in
    forest_of c.args.needs.now n i.tree c.loop-clock.roots c.loop-clock.parents c.loop-clock.depths c.loop-clock.rates
    (record { planted = planted; within = c.requires.within; words = c.requires.words; few = c.requires.clocks }) i.size i.parents_size i.rates_size
