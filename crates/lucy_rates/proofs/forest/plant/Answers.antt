use Rattle.std.proofs.Common.{◌≡◌, ℕ, length, get_or, set, [], sym, ap, subst, refl, arith}
use Rattle.std.specs.List.{All}
use Rattle.std.proofs.Math.Nat.{dvd-mul_left}
use Rattle.std.proofs.lemmas.List.{length-set, get_or-set_same}
use Rattle.std.proofs.lemmas.Result.{IfOk-weaker, IfErr-weaker}
use Rattle.lucy_rates.specs.declared.fraction.Fraction.{Fraction}
use Rattle.lucy_rates.specs.Forests.{no_rate, rate_at, IsRateFraction}
use Rattle.lucy_need.specs.Meeting.{IsWithin}
use Rattle.lucy_rates.specs.Growing.{no_number, IsGrowing, AreFirstNeeds, HasLargeFrom}
use Rattle.lucy_rates.proofs.Planting.{planted_on, deep_start, growth_start, rated_start, planting_of, planted_step, with_tree, large_rate}
use Rattle.lucy_rates.proofs.forest.plant.Goals as goal

unit_rate : IsRateFraction (record { num = 1; den = 1 })
unit_rate = record { lowest = (dvd-mul_left 1 1, dvd-mul_left 1 1, λ d a b. a); num = omega arith; den = omega arith; num_few = omega arith; den_few = omega arith }

pub returns-then-roots-clock-clause-planted : goal.returns-then-roots-clock-clause-planted
returns-then-roots-clock-clause-planted c =
    let p = c.requires.planted in
    (p.0, planted_on c.args.needs.now (length c.args.roots.now) c.args.root p.0 c.args.roots.now c.args.parents.now c.args.depths.now c.args.rates.now p.1 c.if-roots-clock.true)

pub grow_from-requires-clause-within : goal.grow_from-requires-clause-within
grow_from-requires-clause-within c = subst (λ (x : ℕ). All (IsWithin x) c.args.needs.now) (sym (length-set c.args.roots.now c.args.root c.args.root)) c.requires.within

pub grow_from-requires-clause-firsts : goal.grow_from-requires-clause-firsts
grow_from-requires-clause-firsts c = subst (λ (x : ℕ). AreFirstNeeds c.args.needs.now x c.args.firsts.now) (sym (length-set c.args.roots.now c.args.root c.args.root)) c.requires.firsts

pub grow_from-requires-clause-deep : goal.grow_from-requires-clause-deep
grow_from-requires-clause-deep c =
    let sizes = c.requires.sizes in
    let inside = c.requires.root in
    let few = c.requires.clocks in
    deep_start c.args.roots.now c.args.depths.now c.args.root c.requires.deep inside (omega arith) c.if-roots-clock.false (λ e. absurd (omega arith))

pub grow_from-requires-clause-start : goal.grow_from-requires-clause-start
grow_from-requires-clause-start c =
    let p = c.requires.planted in
    let n = length c.args.roots.now in
    let none : get_or c.args.roots.now c.args.root 0 ≡ no_number = c.if-roots-clock.false in
    subst (λ (x : ℕ). IsGrowing c.args.needs.now x c.args.root [] (get_or c.args.firsts.now c.args.root 0) (set c.args.roots.now c.args.root c.args.root)) (sym (length-set c.args.roots.now c.args.root c.args.root))
    (growth_start c.args.needs.now n c.args.root (get_or c.args.firsts.now c.args.root 0) p.0 c.args.roots.now c.args.parents.now c.args.depths.now c.args.rates.now p.1 none c.requires.within refl c.requires.root c.requires.clocks
    (λ k l. c.requires.firsts.before c.args.root k c.requires.root l))

pub grow_from-requires-clause-rated : goal.grow_from-requires-clause-rated
grow_from-requires-clause-rated c =
    let sizes = c.requires.sizes in
    let root = c.requires.root in
    let e : rate_at (set c.args.rates.now c.args.root (record { num = 1; den = 1 })) c.args.root ≡ record { num = 1; den = 1 } = get_or-set_same c.args.rates.now c.args.root (record { num = 1; den = 1 }) no_rate (omega arith) in
    rated_start c.args.needs.now c.args.root c.args.parents.now (set c.args.depths.now c.args.root 0) (set c.args.rates.now c.args.root (record { num = 1; den = 1 }))
    (subst IsRateFraction (sym e) unit_rate) (ap (λ (z : Fraction). z.num) e) (ap (λ (z : Fraction). z.den) e) (get_or-set_same c.args.depths.now c.args.root 0 0 (omega arith))

pub returns-clause-planted : goal.returns-clause-planted
returns-clause-planted c =
    let p = c.requires.planted in
    let n = length c.args.roots.now in
    let needs = c.args.needs.now in
    let root = c.args.root in
    let new = c.grow_from.new in
    let size = length-set c.args.roots.now root root in
    IfOk-weaker c.grow_from.result _ _
    (λ x grown.
    (let h = planting_of needs n root p.0 grown.0 c.args.roots.now c.args.parents.now c.args.depths.now c.args.rates.now (record { num = 1; den = 1 }) new.roots new.parents new.depths new.rates p.1 c.if-roots-clock.false refl c.requires.root c.requires.clocks
    grown.1 (subst (λ (z : ℕ). IsGrowing needs z root grown.0 (length needs) new.roots) size grown.2) grown.3 c.grow_from.ensures.kept in
    (with_tree p.0 root grown.0, planted_step needs n root p.0 grown.0 c.args.roots.now c.args.parents.now c.args.depths.now c.args.rates.now new.roots new.parents new.depths new.rates h c.requires.within)))
    c.grow_from.ensures.grown

pub returns-clause-refused : goal.returns-clause-refused
returns-clause-refused c =
    let p = c.requires.planted in
    let n = length c.args.roots.now in
    let root = c.args.root in
    let size = length-set c.args.roots.now root root in
    IfErr-weaker c.grow_from.result _ _
    (λ e h. (
      h.0,
      large_rate c.args.needs.now n root p.0 c.args.roots.now c.args.parents.now c.args.depths.now c.args.rates.now p.1 c.if-roots-clock.false
          (subst (λ (z : ℕ). HasLargeFrom c.args.needs.now z root) size h.1),
    ))
    c.grow_from.ensures.refused
