use Rattle.std.proofs.Common.{◌≡◌, ◌++◌, ◌∷◌, [], ap, refl, subst, length, arith}
use Rattle.lucy_flat.specs.Drafts.{ArePlacesKept}
use Rattle.lucy_flat.proofs.InstanceLaws.{places_few}
use Rattle.lucy_flat.proofs.MadeLaws.{places_none, places_more}
use Rattle.lucy_flat.proofs.instance.put_places.Goals as goal

pub overflow_cast-i : goal.overflow_cast-i
overflow_cast-i c =
    let few = places_few c.args.program.placed.now.nodes c.args.program.clocks.now c.requires.program.proper c.requires.of.0 c.args.of c.requires.of.1 in
    let count = ap length c.list-count.ensures in
    let low = c.each-test.true in
    omega arith

pub each-init : goal.each-init
each-init c = λ path old is keeps. record { new = old; put = places_none c.args.program.placed.now.nodes c.args.program.clocks.now path old; keeps = keeps }

pub overflow_add-i : goal.overflow_add-i
overflow_add-i c =
    let few = places_few c.args.program.placed.now.nodes c.args.program.clocks.now c.requires.program.proper c.requires.of.0 c.args.of c.requires.of.1 in
    let count = ap length c.list-count.ensures in
    let low = c.each-test.true in
    omega arith

pub each-preserved : goal.each-preserved
each-preserved c = λ path old is keeps.
    let before = c.each.invariant path old is keeps in
    let next = c.in_ok-put_place.ensures.ok path before.new is before.keeps in
    record {
      new = before.new ++ next.draft ∷ [];
      put = places_more c.args.program.placed.now.nodes c.args.program.clocks.now path c.each.i old before.new (before.new ++ next.draft ∷ []) next.draft before.put refl next.is next.fit;
      keeps = next.keeps;
    }

pub returns-clause-ok : goal.returns-clause-ok
returns-clause-ok c = λ path old is keeps.
    let count = ap length c.list-count.ensures in
    let high = c.each-test.false in
    let end = c.each.auto.i-end in
    let same : c.each.i ≡ length c.args.of.node.now.places = omega arith in
    subst (λ n. ArePlacesKept c.args.program.placed.now.nodes c.args.program.clocks.now path n old c.each.kept) same (c.each.invariant path old is keeps)
