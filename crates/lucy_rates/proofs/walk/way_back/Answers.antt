use Rattle.std.proofs.Common.{◌≡◌, ℕ, ◌+◌, ◌<◌, List, [], ◌∷◌, ◌++◌, length, get_or, sym, ap, ◌∙◌, subst, refl, arith}
use Rattle.std.specs.List.{All}
use Rattle.std.proofs.lemmas.Result.{IfOk-weaker}
use Rattle.std.proofs.lemmas.List.{get_or_default}
use Rattle.lucy_need.specs.Meeting.{IsWithin}
use Rattle.lucy_need.specs.declared.need.Need.{Need}
use Rattle.lucy_rates.specs.declared.fraction.Fraction.{Fraction}
use Rattle.lucy_rates.specs.Growing.{IsOther, ArePlanted, AreClimbing, IsWayBack}
use Rattle.lucy_rates.proofs.Climbing.{IsRooted, climb_start, climb_swap, climb_step, way_back, deeper_up, parent_within}
use Rattle.lucy_rates.proofs.walk.way_back.Goals as goal

-- the trees, at the root of a clock
rooted : (needs : List Need) (clocks : ℕ) (trees : ℕ → List ℕ) (roots parents depths : List ℕ) (rates : List Fraction) → ArePlanted needs clocks clocks trees roots parents depths rates → All (IsWithin clocks) needs → (c : ℕ) → c < clocks →
    IsRooted needs clocks trees roots parents depths rates (get_or roots c 0)
rooted needs clocks trees roots parents depths rates h within c l =
    let some = h.done c l in
    record { planted = h; within = within; inside = h.below c l some; own = h.own c l some }

-- what an index gives, and what the lists of clocks say
at_zero : (xs : List ℕ) (i x : ℕ) → i < length xs → x ≡ get_or xs i x → x ≡ get_or xs i 0
at_zero xs i x l e = e ∙ get_or_default xs i x 0 l

pub loop-a-init : goal.loop-a-init
loop-a-init c =
    let p = c.requires.grown in
    let f = c.args.forest.now in
    let n = length f.roots.items in
    let root = get_or f.roots.items c.args.from 0 in
    let start = climb_start c.args.needs.now n root (p.tree root) f.roots.items f.parents.items f.depths.items c.args.from c.args.to c.requires.from c.requires.to refl (sym c.requires.one) in
    record {
      tree = p.tree;
      planted = p.planted;
      climbing = subst (λ (x : List ℕ). AreClimbing c.args.needs.now n root (p.tree root) f.roots.items f.parents.items f.depths.items c.args.from c.args.to x c.new-down.result.items c.args.from c.args.to) (sym c.new-up.ensures.items)
          (subst (λ (x : List ℕ). AreClimbing c.args.needs.now n root (p.tree root) f.roots.items f.parents.items f.depths.items c.args.from c.args.to [] x c.args.from c.args.to) (sym c.new-down.ensures.items) start);
    }

pub up_from-need-requires : goal.up_from-need-requires
up_from-need-requires c =
    let i = c.loop-a.invariant in
    let f = c.args.forest.now in
    let n = length f.roots.items in
    let root = get_or f.roots.items c.args.from 0 in
    let h = rooted c.args.needs.now n i.tree f.roots.items f.parents.items f.depths.items f.rates.items i.planted c.requires.within c.args.from c.requires.from in
    let size = c.requires.grown.depths_size in
    let parents_size = c.requires.grown.is.parents_size in
    let a_in = i.climbing.a_within in
    let b_in = i.climbing.b_within in
    let da = at_zero f.depths.items c.loop-a.a c.index.result.now (omega arith) c.index.ensures in
    let db = at_zero f.depths.items c.loop-a.b c.index-in-loop-a.result.now (omega arith) c.index-in-loop-a.ensures in
    let test = c.if-index.true in
    let up = deeper_up c.args.needs.now n i.tree f.roots.items f.parents.items f.depths.items f.rates.items root h c.loop-a.a c.loop-a.b a_in b_in i.climbing.a_root i.climbing.b_root c.loop-a-test.true (omega arith) in
    let l = parent_within c.args.needs.now n i.tree f.roots.items f.parents.items f.depths.items f.rates.items root h c.loop-a.a up in
    let v = c.deref.ensures.value in
    subst (λ (x : List ℕ). record { within : c.loop-a.a < length x; reached : get_or x c.loop-a.a 0 < length c.args.needs.now }) (sym v) (record { within = omega arith; reached = l })

pub loop-a-preserved : goal.loop-a-preserved
loop-a-preserved c =
    let i = c.loop-a.invariant in
    let f = c.args.forest.now in
    let n = length f.roots.items in
    let root = get_or f.roots.items c.args.from 0 in
    let h = rooted c.args.needs.now n i.tree f.roots.items f.parents.items f.depths.items f.rates.items i.planted c.requires.within c.args.from c.requires.from in
    let size = c.requires.grown.depths_size in
    let parents_size = c.requires.grown.is.parents_size in
    let a_in = i.climbing.a_within in
    let b_in = i.climbing.b_within in
    let da = at_zero f.depths.items c.loop-a.a c.index.result.now (omega arith) c.index.ensures in
    let db = at_zero f.depths.items c.loop-a.b c.index-in-loop-a.result.now (omega arith) c.index-in-loop-a.ensures in
    let test = c.if-index.false in
    let v = c.deref-else-index.ensures.value in
    let need : c.up_from-need-else-index.result.0 ≡ get_or f.parents.items c.loop-a.b 0 = c.up_from-need-else-index.ensures.need ∙ ap (λ (x : List ℕ). get_or x c.loop-a.b 0) v in
    let other : IsOther c.args.needs.now (get_or f.parents.items c.loop-a.b 0) c.loop-a.b c.up_from-need-else-index.result.1 =
    subst (λ (x : List ℕ). IsOther c.args.needs.now (get_or x c.loop-a.b 0) c.loop-a.b c.up_from-need-else-index.result.1) v c.up_from-need-else-index.ensures.other in
    let swapped = climb_swap c.args.needs.now n root (i.tree root) f.roots.items f.parents.items f.depths.items c.args.from c.args.to c.loop-a.up.items c.loop-a.down.items c.loop-a.a c.loop-a.b i.climbing in
    let step = climb_step c.args.needs.now n i.tree f.roots.items f.parents.items f.depths.items f.rates.items root h c.args.to c.args.from c.loop-a.down.items c.loop-a.up.items c.loop-a.b c.loop-a.a c.up_from-need-else-index.result.1
    swapped (λ e. c.loop-a-test.true (sym e)) (omega arith) other in
    let back = climb_swap c.args.needs.now n root (i.tree root) f.roots.items f.parents.items f.depths.items c.args.to c.args.from (c.loop-a.down.items ++ get_or f.parents.items c.loop-a.b 0 ∷ []) c.loop-a.up.items c.up_from-need-else-index.result.1 c.loop-a.a step.climbing in
    let items : c.push-else-index.new.self.items ≡ c.loop-a.down.items ++ get_or f.parents.items c.loop-a.b 0 ∷ [] = c.in_ok-push-2.ensures.items ∙ ap (λ x. c.loop-a.down.items ++ x ∷ []) need in
    record {
      tree = i.tree;
      planted = i.planted;
      climbing = subst (λ (x : List ℕ). AreClimbing c.args.needs.now n root (i.tree root) f.roots.items f.parents.items f.depths.items c.args.from c.args.to c.loop-a.up.items x c.loop-a.a c.up_from-need-else-index.result.1) (sym items) back;
    }

pub loop-a-smaller : goal.loop-a-smaller
loop-a-smaller c =
    let i = c.loop-a.invariant in
    let f = c.args.forest.now in
    let n = length f.roots.items in
    let root = get_or f.roots.items c.args.from 0 in
    let h = rooted c.args.needs.now n i.tree f.roots.items f.parents.items f.depths.items f.rates.items i.planted c.requires.within c.args.from c.requires.from in
    let size = c.requires.grown.depths_size in
    let parents_size = c.requires.grown.is.parents_size in
    let a_in = i.climbing.a_within in
    let b_in = i.climbing.b_within in
    let da = at_zero f.depths.items c.loop-a.a c.index.result.now (omega arith) c.index.ensures in
    let db = at_zero f.depths.items c.loop-a.b c.index-in-loop-a.result.now (omega arith) c.index-in-loop-a.ensures in
    let test = c.if-index.false in
    let v = c.deref-else-index.ensures.value in
    let other : IsOther c.args.needs.now (get_or f.parents.items c.loop-a.b 0) c.loop-a.b c.up_from-need-else-index.result.1 =
    subst (λ (x : List ℕ). IsOther c.args.needs.now (get_or x c.loop-a.b 0) c.loop-a.b c.up_from-need-else-index.result.1) v c.up_from-need-else-index.ensures.other in
    let swapped = climb_swap c.args.needs.now n root (i.tree root) f.roots.items f.parents.items f.depths.items c.args.from c.args.to c.loop-a.up.items c.loop-a.down.items c.loop-a.a c.loop-a.b i.climbing in
    let step = climb_step c.args.needs.now n i.tree f.roots.items f.parents.items f.depths.items f.rates.items root h c.args.to c.args.from c.loop-a.down.items c.loop-a.up.items c.loop-a.b c.loop-a.a c.up_from-need-else-index.result.1
    swapped (λ e. c.loop-a-test.true (sym e)) (omega arith) other in
    let lower : get_or f.depths.items c.up_from-need-else-index.result.1 0 < get_or f.depths.items c.loop-a.b 0 = step.lower in
    let less : get_or f.depths.items c.loop-a.a 0 + get_or f.depths.items c.up_from-need-else-index.result.1 0 < get_or f.depths.items c.loop-a.a 0 + get_or f.depths.items c.loop-a.b 0 = omega arith in
    less

pub loop-a-smaller-then-index : goal.loop-a-smaller-then-index
loop-a-smaller-then-index c =
    let i = c.loop-a.invariant in
    let f = c.args.forest.now in
    let n = length f.roots.items in
    let root = get_or f.roots.items c.args.from 0 in
    let h = rooted c.args.needs.now n i.tree f.roots.items f.parents.items f.depths.items f.rates.items i.planted c.requires.within c.args.from c.requires.from in
    let size = c.requires.grown.depths_size in
    let parents_size = c.requires.grown.is.parents_size in
    let a_in = i.climbing.a_within in
    let b_in = i.climbing.b_within in
    let da = at_zero f.depths.items c.loop-a.a c.index.result.now (omega arith) c.index.ensures in
    let db = at_zero f.depths.items c.loop-a.b c.index-in-loop-a.result.now (omega arith) c.index-in-loop-a.ensures in
    let test = c.if-index.true in
    let v = c.deref.ensures.value in
    let other : IsOther c.args.needs.now (get_or f.parents.items c.loop-a.a 0) c.loop-a.a c.up_from-need.result.1 =
    subst (λ (x : List ℕ). IsOther c.args.needs.now (get_or x c.loop-a.a 0) c.loop-a.a c.up_from-need.result.1) v c.up_from-need.ensures.other in
    let step = climb_step c.args.needs.now n i.tree f.roots.items f.parents.items f.depths.items f.rates.items root h c.args.from c.args.to c.loop-a.up.items c.loop-a.down.items c.loop-a.a c.loop-a.b c.up_from-need.result.1
    i.climbing c.loop-a-test.true (omega arith) other in
    let lower : get_or f.depths.items c.up_from-need.result.1 0 < get_or f.depths.items c.loop-a.a 0 = step.lower in
    let less : get_or f.depths.items c.up_from-need.result.1 0 + get_or f.depths.items c.loop-a.b 0 < get_or f.depths.items c.loop-a.a 0 + get_or f.depths.items c.loop-a.b 0 = omega arith in
    less

pub loop-a-preserved-then-index : goal.loop-a-preserved-then-index
loop-a-preserved-then-index c =
    let i = c.loop-a.invariant in
    let f = c.args.forest.now in
    let n = length f.roots.items in
    let root = get_or f.roots.items c.args.from 0 in
    let h = rooted c.args.needs.now n i.tree f.roots.items f.parents.items f.depths.items f.rates.items i.planted c.requires.within c.args.from c.requires.from in
    let size = c.requires.grown.depths_size in
    let parents_size = c.requires.grown.is.parents_size in
    let a_in = i.climbing.a_within in
    let b_in = i.climbing.b_within in
    let da = at_zero f.depths.items c.loop-a.a c.index.result.now (omega arith) c.index.ensures in
    let db = at_zero f.depths.items c.loop-a.b c.index-in-loop-a.result.now (omega arith) c.index-in-loop-a.ensures in
    let test = c.if-index.true in
    let v = c.deref.ensures.value in
    let other : IsOther c.args.needs.now (get_or f.parents.items c.loop-a.a 0) c.loop-a.a c.up_from-need.result.1 =
    subst (λ (x : List ℕ). IsOther c.args.needs.now (get_or x c.loop-a.a 0) c.loop-a.a c.up_from-need.result.1) v c.up_from-need.ensures.other in
    let step = climb_step c.args.needs.now n i.tree f.roots.items f.parents.items f.depths.items f.rates.items root h c.args.from c.args.to c.loop-a.up.items c.loop-a.down.items c.loop-a.a c.loop-a.b c.up_from-need.result.1
    i.climbing c.loop-a-test.true (omega arith) other in
    let need : c.up_from-need.result.0 ≡ get_or f.parents.items c.loop-a.a 0 = c.up_from-need.ensures.need ∙ ap (λ (x : List ℕ). get_or x c.loop-a.a 0) v in
    let items : c.push.new.self.items ≡ c.loop-a.up.items ++ get_or f.parents.items c.loop-a.a 0 ∷ [] = c.in_ok-push.ensures.items ∙ ap (λ x. c.loop-a.up.items ++ x ∷ []) need in
    record {
      tree = i.tree;
      planted = i.planted;
      climbing = subst (λ (x : List ℕ). AreClimbing c.args.needs.now n root (i.tree root) f.roots.items f.parents.items f.depths.items c.args.from c.args.to x c.loop-a.down.items c.up_from-need.result.1 c.loop-a.b) (sym items) step.climbing;
    }

pub up_from-need-requires-else-index-clause-reached : goal.up_from-need-requires-else-index-clause-reached
up_from-need-requires-else-index-clause-reached c =
    let i = c.loop-a.invariant in
    let f = c.args.forest.now in
    let n = length f.roots.items in
    let root = get_or f.roots.items c.args.from 0 in
    let h = rooted c.args.needs.now n i.tree f.roots.items f.parents.items f.depths.items f.rates.items i.planted c.requires.within c.args.from c.requires.from in
    let size = c.requires.grown.depths_size in
    let parents_size = c.requires.grown.is.parents_size in
    let a_in = i.climbing.a_within in
    let b_in = i.climbing.b_within in
    let da = at_zero f.depths.items c.loop-a.a c.index.result.now (omega arith) c.index.ensures in
    let db = at_zero f.depths.items c.loop-a.b c.index-in-loop-a.result.now (omega arith) c.index-in-loop-a.ensures in
    let test = c.if-index.false in
    let up = deeper_up c.args.needs.now n i.tree f.roots.items f.parents.items f.depths.items f.rates.items root h c.loop-a.b c.loop-a.a b_in a_in i.climbing.b_root i.climbing.a_root (λ e. c.loop-a-test.true (sym e)) (omega arith) in
    let l = parent_within c.args.needs.now n i.tree f.roots.items f.parents.items f.depths.items f.rates.items root h c.loop-a.b up in
    subst (λ (x : List ℕ). get_or x c.loop-a.b 0 < length c.args.needs.now) (sym c.deref-else-index.ensures.value) l

pub returns : goal.returns
returns c =
    let i = c.loop-a.invariant in
    let f = c.args.forest.now in
    let n = length f.roots.items in
    let root = get_or f.roots.items c.args.from 0 in
    let h = rooted c.args.needs.now n i.tree f.roots.items f.parents.items f.depths.items f.rates.items i.planted c.requires.within c.args.from c.requires.from in
    let back = way_back c.args.needs.now n i.tree f.roots.items f.parents.items f.depths.items f.rates.items root h c.args.from c.args.to c.loop-a.up.items c.loop-a.down.items c.loop-a.a c.loop-a.b i.climbing c.loop-a-test.false c.requires.one in
    IfOk-weaker c.turned.result _ _ (λ way e. subst (IsWayBack c.args.needs.now f.roots.items f.rates.items c.args.from c.args.to) (sym e) back) c.turned.ensures
