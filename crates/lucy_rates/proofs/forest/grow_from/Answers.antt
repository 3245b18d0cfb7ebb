use Rattle.std.proofs.Common.{◌≡◌, ◌≤◌, ◌<◌, ◌+◌, ℕ, List, length, get_or, set, ◌++◌, ◌∷◌, [], inl, refl, sym, ◌∙◌, subst, arith}
use Rattle.std.specs.List.{All}
use Rattle.std.proofs.lemmas.List.{length-set}
use Rattle.std.proofs.lemmas.Result.{err_from_is_err_and}
use Rattle.lucy_need.specs.Meeting.{IsWithin}
use Rattle.lucy_need.specs.declared.need.Need.{Need}
use Rattle.lucy_need.specs.declared.need.Term.{Term}
use Rattle.lucy_rates.specs.Growing.{no_number, IsGrowing, IsJoiningStep}
use Rattle.lucy_rates.specs.Walks.{no_need}
use Rattle.lucy_rates.proofs.Growing.{need_is, IsAt, skip_at, step_at, fewer, one_fewer, growth_step, growth_done}
use Rattle.lucy_rates.proofs.RatedTree.{rated_step, kept_step, deep_step}
use Rattle.lucy_rates.proofs.Completing.{large_from}
use Rattle.lucy_rates.proofs.forest.grow_from.Goals as goal

-- the step at the place, where the clocks are those of the beginning
here : (n : ℕ) (needs : List Need) (root : ℕ) (tree : List ℕ) (at : ℕ) (roots : List ℕ) (need : Need) (s t : Term) → length roots ≡ n → All (IsWithin n) needs → IsGrowing needs (length roots) root tree at roots → at < length needs → (root ≡ no_number → ⊥) →
    need ≡ get_or needs at need → IsJoiningStep roots need s t → IsAt needs (length roots) root tree at roots s t
here n needs root tree at roots need s t size within h l is_root is step =
    step_at needs (length roots) root tree at roots need s t h l is_root (subst (λ (x : ℕ). All (IsWithin x) needs) (sym size) within) is step

skip : (n : ℕ) (needs : List Need) (root : ℕ) (tree : List ℕ) (at : ℕ) (roots : List ℕ) (need : Need) → length roots ≡ n → All (IsWithin n) needs → IsGrowing needs (length roots) root tree at roots → at < length needs → (root ≡ no_number → ⊥) →
    need ≡ get_or needs at need → ((s t : Term) → IsJoiningStep roots need s t → ⊥) → IsGrowing needs (length roots) root tree (at + 1) roots
skip n needs root tree at roots need size within h l is_root is none =
    skip_at needs (length roots) root tree at roots need h l is_root (subst (λ (x : ℕ). All (IsWithin x) needs) (sym size) within) is none

is_number : (n root : ℕ) → root < n → n ≤ 4294967295 → root ≡ no_number → ⊥
is_number n root l m e = absurd (omega arith)

pub loop-at-init : goal.loop-at-init
loop-at-init c =
    let sizes = c.requires.sizes in
    record {
      tree = [];
      growing = c.requires.start;
      rated = c.requires.rated;
      kept = record { root_kept = λ x h. refl; parent_kept = λ x h. refl; depth_kept = λ x h. refl; rate_kept = λ x h. refl; near = λ x e. inl e };
      deep = c.requires.deep;
      size = refl;
      parents_size = sizes.0;
      depths_size = sizes.1;
      rates_size = sizes.2;
      at_most = c.requires.firsts.within c.args.root c.requires.root;
    }

pub step-requires : goal.step-requires
step-requires c =
    let need = c.index-needs-at.result in
    subst (λ (x : ℕ). IsWithin x need) (sym c.loop-at.invariant.size)
    (subst (IsWithin (length c.args.roots.now)) (sym (need_is c.args.needs.now c.loop-at.at need c.loop-at-test.true c.index-needs-at.is)) (c.requires.within c.loop-at.at no_need c.loop-at-test.true))

pub loop-at-smaller-in-None : goal.loop-at-smaller-in-None
loop-at-smaller-in-None c = let test = c.loop-at-test.true in omega arith

pub bounds-depths-from : goal.bounds-depths-from
bounds-depths-from c = let within = c.in-Some.ensures.within in let size = c.loop-at.invariant.depths_size in omega arith

pub bounds-depths-clock : goal.bounds-depths-clock
bounds-depths-clock c = let within = c.in-Some.ensures.within in let size = c.loop-at.invariant.depths_size in omega arith

pub bounds-roots-clock : goal.bounds-roots-clock
bounds-roots-clock c = let within = c.in-Some.ensures.within in let size = c.loop-at.invariant.size in omega arith

pub bounds-rates-clock : goal.bounds-rates-clock
bounds-rates-clock c = let within = c.in-Some.ensures.within in let size = c.loop-at.invariant.rates_size in omega arith

pub bounds-parents-clock : goal.bounds-parents-clock
bounds-parents-clock c = let within = c.in-Some.ensures.within in let size = c.loop-at.invariant.parents_size in omega arith

pub bounds-firsts-clock : goal.bounds-firsts-clock
bounds-firsts-clock c = let within = c.in-Some.ensures.within in let size = c.loop-at.invariant.size in let firsts = c.requires.firsts.size in omega arith

pub returns-in_err-rate-in-Some-clause-kept : goal.returns-in_err-rate-in-Some-clause-kept
returns-in_err-rate-in-Some-clause-kept c = c.loop-at.invariant.kept

pub returns-in_err-rate-in-Some-clause-deep : goal.returns-in_err-rate-in-Some-clause-deep
returns-in_err-rate-in-Some-clause-deep c = c.loop-at.invariant.deep

pub returns-in_err-rate-in-Some-clause-sizes : goal.returns-in_err-rate-in-Some-clause-sizes
returns-in_err-rate-in-Some-clause-sizes c =
    let i = c.loop-at.invariant in
    (i.size, i.parents_size ∙ i.size, i.depths_size ∙ i.size, i.rates_size ∙ i.size)

pub returns-clause-kept : goal.returns-clause-kept
returns-clause-kept c = c.loop-at.invariant.kept

pub returns-clause-deep : goal.returns-clause-deep
returns-clause-deep c = c.loop-at.invariant.deep

pub returns-clause-sizes : goal.returns-clause-sizes
returns-clause-sizes c =
    let i = c.loop-at.invariant in
    (i.size, i.parents_size ∙ i.size, i.depths_size ∙ i.size, i.rates_size ∙ i.size)

pub loop-at-preserved-in-None : goal.loop-at-preserved-in-None
loop-at-preserved-in-None c =
    let i = c.loop-at.invariant in
    let t = c.loop-at-test.true in
    record {
      tree = i.tree;
      growing = skip (length c.args.roots.now) c.args.needs.now c.args.root i.tree c.loop-at.at c.loop-at.roots c.index-needs-at.result i.size c.requires.within i.growing t (is_number (length c.args.roots.now) c.args.root c.requires.root c.requires.clocks) c.index-needs-at.is c.in-None.ensures.none;
      rated = i.rated;
      kept = i.kept;
      deep = i.deep;
      size = i.size;
      parents_size = i.parents_size;
      depths_size = i.depths_size;
      rates_size = i.rates_size;
      at_most = omega arith;
    }

pub next_rate-requires : goal.next_rate-requires
next_rate-requires c =
    let i = c.loop-at.invariant in
    i.rated.rate c.in-Some.from.now.clock (here (length c.args.roots.now) c.args.needs.now c.args.root i.tree c.loop-at.at c.loop-at.roots c.index-needs-at.result c.in-Some.from.now c.in-Some.to.now i.size c.requires.within i.growing c.loop-at-test.true
    (is_number (length c.args.roots.now) c.args.root c.requires.root c.requires.clocks) c.index-needs-at.is c.in-Some.ensures.some).joint.there

pub returns-in_err-rate-in-Some-clause-refused : goal.returns-in_err-rate-in-Some-clause-refused
returns-in_err-rate-in-Some-clause-refused c =
    let i = c.loop-at.invariant in
    let h = c.in_err-rate-in-Some.ensures.refused in
    let n = length c.args.roots.now in
    let large = large_from c.args.needs.now n c.args.root i.tree c.loop-at.at c.loop-at.roots c.loop-at.parents c.loop-at.depths c.loop-at.rates c.index-needs-at.result c.in-Some.from.now c.in-Some.to.now
    (subst (λ (x : ℕ). IsGrowing c.args.needs.now x c.args.root i.tree c.loop-at.at c.loop-at.roots) i.size i.growing) i.rated i.size (is_number n c.args.root c.requires.root c.requires.clocks) c.requires.within c.loop-at-test.true c.index-needs-at.is c.in-Some.ensures.some h.1 in
    let p = err_from_is_err_and c.from_residual.result c.from_residual.ensures.1 in
    rw (p.1, p.2) (h.0, large)

pub overflow_add-depths : goal.overflow_add-depths
overflow_add-depths c =
    let i = c.loop-at.invariant in
    let a = here (length c.args.roots.now) c.args.needs.now c.args.root i.tree c.loop-at.at c.loop-at.roots c.index-needs-at.result c.in-Some.from.now c.in-Some.to.now i.size c.requires.within i.growing c.loop-at-test.true
    (is_number (length c.args.roots.now) c.args.root c.requires.root c.requires.clocks) c.index-needs-at.is c.in-Some.ensures.some in
    let l = a.second in
    let one = one_fewer c.loop-at.roots c.in-Some.to.now.clock c.args.root l a.fresh (is_number (length c.args.roots.now) c.args.root c.requires.root c.requires.clocks) in
    let d = i.deep c.in-Some.from.now.clock in
    let size = i.size in
    let few = c.requires.clocks in
    omega arith

pub loop-at-smaller : goal.loop-at-smaller
loop-at-smaller c =
    let i = c.loop-at.invariant in
    let a = here (length c.args.roots.now) c.args.needs.now c.args.root i.tree c.loop-at.at c.loop-at.roots c.index-needs-at.result c.in-Some.from.now c.in-Some.to.now i.size c.requires.within i.growing c.loop-at-test.true
    (is_number (length c.args.roots.now) c.args.root c.requires.root c.requires.clocks) c.index-needs-at.is c.in-Some.ensures.some in
    fewer c.loop-at.roots c.in-Some.to.now.clock c.args.root (length c.args.needs.now) _ c.loop-at.at a.second a.fresh (is_number (length c.args.roots.now) c.args.root c.requires.root c.requires.clocks)

pub loop-at-preserved : goal.loop-at-preserved
loop-at-preserved c =
    let i = c.loop-at.invariant in
    let needs = c.args.needs.now in
    let root = c.args.root in
    let roots = c.loop-at.roots in
    let s = c.in-Some.from.now in
    let t = c.in-Some.to.now in
    let m = c.loop-at.at in
    let rate = c.in_ok-rate-in-Some.rate in
    let is_root = is_number (length c.args.roots.now) root c.requires.root c.requires.clocks in
    let a = here (length c.args.roots.now) needs root i.tree m roots c.index-needs-at.result s t i.size c.requires.within i.growing c.loop-at-test.true is_root c.index-needs-at.is c.in-Some.ensures.some in
    let l : t.clock < length roots = a.second in
    let size = i.size in
    let p_size = i.parents_size in
    let d_size = i.depths_size in
    let r_size = i.rates_size in
    let min' = c.min-at.ensures in
    let test = c.loop-at-test.true in
    let s1 = length-set roots t.clock root in
    let s2 = length-set c.loop-at.parents t.clock m in
    let s3 = length-set c.loop-at.depths t.clock (get_or c.loop-at.depths s.clock 0 + 1) in
    let s4 = length-set c.loop-at.rates t.clock rate in
    let firsts = c.requires.firsts in
    let grown = growth_step needs (length roots) root i.tree m c.min-at.result s.clock t.clock roots i.growing test a.joint (omega arith) (λ k b. firsts.before t.clock k (omega arith) (omega arith)) a.fresh l in
    record {
      tree = i.tree ++ m ∷ [];
      growing = subst (λ (x : ℕ). IsGrowing needs x root (i.tree ++ m ∷ []) c.min-at.result (set roots t.clock root)) (sym s1) grown;
      rated = rated_step needs (length roots) root i.tree m roots c.loop-at.parents c.loop-at.depths c.loop-at.rates s t rate i.rated a c.in_ok-rate-in-Some.ensures.ok c.in_ok-rate-in-Some.ensures.same (omega arith) (omega arith) (omega arith);
      kept = kept_step root c.args.roots.now c.args.parents.now c.args.depths.now c.args.rates.now roots c.loop-at.parents c.loop-at.depths c.loop-at.rates t.clock m (get_or c.loop-at.depths s.clock 0 + 1) rate i.kept a.fresh l;
      deep = deep_step roots c.loop-at.depths t.clock root s.clock i.deep a.fresh l (omega arith) is_root;
      size = omega arith;
      parents_size = omega arith;
      depths_size = omega arith;
      rates_size = omega arith;
      at_most = omega arith;
    }

pub returns-clause-grown : goal.returns-clause-grown
returns-clause-grown c =
    let i = c.loop-at.invariant in
    let f = c.loop-at-test.false in
    let most = i.at_most in
    let e : c.loop-at.at ≡ length c.args.needs.now = omega arith in (
      i.tree,
      growth_done c.args.needs.now (length c.loop-at.roots) c.args.root i.tree c.loop-at.at c.loop-at.roots i.growing f,
      subst (λ (x : ℕ). IsGrowing c.args.needs.now x c.args.root i.tree (length c.args.needs.now) c.loop-at.roots) i.size
          (subst (λ (x : ℕ). IsGrowing c.args.needs.now (length c.loop-at.roots) c.args.root i.tree x c.loop-at.roots) e i.growing),
      i.rated,
    )
