use Rattle.std.proofs.Common.{◌≡◌, ℕ, List, replicate, length, ap, sym, ◌∙◌, subst, refl, arith}
use Rattle.std.specs.List.{All}
use Rattle.std.proofs.lemmas.List.{length-replicate, take_at}
use Rattle.std.proofs.lemmas.List.Elements.{All-replicate}
use Rattle.lucy_need.specs.Meeting.{IsWithin}
use Rattle.lucy_need.specs.declared.need.Need.{Need}
use Rattle.lucy_rates.specs.declared.forest.Forest.{Forest}
use Rattle.lucy_rates.specs.declared.fraction.Fraction.{Fraction}
use Rattle.lucy_rates.specs.Forests.{IsForest}
use Rattle.lucy_rates.specs.Growing.{AreFirstNeeds, ArePlanted, IsGrown}
use Rattle.lucy_rates.proofs.forest.grow_all.Goals as goal

size : {A : Type 0} (list : List A) (n : ℕ) (x : A) → list ≡ replicate n x → length list ≡ n
size list n x e = ap length e ∙ length-replicate n x

all : (list : List ℕ) (n x : ℕ) → list ≡ replicate n x → All (λ (y : ℕ). y ≡ x) list
all list n x e = subst (All (λ (y : ℕ). y ≡ x)) (sym e) (All-replicate (λ (y : ℕ). y ≡ x) n x refl)

pub plant_all-requires : goal.plant_all-requires
plant_all-requires c =
    let roots = c.deref_mut.ensures.value ∙ c.in_ok-roots.ensures.items_if_clones_equal (λ y e. e) in
    let parents = c.deref_mut-2.ensures.value ∙ c.in_ok-parents.ensures.items_if_clones_equal (λ y e. e) in
    let depths = c.deref_mut-3.ensures.value ∙ c.in_ok-depths.ensures.items_if_clones_equal (λ y e. e) in
    let rates = c.deref_mut-4.ensures.value ∙ c.in_ok-rates.ensures.items_if_clones_equal (λ y e. e) in
    let n : length c.deref_mut.result.now ≡ c.args.clocks = size _ _ _ roots in
    record {
      within = subst (λ (x : ℕ). All (IsWithin x) c.args.needs.now) (sym n) c.requires.within;
      few = c.requires.few;
      firsts = subst (λ (x : ℕ). AreFirstNeeds c.args.needs.now x c.args.firsts.now) (sym n) c.requires.firsts;
      sizes = (size _ _ _ parents ∙ sym n, size _ _ _ depths ∙ sym n, size _ _ _ rates ∙ sym n);
      clocks = (let fits = c.ranges.clocks.fits in omega arith);
      words = c.requires.words;
      none = all _ _ _ roots;
      level = all _ _ _ depths;
    }

grown : (needs : List Need) (n clocks : ℕ) (forest : Forest) (roots parents depths : List ℕ) (rates : List Fraction) → n ≡ clocks →
    forest.roots.items ≡ roots → forest.parents.items ≡ parents → forest.depths.items ≡ depths → forest.rates.items ≡ rates →
    IsForest needs n roots parents rates → (tree : ℕ → List ℕ) → ArePlanted needs n n tree roots parents depths rates → length depths ≡ n → IsGrown needs clocks forest
grown needs n clocks forest roots parents depths rates e r p d x is tree planted size = record {
  is = rw (r, p, x, ← e) is;
  tree = tree;
  planted = rw (r, p, d, x, ← e) planted;
  depths_size = ap length d ∙ size ∙ e;
}

pub returns-clause-grown : goal.returns-clause-grown
returns-clause-grown c =
    let new = c.plant_all.new in
    let kept = c.plant_all.auto in
    let n : length c.deref_mut.result.now ≡ c.args.clocks = size _ _ _ (c.deref_mut.ensures.value ∙ c.in_ok-roots.ensures.items_if_clones_equal (λ y e. e)) in
    let planted = c.in_ok-plant_all.ensures.planted in
    grown _ _ _ _ _ _ _ _ n
    (take_at new.roots _ c.in_ok-roots.roots.len (let l = c.deref_mut.ensures.len in omega arith))
    (take_at new.parents _ c.in_ok-parents.parents.len (let l = c.deref_mut-2.ensures.len in omega arith))
    (take_at new.depths _ c.in_ok-depths.depths.len (let l = c.deref_mut-3.ensures.len in omega arith))
    (take_at new.rates _ c.in_ok-rates.rates.len (let l = c.deref_mut-4.ensures.len in omega arith))
    c.in_ok-plant_all.ensures.forest planted.0 planted.1 c.plant_all.ensures.sizes.2
