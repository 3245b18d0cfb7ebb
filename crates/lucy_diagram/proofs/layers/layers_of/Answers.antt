use Rattle.std.proofs.Common.{ℕ, ◌≡◌, List, Option, Some, None, map, replicate, length, ap, sym, ◌∙◌, subst, arith}
use Rattle.std.proofs.lemmas.List.{length-map}
use Rattle.lucy_diagram.specs.Layers.{ways_of, spares_of, IsLeft, Finds}
use Rattle.lucy_diagram.proofs.LayeringLaws.{passed_all, passed_length, all_passed}
use Rattle.lucy_diagram.proofs.layers.layers_of.Goals as goal

pub all_of-requires : goal.all_of-requires
all_of-requires c =
    let d = c.args.diagram.now in
    let work = c.in_ok-work.work in
    let passed = passed_all d _ _ _ work (c.deref.ensures.value ∙ c.in_ok-ways.ensures) (c.deref-2.ensures.value ∙ c.in_ok-spares.ensures) (c.len.ensures ∙ d.places.ok.0) c.in_ok-work.ensures in
    λ q left. all_passed d (length (spares_of d)) work passed (omega arith) q (subst (λ (F : List (Option ℕ)). IsLeft F q) c.deref-3.ensures.value left)

pub returns : goal.returns
returns c =
    let d = c.args.diagram.now in
    let work = c.in_ok-work.work in
    let layers = c.in_ok-layers.layers.items in
    let passed = passed_all d _ _ _ work (c.deref.ensures.value ∙ c.in_ok-ways.ensures) (c.deref-2.ensures.value ∙ c.in_ok-spares.ensures) (c.len.ensures ∙ d.places.ok.0) c.in_ok-work.ensures in
    let all : work.found.items ≡ map (λ (k : ℕ). Some k) layers = sym c.deref-3.ensures.value ∙ c.in_ok-layers.ensures in record {
      count = omega (arith, ap length all, length-map layers (λ (k : ℕ). Some k), passed_length (ways_of d) (spares_of d) (length d.places.items) (length (spares_of d)) work passed);
      layers = subst (λ (F : List (Option ℕ)). Finds (ways_of d) (spares_of d) (replicate (length d.places.items) None) F) all passed.finds;
    }
