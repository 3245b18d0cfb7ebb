-- Earlier positions are those of earlier ones.
use Rattle.std.proofs.Common.{◌≡◌, inl, inr, ap, ◌∙◌, arith}
use Rattle.std.proofs.lemmas.Int.{ints}
use Rattle.std.proofs.lemmas.Bool.{cases_lt}
use Rattle.lucy_shape.specs.Index.{index_of}
use Rattle.lucy_shape.specs.Fitting.{clock_at, variable_of}
use Rattle.lucy_shape.specs.Laws.{EarlierLaw}
use Rattle.lucy_shape.proofs.Indexes.{decided}
use Rattle.lucy_shape.proofs.WordIndex.{index_none}

pub earlier_law : EarlierLaw
earlier_law shape v w xs ys laid of_v of_w at_v at_w before c u k =
    let s = clock_at shape.clocks c in
    elim (cases_lt 0 k) [
      | inl some ↦ decided (index_of (v c)) (index_of (w c)) s.lead s.ones shape.period (laid.ones c u) (of_v.fits c u) (of_w.fits c u)
          (λ m low high. (let a = (at_v.at c u).at m low high in let b = (at_w.at c u).at m low high in let d = before (variable_of s m) in omega (arith, ints))) k some
      | inr none ↦
          let e : index_of (v c) k ≡ 0 = ap (index_of (v c)) (omega arith) ∙ index_none (v c) (of_v.words c u.0) in
          omega arith
    ]
