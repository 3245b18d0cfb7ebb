use Rattle.std.proofs.Common.{inl, inr}
use Rattle.std.proofs.lemmas.Result.{err_from_is_err_and}
use Rattle.lucy_rates.proofs.Composing.{rated_from}
use Rattle.lucy_rates.proofs.Gathering.{roots_within, factor_refused, sizes, numbers_few, tops_have_ones, period_refused, ones_size, ones_few, shape_found, shapes_refused}
use Rattle.lucy_rates.proofs.shaping.shape_of.Goals as goal

pub returns-in_err-vector-clause-refused : goal.returns-in_err-vector-clause-refused
returns-in_err-vector-clause-refused c =
    let needs = c.args.needs.now in
    let f = c.args.forest.now in
    let rated = rated_from needs f.roots.items f.parents.items f.rates.items c.requires.proper c.requires.words c.requires.forest c.requires.balanced in
    let p = err_from_is_err_and c.from_residual.result c.from_residual.ensures.1 in
    rw (p.1, p.2) (elim c.in_err-vector.ensures.refused [
      | inl e ↦ inl e
      | inr w ↦ inr (w.0, factor_refused needs f.roots.items f.parents.items f.rates.items rated c.list-list.result.now c.list-list.ensures c.args.scale c.args.lead c.requires.proper c.requires.words c.requires.scale c.requires.scale_few w.1)
    ])

pub counted_ones-requires-clause-roots : goal.counted_ones-requires-clause-roots
counted_ones-requires-clause-roots c =
    let needs = c.args.needs.now in
    let f = c.args.forest.now in
    roots_within needs.list needs.clocks f.roots.items f.parents.items f.rates.items c.requires.forest c.deref.result.now c.deref.ensures.value

pub counted_ones-requires-clause-sizes : goal.counted_ones-requires-clause-sizes
counted_ones-requires-clause-sizes c =
    let needs = c.args.needs.now in
    let f = c.args.forest.now in
    let rated = rated_from needs f.roots.items f.parents.items f.rates.items c.requires.proper c.requires.words c.requires.forest c.requires.balanced in
    sizes needs f.roots.items f.parents.items f.rates.items rated c.list-list.result.now c.list-list.ensures c.in_ok-vector.vector.items c.in_ok-vector.ensures.ok c.deref.result.now c.deref-2.result.now c.deref.ensures.value c.deref-2.ensures.value

pub counted_ones-requires-clause-few : goal.counted_ones-requires-clause-few
counted_ones-requires-clause-few c =
    let needs = c.args.needs.now in
    let f = c.args.forest.now in
    let rated = rated_from needs f.roots.items f.parents.items f.rates.items c.requires.proper c.requires.words c.requires.forest c.requires.balanced in
    numbers_few needs f.roots.items f.parents.items f.rates.items rated c.list-list.result.now c.list-list.ensures c.in_ok-vector.vector.items c.in_ok-vector.ensures.ok c.deref.result.now c.deref-2.result.now c.deref.ensures.value c.deref-2.ensures.value

pub counted_ones-requires-clause-tops : goal.counted_ones-requires-clause-tops
counted_ones-requires-clause-tops c =
    let needs = c.args.needs.now in
    let f = c.args.forest.now in
    let rated = rated_from needs f.roots.items f.parents.items f.rates.items c.requires.proper c.requires.words c.requires.forest c.requires.balanced in
    tops_have_ones needs f.roots.items f.parents.items f.rates.items rated c.list-list.result.now c.list-list.ensures c.in_ok-vector.vector.items c.in_ok-vector.ensures.ok c.deref.result.now c.deref-2.result.now c.deref.ensures.value c.deref-2.ensures.value

pub returns-in_err-period-clause-refused : goal.returns-in_err-period-clause-refused
returns-in_err-period-clause-refused c =
    let needs = c.args.needs.now in
    let f = c.args.forest.now in
    let rated = rated_from needs f.roots.items f.parents.items f.rates.items c.requires.proper c.requires.words c.requires.forest c.requires.balanced in
    let p = err_from_is_err_and c.from_residual-in_err-period.result c.from_residual-in_err-period.ensures.1 in
    rw (p.1, p.2) (elim c.in_err-period.ensures.refused [
      | inl e ↦ inl e
      | inr w ↦ inr (w.0, period_refused needs f.roots.items f.parents.items f.rates.items rated c.list-list.result.now c.list-list.ensures c.in_ok-vector.vector.items c.in_ok-vector.ensures.ok c.deref.result.now c.deref-2.result.now c.deref.ensures.value c.deref-2.ensures.value c.is_base_named-is_base_used.result c.is_base_named-is_base_used.ensures c.args.scale c.args.lead c.requires.proper c.requires.words c.requires.scale c.requires.scale_few w.1)
    ])

pub all_shapes-requires-clause-size : goal.all_shapes-requires-clause-size
all_shapes-requires-clause-size c =
    let needs = c.args.needs.now in
    let f = c.args.forest.now in
    let rated = rated_from needs f.roots.items f.parents.items f.rates.items c.requires.proper c.requires.words c.requires.forest c.requires.balanced in
    ones_size needs f.roots.items f.parents.items f.rates.items rated c.list-list.result.now c.list-list.ensures c.in_ok-vector.vector.items c.in_ok-vector.ensures.ok c.deref.result.now c.deref-2.result.now c.deref.ensures.value c.deref-2.ensures.value c.is_base_named-is_base_used.result c.is_base_named-is_base_used.ensures c.args.scale c.args.lead c.requires.proper c.requires.words c.requires.scale c.requires.scale_few c.in_ok-period.period c.in_ok-period.ones.items c.deref-3.result.now c.deref-3.ensures.value c.in_ok-period.ensures.ok

pub all_shapes-requires-clause-ones : goal.all_shapes-requires-clause-ones
all_shapes-requires-clause-ones c =
    let needs = c.args.needs.now in
    let f = c.args.forest.now in
    let rated = rated_from needs f.roots.items f.parents.items f.rates.items c.requires.proper c.requires.words c.requires.forest c.requires.balanced in
    ones_few needs f.roots.items f.parents.items f.rates.items rated c.list-list.result.now c.list-list.ensures c.in_ok-vector.vector.items c.in_ok-vector.ensures.ok c.deref.result.now c.deref-2.result.now c.deref.ensures.value c.deref-2.ensures.value c.is_base_named-is_base_used.result c.is_base_named-is_base_used.ensures c.args.scale c.args.lead c.requires.proper c.requires.words c.requires.scale c.requires.scale_few c.in_ok-period.period c.in_ok-period.ones.items c.deref-3.result.now c.deref-3.ensures.value c.in_ok-period.ensures.ok

pub returns-in_err-clocks-clause-refused : goal.returns-in_err-clocks-clause-refused
returns-in_err-clocks-clause-refused c =
    let needs = c.args.needs.now in
    let f = c.args.forest.now in
    let rated = rated_from needs f.roots.items f.parents.items f.rates.items c.requires.proper c.requires.words c.requires.forest c.requires.balanced in
    let p = err_from_is_err_and c.from_residual-in_err-clocks.result c.from_residual-in_err-clocks.ensures.1 in
    rw (p.1, p.2) (elim c.in_err-clocks.ensures.refused [
      | inl e ↦ inl e
      | inr w ↦ inr (w.0, shapes_refused needs f.roots.items f.parents.items f.rates.items rated c.list-list.result.now c.list-list.ensures c.in_ok-vector.vector.items c.in_ok-vector.ensures.ok c.deref.result.now c.deref-2.result.now c.deref.ensures.value c.deref-2.ensures.value c.is_base_named-is_base_used.result c.is_base_named-is_base_used.ensures c.args.scale c.args.lead c.requires.proper c.requires.words c.requires.scale c.requires.scale_few c.in_ok-period.period c.in_ok-period.ones.items c.deref-3.result.now c.deref-3.ensures.value c.in_ok-period.ensures.ok w.1.0 w.1.1 w.1.2)
    ])

pub returns-clause-shape : goal.returns-clause-shape
returns-clause-shape c =
    let needs = c.args.needs.now in
    let f = c.args.forest.now in
    let rated = rated_from needs f.roots.items f.parents.items f.rates.items c.requires.proper c.requires.words c.requires.forest c.requires.balanced in
    shape_found needs f.roots.items f.parents.items f.rates.items rated c.list-list.result.now c.list-list.ensures c.in_ok-vector.vector.items c.in_ok-vector.ensures.ok c.deref.result.now c.deref-2.result.now c.deref.ensures.value c.deref-2.ensures.value c.is_base_named-is_base_used.result c.is_base_named-is_base_used.ensures c.args.scale c.args.lead c.requires.proper c.requires.words c.requires.scale c.requires.scale_few c.in_ok-period.period c.in_ok-period.ones.items c.deref-3.result.now c.deref-3.ensures.value c.in_ok-period.ensures.ok
    c.in_ok-clocks.clocks.items c.new.result c.in_ok-clocks.ensures.ok c.in_ok-clocks.ensures.few c.new.ensures
