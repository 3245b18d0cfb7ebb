use Rattle.std.proofs.Common.{ℕ, ◌+◌, ◌<◌, ◌≡◌, [], List, length, get_or, ap, sym, refl, ◌∙◌, arith}
use Rattle.std.specs.Prelude.{slice_index_or}
use Rattle.std.proofs.lemmas.List.{length-set}
use Rattle.lucy_core.specs.Cursors.{row_at}
use Rattle.lucy_core.proofs.CursorLaws.{passed_in, same_in, stops_in}
use Rattle.lucy_core.proofs.cursor.Cursor.pass_row.Goals as goal

pub returns-then-not-pass-clause-within : goal.returns-then-not-pass-clause-within
returns-then-not-pass-clause-within c = λ instants is.
    same_in c.args.schedule.now instants c.args.done.now c.each.self _ refl refl refl (c.pass.ensures.no c.if-not-pass.true).0 (c.each.invariant.within instants is)

pub returns-then-not-pass-clause-some : goal.returns-then-not-pass-clause-some
returns-then-not-pass-clause-some c = λ instants is.
    let s = c.args.schedule.now in
    let xs : List ℕ = c.events_of-events.result.now in
    let row : row_at s c.each.self ≡ xs = ap (λ r. slice_index_or s.orders r []) c.each.invariant.row ∙ sym c.events_of-events.ensures in
    let l : c.each.self.index < length (row_at s c.each.self) = omega (arith, ap length row, c.each.invariant.here, c.each-test.true) in
    let actor : get_or (row_at s c.each.self) c.each.self.index 0 ≡ get_or xs c.each.index 0 = ap (λ ys. get_or ys c.each.self.index 0) row ∙ ap (λ i. get_or xs i 0) c.each.invariant.here in
    stops_in s instants c.args.done.now c.each.self (get_or xs c.each.index 0) l actor (c.pass.ensures.no c.if-not-pass.true).1 (c.each.invariant.within instants is)

pub each-preserved : goal.each-preserved
each-preserved c =
    let s = c.args.schedule.now in
    let xs : List ℕ = c.events_of-events.result.now in
    let row : row_at s c.each.self ≡ xs = ap (λ r. slice_index_or s.orders r []) c.each.invariant.row ∙ sym c.events_of-events.ensures in
    let l : c.each.self.index < length (row_at s c.each.self) = omega (arith, ap length row, c.each.invariant.here, c.each-test.true) in
    let actor : get_or (row_at s c.each.self) c.each.self.index 0 ≡ get_or xs c.each.index 0 = ap (λ ys. get_or ys c.each.self.index 0) row ∙ ap (λ i. get_or xs i 0) c.each.invariant.here in
    let passes = c.pass.ensures.yes c.if-not-pass.false in
    let next : c.each.index + 1 ≡ c.each.self.index + 1 = omega (arith, c.each.invariant.here) in
    record {
      here = refl;
      row = c.each.invariant.row;
      instant = c.each.invariant.instant;
      count = ap length passes.is ∙ length-set c.each.self.passed.items (get_or xs c.each.index 0) _ ∙ c.each.invariant.count;
      within = λ instants is. passed_in s instants c.args.done.now c.each.self _ (get_or xs c.each.index 0) l actor passes refl refl next (c.each.invariant.within instants is);
    }

pub returns-clause-within : goal.returns-clause-within
returns-clause-within c = λ instants is. same_in c.args.schedule.now instants c.args.done.now c.each.self _ refl refl refl refl (c.each.invariant.within instants is)
