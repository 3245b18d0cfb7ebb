use Rattle.std.proofs.Common.{List, length, subst, sym, ap, arith}
use Rattle.std.specs.List.{AllByRecursion}
use Rattle.std.proofs.lemmas.List.Elements.{All-from_recursion}
use Rattle.lucy_need.specs.Meeting.{IsWithin}
use Rattle.lucy_need.specs.Stored.{HasWords}
use Rattle.lucy_need.specs.declared.need.Need.{Need}
use Rattle.lucy_rates.specs.Growing.{AreFirstNeeds}
use Rattle.lucy_rates.proofs.rating.grown.Goals as goal

pub first_needs-requires : goal.first_needs-requires
first_needs-requires c =
    let e = c.list-list.ensures in
    let size = ap (λ (x : List Need). length x) e in
    let few' = c.requires.proper.few in
    record {
      within = All-from_recursion (IsWithin c.args.needs.now.clocks) c.list-list.result.now (subst (AllByRecursion (IsWithin c.args.needs.now.clocks)) (sym e) c.requires.proper.within);
      few = omega arith;
    }

pub grow_all-requires : goal.grow_all-requires
grow_all-requires c =
    let e = c.list-list.ensures in
    let size = ap (λ (x : List Need). length x) e in
    let few' = c.requires.proper.few in
    record {
      within = All-from_recursion (IsWithin c.args.needs.now.clocks) c.list-list.result.now (subst (AllByRecursion (IsWithin c.args.needs.now.clocks)) (sym e) c.requires.proper.within);
      few = omega arith;
      firsts = subst (AreFirstNeeds c.list-list.result.now c.args.needs.now.clocks) (sym c.deref.ensures.value) c.in_ok-firsts.ensures;
      words = All-from_recursion HasWords c.list-list.result.now (subst (AllByRecursion HasWords) (sym e) c.requires.words);
    }
