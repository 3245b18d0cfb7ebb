use Rattle.std.proofs.Common.{◌≡◌, ℕ, List, length, inr, subst, sym, ap, arith}
use Rattle.std.specs.List.{All, AllByRecursion}
use Rattle.std.proofs.lemmas.List.Elements.{All-from_recursion}
use Rattle.lucy_need.specs.Meeting.{IsWithin}
use Rattle.lucy_need.specs.Stored.{HasWords}
use Rattle.lucy_need.specs.declared.need.Need.{Need}
use Rattle.lucy_rates.specs.Forests.{IsForest}
use Rattle.lucy_rates.specs.Vectors.{AreBalanced}
use Rattle.lucy_rates.specs.Walks.{IsUnequalWalk}
use Rattle.lucy_rates.specs.Trees.{IsFirstUnequal}
use Rattle.lucy_rates.specs.Growing.{IsGrown}
use Rattle.lucy_rates.proofs.rating.balanced.Goals as goal

-- the same for a list that is those needs, and a number that is that of the clocks
within_as : (list needs : List Need) (n clocks : ℕ) → list ≡ needs → n ≡ clocks → AllByRecursion (IsWithin clocks) needs → All (IsWithin n) list
within_as list needs n clocks e f h = All-from_recursion (IsWithin n) list (subst (AllByRecursion (IsWithin n)) (sym e) (subst (λ (x : ℕ). AllByRecursion (IsWithin x) needs) (sym f) h))

pub first_unbalanced-requires : goal.first_unbalanced-requires
first_unbalanced-requires c =
    let f = c.args.forest.now in
    let e = c.list-list.ensures in
    let n = c.requires.grown.is.rates_size in
    let size = ap (λ (x : List Need). length x) e in
    let few' = c.requires.proper.few in
    record {
      within = within_as c.list-list.result.now c.args.needs.now.list (length f.rates.items) c.args.needs.now.clocks e n c.requires.proper.within;
      few = omega arith;
      forest = subst (λ (x : List Need). IsForest x (length f.rates.items) f.roots.items f.parents.items f.rates.items) (sym e)
          (subst (λ (x : ℕ). IsForest c.args.needs.now.list x f.roots.items f.parents.items f.rates.items) (sym n) c.requires.grown.is);
    }

pub walk_of-requires : goal.walk_of-requires
walk_of-requires c =
    let f = c.args.forest.now in
    let e = c.list-list.ensures in
    let n = c.requires.grown.is.roots_size in
    let found = c.in-Some.ensures.found in
    record {
      within = within_as c.list-list.result.now c.args.needs.now.list (length f.roots.items) c.args.needs.now.clocks e n c.requires.proper.within;
      words = All-from_recursion HasWords c.list-list.result.now (subst (AllByRecursion HasWords) (sym e) c.requires.words);
      grown = subst (λ (x : List Need). IsGrown x (length f.roots.items) f) (sym e) (subst (λ (x : ℕ). IsGrown c.args.needs.now.list x f) (sym n) c.requires.grown);
      need = found.0;
      uneven = found.1;
      before = found.2;
    }

pub returns-in-None-clause-balanced : goal.returns-in-None-clause-balanced
returns-in-None-clause-balanced c = subst AreBalanced c.list-list.ensures c.in-None.ensures.none

pub returns-in_ok-walk_of-in-Some-clause-refused : goal.returns-in_ok-walk_of-in-Some-clause-refused
returns-in_ok-walk_of-in-Some-clause-refused c =
    let walk = c.in_ok-walk_of-in-Some.field-0.items in
    inr (
      subst (λ (list : List Need). IsFirstUnequal list walk) c.list-list.ensures c.in_ok-walk_of-in-Some.ensures.first,
      subst (λ (list : List Need). IsUnequalWalk list walk) c.list-list.ensures c.in_ok-walk_of-in-Some.ensures.unequal,
    )
