use Rattle.std.proofs.Common.{◌≡◌, ◌≤◌, List, length}
use Rattle.std.specs.List.{AllByRecursion}
use Rattle.lucy_word.specs.Items.{WordItem, IsItem, items_text}
use Rattle.lucy_word.proofs.CuttingLaws.{Summing}
use Rattle.lucy_word.proofs.spelling.add_up.Given as goal

abbrev pub invariant-items : goal.invariant-items
invariant-items l = record {
  few : l.sums.ones ≤ l.sums.bits;
  short : l.sums.bits ≤ l.most;
  so : (is : List WordItem) → AllByRecursion IsItem is → l.items ≡ items_text is → Summing l.items l.rest l.sums.bits l.sums.ones is;
}

abbrev pub decreases-items : goal.decreases-items
decreases-items l = length l.rest
