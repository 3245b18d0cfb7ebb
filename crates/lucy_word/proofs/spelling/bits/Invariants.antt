use Rattle.std.proofs.Common.{◌≡◌, ◌<◌, List, length}
use Rattle.std.specs.List.{AllByRecursion}
use Rattle.lucy_word.specs.Items.{WordItem, IsItem, items_text, items_bits}
use Rattle.lucy_word.specs.Cutting.{most_count}
use Rattle.lucy_word.proofs.CuttingLaws.{Reading}
use Rattle.lucy_word.proofs.spelling.bits.Given as goal

abbrev pub invariant-items : goal.invariant-items
invariant-items l = (is : List WordItem) → AllByRecursion IsItem is → l.items ≡ items_text is → length (items_bits is) < most_count → Reading l.items l.rest l.bits is

abbrev pub decreases-items : goal.decreases-items
decreases-items l = length l.rest
