use Rattle.std.proofs.Common.{◌≡◌, ◌≤◌, ◌++◌, ◌∷◌, ℕ, List, length}
use Rattle.std.specs.Str.Parse.{IsNumeral}
use Rattle.lucy_word.specs.Cutting.{most_count}
use Rattle.lucy_word.proofs.CuttingLaws.{Counting}
use Rattle.lucy_word.proofs.spelling.counted.Given as goal

abbrev pub invariant-digits : goal.invariant-digits
invariant-digits l = record {
  most : l.value ≤ most_count;
  shorter : length l.rest ≤ length l.text;
  so : (ds more : List ℕ) → IsNumeral 10 ds → l.text ≡ ds ++ 125 ∷ more → Counting l.text l.rest l.value ds more;
}

abbrev pub decreases-digits : goal.decreases-digits
decreases-digits l = length l.rest
