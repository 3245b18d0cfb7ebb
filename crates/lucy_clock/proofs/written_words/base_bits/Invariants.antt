use Rattle.std.proofs.Common.{◌≡◌, ◌*◌, ◌≤◌, take}
use Rattle.std.specs.List.{AllByRecursion}
use Rattle.lucy_word.specs.Bits.{most_bits}
use Rattle.lucy_word.specs.Stored.{IsStored}
use Rattle.lucy_need.specs.Meeting.{word_bits}
use Rattle.lucy_clock.specs.Reading.{base_words}
use Rattle.lucy_clock.proofs.written_words.base_bits.Given as goal

abbrev pub invariant-each : goal.invariant-each
invariant-each l =
    (l.bits ≡ word_bits (base_words (take l.site-index l.sites))) × (l.bits ≤ most_bits * l.site-index) × AllByRecursion IsStored (base_words (take l.site-index l.sites))
