-- A renumbering that is kept as two lists of numbers.
use Rattle.std.specs.Prelude.{slice_index_or}
use Rattle.lucy_freeze.specs.declared.images.Images.{Images}
use Rattle.lucy_freeze.specs.declared.same.Both.{Both}
use Rattle.lucy_freeze.specs.Frozen.{Pair, Renumbering}

-- the numbers at the numbers, and 0 behind the end of a list
abbrev pub renumbering_of : Images → Renumbering
renumbering_of images = record { place = λ place. slice_index_or images.places.items place 0; call = λ call. slice_index_or images.calls.items call 0 }

-- what is lent of two nodes
abbrev pub pair_of : Both → Pair
pair_of both = record { node = both.node.now; clock = both.clock.now; frozen = both.frozen.now; frozen_clock = both.frozen_clock.now }
