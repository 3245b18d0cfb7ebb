-- After how many instants the streams of a chronogram come again together.
use Rattle.std.specs.Prelude.{ℕ, ◌+◌, ◌*◌, ◌-◌, ◌^◌, ◌<◌, List, [], ◌∷◌, ◌++◌, min}
use Rattle.std.specs.Option.{unwrap_or}
use Rattle.lucy_word.specs.Bits.{Bits}
use Rattle.lucy_word.specs.Limits.{limit_number}
use Rattle.lucy_word.specs.declared.limit.Limit.TheVariants as limit
use Rattle.lucy_place.specs.declared.placed.PlacedNode.{PlacedNode}
use Rattle.lucy_net.specs.Lengths.{AreLengths}
use Rattle.lucy_program.specs.Report.{first_operand}
use Rattle.lucy_picture.specs.declared.turn.Turn.{Turn}
use Rattle.lucy_picture.specs.Charts.{named_places}

-- the clocks that buffers are written and read on, by the places of these
abbrev pub buffer_clocks : PlacedNode → List ℕ → List ℕ
buffer_clocks n [] = []
buffer_clocks n (p ∷ ps) = unwrap_or (first_operand n p) 0 ∷ p ∷ buffer_clocks n ps

-- the clocks that a chronogram shows: those of streams, then those of buffers
abbrev pub shown_clocks : PlacedNode → List ℕ
shown_clocks n = named_places n ++ buffer_clocks n n.buffers

-- the greatest prefix and the common period of words have together more instants than a schedule may have
abbrev pub AreTooLong : List Bits → Type 0
AreTooLong words = (prefix period : ℕ) → AreLengths words prefix period → limit_number limit.Schedule < prefix + period

-- how many instants there are up to the end of the second period, or the greatest number of 64 bits where they are more
abbrev pub whole : Turn → ℕ
whole turn = min (turn.prefix + 2 * turn.period) (2 ^ 64 - 1)
