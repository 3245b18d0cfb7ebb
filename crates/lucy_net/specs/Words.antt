-- The words of a net.
use Rattle.std.specs.Prelude.{List, [], ◌∷◌, ◌++◌, map}
use Rattle.lucy_word.specs.Bits.{Bits}
use Rattle.lucy_net.specs.declared.net.RingSpec.{RingSpec}
use Rattle.lucy_net.specs.declared.net.Net.{Net}

-- the write and read words of rings
abbrev pub ring_words : List RingSpec → List Bits
ring_words [] = []
ring_words (ring ∷ rings) = ring.write ∷ ring.read ∷ ring_words rings

-- the firing, write and read words of a net
abbrev pub net_words : Net → List Bits
net_words net = map (λ actor. actor.firing) net.actors ++ ring_words net.rings
