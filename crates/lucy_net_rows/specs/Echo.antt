-- A net that is made by hand: an input whose items are put out.
use Rattle.std.specs.Prelude.{ℕ, ◌≤◌, ◌≡◌, List, [], ◌∷◌, length}
use Rattle.lucy_word.specs.Bits.{Bits}
use Rattle.lucy_host.specs.Operators.{Operator}
use Rattle.lucy_stream.specs.Items.{list_at}
use Rattle.lucy_net.specs.declared.kind.ActorKind.TheVariants.{Input, Output}
use Rattle.lucy_net.specs.declared.net.Actor.{Actor}
use Rattle.lucy_net.specs.declared.net.RingSpec.{RingSpec}
use Rattle.lucy_net.specs.declared.net.Net.{Net}
use Rattle.lucy_core.specs.Seen.{Seen, IsUnbegun}
use Rattle.lucy_net_rows.specs.Ready.{HasOneList}

abbrev pub giver : Bits → Actor
giver word = record { kind = Input 0; firing = word; takes = []; gives = 0 ∷ [] }

abbrev pub taker : Bits → Actor
taker word = record { kind = Output 0; firing = word; takes = 0 ∷ []; gives = [] }

abbrev pub ring : Bits → RingSpec
ring word = record { from = 0; to = 1; write = word; read = word; size = 0 }

-- both actors fire on the one word
abbrev pub echo : Bits → Net
echo word = record { actors = giver word ∷ taker word ∷ []; rings = ring word ∷ [] }

-- a core of this net without an event, for a host with these operators, and for as many instants as its input has items
pub record IsEchoReady (word : Bits) (operators : List Operator) (items : ℕ) (core : Seen) : Type 0 where
  pub net : core.net ≡ echo word
  pub inputs : HasOneList items core.inputs
  pub operators_are : core.operators ≡ operators
  pub instants : core.instants ≡ items
  pub unbegun : IsUnbegun core

-- this net on some word, for a host with these operators, with an item for each instant
pub record IsEcho (operators : List Operator) (seen : Seen) : Type 0 where
  pub word : Bits
  pub net : seen.net ≡ echo word
  pub operators_are : seen.operators ≡ operators
  pub items : seen.instants ≤ length (list_at seen.inputs 0)
