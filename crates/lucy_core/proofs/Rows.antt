-- Picks on small nets.
use Rattle.std.proofs.Common.{ℕ, ◌≡◌, true, false, List, [], ◌∷◌, refl}
use Rattle.std.specs.Prelude.{pos}
use Rattle.lucy_word.specs.Bits.{Bits, bit_at, ones_to}
use Rattle.lucy_stream.specs.Systems.{given, taken}
use Rattle.lucy_stream.specs.Runs.{none_done, after}
use Rattle.lucy_stream.specs.Deciding.{is_possible}
use Rattle.lucy_stream.specs.Deciding.{run_length}
use Rattle.lucy_net.specs.declared.kind.ActorKind.TheVariants.{Input, Lit, Op, Fby, Pass, Output}
use Rattle.lucy_host.specs.declared.op.Op.TheVariants.{Add}
use Rattle.lucy_net.specs.declared.net.RingSpec.{RingSpec}
use Rattle.lucy_net.specs.declared.net.Actor.{Actor}
use Rattle.lucy_net.specs.declared.net.Net.{Net}
use Rattle.lucy_net.specs.Plans.{net_system}
use Rattle.lucy_core.specs.Seen.{Seen, machine_on, order_on, done_of, state_on, after_picks, first_seen}

abbrev always : Bits
always = record { prefix = []; period = true ∷ [] }

-- the literal 7: o 0, the literal 1, the output 2
abbrev o : Actor
o = record { kind = Pass; firing = always; takes = 0 ∷ []; gives = 1 ∷ [] }

abbrev literal : Actor
literal = record { kind = Lit (pos 7); firing = always; takes = []; gives = 0 ∷ [] }

abbrev output : Actor
output = record { kind = Output 0; firing = always; takes = 1 ∷ []; gives = [] }

abbrev seven : Net
seven = record {
  actors = o ∷ literal ∷ output ∷ [];
  rings = record { from = 1; to = 0; write = always; read = always; size = 0 } ∷ record { from = 0; to = 2; write = always; read = always; size = 0 } ∷ [];
}

all_eight : run_length (net_system seven 2) none_done (1 ∷ 0 ∷ 0 ∷ 2 ∷ 1 ∷ 0 ∷ 0 ∷ 2 ∷ []) ≡ 8
unfolding net_system given taken bit_at ones_to
all_eight = refl

five : run_length (net_system seven 2) none_done (1 ∷ 0 ∷ 1 ∷ 0 ∷ 0 ∷ []) ≡ 5
unfolding net_system given taken bit_at ones_to
five = refl

then_two : is_possible (net_system seven 2) (after none_done (1 ∷ 0 ∷ 1 ∷ 0 ∷ 0 ∷ [])) 2 ≡ true
unfolding net_system given taken bit_at ones_to
then_two = refl

only_one : run_length (net_system seven 2) none_done (1 ∷ 1 ∷ []) ≡ 1
unfolding net_system given taken bit_at ones_to
only_one = refl

then_not_one : is_possible (net_system seven 2) (after none_done (1 ∷ [])) 1 ≡ false
unfolding net_system given taken bit_at ones_to
then_not_one = refl

then_zero : is_possible (net_system seven 2) (after none_done (1 ∷ [])) 0 ≡ true
unfolding net_system given taken bit_at ones_to
then_zero = refl

never_nine : is_possible (net_system seven 2) (after none_done (1 ∷ [])) 9 ≡ false
unfolding net_system given taken bit_at ones_to
never_nine = refl

none_at_all : run_length (net_system seven 2) none_done (0 ∷ []) ≡ 0
unfolding net_system given taken bit_at ones_to
none_at_all = refl

no_actor : run_length (net_system seven 2) none_done (1 ∷ 9 ∷ []) ≡ 1
unfolding net_system given taken bit_at ones_to
no_actor = refl

-- what the output has then, in a core that is seen after these picks
abbrev seen : Seen
seen = after_picks (first_seen seven (record { prefix = 0; period = 1; orders = (1 ∷ 0 ∷ 0 ∷ 2 ∷ []) ∷ [] }) [] [] 2) (1 ∷ 0 ∷ 0 ∷ 2 ∷ 1 ∷ 0 ∷ 0 ∷ 2 ∷ [])

two_sevens : (state_on (machine_on seven [] [] 2) (order_on seen.schedule 2) seen.done).took 1 ≡ pos 7 ∷ pos 7 ∷ []
unfolding machine_on order_on state_on done_of given taken bit_at ones_to
two_sevens = refl

-- the running sum of an input: x 0, the delayed sum f 1, o 2, the delay 3, the addition 4, the output 5
abbrev pass_on : List ℕ → List ℕ → Actor
pass_on takes gives = record { kind = Pass; firing = always; takes = takes; gives = gives }

abbrev between_two : ℕ → ℕ → RingSpec
between_two from to = record { from = from; to = to; write = always; read = always; size = 0 }

abbrev summing : Net
summing = record {
  actors = record { kind = Input 0; firing = always; takes = []; gives = 3 ∷ [] }
      ∷ pass_on (0 ∷ []) (4 ∷ [])
      ∷ pass_on (1 ∷ []) (2 ∷ 5 ∷ [])
      ∷ record { kind = Fby (pos 0); firing = always; takes = 2 ∷ []; gives = 0 ∷ [] }
      ∷ record { kind = Op Add; firing = always; takes = 3 ∷ 4 ∷ []; gives = 1 ∷ [] }
      ∷ record { kind = Output 0; firing = always; takes = 5 ∷ []; gives = [] }
      ∷ [];
  rings = between_two 3 1 ∷ between_two 4 2 ∷ between_two 2 3 ∷ between_two 0 4 ∷ between_two 1 4 ∷ between_two 2 5 ∷ [];
}

summed : run_length (net_system summing 1) none_done (0 ∷ 3 ∷ 1 ∷ 1 ∷ 4 ∷ 4 ∷ 4 ∷ 2 ∷ 2 ∷ 2 ∷ 3 ∷ 5 ∷ []) ≡ 12
unfolding net_system given taken bit_at ones_to
summed = refl

-- the delay can't take first
delayed : run_length (net_system summing 1) none_done (0 ∷ 1 ∷ []) ≡ 1
unfolding net_system given taken bit_at ones_to
delayed = refl
