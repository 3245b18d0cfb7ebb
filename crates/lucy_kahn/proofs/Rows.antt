-- The definitions, run on small programs.
use Rattle.std.proofs.Common.{ℕ, ◌≡◌, true, false, List, [], ◌∷◌, None, refl, map}
use Rattle.std.specs.Prelude.{codes, pos}
use Rattle.std.specs.Int.{int_wrap}
use Rattle.lucy_word.specs.Bits.{Bits, bit_at, ones_to}
use Rattle.lucy_host.specs.OpValue.{op_value}
use Rattle.lucy_host.specs.declared.op.Op.TheVariants as op
use Rattle.lucy_tree.specs.declared.expr.Lit.TheVariants as lit
use Rattle.lucy_place.specs.declared.entry.PlaceEntry.{PlaceEntry}
use Rattle.lucy_place.specs.declared.entry.PlaceKind.{PlaceKind}
use Rattle.lucy_place.specs.declared.entry.PlaceKind.TheVariants as kind
use Rattle.lucy_place.specs.declared.entry.CallSite.{CallSite}
use Rattle.lucy_place.specs.declared.placed.PlacedNode.{PlacedNode}
use Rattle.lucy_kahn.specs.Spots.{at, reads_at, results_of}
use Rattle.lucy_kahn.specs.Sizes.{all_places}
use Rattle.lucy_kahn.specs.Kahn.{kahn, stream_to}
use Rattle.lucy_kahn.specs.Numbers.{number, spots}

abbrev entry : PlaceKind → PlaceEntry
entry k = record { name = None; holds = None; word = None; kind = k }

-- a node with one parameter, and with its result at the second place
abbrev node : List PlaceEntry → List CallSite → PlacedNode
node places calls = record { name = record { text = codes "n"; span = record { from = 0; to = 1 } }; params = 1; places = places; results = 2 ∷ []; buffers = []; bounds = []; calls = calls }

abbrev calls : ℕ → ℕ → ℕ → CallSite
calls callee first argument = record { node = callee; at = None; first = first; args = argument ∷ [] }

abbrev half : Bits
half = record { prefix = []; period = true ∷ false ∷ [] }

-- let node sum x = o where rec o = x + (0 fby o)
sum : PlacedNode
sum = node (entry kind.Param ∷ entry (kind.Defined 3) ∷ entry (kind.Op op.Add (1 ∷ 4 ∷ [])) ∷ entry (kind.Fby (lit.Int (pos 0)) 2) ∷ []) []

-- twelve instants, four instance places: all three sums are there
sums : kahn [] ((pos 1 ∷ pos 2 ∷ pos 3 ∷ []) ∷ []) (sum ∷ []) 12 (at [] 2) ≡ pos 1 ∷ pos 3 ∷ pos 6 ∷ []
unfolding sum op_value int_wrap
sums = refl

-- let node twice x = o where rec o = merge (10) x (buffer x)
twice : PlacedNode
twice = node (entry kind.Param ∷ entry (kind.Defined 3) ∷ entry (kind.Merge half 1 4) ∷ entry (kind.Buffer 1 1) ∷ []) []

twices : kahn [] ((pos 5 ∷ pos 6 ∷ []) ∷ []) (twice ∷ []) 4 (at [] 2) ≡ pos 5 ∷ pos 5 ∷ pos 6 ∷ pos 6 ∷ []
unfolding twice bit_at ones_to
twices = refl

-- and the stream on (1) up to instant 3
twice_stream : stream_to [] ((pos 5 ∷ pos 6 ∷ []) ∷ []) (twice ∷ []) 3 (record { prefix = []; period = true ∷ [] }) (at [] 2) ≡ pos 5 ∷ pos 5 ∷ pos 6 ∷ []
unfolding twice bit_at ones_to
twice_stream = refl

-- let node outer z = y where rec y = sum (z)
outer : PlacedNode
outer = node (entry kind.Param ∷ entry (kind.Defined 3) ∷ entry (kind.Result 1 0) ∷ []) (calls 0 3 1 ∷ [])

outer_sums : kahn [] ((pos 1 ∷ pos 2 ∷ []) ∷ []) (sum ∷ outer ∷ []) 9 (at [] 2) ≡ pos 1 ∷ pos 3 ∷ []
unfolding sum outer op_value int_wrap
outer_sums = refl

outer_results : results_of (sum ∷ outer ∷ []) ≡ at [] 2 ∷ []
unfolding sum outer
outer_results = refl

-- a parameter of a call reads in the caller, a result in the instance that is called
outer_param : reads_at (sum ∷ outer ∷ []) (at (1 ∷ []) 1) ≡ at [] 1 ∷ []
unfolding sum outer
outer_param = refl

outer_result : reads_at (sum ∷ outer ∷ []) (at [] 3) ≡ at (1 ∷ []) 2 ∷ []
unfolding sum outer
outer_result = refl

-- a node of two places, one of three that calls it, and main with four, which calls that one and then the first
leaf : PlacedNode
leaf = node (entry kind.Param ∷ entry (kind.Defined 1) ∷ []) []

middle : PlacedNode
middle = node (entry kind.Param ∷ entry (kind.Defined 3) ∷ entry (kind.Result 1 0) ∷ []) (calls 0 3 1 ∷ [])

main : PlacedNode
main = node (entry kind.Param ∷ entry (kind.Defined 3) ∷ entry (kind.Result 1 0) ∷ entry (kind.Result 2 0) ∷ []) (calls 1 3 1 ∷ calls 0 4 3 ∷ [])

-- those of main are 0 to 3, those of its first call 4 to 6, of the call inside that 7 and 8, and of its second call 9 and 10
all : all_places (leaf ∷ middle ∷ main ∷ []) ≡ 11
unfolding leaf middle main
all = refl

numbers : map (number (leaf ∷ middle ∷ main ∷ [])) (at [] 1 ∷ at [] 4 ∷ at (1 ∷ []) 1 ∷ at (1 ∷ []) 3 ∷ at (1 ∷ 1 ∷ []) 1 ∷ at (1 ∷ 1 ∷ []) 2 ∷ at (2 ∷ []) 1 ∷ at (2 ∷ []) 2 ∷ []) ≡ 0 ∷ 3 ∷ 4 ∷ 6 ∷ 7 ∷ 8 ∷ 9 ∷ 10 ∷ []
unfolding leaf middle main
numbers = refl

in_order : spots (leaf ∷ middle ∷ main ∷ []) ≡ at [] 1 ∷ at [] 2 ∷ at [] 3 ∷ at [] 4 ∷ at (1 ∷ []) 1 ∷ at (1 ∷ []) 2 ∷ at (1 ∷ []) 3 ∷ at (1 ∷ 1 ∷ []) 1 ∷ at (1 ∷ 1 ∷ []) 2 ∷ at (2 ∷ []) 1 ∷ at (2 ∷ []) 2 ∷ []
unfolding leaf middle main
in_order = refl
