-- The iterates of four small programs.
use Rattle.std.proofs.Common.{ℕ, List, [], ◌∷◌, ◌≡◌, true, false, refl}
use Rattle.std.specs.Prelude.{ℤ, pos}
use Rattle.std.specs.Int.{int_wrap}
use Rattle.lucy_word.specs.Bits.{bit_at, ones_to}
use Rattle.lucy_host.specs.OpValue.{op_value}
use Rattle.lucy_host.specs.HostValue.{host_value}
use Rattle.lucy_host.specs.declared.op.Op.TheVariants.{Add, Not, If}
use Rattle.lucy_host.specs.declared.kind.HostKind.TheVariants.{Min, Max}
use Rattle.lucy_stream.specs.Forms.{Given, Constant, Pointwise, Hosted, Kept, Merged, Delayed, Same}
use Rattle.lucy_stream.specs.Iterates.{Place, iterate}

-- let node sum x = o where rec f = 0 fby o and o = x + f: the places x, f, o, 0 fby o, x + f
sum_places : List Place
sum_places =
    record { form = Given 0; reads = [] } ∷ record { form = Same; reads = 3 ∷ [] } ∷ record { form = Same; reads = 4 ∷ [] }
    ∷ record { form = Delayed (pos 0); reads = 2 ∷ [] } ∷ record { form = Pointwise Add; reads = 0 ∷ 1 ∷ [] } ∷ []

-- x 1, x 2, x 3
sum_inputs : List (List ℤ)
sum_inputs = (pos 1 ∷ pos 2 ∷ pos 3 ∷ []) ∷ []

sum_lists : ℕ → List (List ℤ)
sum_lists n = iterate [] sum_inputs sum_places n

sum_at_none : sum_lists 0 ≡ [] ∷ [] ∷ [] ∷ [] ∷ [] ∷ []
unfolding sum_lists sum_places
sum_at_none = refl

sum_at_1 : sum_lists 1 ≡ (pos 1 ∷ pos 2 ∷ pos 3 ∷ []) ∷ [] ∷ [] ∷ (pos 0 ∷ []) ∷ [] ∷ []
unfolding sum_lists sum_places sum_inputs op_value int_wrap
sum_at_1 = refl

-- three instants of five places
sum_at_15 : sum_lists 15 ≡ (pos 1 ∷ pos 2 ∷ pos 3 ∷ []) ∷ (pos 0 ∷ pos 1 ∷ pos 3 ∷ pos 6 ∷ []) ∷ (pos 1 ∷ pos 3 ∷ pos 6 ∷ []) ∷ (pos 0 ∷ pos 1 ∷ pos 3 ∷ pos 6 ∷ []) ∷ (pos 1 ∷ pos 3 ∷ pos 6 ∷ []) ∷ []
unfolding sum_lists sum_places sum_inputs op_value int_wrap
sum_at_15 = refl

-- let node twice x = o where rec o = merge (10) x (buffer x): the places x, o, the merge, the buffer
twice_places : List Place
twice_places =
    record { form = Given 0; reads = [] } ∷ record { form = Same; reads = 2 ∷ [] }
    ∷ record { form = Merged (record { prefix = []; period = true ∷ false ∷ [] }); reads = 0 ∷ 3 ∷ [] } ∷ record { form = Same; reads = 0 ∷ [] } ∷ []

-- x 5, x 6, x 7
twice_inputs : List (List ℤ)
twice_inputs = (pos 5 ∷ pos 6 ∷ pos 7 ∷ []) ∷ []

twice_lists : ℕ → List (List ℤ)
twice_lists n = iterate [] twice_inputs twice_places n

-- after two turns the buffer has its items, and the merge had only those of x itself
twice_at_2 : twice_lists 2 ≡ (pos 5 ∷ pos 6 ∷ pos 7 ∷ []) ∷ [] ∷ (pos 5 ∷ []) ∷ (pos 5 ∷ pos 6 ∷ pos 7 ∷ []) ∷ []
unfolding twice_lists twice_places twice_inputs bit_at ones_to
twice_at_2 = refl

-- six instants of four places
twice_at_24 : twice_lists 24 ≡ (pos 5 ∷ pos 6 ∷ pos 7 ∷ []) ∷ (pos 5 ∷ pos 5 ∷ pos 6 ∷ pos 6 ∷ pos 7 ∷ pos 7 ∷ [])
    ∷ (pos 5 ∷ pos 5 ∷ pos 6 ∷ pos 6 ∷ pos 7 ∷ pos 7 ∷ []) ∷ (pos 5 ∷ pos 6 ∷ pos 7 ∷ []) ∷ []
unfolding twice_lists twice_places twice_inputs bit_at ones_to
twice_at_24 = refl

-- let node top x = m where rec m = host max (x, 0 fby m), and m when (01): the places x, m, the host's, the fby, the sampling
top_places : List Place
top_places =
    record { form = Given 0; reads = [] } ∷ record { form = Same; reads = 2 ∷ [] } ∷ record { form = Hosted 1; reads = 0 ∷ 3 ∷ [] }
    ∷ record { form = Delayed (pos 0); reads = 1 ∷ [] } ∷ record { form = Kept (record { prefix = []; period = false ∷ true ∷ [] }); reads = 1 ∷ [] } ∷ []

-- x 3, x 1, x 5, and the greatest of them so far, whose second item alone is kept
top_at_15 : iterate (Min ∷ Max ∷ []) ((pos 3 ∷ pos 1 ∷ pos 5 ∷ []) ∷ []) top_places 15 ≡
    (pos 3 ∷ pos 1 ∷ pos 5 ∷ []) ∷ (pos 3 ∷ pos 3 ∷ pos 5 ∷ []) ∷ (pos 3 ∷ pos 3 ∷ pos 5 ∷ []) ∷ (pos 0 ∷ pos 3 ∷ pos 3 ∷ pos 5 ∷ []) ∷ (pos 3 ∷ []) ∷ []
unfolding top_places bit_at host_value
top_at_15 = refl

-- if not c then a else 7: the places c, a, not c, the 7, the if
choice_places : List Place
choice_places =
    record { form = Given 0; reads = [] } ∷ record { form = Given 1; reads = [] } ∷ record { form = Pointwise Not; reads = 0 ∷ [] }
    ∷ record { form = Constant (pos 7); reads = [] } ∷ record { form = Pointwise If; reads = 2 ∷ 1 ∷ 3 ∷ [] } ∷ []

-- c false, true, false and a 1, a 2, a 3
choice_lists : ℕ → List (List ℤ)
choice_lists n = iterate [] ((pos 0 ∷ pos 1 ∷ pos 0 ∷ []) ∷ (pos 1 ∷ pos 2 ∷ pos 3 ∷ []) ∷ []) choice_places n

-- the literal had two copies in the iterate before, so the choice has two items
choice_at_3 : choice_lists 3 ≡
    (pos 0 ∷ pos 1 ∷ pos 0 ∷ []) ∷ (pos 1 ∷ pos 2 ∷ pos 3 ∷ []) ∷ (pos 1 ∷ pos 0 ∷ pos 1 ∷ []) ∷ (pos 7 ∷ pos 7 ∷ pos 7 ∷ []) ∷ (pos 1 ∷ pos 7 ∷ []) ∷ []
unfolding choice_lists choice_places op_value
choice_at_3 = refl
