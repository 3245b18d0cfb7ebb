-- The tables at small numbers and at the edges.
use Rattle.std.proofs.Common.{ℤ, pos, neg_ℤ, List, [], ◌∷◌, ◌≡◌, map, refl}
use Rattle.std.specs.Int.{int_wrap}
use Rattle.lucy_host.specs.Numbers.{least_number, minus_one}
use Rattle.lucy_host.specs.OpValue.{op_value}
use Rattle.lucy_host.specs.HostValue.{host_value}
use Rattle.lucy_host.specs.declared.op.Op.TheVariants.{Add, Div, Rem}
use Rattle.lucy_host.specs.declared.kind.HostKind.TheVariants.{Min, Max, AbsDiff, SatAdd, SatSub, Shift, Table}

greatest : ℤ
greatest = pos 9223372036854775807

-- the sum, the quotient and the remainder
ends : ℤ → ℤ → List ℤ
ends a b = map (λ op. op_value op a b (pos 0)) (Add ∷ Div ∷ Rem ∷ [])

ends_at_the_greatest : ends greatest (pos 1) ≡ least_number ∷ greatest ∷ pos 0 ∷ []
unfolding ends greatest op_value int_wrap
ends_at_the_greatest = refl

ends_by_zero : ends (pos 5) (pos 0) ≡ pos 5 ∷ pos 0 ∷ pos 5 ∷ []
unfolding ends op_value int_wrap
ends_by_zero = refl

ends_at_the_least : ends least_number minus_one ≡ greatest ∷ least_number ∷ pos 0 ∷ []
unfolding ends greatest op_value int_wrap
ends_at_the_least = refl

ends_below_zero : ends (neg_ℤ (pos 7)) (pos 2) ≡ neg_ℤ (pos 5) ∷ neg_ℤ (pos 3) ∷ minus_one ∷ []
unfolding ends op_value int_wrap
ends_below_zero = refl

-- the kinds but `Shift`, in order
hosted : ℤ → ℤ → List ℤ
hosted a b = map (λ kind. host_value kind a b) (Min ∷ Max ∷ AbsDiff ∷ SatAdd ∷ SatSub ∷ [])

hosted_at_small : hosted (neg_ℤ (pos 3)) (pos 4) ≡ neg_ℤ (pos 3) ∷ pos 4 ∷ pos 7 ∷ pos 1 ∷ neg_ℤ (pos 7) ∷ []
unfolding hosted host_value
hosted_at_small = refl

hosted_at_the_ends : hosted least_number greatest ≡ least_number ∷ greatest ∷ greatest ∷ minus_one ∷ least_number ∷ []
unfolding hosted greatest host_value
hosted_at_the_ends = refl

hosted_past_the_greatest : hosted greatest (pos 1) ≡ pos 1 ∷ greatest ∷ pos 9223372036854775806 ∷ greatest ∷ pos 9223372036854775806 ∷ []
unfolding hosted greatest host_value
hosted_past_the_greatest = refl

-- what shifts make of a
shifts : ℤ → List ℤ → List ℤ
shifts a by = map (host_value Shift a) by

shifts_of_3 : shifts (pos 3) (pos 1 ∷ pos 63 ∷ pos 64 ∷ greatest ∷ []) ≡ pos 6 ∷ least_number ∷ pos 0 ∷ pos 0 ∷ []
unfolding shifts greatest host_value int_wrap
shifts_of_3 = refl

shifts_below_zero : shifts (neg_ℤ (pos 7)) (pos 1 ∷ minus_one ∷ neg_ℤ (pos 63) ∷ neg_ℤ (pos 64) ∷ least_number ∷ []) ≡ neg_ℤ (pos 14) ∷ neg_ℤ (pos 4) ∷ minus_one ∷ minus_one ∷ minus_one ∷ []
unfolding shifts host_value int_wrap
shifts_below_zero = refl

shifts_of_7 : shifts (pos 7) (pos 0 ∷ minus_one ∷ neg_ℤ (pos 63) ∷ neg_ℤ (pos 64) ∷ []) ≡ pos 7 ∷ pos 3 ∷ pos 0 ∷ pos 0 ∷ []
unfolding shifts host_value int_wrap
shifts_of_7 = refl

-- what a table answers at places, and -1 where it has none
looked : (table places : List ℤ) → List ℤ
looked table places = map (λ a. host_value (Table table) a minus_one) places

looked_up_in_three : looked (pos 10 ∷ pos 20 ∷ pos 30 ∷ []) (pos 0 ∷ pos 2 ∷ pos 3 ∷ minus_one ∷ greatest ∷ least_number ∷ []) ≡ pos 10 ∷ pos 30 ∷ minus_one ∷ minus_one ∷ minus_one ∷ minus_one ∷ []
unfolding looked greatest host_value
looked_up_in_three = refl

looked_up_in_none : looked [] (pos 0 ∷ pos 5 ∷ []) ≡ minus_one ∷ minus_one ∷ []
unfolding looked host_value
looked_up_in_none = refl
