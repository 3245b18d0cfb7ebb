-- The table of the operators that a host lends, on integers.
use Rattle.std.specs.Prelude.{ℕ, ℤ, List, pos, neg_ℤ, ◌+ℤ◌, ◌-ℤ◌, ◌*ℤ◌, ◌^◌, int_lt, int_le, unsigned_abs, slice_index_or, if◌then◌else◌}
use Rattle.std.specs.Int.{int_min, int_max, int_div_euclid}
use Rattle.lucy_host.specs.Numbers.{minus_one, wrapped, cut}
use Rattle.lucy_host.specs.declared.kind.HostKind.{HostKind}
use Rattle.lucy_host.specs.declared.kind.HostKind.TheVariants.{Min, Max, AbsDiff, SatAdd, SatSub, Shift, Table}

-- a * 2 ^ b wrapped, or for b below 0 a / 2 ^ -b rounded down; past 63 bits 0, or to the right -1 where a is below 0
abbrev pub shifted : ℤ → ℤ → ℤ
shifted a b =
    if int_lt (pos 63) b then pos 0
    else if int_le (pos 0) b then wrapped (a *ℤ pos (2 ^ unsigned_abs b))
    else if int_le (neg_ℤ (pos 63)) b then int_div_euclid a (pos (2 ^ unsigned_abs b))
    else if int_le (pos 0) a then pos 0
    else minus_one

-- item a of a table, counted from 0, or b where it has none
abbrev pub looked_up : List ℤ → ℤ → ℤ → ℤ
looked_up t a b = if int_le (pos 0) a then slice_index_or t (unsigned_abs a) b else b

-- what an operator of the kind makes of its operands
unfoldable pub host_value : HostKind → ℤ → ℤ → ℤ
host_value Min a b = int_min a b
host_value Max a b = int_max a b
host_value AbsDiff a b = cut (pos (unsigned_abs (a -ℤ b)))
host_value SatAdd a b = cut (a +ℤ b)
host_value SatSub a b = cut (a -ℤ b)
host_value Shift a b = shifted a b
host_value (Table t) a b = looked_up t a b

-- the value of the operator of this number, by the kinds of all of them (past their end that of `Min`, which says nothing)
abbrev pub hosted_value : List HostKind → ℕ → ℤ → ℤ → ℤ
hosted_value kinds op a b = host_value (slice_index_or kinds op Min) a b
