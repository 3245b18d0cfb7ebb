-- The figures of a run of the generated program, and how they are printed.
use Rattle.std.specs.Prelude.{ℕ, ℤ, pos, ◌+◌, ◌+ℤ◌, List, ◌++◌, fold, length, sum_by, codes}
use Rattle.std.specs.Fmt.{decimal, signed_decimal}
use Rattle.lucy_host.specs.Numbers.{wrapped}
use Rattle.lucy_net.specs.declared.net.RingSpec.{RingSpec}
use Rattle.lucy_net.specs.declared.net.Net.{Net}

-- the sum of values, in 64 bits
abbrev pub sum_of : List ℤ → ℤ
sum_of values = wrapped (fold ◌+ℤ◌ (pos 0) values)

-- the slots of rings, of which each has one more than its size
abbrev pub net_slots : List RingSpec → ℕ
net_slots rings = sum_by (λ ring. ring.size + 1) rings

-- the lines of a program of so many stages and its net, by their numbers
abbrev pub net_lines : (stages actors rings slots : ℕ) → List ℕ
net_lines stages actors rings slots =
    codes "stages " ++ (decimal stages ++ (codes "\nactors " ++ (decimal actors ++ (codes "\nrings " ++ (decimal rings ++ (codes "\nslots " ++ (decimal slots ++ codes "\n")))))))

-- those of its run
abbrev pub run_lines : (instants outputs : ℕ) (sum : ℤ) → List ℕ
run_lines instants outputs sum =
    codes "instants " ++ (decimal instants ++ (codes "\noutputs " ++ (decimal outputs ++ (codes "\nsum " ++ (signed_decimal sum ++ codes "\n")))))

-- the seven lines of a run of so many stages, by this net, of so many instants, that prints these values
abbrev pub figures : (stages : ℕ) → Net → (instants : ℕ) → (values : List ℤ) → List ℕ
figures stages net instants values =
    net_lines stages (length net.actors) (length net.rings) (net_slots net.rings) ++ run_lines instants (length values) (sum_of values)
