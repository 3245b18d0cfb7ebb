-- The status of a refused program. Its lines are those of `lucy_front`.
use Rattle.std.specs.Prelude.{ℕ}
use Rattle.lucy_front.specs.declared.refusal.Refusal.{Refusal}
use Rattle.lucy_front.specs.declared.refusal.Refusal.TheVariants.{Limit as LimitPassed, OutOfMemory}

-- the status where a program is refused so
abbrev pub program_status : Refusal → ℕ
program_status (LimitPassed l) = 6
program_status OutOfMemory = 7
program_status refusal = 1
