-- What `check` and `clocks` print of a text, with the options that say how its clocks are found, and why they refuse one.
use Rattle.std.specs.Prelude.{ℕ, ◌≡◌, ◌≢◌, List}
use Rattle.lucy_host.specs.Operators.{Operator}
use Rattle.lucy_program.specs.declared.accepted.Accepted.{Accepted}
use Rattle.lucy_program.specs.declared.options.Options.{Options}
use Rattle.lucy_front.specs.declared.refusal.Refusal.{Refusal}
use Rattle.lucy_front.specs.declared.refusal.Refusal.TheVariants.{OutOfMemory}
use Rattle.lucy_program.specs.Accepting.{IsAccepted}
use Rattle.lucy_front.specs.Refusing.{Refuses}
use Rattle.lucy_program.specs.Report.{report}

-- the text is accepted, and this is the report
abbrev pub IsCheckOf : List Operator → Options → (text print : List ℕ) → Type 0
IsCheckOf ops o text print = (a : Accepted) × IsAccepted ops o text a × (print ≡ report a.placed.nodes a.typed a.clocks.items)

-- the text is refused so, and not for want of memory
abbrev pub RefusesCheck : List Operator → Options → (text : List ℕ) → Refusal → Type 0
RefusesCheck ops o text refusal = Refuses ops o text refusal × (refusal ≢ OutOfMemory)
