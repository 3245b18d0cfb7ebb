-- What the calls that run an accepted program have in common.
use Rattle.std.specs.Prelude.{ℕ, List}
use Rattle.lucy_host.specs.Operators.{Operator}
use Rattle.lucy_text.specs.Outside.{SeenSource}
use Rattle.lucy_lines.specs.Fronts.{most_bytes}
use Rattle.lucy_lines.specs.declared.input.InputSpec.{InputSpec}
use Rattle.lucy_text.specs.Sources.{ReadStop, Read}
use Rattle.lucy_lines.specs.Feeding.{IsAsked}
use Rattle.lucy_program.specs.declared.options.Options.{Options}
use Rattle.lucy_program.specs.declared.accepted.Accepted.{Accepted}
use Rattle.lucy_program.specs.Accepting.{IsAccepted}

-- the program of some text was accepted so, with these operators
abbrev pub WasAccepted : List Operator → Accepted → Type 0
WasAccepted ops a = (text : List ℕ) × (options : Options) × IsAccepted ops options text a

-- bytes of the source were taken, none that the inputs did not ask for; reading stopped, and the call ends as that lets it
abbrev pub ReadsAndEnds : List InputSpec → (before after : SeenSource) → (Ends : (taken : List ℕ) → ReadStop → Type 0) → Type 0
ReadsAndEnds inputs before after Ends = (taken : List ℕ) × (stop : ReadStop) × Read most_bytes before after taken stop × IsAsked inputs taken × Ends taken stop
