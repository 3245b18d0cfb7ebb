-- What the laws of runs say: what a text is accepted as its program stands for, and the output that is owed is what `run` prints.
use Rattle.std.specs.Prelude.{ℕ, ◌≡◌, ◌≢◌, Bool, true, List, [], ◌++◌, Option, None, length, IsSome}
use Rattle.lucy_word.specs.Limits.{limit_number}
use Rattle.lucy_word.specs.declared.limit.Limit.TheVariants as limit
use Rattle.lucy_host.specs.Operators.{Operator, kinds_of}
use Rattle.lucy_lines.specs.Cuts.{ItemOf, Stop, At, Before, Held, Cut, whole_input}
use Rattle.lucy_lines.specs.declared.reader.TextFault.{TextFault}
use Rattle.lucy_lines.specs.declared.reader.TextFault.TheVariants.{ReadFault, TooLong}
use Rattle.lucy_text.specs.Sources.{ReadStop}
use Rattle.lucy_lines.specs.Feeding.{is_closed, values_by_stream}
use Rattle.lucy_tree.specs.View.{ProgramTree}
use Rattle.lucy_grammar.specs.Texts.{HasTree}
use Rattle.lucy_program.specs.declared.accepted.Accepted.{Accepted}
use Rattle.lucy_program.specs.declared.options.Options.{Options}
use Rattle.lucy_program.specs.Accepting.{IsAccepted}
use Rattle.lucy_run.specs.declared.ending.Ending.{Ending}
use Rattle.lucy_run.specs.declared.ending.Ending.TheVariants as ending
use Rattle.lucy_run.specs.Owes.{input_words, IsHorizonOf, heading, lines_to, AllowsMore, OwesRun}
use Rattle.lucy_right.specs.Right.{Meaning, StandsFor, IsRunOf}
use Rattle.lucy_right.specs.Earliest.{AreChosen}

-- what is kept of an accepted program
abbrev pub meaning_of : Accepted → Meaning
meaning_of a = record { nodes = a.placed.nodes; types = a.typed; clocks = a.clocks.items }

-- the program that an accepted text is stands for that
abbrev pub AcceptedStand : Type 0
AcceptedStand = (ops : List Operator) (o : Options) (text : List ℕ) (a : Accepted) → IsAccepted ops o text a →
    (program : ProgramTree) × HasTree text program × StandsFor ops program (meaning_of a)

-- the output is what `run` prints of the program that a text is, with the clocks that are found by these options, and of an input
abbrev pub IsRunOfText : List Operator → Options → (given : Option ℕ) → (text input output : List ℕ) → (Done Refused : Type 0) → Type 0
IsRunOfText ops o given text input output Done Refused =
    (program : ProgramTree) × HasTree text program × IsRunOf (AreChosen o.scale o.lead) ops (limit_number limit.Instants) given program input output Done Refused

-- The items of the bytes taken, of which more may follow unless they count as all, give what `run` prints of the lines that they use up: of all
-- lines where no line stops the items of all bytes, and of those before the line that does.
abbrev pub CutsAreRuns : Type 0
CutsAreRuns = (ops : List Operator) (o : Options) (text : List ℕ) (a : Accepted) (given : Option ℕ) (closed : Bool) (taken more : List ℕ) (items : List ItemOf) (stop : Stop) (horizon : ℕ) →
    IsAccepted ops o text a → a.inputs.items ≢ [] → (closed ≡ true → more ≡ []) → Cut a.inputs.items closed (whole_input taken) items stop →
    IsHorizonOf (input_words a) given (values_by_stream (length a.inputs.items) items) horizon →
    IsRunOfText ops o given text (taken ++ more) (heading a ++ lines_to (kinds_of ops) a (values_by_stream (length a.inputs.items) items) horizon)
    ((closed ≡ true) × (held : Held) × (stop ≡ Before held) × (given ≡ None → AllowsMore (input_words a) (values_by_stream (length a.inputs.items) items) → ⊥))
    ((fault : TextFault) × (stop ≡ At fault) × (fault ≢ TooLong))

-- So is the output that a run owes, by the bytes taken and how reading stopped, where main has inputs or instants are given: it is that of all lines
-- where the run is done, and of those before a line for which it ends.
abbrev pub OwedAreRuns : Type 0
OwedAreRuns = (ops : List Operator) (o : Options) (text : List ℕ) (a : Accepted) (given : Option ℕ) (taken more : List ℕ) (stop : ReadStop) (output : List ℕ) (end : Ending) →
    IsAccepted ops o text a → (a.inputs.items ≡ [] → IsSome given) → (is_closed stop ≡ true → more ≡ []) → OwesRun (kinds_of ops) a given taken stop output end →
    IsRunOfText ops o given text (taken ++ more) output (end ≡ ending.Done) ((fault : TextFault) × (end ≡ ending.Input fault) × (fault ≢ ReadFault) × (fault ≢ TooLong))
