-- What the law of refusals says: a program that stands for something, all of whose clocks are written, is refused for limits alone.
use Rattle.std.specs.Prelude.{ℕ, ◌≡◌, ◌⊎◌, List}
use Rattle.std.specs.List.{AllByRecursion}
use Rattle.lucy_word.specs.declared.limit.Limit.{Limit}
use Rattle.lucy_host.specs.Operators.{Operator}
use Rattle.lucy_tree.specs.View.{ProgramTree}
use Rattle.lucy_grammar.specs.Texts.{HasTree}
use Rattle.lucy_place.specs.WrittenNodes.{IsWritten}
use Rattle.lucy_program.specs.declared.options.Options.{Options}
use Rattle.lucy_front.specs.declared.refusal.Refusal.{Refusal}
use Rattle.lucy_front.specs.declared.refusal.Refusal.TheVariants.{Limit as LimitPassed, OutOfMemory}
use Rattle.lucy_front.specs.Refusing.{Refuses}
use Rattle.lucy_right.specs.Right.{Meaning, StandsFor}

-- a written program that stands for something is refused for a limit, or for want of memory
abbrev pub WrittenPassLimits : Type 0
WrittenPassLimits = (ops : List Operator) (o : Options) (text : List ℕ) (program : ProgramTree) (m : Meaning) (refusal : Refusal) → HasTree text program → StandsFor ops program m →
    AllByRecursion IsWritten m.nodes → Refuses ops o text refusal → ((l : Limit) × (refusal ≡ LimitPassed l)) ⊎ (refusal ≡ OutOfMemory)
