-- What `check` and `clocks` leave: exactly what is accepted.
use Rattle.std.specs.Prelude.{ℕ, ◌<◌, ◌≡◌, ◌≢◌, ◌⊎◌, true, List, [], length, take, Some, IsSomeAnd}
use Rattle.std.specs.List.{AllByRecursion}
use Rattle.lucy_word.specs.Limits.{limit_number}
use Rattle.lucy_word.specs.declared.limit.Limit.{Limit}
use Rattle.lucy_word.specs.declared.limit.Limit.TheVariants as limit
use Rattle.lucy_host.specs.Operators.{Operator}
use Rattle.lucy_text.specs.Outside.{SeenSink, Rose}
use Rattle.lucy_text.specs.Shelf.{SeenShelf}
use Rattle.lucy_tree.specs.View.{ProgramTree}
use Rattle.lucy_grammar.specs.Texts.{HasTree}
use Rattle.lucy_place.specs.WrittenNodes.{IsWritten}
use Rattle.lucy_program.specs.declared.accepted.Accepted.{Accepted}
use Rattle.lucy_program.specs.declared.options.Options.{Options}
use Rattle.lucy_program.specs.Accepting.{IsAccepted}
use Rattle.lucy_program.specs.Report.{report}
use Rattle.lucy_front.specs.declared.refusal.Refusal.TheVariants.{Limit as LimitPassed}
use Rattle.lucy_front.specs.Refusing.{Refuses}
use Rattle.lucy_right.specs.Right.{Meaning, StandsFor}
use Rattle.lucy_right.specs.Owed.{meaning_of}

-- the text is a program that stands for this
abbrev pub TextStandsFor : List Operator → (text : List ℕ) → Meaning → Type 0
TextStandsFor ops text m = (program : ProgramTree) × HasTree text program × StandsFor ops program m

-- all of the clocks of its nodes are written
abbrev pub HasWrittenClocks : Meaning → Type 0
HasWrittenClocks m = AllByRecursion IsWritten m.nodes

-- its report
abbrev pub report_of : Meaning → List ℕ
report_of m = report m.nodes m.types m.clocks

-- a limit is passed: the text is too long, or its program is refused for another
abbrev pub TextPassesLimit : List Operator → Options → (text : List ℕ) → Type 0
TextPassesLimit ops o text = (limit_number limit.Text < length text) ⊎ ((l : Limit) × Refuses ops o text (LimitPassed l))

-- the shelf tells its files, and has this text under FILE
abbrev pub ShelfTells : SeenShelf → (file text : List ℕ) → Type 0
ShelfTells shelf file text = IsSomeAnd shelf.files (λ held. held file ≡ Some text)

-- With 0 the text stands for something, of which the report stands there, and passes no limit; `check` takes it only where all clocks are written.
abbrev pub IsAcceptance : List Operator → Options → (text output : List ℕ) → Type 0
IsAcceptance ops o text output =
    (m : Meaning) × TextStandsFor ops text m × (output ≡ report_of m) × (o.written_only ≡ true → HasWrittenClocks m) × (TextPassesLimit ops o text → ⊥)

-- What `check FILE` and `clocks FILE` leave, which find clocks with these options, where they find this text of FILE and an empty output: with 0 it is
-- accepted; with 5 a front of the report of what it stands for stands there, or nothing, and else nothing. Where it stands for something, all of whose
-- clocks are written, they end with 0 and the report of that; or with 6 and it passes a limit, with 4 or 5 and a fetch or a write failed, or with 7.
pub record CheckIsRight (ops : List Operator) (o : Options) (file : List ℕ) (shelf shelf' : SeenShelf) (out out' err err' : SeenSink) (status : ℕ) : Type 0 where
  pub accepted : (text output : List ℕ) → ShelfTells shelf file text → out.written ≡ Some [] → out'.written ≡ Some output → status ≡ 0 → IsAcceptance ops o text output
  pub front : (text output : List ℕ) → ShelfTells shelf file text → out.written ≡ Some [] → out'.written ≡ Some output →
      (output ≡ []) ⊎ ((m : Meaning) × (n : ℕ) × TextStandsFor ops text m × (output ≡ take n (report_of m)))
  pub nothing : (text output : List ℕ) → ShelfTells shelf file text → out.written ≡ Some [] → out'.written ≡ Some output → status ≢ 0 → status ≢ 5 → output ≡ []
  pub written : (text : List ℕ) (m : Meaning) → ShelfTells shelf file text → TextStandsFor ops text m → HasWrittenClocks m →
      ((status ≡ 0) × ((output : List ℕ) → out.written ≡ Some [] → out'.written ≡ Some output → output ≡ report_of m))
      ⊎ (((status ≡ 4) × Rose shelf.faults shelf'.faults) ⊎ (((status ≡ 5) × (Rose out.faults out'.faults ⊎ Rose err.faults err'.faults))
      ⊎ (((status ≡ 6) × TextPassesLimit ops o text) ⊎ (status ≡ 7))))

-- what is accepted where all nodes have to be written has all of its clocks written
abbrev pub AcceptedAreWritten : Type 0
AcceptedAreWritten = (ops : List Operator) (o : Options) (text : List ℕ) (a : Accepted) → IsAccepted ops o text a → o.written_only ≡ true → HasWrittenClocks (meaning_of a)

-- a text that is accepted, and stands for something all of whose clocks are written, stands for what it is accepted as, and for nothing else
abbrev pub WrittenStandForOne : Type 0
WrittenStandForOne = (ops : List Operator) (o : Options) (text : List ℕ) (a : Accepted) (m : Meaning) → IsAccepted ops o text a → TextStandsFor ops text m → HasWrittenClocks m → m ≡ meaning_of a
