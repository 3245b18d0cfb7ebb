-- What a command owes that has met the same things is one answer, but for the evidence of a refusal.
use Rattle.std.proofs.Common.{ℕ, ◌≡◌, List, [], ◌∷◌, None, Result, Ok, Err, ap, sym, ◌∙◌, inl, inr}
use Rattle.lucy_text.specs.declared.shelf.ShelfError.{ShelfError}
use Rattle.lucy_text.specs.declared.shelf.ShelfError.TheVariants as shelf
use Rattle.lucy_command.specs.Commands.{Command, Order, Show, Types, Check, Clocks, Run, Kahn, Make, Tighten, Replay, Trace}
use Rattle.lucy_front.specs.Refusing.{RefusesSyntax, RefusesText}
use Rattle.lucy_tight.specs.Laws.{OneTightest}
use Rattle.lucy_app.specs.Outcomes.{OwesNamed}
use Rattle.lucy_app.specs.Commands.{written_options, inferring_options}
use Rattle.lucy_text.specs.Sources.{ReadStop, Ended, Failed, Passed}
use Rattle.lucy_app.specs.World.{Given}
use Rattle.lucy_app.specs.Answers.{Answer, AreTightAlike, MayDiffer, Alike, printed, program_refused, input_refused}
use Rattle.lucy_app.specs.Fields.{field_texts}
use Rattle.lucy_app.specs.Show.{IsPrintOf}
use Rattle.lucy_app.specs.Types.{IsReportOf}
use Rattle.lucy_app.specs.Check.{IsCheckOf, RefusesCheck}
use Rattle.lucy_app.specs.Owes.{OwesOrder, Owes, HasRun}
use Rattle.lucy_app.specs.Programs.{OwesRefusal, OwesText, OwesPrint}
use Rattle.lucy_host.specs.Operators.{kinds_of}
use Rattle.lucy_program.specs.declared.accepted.Accepted.{Accepted}
use Rattle.lucy_run.specs.declared.ending.Ending.{Ending}
use Rattle.lucy_run.specs.Owes.{OwesRun, OwesKahn}
use Rattle.lucy_run.specs.Laws.{OneRun, OneInterpretation, OneReplay, OneTrace}
use Rattle.lucy_app.proofs.OwedPrograms.{IsDecided, print_decided, unrefused, owed_one, text_owes_one}
use Rattle.lucy_make.specs.Text.{made_text}
use Rattle.lucy_make.specs.Owes.{OwesSummary}
use Rattle.lucy_lines.specs.CutLaws.{OneCut}
use Rattle.lucy_run.proofs.OwesLaws.{OneHorizon}
use Rattle.lucy_app.proofs.RunsOnce.{once_but, runs_alike, run_once, kahn_once, traces_alike}
use Rattle.lucy_app.proofs.MakesOnce.{summary_once}
use Rattle.lucy_app.proofs.ReplaysOnce.{logged_alike}
use Rattle.lucy_app.proofs.Causes.{one_line, one_cause_of_fields, pair_is_not_refused}
use Rattle.lucy_app.proofs.Verdicts.{show_verdict, one_syntax}
use Rattle.lucy_app.proofs.Typed.{types_verdict}
use Rattle.lucy_app.proofs.Checked.{check_verdict}
use Rattle.lucy_app.proofs.TightOnce.{tight_decided}

pub order_owes_one : (taken : List ℕ) (stop : ReadStop) (a b : Answer) → OwesOrder taken stop a → OwesOrder taken stop b → a ≡ b
order_owes_one taken Ended a b (inl is) (inl also) = is.2 ∙ ap printed (one_line taken is.0 also.0 is.1 also.1) ∙ sym also.2
order_owes_one taken Ended a b (inl is) (inr also) = absurd (pair_is_not_refused taken is.1.0 is.1.1 also.0 is.1.3 is.1.6 also.1)
order_owes_one taken Ended a b (inr is) (inl also) = absurd (pair_is_not_refused taken also.1.0 also.1.1 is.0 also.1.3 also.1.6 is.1)
order_owes_one taken Ended a b (inr is) (inr also) = is.2 ∙ ap input_refused (one_cause_of_fields (field_texts taken) is.0 also.0 is.1 also.1) ∙ sym also.2
order_owes_one taken Failed a b is also = is ∙ sym also
order_owes_one taken Passed a b is also = is ∙ sym also
order_owes_one taken stop a b is also = absurd is

pub owes_one : OneCut → OneHorizon → OneRun → OneInterpretation → OneReplay → OneTrace → OneTightest →
    (command : Command) (given : Given) (a b : Answer) →
    Owes command given a → Owes command given b → Alike (HasRun given) command a b
owes_one cut horizon run kahn again trace tight Order given a b is also = inl (inl (order_owes_one given.taken given.stop a b is also))
owes_one cut horizon run kahn again trace tight (Show file) given a b is also =
    let Differ = MayDiffer (HasRun given) (Show file) in
    text_owes_one Differ RefusesSyntax (OwesPrint IsPrintOf) (print_decided Differ IsPrintOf RefusesSyntax show_verdict)
    given.stop given.fetched a b is also
owes_one cut horizon run kahn again trace tight (Types file) given a b is also =
    let ops = given.operators in
    let Differ = MayDiffer (HasRun given) (Types file) in
    text_owes_one Differ (RefusesText ops) (OwesPrint (IsReportOf ops))
    (print_decided Differ (IsReportOf ops) (RefusesText ops) (types_verdict ops)) given.stop given.fetched a b is also
owes_one cut horizon run kahn again trace tight (Check file) given a b is also =
    let ops = given.operators in
    let Differ = MayDiffer (HasRun given) (Check file) in
    text_owes_one Differ (RefusesCheck ops written_options) (OwesPrint (IsCheckOf ops written_options))
    (print_decided Differ (IsCheckOf ops written_options) (RefusesCheck ops written_options) (check_verdict ops written_options))
    given.stop given.fetched a b is also
owes_one cut horizon run kahn again trace tight (Clocks words) given a b is also =
    let ops = given.operators in
    let o = inferring_options words.scale words.lead in
    let Differ = MayDiffer (HasRun given) (Clocks words) in
    text_owes_one Differ (RefusesCheck ops o) (OwesPrint (IsCheckOf ops o))
    (print_decided Differ (IsCheckOf ops o) (RefusesCheck ops o) (check_verdict ops o)) given.stop given.fetched a b is also
owes_one cut horizon run kahn again trace tight (Run words workers block) given a b is also =
    let Owed : Accepted → List ℕ → Ending → Type 0 = λ p. OwesRun (kinds_of given.operators) p words.instants given.taken given.stop in
    let Differ = MayDiffer (HasRun given) (Run words workers block) in
    runs_alike Differ Owed (once_but Differ Owed (run_once run (kinds_of given.operators) words.instants given.taken given.stop))
    given.operators
    (inferring_options words.scale words.lead) words.instants given.stop given.fetched a b is also
owes_one cut horizon run kahn again trace tight (Kahn words) given a b is also =
    let Owed : Accepted → List ℕ → Ending → Type 0 = λ p. OwesKahn (kinds_of given.operators) p words.instants given.taken given.stop in
    let Differ = MayDiffer (HasRun given) (Kahn words) in
    runs_alike Differ Owed (once_but Differ Owed (kahn_once kahn (kinds_of given.operators) words.instants given.taken given.stop))
    given.operators
    (inferring_options words.scale words.lead) words.instants given.stop given.fetched a b is also
owes_one cut horizon run kahn again trace tight (Make words) given a b is also =
    let Owed : Accepted → List ℕ → Ending → Type 0 = λ p. OwesSummary words.stages (kinds_of given.operators) p in
    let Differ = MayDiffer (HasRun given) (Make words) in
    runs_alike Differ Owed (once_but Differ Owed (summary_once cut horizon words.stages (kinds_of given.operators))) given.operators
    (inferring_options 1 1)
    None given.stop (Ok (made_text words.stages) ∷ []) a b is also
owes_one cut horizon run kahn again trace tight (Tighten words node buffer) given a b is also =
    let ops = given.operators in
    let o = inferring_options words.scale words.lead in
    text_owes_one AreTightAlike (RefusesCheck ops o) (OwesNamed ops o node buffer) (tight_decided tight ops o node buffer) given.stop given.fetched a b
    is also
owes_one cut horizon run kahn again trace tight (Replay words log) given a b is also =
    logged_alike again given.operators words.instants given.taken given.stop (MayDiffer (HasRun given) (Replay words log))
    (inferring_options words.scale words.lead)
    given.fetched a b is also
owes_one cut horizon run kahn again trace tight (Trace words workers) given a b is also =
    traces_alike trace given.operators (inferring_options words.scale words.lead) words.instants given.taken given.stop given.fetched a b
    is also

-- `show` refuses a text with one answer
show_refusal_one : (fetched : List (Result (List ℕ) ShelfError)) (a b : Answer) → OwesRefusal RefusesSyntax fetched a → OwesRefusal RefusesSyntax fetched b → a ≡ b
show_refusal_one [] a b is also = absurd is
show_refusal_one (Ok text ∷ more) a b is also = is.2 ∙ ap program_refused (one_syntax text is.0 also.0 is.1 also.1) ∙ sym also.2
show_refusal_one (Err shelf.Failed ∷ more) a b is also = is ∙ sym also
show_refusal_one (Err shelf.Missing ∷ more) a b is also = is ∙ sym also
show_refusal_one (Err shelf.TooLong ∷ more) a b is also = is ∙ sym also
show_refusal_one (Err shelf.OutOfMemory ∷ more) a b is also = absurd is

show_decided : IsDecided (λ x y. ⊥) RefusesSyntax (OwesPrint IsPrintOf)
show_decided = print_decided (λ x y. ⊥) IsPrintOf RefusesSyntax show_verdict

-- and owes one answer
pub show_owes_one : (stop : ReadStop) (fetched : List (Result (List ℕ) ShelfError)) (a b : Answer) → OwesText RefusesSyntax (OwesPrint IsPrintOf) stop fetched a →
    OwesText RefusesSyntax (OwesPrint IsPrintOf) stop fetched b → a ≡ b
show_owes_one stop fetched a b (inl is) (inl also) = show_refusal_one fetched a b is.0 also.0
show_owes_one stop fetched a b (inl is) (inr also) =
    absurd (unrefused (λ x y. ⊥) RefusesSyntax (OwesPrint IsPrintOf) show_decided fetched b a also is.0)
show_owes_one stop fetched a b (inr is) (inl also) =
    absurd (unrefused (λ x y. ⊥) RefusesSyntax (OwesPrint IsPrintOf) show_decided fetched a b is also.0)
show_owes_one stop fetched a b (inr is) (inr also) =
    let one = owed_one (λ x y. ⊥) RefusesSyntax (OwesPrint IsPrintOf) show_decided fetched a b is also in
    elim one [ inl same ↦ same | inr none ↦ absurd none ]
