-- Every status is at most 7.
use Rattle.lucy_program.specs.declared.options.Options.{Options}
use Rattle.std.proofs.Common.{ℕ, ◌≤◌, ◌≡◌, ◌⊎◌, List, [], ◌∷◌, Option, Some, None, Result, Ok, Err, inl, inr, ap, arith}
use Rattle.lucy_text.specs.declared.shelf.ShelfError.{ShelfError}
use Rattle.lucy_text.specs.declared.shelf.ShelfError.TheVariants as shelf
use Rattle.lucy_command.specs.Commands.{Command, Order, Show, Types, Check, Clocks, Run, Kahn, Make, Tighten, Replay, Trace}
use Rattle.lucy_app.specs.Outcomes.{NoRun, OwesNamed, EndsGiven}
use Rattle.lucy_app.specs.Commands.{written_options, inferring_options, HasText}
use Rattle.lucy_text.specs.Sources.{ReadStop, Ended, Failed, Passed}
use Rattle.lucy_text.specs.Outside.{SeenSink}
use Rattle.lucy_app.specs.World.{World, Given}
use Rattle.lucy_app.specs.ProgramRefusals.{program_status}
use Rattle.lucy_app.specs.InputRefusals.{input_told}
use Rattle.lucy_app.specs.Answers.{Answer, no_command, out_of_memory}
use Rattle.lucy_app.specs.Show.{IsPrintOf}
use Rattle.lucy_app.specs.Types.{IsReportOf}
use Rattle.lucy_app.specs.Check.{IsCheckOf, RefusesCheck}
use Rattle.lucy_app.specs.Owes.{OwesOrder, Owes}
use Rattle.lucy_app.specs.Programs.{OwesRefusal, OwesText, OwesPrint}
use Rattle.lucy_app.specs.Tighten.{OwesSize, OwesBuffer}
use Rattle.lucy_app.specs.Endings.{fault_told, ending_told}
use Rattle.lucy_app.specs.Running.{OwesEnded, OwesRunning}
use Rattle.lucy_app.specs.Replaying.{replayed, OwesEvents, OwesLog, OwesLogged}
use Rattle.lucy_trace.specs.declared.error.TraceError.{TraceError}
use Rattle.lucy_host.specs.Operators.{Operator, kinds_of}
use Rattle.lucy_lines.specs.declared.reader.TextFault.{TextFault}
use Rattle.lucy_lines.specs.declared.reader.TextFault.TheVariants as fault
use Rattle.lucy_program.specs.declared.accepted.Accepted.{Accepted}
use Rattle.lucy_program.specs.Accepting.{IsAccepted}
use Rattle.lucy_front.specs.Refusing.{RefusesSyntax, RefusesText}
use Rattle.lucy_run.specs.declared.ending.Ending.{Ending}
use Rattle.lucy_run.specs.declared.ending.Ending.TheVariants as ending
use Rattle.lucy_run.specs.Owes.{OwesRun, OwesKahn}
use Rattle.lucy_run.specs.Tracing.{OwesTrace}
use Rattle.lucy_make.specs.Text.{made_text}
use Rattle.lucy_make.specs.Owes.{OwesSummary}
use Rattle.lucy_app.specs.Ends.{Tells, MayStand, Ends}
use Rattle.lucy_front.specs.Refusals.{memory_line}
use Rattle.lucy_front.specs.declared.refusal.Refusal.{Refusal}
use Rattle.lucy_front.specs.declared.refusal.Refusal.TheVariants as program
use Rattle.lucy_app.specs.declared.input_refusal.InputCause.{InputCause}
use Rattle.lucy_app.specs.declared.input_refusal.InputCause.TheVariants as input

program_within : (refusal : Refusal) → program_status refusal ≤ 7
program_within (program.Limit passed) = omega arith
program_within program.OutOfMemory = omega arith
program_within refusal = omega arith

input_within : (cause : InputCause) → (input_told cause).0 ≤ 7
input_within (input.Count count) = omega arith
input_within (input.BadWord number place) = omega arith
input_within (input.NoOne number) = omega arith
input_within (input.Limit passed) = omega arith

same_within : (a b : Answer) → a ≡ b → b.status ≤ 7 → a.status ≤ 7
same_within a b same h = omega (arith, ap (λ x. x.status) same, h)

order_within : (taken : List ℕ) (stop : ReadStop) (a : Answer) → OwesOrder taken stop a → a.status ≤ 7
order_within taken Ended a (inl is) = same_within a _ is.2 (omega arith)
order_within taken Ended a (inr is) = same_within a _ is.2 (input_within is.0)
order_within taken Failed a is = same_within a _ is (omega arith)
order_within taken Passed a is = same_within a _ is (omega arith)
order_within taken stop a is = absurd is

refusal_within : (Refuses : List ℕ → Refusal → Type 0) (fetched : List (Result (List ℕ) ShelfError)) (a : Answer) → OwesRefusal Refuses fetched a → a.status ≤ 7
refusal_within Refuses [] a is = absurd is
refusal_within Refuses (Ok text ∷ more) a is = same_within a _ is.2 (program_within is.0)
refusal_within Refuses (Err shelf.Failed ∷ more) a is = same_within a _ is (omega arith)
refusal_within Refuses (Err shelf.Missing ∷ more) a is = same_within a _ is (omega arith)
refusal_within Refuses (Err shelf.TooLong ∷ more) a is = same_within a _ is (omega arith)
refusal_within Refuses (Err shelf.OutOfMemory ∷ more) a is = absurd is

owed_so : (Owed : List ℕ → Answer → Type 0) → ((text : List ℕ) (a : Answer) → Owed text a → a.status ≤ 7) → (fetched : List (Result (List ℕ) ShelfError)) (a : Answer) →
    HasText fetched (λ text. Owed text a) → a.status ≤ 7
owed_so Owed within [] a is = absurd is
owed_so Owed within (Ok text ∷ more) a is = within text a is
owed_so Owed within (Err e ∷ more) a is = absurd is

text_within : (Refuses : List ℕ → Refusal → Type 0) (Owed : List ℕ → Answer → Type 0) → ((text : List ℕ) (a : Answer) → Owed text a → a.status ≤ 7) → (stop : ReadStop)
    (fetched : List (Result (List ℕ) ShelfError)) (a : Answer) → OwesText Refuses Owed stop fetched a → a.status ≤ 7
text_within Refuses Owed within stop fetched a (inl is) = refusal_within Refuses fetched a is.0
text_within Refuses Owed within stop fetched a (inr is) = owed_so Owed within fetched a is

print_within : (Prints : List ℕ → List ℕ → Type 0) (Refuses : List ℕ → Refusal → Type 0) (stop : ReadStop) (fetched : List (Result (List ℕ) ShelfError)) (a : Answer) →
    OwesText Refuses (OwesPrint Prints) stop fetched a → a.status ≤ 7
print_within Prints Refuses stop fetched a is = text_within Refuses (OwesPrint Prints) (λ text x h. same_within x _ h.2 (omega arith)) stop fetched a is

fault_within : (e : TextFault) → (fault_told e).0 ≤ 7
fault_within (fault.BadLine number) = omega arith
fault_within (fault.UnknownStream number) = omega arith
fault_within (fault.BadValue number) = omega arith
fault_within fault.ReadFault = omega arith
fault_within fault.TooLong = omega arith

ending_within : (end : Ending) → (ending_told end).0 ≤ 7
ending_within ending.Done = omega arith
ending_within (ending.Input e) = fault_within e
ending_within (ending.Limit passed) = omega arith
ending_within ending.WriteFault = omega arith
ending_within ending.OutOfMemory = omega arith

ended_within : (Owed : List ℕ → Ending → Type 0) (instants : Option ℕ) (stop : ReadStop) (p : Accepted) (a : Answer) → OwesEnded Owed instants stop p a → a.status ≤ 7
ended_within Owed instants stop p a (inl is) = same_within a _ is.1 (omega arith)
ended_within Owed instants stop p a (inr is) = same_within a _ is.4 (ending_within is.2)

running_within : (Owed : Accepted → List ℕ → Ending → Type 0) (ops : List Operator) (o : Options) (instants : Option ℕ) (stop : ReadStop) (fetched : List (Result (List ℕ) ShelfError)) (a : Answer) →
    OwesRunning Owed ops o instants stop fetched a → a.status ≤ 7
running_within Owed ops o instants stop fetched a is =
    text_within (RefusesCheck ops o) (λ text told. (p : Accepted) × IsAccepted ops o text p × OwesEnded (Owed p) instants stop p told)
    (λ text x h. ended_within (Owed h.0) instants stop h.0 x h.2) stop fetched a is

size_within : (p : Accepted) (o : Options) (node buffer : ℕ) (a : Answer) → OwesSize p o node buffer a → a.status ≤ 7
size_within p o node buffer a (inl is) = same_within a _ is.2 (omega arith)
size_within p o node buffer a (inr is) = same_within a _ is.2 (omega arith)

buffer_within : (p : Accepted) (o : Options) (name : List ℕ) (buffer : ℕ) (a : Answer) → OwesBuffer p o name buffer a → a.status ≤ 7
buffer_within p o name buffer a (inl is) = same_within a _ is.1 (omega arith)
buffer_within p o name buffer a (inr is) = size_within p o _ buffer a is.1

replayed_within : (output : List ℕ) (result : Result Ending TraceError) → (replayed output result).status ≤ 7
replayed_within output (Ok end) = ending_within end
replayed_within output (Err e) = omega arith

log_within : (ops : List Operator) (p : Accepted) (instants : Option ℕ) (taken : List ℕ) (stop : ReadStop) (log : Result (List ℕ) ShelfError) (a : Answer) →
    OwesLog (OwesEvents ops p instants taken stop) stop log a → a.status ≤ 7
log_within ops p instants taken stop (Ok text) a (inl (place, bad, is, unread)) = same_within a _ is (omega arith)
log_within ops p instants taken stop (Ok text) a (inr (picks, read, (output, result, owed, is))) = same_within a _ is (replayed_within output result)
log_within ops p instants taken stop (Err shelf.Failed) a is = same_within a _ is.0 (omega arith)
log_within ops p instants taken stop (Err shelf.Missing) a is = same_within a _ is.0 (omega arith)
log_within ops p instants taken stop (Err shelf.TooLong) a is = same_within a _ is.0 (omega arith)
log_within ops p instants taken stop (Err shelf.OutOfMemory) a is = absurd is.0

logged_within : (ops : List Operator) (o : Options) (instants : Option ℕ) (taken : List ℕ) (stop : ReadStop) (fetched : List (Result (List ℕ) ShelfError)) (a : Answer) →
    OwesLogged ops o instants taken stop fetched a → a.status ≤ 7
logged_within ops o instants taken stop [] a is = absurd is
logged_within ops o instants taken stop (file ∷ []) a is = running_within NoRun ops o instants stop (file ∷ []) a is
logged_within ops o instants taken stop (Ok text ∷ (log ∷ [])) a (p, can, owed) = log_within ops p instants taken stop log a owed
logged_within ops o instants taken stop (Err e ∷ (log ∷ [])) a is = absurd is
logged_within ops o instants taken stop (file ∷ (log ∷ (other ∷ more))) a is = absurd is

owed_within : (command : Command) (given : Given) (a : Answer) → Owes command given a → a.status ≤ 7
owed_within Order given a is = order_within given.taken given.stop a is
owed_within (Show file) given a is = print_within IsPrintOf RefusesSyntax given.stop given.fetched a is
owed_within (Types file) given a is = print_within (IsReportOf given.operators) (RefusesText given.operators) given.stop given.fetched a is
owed_within (Check file) given a is = print_within (IsCheckOf given.operators written_options) (RefusesCheck given.operators written_options) given.stop given.fetched a is
owed_within (Clocks words) given a is =
    let o = inferring_options words.scale words.lead in
    print_within (IsCheckOf given.operators o) (RefusesCheck given.operators o) given.stop given.fetched a is
owed_within (Run words workers block) given a is =
    running_within (λ p. OwesRun (kinds_of given.operators) p words.instants given.taken given.stop) given.operators (inferring_options words.scale words.lead) words.instants given.stop given.fetched a is
owed_within (Kahn words) given a is =
    running_within (λ p. OwesKahn (kinds_of given.operators) p words.instants given.taken given.stop) given.operators (inferring_options words.scale words.lead) words.instants given.stop given.fetched a is
owed_within (Make words) given a is =
    running_within (OwesSummary words.stages (kinds_of given.operators)) given.operators (inferring_options 1 1) None given.stop (Ok (made_text words.stages) ∷ []) a is
owed_within (Tighten words node buffer) given a is =
    let o = inferring_options words.scale words.lead in
    text_within (RefusesCheck given.operators o) (OwesNamed given.operators o node buffer)
    (λ text x h. buffer_within h.0 o node buffer x h.2) given.stop given.fetched a is
owed_within (Replay words log) given a is =
    logged_within given.operators (inferring_options words.scale words.lead) words.instants given.taken given.stop given.fetched a is
owed_within (Trace words workers) given a is =
    running_within (λ p. OwesTrace p words.instants given.taken given.stop) given.operators (inferring_options words.scale words.lead)
    words.instants given.stop given.fetched a is

answer_within : (command : Command) (given : Given) (a : Answer) →
    Owes command given a ⊎ ((front : List ℕ) × MayStand command given front × (a ≡ out_of_memory front)) → a.status ≤ 7
answer_within command given a (inl is) = owed_within command given a is
answer_within command given a (inr is) = same_within a _ is.2 (omega arith)

tells_within : (told : ℕ) (lines : List ℕ) (err err' : SeenSink) (status : ℕ) → told ≤ 7 → Tells told lines err err' status → status ≤ 7
tells_within told lines err err' status h (inl is) = omega (arith, is.0, h)
tells_within told lines err err' status h (inr is) = omega (arith, is.0)

ends_with_within : (command : Command) (given : Given) (before after : World) (status : ℕ) → EndsGiven command given before after status → status ≤ 7
ends_with_within command given before after status (inl is) = tells_within is.0.status is.0.err before.err after.err status (answer_within command given is.0 is.1) is.2.told
ends_with_within command given before after status (inr is) = tells_within 5 _ before.err after.err status (omega arith) is.2.told

pub ends_within : (found : Option Command) (before after : World) (status : ℕ) → Ends found before after status → status ≤ 7
ends_within None before after status is = tells_within 2 no_command.err before.err after.err status (omega arith) is.2.told
ends_within (Some command) before after status (inl is) = ends_with_within command is.0 before after status is.2
ends_within (Some command) before after status (inr is) = tells_within 7 memory_line before.err after.err status (omega arith) is.2.told
