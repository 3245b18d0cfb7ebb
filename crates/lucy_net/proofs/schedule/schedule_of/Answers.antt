use Rattle.std.proofs.Common.{◌≡◌, length, ap, refl, ◌∙◌, inl, inr, arith}
use Rattle.std.proofs.lemmas.List.{length-map}
use Rattle.lucy_net.specs.Faults.{rows_of}
use Rattle.lucy_word.specs.declared.limit.Limit.TheVariants as limit
use Rattle.lucy_word.proofs.Results.{fails_so}
use Rattle.lucy_net.specs.Words.{net_words}
use Rattle.lucy_net.specs.declared.error.CauseFault.TheVariants as fault
use Rattle.lucy_net.specs.Schedules.{IsAllowed, TellSame}
use Rattle.lucy_net.proofs.OneAnswer.{one_length, one_refusal, never_both, stops}
use Rattle.lucy_net.proofs.PeriodLaws.{schedule_ok, too_long}
use Rattle.lucy_net.proofs.schedule.schedule_of.Goals as goal

pub returns-clause-ok : goal.returns-clause-ok
returns-clause-ok c =
    schedule_ok c.args.net.now (record { prefix = c.in-Some.lengths.prefix; period = c.in-Some.lengths.period; orders = rows_of c.in_ok-orders.orders.items }) c.requires c.net_words_are_stored.ensures c.in-Some.ensures.some c.in-Some.ensures.short
    (omega (arith, c.operations_in.ensures, c.number.ensures, c.if-operations_in-number.false)) c.in_ok-orders.ensures.ok
    (length-map c.in_ok-orders.orders.items (λ row. row.items) ∙ c.in_ok-orders.ensures.all ∙ ap length c.deref.ensures.value ∙ c.in_ok-agenda.ensures.count)

pub returns-in_default-clause-refused : goal.returns-in_default-clause-refused
returns-in_default-clause-refused c = inl (too_long c.args.net.now c.net_words_are_stored.ensures c.in_default.ensures.none, refl)

pub returns-clause-scheduled : goal.returns-clause-scheduled
returns-clause-scheduled c = λ s is. one_length (net_words c.args.net.now) c.in-Some.lengths.prefix c.in-Some.lengths.period s.prefix s.period c.in-Some.ensures.some is.allowed.lengths

pub returns-clause-only : goal.returns-clause-only
returns-clause-only c = λ e why.
    never_both c.args.net.now (record { prefix = c.in-Some.lengths.prefix; period = c.in-Some.lengths.period; orders = rows_of c.in_ok-orders.orders.items }) e (
    schedule_ok c.args.net.now (record { prefix = c.in-Some.lengths.prefix; period = c.in-Some.lengths.period; orders = rows_of c.in_ok-orders.orders.items }) c.requires c.net_words_are_stored.ensures c.in-Some.ensures.some c.in-Some.ensures.short
    (omega (arith, c.operations_in.ensures, c.number.ensures, c.if-operations_in-number.false)) c.in_ok-orders.ensures.ok
    (length-map c.in_ok-orders.orders.items (λ row. row.items) ∙ c.in_ok-orders.ensures.all ∙ ap length c.deref.ensures.value ∙ c.in_ok-agenda.ensures.count)
    ) why

pub returns-in_default-clause-scheduled : goal.returns-in_default-clause-scheduled
returns-in_default-clause-scheduled c = λ s is. never_both c.args.net.now s (fault.Limit limit.Schedule) is (inl (too_long c.args.net.now c.net_words_are_stored.ensures c.in_default.ensures.none, refl))

pub returns-in_default-clause-only : goal.returns-in_default-clause-only
returns-in_default-clause-only c = λ e why. one_refusal c.args.net.now e (fault.Limit limit.Schedule) why (inl (too_long c.args.net.now c.net_words_are_stored.ensures c.in_default.ensures.none, refl))

pub returns-then-operations_in-number-clause-scheduled : goal.returns-then-operations_in-number-clause-scheduled
returns-then-operations_in-number-clause-scheduled c = λ s is. never_both c.args.net.now s (fault.Limit limit.Events) is
    (inr ((c.in-Some.lengths.prefix, c.in-Some.lengths.period, c.in-Some.ensures.some, c.in-Some.ensures.short, omega (arith, c.operations_in.ensures, c.number.ensures, c.if-operations_in-number.true)), refl))

pub returns-then-operations_in-number-clause-only : goal.returns-then-operations_in-number-clause-only
returns-then-operations_in-number-clause-only c = λ e why. one_refusal c.args.net.now e (fault.Limit limit.Events) why
    (inr ((c.in-Some.lengths.prefix, c.in-Some.lengths.period, c.in-Some.ensures.some, c.in-Some.ensures.short, omega (arith, c.operations_in.ensures, c.number.ensures, c.if-operations_in-number.true)), refl))

pub returns-in_err-orders-clause-scheduled : goal.returns-in_err-orders-clause-scheduled
returns-in_err-orders-clause-scheduled c =
    let net = c.args.net.now in
    let e = c.in_err-orders.field-0.0 in
    let allowed : IsAllowed net c.in-Some.lengths.prefix c.in-Some.lengths.period = record {
      lengths = c.in-Some.ensures.some;
      short = c.in-Some.ensures.short;
      few = omega (arith, c.operations_in.ensures, c.number.ensures, c.if-operations_in-number.false);
    } in
    let instants = ap length c.deref.ensures.value ∙ c.in_ok-agenda.ensures.count in
    let why = stops net c.in-Some.lengths.prefix c.in-Some.lengths.period _ e allowed instants c.in_err-orders.ensures.refused in
    λ s is. fails_so c.from_residual-in_err-orders.result e _ (λ f. f ≡ fault.OutOfMemory) c.from_residual-in_err-orders.ensures.1 (never_both net s e is why)

pub returns-in_err-orders-clause-only : goal.returns-in_err-orders-clause-only
returns-in_err-orders-clause-only c =
    let net = c.args.net.now in
    let e = c.in_err-orders.field-0.0 in
    let allowed : IsAllowed net c.in-Some.lengths.prefix c.in-Some.lengths.period = record {
      lengths = c.in-Some.ensures.some;
      short = c.in-Some.ensures.short;
      few = omega (arith, c.operations_in.ensures, c.number.ensures, c.if-operations_in-number.false);
    } in
    let instants = ap length c.deref.ensures.value ∙ c.in_ok-agenda.ensures.count in
    let why = stops net c.in-Some.lengths.prefix c.in-Some.lengths.period _ e allowed instants c.in_err-orders.ensures.refused in
    λ f other. fails_so c.from_residual-in_err-orders.result e _ (TellSame f) c.from_residual-in_err-orders.ensures.1 (one_refusal net f e other why)
