-- A text has one answer, its net and its schedule included.
use Rattle.std.proofs.Common.{ℕ, ◌≡◌, List, refl, ap, sym, ◌∙◌, subst, inl, inr}
use Rattle.std.specs.Prelude.{◌⊎◌}
use Rattle.lucy_host.specs.Operators.{Operator}
use Rattle.lucy_place.specs.declared.placed.PlacedNode.{PlacedNode}
use Rattle.lucy_place.specs.Proper.{AreProper}
use Rattle.lucy_clock.specs.declared.node_clock.NodeClock.{NodeClock}
use Rattle.lucy_net.specs.declared.net.Net.{Net}
use Rattle.lucy_net.specs.declared.error.CauseFault.{CauseFault}
use Rattle.lucy_net.specs.declared.error.CauseFault.TheVariants as cause
use Rattle.lucy_net.specs.Schedules.{Timetable, IsScheduleOf, RefusesTimetable as RefusesSchedule}
use Rattle.lucy_flat.proofs.OneNet.{one_net, one_limit, never_both as net_kept}
use Rattle.lucy_net.proofs.OneAnswer.{never_both as schedule_kept, one_refusal as one_fault}
use Rattle.lucy_program.specs.declared.options.Options.{Options}
use Rattle.lucy_program.specs.declared.accepted.Accepted.{Accepted}
use Rattle.lucy_front.specs.declared.refusal.Refusal.{Refusal}
use Rattle.lucy_front.specs.declared.refusal.Refusal.TheVariants.{Syntax, Names, Types, Node, Cause, Limit as LimitPassed, OutOfMemory}
use Rattle.lucy_program.specs.Accepting.{IsAccepted}
use Rattle.lucy_front.specs.Refusing.{Refuses}
use Rattle.lucy_program.specs.Scheduled.{IsNetOf, main_inputs, main_outputs}
use Rattle.lucy_front.specs.Unscheduled.{RefusesNet}
use Rattle.lucy_front.specs.OneAnswer.{AreAlike}
use Rattle.lucy_program.proofs.AcceptedLaws.{text_proper}
use Rattle.lucy_front.proofs.OneAnswer.{one_program, never_both, one_refusal}

module _ (nodes : List PlacedNode) (clocks : List NodeClock) (proper : AreProper nodes) where
  net_one : (net other : Net) → IsNetOf nodes clocks net → IsNetOf nodes clocks other → net ≡ other
  net_one net other x y = one_net nodes clocks proper net other x.flat y.flat

  fault_kept : (net other : Net) (s : Timetable) (e : CauseFault) → IsNetOf nodes clocks net → IsScheduleOf net s → IsNetOf nodes clocks other → RefusesSchedule other e → e ≡ cause.OutOfMemory
  fault_kept net other s e x is y h = schedule_kept net s e is (subst (λ n. RefusesSchedule n e) (net_one other net y x) h)

  -- a program with a net and a schedule isn't refused for them
  net_refused : (net : Net) (s : Timetable) (r : Refusal) → IsNetOf nodes clocks net → IsScheduleOf net s → RefusesNet nodes clocks r → r ≡ OutOfMemory
  net_refused net s (LimitPassed l) x is (inl h) = absurd (net_kept nodes clocks net l proper x.flat x.few_bits h)
  net_refused net s (LimitPassed l) x is (inr h) = let e : cause.Limit l ≡ cause.OutOfMemory = fault_kept net h.0 s (cause.Limit l) x is h.1 h.2 in cc e
  net_refused net s (Cause other names instant items) x is h =
      let e : cause.Cycle instant items ≡ cause.OutOfMemory = fault_kept net other s (cause.Cycle instant items) x is h.0 h.1 in cc e
  net_refused net s (Syntax e) x is h = absurd h
  net_refused net s (Names e) x is h = absurd h
  net_refused net s (Types placed node path) x is h = absurd h
  net_refused net s (Node placed node fault) x is h = absurd h
  net_refused net s OutOfMemory x is h = refl

  -- and is refused for them in one way
  nets_alike : (r s : Refusal) → RefusesNet nodes clocks r → RefusesNet nodes clocks s → (r ≡ OutOfMemory) ⊎ (s ≡ OutOfMemory) ⊎ AreAlike r s
  nets_alike (LimitPassed l) (LimitPassed m) (inl h) (inl k) = inr (inr (ap LimitPassed (one_limit nodes clocks l m h k)))
  nets_alike (LimitPassed l) (LimitPassed m) (inl h) (inr k) = absurd (net_kept nodes clocks k.0 l proper k.1.flat k.1.few_bits h)
  nets_alike (LimitPassed l) (LimitPassed m) (inr h) (inl k) = absurd (net_kept nodes clocks h.0 m proper h.1.flat h.1.few_bits k)
  nets_alike (LimitPassed l) (LimitPassed m) (inr h) (inr k) =
      inr (inr (ap LimitPassed (one_fault k.0 (cause.Limit l) (cause.Limit m) (subst (λ n. RefusesSchedule n (cause.Limit l)) (net_one h.0 k.0 h.1 k.1) h.2) k.2)))
  nets_alike (LimitPassed l) (Cause net names instant items) (inl h) k = absurd (net_kept nodes clocks net l proper k.0.flat k.0.few_bits h)
  nets_alike (LimitPassed l) (Cause net names instant items) (inr h) k =
      absurd (one_fault net (cause.Limit l) (cause.Cycle instant items) (subst (λ n. RefusesSchedule n (cause.Limit l)) (net_one h.0 net h.1 k.0) h.2) k.1)
  nets_alike (Cause net names instant items) (LimitPassed l) h (inl k) = absurd (net_kept nodes clocks net l proper h.0.flat h.0.few_bits k)
  nets_alike (Cause net names instant items) (LimitPassed l) h (inr k) =
      absurd (one_fault net (cause.Cycle instant items) (cause.Limit l) h.1 (subst (λ n. RefusesSchedule n (cause.Limit l)) (net_one k.0 net k.1 h.0) k.2))
  nets_alike (Cause net names instant items) (Cause other texts at way) h k =
      let same : net ≡ other = net_one net other h.0 k.0 in
      inr (inr (same, one_fault other (cause.Cycle instant items) (cause.Cycle at way) (subst (λ n. RefusesSchedule n (cause.Cycle instant items)) same h.1) k.1))
  nets_alike (Syntax e) s h k = absurd h
  nets_alike (Names e) s h k = absurd h
  nets_alike (Types placed node path) s h k = absurd h
  nets_alike (Node placed node fault) s h k = absurd h
  nets_alike OutOfMemory s h k = inl refl
  nets_alike (LimitPassed l) (Syntax e) h k = absurd k
  nets_alike (LimitPassed l) (Names e) h k = absurd k
  nets_alike (LimitPassed l) (Types placed node path) h k = absurd k
  nets_alike (LimitPassed l) (Node placed node fault) h k = absurd k
  nets_alike (LimitPassed l) OutOfMemory h k = inr (inl refl)
  nets_alike (Cause net names instant items) (Syntax e) h k = absurd k
  nets_alike (Cause net names instant items) (Names e) h k = absurd k
  nets_alike (Cause net names instant items) (Types placed node path) h k = absurd k
  nets_alike (Cause net names instant items) (Node placed node fault) h k = absurd k
  nets_alike (Cause net names instant items) OutOfMemory h k = inr (inl refl)

-- what is refused for its net has one program
moved : (old nodes : List PlacedNode) (was clocks : List NodeClock) (r : Refusal) → RefusesNet old was r → old ≡ nodes → was ≡ clocks → RefusesNet nodes clocks r
moved old nodes was clocks r x e f = subst (λ ns. RefusesNet ns clocks r) e (subst (λ cs. RefusesNet old cs r) f x)

-- no text is accepted and refused, unless memory ran out
pub accepted_kept : (ops : List Operator) (o : Options) (text : List ℕ) (a : Accepted) (r : Refusal) → IsAccepted ops o text a → Refuses ops o text r → r ≡ OutOfMemory
accepted_kept ops o text a r is (inl h) = never_both ops o text a.placed a.typed a.clocks.items r is.clocked h
accepted_kept ops o text a r is (inr h) =
    let same = one_program ops o text h.0 a.placed h.1 a.typed h.2 a.clocks.items h.3 is.clocked in
    net_refused a.placed.nodes a.clocks.items (text_proper ops o text a.placed is.clocked.program.program) a.net a.schedule r is.net is.schedule
    (moved h.0.nodes a.placed.nodes h.2 a.clocks.items r h.4 (ap (λ p. p.nodes) same.0) same.2)

-- and a text is refused in one way
pub refused_alike : (ops : List Operator) (o : Options) (text : List ℕ) (r s : Refusal) → Refuses ops o text r → Refuses ops o text s → (r ≡ OutOfMemory) ⊎ (s ≡ OutOfMemory) ⊎ AreAlike r s
refused_alike ops o text r s (inl h) (inl k) = one_refusal ops o text r s h k
refused_alike ops o text r s (inl h) (inr k) = inl (never_both ops o text k.0 k.1 k.2 r k.3 h)
refused_alike ops o text r s (inr h) (inl k) = inr (inl (never_both ops o text h.0 h.1 h.2 s h.3 k))
refused_alike ops o text r s (inr h) (inr k) =
    let same = one_program ops o text h.0 k.0 h.1 k.1 h.2 k.2 h.3 k.3 in
    nets_alike k.0.nodes k.2 (text_proper ops o text k.0 k.3.program.program) r s (moved h.0.nodes k.0.nodes h.2 k.2 r h.4 (ap (λ p. p.nodes) same.0) same.2) k.4

-- and is accepted as one thing
pub accepted_once : (ops : List Operator) (o : Options) (text : List ℕ) (a b : Accepted) → IsAccepted ops o text a → IsAccepted ops o text b →
    (a.placed ≡ b.placed) × (a.typed ≡ b.typed) × (a.clocks.items ≡ b.clocks.items) × (a.net ≡ b.net) × (a.inputs.items ≡ b.inputs.items) × (a.outputs.items ≡ b.outputs.items)
accepted_once ops o text a b x y =
    let same = one_program ops o text a.placed b.placed a.typed b.typed a.clocks.items b.clocks.items x.clocked y.clocked in
    let nodes : a.placed.nodes ≡ b.placed.nodes = ap (λ p. p.nodes) same.0 in
    let net : IsNetOf b.placed.nodes b.clocks.items a.net = subst (λ ns. IsNetOf ns b.clocks.items a.net) nodes (subst (λ cs. IsNetOf a.placed.nodes cs a.net) same.2 x.net) in (
      same.0,
      same.1,
      same.2,
      net_one b.placed.nodes b.clocks.items (text_proper ops o text b.placed y.clocked.program.program) a.net b.net net y.net,
      x.inputs ∙ ap (λ ns. main_inputs ns a.typed) nodes ∙ ap (main_inputs b.placed.nodes) same.1 ∙ sym y.inputs,
      x.outputs ∙ ap (λ ns. main_outputs ns a.typed a.clocks.items) nodes ∙ ap (λ ts. main_outputs b.placed.nodes ts a.clocks.items) same.1 ∙ ap (main_outputs b.placed.nodes b.typed) same.2 ∙ sym y.outputs,
    )
