-- The report of an accepted text is one, and refusals are alike.
use Rattle.lucy_program.specs.declared.options.Options.{Options}
use Rattle.std.proofs.Common.{ℕ, ◌≡◌, List, inl, inr, ap, sym, ◌∙◌}
use Rattle.lucy_host.specs.Operators.{Operator}
use Rattle.lucy_program.specs.declared.accepted.Accepted.{Accepted}
use Rattle.lucy_front.specs.declared.refusal.Refusal.{Refusal}
use Rattle.lucy_program.specs.Accepting.{IsAccepted}
use Rattle.lucy_front.specs.OneAnswer.{AreAlike}
use Rattle.lucy_program.specs.Report.{report}
use Rattle.lucy_front.proofs.OneAnswer.{one_program}
use Rattle.lucy_front.proofs.OneAccepted.{accepted_kept, refused_alike}
use Rattle.lucy_app.specs.Check.{IsCheckOf, RefusesCheck}
use Rattle.lucy_app.proofs.Verdicts.{IsVerdict}

reports_one : (ops : List Operator) (o : Options) (text : List ℕ) (a b : Accepted) → IsAccepted ops o text a → IsAccepted ops o text b →
    report a.placed.nodes a.typed a.clocks.items ≡ report b.placed.nodes b.typed b.clocks.items
reports_one ops o text a b is also =
    let same = one_program ops o text a.placed b.placed a.typed b.typed a.clocks.items b.clocks.items is.clocked also.clocked in
    ap (λ p. report p.nodes a.typed a.clocks.items) same.0 ∙ ap (λ ts. report b.placed.nodes ts a.clocks.items) same.1 ∙ ap (report b.placed.nodes b.typed) same.2

pub checks_apart : (ops : List Operator) (o : Options) (text : List ℕ) (a : Accepted) (r : Refusal) → IsAccepted ops o text a → RefusesCheck ops o text r → ⊥
checks_apart ops o text a r is bad = bad.1 (accepted_kept ops o text a r is bad.0)

pub checks_alike : (ops : List Operator) (o : Options) (text : List ℕ) (r s : Refusal) → RefusesCheck ops o text r → RefusesCheck ops o text s → AreAlike r s
checks_alike ops o text r s h k = elim (refused_alike ops o text r s h.0 k.0) [ inl e ↦ absurd (h.1 e) | inr (inl e) ↦ absurd (k.1 e) | inr (inr alike) ↦ alike ]

pub check_verdict : (ops : List Operator) (o : Options) → IsVerdict (IsCheckOf ops o) (RefusesCheck ops o)
check_verdict ops o = record {
  one = λ text x y is also. is.2 ∙ reports_one ops o text is.0 also.0 is.1 also.1 ∙ sym also.2;
  apart = λ text x r is bad. checks_apart ops o text is.0 r is.1 bad;
  same = λ text r s h k. checks_alike ops o text r s h k;
}
