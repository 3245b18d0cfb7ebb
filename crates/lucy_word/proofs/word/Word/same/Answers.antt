use Rattle.std.proofs.Common.{◌≡◌, ◌<◌, length, ap, sym, ◌∙◌}
use Rattle.std.proofs.lemmas.Bool.{false≢true}
use Rattle.lucy_word.specs.Bits.{Bits, bit_at}
use Rattle.lucy_word.specs.Shortest.{Same, IsShortest}
use Rattle.lucy_word.proofs.BitsLaws.{period_some}
use Rattle.lucy_word.proofs.ShortLaws.{shortest_one}
use Rattle.lucy_word.proofs.word.Word.same.Goals as goal

-- words of equal parts are the same
same_by : (v w : Bits) → v ≡ w → Same v w
same_by v w e i h = ap (λ u. bit_at u i) e

parts : (v w : Bits) → v.prefix ≡ w.prefix → v.period ≡ w.period → v ≡ w
parts v w e f = ap (λ x. let r : Bits = record { prefix = x; period = v.period } in r) e ∙ ap (λ x. let r : Bits = record { prefix = w.prefix; period = x } in r) f

-- what the parts of two words in shortest form are, where the words are the same
one : (v w v' w' : Bits) → v ≡ v' → w ≡ w' → IsShortest v → IsShortest w → 0 < length v.period → 0 < length w.period → Same v' w' → v ≡ w
one v w v' w' e f short_v short_w some_v some_w same =
    shortest_one v w short_v short_w some_v some_w (λ i h. ap (λ u. bit_at u i) e ∙ same i h ∙ ap (λ u. bit_at u i) (sym f))

pub returns-then-same-clause-same : goal.returns-then-same-clause-same
returns-then-same-clause-same c =
    let v : Bits = record { prefix = c.self.inside.prefix; period = c.self.inside.period } in
    let w : Bits = record { prefix = c.other.inside.prefix; period = c.other.inside.period } in (
      λ is. same_by _ _ (sym c.self.view_is ∙ parts v w (c.same.ensures.0 c.if-same.true) (c.same-then-same.ensures.0 is) ∙ c.other.view_is),
      λ same. c.same-then-same.ensures.1
          (ap (λ u. u.period)
          (one v w _ _ c.self.view_is c.other.view_is c.self.invariant.2 c.other.invariant.2 (period_some v c.self.invariant.0) (period_some w c.other.invariant.0) same)),
    )

pub returns-then-same-clause-equal : goal.returns-then-same-clause-equal
returns-then-same-clause-equal c =
    let v : Bits = record { prefix = c.self.inside.prefix; period = c.self.inside.period } in
    let w : Bits = record { prefix = c.other.inside.prefix; period = c.other.inside.period } in (
      λ is. sym c.self.view_is ∙ parts v w (c.same.ensures.0 c.if-same.true) (c.same-then-same.ensures.0 is) ∙ c.other.view_is,
      λ e. c.same-then-same.ensures.1 (ap (λ u. u.period) (c.self.view_is ∙ e ∙ sym c.other.view_is)),
    )

pub returns-else-same-clause-same : goal.returns-else-same-clause-same
returns-else-same-clause-same c =
    let v : Bits = record { prefix = c.self.inside.prefix; period = c.self.inside.period } in
    let w : Bits = record { prefix = c.other.inside.prefix; period = c.other.inside.period } in (
      λ is. absurd (false≢true (sym c.if-same.false ∙ is)),
      λ same. c.same.ensures.1
          (ap (λ u. u.prefix)
          (one v w _ _ c.self.view_is c.other.view_is c.self.invariant.2 c.other.invariant.2 (period_some v c.self.invariant.0) (period_some w c.other.invariant.0) same)),
    )

pub returns-else-same-clause-equal : goal.returns-else-same-clause-equal
returns-else-same-clause-equal c = (
  λ is. absurd (false≢true (sym c.if-same.false ∙ is)),
  λ e. c.same.ensures.1 (ap (λ u. u.prefix) (c.self.view_is ∙ e ∙ sym c.other.view_is)),
)
