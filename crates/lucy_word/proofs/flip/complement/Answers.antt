use Rattle.std.proofs.Common.{not, ap, sym, ◌∙◌}
use Rattle.lucy_word.specs.Bits.{Bits, bit_at}
use Rattle.lucy_word.specs.Complement.{turned}
use Rattle.lucy_word.proofs.BitsLaws.{period_some}
use Rattle.lucy_word.proofs.ComplementLaws.{is_complement}
use Rattle.lucy_word.proofs.flip.complement.Goals as goal

pub returns-clause-ok : goal.returns-clause-ok
returns-clause-ok c i h =
    let v : Bits = record { prefix = c.a.inside.prefix; period = c.a.inside.period } in
    ap (λ w. bit_at w i) (c.in_ok-turned.ensures.is ∙ ap turned (sym c.a.view_is)) ∙ is_complement v (period_some v c.a.invariant.0) i h
    ∙ ap (λ w. not (bit_at w i)) c.a.view_is
