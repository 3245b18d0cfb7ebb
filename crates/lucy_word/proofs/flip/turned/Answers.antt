use Rattle.std.proofs.Common.{◌≡◌, ◌<◌, Bool, List, length, map, not, sym, subst}
use Rattle.lucy_word.specs.Bits.{Bits, ones_in}
use Rattle.lucy_word.specs.Complement.{turned}
use Rattle.lucy_word.specs.Stored.{IsStored}
use Rattle.lucy_word.proofs.BitsLaws.{period_some}
use Rattle.lucy_word.proofs.ComplementLaws.{turned_stored}
use Rattle.lucy_word.proofs.flip.turned.Goals as goal

stored_of : (v : Bits) (a b : List Bool) → a ≡ map not v.prefix → b ≡ map not v.period → IsStored (turned v) → IsStored (record { prefix = a; period = b })
stored_of v a b e f h =
    let P : List Bool → Type 0 = λ x. IsStored (record { prefix = x; period = map not v.period }) in
    let Q : List Bool → Type 0 = λ x. IsStored (record { prefix = a; period = x }) in
    subst Q (sym f) (subst P (sym e) h)

stored : (c : goal.In_ok-period) → IsStored (record { prefix = c.in_ok-prefix.prefix; period = c.in_ok-period.period })
stored c =
    let v : Bits = record { prefix = c.word.inside.prefix; period = c.word.inside.period } in
    let is : IsStored v = record { word = c.word.invariant.0; nonempty = period_some v c.word.invariant.0; short = c.word.invariant.1; shortest = c.word.invariant.2 } in
    let zero : ones_in v.period < length v.period = subst (λ (w : Bits). ones_in w.period < length w.period) (sym c.word.view_is) c.requires in
    stored_of v _ _ c.in_ok-prefix.ensures c.in_ok-period.ensures (turned_stored v zero is)

pub invariant_of-result : goal.invariant_of-result
invariant_of-result c = let s = stored c in (s.word, s.short, s.shortest)

pub returns-clause-stored : goal.returns-clause-stored
returns-clause-stored c = stored c
