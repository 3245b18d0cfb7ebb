use Rattle.std.proofs.Common.{◌≡◌, ◌+◌, List, ℕ, refl, ap, sym, ◌∙◌, subst}
use Rattle.lucy_lines.specs.declared.front.Front.TheVariants.{Long, Past}
use Rattle.lucy_lines.specs.Fronts.{front_of}
use Rattle.lucy_lines.specs.Reading.{ReaderState}
use Rattle.lucy_lines.specs.Steps.{Steps}
use Rattle.lucy_lines.specs.declared.reader.Step.TheVariants as step
use Rattle.lucy_lines.specs.declared.reader.TextFault.TheVariants.{BadLine, TooLong}
use Rattle.lucy_lines.specs.Nexts.{long, too_long}
use Rattle.lucy_lines.proofs.reader.InputReader.step.Goals as goal

-- a line that is too long, of readers that are seen alike
long_step : (s r : ReaderState) (bytes : List ℕ) → s ≡ r → bytes ≡ s.held.rest → Long ≡ front_of s.closed s.held.used bytes → Steps r r (step.Fault (BadLine (s.held.lines + 1)))
long_step s r bytes e b h =
    let P : ReaderState → Type 0 = λ u. Steps u u (step.Fault (BadLine (s.held.lines + 1))) in
    let same = ap (front_of s.closed s.held.used) b in
    subst P e (long (sym same ∙ sym h), refl)

past_step : (s r : ReaderState) (bytes : List ℕ) → s ≡ r → bytes ≡ s.held.rest → Past ≡ front_of s.closed s.held.used bytes → Steps r r (step.Fault TooLong)
past_step s r bytes e b h =
    let P : ReaderState → Type 0 = λ u. Steps u u (step.Fault TooLong) in
    let same = ap (front_of s.closed s.held.used) b in
    subst P e (too_long (sym same ∙ sym h), refl)

pub returns-in-Long-clause-step : goal.returns-in-Long-clause-step
returns-in-Long-clause-step c = long_step _ _ _ c.self.view_is c.rest.ensures c.in-Long.ensures

pub returns-in-Past-clause-step : goal.returns-in-Past-clause-step
returns-in-Past-clause-step c = past_step _ _ _ c.self.view_is c.rest.ensures c.in-Past.ensures
