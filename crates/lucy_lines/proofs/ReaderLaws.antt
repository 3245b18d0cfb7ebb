-- What the steps of a reader are.
use Rattle.std.proofs.Common.{◌≡◌, ℕ, ◌+◌, ◌<◌, Bool, List, [], ◌∷◌, length, take, drop, length-drop, refl, ap, sym, ◌∙◌, subst, inl, inr, arith}
use Rattle.std.specs.Prelude.{ℤ}
use Rattle.std.specs.Int.{w64}
use Rattle.std.proofs.Math.Facts.{sfits_lit}
use mir.Val.{SFits as FitsSigned}
use Rattle.lucy_host.specs.declared.data_type.DataType.{DataType}
use Rattle.lucy_host.specs.declared.data_type.DataType.TheVariants as data_type
use Rattle.lucy_lines.specs.declared.input.InputSpec.{InputSpec}
use Rattle.lucy_lines.specs.declared.front.Front.TheVariants as front
use Rattle.lucy_lines.specs.declared.kind.Kind.{Kind}
use Rattle.lucy_lines.specs.declared.kind.Kind.TheVariants as kind
use Rattle.lucy_lines.specs.declared.reader.Step.{Step}
use Rattle.lucy_lines.specs.declared.reader.Step.TheVariants as step
use Rattle.lucy_lines.specs.Fronts.{front_of}
use Rattle.lucy_lines.specs.Values.{SpellsValue}
use Rattle.lucy_lines.specs.Fields.{line_fields}
use Rattle.lucy_lines.specs.Kinds.{IsKind, FieldsSay}
use Rattle.lucy_lines.specs.Cuts.{Held}
use Rattle.lucy_lines.specs.Nexts.{Answer, Gives, Wants, Next, blank, item, refused, wants}
use Rattle.lucy_lines.proofs.FrontLaws.{line_within}
use Rattle.lucy_lines.specs.Reading.{ReaderState}
use Rattle.lucy_lines.specs.Steps.{Steps, step_at, behind}

pub spells_fits : (holds : DataType) (bytes : List ℕ) (v : ℤ) → SpellsValue holds bytes v → FitsSigned w64 v
spells_fits data_type.Int bytes v h = let P : ℤ → Type 0 = λ u. FitsSigned w64 u in subst P (sym h.2) h.1
spells_fits data_type.Bool bytes v (inl h) = let P : ℤ → Type 0 = λ u. FitsSigned w64 u in subst P (sym h.1) (sfits_lit tt)
spells_fits data_type.Bool bytes v (inr h) = let P : ℤ → Type 0 = λ u. FitsSigned w64 u in subst P (sym h.1) (sfits_lit tt)

fields_fit : (inputs : List InputSpec) (fs : List (List ℕ)) (s : ℕ) (v : ℤ) → FieldsSay inputs fs (kind.Item s v) → FitsSigned w64 v
fields_fit inputs [] s v h = cc
fields_fit inputs (a ∷ []) s v h = cc
fields_fit inputs (a ∷ b ∷ []) s v (i, p, q) = spells_fits i.holds b v q
fields_fit inputs (a ∷ b ∷ c ∷ fs) s v h = cc

pub kind_fits : (inputs : List InputSpec) (line : List ℕ) (s : ℕ) (v : ℤ) → IsKind inputs line (kind.Item s v) → FitsSigned w64 v
kind_fits inputs line s v h = fields_fit inputs (line_fields line) s v h

pub line_steps : (old new : ReaderState) (content length : ℕ) (said : Kind) → front_of old.closed old.held.used old.held.rest ≡ front.Line content length →
    IsKind old.inputs (take content old.held.rest) said → new ≡ behind old length → Steps old new (step_at (old.held.lines + 1) said)
line_steps old new content length kind.Blank e k n = (content, length, record { line = e; said = k }, n)
line_steps old new content length (kind.Item s v) e k n = (content, length, record { line = e; said = k }, n)
line_steps old new content length kind.NotTwo e k n = (refused kind.NotTwo e k refl, n ∙ ap (λ h. record old { held = h }) (sym (ap (λ r. r.held) n)))
line_steps old new content length kind.Unknown e k n = (refused kind.Unknown e k refl, n ∙ ap (λ h. record old { held = h }) (sym (ap (λ r. r.held) n)))
line_steps old new content length kind.NotValue e k n = (refused kind.NotValue e k refl, n ∙ ap (λ h. record old { held = h }) (sym (ap (λ r. r.held) n)))

-- what a line says is the same of equal inputs and equal bytes
pub kind_same : (inputs others : List InputSpec) (a b : List ℕ) (content : ℕ) (k : Kind) → inputs ≡ others → a ≡ b → IsKind inputs (take content a) k → IsKind others (take content b) k
kind_same inputs others a b content k e f h =
    let P : List InputSpec → Type 0 = λ u. IsKind u (take content b) k in
    let Q : List ℕ → Type 0 = λ u. IsKind inputs (take content u) k in
    subst P e (subst Q f h)

-- the steps of readers that are seen alike
pub steps_same : (old other new : ReaderState) (s t : Step) → old ≡ other → s ≡ t → Steps old new s → Steps other new t
steps_same old other new s t e f h =
    let P : ReaderState → Type 0 = λ u. Steps u new t in
    let Q : Step → Type 0 = λ u. Steps old new u in
    subst P e (subst Q f h)

-- a line of blanks uses bytes
pub blank_smaller : (old new : ReaderState) → Steps old new step.Blank → length new.held.rest < length old.held.rest
blank_smaller old new (content, n, says, e) =
    let w = line_within old.closed old.held.used old.held.rest content n says.line in
    let same : length new.held.rest ≡ length (drop n old.held.rest) = ap (λ r. length r.held.rest) e in
    let cut = length-drop n old.held.rest in
    omega (arith, w.some, w.whole)

pub blank_kept : (start old new : ReaderState) → Steps old new step.Blank → old ≡ record start { held = old.held } → new ≡ record start { held = new.held }
blank_kept start old new (content, n, says, e) k =
    let f : Held → ReaderState = λ h. record start { held = h } in
    e ∙ ap (λ r. behind r n) k ∙ ap f (sym (ap (λ r. r.held) e))

-- what comes next behind a line of blanks comes next
pub blank_next : (old new : ReaderState) → Steps old new step.Blank → (a : Answer) → Next new.inputs new.closed new.held a → Next old.inputs old.closed old.held a
blank_next old new (content, n, says, e) a next =
    let P : ReaderState → Type 0 = λ r. Next r.inputs r.closed r.held a in
    blank says.line says.said (subst P e next)

-- an item comes next
pub item_next : (old new : ReaderState) (s : ℕ) (v w : ℤ) → (FitsSigned w64 v → w ≡ v) → Steps old new (step.Item s v) → Next old.inputs old.closed old.held (Gives (record { stream = s; value = w }) new.held)
item_next old new s v w same (content, n, says, e) =
    let P : Held → Type 0 = λ h. Next old.inputs old.closed old.held (Gives (record { stream = s; value = v }) h) in
    let Q : ℤ → Type 0 = λ u. Next old.inputs old.closed old.held (Gives (record { stream = s; value = u }) new.held) in
    subst Q (sym (same (kind_fits old.inputs (take content old.held.rest) s v says.said))) (subst P (sym (ap (λ r. r.held) e)) (item says.line says.said))

-- nothing more is decided
pub open_next : (start old new inside : ReaderState) (b : Bool) → old ≡ record start { held = old.held } → ((a : Answer) → Next old.inputs old.closed old.held a → Next start.inputs start.closed start.held a) →
    Steps old new step.Open → inside ≡ new → inside.closed ≡ b → (start.closed ≡ b) × Next start.inputs b start.held (Wants new.held)
open_next start old new inside b k passed (o, e) v c =
    let same : start.closed ≡ b = sym (ap (λ r. r.closed) k) ∙ sym (ap (λ r. r.closed) (v ∙ e)) ∙ c in
    let P : Held → Type 0 = λ h. Next start.inputs start.closed start.held (Wants h) in
    let Q : Bool → Type 0 = λ u. Next start.inputs u start.held (Wants new.held) in
    (same, subst Q same (subst P (sym (ap (λ r. r.held) e)) (passed (Wants old.held) (wants o))))
