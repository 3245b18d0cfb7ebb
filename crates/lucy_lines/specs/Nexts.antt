-- What comes next of what is held, answer by answer.
use Rattle.std.specs.Prelude.{ℕ, ℤ, ◌+◌, ◌≡◌, Bool, true, List, [], ◌∷◌, ◌++◌, Some, take}
use Rattle.lucy_lines.specs.declared.input.InputSpec.{InputSpec}
use Rattle.lucy_lines.specs.declared.front.Front.TheVariants.{Line, Long, Past, Open}
use Rattle.lucy_lines.specs.declared.kind.Kind.{Kind}
use Rattle.lucy_lines.specs.declared.kind.Kind.TheVariants as kind
use Rattle.lucy_lines.specs.declared.reader.TextFault.{TextFault}
use Rattle.lucy_lines.specs.declared.reader.TextFault.TheVariants.{BadLine, TooLong}
use Rattle.lucy_lines.specs.Fronts.{front_of}
use Rattle.lucy_lines.specs.Kinds.{IsKind}
use Rattle.lucy_lines.specs.Cuts.{Held, past, with_more, ItemOf, refusal}

-- what comes next: an item and what is held behind it, a refused line, or no decided line, and what is held then
pub data Answer : Type 0 where
  Gives : ItemOf → Held → Answer
  Refuses : TextFault → Answer
  Wants : Held → Answer

-- What comes next of what is held, which is all that there is where it is closed. Lines of blanks are passed.
pub data Next (inputs : List InputSpec) (closed : Bool) : Held → Answer → Type 0 where
  blank : {h : Held} {content length : ℕ} {a : Answer} → front_of closed h.used h.rest ≡ Line content length →
      IsKind inputs (take content h.rest) kind.Blank → Next inputs closed (past h length) a → Next inputs closed h a
  item : {h : Held} {content length stream : ℕ} {value : ℤ} → front_of closed h.used h.rest ≡ Line content length →
      IsKind inputs (take content h.rest) (kind.Item stream value) →
      Next inputs closed h (Gives (record { stream = stream; value = value }) (past h length))
  refused : {h : Held} {content length : ℕ} {f : TextFault} (k : Kind) → front_of closed h.used h.rest ≡ Line content length →
      IsKind inputs (take content h.rest) k → refusal (h.lines + 1) k ≡ Some f → Next inputs closed h (Refuses f)
  long : {h : Held} → front_of closed h.used h.rest ≡ Long → Next inputs closed h (Refuses (BadLine (h.lines + 1)))
  too_long : {h : Held} → front_of closed h.used h.rest ≡ Past → Next inputs closed h (Refuses TooLong)
  wants : {h : Held} → front_of closed h.used h.rest ≡ Open → Next inputs closed h (Wants h)

-- Items that came in turn, each from what was held with more bytes, until the end of the bytes was met. All bytes that were taken,
-- and what is held behind the items.
pub data CameInTurn (inputs : List InputSpec) : Bool → Held → List ItemOf → List ℕ → Held → Bool → Type 0 where
  first : {closed : Bool} {h : Held} → CameInTurn inputs closed h [] [] h closed
  turn : {was then now : Bool} {h g k : Held} {bytes taken : List ℕ} {i : ItemOf} {items : List ItemOf} →
      Next inputs then (with_more h bytes) (Gives i g) → (was ≡ true → (bytes ≡ []) × (then ≡ true)) →
      CameInTurn inputs then g items taken k now → CameInTurn inputs was h (i ∷ items) (bytes ++ taken) k now
