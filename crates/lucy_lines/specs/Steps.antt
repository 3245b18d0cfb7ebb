-- The parts of a call of a reader: what the line at the front of what is held gives, what is held answers, and one read.
use Rattle.std.specs.Prelude.{ℕ, ◌≤◌, ◌≡◌, ◌⊎◌, true, false, List, length, take, Option, Some, None, Result, Ok, Err}
use Rattle.lucy_text.specs.Outside.{SeenSource, GaveBytes, HasEnded}
use Rattle.lucy_lines.specs.declared.front.Front.TheVariants as front
use Rattle.lucy_lines.specs.declared.kind.Kind as kind_type
use Rattle.lucy_lines.specs.declared.kind.Kind.TheVariants as kind
use Rattle.lucy_lines.specs.declared.reader.Line as line_type
use Rattle.lucy_lines.specs.declared.reader.Line.TheVariants.{Item, End}
use Rattle.lucy_lines.specs.declared.reader.Step as step_type
use Rattle.lucy_lines.specs.declared.reader.Step.TheVariants as step
use Rattle.lucy_lines.specs.declared.reader.TextFault.{TextFault}
use Rattle.lucy_lines.specs.declared.reader.TextFault.TheVariants.{BadLine, UnknownStream, BadValue}
use Rattle.lucy_lines.specs.Fronts.{front_of}
use Rattle.lucy_lines.specs.Kinds.{IsKind}
use Rattle.lucy_lines.specs.Cuts.{Held, past, with_more}
use Rattle.lucy_lines.specs.Nexts.{Gives, Refuses, Wants, Next}
use Rattle.lucy_lines.specs.Reading.{ReaderState, most_read}

-- the step of the line of the number, which says this
abbrev pub step_at : ℕ → kind_type.Kind → step_type.Step
step_at n kind.Blank = step.Blank
step_at n (kind.Item s v) = step.Item s v
step_at n kind.NotTwo = step.Fault (BadLine n)
step_at n kind.Unknown = step.Fault (UnknownStream n)
step_at n kind.NotValue = step.Fault (BadValue n)

-- the line at the front of what is held has so many bytes before its end, so many with it, and says this
pub record LineSays (r : ReaderState) (k : kind_type.Kind) (content length : ℕ) : Type 0 where
  pub line : front_of r.closed r.held.used r.held.rest ≡ front.Line content length
  pub said : IsKind r.inputs (take content r.held.rest) k

-- the reader behind a line of so many bytes
abbrev pub behind : ReaderState → ℕ → ReaderState
behind r length = record r { held = past r.held length }

-- what the line at the front of what is held gives
abbrev pub Steps : (old new : ReaderState) → step_type.Step → Type 0
Steps old new step.Blank = (content length : ℕ) × LineSays old kind.Blank content length × (new ≡ behind old length)
Steps old new (step.Item s v) = (content length : ℕ) × LineSays old (kind.Item s v) content length × (new ≡ behind old length)
Steps old new (step.Fault f) = Next old.inputs old.closed old.held (Refuses f) × (new ≡ record old { held = new.held })
Steps old new step.Open = (front_of old.closed old.held.used old.held.rest ≡ front.Open) × (new ≡ old)

-- what the bytes that are held answer, where they answer
abbrev pub HeldAnswers : ReaderState → Held → Option (Result line_type.Line TextFault) → Type 0
HeldAnswers r h None = (r.closed ≡ false) × Next r.inputs false r.held (Wants h)
HeldAnswers r h (Some (Ok (Item s v))) = Next r.inputs r.closed r.held (Gives (record { stream = s; value = v }) h)
HeldAnswers r h (Some (Ok End)) = (r.closed ≡ true) × Next r.inputs true r.held (Wants h)
HeldAnswers r h (Some (Err f)) = Next r.inputs r.closed r.held (Refuses f)

-- One read: it took these bytes behind those that were held, or none at the end, which is noted then.
pub record IsOneRead (old new : ReaderState) (before after : SeenSource) (taken : List ℕ) : Type 0 where
  pub bytes : GaveBytes before after taken
  pub few : length taken ≤ most_read
  pub held : new ≡ record old { held = with_more old.held taken; closed = new.closed }
  pub progress : (new.closed ≡ false) × (1 ≤ length taken) ⊎ ((new.closed ≡ true) × HasEnded after)
