-- What a reader of an input is seen as, and what a call of it answers.
use Rattle.std.specs.Prelude.{ℕ, ◌+◌, ◌≤◌, ◌≡◌, ◌⊎◌, Bool, true, false, List, [], ◌++◌, length, Option, Some, Result, Ok, Err}
use Rattle.lucy_text.specs.Outside.{SeenSource, GaveBytes, Rose}
use Rattle.lucy_lines.specs.declared.input.InputSpec.{InputSpec}
use Rattle.lucy_lines.specs.declared.reader.Line as line_type
use Rattle.lucy_lines.specs.declared.reader.Line.TheVariants.{Item, End}
use Rattle.lucy_lines.specs.declared.reader.TextFault.{TextFault}
use Rattle.lucy_lines.specs.declared.reader.TextFault.TheVariants.{BadLine, UnknownStream, BadValue, ReadFault, TooLong}
use Rattle.lucy_lines.specs.Fronts.{most_bytes}
use Rattle.lucy_lines.specs.Cuts.{Held, bytes_taken, with_more}
use Rattle.lucy_lines.specs.Nexts.{Answer, Gives, Refuses, Wants, Next}

-- A reader of these inputs: the bytes that it holds, whether a read has met their end, and whether there is nothing more to ask for.
pub record ReaderState : Type 0 where
  pub inputs : List InputSpec
  pub held : Held
  pub closed : Bool
  pub ended : Bool

-- a reader of these inputs that has read nothing
abbrev pub new_reader : List InputSpec → ReaderState
new_reader inputs = record { inputs = inputs; held = record { lines = 0; used = 0; rest = [] }; closed = false; ended = false }

-- the answer of a call, before which this was held with the bytes that the call took
abbrev pub AnswersNext : List InputSpec → Bool → Held → Held → Result line_type.Line TextFault → Type 0
AnswersNext inputs closed was now (Ok (Item s v)) = Next inputs closed was (Gives (record { stream = s; value = v }) now)
AnswersNext inputs closed was now (Ok End) = (closed ≡ true) × Next inputs closed was (Wants now)
AnswersNext inputs closed was now (Err ReadFault) = (closed ≡ false) × Next inputs closed was (Wants now)
AnswersNext inputs closed was now (Err (BadLine n)) = Next inputs closed was (Refuses (BadLine n))
AnswersNext inputs closed was now (Err (UnknownStream n)) = Next inputs closed was (Refuses (UnknownStream n))
AnswersNext inputs closed was now (Err (BadValue n)) = Next inputs closed was (Refuses (BadValue n))
AnswersNext inputs closed was now (Err TooLong) = Next inputs closed was (Refuses TooLong)

-- the most bytes that one read takes
abbrev pub most_read : ℕ
most_read = 65536

-- bytes were asked for where the bytes before those of the last read decided nothing
abbrev pub Asked : ReaderState → List ℕ → Type 0
Asked was taken = (early late : List ℕ) × (h : Held) × (taken ≡ early ++ late) × (length late ≤ most_read) × Next was.inputs false (with_more was.held early) (Wants h)

-- A call took these bytes, all of which are counted, and answered by what was held with them. Once the end was met a call takes
-- none.
pub record Took (was now : ReaderState) (before after : SeenSource) (result : Result line_type.Line TextFault) (taken : List ℕ) : Type 0 where
  pub bytes : GaveBytes before after taken
  pub quiet : was.closed ≡ true → (taken ≡ []) × (now.closed ≡ true)
  pub needed : (taken ≡ []) ⊎ Asked was taken
  pub counted : bytes_taken now.held ≡ bytes_taken was.held + length taken
  pub answer : AnswersNext was.inputs now.closed (with_more was.held taken) now.held result

-- How many bytes may have been taken in all where this is answered: as many as an input may have, and one more where a line was
-- decided.
abbrev pub most_taken : Result line_type.Line TextFault → ℕ
most_taken (Ok End) = most_bytes
most_taken (Err ReadFault) = most_bytes
most_taken answer = most_bytes + 1

-- what holds of the stream of an item, where an item is answered
abbrev pub OfItem : (Holds : ℕ → Type 0) → Result line_type.Line TextFault → Type 0
OfItem Holds (Ok (Item s v)) = Holds s
OfItem Holds answer = Unit {0}

-- the answer needs no more bytes
abbrev pub IsDecided : Answer → Type 0
IsDecided (Wants h) = ⊥
IsDecided a = Unit {0}

-- nothing follows the answer
abbrev pub IsLast : Result line_type.Line TextFault → Type 0
IsLast (Ok (Item s v)) = ⊥
IsLast r = Unit {0}

-- the count has risen where the answer is a read fault, and stands still where it isn't
abbrev pub Blames : (before now : ℕ) → Result line_type.Line TextFault → Type 0
Blames before now (Err ReadFault) = Rose before now
Blames before now r = now ≡ before

-- where no call of the source had stopped, none has; told of every answer but a read fault
abbrev pub KeepsGoing : (before now : Option ℕ) → Result line_type.Line TextFault → Type 0
KeepsGoing before now (Err ReadFault) = Unit {0}
KeepsGoing before now r = before ≡ Some 0 → now ≡ Some 0
