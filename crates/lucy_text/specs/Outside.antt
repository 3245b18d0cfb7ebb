-- What a source and a sink are seen as, what calls of them do to bytes, where those are told, and when they may fail.
use Rattle.std.specs.Prelude.{ℕ, zero, suc, ◌+◌, ◌-◌, ◌^◌, ◌≤◌, ◌≡◌, min, Bool, true, false, IsTrue, List, [], ◌++◌, length, take, Option, Some, None, IfSome, IsSomeAnd, Result, Ok, Err, OnOk, OnErr}
use Rattle.std.specs.Option.{option_map}

-- a source: the bytes left, where it tells them; whether it has met its end; how often it failed; and the calls from the first on
-- that met the end or failed, where it counts them
pub record SeenSource : Type 0 where
  pub left : Option (List ℕ)
  pub ended : Bool
  pub faults : ℕ
  pub since_stop : Option ℕ

-- a sink: the bytes written, where it tells them; how often it failed; and the calls from the first failed one on, where it counts
-- them
pub record SeenSink : Type 0 where
  pub written : Option (List ℕ)
  pub faults : ℕ
  pub since_stop : Option ℕ

-- what was written, where it is told, and then more bytes
abbrev pub appended : Option (List ℕ) → List ℕ → Option (List ℕ)
appended None more = None
appended (Some written) more = Some (written ++ more)

-- the source gave these bytes, which stood before what is left
abbrev pub GaveBytes : (before after : SeenSource) (bytes : List ℕ) → Type 0
GaveBytes before after bytes = before.left ≡ option_map (λ rest. bytes ++ rest) after.left

-- the source has met its end, and nothing is left
abbrev pub HasEnded : SeenSource → Type 0
HasEnded source = IfSome source.left (λ bytes. bytes ≡ []) × IsTrue source.ended

-- one more, but no more than the greatest 64-bit number
abbrev pub one_more : ℕ → ℕ
one_more count = min (count + 1) (2 ^ 64 - 1)

-- a read gave nothing: it met the end, or it failed
abbrev pub gives_nothing : {E : Type 0} → Result ℕ E → Bool
gives_nothing (Ok zero) = true
gives_nothing (Ok (suc more)) = false
gives_nothing (Err e) = true

-- the number of calls from the first that stopped on, after one more call, which stopped or not
abbrev pub after_call : (stops : Bool) (calls : ℕ) → ℕ
after_call true calls = one_more calls
after_call false zero = zero
after_call false (suc calls) = one_more (suc calls)

-- no call follows the first that stopped
abbrev pub NoneFollows : (before now : Option ℕ) → Type 0
NoneFollows before now = before ≡ Some 0 → IsSomeAnd now (λ calls. calls ≤ 1)

-- the count has risen; one that stands at the greatest 64-bit number passes as risen
abbrev pub Rose : (before now : ℕ) → Type 0
Rose before now = one_more before ≤ now

-- the count stands still where the call went well, and has risen where it failed
pub record HasCause {T E : Type 0} (before now : ℕ) (result : Result T E) : Type 0 where
  pub later : before ≤ now
  pub kept : OnOk result (now ≡ before)
  pub failed : OnErr result (Rose before now)

-- the bytes were written, whole; where there are none the sink is as it was
pub record Writes (before after : SeenSink) (bytes : List ℕ) : Type 0 where
  pub written : after.written ≡ appended before.written bytes
  pub faults : after.faults ≡ before.faults
  pub goes_on : before.since_stop ≡ Some 0 → after.since_stop ≡ Some 0
  pub untouched : bytes ≡ [] → after ≡ before

-- a write failed, and a front of the bytes stands there, and no more
pub record Fails (before after : SeenSink) (bytes : List ℕ) : Type 0 where
  pub front : (n : ℕ) × (n ≤ length bytes) × (after.written ≡ appended before.written (take n bytes))
  pub faults : Rose before.faults after.faults
  pub none_follows : NoneFollows before.since_stop after.since_stop
