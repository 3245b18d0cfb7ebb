-- What a source and a sink in memory are seen as. `most` is the most bytes that one call moves, and
-- `fails` has the numbers, from 1, of the calls that fail. `calls` and `faults` count those so far, and
-- `since_stop` the calls from the first on that met the end or failed.
use Rattle.std.specs.Prelude.{ℕ, false, List, ◌++◌, drop, nat_eq}
use Rattle.lucy_text.specs.Outside.{one_more, after_call}

-- a source with these bytes left
pub record SourceState : Type 0 where
  pub left : List ℕ
  pub most : ℕ
  pub fails : List ℕ
  pub calls : ℕ
  pub faults : ℕ
  pub since_stop : ℕ

-- a sink with these bytes written, and with room for so many bytes in all
pub record SinkState : Type 0 where
  pub written : List ℕ
  pub room : ℕ
  pub most : ℕ
  pub fails : List ℕ
  pub calls : ℕ
  pub faults : ℕ
  pub since_stop : ℕ

-- the source after a call that gave its next n bytes
abbrev pub source_after : SourceState → ℕ → SourceState
source_after s n = record s {
  left = drop n s.left;
  calls = one_more s.calls;
  since_stop = after_call (nat_eq n 0) s.since_stop;
}

-- the source after a call that failed
abbrev pub source_after_fault : SourceState → SourceState
source_after_fault s = record s {
  calls = one_more s.calls;
  faults = one_more s.faults;
  since_stop = one_more s.since_stop;
}

-- the sink after a call that took these bytes
abbrev pub sink_after : SinkState → List ℕ → SinkState
sink_after s taken = record s {
  written = s.written ++ taken;
  calls = one_more s.calls;
  since_stop = after_call false s.since_stop;
}

-- the sink after a call that failed
abbrev pub sink_after_fault : SinkState → SinkState
sink_after_fault s = record s {
  calls = one_more s.calls;
  faults = one_more s.faults;
  since_stop = one_more s.since_stop;
}
