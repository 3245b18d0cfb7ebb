-- A command as the call gives it: what it stands for, and that its numbers are within their limits.
use Rattle.std.specs.Prelude.{ℕ, ◌≤◌, Option, IfSome}
use Rattle.std.specs.Option.{unwrap_or}
use Rattle.lucy_command.specs.declared.names.Setting.{Setting}
use Rattle.lucy_command.specs.declared.names.Setting.TheVariants.{Scale, Instants, Workers, Block}
use Rattle.lucy_command.specs.Names.{least_of, most_of, most_stages}
use Rattle.lucy_command.specs.Commands as names
use Rattle.lucy_command.specs.declared.words.ClocksWords.{ClocksWords}
use Rattle.lucy_command.specs.declared.words.RunWords.{RunWords}
use Rattle.lucy_command.specs.declared.words.KahnWords.{KahnWords}
use Rattle.lucy_command.specs.declared.words.TightenWords.{TightenWords}
use Rattle.lucy_command.specs.declared.words.ReplayWords.{ReplayWords}
use Rattle.lucy_command.specs.declared.words.TraceWords.{TraceWords}
use Rattle.lucy_command.specs.declared.command.Command.{Command}
use Rattle.lucy_command.specs.declared.command.Command.TheVariants.{Order, Show, Types, Check, Clocks, Run, Kahn, Make, Tighten, Replay, Trace}

-- what these words of `clocks` stand for
abbrev pub clocks_named : ClocksWords → names.ClocksWords
clocks_named w = record { file = w.file.now; scale = w.scale; lead = w.lead }

-- and these of `kahn`
abbrev pub kahn_named : KahnWords → names.ProgramWords
kahn_named w = record { file = w.file.now; scale = w.scale; lead = w.lead; instants = w.instants }

-- and these of `run`
abbrev pub run_named : RunWords → names.Command
run_named w = names.Run (record { file = w.file.now; scale = w.scale; lead = w.lead; instants = w.instants }) w.workers w.block

-- and these of `tighten`
abbrev pub tighten_named : TightenWords → names.Command
tighten_named w = names.Tighten (record { file = w.file.now; scale = w.scale; lead = w.lead }) w.node.now w.buffer

-- and these of `replay`
abbrev pub replay_named : ReplayWords → names.Command
replay_named w = names.Replay (record { file = w.file.now; scale = w.scale; lead = w.lead; instants = w.instants }) w.log.now

-- and these of `trace`
abbrev pub trace_named : TraceWords → names.Command
trace_named w = names.Trace (record { file = w.file.now; scale = w.scale; lead = w.lead; instants = w.instants }) w.workers

-- the command that it stands for
abbrev pub named : Command → names.Command
named Order = names.Order
named (Show file) = names.Show file.now
named (Types file) = names.Types file.now
named (Check file) = names.Check file.now
named (Clocks words) = names.Clocks (clocks_named words)
named (Run words) = run_named words
named (Kahn words) = names.Kahn (kahn_named words)
named (Make words) = names.Make words
named (Tighten words) = tighten_named words
named (Replay words) = replay_named words
named (Trace words) = trace_named words

-- a number of this option
abbrev pub IsOf : Setting → ℕ → Type 0
IsOf setting n = (least_of setting ≤ n) × (n ≤ most_of setting)

-- a scale, or a lead
abbrev pub IsScale : ℕ → Type 0
IsScale n = IsOf Scale n

-- workers
abbrev pub AreWorkers : ℕ → Type 0
AreWorkers n = IsOf Workers n

-- the instants of a block
abbrev pub IsBlock : ℕ → Type 0
IsBlock n = IsOf Block n

-- so many stages may be made
abbrev pub AreStages : ℕ → Type 0
AreStages stages = (1 ≤ stages) × (stages ≤ most_stages)

-- instants that are given are within their limit
abbrev pub AreFew : Option ℕ → Type 0
AreFew instants = IfSome instants (λ given. given ≤ most_of Instants)

-- the numbers of a command are those of its options
abbrev pub IsWithin : names.Command → Type 0
IsWithin (names.Clocks w) = IsScale w.scale × IsScale w.lead
IsWithin (names.Run w workers block) = IsScale w.scale × IsScale w.lead × AreFew w.instants × AreWorkers workers × IfSome block IsBlock
IsWithin (names.Kahn w) = IsScale w.scale × IsScale w.lead × AreFew w.instants
IsWithin (names.Make w) = AreStages w.stages × AreWorkers w.workers × IfSome w.block IsBlock
IsWithin (names.Tighten w node buffer) = IsScale w.scale × IsScale w.lead
IsWithin (names.Replay w log) = IsScale w.scale × IsScale w.lead × AreFew w.instants
IsWithin (names.Trace w workers) = IsScale w.scale × IsScale w.lead × AreFew w.instants × AreWorkers workers
IsWithin command = Unit {0}

-- the instants of a block that are given, or else 4,096
abbrev pub block_or_default : Option ℕ → ℕ
block_or_default given = unwrap_or given 4096
