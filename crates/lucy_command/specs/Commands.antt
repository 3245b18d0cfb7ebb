-- The commands, and which of them a list of words names.
use Rattle.std.specs.Prelude.{ℕ, List, [], ◌∷◌, Option, Some, None, if◌then◌else◌}
use Rattle.std.specs.Option.{option_map, option_and_then}
use Rattle.lucy_fields.specs.Numbers.{number_of}
use Rattle.lucy_command.specs.declared.names.Name.{Name}
use Rattle.lucy_command.specs.declared.names.Name.TheVariants as name
use Rattle.lucy_command.specs.declared.names.Setting.{Setting}
use Rattle.lucy_command.specs.declared.names.Setting.TheVariants as setting
use Rattle.lucy_command.specs.declared.words.MakeWords.{MakeWords}
use Rattle.lucy_token.specs.Written.{is_name_text}
use Rattle.lucy_command.specs.Names.{name_of, least_of, most_of, most_stages, most_buffer}
use Rattle.lucy_command.specs.Parts.{halves_at, Texts, texts_of}

-- what `clocks` works on: FILE, and the scale and the lead of clocks that are found
pub record ClocksWords : Type 0 where
  pub file : List ℕ
  pub scale : ℕ
  pub lead : ℕ

-- what a command works on that runs a program: also the instants, where they stand
pub record ProgramWords : Type 0 where
  pub file : List ℕ
  pub scale : ℕ
  pub lead : ℕ
  pub instants : Option ℕ

-- a command, with what it works on: `run` also the workers, and the instants of a block, where they stand; `tighten` the name of a node
-- and the number of a buffer; `replay` LOG; and `trace` the workers
pub data Command : Type 0 where
  Order : Command
  Show Types Check : (file : List ℕ) → Command
  Clocks : ClocksWords → Command
  Run : (words : ProgramWords) (workers : ℕ) (block : Option ℕ) → Command
  Kahn : ProgramWords → Command
  Make : MakeWords → Command
  Tighten : (words : ClocksWords) (node : List ℕ) (buffer : ℕ) → Command
  Replay : (words : ProgramWords) (log : List ℕ) → Command
  Trace : (words : ProgramWords) (workers : ℕ) → Command

-- the number of an option, of at most seven digits, where one stands there
abbrev pub given : Setting → (text : Option (List ℕ)) → Option (Option ℕ)
given setting None = Some None
given setting (Some text) = option_map Some (number_of 7 (least_of setting) (most_of setting) text)

-- its number, or else this one
abbrev pub given_or : (otherwise : ℕ) → Setting → (text : Option (List ℕ)) → Option ℕ
given_or otherwise setting None = Some otherwise
given_or otherwise setting (Some text) = number_of 7 (least_of setting) (most_of setting) text

-- the stages of a program that is made
abbrev pub stages_of : (operand : Option (List ℕ)) → Option ℕ
stages_of operand = option_and_then (number_of 7 1 most_stages) operand

-- the operand, where there is no second one
abbrev pub one_of : (first second : Option (List ℕ)) → Option (List ℕ)
one_of first None = first
one_of first (Some text) = None

-- that of these texts
abbrev pub operand_of : Texts → Option (List ℕ)
operand_of t = one_of t.first t.second

-- the command that has no operand
abbrev pub alone : Command → (operand : Option (List ℕ)) → Option Command
alone command None = Some command
alone command (Some text) = None

-- FILE, the scale and the lead, each of which is 1 where it doesn't stand
abbrev pub clocks_with : (file : Option (List ℕ)) → Texts → Option ClocksWords
clocks_with operand t =
    option_and_then (λ file. option_and_then (λ scale. option_map (λ lead. record { file = file; scale = scale; lead = lead })
    (given_or 1 setting.Lead t.lead)) (given_or 1 setting.Scale t.scale)) operand

-- what `clocks` works on
abbrev pub clocks_words : Texts → Option ClocksWords
clocks_words t = clocks_with (operand_of t) t

-- and the instants, for this FILE
abbrev pub program_with : (file : Option (List ℕ)) → Texts → Option ProgramWords
program_with operand t =
    option_and_then (λ c. option_map (λ instants. record { file = c.file; scale = c.scale; lead = c.lead; instants = instants })
    (given setting.Instants t.instants)) (clocks_with operand t)

-- what `kahn` works on
abbrev pub program_words : Texts → Option ProgramWords
program_words t = program_with (operand_of t) t

-- the workers, which are 4 where they don't stand
abbrev pub workers_of : Texts → Option ℕ
workers_of t = given_or 4 setting.Workers t.workers

-- and the instants of a block
abbrev pub playing_of : Texts → Option (ℕ × Option ℕ)
playing_of t = option_and_then (λ workers. option_map (λ block. (workers, block)) (given setting.Block t.block)) (workers_of t)

-- `run` of these texts
abbrev pub run_with : Texts → Option Command
run_with t = option_and_then (λ k. option_map (λ p. Run k p.0 p.1) (playing_of t)) (program_words t)

-- what `make` works on
abbrev pub make_words : Texts → Option MakeWords
make_words t = option_and_then (λ stages. option_map (λ p. record { stages = stages; workers = p.0; block = p.1 }) (playing_of t)) (stages_of (operand_of t))

-- the name of a node and the number of one of its buffers, which are parted by a text's first `.`
abbrev pub buffer_of : (text : List ℕ) → Option (List ℕ × ℕ)
buffer_of text =
    option_and_then (λ h. if is_name_text h.0 then option_map (λ number. (h.0, number)) (number_of 7 0 most_buffer h.1) else None) (halves_at 46 text)

-- `tighten` of these texts
abbrev pub tighten_with : Texts → Option Command
tighten_with t = option_and_then (λ c. option_map (λ b. Tighten c b.0 b.1) (option_and_then buffer_of t.second)) (clocks_with t.first t)

-- `replay` of these texts
abbrev pub replay_with : Texts → Option Command
replay_with t = option_and_then (λ k. option_map (λ log. Replay k log) t.second) (program_with t.first t)

-- `trace` of these texts
abbrev pub trace_with : Texts → Option Command
trace_with t = option_and_then (λ k. option_map (λ workers. Trace k workers) (workers_of t)) (program_words t)

-- the command of this name with these texts, where they fit it
abbrev pub command_with : Name → Texts → Option Command
command_with name.Order t = alone Order t.first
command_with name.Show t = option_map Show (operand_of t)
command_with name.Types t = option_map Types (operand_of t)
command_with name.Check t = option_map Check (operand_of t)
command_with name.Clocks t = option_map Clocks (clocks_words t)
command_with name.Run t = run_with t
command_with name.Kahn t = option_map Kahn (program_words t)
command_with name.Make t = option_map Make (make_words t)
command_with name.Tighten t = tighten_with t
command_with name.Replay t = replay_with t
command_with name.Trace t = trace_with t

-- the command that the words name, where they name one
abbrev pub command_of : (words : List (List ℕ)) → Option Command
command_of [] = None
command_of (word ∷ behind) = option_and_then (λ name. option_and_then (command_with name) (texts_of name behind)) (name_of word)
