-- The names of the commands; and the options: the word of each, its numbers, and the commands that take it.
use Rattle.std.specs.Prelude.{ℕ, Bool, true, false, List, Option, Some, None, codes, if◌then◌else◌}
use Rattle.std.specs.Option.{option_and_then}
use Rattle.std.specs.Str.{bytes_eq}
use Rattle.lucy_word.specs.Limits.{limit_number}
use Rattle.lucy_word.specs.declared.limit.Limit.TheVariants as limit
use Rattle.lucy_command.specs.declared.names.Name.{Name}
use Rattle.lucy_command.specs.declared.names.Name.TheVariants.{Order, Show, Types, Check, Clocks, Run, Kahn, Make, Tighten, Replay, Trace}
use Rattle.lucy_command.specs.declared.names.Setting.{Setting}
use Rattle.lucy_command.specs.declared.names.Setting.TheVariants.{Scale, Lead, Instants, Workers, Block}

-- the command that a word names, in full
abbrev pub name_of : (word : List ℕ) → Option Name
name_of word =
    if bytes_eq word (codes "order") then Some Order
    else (if bytes_eq word (codes "show") then Some Show
    else (if bytes_eq word (codes "types") then Some Types
    else (if bytes_eq word (codes "check") then Some Check
    else (if bytes_eq word (codes "clocks") then Some Clocks
    else (if bytes_eq word (codes "run") then Some Run
    else (if bytes_eq word (codes "kahn") then Some Kahn
    else (if bytes_eq word (codes "make") then Some Make
    else (if bytes_eq word (codes "tighten") then Some Tighten
    else (if bytes_eq word (codes "replay") then Some Replay
    else (if bytes_eq word (codes "trace") then Some Trace
    else None))))))))))

-- the option that a word is
abbrev pub setting_of : (word : List ℕ) → Option Setting
setting_of word =
    if bytes_eq word (codes "--scale") then Some Scale
    else (if bytes_eq word (codes "--lead") then Some Lead
    else (if bytes_eq word (codes "--instants") then Some Instants
    else (if bytes_eq word (codes "--workers") then Some Workers
    else (if bytes_eq word (codes "--block") then Some Block
    else None))))

-- the least number of an option
abbrev pub least_of : Setting → ℕ
least_of Instants = 0
least_of setting = 1

-- the greatest scale, and the greatest lead
abbrev pub most_scale : ℕ
most_scale = 64

-- the most workers
abbrev pub most_workers : ℕ
most_workers = 64

-- the greatest number of an option
abbrev pub most_of : Setting → ℕ
most_of Scale = most_scale
most_of Lead = most_scale
most_of Instants = limit_number limit.Instants
most_of Workers = most_workers
most_of Block = limit_number limit.Instants

-- the most stages of a program that is made, of which there is one at least
abbrev pub most_stages : ℕ
most_stages = 256

-- the greatest number of a buffer that is spelled in seven digits
abbrev pub most_buffer : ℕ
most_buffer = 9999999

-- the command takes this option
abbrev pub allows : Name → Setting → Bool
allows Clocks Scale = true
allows Clocks Lead = true
allows Run setting = true
allows Kahn Scale = true
allows Kahn Lead = true
allows Kahn Instants = true
allows Make Workers = true
allows Make Block = true
allows Tighten Scale = true
allows Tighten Lead = true
allows Replay Scale = true
allows Replay Lead = true
allows Replay Instants = true
allows Trace Scale = true
allows Trace Lead = true
allows Trace Instants = true
allows Trace Workers = true
allows name setting = false

-- the option of the command that a word is
abbrev pub allowed : Name → (word : List ℕ) → Option Setting
allowed name word = option_and_then (λ setting. if allows name setting then Some setting else None) (setting_of word)
