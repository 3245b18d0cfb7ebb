-- The lengths of a schedule, and how many operations a net has.
use Rattle.std.specs.Prelude.{ℕ, ◌*◌, ◌^◌, ◌<◌, ◌≤◌, List, All, length, sum_by}
use Prim.Native.Nat.{◌∣◌}
use Rattle.lucy_word.specs.Bits.{Bits}
use Rattle.lucy_word.specs.Limits.{limit_number}
use Rattle.lucy_word.specs.declared.limit.Limit.TheVariants as limit
use Rattle.lucy_stream.specs.Forms.{Form, Merged}
use Rattle.lucy_net.specs.declared.net.Net.{Net}
use Rattle.lucy_net.specs.Plans.{actor_ops}

-- the greatest prefix length of words, and the least common multiple of their period lengths
pub record AreLengths (words : List Bits) (prefix period : ℕ) : Type 0 where
  pub prefixes : All (λ w. length w.prefix ≤ prefix) words
  pub prefix_least : (n : ℕ) → All (λ w. length w.prefix ≤ n) words → prefix ≤ n
  pub some : 0 < period
  pub periods : All (λ w. length w.period ∣ period) words
  pub period_least : (n : ℕ) → 0 < n → All (λ w. length w.period ∣ n) words → period ∣ n

-- how many items an actor of the form, with so many operands, takes in each firing
abbrev pub takes_each : Form → ℕ → ℕ
takes_each (Merged word) operands = 1
takes_each form operands = operands

-- how many operations an actor has at most: each of its firings has fewer than 2^16
abbrev pub most_operations : ℕ
most_operations = 2 ^ 16 * limit_number limit.Instants

-- how many operations the actors of a net have in the first instants
abbrev pub operations_by : Net → ℕ → ℕ
operations_by net instants = sum_by (λ actor. length (actor_ops instants actor)) net.actors
