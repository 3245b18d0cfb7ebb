-- What `tighten` owes of a text, for a buffer that is named by its node and its number, from 1.
use Rattle.std.specs.Prelude.{ℕ, ◌≤◌, ◌≡◌, ◌⊎◌, List, length, slice_get, IsSomeAnd}
use Rattle.std.specs.List.{position_or_len}
use Rattle.std.specs.Str.{bytes_eq}
use Rattle.lucy_word.specs.declared.limit.Limit.{Limit}
use Rattle.lucy_host.specs.Operators.{Operator}
use Rattle.lucy_place.specs.declared.placed.PlacedNode.{PlacedNode}
use Rattle.lucy_program.specs.declared.accepted.Accepted.{Accepted}
use Rattle.lucy_program.specs.declared.options.Options.{Options}
use Rattle.lucy_program.specs.Accepting.{IsAccepted}
use Rattle.lucy_tight.specs.declared.answer.Least.{Least}
use Rattle.lucy_tight.specs.declared.answer.TightError.TheVariants.{Fixed, Limit as LimitPassed}
use Rattle.lucy_tight.specs.Tightening.{IsTightened, RefusesTight}
use Rattle.lucy_tight.specs.Report.{tight_lines, fixed_lines}
use Rattle.lucy_app.specs.Answers.{Answer, printed, no_buffer, limit_passed}

-- the number of the first node of this name, from 0, or that of all nodes where none has it
abbrev pub node_named : List PlacedNode → (name : List ℕ) → ℕ
node_named nodes name = position_or_len (λ (n : PlacedNode). bytes_eq n.name.text name) nodes

-- the node of this name has a buffer of this number
abbrev pub HasBuffer : List PlacedNode → (name : List ℕ) → (buffer : ℕ) → Type 0
HasBuffer nodes name buffer = IsSomeAnd (slice_get nodes (node_named nodes name)) (λ (n : PlacedNode). (1 ≤ buffer) × (buffer ≤ length n.buffers))

-- what is printed of a buffer: its least size, or its fixed one
abbrev pub IsTightPrint : Accepted → Options → (node buffer : ℕ) → (print : List ℕ) → Type 0
IsTightPrint a o node buffer print =
    ((t : Least) × IsTightened a o node buffer t × (print ≡ tight_lines a node buffer t))
    ⊎ ((size : ℕ) × RefusesTight a o node buffer (Fixed size) × (print ≡ fixed_lines a node buffer size))

-- what is owed of a buffer that is there: that print, or that a limit is passed
abbrev pub OwesSize : Accepted → Options → (node buffer : ℕ) → Answer → Type 0
OwesSize a o node buffer answer =
    ((print : List ℕ) × IsTightPrint a o node buffer print × (answer ≡ printed print))
    ⊎ ((l : Limit) × RefusesTight a o node buffer (LimitPassed l) × (answer ≡ limit_passed l))

-- what is owed of an accepted program: that the buffer isn't there, or what is owed of it
abbrev pub OwesBuffer : Accepted → Options → (name : List ℕ) → (buffer : ℕ) → Answer → Type 0
OwesBuffer a o name buffer answer =
    ((HasBuffer a.placed.nodes name buffer → ⊥) × (answer ≡ no_buffer))
    ⊎ (HasBuffer a.placed.nodes name buffer × OwesSize a o (node_named a.placed.nodes name) buffer answer)

-- the text is accepted, and this is printed of the buffer
abbrev pub IsTightOf : List Operator → Options → (name : List ℕ) → (buffer : ℕ) → (text print : List ℕ) → Type 0
IsTightOf ops o name buffer text print =
    (a : Accepted) × IsAccepted ops o text a × HasBuffer a.placed.nodes name buffer × IsTightPrint a o (node_named a.placed.nodes name) buffer print
