-- What `run` prints of a program and of its input, and that this is what stands on its output.
use Rattle.std.specs.Prelude.{ℕ, ℤ, ◌+◌, ◌<◌, ◌≤◌, ◌≡◌, ◌≢◌, ◌⊎◌, List, [], ◌∷◌, ◌++◌, Option, None, Some, length, take, slice_get, codes, IsSome, IsSomeAnd}
use Rattle.std.specs.List.{AllByRecursion}
use Rattle.std.specs.Option.{unwrap_or}
use Rattle.std.specs.Str.Lines.{lines}
use Rattle.lucy_word.specs.Bits.{Bits, ones_to}
use Rattle.lucy_word.specs.Shortest.{IsShortest}
use Rattle.lucy_host.specs.declared.kind.HostKind.{HostKind}
use Rattle.lucy_host.specs.Operators.{Operator, kinds_of}
use Rattle.lucy_stream.specs.Items.{list_at}
use Rattle.lucy_lines.specs.declared.input.InputSpec.{InputSpec}
use Rattle.lucy_lines.specs.Fronts.{longest_line}
use Rattle.lucy_lines.specs.Fields.{line_fields}
use Rattle.lucy_lines.specs.Values.{SpellsValue}
use Rattle.lucy_lines.specs.Kinds.{IsInput}
use Rattle.lucy_lines.specs.Cuts.{ItemOf}
use Rattle.lucy_lines.specs.Feeding.{values_by_stream}
use Rattle.lucy_lines.specs.declared.output.OutputSpec.{OutputSpec}
use Rattle.lucy_lines.specs.Outputs.{output_text}
use Rattle.lucy_tree.specs.View.{ProgramTree}
use Rattle.lucy_place.specs.declared.placed.PlacedNode.{PlacedNode}
use Rattle.lucy_place.specs.WrittenNodes.{IsWritten}
use Rattle.lucy_naming.specs.Places.{AreNodesOf}
use Rattle.lucy_types.specs.declared.ty.Ty.{Ty}
use Rattle.lucy_types.specs.Programs.{IsTyped}
use Rattle.lucy_clock.specs.declared.node_clock.NodeClock.{NodeClock}
use Rattle.lucy_kahn.specs.Spots.{at, main_of, results_in}
use Rattle.lucy_kahn.specs.Kahn.{kahn}
use Rattle.lucy_kahn.specs.Items.{IsCausalProgram}
use Rattle.lucy_kahn.specs.Horizons.{Suffice, IsHorizon}
use Rattle.lucy_flat.specs.Clocked.{AreClocked}
use Rattle.lucy_results.specs.Streams.{param_words}
use Rattle.lucy_program.specs.Scheduled.{main_inputs, main_outputs}
use Rattle.lucy_program.specs.Report.{report}
use Rattle.lucy_right.specs.Names.{AreWellNamed}

-- what a program stands for: its nodes, of which the last is main, the types of their places, the words of their clocks and the sizes of their buffers
pub record Meaning : Type 0 where
  pub nodes : List PlacedNode
  pub types : List (List Ty)
  pub clocks : List NodeClock

-- a program stands for this: its names are good, its places have these types, the table of forms holds at every instant between these words, which are
-- in shortest form, the sizes are those of the buffers between them, and no item depends on itself
pub record StandsFor (ops : List Operator) (program : ProgramTree) (m : Meaning) : Type 0 where
  pub named : AreWellNamed ops program
  pub placed : AreNodesOf ops program m.nodes
  pub typed : IsTyped m.nodes m.types
  pub clocked : AreClocked m.nodes m.clocks
  pub shortest : AllByRecursion (λ c. AllByRecursion IsShortest c.words) m.clocks
  pub causal : IsCausalProgram m.nodes

-- a line says an item: the name of an input, and a value of its type
abbrev pub LineSays : List InputSpec → List ℕ → ItemOf → Type 0
LineSays inputs line item =
    (name spelled : List ℕ) × (input : InputSpec) × (line_fields line ≡ name ∷ spelled ∷ []) × IsInput inputs name item.stream input
    × SpellsValue input.holds spelled item.value

-- a line is refused where main has inputs: it is too long, or it isn't blank and says no item
abbrev pub LineFails : List InputSpec → List ℕ → Type 0
LineFails inputs line = (inputs ≢ []) × ((longest_line < length line) ⊎ ((line_fields line ≢ []) × ((item : ItemOf) → LineSays inputs line item → ⊥)))

-- lines say items, in turn: none is too long, a line of blanks says none, and where main has no inputs nothing is read
abbrev pub LinesSay : List InputSpec → List (List ℕ) → List ItemOf → Type 0
LinesSay [] lines items = items ≡ []
LinesSay inputs [] items = items ≡ []
LinesSay inputs (line ∷ lines) items =
    (length line ≤ longest_line) × (((line_fields line ≡ []) × LinesSay inputs lines items)
    ⊎ ((item : ItemOf) × (more : List ItemOf) × LineSays inputs line item × LinesSay inputs lines more × (items ≡ item ∷ more)))

-- the first items of the Kahn stream of a place of main: as many as its word has ones up to the horizon, the same in every iterate from some one on
abbrev pub IsStream : List HostKind → (inputs : List (List ℤ)) → List PlacedNode → (horizon place : ℕ) → Bits → List ℤ → Type 0
IsStream kinds inputs nodes horizon place word items =
    (length items ≡ ones_to word horizon) × (n : ℕ) × ((k : ℕ) → n ≤ k → take (length items) (kahn kinds inputs nodes k (at [] place)) ≡ items)

-- What `run` prints of a program and of an input: for something that the program stands for, with clocks that may be chosen, the report, `run`, and at
-- each instant that the items of some first lines allow, up to those given or else the most, the values of main's results; where main has no inputs
-- instants are given. Where it is done the lines are all, and without given instants they allow no more than the most; where a line is refused it is
-- the next one.
pub record IsRunOf (Chosen : Meaning → Type 0) (ops : List Operator) (most : ℕ) (given : Option ℕ) (program : ProgramTree) (input output : List ℕ)
    (Done Refused : Type 0) : Type 0 where
  pub m : Meaning
  pub stands : StandsFor ops program m
  pub chosen : Chosen m
  pub bounded : main_inputs m.nodes m.types ≡ [] → IsSome given
  pub many : ℕ
  pub items : List ItemOf
  pub said : LinesSay (main_inputs m.nodes m.types) (take many (lines input)) items
  pub inputs : List (List ℤ)
  pub fed : inputs ≡ values_by_stream (length (main_inputs m.nodes m.types)) items
  pub horizon : ℕ
  pub greatest : IsHorizon (param_words m.nodes m.clocks) inputs (unwrap_or given most) horizon
  pub streams : List (List ℤ)
  pub count : length streams ≡ length (main_outputs m.nodes m.types m.clocks)
  pub kahn : (i place : ℕ) (o : OutputSpec) → slice_get (results_in (main_of m.nodes)) i ≡ Some place →
      slice_get (main_outputs m.nodes m.types m.clocks) i ≡ Some o → IsStream (kinds_of ops) inputs m.nodes horizon place o.word (list_at streams i)
  pub printed : output ≡ report m.nodes m.types m.clocks ++ codes "run\n" ++ output_text (main_outputs m.nodes m.types m.clocks) streams horizon
  pub all : Done → many ≡ length (lines input)
  pub within : Done → given ≡ None → Suffice (param_words m.nodes m.clocks) inputs (most + 1) → ⊥
  pub next : Refused → IsSomeAnd (slice_get (lines input) many) (LineFails (main_inputs m.nodes m.types))

-- What `run FILE` leaves, where it finds this text of FILE, this input and an empty output, is nothing, but with the statuses 0 and 3, and with 2 where
-- instants are given; or it is what it prints of the program that the text is, with 5 and 7 a front of that: of a run that is done with 0, and up to a
-- refused line with 3. With 1, where all clocks are written, the program stands for nothing, and with 2 for nothing that has inputs. Where the shelf
-- tells that it has no FILE nothing is written, and the status is 4 or more, but not 6.
pub record RunIsRight (Reads : List ℕ → ProgramTree → Type 0) (Chosen : Meaning → Type 0) (ops : List Operator) (most : ℕ) (given : Option ℕ)
    (held : Option (Option (List ℕ))) (left before after : Option (List ℕ)) (status : ℕ) : Type 0 where
  pub right : (text input output : List ℕ) → held ≡ Some (Some text) → left ≡ Some input → before ≡ Some [] → after ≡ Some output →
      ((output ≡ []) × (status ≢ 0) × (status ≢ 3) × (status ≡ 2 → given ≡ None))
      ⊎ ((program : ProgramTree) × (n : ℕ) × (whole : List ℕ) × Reads text program × IsRunOf Chosen ops most given program input whole (status ≡ 0) (status ≡ 3)
      × (output ≡ take n whole) × (status ≢ 5 → status ≢ 7 → output ≡ whole) × (status ≢ 1) × (status ≢ 2))
  pub refused : (text : List ℕ) (program : ProgramTree) (m : Meaning) → held ≡ Some (Some text) → Reads text program →
      StandsFor ops program m → (AllByRecursion IsWritten m.nodes → status ≢ 1) × (status ≡ 2 → main_inputs m.nodes m.types ≡ [])
  pub absent : held ≡ Some None → (after ≡ before) × (4 ≤ status) × (status ≢ 6)
