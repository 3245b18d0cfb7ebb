-- What is owed of what the words ask for, by what was met.
use Rattle.std.specs.Prelude.{ℕ, ◌-◌, ◌<◌, ◌≤◌, ◌≡◌, ◌⊎◌, Bool, true, false, List, [], length, Option, Some, None, slice_get, codes}
use Rattle.std.specs.Option.{option_map}
use Rattle.lucy_host.specs.Operators.{Operator, kinds_of}
use Rattle.lucy_tree.specs.View.{ProgramTree}
use Rattle.lucy_grammar.specs.Texts.{HasTree}
use Rattle.lucy_place.specs.declared.placed.PlacedNode.{PlacedNode}
use Rattle.lucy_place.specs.PlacedProgram.{PlacedProgram}
use Rattle.lucy_place.specs.Standing.{at_one}
use Rattle.lucy_program.specs.declared.accepted.Accepted.{Accepted}
use Rattle.lucy_program.specs.declared.options.Options.{Options}
use Rattle.lucy_front.specs.declared.refusal.Refusal.{Refusal}
use Rattle.lucy_front.specs.declared.refusal.Refusal.TheVariants as refusal
use Rattle.lucy_program.specs.Accepting.{IsPlacedText, IsAccepted}
use Rattle.lucy_front.specs.Refusing.{RefusesText}
use Rattle.lucy_front.specs.Refusals.{IsTellable, refusal_text}
use Rattle.lucy_program.specs.Report.{report}
use Rattle.lucy_picture.specs.Spots.{PutsSpot}
use Rattle.lucy_page.specs.Pages.{IsPage, IsRefusedPage}
use Rattle.lucy_explain.specs.Begins.{BeginsAs}
use Rattle.lucy_freeze.specs.Freezing.{IsFrozen}
use Rattle.lucy_wave.specs.Waves.{OwesWave}
use Rattle.lucy_app.specs.Answers.{Answer, printed, refused, no_instants, program_refused}
use Rattle.lucy_app.specs.ProgramRefusals.{program_status}
use Rattle.lucy_app.specs.Check.{RefusesCheck}
use Rattle.lucy_app.specs.Programs.{OwesText}
use Rattle.lucy_app.specs.Running.{OwesRunning}
use Rattle.lucy_app.specs.Tighten.{node_named, HasBuffer}
use Rattle.lucy_app.specs.World.{Given}
use Rattle.lucy_views.specs.declared.missing.Missing.{Missing}
use Rattle.lucy_views.specs.declared.missing.Missing.TheVariants.{Command, Node, Buffer, Place, Offset, At, Frozen, Instants}
use Rattle.lucy_asking.specs.declared.ask.FileWords.{FileWords}
use Rattle.lucy_asking.specs.declared.ask.Sought.{Sought}
use Rattle.lucy_asking.specs.declared.ask.Sought.TheVariants as sought
use Rattle.lucy_asking.specs.declared.ask.Picture.{Picture}
use Rattle.lucy_asking.specs.declared.ask.Picture.TheVariants as picture
use Rattle.lucy_asking.specs.declared.ask.Ask.{Ask}
use Rattle.lucy_asking.specs.declared.ask.Ask.TheVariants as ask
use Rattle.lucy_views.specs.Meets.{options_of}
use Rattle.lucy_views.specs.Shown.{PutsTime, PutsTimes, IsTimeSvg, IsNetText, IsPlaceText}

-- the line that says what isn't there
abbrev pub missing_line : Missing → List ℕ
missing_line Command = codes "lucy_view: no such command\n"
missing_line Node = codes "lucy_view: no such node\n"
missing_line Buffer = codes "lucy_view: no such buffer\n"
missing_line Place = codes "lucy_view: the node has no such place\n"
missing_line Offset = codes "lucy_view: the text ends before this offset\n"
missing_line At = codes "lucy_view: AT is an offset, or # and the number of a place\n"
missing_line Frozen = codes "lucy_view: the program with its clocks written out would be another one\n"
missing_line Instants = no_instants.err

-- what the words ask for isn't there
abbrev pub missing : Missing → Answer
missing what = refused 2 (missing_line what)

-- such a text is printed
abbrev pub IsPrinted : (Prints : List ℕ → Type 0) → Answer → Type 0
IsPrinted Prints answer = (print : List ℕ) × Prints print × (answer ≡ printed print)

-- any text is printed, which the rows test
abbrev pub IsAnyPrint : Answer → Type 0
IsAnyPrint answer = IsPrinted (λ print. Unit {0}) answer

-- the number of the node that is asked for: of the first of this name, or of main where none is given
abbrev pub node_asked : List PlacedNode → (name : Option (List ℕ)) → ℕ
node_asked nodes None = length nodes - 1
node_asked nodes (Some name) = node_named nodes name

-- there is such a node
abbrev pub HasNode : List PlacedNode → (name : Option (List ℕ)) → Type 0
HasNode nodes name = node_asked nodes name < length nodes

-- what is owed where this is there, or that it isn't
abbrev pub OwesThere : (There : Type 0) → Missing → (Owed : Answer → Type 0) → Answer → Type 0
OwesThere There what Owed answer = ((There → ⊥) × (answer ≡ missing what)) ⊎ (There × Owed answer)

-- what is owed of the node that is asked for, or that there is none
abbrev pub OwesNode : List PlacedNode → (name : Option (List ℕ)) → (Owed : ℕ → Answer → Type 0) → Answer → Type 0
OwesNode nodes name Owed answer = OwesThere (HasNode nodes name) Node (Owed (node_asked nodes name)) answer

-- `time`: the chronogram of the node, or those of all nodes in order where none is given; or as SVG that of the node
abbrev pub OwesTime : (svg : Bool) (name : Option (List ℕ)) (instants : Option ℕ) → Accepted → Answer → Type 0
OwesTime true name instants a answer = OwesNode a.placed.nodes name (λ node told. IsPrinted (IsTimeSvg a instants node) told) answer
OwesTime false None instants a answer = IsPrinted (PutsTimes a instants 0 a.placed.nodes []) answer
OwesTime false (Some name) instants a answer = OwesNode a.placed.nodes (Some name)
    (λ node told. IsPrinted (PutsTime a instants node []) told) answer

-- what is owed of a net by the tree of the text: a drawing of the node or, where there is such a node, of the whole program's net
abbrev pub OwesDrawing : (flat : Bool) (name : Option (List ℕ)) → ProgramTree → Accepted → Answer → Type 0
OwesDrawing flat name tree a answer = OwesNode a.placed.nodes name (λ node told. IsPrinted (IsNetText flat tree a node) told) answer

-- `net`
abbrev pub OwesNet : (flat : Bool) (name : Option (List ℕ)) (text : List ℕ) → Accepted → Answer → Type 0
OwesNet flat name text a answer = (tree : ProgramTree) × HasTree text tree × OwesDrawing flat name tree a answer

-- `why`: what is told of the buffer, or that there is none; the word has to name one
abbrev pub OwesWhy : (buffer : Option (List ℕ × ℕ)) → Accepted → Answer → Type 0
OwesWhy None a answer = answer ≡ missing Buffer
OwesWhy (Some b) a answer = OwesThere (HasBuffer a.placed.nodes b.0 b.1) Buffer IsAnyPrint answer

-- a text is refused for its syntax, or else for its names
abbrev pub RefusesNames : List Operator → (text : List ℕ) → Refusal → Type 0
RefusesNames ops text (refusal.Types placed node path) = ⊥
RefusesNames ops text reason = RefusesText ops text reason

-- where a place is looked for; no text is refused where an offset is
abbrev pub RefusesSought : List Operator → Option Sought → (text : List ℕ) → Refusal → Type 0
RefusesSought ops (Some (sought.Place place)) text reason = RefusesNames ops text reason
RefusesSought ops other text reason = ⊥

-- where an offset stands, or that the text ends before it
abbrev pub OwesOffset : (text : List ℕ) (offset : ℕ) → Answer → Type 0
OwesOffset text offset answer =
    ((offset ≤ length text) × IsPrinted (PutsSpot text offset []) answer) ⊎ ((length text < offset) × (answer ≡ missing Offset))

-- the node of a number has no place of this number
abbrev pub LacksPlace : List PlacedNode → (node place : ℕ) → Type 0
LacksPlace nodes node place = (n : PlacedNode) × (slice_get nodes node ≡ Some n) × (at_one n.places place ≡ None)

-- what stands at a place of the node of a number, or that it has no such place
abbrev pub OwesPlace : (text : List ℕ) → ProgramTree → List PlacedNode → (place node : ℕ) → Answer → Type 0
OwesPlace text program nodes place node answer =
    IsPrinted (IsPlaceText text program nodes node place) answer ⊎ (LacksPlace nodes node place × (answer ≡ missing Place))

-- `where`, by what is looked for; the word has to say that
abbrev pub OwesWhere : List Operator → Option Sought → (name : Option (List ℕ)) → (text : List ℕ) → Answer → Type 0
OwesWhere ops None name text answer = answer ≡ missing At
OwesWhere ops (Some (sought.Offset offset)) name text answer = OwesOffset text offset answer
OwesWhere ops (Some (sought.Place place)) name text answer =
    (placed : PlacedProgram) × (is : IsPlacedText ops text placed)
    × OwesNode placed.nodes name (OwesPlace text is.tree placed.nodes place) answer

-- what is told of a text for people: first, as `lucy` tells it, why it is refused; or, where it is accepted, any text, which the rows test
abbrev pub Explains : List Operator → Options → (text : List ℕ) → Option Refusal → (told : List ℕ) → Type 0
Explains ops o text None told = (a : Accepted) × IsAccepted ops o text a
Explains ops o text (Some reason) told = RefusesCheck ops o text reason × BeginsAs reason told

-- `explain`
abbrev pub OwesExplained : List Operator → Options → (text : List ℕ) → Answer → Type 0
OwesExplained ops o text answer = IsPrinted (λ print. (reason : Option Refusal) × Explains ops o text reason print) answer

-- the program is refused so, which is told, and this is printed
abbrev pub shown_refused : Refusal → (print : List ℕ) → Answer
shown_refused reason print = record { status = program_status reason; out = print; err = refusal_text reason }

-- the page of a program that is refused, with what is told of that for people
abbrev pub OwesRefusedPage : List Operator → Options → (text : List ℕ) → Answer → Type 0
OwesRefusedPage ops o text answer =
    (reason : Refusal) × (told : List ℕ) × (print : List ℕ) × Explains ops o text (Some reason) told × IsRefusedPage told text print
    × (answer ≡ shown_refused reason print)

-- the page of an accepted program
abbrev pub OwesAcceptedPage : List Operator → Options → (text : List ℕ) → Answer → Type 0
OwesAcceptedPage ops o text answer =
    (a : Accepted) × IsAccepted ops o text a
    × IsPrinted (IsPage a.placed.nodes text (report a.placed.nodes a.typed a.clocks.items)) answer

-- `page`: of an accepted program, or of one that is refused
abbrev pub OwesPage : List Operator → Options → (text : List ℕ) → Answer → Type 0
OwesPage ops o text answer = OwesAcceptedPage ops o text answer ⊎ OwesRefusedPage ops o text answer

-- of an accepted program it is told that its text with the clocks written out is refused, for any reason that has a text, or that it would be
-- another program; neither is tied to that text
abbrev pub LacksFrozen : List Operator → Options → (text : List ℕ) → Answer → Type 0
LacksFrozen ops o text answer =
    (a : Accepted) × IsAccepted ops o text a
    × (((reason : Refusal) × IsTellable reason × (answer ≡ program_refused reason)) ⊎ (answer ≡ missing Frozen))

-- `freeze`: the program with every clock written out
abbrev pub OwesFrozen : List Operator → Options → (text : List ℕ) → Answer → Type 0
OwesFrozen ops o text answer = IsPrinted (λ print. (twin : Accepted) × IsFrozen ops o text print twin) answer ⊎ LacksFrozen ops o text answer

-- no text is refused
abbrev pub NoRefusal : (text : List ℕ) → Refusal → Type 0
NoRefusal text reason = ⊥

-- the text of the file is refused as `lucy clocks` refuses it, or this is owed of what it is accepted as
abbrev pub OwesAccepted : Given → FileWords → (Owed : (text : List ℕ) → Accepted → Answer → Type 0) → Answer → Type 0
OwesAccepted given w Owed answer =
    OwesText (RefusesCheck given.operators (options_of w)) (λ text told. (a : Accepted)
    × IsAccepted given.operators (options_of w) text a × Owed text a told)
    given.stop given.fetched answer

-- what is owed of a picture
abbrev pub OwesPicture : Picture → Given → Answer → Type 0
OwesPicture (picture.Time w) given answer = OwesAccepted given w.program (λ text. OwesTime w.svg (option_map (λ s. s.now) w.node) w.instants) answer
OwesPicture (picture.Net w) given answer = OwesAccepted given w.program (OwesNet w.flat (option_map (λ s. s.now) w.node)) answer
OwesPicture (picture.Where w) given answer =
    OwesText (RefusesSought given.operators w.sought)
    (OwesWhere given.operators w.sought (option_map (λ s. s.now) w.node)) given.stop given.fetched answer
OwesPicture (picture.Page w) given answer =
    OwesText NoRefusal (OwesPage given.operators (options_of w.program)) given.stop given.fetched answer
OwesPicture (picture.Explain w) given answer = OwesText NoRefusal (OwesExplained given.operators (options_of w)) given.stop
    given.fetched answer
OwesPicture (picture.Why w) given answer = OwesAccepted given w.program (λ text. OwesWhy (option_map (λ b. (b.0.now, b.1)) w.buffer)) answer
OwesPicture (picture.Freeze w) given answer =
    OwesText (RefusesCheck given.operators (options_of w)) (OwesFrozen given.operators (options_of w)) given.stop given.fetched answer

-- what is owed of a run: its dump, and how the run ended; the input is read before anything is written
abbrev pub OwesDump : List Operator → Options → (instants : Option ℕ) → Given → Answer → Type 0
OwesDump ops o instants given answer =
    OwesRunning (λ a. OwesWave (kinds_of ops) a instants given.taken given.stop) ops o instants given.stop given.fetched answer

-- what is owed of what the words ask for
abbrev pub Owes : Ask → Given → Answer → Type 0
Owes (ask.Wave w) given answer = OwesDump given.operators (options_of w.program) w.instants given answer
Owes (ask.Picture p) given answer = OwesPicture p given answer
