-- Why a text is refused.
use Rattle.std.specs.Prelude.{ℕ, ◌⊎◌, List}
use Rattle.lucy_host.specs.Operators.{Operator}
use Rattle.lucy_tree.specs.View.{ProgramTree}
use Rattle.lucy_token.specs.declared.stop.SyntaxError.{SyntaxError}
use Rattle.lucy_token.specs.declared.stop.SyntaxError.TheVariants as syntax
use Rattle.lucy_grammar.specs.Texts.{HasTree, IsRefused}
use Rattle.lucy_naming.specs.declared.error.NameError.{NameError}
use Rattle.lucy_naming.specs.declared.error.NameError.TheVariants as names
use Rattle.lucy_naming.specs.Faults.{faults}
use Rattle.lucy_place.specs.PlacedProgram.{PlacedProgram}
use Rattle.lucy_naming.specs.Placing.{IsFirstFault}
use Rattle.lucy_types.specs.declared.ty.Ty.{Ty}
use Rattle.lucy_types.specs.Programs.{IsClash}
use Rattle.lucy_clock.specs.declared.node_clock.NodeClock.{NodeClock}
use Rattle.lucy_program.specs.declared.options.Options.{Options}
use Rattle.lucy_front.specs.declared.refusal.Refusal.{Refusal}
use Rattle.lucy_front.specs.declared.refusal.Refusal.TheVariants.{Syntax, Names, Types, Node, Limit as LimitPassed, OutOfMemory}
use Rattle.lucy_front.specs.Unclocked.{PassesNodeLimit, RefusesNode, IsUnclocked}
use Rattle.lucy_front.specs.Unscheduled.{RefusesNet}
use Rattle.lucy_program.specs.Accepting.{IsPlacedText, IsTypedText, IsClockedText}

-- the text has no tree, and is refused so; a limit and want of memory are told as such
abbrev pub RefusesSyntax : (text : List ℕ) → Refusal → Type 0
RefusesSyntax text (Syntax (syntax.TooLarge l)) = ⊥
RefusesSyntax text (Syntax syntax.OutOfMemory) = ⊥
RefusesSyntax text (Syntax e) = IsRefused text e
RefusesSyntax text (LimitPassed l) = IsRefused text (syntax.TooLarge l)
RefusesSyntax text refusal = ⊥

-- a text is refused: for its syntax, else for its names, else for the types of its nodes
abbrev pub RefusesText : List Operator → (text : List ℕ) → Refusal → Type 0
RefusesText ops text (Names (names.TooMany l)) = ⊥
RefusesText ops text (Names names.OutOfMemory) = ⊥
RefusesText ops text (Names e) = (p : ProgramTree) × HasTree text p × IsFirstFault (faults ops p) e
RefusesText ops text (Types placed node path) = IsPlacedText ops text placed × IsClash placed.nodes node path.items
RefusesText ops text (LimitPassed l) =
    RefusesSyntax text (LimitPassed l) ⊎ ((p : ProgramTree) × HasTree text p × IsFirstFault (faults ops p) (names.TooMany l))
RefusesText ops text refusal = RefusesSyntax text refusal

-- why the phases refuse a text: so, and then node by node for its clocks (of a limit the number alone is told)
abbrev pub RefusesPhases : List Operator → Options → List ℕ → Refusal → Type 0
RefusesPhases ops o text (Node placed node fault) =
    (tables : List (List Ty)) × IsTypedText ops text placed tables × IsUnclocked o placed.nodes node (RefusesNode o placed node fault)
RefusesPhases ops o text (LimitPassed l) =
    RefusesText ops text (LimitPassed l)
    ⊎ ((placed : PlacedProgram) × (tables : List (List Ty)) × IsTypedText ops text placed tables
    × (node : ℕ) × IsUnclocked o placed.nodes node (λ above n. PassesNodeLimit o above n l))
RefusesPhases ops o text OutOfMemory = Unit {0}
RefusesPhases ops o text refusal = RefusesText ops text refusal

-- why a text is refused: by a phase, or, where it has places, types and clocks, for the net that is made of them
abbrev pub Refuses : List Operator → Options → List ℕ → Refusal → Type 0
Refuses ops o text e =
    RefusesPhases ops o text e
    ⊎ ((placed : PlacedProgram) × (tables : List (List Ty)) × (clocks : List NodeClock) × IsClockedText ops o text placed tables clocks
    × RefusesNet placed.nodes clocks e)

-- the refusal where the syntax is refused so
abbrev pub syntax_refusal : SyntaxError → Refusal
syntax_refusal (syntax.TooLarge l) = LimitPassed l
syntax_refusal syntax.OutOfMemory = OutOfMemory
syntax_refusal e = Syntax e

-- and where the names are refused so
abbrev pub names_refusal : NameError → Refusal
names_refusal (names.TooMany l) = LimitPassed l
names_refusal names.OutOfMemory = OutOfMemory
names_refusal e = Names e
