-- The texts of refusals.
use Rattle.std.specs.Prelude.{ℕ, ◌<◌, ◌≡◌, List, [], ◌∷◌, ◌++◌, length, slice_get, flat_map, codes}
use Rattle.std.specs.List.{AllByRecursion}
use Rattle.std.specs.Fmt.{decimal}
use Rattle.lucy_word.specs.declared.limit.Limit.{Limit}
use Rattle.lucy_word.specs.Limits.{limit_name, limit_number}
use Rattle.lucy_token.specs.declared.stop.SyntaxError.{SyntaxError}
use Rattle.lucy_token.specs.declared.stop.SyntaxError.TheVariants as syntax
use Rattle.lucy_naming.specs.declared.error.NameError.{NameError}
use Rattle.lucy_naming.specs.declared.error.NameError.TheVariants as names
use Rattle.lucy_place.specs.declared.placed.PlacedNode.{PlacedNode}
use Rattle.lucy_need.specs.declared.need.Need.{Need}
use Rattle.lucy_check.specs.declared.fault.CheckFault.{CheckFault}
use Rattle.lucy_check.specs.declared.fault.CheckFault.TheVariants as fault
use Rattle.lucy_net.specs.declared.error.Item.{Item}
use Rattle.lucy_front.specs.declared.refusal.Refusal.{Refusal}
use Rattle.lucy_front.specs.declared.refusal.Refusal.TheVariants.{Syntax, Names, Types, Node, Cause, Limit as LimitPassed, OutOfMemory}
use Rattle.lucy_front.specs.declared.fault.NodeFault.{NodeFault}
use Rattle.lucy_front.specs.declared.fault.NodeFault.TheVariants.{NotWritten, Rates, Clocks, Check}
use Rattle.lucy_shape.specs.Fitting.{variable_count}
use Rattle.lucy_program.specs.Names.{of_one, place_names}
use Rattle.lucy_front.specs.Needs.{need_text}
use Rattle.lucy_front.specs.Evidence.{walk_lines, variable_names, cycle_lines}

-- the line where a limit is passed
abbrev pub limit_line : Limit → List ℕ
limit_line l = codes "lucy: limit " ++ (limit_name l ++ (codes " " ++ (decimal (limit_number l) ++ codes "\n")))

-- the line where memory ran out
abbrev pub memory_line : List ℕ
memory_line = codes "lucy: out of memory\n"

-- the line of a syntax
abbrev pub syntax_line : SyntaxError → List ℕ
syntax_line (syntax.Unexpected place) = codes "lucy: syntax: unexpected at " ++ (decimal place ++ codes "\n")
syntax_line (syntax.BadNumber place) = codes "lucy: syntax: bad number at " ++ (decimal place ++ codes "\n")
syntax_line (syntax.BadWord place) = codes "lucy: syntax: bad word at " ++ (decimal place ++ codes "\n")
syntax_line (syntax.TooLarge l) = limit_line l
syntax_line syntax.OutOfMemory = memory_line

-- the line of a name
abbrev pub name_fault_line : NameError → List ℕ
name_fault_line (names.Unknown span) = codes "lucy: names: unknown at " ++ (decimal span.from ++ codes "\n")
name_fault_line (names.Twice span) = codes "lucy: names: twice at " ++ (decimal span.from ++ codes "\n")
name_fault_line (names.NoResult span) = codes "lucy: names: no result at " ++ (decimal span.from ++ codes "\n")
name_fault_line (names.Arity span) = codes "lucy: names: arity at " ++ (decimal span.from ++ codes "\n")
name_fault_line (names.LaterNode span) = codes "lucy: names: later node at " ++ (decimal span.from ++ codes "\n")
name_fault_line (names.TooMany l) = limit_line l
name_fault_line names.OutOfMemory = memory_line

-- a need of a node isn't met, and what is wrong stands at the end
abbrev pub need_line : PlacedNode → (end : List ℕ) → Need → List ℕ
need_line n end need = codes "lucy: check: node " ++ (n.name.text ++ (codes ": " ++ (need_text n need ++ end)))

-- what the checker says of the needs of a node
abbrev pub check_line : PlacedNode → List Need → CheckFault → List ℕ
check_line n needs (fault.Differs need at) = of_one (need_line n (codes ": differ at " ++ (decimal at ++ codes "\n"))) (slice_get needs need)
check_line n needs (fault.Rates need) = of_one (need_line n (codes ": unequal rates\n")) (slice_get needs need)
check_line n needs (fault.Late need at) = of_one (need_line n (codes ": late at " ++ (decimal at ++ codes "\n"))) (slice_get needs need)
check_line n needs (fault.Limit need l) = limit_line l
check_line n needs fault.OutOfMemory = memory_line

-- the lines of a fault of a node: that it isn't written; that its rates don't agree, with the needs of the walk that shows it; that it has
-- no clocks in a shape of this period, with the inequalities of the cycle that shows it; or what the checker says
abbrev pub fault_lines : PlacedNode → NodeFault → List ℕ
fault_lines n (NotWritten span) =
    codes "lucy: check: node " ++ (n.name.text ++ (codes ": not written at " ++ (decimal span.from ++ codes "\n")))
fault_lines n (Rates needs walk) = codes "lucy: rates: node " ++ (n.name.text ++ (codes "\n" ++ walk_lines n needs.list walk.items))
fault_lines n (Clocks needs shape diffs cycle) =
    codes "lucy: clocks: node " ++ (n.name.text ++ (codes ": no clocks of period " ++ (decimal shape.period
    ++ (codes "\n" ++ cycle_lines (variable_names n shape.clocks) diffs.list cycle.items))))
fault_lines n (Check needs e) = check_line n needs.list e

-- items that depend on each other, each by the name of its actor and its number, on a line of its own
abbrev pub item_lines : List (List ℕ) → List Item → List ℕ
item_lines (name ∷ names) (item ∷ items) = codes "  " ++ (name ++ (codes "[" ++ (decimal item.number ++ (codes "]\n" ++ item_lines names items))))
item_lines names items = []

-- the text of a refusal: of a clash of types in a node with the places that show it, of items of one instant that depend on each other
-- with their names
abbrev pub refusal_text : Refusal → List ℕ
refusal_text (Syntax e) = syntax_line e
refusal_text (Names e) = name_fault_line e
refusal_text (Types placed node path) =
    of_one (λ n. codes "lucy: types: node " ++ (n.name.text ++ (codes ": int against bool\n"
    ++ flat_map (λ name. codes "  " ++ (name ++ codes "\n")) (place_names n path.items)))) (slice_get placed.nodes node)
refusal_text (Node placed node fault) = of_one (λ n. fault_lines n fault) (slice_get placed.nodes node)
refusal_text (Cause net names instant items) =
    codes "lucy: causality: instant " ++ (decimal instant ++ (codes "\n" ++ item_lines names.items items.items))
refusal_text (LimitPassed l) = limit_line l
refusal_text OutOfMemory = memory_line

-- the need of a fault is there
abbrev pub NamesNeed : List Need → CheckFault → Type 0
NamesNeed needs (fault.Differs need at) = need < length needs
NamesNeed needs (fault.Rates need) = need < length needs
NamesNeed needs (fault.Late need at) = need < length needs
NamesNeed needs e = Unit {0}

-- all these numbers are below the count
abbrev pub AreBelow : ℕ → List ℕ → Type 0
AreBelow count numbers = AllByRecursion (λ k. k < count) numbers

-- the needs, inequalities and variables of a fault are there
abbrev pub IsShown : NodeFault → Type 0
IsShown (NotWritten span) = Unit {0}
IsShown (Rates needs walk) = AreBelow (length needs.list) walk.items
IsShown (Clocks needs shape diffs cycle) =
    (length shape.clocks ≡ needs.clocks) × (diffs.count ≡ variable_count shape.clocks) × AreBelow (length diffs.list) cycle.items
IsShown (Check needs e) = NamesNeed needs.list e

-- a refusal names nodes, needs, inequalities and variables that are there, as those that accept gives do
abbrev pub IsTellable : Refusal → Type 0
IsTellable (Types placed node path) = node < length placed.nodes
IsTellable (Node placed node fault) = (node < length placed.nodes) × IsShown fault
IsTellable e = Unit {0}
