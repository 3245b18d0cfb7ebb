-- A chronogram as text. How wide its columns are is left open, and what its ruler says.
use Rattle.std.specs.Prelude.{ℕ, ◌+◌, ◌-◌, ◌%◌, ◌≡◌, nat_eq, nat_lt, nat_le, Bool, false, List, [], ◌∷◌, ◌++◌, Option, Some, None, length, map, flat_map, replicate, slice_get, codes, if◌then◌else◌}
use Rattle.std.specs.Fmt.{decimal}
use Rattle.lucy_word.specs.Bits.{Bits}
use Rattle.lucy_word.specs.Spelling.{text_of}
use Rattle.lucy_place.specs.declared.placed.PlacedNode.{PlacedNode}
use Rattle.lucy_place.specs.Standing.{bound_of}
use Rattle.lucy_program.specs.Names.{of_one, name_at, node_line}
use Rattle.lucy_program.specs.Report.{size_part}
use Rattle.lucy_picture.specs.declared.chart.Chart.{Chart}
use Rattle.lucy_picture.specs.declared.row.Row.{Row}
use Rattle.lucy_picture.specs.declared.fill.Fill.{Fill}
use Rattle.lucy_picture.specs.declared.turn.Turn.{Turn}
use Rattle.lucy_picture.specs.Turns.{whole}

-- whether a period begins at an instant, which is not the first one
abbrev pub has_bar : Option Turn → ℕ → Bool
has_bar None i = false
has_bar (Some turn) i =
    if nat_lt i 2 then false else (if nat_le i turn.prefix then false
    else (if nat_eq turn.period 0 then false else nat_eq ((i - turn.prefix - 1) % turn.period) 0))

-- the bar that stands there
abbrev pub bar : Option Turn → ℕ → List ℕ
bar turn i = if has_bar turn i then codes "|" else []

-- the cell of an instant: a text at its right end, behind the bar
abbrev pub cell_text : Option Turn → (cell i : ℕ) → List ℕ → List ℕ
cell_text turn cell i text = bar turn i ++ (replicate (cell - length text) 32 ++ text)

-- those of instants from a number on
abbrev pub cells : Option Turn → (cell i : ℕ) → List (List ℕ) → List ℕ
cells turn cell i [] = []
cells turn cell i (t ∷ ts) = cell_text turn cell i t ++ cells turn cell (i + 1) ts

-- a mark: `*` where an item is, else `.`
abbrev pub mark_text : Bool → List ℕ
mark_text mark = if mark then codes "*" else codes "."

-- a cell for each mark, from the first instant on
abbrev pub marks_text : Option Turn → (cell : ℕ) → List Bool → List ℕ
marks_text turn cell marks = cells turn cell 1 (map mark_text marks)

-- one for each number
abbrev pub numbers_text : Option Turn → (cell : ℕ) → List ℕ → List ℕ
numbers_text turn cell numbers = cells turn cell 1 (map decimal numbers)

-- a name behind an indent, and blanks up to the cells
abbrev pub name_text : (margin indent : ℕ) → List ℕ → List ℕ
name_text margin indent name = replicate indent 32 ++ (name ++ replicate (margin - (indent + length name)) 32)

-- how wide a cell and the names before the cells are, and what stands on the ruler
pub record Layout : Type 0 where
  pub cell : ℕ
  pub margin : ℕ
  pub ruler : List ℕ

-- the word of a place
abbrev pub word_text : List Bits → (place : ℕ) → List ℕ
word_text words place = of_one text_of (slice_get words place)

-- the line of a stream: its name, its marks and its word
abbrev pub row_text : PlacedNode → List Bits → Option Turn → (cell margin : ℕ) → Row → List ℕ
row_text n words turn cell margin row =
    name_text margin 2 (of_one (λ name. name.text) (name_at n row.place))
    ++ (marks_text turn cell row.marks ++ (codes "  " ++ (word_text words row.place ++ codes "\n")))

-- when the size of a buffer is reached first
abbrev pub full_text : Option ℕ → List ℕ
full_text None = codes ", not reached at these instants\n"
full_text (Some at) = codes ", first at " ++ (decimal at ++ codes "\n")

-- the first line of a buffer: its words, its size and its bound, as in the report, and when the size is reached
abbrev pub buffer_head : PlacedNode → List Bits → Fill → List ℕ
buffer_head n words fill =
    codes "  buffer " ++ (decimal fill.buffer ++ (codes " : " ++ (word_text words fill.operand ++ (codes " <: "
    ++ (word_text words fill.place ++ (size_part fill.size (bound_of n fill.buffer) ++ full_text fill.full))))))

-- a line of a buffer
abbrev pub buffer_line : (margin : ℕ) → (name cells : List ℕ) → List ℕ
buffer_line margin name cells = name_text margin 4 name ++ (cells ++ codes "\n")

-- the marks of what goes in, those of what comes out, and how many items wait
abbrev pub written_line : Option Turn → (cell margin : ℕ) → Fill → List ℕ
written_line turn cell margin fill = buffer_line margin (codes "in") (marks_text turn cell fill.written)

abbrev pub read_line : Option Turn → (cell margin : ℕ) → Fill → List ℕ
read_line turn cell margin fill = buffer_line margin (codes "out") (marks_text turn cell fill.read)

abbrev pub waits_line : Option Turn → (cell margin : ℕ) → Fill → List ℕ
waits_line turn cell margin fill = buffer_line margin (codes "waiting") (numbers_text turn cell fill.waits)

-- the lines of a buffer: its first one, and those three
abbrev pub fill_text : PlacedNode → List Bits → Option Turn → (cell margin : ℕ) → Fill → List ℕ
fill_text n words turn cell margin fill =
    buffer_head n words fill ++ (written_line turn cell margin fill ++ (read_line turn cell margin fill ++ waits_line turn cell margin fill))

-- a number of instants
abbrev pub instants_text : ℕ → List ℕ
instants_text count = if nat_eq count 1 then codes "1 instant" else (decimal count ++ codes " instants")

-- when all comes again together
abbrev pub turn_text : Option Turn → List ℕ
turn_text None = codes "  no period within the limit Schedule\n"
turn_text (Some turn) =
    if nat_eq turn.prefix 0 then codes "  " ++ (instants_text turn.period ++ codes " again and again\n")
    else (codes "  " ++ (instants_text turn.prefix ++ (codes ", then " ++ (decimal turn.period ++ codes " again and again\n"))))

-- that not all instants up to the end of the second period are shown, where they aren't
abbrev pub more_text : Option Turn → (shown : ℕ) → List ℕ
more_text None shown = codes "  the first " ++ (decimal shown ++ codes " instants\n")
more_text (Some turn) shown =
    if nat_lt shown (whole turn) then codes "  the first " ++ (decimal shown ++ (codes " of " ++ (decimal (whole turn) ++ codes " instants\n")))
    else []

-- a chronogram: the node's first line, when all comes again, a ruler, a line for each stream, those of each buffer, each in order, and
-- whether there is more
abbrev pub chart_text : PlacedNode → List Bits → Option Turn → (shown : ℕ) → Layout → Chart → List ℕ
chart_text n words turn shown layout chart =
    node_line n ++ (turn_text turn ++ (layout.ruler
    ++ (flat_map (row_text n words turn layout.cell layout.margin) chart.rows.items
    ++ (flat_map (fill_text n words turn layout.cell layout.margin) chart.fills.items ++ more_text turn shown))))

-- what is put behind a text is the chronogram, laid out somehow
pub record PutsChart (n : PlacedNode) (words : List Bits) (turn : Option Turn) (shown : ℕ) (chart : Chart) (old new : List ℕ) : Type 0 where
  pub layout : Layout
  pub puts : new ≡ old ++ chart_text n words turn shown layout chart
