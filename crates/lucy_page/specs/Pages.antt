-- What stands on a page.
use Rattle.std.specs.Prelude.{ℕ, ◌+◌, ◌≡◌, List, [], ◌∷◌, ◌++◌, Some, codes}
use Rattle.std.specs.Fmt.{decimal}
use Rattle.lucy_place.specs.declared.placed.PlacedNode.{PlacedNode}
use Rattle.lucy_svg.specs.Escaping.{escaped}
use Rattle.lucy_page.specs.Reading.{read_html}

-- with what the section of the program's text begins; browsers leave out a line feed that comes first in `<pre>`
abbrev pub program_begin : List ℕ
program_begin = codes "<section id=\"text\"><h2>Program</h2>\n<pre>\n"

-- with what that of the report begins
abbrev pub report_begin : List ℕ
report_begin = codes "<section id=\"report\"><h2>Report</h2>\n<pre>\n"

-- with what that of a refusal begins
abbrev pub refusal_begin : List ℕ
refusal_begin = codes "<section id=\"refusal\"><h2>Refusal</h2>\n<pre>\n"

-- with what all of them end
abbrev pub section_end : List ℕ
section_end = codes "</pre></section>\n"

-- behind what stood there comes a section that begins so, in which HTML stands that is read as this text
pub record PutsSection (begin text old new : List ℕ) : Type 0 where
  pub html : List ℕ
  pub puts : new ≡ old ++ (begin ++ (html ++ section_end))
  pub reads : read_html html ≡ Some text

-- and behind it another
pub record PutsBoth (begin text next told old new : List ℕ) : Type 0 where
  pub between : List ℕ
  pub first : PutsSection begin text old between
  pub second : PutsSection next told between new

-- a text that is a link to a place in the page
abbrev pub linked : (place text : List ℕ) → List ℕ
linked place text = codes "<a href=\"#" ++ (escaped place ++ (codes "\">" ++ (escaped text ++ codes "</a>")))

-- with what the section of a node begins, by its number from 0 and its name
abbrev pub node_begin : (number : ℕ) (name : List ℕ) → List ℕ
node_begin number name =
    codes "<section id=\"n" ++ (decimal number ++ (codes "\"><h2>Node " ++ (linked (codes "t" ++ decimal number) name ++ codes "</h2>\n")))

-- the sections of nodes from a number on, in order
abbrev pub AreSections : (number : ℕ) → List PlacedNode → (html : List ℕ) → Type 0
AreSections number [] html = html ≡ []
AreSections number (n ∷ nodes) html =
    (body : List ℕ) × (rest : List ℕ) × (html ≡ node_begin number n.name.text ++ (body ++ rest)) × AreSections (number + 1) nodes rest

-- with what a page ends
abbrev pub page_end : List ℕ
page_end = codes "</body></html>\n"

-- both stand on a page, and these sections behind them
pub record HasBoth (begin text next told : List ℕ) (AreBehind : List ℕ → Type 0) (page : List ℕ) : Type 0 where
  pub head : List ℕ
  pub whole : List ℕ
  pub sections : List ℕ
  pub both : PutsBoth begin text next told head whole
  pub behind : AreBehind sections
  pub is : page ≡ whole ++ (sections ++ page_end)

-- the text of a program, its report, and a section for each of its nodes, in order; the texts are read on the page as themselves, whatever
-- their bytes are
abbrev pub IsPage : List PlacedNode → (text report page : List ℕ) → Type 0
IsPage nodes text report page = HasBoth program_begin text report_begin report (AreSections 0 nodes) page

-- what is told of a refusal and the text, which are read so too
abbrev pub IsRefusedPage : (told text page : List ℕ) → Type 0
IsRefusedPage told text page = HasBoth refusal_begin told program_begin text (λ sections. sections ≡ []) page
