-- What the parts of the body put last.
use Rattle.std.specs.Prelude.{ℕ, ◌≡◌, List, [], ◌++◌, drop, Option, Some, None}
use Rattle.lucy_page.specs.Reading.{read_html}
use Rattle.lucy_place.specs.declared.placed.PlacedNode.{PlacedNode}
use Rattle.lucy_page.specs.Pages.{program_begin, report_begin, node_begin, PutsBoth}

-- HTML that is read as this text, whatever is read behind it
abbrev pub Reads : (html text : List ℕ) → Type 0
Reads html text = (rest more : List ℕ) → read_html rest ≡ Some more → read_html (html ++ rest) ≡ Some (text ++ more)

-- behind what stood there comes HTML of which nothing is read
pub record PutsTag (old new : List ℕ) : Type 0 where
  pub html : List ℕ
  pub puts : new ≡ old ++ html
  pub reads : Reads html []

-- behind what stood there comes HTML that is read as what stands in the text from one offset up to another
pub record PutsOn (text : List ℕ) (at next : ℕ) (old new : List ℕ) : Type 0 where
  pub html : List ℕ
  pub shown : List ℕ
  pub puts : new ≡ old ++ html
  pub reads : Reads html shown
  pub goes_on : drop at text ≡ shown ++ drop next text

-- behind what stood there come the text of a program and its report
abbrev pub PutsTexts : (text report old new : List ℕ) → Type 0
PutsTexts text report old new = PutsBoth program_begin text report_begin report old new

-- behind what stood there comes the section of the node of a number
abbrev pub PutsNode : (number : ℕ) → Option PlacedNode → (old new : List ℕ) → Type 0
PutsNode number None old new = ⊥
PutsNode number (Some n) old new = (body : List ℕ) × (new ≡ old ++ (node_begin number n.name.text ++ body))
