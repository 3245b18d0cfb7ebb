-- What `show` prints of a text.
use Rattle.std.specs.Prelude.{ℕ, ◌≡◌, List}
use Rattle.lucy_tree.specs.View.{ProgramTree}
use Rattle.lucy_grammar.specs.Print.{program_text}
use Rattle.lucy_grammar.specs.Texts.{HasTree}

-- the text has a tree, and this is how it is printed
abbrev pub IsPrintOf : (text print : List ℕ) → Type 0
IsPrintOf text print = (p : ProgramTree) × HasTree text p × (print ≡ program_text p)
