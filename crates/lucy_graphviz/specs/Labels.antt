-- What stands in the labels of a drawing beside that: texts of words, and what is told of a buffer.
use Rattle.std.specs.Prelude.{ℕ, nat_le, List, [], ◌++◌, length, take, codes, if◌then◌else◌}
use Rattle.std.specs.Fmt.{decimal}
use Rattle.lucy_word.specs.Bits.{Bits}
use Rattle.lucy_word.specs.Spelling.{text_of}
use Rattle.lucy_place.specs.declared.entry.PlaceKind.{PlaceKind}
use Rattle.lucy_place.specs.declared.entry.PlaceKind.TheVariants as kind
use Rattle.lucy_place.specs.declared.placed.PlacedNode.{PlacedNode}
use Rattle.lucy_place.specs.Standing.{at_one, bound_of}
use Rattle.lucy_program.specs.Names.{of_one}

-- a text, cut off behind 60 bytes
abbrev pub cut_text : List ℕ → List ℕ
cut_text text = if nat_le (length text) 60 then text else (take 60 text ++ codes "..")

-- the text of a word
abbrev pub word_label : Bits → List ℕ
word_label w = cut_text (text_of w)

-- a line of a buffer behind what stands at its place: its number, its size and its bound, as in the report; nothing of any other place
abbrev pub buffer_part : PlacedNode → (sizes : List ℕ) → PlaceKind → List ℕ
buffer_part n sizes (kind.Buffer k e) =
    codes "\nbuffer " ++ (decimal k ++ (of_one (λ size. codes " size " ++ decimal size) (at_one sizes k)
    ++ of_one (λ most. codes " at most " ++ decimal most) (bound_of n k)))
buffer_part n sizes k = []
