-- Texts in a picture: how many of their letters are shown, and how wide they are. Lengths are in pixels.
use Rattle.std.specs.Prelude.{ℕ, ◌-◌, ◌*◌, ◌^◌, min, nat_eq, nat_le, List, [], ◌++◌, length, take, codes, if◌then◌else◌}
use Rattle.std.specs.Fmt.{decimal}
use Rattle.lucy_svg.specs.declared.print.ink.Font.{Font}
use Rattle.lucy_svg.specs.Escaping.{escaped}

-- how wide a text of so many letters is: as many as are shown, each as wide as a letter
abbrev pub width_of : Font → (letters : ℕ) → ℕ
width_of font letters = min (min letters font.most * font.letter) (2 ^ 64 - 1)

-- the letters of a text that are shown: where it has more, the last two are dots
abbrev pub front_of : (most : ℕ) → List ℕ → List ℕ
front_of most text = if nat_le (length text) most then escaped text else (escaped (take (most - 2) text) ++ codes "..")

-- the begin of the element of a text that is so wide, at a point
abbrev pub label_begin : Font → (x y wide : ℕ) → List ℕ
label_begin font x y wide =
    codes "<text class=\"" ++ (font.class.now ++ (codes "\" x=\"" ++ (decimal x ++ (codes "\" y=\"" ++ (decimal y
    ++ (codes "\" textLength=\"" ++ (decimal wide ++ codes "\" lengthAdjust=\"spacingAndGlyphs\">")))))))

-- the element of a text at a point
abbrev pub element_text : Font → (x y : ℕ) → List ℕ → List ℕ
element_text font x y text = label_begin font x y (width_of font (length text)) ++ (front_of font.most text ++ codes "</text>")

-- a text that begins at a point, and nothing where it has no letter
abbrev pub label_text : Font → (x y : ℕ) → List ℕ → List ℕ
label_text font x y text = if nat_eq (length text) 0 then [] else element_text font x y text

-- a number whose middle is above or below a point
abbrev pub count_text : (x y number : ℕ) → List ℕ
count_text x y number =
    codes "<text class=\"count\" x=\"" ++ (decimal x ++ (codes "\" y=\"" ++ (decimal y ++ (codes "\">" ++ (decimal number ++ codes "</text>")))))

-- a line of a class from a point to another
abbrev pub line_text : (class : List ℕ) → (x y right down : ℕ) → List ℕ
line_text class x y right down =
    codes "<path class=\"" ++ (class ++ (codes "\" d=\"M" ++ (decimal x ++ (codes " " ++ (decimal y ++ (codes "L" ++ (decimal right ++ (codes " " ++ (decimal down
    ++ codes "\"/>")))))))))
