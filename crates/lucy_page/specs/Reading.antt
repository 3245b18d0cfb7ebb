-- What HTML is read as: the text that stands between its tags, with the names of marks as these.
use Rattle.std.specs.Prelude.{ℕ, ◌==◌, Bool, true, false, List, [], ◌∷◌, Option, if◌then◌else◌}
use Rattle.lucy_svg.specs.Escaping.{unescaped}

-- HTML without its tags, each of which goes from `<`, which is 60, to the next `>`, which is 62, from inside of one on or from outside of all
abbrev pub without_tags : (inside : Bool) → List ℕ → List ℕ
without_tags inside [] = []
without_tags true (byte ∷ rest) = if byte == 62 then without_tags false rest else without_tags true rest
without_tags false (byte ∷ rest) = if byte == 60 then without_tags true rest else (byte ∷ without_tags false rest)

-- what is read of it
abbrev pub read_html : List ℕ → Option (List ℕ)
read_html html = unescaped (without_tags false html)
