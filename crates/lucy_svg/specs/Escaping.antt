-- How a text stands in XML, in an element or between quotes, and what its marks are read as. XML itself reads a carriage return as a line
-- feed, and has no other control bytes; such ones are left as they are.
use Rattle.std.specs.Prelude.{ℕ, ◌==◌, List, [], ◌∷◌, ◌++◌, Option, Some, None, codes, if◌then◌else◌}
use Rattle.std.specs.List.{flat_map}
use Rattle.std.specs.Option.{option_map, option_and_then}
use Rattle.std.specs.Str.{bytes_eq}

-- the name of a mark of XML, which is `"`, `&`, `'`, `<` or `>`
abbrev pub name_of : ℕ → Option (List ℕ)
name_of byte =
    if byte == 34 then Some (codes "quot") else
    (if byte == 38 then Some (codes "amp") else
    (if byte == 39 then Some (codes "#39") else
    (if byte == 60 then Some (codes "lt") else
    (if byte == 62 then Some (codes "gt") else None))))

-- a mark stands by its name between `&` and `;`, any other byte by itself
abbrev pub written : ℕ → (name : Option (List ℕ)) → List ℕ
written byte None = byte ∷ []
written byte (Some name) = codes "&" ++ (name ++ codes ";")

abbrev pub escaped_byte : ℕ → List ℕ
escaped_byte byte = written byte (name_of byte)

abbrev pub escaped : List ℕ → List ℕ
escaped text = flat_map escaped_byte text

-- the mark of a name
abbrev pub mark_of : List ℕ → Option ℕ
mark_of name =
    if bytes_eq name (codes "quot") then Some 34 else
    (if bytes_eq name (codes "amp") then Some 38 else
    (if bytes_eq name (codes "#39") then Some 39 else
    (if bytes_eq name (codes "lt") then Some 60 else
    (if bytes_eq name (codes "gt") then Some 62 else None))))

-- a byte before the rest, which is read so far
abbrev pub before : ℕ → (rest : Option (List ℕ)) → Option (List ℕ)
before byte rest = option_map (λ text. byte ∷ text) rest

-- what a byte that is no `&` is read as: itself, where it is no mark
abbrev pub plain : ℕ → (name : Option (List ℕ)) → (rest : Option (List ℕ)) → Option (List ℕ)
plain byte None rest = before byte rest
plain byte (Some name) rest = None

-- what a text is read as by its marks: outside of names a byte by itself, and what stands from `&` to `;` as the mark of that name, of which so
-- much is read. None, where a bare mark stands in it, a name is none of these or has no end
abbrev pub read_on : (name : Option (List ℕ)) → List ℕ → Option (List ℕ)
read_on None [] = Some []
read_on (Some name) [] = None
read_on None (byte ∷ rest) = if byte == 38 then read_on (Some []) rest else plain byte (name_of byte) (read_on None rest)
read_on (Some name) (byte ∷ rest) =
    if byte == 59 then option_and_then (λ mark. before mark (read_on None rest)) (mark_of name) else read_on (Some (name ++ byte ∷ [])) rest

abbrev pub unescaped : List ℕ → Option (List ℕ)
unescaped text = read_on None text
