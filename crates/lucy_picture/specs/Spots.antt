-- Where an offset stands in a text. Offsets count bytes from 0, lines and columns from 1, and a line ends with a line feed.
use Rattle.std.specs.Prelude.{ℕ, ◌+◌, ◌-◌, ◌<◌, ◌≤◌, ◌≡◌, ◌≢◌, ◌==◌, ◌&&◌, ◌||◌, not, nat_eq, nat_le, ◌⊎◌, List, [], ◌∷◌, ◌++◌, codes, length, map, flat_map, take, count_by, slice_index, slice_range, if◌then◌else◌}
use Rattle.std.specs.Fmt.{decimal}
use Rattle.lucy_picture.specs.declared.spot.Spot.{Spot}

-- how many lines end in a text
abbrev pub line_ends : List ℕ → ℕ
line_ends text = count_by (λ byte. byte == 10) text

-- the line is one more than those that end before the offset, the column one more than the bytes of the line before it, and the line
-- goes from behind the last line feed before the offset, or from the beginning of the text, to the next one from the offset on, or to the
-- end of the text
pub record IsSpot (text : List ℕ) (offset : ℕ) (spot : Spot) : Type 0 where
  pub line : spot.line ≡ line_ends (take offset text) + 1
  pub begins : spot.begin ≤ offset
  pub column : spot.column ≡ offset - spot.begin + 1
  pub front : (i : ℕ) → spot.begin ≤ i → i < offset → slice_index text i ≢ 10
  pub behind : (spot.begin ≡ 0) ⊎ ((i : ℕ) × (spot.begin ≡ i + 1) × (slice_index text i ≡ 10))
  pub ends : offset ≤ spot.end
  pub within : spot.end ≤ length text
  pub back : (i : ℕ) → offset ≤ i → i < spot.end → slice_index text i ≢ 10
  pub before : (spot.end ≡ length text) ⊎ (slice_index text spot.end ≡ 10)

-- the byte as it is printed: `?` where it may move the cursor; 9 is a tabulator
abbrev pub visible : ℕ → ℕ
visible byte = if nat_eq byte 9 || (nat_le 32 byte && not (nat_eq byte 127)) then byte else 63

-- a line without the carriage return at its end
abbrev pub without_return : List ℕ → List ℕ
without_return line = if nat_eq (slice_index line (length line - 1)) 13 then take (length line - 1) line else line

-- the room that a byte takes on a line: a tabulator, nothing for one that goes on a character, or else a blank
abbrev pub room : ℕ → List ℕ
room byte = if nat_eq byte 9 then 9 ∷ [] else (if nat_le 128 byte && nat_le byte 191 then [] else 32 ∷ [])

-- `line L, column C`, the line itself, and a caret below it, behind as much room as the front of the line takes
abbrev pub spot_text : (text : List ℕ) (offset : ℕ) → Spot → List ℕ
spot_text text offset spot =
    codes "line " ++ (decimal spot.line ++ (codes ", column " ++ (decimal spot.column ++ (codes "\n"
    ++ (map visible (without_return (slice_range text spot.begin spot.end)) ++ (codes "\n"
    ++ (flat_map room (slice_range text spot.begin offset) ++ codes "^\n")))))))

-- what is put behind a text is where the offset stands
pub record PutsSpot (text : List ℕ) (offset : ℕ) (old new : List ℕ) : Type 0 where
  pub spot : Spot
  pub is : IsSpot text offset spot
  pub puts : new ≡ old ++ spot_text text offset spot
