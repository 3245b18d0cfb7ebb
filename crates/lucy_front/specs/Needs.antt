-- A need in print, over the places of its node.
use Rattle.std.specs.Prelude.{ℕ, suc, zero, ◌-◌, List, [], ◌++◌, length, nat_le, bytes_eq, codes, if◌then◌else◌}
use Rattle.std.specs.Fmt.{decimal}
use Rattle.lucy_word.specs.Spelling.{text_of}
use Rattle.lucy_place.specs.declared.placed.PlacedNode.{PlacedNode}
use Rattle.lucy_need.specs.declared.need.Term.{Term}
use Rattle.lucy_need.specs.declared.need.Need.{Need}
use Rattle.lucy_need.specs.declared.need.Need.TheVariants.{Equal, Adapt}
use Rattle.lucy_program.specs.Names.{place_name}

-- a clock: `base`, a place, or `callN` for the base of call N
abbrev pub clock_name : PlacedNode → ℕ → List ℕ
clock_name n zero = codes "base"
clock_name n (suc i) = if nat_le (suc i) (length n.places) then place_name n (suc i) else (codes "call" ++ decimal (suc i - length n.places))

-- a term: a clock, and the word that samples it, but for the word (1)
abbrev pub term_text : PlacedNode → Term → List ℕ
term_text n t = clock_name n t.clock ++ (if bytes_eq (text_of t.word) (codes "(1)") then [] else (codes " on " ++ text_of t.word))

-- a need: the two terms, with = or <: between them
abbrev pub need_text : PlacedNode → Need → List ℕ
need_text n (Equal s t) = term_text n s ++ (codes " = " ++ term_text n t)
need_text n (Adapt s t) = term_text n s ++ (codes " <: " ++ term_text n t)
