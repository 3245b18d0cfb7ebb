-- The program that `make` generates of so many stages, and its input.
use Rattle.std.specs.Prelude.{ℕ, zero, suc, ◌-◌, ◌*◌, ◌%◌, ◌==◌, List, [], ◌++◌, codes, if◌then◌else◌}
use Rattle.std.specs.Fmt.{decimal}

-- the form of a stage on such a stream, by the remainder of its number: a sum, a sum of neighbours, a swap in pairs, a threshold
abbrev pub form : (remainder stage : ℕ) (x : List ℕ) → List ℕ
form remainder stage x =
    if remainder == 1 then x ++ (codes " + " ++ decimal stage)
    else (if remainder == 2 then x ++ (codes " + (0 fby " ++ (x ++ codes ")"))
    else (if remainder == 3 then codes "merge (01) (buffer (" ++ (x ++ (codes " when (10))) (buffer (" ++ (x ++ codes " when (01)))")))
    else codes "if " ++ (x ++ (codes " < " ++ (decimal (100 * stage) ++ (codes " then " ++ (x ++ (codes " else " ++ (x ++ (codes " - " ++ decimal stage))))))))))

-- the line of a stage, which stands on main's input where it is the first, else on the stream of the stage before
abbrev pub stage_line : (stage : ℕ) → List ℕ
stage_line stage =
    let source : List ℕ = if stage == 1 then codes "x" else codes "y" ++ decimal (stage - 1) in
    (if stage == 1 then codes "  " else codes "  and ")
    ++ (codes "y" ++ (decimal stage ++ (codes " = " ++ (form (stage % 4) stage source ++ codes "\n"))))

-- those of the first stages
abbrev pub stage_lines : (stages : ℕ) → List ℕ
stage_lines zero = []
stage_lines (suc n) = stage_lines n ++ stage_line (suc n)

-- the program
abbrev pub made_text : (stages : ℕ) → List ℕ
made_text stages = codes "let node made x = y" ++ (decimal stages ++ (codes " where rec\n" ++ stage_lines stages))

-- the lines of the first items, of which each has its number as its value
unfoldable pub made_lines : (items : ℕ) → List ℕ
made_lines zero = []
made_lines (suc n) = made_lines n ++ (codes "x " ++ (decimal (suc n) ++ codes "\n"))

-- the input has a thousand items
unfoldable pub made_input : List ℕ
made_input = made_lines 1000
