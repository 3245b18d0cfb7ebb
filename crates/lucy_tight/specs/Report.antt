-- What is printed of one buffer of an accepted program.
use Rattle.std.specs.Prelude.{ℕ, zero, suc, ◌+◌, ◌==◌, List, [], ◌++◌, length, slice_get, codes}
use Rattle.std.specs.Fmt.{decimal}
use Rattle.lucy_place.specs.declared.placed.PlacedNode.{PlacedNode}
use Rattle.lucy_types.specs.Tables.{table_at}
use Rattle.lucy_program.specs.declared.accepted.Accepted.{Accepted}
use Rattle.lucy_program.specs.Names.{of_one}
use Rattle.lucy_front.specs.Evidence.{variable_names, cycle_lines}
use Rattle.lucy_program.specs.Report.{node_lines}
use Rattle.lucy_tight.specs.declared.answer.Least.{Least}

-- `buffer N of NODE : size P, `, with the printed size
abbrev pub size_text : PlacedNode → (buffer size : ℕ) → List ℕ
size_text n buffer size =
    codes "buffer " ++ (decimal buffer ++ (codes " of " ++ (n.name.text ++ (codes " : size " ++ (decimal size ++ codes ", ")))))

-- where the least size isn't 0, that no clocks of the shape's period have one less, and the cycle that shows it
abbrev pub less_lines : PlacedNode → (least : ℕ) → Least → List ℕ
less_lines n zero t = []
less_lines n (suc less) t =
    (codes "no size " ++ (decimal less ++ (codes " for period " ++ (decimal t.shape.period ++ codes "\n"))))
    ++ cycle_lines (variable_names n t.shape.clocks) t.diffs.list t.cycle.items

-- the whole output of a buffer: the sizes, the lines of its node at the clocks of the least size, and why one less is too small
abbrev pub tight_lines : Accepted → (node buffer : ℕ) → Least → List ℕ
tight_lines a node buffer t =
    of_one (λ n. size_text n buffer t.printed ++ ((codes "least " ++ (decimal t.least ++ codes "\n"))
    ++ (node_lines a.placed.nodes (node + 1 == length a.placed.nodes) n (table_at a.typed node) t.clocks ++ less_lines n t.least t)))
    (slice_get a.placed.nodes node)

-- the whole output of a buffer of a written node, with its size
abbrev pub fixed_lines : Accepted → (node buffer size : ℕ) → List ℕ
fixed_lines a node buffer size = of_one (λ n. size_text n buffer size ++ codes "fixed\n") (slice_get a.placed.nodes node)
