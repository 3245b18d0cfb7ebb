-- The definitions, run on small programs.
use Rattle.std.proofs.Common.{ℕ, ◌+◌, ◌≡◌, true, false, List, [], ◌∷◌, Some, None, refl}
use Rattle.std.specs.Prelude.{codes, pos}
use Rattle.lucy_word.specs.Bits.{Bits}
use Rattle.lucy_host.specs.declared.op.Op.TheVariants as op
use Rattle.lucy_host.specs.declared.kind.HostKind.TheVariants.{Min, Max}
use Rattle.lucy_host.specs.Operators.{Operator}
use Rattle.lucy_tree.specs.declared.span.Span.{Span}
use Rattle.lucy_tree.specs.declared.span.Name.{Name}
use Rattle.lucy_tree.specs.declared.decl.Decl.{Decl}
use Rattle.lucy_tree.specs.declared.expr.Lit.TheVariants as lit
use Rattle.lucy_tree.specs.Tree.{Tree, Trees, literal, variable, operator, host, sampled, followed, buffered, call, no_more, more}
use Rattle.lucy_tree.specs.View.{NodeTree}
use Rattle.lucy_naming.specs.declared.error.NameError.TheVariants as error
use Rattle.lucy_place.specs.declared.entry.PlaceEntry.{PlaceEntry}
use Rattle.lucy_place.specs.declared.entry.PlaceKind.{PlaceKind}
use Rattle.lucy_place.specs.declared.entry.PlaceKind.TheVariants as kind
use Rattle.lucy_naming.specs.Faults.{faults}
use Rattle.lucy_naming.specs.Places.{as_placed}
use Rattle.lucy_naming.specs.Written.{first_unwritten}

-- a token of so many bytes at an offset
abbrev at : ℕ → Span
at n = record { from = n; to = n + 1 }

abbrev nm : List ℕ → ℕ → Name
nm text n = record { text = text; span = at n }

abbrev bare : Name → Decl
bare n = record { name = n; holds = None; word = None }

abbrev two : Tree → Tree → Trees
two a b = more a (more b no_more)

abbrev kinds : List PlaceEntry → List PlaceKind
kinds [] = []
kinds (p ∷ ps) = p.kind ∷ kinds ps

abbrev half : Bits
half = record { prefix = []; period = true ∷ false ∷ [] }

abbrev other_half : Bits
other_half = record { prefix = []; period = false ∷ true ∷ [] }

-- let node sum x = o where rec o = x + (0 fby o)
sum : NodeTree
sum = record {
  name = nm (codes "sum") 9;
  params = bare (nm (codes "x") 13) ∷ [];
  results = nm (codes "o") 17 ∷ [];
  defs = record { left = bare (nm (codes "o") 29) ∷ []; right = operator op.Add (two (variable (nm (codes "x") 33)) (followed (lit.Int (pos 0)) (variable (nm (codes "o") 44)) (at 40))) (at 35) } ∷ [];
}

sum_places : kinds (as_placed [] [] sum).places ≡ kind.Param ∷ kind.Defined 3 ∷ kind.Op op.Add (1 ∷ 4 ∷ []) ∷ kind.Fby (lit.Int (pos 0)) 2 ∷ []
unfolding sum
sum_places = refl

sum_results : (as_placed [] [] sum).results ≡ 2 ∷ []
unfolding sum
sum_results = refl

sum_good : faults [] (sum ∷ []) ≡ []
unfolding sum
sum_good = refl

sum_unwritten : first_unwritten sum ≡ Some (at 13)
unfolding sum
sum_unwritten = refl

-- let node lag x = y where rec y = x + buffer 3 (x whenot (10))
lag : NodeTree
lag = record {
  name = nm (codes "lag") 9;
  params = bare (nm (codes "x") 13) ∷ [];
  results = nm (codes "y") 17 ∷ [];
  defs = record { left = bare (nm (codes "y") 29) ∷ []; right = operator op.Add (two (variable (nm (codes "x") 33)) (buffered (Some 3) (sampled true (variable (nm (codes "x") 45)) half) (at 37))) (at 35) } ∷ [];
}

lag_places : kinds (as_placed [] [] lag).places ≡ kind.Param ∷ kind.Defined 3 ∷ kind.Op op.Add (1 ∷ 4 ∷ []) ∷ kind.Buffer 1 5 ∷ kind.When 1 other_half ∷ []
unfolding lag
lag_places = refl

lag_buffers : (as_placed [] [] lag).buffers ≡ 4 ∷ []
unfolding lag
lag_buffers = refl

lag_bounds : (as_placed [] [] lag).bounds ≡ Some 3 ∷ []
unfolding lag
lag_bounds = refl

-- let node twin x = y where rec y = buffer 3 (buffer x): the outer buffer is the first
twin : NodeTree
twin = record {
  name = nm (codes "twin") 9;
  params = bare (nm (codes "x") 14) ∷ [];
  results = nm (codes "y") 18 ∷ [];
  defs = record { left = bare (nm (codes "y") 30) ∷ []; right = buffered (Some 3) (buffered None (variable (nm (codes "x") 51)) (at 44)) (at 34) } ∷ [];
}

twin_buffers : (as_placed [] [] twin).buffers ≡ 3 ∷ 4 ∷ []
unfolding twin
twin_buffers = refl

twin_bounds : (as_placed [] [] twin).bounds ≡ Some 3 ∷ None ∷ []
unfolding twin
twin_bounds = refl

-- let node pairs x = y where rec y = buffer (x when (10)) + buffer 3 (x whenot (10))
pairs : NodeTree
pairs = record {
  name = nm (codes "pairs") 9;
  params = bare (nm (codes "x") 15) ∷ [];
  results = nm (codes "y") 19 ∷ [];
  defs = record {
    left = bare (nm (codes "y") 31) ∷ [];
    right = operator op.Add (two (buffered None (sampled false (variable (nm (codes "x") 43)) half) (at 35)) (buffered (Some 3) (sampled true (variable (nm (codes "x") 70)) half) (at 60))) (at 58);
  } ∷ [];
}

pairs_places : kinds (as_placed [] [] pairs).places ≡ kind.Param ∷ kind.Defined 3 ∷ kind.Op op.Add (4 ∷ 6 ∷ []) ∷ kind.Buffer 1 5 ∷ kind.When 1 half ∷ kind.Buffer 2 7 ∷ kind.When 1 other_half ∷ []
unfolding pairs
pairs_places = refl

pairs_buffers : (as_placed [] [] pairs).buffers ≡ 4 ∷ 6 ∷ []
unfolding pairs
pairs_buffers = refl

pairs_bounds : (as_placed [] [] pairs).bounds ≡ None ∷ Some 3 ∷ []
unfolding pairs
pairs_bounds = refl

-- let node pair (a, b) = (b, a), whose results are parameters, and let node both z = (p, q, m) where rec (p, q) = pair at (10) (sum (z), 1) and m = host max (q, sum (p))
pair : NodeTree
pair = record { name = nm (codes "pair") 0; params = bare (nm (codes "a") 1) ∷ bare (nm (codes "b") 2) ∷ []; results = nm (codes "b") 3 ∷ nm (codes "a") 4 ∷ []; defs = [] }

both : NodeTree
both = record {
  name = nm (codes "both") 10;
  params = bare (nm (codes "z") 11) ∷ [];
  results = nm (codes "p") 12 ∷ nm (codes "q") 13 ∷ nm (codes "m") 14 ∷ [];
  defs = record {
    left = bare (nm (codes "p") 15) ∷ bare (nm (codes "q") 16) ∷ [];
    right = call (nm (codes "pair") 17) (Some half) (two (call (nm (codes "sum") 18) None (more (variable (nm (codes "z") 19)) no_more)) (literal (lit.Int (pos 1)) (at 20)));
  } ∷ record {
    left = bare (nm (codes "m") 21) ∷ [];
    right = host (nm (codes "max") 22) (two (variable (nm (codes "q") 23)) (call (nm (codes "sum") 24) None (more (variable (nm (codes "p") 25)) no_more)));
  } ∷ [];
}

extremes : List Operator
extremes = record { name = codes "min"; kind = Min } ∷ record { name = codes "max"; kind = Max } ∷ []

pair_results : (as_placed [] [] pair).results ≡ 2 ∷ 1 ∷ []
unfolding pair
pair_results = refl

both_places : kinds (as_placed extremes (sum ∷ pair ∷ []) both).places ≡ kind.Param ∷ kind.Defined 5 ∷ kind.Defined 6 ∷ kind.Defined 9
    ∷ kind.Result 1 0 ∷ kind.Result 1 1 ∷ kind.Result 2 0 ∷ kind.Lit (lit.Int (pos 1)) ∷ kind.Host 1 3 10 ∷ kind.Result 3 0 ∷ []
unfolding sum pair both extremes
both_places = refl

both_calls : (as_placed extremes (sum ∷ pair ∷ []) both).calls ≡ record { node = 1; at = Some half; first = 5; args = 7 ∷ 8 ∷ [] } ∷ record { node = 0; at = None; first = 7; args = 1 ∷ [] }
    ∷ record { node = 0; at = None; first = 10; args = 2 ∷ [] } ∷ []
unfolding sum pair both extremes
both_calls = refl

both_good : faults extremes (sum ∷ pair ∷ both ∷ []) ≡ []
unfolding sum pair both extremes
both_good = refl

-- let node f x = y where rec y = e
one : Tree → NodeTree
one e = record { name = nm (codes "f") 9; params = bare (nm (codes "x") 11) ∷ []; results = nm (codes "y") 15 ∷ []; defs = record { left = bare (nm (codes "y") 27) ∷ []; right = e } ∷ [] }

unknown : faults [] (one (variable (nm (codes "z") 31)) ∷ []) ≡ error.Unknown (at 31) ∷ []
unfolding one
unknown = refl

later_node : faults [] (one (call (nm (codes "f") 31) None (more (variable (nm (codes "x") 34)) no_more)) ∷ []) ≡ error.LaterNode (at 31) ∷ []
unfolding one
later_node = refl

arity : faults [] (one (variable (nm (codes "x") 31)) ∷ record {
  name = nm (codes "g") 42;
  params = bare (nm (codes "x") 44) ∷ [];
  results = nm (codes "y") 48 ∷ [];
  defs = record { left = bare (nm (codes "y") 60) ∷ []; right = call (nm (codes "f") 64) None (two (variable (nm (codes "x") 67)) (variable (nm (codes "x") 70))) } ∷ [];
} ∷ []) ≡ error.Arity (at 64) ∷ []
unfolding one
arity = refl

-- let node f x = q where rec y = x and y = x
twice : faults [] (record {
  name = nm (codes "f") 9;
  params = bare (nm (codes "x") 11) ∷ [];
  results = nm (codes "q") 15 ∷ [];
  defs = record { left = bare (nm (codes "y") 27) ∷ []; right = variable (nm (codes "x") 31) } ∷ record { left = bare (nm (codes "y") 37) ∷ []; right = variable (nm (codes "x") 41) } ∷ [];
} ∷ []) ≡ error.Twice (at 37) ∷ error.NoResult (at 15) ∷ []
twice = refl

-- let node top x = m where rec m = host NAME (x, 0 fby m)
top : Name → NodeTree
top called = record {
  name = nm (codes "top") 9;
  params = bare (nm (codes "x") 13) ∷ [];
  results = nm (codes "m") 17 ∷ [];
  defs = record { left = bare (nm (codes "m") 29) ∷ []; right = host called (two (variable (nm (codes "x") 43)) (followed (lit.Int (pos 0)) (variable (nm (codes "m") 52)) (at 48))) } ∷ [];
}

top_good : faults extremes (top (nm (codes "max") 38) ∷ []) ≡ []
unfolding top extremes
top_good = refl

top_places : kinds (as_placed extremes [] (top (nm (codes "max") 38))).places ≡ kind.Param ∷ kind.Defined 3 ∷ kind.Host 1 1 4 ∷ kind.Fby (lit.Int (pos 0)) 2 ∷ []
unfolding top extremes
top_places = refl

no_operator : faults extremes (top (nm (codes "nope") 38) ∷ []) ≡ error.Unknown (at 38) ∷ []
unfolding top extremes
no_operator = refl

-- where the host has no operators; and a name that stands again among results is refused after what they lack
results : faults [] (record {
  name = nm (codes "f") 9;
  params = bare (nm (codes "x") 11) ∷ [];
  results = nm (codes "x") 15 ∷ nm (codes "x") 18 ∷ [];
  defs = record { left = bare (nm (codes "y") 27) ∷ []; right = host (nm (codes "max") 36) (two (variable (nm (codes "x") 41)) (variable (nm (codes "w") 44))) } ∷ [];
} ∷ []) ≡ error.Unknown (at 36) ∷ error.Unknown (at 44) ∷ error.Twice (at 18) ∷ []
results = refl
