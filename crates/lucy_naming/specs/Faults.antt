-- What is wrong with the names of a program, in the order in which it is looked for. The first fault is the one that is told.
use Rattle.std.specs.Prelude.{ℕ, Bool, List, [], ◌∷◌, ◌++◌, ◌&&◌, Option, Some, None, is_some, Result, Ok, Err, length, map, not, if◌then◌else◌, nat_eq, nat_lt, slice_get}
use Rattle.lucy_word.specs.declared.limit.Limit.TheVariants as limit
use Rattle.lucy_host.specs.Operators.{Operator, operator_number}
use Rattle.lucy_tree.specs.declared.span.Name as names
use Rattle.lucy_tree.specs.View.{DefTree, NodeTree, ProgramTree}
use Rattle.lucy_naming.specs.declared.error.NameError.{NameError}
use Rattle.lucy_naming.specs.declared.error.NameError.TheVariants.{Unknown, Twice, NoResult, Arity, LaterNode, TooMany}
use Rattle.lucy_naming.specs.Texts.{is_in, place_in}
use Rattle.lucy_naming.specs.Phrases.{Head, Phrase, Phrases, name, headed, none, and, Host, Called, phrase_of, count}
use Rattle.lucy_naming.specs.Streams.{streams, node_names, result_count}
use Rattle.lucy_naming.specs.Places.{as_placed}
use Rattle.lucy_place.specs.Standing.{most_places}

-- the fault, where the test fails
abbrev pub unless : Bool → NameError → List NameError
unless good e = if good then [] else e ∷ []

-- where names stand: the operators of the host, the program, the nodes above, and the bytes of the node's streams
pub record Within : Type 0 where
  pub operators : List Operator
  pub all : ProgramTree
  pub above : ProgramTree
  pub streams : List (List ℕ)

-- a name that stands among those before it
abbrev pub repeat : List (List ℕ) → names.Name → List NameError
repeat before n = unless (not (is_in before n.text)) (Twice n.span)

-- names that stand among those before, or before them in the list
abbrev pub repeats : List (List ℕ) → List names.Name → List NameError
repeats before [] = []
repeats before (n ∷ ns) = repeat before n ++ repeats (before ++ n.text ∷ []) ns

-- a call of no node above; else one with other numbers of arguments and of results than that node has
abbrev pub callee_faults : ProgramTree → names.Name → ℕ → ℕ → Option NodeTree → List NameError
callee_faults all n args results None = (if is_in (node_names all) n.text then LaterNode n.span else Unknown n.span) ∷ []
callee_faults all n args results (Some callee) = unless (nat_eq (length callee.params) args && nat_eq (length callee.results) results) (Arity n.span)

-- a call with so many arguments and results
abbrev pub call_faults : Within → names.Name → ℕ → ℕ → List NameError
call_faults w n args results = callee_faults w.all n args results (slice_get w.above (place_in (node_names w.above) n.text))

-- a form that names an operator of the host, or a node
abbrev pub head_faults : Within → ℕ → ℕ → Head → List NameError
head_faults w results args (Host n) = unless (is_some (operator_number w.operators n.text)) (Unknown n.span)
head_faults w results args (Called n at) = call_faults w n args results
head_faults w results args h = []

-- an expression, which has so many results where it is a call; the head comes before its operands
abbrev mutual
  pub phrase_faults : Within → ℕ → Phrase → List NameError
  phrase_faults w results (name n) = unless (is_in w.streams n.text) (Unknown n.span)
  phrase_faults w results (headed h span fs) = head_faults w results (count fs) h ++ phrases_faults w fs

  pub phrases_faults : Within → Phrases → List NameError
  phrases_faults w none = []
  phrases_faults w (and f fs) = phrase_faults w 1 f ++ phrases_faults w fs

-- the right sides of definitions
abbrev pub def_faults : Within → List DefTree → List NameError
def_faults w [] = []
def_faults w (d ∷ ds) = phrase_faults w (result_count d.left) (phrase_of d.right) ++ def_faults w ds

-- a result that is no stream; else one that stands among the results before it
abbrev pub result_fault : List (List ℕ) → List (List ℕ) → names.Name → List NameError
result_fault streams before n = if is_in streams n.text then repeat before n else NoResult n.span ∷ []

-- the results of a node, each with those before it
abbrev pub result_faults : List (List ℕ) → List (List ℕ) → List names.Name → List NameError
result_faults streams before [] = []
result_faults streams before (n ∷ ns) = result_fault streams before n ++ result_faults streams (before ++ n.text ∷ []) ns

-- a node with these nodes above it
abbrev pub node_faults : List Operator → ProgramTree → ProgramTree → NodeTree → List NameError
node_faults operators all above n =
    let texts : List (List ℕ) = map (λ s. s.text) (streams n) in
    unless (not (is_in (node_names above) n.name.text)) (Twice n.name.span)
    ++ (repeats [] (streams n)
    ++ (def_faults (record { operators = operators; all = all; above = above; streams = texts }) n.defs
    ++ (result_faults texts [] n.results
    ++ unless (not (nat_lt most_places (length (as_placed operators above n).places))) (TooMany limit.Places))))

-- nodes below others
abbrev pub nodes_faults : List Operator → ProgramTree → ProgramTree → List NodeTree → List NameError
nodes_faults operators all above [] = []
nodes_faults operators all above (n ∷ ns) = node_faults operators all above n ++ nodes_faults operators all (above ++ n ∷ []) ns

-- what is wrong with the names of a program, where the host has these operators
abbrev pub faults : List Operator → ProgramTree → List NameError
faults operators p = nodes_faults operators p [] p

-- the first fault, where there is one
abbrev pub verdict : List NameError → Result (Unit {0}) NameError
verdict [] = Ok tt
verdict (e ∷ es) = Err e
