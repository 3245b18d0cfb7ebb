-- What stands at a place, as text: by its operands, each by its name, else as `#` and its number.
use Rattle.std.specs.Prelude.{ℕ, ◌+◌, nat_eq, true, List, [], ◌∷◌, ◌++◌, Option, Some, None, codes, if◌then◌else◌}
use Rattle.std.specs.Fmt.{decimal}
use Rattle.lucy_word.specs.Bits.{Bits}
use Rattle.lucy_word.specs.Spelling.{text_of}
use Rattle.lucy_host.specs.declared.op.Op.{Op}
use Rattle.lucy_tree.specs.Tree.{Tree, host, sampled, call}
use Rattle.lucy_token.specs.Marks.{spelling, op_mark}
use Rattle.lucy_grammar.specs.Print.{literal_text}
use Rattle.lucy_place.specs.declared.entry.PlaceEntry.{PlaceEntry}
use Rattle.lucy_place.specs.declared.entry.PlaceKind.{PlaceKind}
use Rattle.lucy_place.specs.declared.entry.PlaceKind.TheVariants as kind
use Rattle.lucy_place.specs.declared.entry.CallSite.{CallSite}
use Rattle.lucy_place.specs.declared.placed.PlacedNode.{PlacedNode}
use Rattle.lucy_place.specs.Standing.{at_one, bound_of}
use Rattle.lucy_program.specs.Names.{of_one, place_name, place_names, listed}

-- the written word of a `whenot`, whose place has the complement
abbrev pub whenot_word : Option Tree → Option Bits
whenot_word (Some (sampled true e w)) = Some w
whenot_word form = None

-- the written name of an operator of the host
abbrev pub host_name : Option Tree → List ℕ
host_name (Some (host n args)) = n.text
host_name form = []

-- the name of the node that is called
abbrev pub called_name : Option Tree → List ℕ
called_name (Some (call n at args)) = n.text
called_name form = []

-- an operator with its operands: `not A`, `A + B`, `if A then B else C`
abbrev pub operator_text : PlacedNode → Op → List ℕ → List ℕ
operator_text n op [] = spelling (op_mark op)
operator_text n op (a ∷ []) = spelling (op_mark op) ++ (codes " " ++ place_name n a)
operator_text n op (a ∷ b ∷ []) = place_name n a ++ (codes " " ++ (spelling (op_mark op) ++ (codes " " ++ place_name n b)))
operator_text n op (a ∷ b ∷ c ∷ more) =
    spelling (op_mark op) ++ (codes " " ++ (place_name n a ++ (codes " then " ++ (place_name n b ++ (codes " else " ++ place_name n c)))))

-- places in parentheses, parted by `, `
abbrev pub in_parens : PlacedNode → List ℕ → List ℕ
in_parens n places = codes " (" ++ (listed (place_names n places) ++ codes ")")

-- ` when W`, or ` whenot W` where this is written
abbrev pub sampling_text : Bits → (written : Option Bits) → List ℕ
sampling_text word None = codes " when " ++ text_of word
sampling_text word (Some w) = codes " whenot " ++ text_of w

-- `buffer A`, or with a written bound `buffer B (A)`
abbrev pub buffer_text : Option ℕ → (operand : List ℕ) → List ℕ
buffer_text None operand = codes "buffer " ++ operand
buffer_text (Some most) operand = codes "buffer " ++ (decimal most ++ (codes " (" ++ (operand ++ codes ")")))

-- which result of its call it is, of a result from 0, where it is not the first
abbrev pub nth_text : ℕ → List ℕ
nth_text nth = if nat_eq nth 0 then [] else (codes "result " ++ (decimal (nth + 1) ++ codes " of "))

-- ` at W`, where a base is written
abbrev pub at_text : Option Bits → List ℕ
at_text base = of_one (λ w. codes " at " ++ text_of w) base

-- a call of this node: `NODE at W (A, B)`
abbrev pub call_text : PlacedNode → (name : List ℕ) → CallSite → List ℕ
call_text n name site = name ++ (at_text site.at ++ in_parens n site.args)

-- What stands at a place of this kind, which is this form where it is none of the streams: nothing for a parameter, and for a defined
-- name the place of its right side.
abbrev pub kind_text : PlacedNode → PlaceKind → (form : Option Tree) → List ℕ
kind_text n kind.Param form = []
kind_text n (kind.Defined right) form = place_name n right
kind_text n (kind.Lit l) form = literal_text l
kind_text n (kind.Op op places) form = operator_text n op places
kind_text n (kind.Host op a b) form = codes "host " ++ (host_name form ++ in_parens n (a ∷ b ∷ []))
kind_text n (kind.When e word) form = place_name n e ++ sampling_text word (whenot_word form)
kind_text n (kind.Merge word a b) form = codes "merge " ++ (text_of word ++ (codes " " ++ (place_name n a ++ (codes " " ++ place_name n b))))
kind_text n (kind.Fby l e) form = literal_text l ++ (codes " fby " ++ place_name n e)
kind_text n (kind.Buffer k e) form = buffer_text (bound_of n k) (place_name n e)
kind_text n (kind.Result k nth) form = nth_text nth ++ of_one (call_text n (called_name form)) (at_one n.calls k)

-- what stands between a name and what it is defined as
abbrev pub equals_text : PlaceKind → List ℕ
equals_text (kind.Defined right) = codes " = "
equals_text k = []

-- the first line of a place: `#N of NODE: `, its name where it has one, and what stands there
abbrev pub entry_text : PlacedNode → (place : ℕ) → PlaceEntry → (form : Option Tree) → List ℕ
entry_text n place entry form =
    codes "#" ++ (decimal place ++ (codes " of " ++ (n.name.text ++ (codes ": "
    ++ (of_one (λ x. x.text ++ equals_text entry.kind) entry.name ++ (kind_text n entry.kind form ++ codes "\n"))))))
