-- What stands in the text at the places of a node. A form is an expression that is no name.
use Rattle.std.specs.Prelude.{ℕ, zero, suc, ◌-◌, ◌≡◌, List, [], ◌∷◌, ◌++◌, Option, None, length, slice_get, nat_le, if◌then◌else◌}
use Rattle.lucy_tree.specs.Tree.{Tree, Trees, literal, variable, operator, host, sampled, merged, followed, buffered, call, no_more, more}
use Rattle.lucy_tree.specs.View.{DefTree, NodeTree}
use Rattle.lucy_place.specs.declared.entry.PlaceKind.{PlaceKind}
use Rattle.lucy_place.specs.declared.entry.PlaceKind.TheVariants as kind
use Rattle.lucy_place.specs.Standing.{sampling_word}
use Rattle.lucy_naming.specs.Streams.{streams, result_count}

-- a form so many times
abbrev pub times : ℕ → Tree → List Tree
times zero t = []
times (suc n) t = t ∷ times n t

-- the forms of an expression in the order of their places: the form itself, a call once for each of its results, then those of its
-- operands
abbrev mutual
  pub forms : (results : ℕ) → Tree → List Tree
  forms results (literal l span) = literal l span ∷ []
  forms results (variable n) = []
  forms results (operator op args span) = operator op args span ∷ all_forms args
  forms results (host n args) = host n args ∷ all_forms args
  forms results (sampled flip e w) = sampled flip e w ∷ forms 1 e
  forms results (merged w a b span) = merged w a b span ∷ (forms 1 a ++ forms 1 b)
  forms results (followed l e span) = followed l e span ∷ forms 1 e
  forms results (buffered most e span) = buffered most e span ∷ forms 1 e
  forms results (call n at args) = times results (call n at args) ++ all_forms args

  pub all_forms : Trees → List Tree
  all_forms no_more = []
  all_forms (more t ts) = forms 1 t ++ all_forms ts

-- those of right sides
abbrev pub def_forms : List DefTree → List Tree
def_forms [] = []
def_forms (d ∷ ds) = forms (result_count d.left) d.right ++ def_forms ds

-- the form at a place, which is none of the streams
abbrev pub form_at : NodeTree → (place : ℕ) → Option Tree
form_at n place = if nat_le place (length (streams n)) then None else slice_get (def_forms n.defs) (place - length (streams n) - 1)

-- what stands at a place is the form: of its kind, and with what it says
abbrev pub IsOfForm : Tree → PlaceKind → Type 0
IsOfForm (literal l span) (kind.Lit m) = l ≡ m
IsOfForm (operator op args span) (kind.Op o places) = op ≡ o
IsOfForm (host n args) (kind.Host o a b) = Unit {0}
IsOfForm (sampled flip e w) (kind.When place word) = word ≡ sampling_word flip w
IsOfForm (merged w a b span) (kind.Merge word p q) = w ≡ word
IsOfForm (followed l e span) (kind.Fby m place) = l ≡ m
IsOfForm (buffered most e span) (kind.Buffer k place) = Unit {0}
IsOfForm (call n at args) (kind.Result c j) = Unit {0}
IsOfForm t k = ⊥
