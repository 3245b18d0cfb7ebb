-- The iterates of a program's equations on streams, from no items at all (Kahn 1974).
use Rattle.std.specs.Prelude.{ℕ, suc, zero, List, [], map, ℤ}
use Rattle.lucy_host.specs.declared.kind.HostKind.{HostKind}
use Rattle.lucy_stream.specs.Items.{list_at}
use Rattle.lucy_stream.specs.Forms.{Form}
use Rattle.lucy_stream.specs.Lists.{form_list}

-- a place: its form, and the numbers of the places that it reads, in the order of its operands
pub record Place : Type 0 where
  pub form : Form
  pub reads : List ℕ

-- the lists of the places that are read
abbrev pub lists_of : List (List ℤ) → List ℕ → List (List ℤ)
lists_of lists reads = map (list_at lists) reads

-- the list of each place in iterate n
abbrev pub iterate : List HostKind → List (List ℤ) → List Place → ℕ → List (List ℤ)
iterate kinds inputs places zero = map (λ place. []) places
iterate kinds inputs places (suc n) = map (λ place. form_list kinds inputs n place.form (lists_of (iterate kinds inputs places n) place.reads)) places
