-- What is known of the parts of a chronogram.
use Rattle.std.proofs.Common.{ℕ, ◌+◌, ◌≡◌, ◌≤◌, List, [], ◌∷◌, ◌++◌, Option, Some, None, length, map, sym, ap, ◌∙◌, subst, arith}
use Rattle.std.specs.Prelude.{slice_get}
use Rattle.std.specs.List.{AllByRecursion}
use Rattle.std.proofs.lemmas.List.FromFn.{map-range_with_len_more}
use Rattle.std.proofs.lemmas.Option.{same_Some}
use Rattle.lucy_host.specs.Operators.{Operator}
use Rattle.lucy_tree.specs.declared.span.Name.{Name}
use Rattle.lucy_place.specs.declared.entry.PlaceEntry.{PlaceEntry}
use Rattle.lucy_place.specs.declared.placed.PlacedNode.{PlacedNode}
use Rattle.lucy_need.specs.Meeting.{assigned}
use Rattle.lucy_clock.specs.declared.node_clock.NodeClock.{NodeClock}
use Rattle.lucy_clock.specs.WellClocked.{KeepsRule}
use Rattle.lucy_program.specs.declared.accepted.Accepted.{Accepted}
use Rattle.lucy_program.specs.declared.options.Options.{Options}
use Rattle.lucy_program.specs.Accepting.{IsAccepted}
use Rattle.lucy_picture.specs.Charts.{instants, if_named, named_from, named_places}
use Rattle.lucy_picture.specs.Drawn.{IsDrawn}

-- one instant more
pub instants_more : {X : Type 0} (f : ℕ → X) (i : ℕ) (old new : List X) (x : X) → old ≡ map f (instants i) → new ≡ old ++ x ∷ [] → x ≡ f (i + 1) → new ≡ map f (instants (i + 1))
instants_more f i old new x before more is =
    more ∙ ap (λ l. l ++ x ∷ []) before ∙ ap (λ y. map f (instants i) ++ y ∷ []) is ∙ sym (map-range_with_len_more f 1 i (i + 1) (omega arith))

-- places with names are places
one_named : (most p : ℕ) (name : Option Name) (rest : List ℕ) → p ≤ most → AllByRecursion (λ q. q ≤ most) rest → AllByRecursion (λ q. q ≤ most) (if_named p name ++ rest)
one_named most p None rest h all = all
one_named most p (Some name) rest h all = (h, all)

named_within : (most p : ℕ) (es : List PlaceEntry) → p + length es ≤ most + 1 → AllByRecursion (λ q. q ≤ most) (named_from p es)
named_within most p [] h = tt
named_within most p (e ∷ es) h = one_named most p e.name (named_from (p + 1) es) (omega arith) (named_within most (p + 1) es (omega arith))

pub places_within : (n : PlacedNode) → AllByRecursion (λ q. q ≤ length n.places) (named_places n)
places_within n = named_within (length n.places) 1 n.places (omega arith)

-- the clocks of an accepted program are fit for a chronogram
module _ (ops : List Operator) (o : Options) (text : List ℕ) (a : Accepted) (is : IsAccepted ops o text a) where
  pub clocks_count : length a.clocks.items ≡ length a.placed.nodes
  clocks_count = is.clocked.clocks.all

  pub drawn : (node : ℕ) (n : PlacedNode) (c : NodeClock) → slice_get a.placed.nodes node ≡ Some n → slice_get a.clocks.items node ≡ Some c → IsDrawn n c
  drawn node n c at of =
      let clocked = is.clocked.clocks.each node n c at of in record {
        words = clocked.count;
        sizes = clocked.sizes;
        precedes = λ p k e stands. (subst (λ kind. KeepsRule (assigned c.words) p kind) stands.2 (clocked.well.forms p stands.0 stands.1)).1;
      }

-- what stands at a number is one thing
pub of_both : (nodes : List PlacedNode) (clocks : List NodeClock) (i : ℕ) (m n : PlacedNode) (d c : NodeClock) (P : PlacedNode → NodeClock → Type 0) → slice_get nodes i ≡ Some m → slice_get nodes i ≡ Some n →
    slice_get clocks i ≡ Some d → slice_get clocks i ≡ Some c → P m d → P n c
of_both nodes clocks i m n d c P m_at n_at d_at c_at h =
    let nodes_same : m ≡ n = same_Some m n (sym m_at ∙ n_at) in
    let clocks_same : d ≡ c = same_Some d c (sym d_at ∙ c_at) in
    subst (λ x. P x c) nodes_same (subst (λ y. P m y) clocks_same h)
