-- What the places of a node gain, definition by definition.
use Rattle.std.proofs.Common.{◌≡◌, List, [], ◌∷◌, ◌++◌, length, map, refl, ap, ◌∙◌, append_assoc, arith}
use Rattle.std.proofs.lemmas.List.{length-map}
use Rattle.lucy_tree.specs.View.{DefTree, NodeTree}
use Rattle.lucy_naming.specs.declared.draft.Draft.{Draft}
use Rattle.lucy_place.specs.declared.entry.PlaceEntry.{PlaceEntry}
use Rattle.lucy_naming.specs.Streams.{streams, result_count}
use Rattle.lucy_naming.specs.Views.{text_of}
use Rattle.lucy_naming.specs.Phrases.{phrase_of}
use Rattle.lucy_naming.specs.Numbering.{Next, number, entries, sites}
use Rattle.lucy_naming.specs.Places.{Known, left_entries}
use Rattle.lucy_naming.specs.Nodes.{past_defs, first_next, defined, rights, def_sites}
use Rattle.lucy_naming.specs.Drafts.{next_of, Draws}
use Rattle.lucy_naming.proofs.DraftLaws.{next_same}

-- the definitions drawn so far and the rest make all
pub record DefsDrawn (k : Known) (es : List PlaceEntry) (d : Draft) (rest : List DefTree) (before : List PlaceEntry) (start : Draft) (all : List DefTree) : Type 0 where
  pub named : es ++ defined k (next_of k d) rest ≡ before ++ defined k (next_of k start) all
  pub places : d.places.items ++ rights k (next_of k d) rest ≡ start.places.items ++ rights k (next_of k start) all
  pub calls : d.calls.items ++ def_sites k (next_of k d) rest ≡ start.calls.items ++ def_sites k (next_of k start) all
  pub next : past_defs (next_of k d) rest ≡ past_defs (next_of k start) all

pub defs_start : (k : Known) (named : List PlaceEntry) (d : Draft) (all : List DefTree) → DefsDrawn k named d all named d all
defs_start k named d all = record { named = refl; places = refl; calls = refl; next = refl }

pub defs_step : (k : Known) (named more : List PlaceEntry) (d e : Draft) (def : DefTree) (rest : List DefTree) (before : List PlaceEntry) (start : Draft) (all : List DefTree) →
    DefsDrawn k named d (def ∷ rest) before start all → Draws k (result_count def.left) (phrase_of def.right) d e → more ≡ named ++ left_entries (number k (next_of k d) (phrase_of def.right)) def.left →
    DefsDrawn k more e rest before start all
defs_step k named more d e def rest before start all inv draws put =
    let at : Next = next_of k d in
    let left : List PlaceEntry = left_entries (number k at (phrase_of def.right)) def.left in
    record {
      named = ap (λ l. l ++ defined k (next_of k e) rest) put ∙ append_assoc named left (defined k (next_of k e) rest) ∙ ap (λ u. named ++ (left ++ defined k u rest)) draws.next ∙ inv.named;
      places = ap (λ l. l ++ rights k (next_of k e) rest) draws.places ∙ append_assoc d.places.items (entries k at (result_count def.left) (phrase_of def.right)) (rights k (next_of k e) rest)
          ∙ ap (λ u. d.places.items ++ (entries k at (result_count def.left) (phrase_of def.right) ++ rights k u rest)) draws.next ∙ inv.places;
      calls = ap (λ l. l ++ def_sites k (next_of k e) rest) draws.calls ∙ append_assoc d.calls.items (sites k at (result_count def.left) (phrase_of def.right)) (def_sites k (next_of k e) rest)
          ∙ ap (λ u. d.calls.items ++ (sites k at (result_count def.left) (phrase_of def.right) ++ def_sites k u rest)) draws.next ∙ inv.calls;
      next = ap (λ u. past_defs u rest) draws.next ∙ inv.next;
    }

-- an empty draft goes on behind the streams
pub first_is : (k : Known) (d : Draft) (n : NodeTree) → d.places.items ≡ [] → d.calls.items ≡ [] → d.buffers ≡ 0 → k.streams ≡ map text_of (streams n) → next_of k d ≡ first_next n
first_is k d n places calls buffers known =
    let l : length k.streams ≡ length (streams n) = ap length known ∙ length-map (streams n) text_of in
    let p : length d.places.items ≡ 0 = ap length places in
    let q : length d.calls.items ≡ 0 = ap length calls in
    next_same (omega arith) (omega arith) (omega arith)
