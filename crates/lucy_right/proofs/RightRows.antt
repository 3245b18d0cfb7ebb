-- The program of the rows stands for something, and what is due is right: so what the rows refuse is not refused for want of any right outcome.
use Rattle.std.proofs.Common.{ℕ, zero, suc, ◌+◌, ◌<◌, ◌≤◌, ◌≡◌, List, [], ◌∷◌, Option, Some, None, take, slice_get, refl, ap, sym, ◌∙◌, subst, inl, inr, arith}
use Rattle.std.specs.Prelude.{ℤ, pos, codes, ◌≢◌, ◌⊎◌, slice_index_or, option_map, AllPairs}
use Rattle.std.specs.Str.Lines.{lines}
use Rattle.std.proofs.lemmas.Bool.{cases_lt}
use Rattle.std.proofs.lemmas.Option.{same_Some, none-some}
use Rattle.lucy_word.specs.Bits.{bit_at, ones_to, Bits}
use Rattle.lucy_word.proofs.IndexLaws.{ones_to-rises}
use Rattle.lucy_host.specs.declared.kind.HostKind.{HostKind}
use Rattle.lucy_host.specs.declared.data_type.DataType.TheVariants.{Int}
use Rattle.lucy_host.specs.Operators.{Operator, kinds_of}
use Rattle.lucy_stream.specs.Items.{list_at}
use Rattle.lucy_lines.specs.declared.output.OutputSpec.{OutputSpec}
use Rattle.lucy_lines.specs.Fields.{line_fields}
use Rattle.lucy_lines.specs.Values.{SpellsValue}
use Rattle.lucy_tree.specs.View.{ProgramTree, NodeTree}
use Rattle.lucy_types.proofs.ListLaws.{contains_at, contains_none}
use Rattle.lucy_place.specs.declared.placed.PlacedNode.{PlacedNode}
use Rattle.lucy_place.specs.WrittenNodes.{IsWritten}
use Rattle.lucy_kahn.specs.Kahn.{kahn}
use Rattle.lucy_kahn.specs.Spots.{at, Spot, IsSpot, site_in, node_at, reads_at}
use Rattle.lucy_right.specs.Right.{Meaning, StandsFor, LineSays, LinesSay, IsStream, IsRunOf}
use Rattle.lucy_right.specs.Earliest.{AreChosen}
use Rattle.std.specs.Option.{option_and_then}
use Rattle.lucy_word.specs.Adaptable.{IsSize}
use Rattle.lucy_word.specs.Shortest.{Same}
use Rattle.lucy_place.specs.declared.entry.PlaceEntry.{PlaceEntry}
use Rattle.lucy_place.specs.declared.entry.PlaceKind.TheVariants as kind
use Rattle.lucy_place.specs.declared.entry.CallSite.{CallSite}
use Rattle.lucy_place.specs.Proper.{at_one, bound_of, Stands, IsNamed}
use Rattle.lucy_need.specs.Meeting.{assigned}
use Rattle.lucy_clock.specs.WellClocked.{KeepsRule, KeepsBound, IsWellClocked}
use Rattle.lucy_clock.specs.NodeClocks.{AreSizes, signatures}
use Rattle.lucy_kahn.specs.Items.{SpotItem, IsSpotWalk, IsCausalProgram}
use Rattle.lucy_flat.specs.Clocked.{IsClock, AreClocked}
use Rattle.lucy_naming.specs.Places.{AreNodesOf}
use Rattle.lucy_right.specs.Names.{IsWellNamed}
use Rattle.lucy_naming.proofs.NodesLaws.{placed_are}
use Rattle.lucy_right.proofs.LaterRows.{only, odd, even, later, node, words, clock, meaning, x_place, y_place, b_place, a_name, typed, counts, lead, size_one, shorts, word_at}
use Rattle.lucy_right.proofs.EndRows.{x_input, y_output, input, due, printings, said, splits, suffices, IsRight}

-- what holds of each of its places
each_place : (P : ℕ → PlaceEntry → Type 0) → P 1 x_place → P 2 y_place → P 3 b_place → (p : ℕ) (entry : PlaceEntry) → at_one node.places p ≡ Some entry → P p entry
each_place P a b c zero entry e = absurd (none-some entry e)
each_place P a b c (suc zero) entry e = subst (P 1) (same_Some x_place entry e) a
each_place P a b c (suc (suc zero)) entry e = subst (P 2) (same_Some y_place entry e) b
each_place P a b c (suc (suc (suc zero))) entry e = subst (P 3) (same_Some b_place entry e) c
each_place P a b c (suc (suc (suc (suc p)))) entry e = absurd (none-some entry e)

-- its nodes
nodes_are : (ops : List Operator) → AreNodesOf ops (later ∷ []) (node ∷ [])
unfolding later
nodes_are ops = placed_are ops (later ∷ [])

-- and it stands for that: its names are good
one_apart : {A : Type 0} (R : A → A → Type 0) (x : A) → AllPairs R (x ∷ [])
one_apart R x i j d h k = absurd (omega (arith, h, k))

two_apart : (i j : ℕ) (d : List ℕ) → i < j → j < 2 → slice_index_or (codes "x" ∷ codes "y" ∷ []) i d ≢ slice_index_or (codes "x" ∷ codes "y" ∷ []) j d
two_apart zero (suc zero) d h k e = let bad : ◌≡◌ {A = ℕ} 120 121 = ap (λ (l : List ℕ). slice_index_or l 0 0) e in omega arith
two_apart zero zero d h k e = omega (arith, h)
two_apart (suc i) (suc zero) d h k e = omega (arith, h)
two_apart (suc i) zero d h k e = omega (arith, h)
two_apart i (suc (suc j)) d h k e = omega (arith, k)

well_named : (ops : List Operator) → IsWellNamed ops [] later
unfolding later
well_named ops = record {
  new = λ c. contains_none (codes "later") c;
  streams_apart = two_apart;
  results_apart = one_apart (λ t u. t ≢ u) (codes "y");
  results = (contains_at (codes "x" ∷ codes "y" ∷ []) 1 (codes "y") refl, tt);
  defs = ((tt, (contains_at (codes "x" ∷ codes "y" ∷ []) 0 (codes "x") refl, tt)), tt);
}

-- the table of forms holds
no_call : (c : ℕ) (site : CallSite) → at_one [] c ≡ Some site → ⊥
no_call zero site e = none-some site e
no_call (suc c) site e = none-some site e

no_bound : (k : ℕ) → KeepsBound (bound_of node k) odd even
no_bound zero = tt
no_bound (suc zero) = tt
no_bound (suc (suc k)) = tt

-- the one buffer reads x
buffer_reads : (p k e : ℕ) → Stands node p (kind.Buffer k e) → (p ≡ 3) × (e ≡ 1)
buffer_reads p k e (entry, at, is) = each_place (λ p entry. entry.kind ≡ kind.Buffer k e → (p ≡ 3) × (e ≡ 1)) (λ bad. absurd (cc bad)) (λ bad. absurd (cc bad)) (λ same. (refl, cc)) p entry at is

well : IsWellClocked [] node (assigned words)
well = record {
  words = λ c h. (word_at c h).0;
  base = λ i h. refl;
  forms = each_place (λ p entry. KeepsRule (assigned words) p entry.kind) tt (λ i h. refl) (refl, λ i. (lead i).0);
  bounds = λ p k e s. let r = buffer_reads p k e s in subst (λ p. KeepsBound (bound_of node k) (assigned words e) (assigned words p)) (sym r.0)
      (subst (λ e. KeepsBound (bound_of node k) (assigned words e) even) (sym r.1) (no_bound k));
  written = λ p entry word at. each_place (λ p entry. entry.word ≡ Some word → Same (assigned words p) word) (λ e. subst (Same odd) (same_Some odd word e) (λ i h. refl))
      (λ e. subst (Same even) (same_Some even word e) (λ i h. refl)) (λ e. absurd (none-some word e)) p entry at;
  calls = λ c site e. absurd (no_call c site e);
}

sizes_are : AreSizes node clock
sizes_are = record {
  count = refl;
  each = λ i p k e size at. only (λ (i p : ℕ). slice_get (1 ∷ []) i ≡ Some size → Stands node p (kind.Buffer k e) → IsSize (assigned words e) (assigned words p) size) 3
      (λ of s. subst (IsSize (assigned words e) even) (same_Some 1 size of) (subst (λ e. IsSize (assigned words e) even 1) (sym (buffer_reads 3 k e s).1) size_one)) i p at;
}

is_clock : IsClock [] node clock
is_clock = record { count = refl; well = well; sizes = sizes_are }

clocked : AreClocked (node ∷ []) (clock ∷ [])
clocked = record {
  count = refl;
  each = λ i n c e. only (λ (i : ℕ) (n : PlacedNode). slice_get (clock ∷ []) i ≡ Some c → IsClock (signatures (take i (node ∷ [])) (take i (clock ∷ []))) n c) node
      (λ f. subst (IsClock [] node) (same_Some clock c f) is_clock) i n e;
}

-- no item depends on itself: y reads the buffer, and the buffer x
no_site : (path : List ℕ) (call : ℕ) → site_in (node_at (node ∷ []) path) call ≡ None
no_site [] zero = refl
no_site [] (suc call) = refl
no_site (c ∷ path) call = ap (λ o. site_in (option_and_then (λ site. slice_get (node ∷ []) site.node) o) call) (no_site path c)

abbrev rank : ℕ → ℕ
rank zero = 0
rank (suc zero) = 0
rank (suc (suc zero)) = 2
rank (suc (suc (suc p))) = 1

reads_down : (path : List ℕ) (place operand : ℕ) (y : Spot) → IsSpot (node ∷ []) (at path place) → slice_get (reads_at (node ∷ []) (at path place)) operand ≡ Some y → rank y.place < rank place
reads_down [] zero operand y there e = absurd (none-some there.0 there.1)
reads_down [] (suc zero) operand y there e = absurd (none-some y e)
reads_down [] (suc (suc zero)) zero y there e = subst (λ (y : Spot). rank y.place < 2) (same_Some (at [] 3) y e) (omega arith)
reads_down [] (suc (suc zero)) (suc operand) y there e = absurd (none-some y e)
reads_down [] (suc (suc (suc zero))) zero y there e = subst (λ (y : Spot). rank y.place < 1) (same_Some (at [] 1) y e) (omega arith)
reads_down [] (suc (suc (suc zero))) (suc operand) y there e = absurd (none-some y e)
reads_down [] (suc (suc (suc (suc p)))) operand y there e = absurd (none-some there.0 there.1)
reads_down (c ∷ path) place operand y there e =
    absurd (none-some there.0 (sym (ap (λ o. option_map (λ (entry : PlaceEntry). entry.kind) (option_and_then (λ (n : PlacedNode). at_one n.places place)
    (option_and_then (λ (site : CallSite). slice_get (node ∷ []) site.node) o))) (no_site path c)) ∙ there.1))

walk_down : (x : SpotItem) (walk : List SpotItem) (end : SpotItem) → IsSpotWalk (node ∷ []) x walk end → rank end.spot.place < rank x.spot.place
walk_down x [] end d = reads_down x.spot.path x.spot.place d.operand end.spot d.there d.reads
walk_down x (y ∷ walk) end (d, rest) = omega (arith, reads_down x.spot.path x.spot.place d.operand y.spot d.there d.reads, walk_down y walk end rest)

causal : IsCausalProgram (node ∷ [])
causal x walk counted w = omega (arith, walk_down x walk x w)

pub stands : (ops : List Operator) → StandsFor ops (later ∷ []) meaning
stands ops = record {
  named = λ i n e. only (λ (i : ℕ) (n : NodeTree). IsWellNamed ops (take i (later ∷ [])) n) later (well_named ops) i n e;
  placed = nodes_are ops;
  typed = typed;
  clocked = clocked;
  shortest = ((shorts.0, (shorts.1, (shorts.2, (shorts.2, tt)))), tt);
  causal = causal;
}

-- all of its clocks are written
pub written : IsWritten node
written = record {
  words = λ p entry name at. each_place (λ p entry. entry.name ≡ Some name → (word : Bits) × (entry.word ≡ Some word)) (λ e. (odd, refl)) (λ e. (even, refl)) (λ e. absurd (none-some name e)) p entry at;
  bases = λ c site e. absurd (no_call c site e);
  sampled = λ p e word s. each_place (λ p entry. entry.kind ≡ kind.When e word → IsNamed node e) (λ bad. absurd (cc bad)) (λ bad. absurd (cc bad)) (λ bad. absurd (cc bad)) p s.0 s.1 s.2;
  buffered = λ p b e s. subst (IsNamed node) (sym (buffer_reads p b e s).1) (x_place, a_name (codes "x") 16 17, refl, refl);
  arguments = λ c site e. absurd (no_call c site e);
}

within_four : (n : ℕ) → ones_to odd n ≤ 2 → n ≤ 4
within_four n few = elim (cases_lt 4 n) [ inl far ↦ absurd (omega (arith, few, counts.4, ones_to-rises odd 5 n (omega (arith, far)))) | inr near ↦ near ]

-- from the third iterate on y has all that main is fed
later_iterates : (kinds : List HostKind) (inputs : List (List ℤ)) (n : ℕ) → 3 ≤ n → kahn kinds inputs (node ∷ []) n (at [] 2) ≡ list_at inputs 0
later_iterates kinds inputs zero far = absurd (omega (arith, far))
later_iterates kinds inputs (suc zero) far = absurd (omega (arith, far))
later_iterates kinds inputs (suc (suc zero)) far = absurd (omega (arith, far))
later_iterates kinds inputs (suc (suc (suc n))) far = refl

-- what main is fed by both lines, and its stream
says : (line spelled : List ℕ) (v : ℤ) → line_fields line ≡ codes "x" ∷ spelled ∷ [] → SpellsValue Int spelled v → LineSays (x_input ∷ []) line (said v)
says line spelled v split spells = (codes "x", spelled, x_input, split, record { found = refl; there = refl }, spells)

both_say : LinesSay (x_input ∷ []) (lines input) (said (pos 12) ∷ said (pos 3) ∷ [])
both_say = (
  omega arith,
  inr (
    said (pos 12),
    said (pos 3) ∷ [],
    says (codes "x 12") (codes "12") (pos 12) splits.0 ((omega arith, (omega arith, (omega arith, tt))), record { sfits = omega arith }, refl),
    (omega arith, inr (said (pos 3), [], says (codes "x 3") (codes "3") (pos 3) splits.1 ((omega arith, (omega arith, tt)), record { sfits = omega arith }, refl), refl, refl)),
    refl,
  ),
)

y_stream : (kinds : List HostKind) → IsStream kinds ((pos 12 ∷ pos 3 ∷ []) ∷ []) (node ∷ []) 4 2 even (pos 12 ∷ pos 3 ∷ [])
unfolding ones_to bit_at
y_stream kinds = (refl, 3, λ k far. ap (take 2) (later_iterates kinds ((pos 12 ∷ pos 3 ∷ []) ∷ []) k far))

module _ (Reads : List ℕ → ProgramTree → Type 0) (Chosen : Meaning → Type 0) (ops : List Operator) (most : ℕ) (text : List ℕ) (read : Reads text (later ∷ [])) (far : 4 ≤ most) where
  -- and with 1, whatever the output is: the program stands for something, and all of its clocks are written
  refused : (output : List ℕ) → IsRight Reads Chosen ops most text output 1 → ⊥
  refused output is = (is.refused text (later ∷ []) meaning refl read (stands ops)).0 (written, tt) refl

  -- but what is due is right
  run : (status : ℕ) → status ≡ 0 → Chosen meaning → IsRunOf Chosen ops most None (later ∷ []) input due (status ≡ 0) (status ≡ 3)
  unfolding ones_to bit_at
  run status good chosen = record {
    m = meaning;
    stands = stands ops;
    chosen = chosen;
    bounded = λ none. let bad : x_input ∷ [] ≡ [] = none in absurd (cc bad);
    many = 2;
    items = said (pos 12) ∷ said (pos 3) ∷ [];
    said = both_say;
    inputs = (pos 12 ∷ pos 3 ∷ []) ∷ [];
    fed = refl;
    horizon = 4;
    greatest = record {
      within = far;
      suffice = suffices ((pos 12 ∷ pos 3 ∷ []) ∷ []) 4 (omega (arith, counts.3));
      greatest = λ n within enough. within_four n (enough 0 odd refl);
    };
    streams = (pos 12 ∷ pos 3 ∷ []) ∷ [];
    count = refl;
    kahn = λ i place o at of. only (λ (i place : ℕ). slice_get (y_output ∷ []) i ≡ Some o → IsStream (kinds_of ops) ((pos 12 ∷ pos 3 ∷ []) ∷ []) (node ∷ []) 4 place o.word (list_at ((pos 12 ∷ pos 3 ∷ []) ∷ []) i)) 2
        (λ of. subst (λ (o : OutputSpec). IsStream (kinds_of ops) ((pos 12 ∷ pos 3 ∷ []) ∷ []) (node ∷ []) 4 2 o.word (pos 12 ∷ pos 3 ∷ [])) (same_Some y_output o of) (y_stream (kinds_of ops))) i place at of;
    printed = sym printings.2;
    all = λ d. refl;
    within = λ d n enough. omega (arith, far, within_four (most + 1) (enough 0 odd refl));
    next = λ e. absurd (omega (arith, good, e));
  }

  abbrev Outcome : (status : ℕ) (t i o : List ℕ) → Type 0
  Outcome status t i o = ((o ≡ []) × (status ≢ 0) × (status ≢ 3) × (status ≡ 2 → ◌≡◌ {A = Option ℕ} None None))
      ⊎ ((program : ProgramTree) × (n : ℕ) × (whole : List ℕ) × Reads t program × IsRunOf Chosen ops most None program i whole (status ≡ 0) (status ≡ 3)
      × (o ≡ take n whole) × (status ≢ 5 → status ≢ 7 → o ≡ whole) × (status ≢ 1) × (status ≢ 2))

  right : Chosen meaning → IsRight Reads Chosen ops most text due 0
  right chosen = record {
    right = λ t i o held left before after. subst (λ t. Outcome 0 t i o) (same_Some text t (same_Some (Some text) (Some t) held))
        (subst (λ i. Outcome 0 text i o) (same_Some input i left) (subst (λ o. Outcome 0 text input o) (same_Some due o after)
        (inr (later ∷ [], 103, due, read, run 0 refl chosen, refl, (λ a b. refl), (λ e. omega (arith, e)), (λ e. omega (arith, e))))));
    refused = λ t p m held reads stand. ((λ w e. omega (arith, e)), (λ e. absurd (omega (arith, e))));
    absent = λ e. let bad : Some text ≡ None = same_Some (Some text) None e in absurd (cc bad);
  }

-- clocks that are written may be chosen
are_chosen : (scale lead : ℕ) → AreChosen scale lead meaning
are_chosen scale lead i n c at of = inl (only (λ (i : ℕ) (n : PlacedNode). IsWritten n) node written i n at)
