-- How much the drafts of a program read, how large their rings are, and which inputs and outputs there are.
use Rattle.std.proofs.Common.{ℕ, suc, zero, ◌+◌, ◌-◌, ◌*◌, ◌<◌, ◌≤◌, ◌≡◌, List, [], ◌∷◌, ◌++◌, Option, Some, None, length, map, take, get_or, set, ap, sym, refl, ◌∙◌, subst, inl, inr, arith}
use Rattle.std.specs.Prelude.{min, sum, sum_by, slice_get, slice_index}
use Rattle.std.specs.List.{range_with_len, flat_map}
use Rattle.std.proofs.lemmas.Grind.{flat_map-append}
use Rattle.std.proofs.lemmas.List.{append-nil, length-map, take_all, get_or-set_same, get_or-set_other}
use Rattle.std.proofs.lemmas.Bool.{cases_lt}
use Rattle.std.proofs.lemmas.List.Sums.{sum_by-cons, sum_by-append}
use Rattle.std.proofs.lemmas.Option.{slice_get_within}
use Rattle.lucy_word.proofs.Lists.{all_at}
use Rattle.lucy_host.proofs.Elements.{get_there}
use Rattle.lucy_place.specs.declared.placed.PlacedNode.{PlacedNode}
use Rattle.lucy_place.specs.declared.entry.CallSite.{CallSite}
use Rattle.lucy_place.specs.declared.entry.PlaceEntry.{PlaceEntry}
use Rattle.lucy_place.specs.declared.entry.PlaceKind.{PlaceKind}
use Rattle.lucy_place.specs.declared.entry.PlaceKind.TheVariants.{Param, Defined, Lit, Op, Host, When, Merge, Fby, Buffer, Result}
use Rattle.lucy_place.specs.Proper.{at_one, IsProperKind, IsProperNode, AreProper}
use Rattle.lucy_stream.specs.Forms.{Form, Given}
use Rattle.lucy_net.specs.declared.kind.ActorKind.{ActorKind}
use Rattle.lucy_net.specs.declared.kind.ActorKind.TheVariants as actor
use Rattle.lucy_net.specs.Plans as plans
use Rattle.lucy_net.specs.Proper.{input_of}
use Rattle.lucy_clock.specs.declared.node_clock.NodeClock.{NodeClock}
use Rattle.lucy_flat.specs.declared.draft.Draft.{Draft}
use Rattle.lucy_kahn.specs.Spots.{Spot, at, node_at, kind_at, spot_form, spot_reads, site_in}
use Rattle.lucy_kahn.proofs.Parts.{kind_in, kind_of, callee_in}
use Rattle.lucy_flat.specs.Extents.{size_in}
use Rattle.lucy_kahn.specs.Sizes.{total_of}
use Rattle.lucy_kahn.specs.Numbers.{number}
use Rattle.lucy_flat.specs.Instances.{index_at, sizes_in}
use Rattle.lucy_flat.proofs.Parts.{called}
use Rattle.lucy_flat.specs.Flat.{ring_size}
use Rattle.lucy_flat.specs.Counts.{read_count, own_rings, own_sizes}
use Rattle.lucy_kahn.proofs.Tables.{calls_below, total_law}
use Rattle.lucy_kahn.proofs.Closed.{get_take}
use Rattle.lucy_flat.specs.Clocked.{AreClocked}
use Rattle.lucy_flat.specs.Assembly.{reads_count, all_reads}
use Rattle.lucy_flat.specs.Drafts.{AreMade, inside, own_spots, calls_spots, instance_spots, input_numbers, output_numbers, inputs_in, draft_slots, params_in}
use Rattle.lucy_flat.proofs.SizeLaws.{sum_add, sizes_to}
use Rattle.lucy_flat.proofs.InstanceLaws.{size_there}
use Rattle.lucy_flat.proofs.PutLaws.{instance_law}
use Rattle.lucy_flat.proofs.RingWords.{made_form, made_inner}
use Rattle.lucy_kahn.specs.Numbers.{spots_of}

-- the node that a path leads to has the path's number
index_of : (nodes : List PlacedNode) (path : List ℕ) (n : PlacedNode) → node_at nodes path ≡ Some n → slice_get nodes (index_at nodes path) ≡ Some n
index_of nodes [] n e = e
index_of nodes (call ∷ path) n e = from_site (site_in (node_at nodes path) call) e
  where
    from_site : (o : Option CallSite) → callee_in nodes o ≡ Some n → slice_get nodes (called o) ≡ Some n
    from_site None f = absurd (cc f)
    from_site (Some site) f = f

-- the instance that a call of a node leads to
call_node : (nodes : List PlacedNode) (path : List ℕ) (n : PlacedNode) (c : ℕ) (site : CallSite) (m : PlacedNode) → node_at nodes path ≡ Some n → slice_get n.calls c ≡ Some site → slice_get nodes site.node ≡ Some m →
    (node_at nodes ((1 + c) ∷ path) ≡ Some m) × (index_at nodes ((1 + c) ∷ path) ≡ site.node)
call_node nodes path n c site m e f g =
    let one : 1 + c ≡ suc c = omega arith in
    let here : site_in (node_at nodes path) (1 + c) ≡ Some site = ap (λ o. site_in o (1 + c)) e ∙ ap (at_one n.calls) one ∙ f in
    (ap (callee_in nodes) here ∙ g, ap called here)

-- sums over an instance's own places, and over those of its calls
own_sum : (g : Spot → ℕ) (h : PlaceEntry → ℕ) (path : List ℕ) (k : ℕ) (es : List PlaceEntry) → ((c : ℕ) (entry : PlaceEntry) → slice_get es c ≡ Some entry → g (at path (k + c)) ≡ h entry) → sum_by g (map (at path) (range_with_len k (length es))) ≡ sum_by h es
own_sum g h path k [] same = refl
own_sum g h path k (e ∷ es) same =
    let z : k ≡ k + 0 = omega arith in
    let first : g (at path k) ≡ h e = ap (λ n. g (at path n)) z ∙ same 0 e refl in
    let rest = own_sum g h path (k + 1) es (λ c entry f. (let n : k + 1 + c ≡ k + suc c = omega arith in ap (λ m. g (at path m)) n ∙ same (suc c) entry f)) in
    omega (arith, sum_by-cons g (at path k) (map (at path) (range_with_len (k + 1) (length es))), sum_by-cons h e es, first, rest)

inner_sum : (g : Spot → ℕ) (f : CallSite → ℕ) (known : List ℕ → ℕ → List Spot) (path : List ℕ) (k : ℕ) (sites : List CallSite) → ((c : ℕ) (site : CallSite) → slice_get sites c ≡ Some site → sum_by g (known ((k + c) ∷ path) site.node) ≡ f site) →
    sum_by g (calls_spots known path k sites) ≡ sum_by f sites
inner_sum g f known path k [] same = refl
inner_sum g f known path k (s ∷ sites) same =
    let z : k ≡ k + 0 = omega arith in
    let first : sum_by g (known (k ∷ path) s.node) ≡ f s = ap (λ n. sum_by g (known (n ∷ path) s.node)) z ∙ same 0 s refl in
    let rest = inner_sum g f known path (suc k) sites (λ c site e. (let n : suc k + c ≡ k + suc c = omega arith in ap (λ m. sum_by g (known (m ∷ path) site.node)) n ∙ same (suc c) site e)) in
    omega (arith, sum_by-append g (known (k ∷ path) s.node) (calls_spots known path (suc k) sites), sum_by-cons f s sites, first, rest)

-- what a place of each kind reads
abbrev is_param : PlaceKind → ℕ
is_param Param = 1
is_param kind = 0

main_reads : (nodes : List PlacedNode) (place : ℕ) (kind : PlaceKind) → length (spot_reads nodes (at [] place) kind) ≡ read_count kind
main_reads nodes place Param = refl
main_reads nodes place (Defined q) = refl
main_reads nodes place (Lit l) = refl
main_reads nodes place (Op op args) = length-map args (at [])
main_reads nodes place (Host op a b) = refl
main_reads nodes place (When q p) = refl
main_reads nodes place (Merge p a b) = refl
main_reads nodes place (Fby l q) = refl
main_reads nodes place (Buffer k q) = refl
main_reads nodes place (Result c j) = refl

call_reads : (nodes : List PlacedNode) (call : ℕ) (path : List ℕ) (place : ℕ) (kind : PlaceKind) → length (spot_reads nodes (at (call ∷ path) place) kind) ≡ read_count kind + is_param kind
call_reads nodes call path place Param = refl
call_reads nodes call path place (Defined q) = refl
call_reads nodes call path place (Lit l) = refl
call_reads nodes call path place (Op op args) = let e = length-map args (at (call ∷ path)) in omega arith
call_reads nodes call path place (Host op a b) = refl
call_reads nodes call path place (When q p) = refl
call_reads nodes call path place (Merge p a b) = refl
call_reads nodes call path place (Fby l q) = refl
call_reads nodes call path place (Buffer k q) = refl
call_reads nodes call path place (Result c j) = refl

-- parameters are the first places
abbrev IsParamAt : ℕ → ℕ → PlaceKind → Type 0
IsParamAt p params Param = p ≤ params
IsParamAt p params kind = params < p

param_at : (n : PlacedNode) (p : ℕ) (kind : PlaceKind) → IsProperKind n p kind → IsParamAt p n.params kind
param_at n p Param is = is
param_at n p (Defined q) is = is.0
param_at n p (Lit l) is = is
param_at n p (Op op args) is = is.0
param_at n p (Host op a b) is = is.0
param_at n p (When q w) is = is.0
param_at n p (Merge w a b) is = is.0
param_at n p (Fby l q) is = is.0
param_at n p (Buffer k q) is = is.0
param_at n p (Result c j) is = is.0

param_step : (kind : PlaceKind) (k params m : ℕ) → IsParamAt k params kind → is_param kind + min m (params + 1 - (k + 1)) ≡ min (suc m) (params + 1 - k)
param_step Param k params m is = omega (arith, is)
param_step (Defined q) k params m is = omega (arith, is)
param_step (Lit l) k params m is = omega (arith, is)
param_step (Op op args) k params m is = omega (arith, is)
param_step (Host op a b) k params m is = omega (arith, is)
param_step (When q w) k params m is = omega (arith, is)
param_step (Merge w a b) k params m is = omega (arith, is)
param_step (Fby l q) k params m is = omega (arith, is)
param_step (Buffer j q) k params m is = omega (arith, is)
param_step (Result c j) k params m is = omega (arith, is)

params_sum : (k params : ℕ) (es : List PlaceEntry) → ((c : ℕ) (entry : PlaceEntry) → slice_get es c ≡ Some entry → IsParamAt (k + c) params entry.kind) → sum_by (λ (e : PlaceEntry). is_param e.kind) es ≡ min (length es) (params + 1 - k)
params_sum k params [] h = omega arith
params_sum k params (e ∷ es) h =
    let z : k + 0 ≡ k = omega arith in
    let first = param_step e.kind k params (length es) (subst (λ n. IsParamAt n params e.kind) z (h 0 e refl)) in
    let rest = params_sum (k + 1) params es (λ c entry f. (let n : k + suc c ≡ k + 1 + c = omega arith in subst (λ m. IsParamAt m params entry.kind) n (h (suc c) entry f))) in
    omega (arith, sum_by-cons (λ (x : PlaceEntry). is_param x.kind) e es, first, rest)

-- what a draft reads, gives and takes in, by its place
abbrev pub reads_by : List PlacedNode → Spot → Option PlaceKind → ℕ
reads_by nodes s None = 0
reads_by nodes s (Some kind) = length (spot_reads nodes s kind)

abbrev pub size_by : List PlacedNode → List NodeClock → Spot → Option PlaceKind → ℕ
size_by nodes clocks s None = 0
size_by nodes clocks s (Some kind) = ring_size clocks (index_at nodes s.path) kind

abbrev pub form_inputs : Form → List ℕ
form_inputs (Given input) = input ∷ []
form_inputs form = []

abbrev pub inputs_by : Spot → Option PlaceKind → List ℕ
inputs_by s None = []
inputs_by s (Some kind) = form_inputs (spot_form s kind)

kind_inputs : (kind : ActorKind) → input_of kind ≡ form_inputs (plans.form_of kind)
kind_inputs (actor.Input x) = refl
kind_inputs (actor.Lit v) = refl
kind_inputs (actor.Op op) = refl
kind_inputs (actor.Host op) = refl
kind_inputs (actor.When p) = refl
kind_inputs (actor.Merge p) = refl
kind_inputs (actor.Fby v) = refl
kind_inputs actor.Pass = refl
kind_inputs (actor.Output x) = refl

slots_plain : (x y : ℕ) → y ≡ 0 → x * (y + 1) ≡ x + y
slots_plain x y e = let z : x * (0 + 1) ≡ x + 0 = omega arith in subst (λ t. x * (t + 1) ≡ x + t) (sym e) z

-- only a buffer has a size, and it reads one place
pub kind_slots : (nodes : List PlacedNode) (clocks : List NodeClock) (i : ℕ) (path : List ℕ) (place : ℕ) (kind : PlaceKind) → length (spot_reads nodes (at path place) kind) * (ring_size clocks i kind + 1) ≡ length (spot_reads nodes (at path place) kind) + ring_size clocks i kind
kind_slots nodes clocks i path place Param = slots_plain (length (spot_reads nodes (at path place) Param)) 0 refl
kind_slots nodes clocks i path place (Defined q) = slots_plain 1 0 refl
kind_slots nodes clocks i path place (Lit l) = slots_plain 0 0 refl
kind_slots nodes clocks i path place (Op op args) = slots_plain (length (map (at path) args)) 0 refl
kind_slots nodes clocks i path place (Host op a b) = slots_plain 2 0 refl
kind_slots nodes clocks i path place (When q w) = slots_plain 1 0 refl
kind_slots nodes clocks i path place (Merge w a b) = slots_plain 2 0 refl
kind_slots nodes clocks i path place (Fby l q) = slots_plain 1 0 refl
kind_slots nodes clocks i path place (Buffer k q) = omega arith
kind_slots nodes clocks i path place (Result c j) = slots_plain 1 0 refl

module _ (nodes : List PlacedNode) (clocks : List NodeClock) where
  abbrev pub reads_at : Spot → ℕ
  reads_at s = reads_by nodes s (kind_at nodes s)

  abbrev pub size_at : Spot → ℕ
  size_at s = size_by nodes clocks s (kind_at nodes s)

  abbrev pub inputs_at : Spot → List ℕ
  inputs_at s = inputs_by s (kind_at nodes s)

  pub made_reads : (spots : List Spot) (drafts : List Draft) → AreMade nodes clocks spots drafts → all_reads drafts ≡ sum_by reads_at spots
  made_reads [] [] are = refl
  made_reads [] (d ∷ drafts) are = absurd are
  made_reads (s ∷ spots) [] are = absurd are
  made_reads (s ∷ spots) (d ∷ drafts) are =
      let is = are.0 in
      let one : reads_count d ≡ reads_at s = ap length is.made.reads ∙ length-map (spot_reads nodes s is.kind) (number nodes) ∙ ap (reads_by nodes s) (sym is.stands) in
      omega (arith, sum_by-cons reads_count d drafts, sum_by-cons reads_at s spots, one, made_reads spots drafts are.1)

  pub made_slots : (spots : List Spot) (drafts : List Draft) → AreMade nodes clocks spots drafts → sum_by draft_slots drafts ≡ sum_by reads_at spots + sum_by size_at spots
  made_slots [] [] are = refl
  made_slots [] (d ∷ drafts) are = absurd are
  made_slots (s ∷ spots) [] are = absurd are
  made_slots (s ∷ spots) (d ∷ drafts) are =
      let is = are.0 in
      let count : reads_count d ≡ length (spot_reads nodes s is.kind) = ap length is.made.reads ∙ length-map (spot_reads nodes s is.kind) (number nodes) in
      let one : draft_slots d ≡ length (spot_reads nodes s is.kind) + ring_size clocks (index_at nodes s.path) is.kind =
      ap (λ t. t * (d.size + 1)) count ∙ ap (λ t. length (spot_reads nodes s is.kind) * (t + 1)) is.made.size ∙ kind_slots nodes clocks (index_at nodes s.path) s.path s.place is.kind in
      let reads : reads_at s ≡ length (spot_reads nodes s is.kind) = ap (reads_by nodes s) is.stands in
      let size : size_at s ≡ ring_size clocks (index_at nodes s.path) is.kind = ap (size_by nodes clocks s) is.stands in
      omega (arith, sum_by-cons draft_slots d drafts, sum_by-cons reads_at s spots, sum_by-cons size_at s spots, one, reads, size, made_slots spots drafts are.1)

  pub made_inputs : (spots : List Spot) (drafts : List Draft) → AreMade nodes clocks spots drafts → input_numbers drafts ≡ flat_map inputs_at spots
  made_inputs [] [] are = refl
  made_inputs [] (d ∷ drafts) are = absurd are
  made_inputs (s ∷ spots) [] are = absurd are
  made_inputs (s ∷ spots) (d ∷ drafts) are =
      let is = are.0 in
      let one : input_of d.kind ≡ inputs_at s = kind_inputs d.kind ∙ ap form_inputs (made_form is.made) ∙ ap (inputs_by s) (sym is.stands) in
      ap (λ t. t ++ input_numbers drafts) one ∙ ap (λ t. inputs_at s ++ t) (made_inputs spots drafts are.1)

  pub made_outputs : (spots : List Spot) (drafts : List Draft) → AreMade nodes clocks spots drafts → output_numbers drafts ≡ []
  made_outputs [] [] are = refl
  made_outputs [] (d ∷ drafts) are = absurd are
  made_outputs (s ∷ spots) [] are = absurd are
  made_outputs (s ∷ spots) (d ∷ drafts) are = ap (λ t. t ++ output_numbers drafts) (made_inner are.0.made) ∙ made_outputs spots drafts are.1

module _ (nodes : List PlacedNode) (clocks : List NodeClock) (proper : AreProper nodes) (clocked : AreClocked nodes clocks) where
  kind_there : (path : List ℕ) (n : PlacedNode) (c : ℕ) (entry : PlaceEntry) → node_at nodes path ≡ Some n → slice_get n.places c ≡ Some entry → kind_at nodes (at path (1 + c)) ≡ Some entry.kind
  kind_there path n c entry e f =
      let one : 1 + c ≡ suc c = omega arith in
      ap (λ k. kind_at nodes (at path k)) one ∙ ap (λ o. kind_in o (suc c)) e ∙ ap kind_of f

  -- parameters among the places of a node
  params_are : (n : PlacedNode) (above : List PlacedNode) → IsProperNode above n → sum_by (λ (e : PlaceEntry). is_param e.kind) n.places ≡ n.params
  params_are n above is =
      let sum_is = params_sum 1 n.params n.places (λ c entry f. (let one : suc c ≡ 1 + c = omega arith in subst (λ p. IsParamAt p n.params entry.kind) one (param_at n (suc c) entry.kind (is.kinds (suc c) entry f)))) in
      let few = is.params in
      omega (arith, sum_is, few)

  own_reads : (path : List ℕ) (n : PlacedNode) (above : List PlacedNode) → node_at nodes path ≡ Some n → IsProperNode above n →
      sum_by (reads_at nodes clocks) (own_spots path n) ≡ params_in path (Some n) + sum_by (λ (e : PlaceEntry). read_count e.kind) n.places
  own_reads [] n above e is =
      let plain = own_sum (reads_at nodes clocks) (λ (t : PlaceEntry). read_count t.kind) [] 1 n.places (λ c entry f. ap (reads_by nodes (at [] (1 + c))) (kind_there [] n c entry e f) ∙ main_reads nodes (1 + c) entry.kind) in
      omega (arith, plain)
  own_reads (call ∷ path) n above e is =
      let plain = own_sum (reads_at nodes clocks) (λ (t : PlaceEntry). read_count t.kind + is_param t.kind) (call ∷ path) 1 n.places (λ c entry f. ap (reads_by nodes (at (call ∷ path) (1 + c))) (kind_there (call ∷ path) n c entry e f) ∙ call_reads nodes call path (1 + c) entry.kind) in
      omega (arith, plain, sum_add (λ (t : PlaceEntry). read_count t.kind) (λ (t : PlaceEntry). is_param t.kind) n.places, params_are n above is)

  -- the instance that a call leads to
  record IsInside (path : List ℕ) (n : PlacedNode) (c : ℕ) (site : CallSite) : Type 0 where
    callee : PlacedNode
    found : node_at nodes ((1 + c) ∷ path) ≡ Some callee
    index : index_at nodes ((1 + c) ∷ path) ≡ site.node
    low : site.node < index_at nodes path
    args : length site.args ≡ callee.params

  inside_of : (path : List ℕ) (n : PlacedNode) (c : ℕ) (site : CallSite) → node_at nodes path ≡ Some n → slice_get n.calls c ≡ Some site → IsInside path n c site
  inside_of path n c site e f =
      let at_index = index_of nodes path n e in
      let is = (proper (index_at nodes path) n at_index).calls (suc c) site f in
      let callee = get_take nodes (index_at nodes path) site.node is.callee is.found in
      let call = call_node nodes path n c site is.callee e f callee in
      record {
        callee = is.callee;
        found = call.0;
        index = call.1;
        low = all_at (λ (t : CallSite). t.node < index_at nodes path) n.calls c site (calls_below nodes (index_at nodes path) n (proper (index_at nodes path) n at_index)) f;
        args = is.arguments;
      }

  pub total_reads : (d : ℕ) (path : List ℕ) (n : PlacedNode) → node_at nodes path ≡ Some n → index_at nodes path < d → sum_by (reads_at nodes clocks) (instance_spots nodes path (index_at nodes path)) ≡ params_in path (Some n) + total_of own_rings nodes (index_at nodes path)
  total_reads zero path n e l = absurd (omega (arith, l))
  total_reads (suc d) path n e l = from_calls (total_reads d)
    where
      at_index : slice_get nodes (index_at nodes path) ≡ Some n
      at_index = index_of nodes path n e

      call_sum : ((p : List ℕ) (m : PlacedNode) → node_at nodes p ≡ Some m → index_at nodes p < d → sum_by (reads_at nodes clocks) (instance_spots nodes p (index_at nodes p)) ≡ params_in p (Some m) + total_of own_rings nodes (index_at nodes p)) →
          (c : ℕ) (site : CallSite) → slice_get n.calls c ≡ Some site → sum_by (reads_at nodes clocks) (instance_spots nodes ((1 + c) ∷ path) site.node) ≡ length site.args + total_of own_rings nodes site.node
      call_sum inner c site f =
          let is = inside_of path n c site e f in
          let low = is.low in
          let deep = inner ((1 + c) ∷ path) is.callee is.found (omega (arith, is.index, low, l)) in
          ap (λ k. sum_by (reads_at nodes clocks) (instance_spots nodes ((1 + c) ∷ path) k)) (sym is.index) ∙ deep ∙ ap (λ k. is.callee.params + total_of own_rings nodes k) is.index ∙ ap (λ k. k + total_of own_rings nodes site.node) (sym is.args)

      from_calls : ((p : List ℕ) (m : PlacedNode) → node_at nodes p ≡ Some m → index_at nodes p < d → sum_by (reads_at nodes clocks) (instance_spots nodes p (index_at nodes p)) ≡ params_in p (Some m) + total_of own_rings nodes (index_at nodes p)) →
          sum_by (reads_at nodes clocks) (instance_spots nodes path (index_at nodes path)) ≡ params_in path (Some n) + total_of own_rings nodes (index_at nodes path)
      from_calls inner =
          let own = own_reads path n (take (index_at nodes path) nodes) e (proper (index_at nodes path) n at_index) in
          let calls = inner_sum (reads_at nodes clocks) (λ (s : CallSite). length s.args + total_of own_rings nodes s.node) (instance_spots nodes) path 1 n.calls (call_sum inner) in
          let split = sum_add (λ (s : CallSite). length s.args) (λ (s : CallSite). total_of own_rings nodes s.node) n.calls in
          let law = total_law own_rings nodes (index_at nodes path) n at_index (calls_below nodes (index_at nodes path) n (proper (index_at nodes path) n at_index)) in
          let parts = sum_by-append (reads_at nodes clocks) (own_spots path n) (calls_spots (instance_spots nodes) path 1 n.calls) in
          ap (sum_by (reads_at nodes clocks)) (instance_law nodes proper path (index_at nodes path) n at_index) ∙ (omega (arith, parts, own, calls, split, law))

  -- the sizes of a node's buffers
  own_buffers : (i : ℕ) (n : PlacedNode) → slice_get nodes i ≡ Some n → sum_by (λ (e : PlaceEntry). ring_size clocks i e.kind) n.places ≡ own_sizes clocks i n
  own_buffers i n e =
      let within = slice_get_within nodes i n e in
      let c = get_there clocks i (omega (arith, within, clocked.count)) in
      let is = clocked.each i n c.0 e c.1 in
      let node = proper i n e in
      let all = sizes_to n.places n.buffers c.0.sizes is.sizes.count
      (λ k p f. (let b = node.buffers k p f in (b.0, b.1.0, b.1.1, b.1.2)))
      (λ j entry f k q g. (subst (IsProperKind n (suc j)) g (node.kinds (suc j) entry f)).1) (length c.0.sizes) (omega arith) in
      let whole = take_all (length c.0.sizes) c.0.sizes (omega arith) in
      let sizes : own_sizes clocks i n ≡ sum c.0.sizes = ap (λ o. sum (sizes_in o)) c.1 in
      same n.places c.0 c.1 ∙ ap (λ xs. sum_by (λ (t : PlaceEntry). size_in xs t.kind) n.places) (sym whole) ∙ all ∙ ap sum whole ∙ sym sizes
    where
      same : (es : List PlaceEntry) (clock : NodeClock) → slice_get clocks i ≡ Some clock → sum_by (λ (t : PlaceEntry). ring_size clocks i t.kind) es ≡ sum_by (λ (t : PlaceEntry). size_in clock.sizes t.kind) es
      same [] clock f = refl
      same (t ∷ es) clock f = omega (arith, sum_by-cons (λ (x : PlaceEntry). ring_size clocks i x.kind) t es, sum_by-cons (λ (x : PlaceEntry). size_in clock.sizes x.kind) t es, size_there clocks i clock t.kind f, same es clock f)

  pub total_sizes : (d : ℕ) (path : List ℕ) (n : PlacedNode) → node_at nodes path ≡ Some n → index_at nodes path < d → sum_by (size_at nodes clocks) (instance_spots nodes path (index_at nodes path)) ≡ total_of (own_sizes clocks) nodes (index_at nodes path)
  total_sizes zero path n e l = absurd (omega (arith, l))
  total_sizes (suc d) path n e l = from_calls (total_sizes d)
    where
      at_index : slice_get nodes (index_at nodes path) ≡ Some n
      at_index = index_of nodes path n e

      call_sum : ((p : List ℕ) (m : PlacedNode) → node_at nodes p ≡ Some m → index_at nodes p < d → sum_by (size_at nodes clocks) (instance_spots nodes p (index_at nodes p)) ≡ total_of (own_sizes clocks) nodes (index_at nodes p)) →
          (c : ℕ) (site : CallSite) → slice_get n.calls c ≡ Some site → sum_by (size_at nodes clocks) (instance_spots nodes ((1 + c) ∷ path) site.node) ≡ total_of (own_sizes clocks) nodes site.node
      call_sum inner c site f =
          let is = inside_of path n c site e f in
          let low = is.low in
          let deep = inner ((1 + c) ∷ path) is.callee is.found (omega (arith, is.index, low, l)) in
          ap (λ k. sum_by (size_at nodes clocks) (instance_spots nodes ((1 + c) ∷ path) k)) (sym is.index) ∙ deep ∙ ap (total_of (own_sizes clocks) nodes) is.index

      from_calls : ((p : List ℕ) (m : PlacedNode) → node_at nodes p ≡ Some m → index_at nodes p < d → sum_by (size_at nodes clocks) (instance_spots nodes p (index_at nodes p)) ≡ total_of (own_sizes clocks) nodes (index_at nodes p)) →
          sum_by (size_at nodes clocks) (instance_spots nodes path (index_at nodes path)) ≡ total_of (own_sizes clocks) nodes (index_at nodes path)
      from_calls inner =
          let own = own_sum (size_at nodes clocks) (λ (t : PlaceEntry). ring_size clocks (index_at nodes path) t.kind) path 1 n.places (λ c entry f. ap (size_by nodes clocks (at path (1 + c))) (kind_there path n c entry e f)) in
          let buffers = own_buffers (index_at nodes path) n at_index in
          let calls = inner_sum (size_at nodes clocks) (λ (s : CallSite). total_of (own_sizes clocks) nodes s.node) (instance_spots nodes) path 1 n.calls (call_sum inner) in
          let law = total_law (own_sizes clocks) nodes (index_at nodes path) n at_index (calls_below nodes (index_at nodes path) n (proper (index_at nodes path) n at_index)) in
          let parts = sum_by-append (size_at nodes clocks) (own_spots path n) (calls_spots (instance_spots nodes) path 1 n.calls) in
          ap (sum_by (size_at nodes clocks)) (instance_law nodes proper path (index_at nodes path) n at_index) ∙ (omega (arith, parts, own, buffers, calls, law))

  -- the inputs are the parameters of main
  no_inputs : (k params m : ℕ) → params < k → range_with_len (k + 1 - 1) (min m (params + 1 - (k + 1))) ≡ range_with_len (k - 1) (min (suc m) (params + 1 - k))
  no_inputs k params m is =
      let a : min m (params + 1 - (k + 1)) ≡ 0 = omega (arith, is) in
      let b : 0 ≡ min (suc m) (params + 1 - k) = omega (arith, is) in
      ap (range_with_len (k + 1 - 1)) a ∙ ap (range_with_len (k - 1)) b

  input_step : (kind : PlaceKind) (k params m : ℕ) → 1 ≤ k → IsParamAt k params kind → form_inputs (spot_form (at [] k) kind) ++ range_with_len (k + 1 - 1) (min m (params + 1 - (k + 1))) ≡ range_with_len (k - 1) (min (suc m) (params + 1 - k))
  input_step Param k params m low is =
      let a : k + 1 - 1 ≡ k - 1 + 1 = omega (arith, low) in
      let b : suc (min m (params + 1 - (k + 1))) ≡ min (suc m) (params + 1 - k) = omega (arith, is) in
      ap (λ x. (k - 1) ∷ range_with_len x (min m (params + 1 - (k + 1)))) a ∙ ap (range_with_len (k - 1)) b
  input_step (Defined q) k params m low is = no_inputs k params m is
  input_step (Lit l) k params m low is = no_inputs k params m is
  input_step (Op op args) k params m low is = no_inputs k params m is
  input_step (Host op a b) k params m low is = no_inputs k params m is
  input_step (When q w) k params m low is = no_inputs k params m is
  input_step (Merge w a b) k params m low is = no_inputs k params m is
  input_step (Fby l q) k params m low is = no_inputs k params m is
  input_step (Buffer j q) k params m low is = no_inputs k params m is
  input_step (Result c j) k params m low is = no_inputs k params m is

  own_inputs : (g : Spot → List ℕ) (k params : ℕ) (es : List PlaceEntry) → 1 ≤ k → ((c : ℕ) (entry : PlaceEntry) → slice_get es c ≡ Some entry → IsParamAt (k + c) params entry.kind × (g (at [] (k + c)) ≡ form_inputs (spot_form (at [] (k + c)) entry.kind))) →
      flat_map g (map (at []) (range_with_len k (length es))) ≡ range_with_len (k - 1) (min (length es) (params + 1 - k))
  own_inputs g k params [] low h = let z : 0 ≡ min 0 (params + 1 - k) = omega arith in ap (range_with_len (k - 1)) z
  own_inputs g k params (e ∷ es) low h =
      let z : k + 0 ≡ k = omega arith in
      let first : g (at [] k) ≡ form_inputs (spot_form (at [] k) e.kind) = subst (λ n. g (at [] n) ≡ form_inputs (spot_form (at [] n) e.kind)) z (h 0 e refl).1 in
      let is = subst (λ n. IsParamAt n params e.kind) z (h 0 e refl).0 in
      let rest = own_inputs g (k + 1) params es (omega (arith, low)) (λ c entry f. (let n : k + suc c ≡ k + 1 + c = omega arith in subst (λ m. IsParamAt m params entry.kind × (g (at [] m) ≡ form_inputs (spot_form (at [] m) entry.kind))) n (h (suc c) entry f))) in
      ap (λ t. t ++ flat_map g (map (at []) (range_with_len (k + 1) (length es)))) first ∙ ap (λ t. form_inputs (spot_form (at [] k) e.kind) ++ t) rest ∙ input_step e.kind k params (length es) low is

  call_inputs : (call : ℕ) (path : List ℕ) (place : ℕ) (kind : PlaceKind) → form_inputs (spot_form (at (call ∷ path) place) kind) ≡ []
  call_inputs call path place Param = refl
  call_inputs call path place (Defined q) = refl
  call_inputs call path place (Lit l) = refl
  call_inputs call path place (Op op args) = refl
  call_inputs call path place (Host op a b) = refl
  call_inputs call path place (When q w) = refl
  call_inputs call path place (Merge w a b) = refl
  call_inputs call path place (Fby l q) = refl
  call_inputs call path place (Buffer k q) = refl
  call_inputs call path place (Result c j) = refl

  none_at : (call : ℕ) (path : List ℕ) (place : ℕ) (o : Option PlaceKind) → inputs_by (at (call ∷ path) place) o ≡ []
  none_at call path place None = refl
  none_at call path place (Some kind) = call_inputs call path place kind

  none_mapped : (call : ℕ) (path : List ℕ) (xs : List Spot) → flat_map (inputs_at nodes clocks) (map (inside (call ∷ path)) xs) ≡ []
  none_mapped call path [] = refl
  none_mapped call path (s ∷ xs) = ap (λ t. t ++ flat_map (inputs_at nodes clocks) (map (inside (call ∷ path)) xs)) (none_inside s.path s.place) ∙ none_mapped call path xs
    where
      none_inside : (p : List ℕ) (place : ℕ) → inputs_at nodes clocks (at (p ++ call ∷ path) place) ≡ []
      none_inside [] place = none_at call path place (kind_at nodes (at (call ∷ path) place))
      none_inside (c ∷ p) place = none_at c (p ++ call ∷ path) place (kind_at nodes (at (c ∷ (p ++ call ∷ path)) place))

  none_calls : (path : List ℕ) (k : ℕ) (sites : List CallSite) → flat_map (inputs_at nodes clocks) (calls_spots (instance_spots nodes) path k sites) ≡ []
  none_calls path k [] = refl
  none_calls path k (s ∷ sites) =
      flat_map-append (inputs_at nodes clocks) (instance_spots nodes (k ∷ path) s.node) (calls_spots (instance_spots nodes) path (suc k) sites)
      ∙ ap (λ t. t ++ flat_map (inputs_at nodes clocks) (calls_spots (instance_spots nodes) path (suc k) sites)) (none_mapped k path (spots_of nodes s.node)) ∙ none_calls path (suc k) sites

  pub total_inputs : (n : PlacedNode) → node_at nodes [] ≡ Some n → flat_map (inputs_at nodes clocks) (instance_spots nodes [] (index_at nodes [])) ≡ inputs_in [] (Some n)
  total_inputs n e =
      let is = proper (index_at nodes []) n e in
      let few = is.params in
      let own = own_inputs (inputs_at nodes clocks) 1 n.params n.places (omega arith) (λ c entry f.
      (let one : suc c ≡ 1 + c = omega arith in
      (subst (λ p. IsParamAt p n.params entry.kind) one (param_at n (suc c) entry.kind (is.kinds (suc c) entry f)), ap (inputs_by (at [] (1 + c))) (kind_there [] n c entry e f)))) in
      let a : 1 - 1 ≡ 0 = omega arith in
      let b : min (length n.places) (n.params + 1 - 1) ≡ n.params = omega (arith, few) in
      ap (flat_map (inputs_at nodes clocks)) (instance_law nodes proper [] (index_at nodes []) n e)
      ∙ flat_map-append (inputs_at nodes clocks) (own_spots [] n) (calls_spots (instance_spots nodes) [] 1 n.calls)
      ∙ ap (λ t. t ++ flat_map (inputs_at nodes clocks) (calls_spots (instance_spots nodes) [] 1 n.calls)) (own ∙ ap (λ x. range_with_len x (min (length n.places) (n.params + 1 - 1))) a ∙ ap (range_with_len 0) b)
      ∙ ap (λ t. range_with_len 0 n.params ++ t) (none_calls [] 1 n.calls) ∙ append-nil (range_with_len 0 n.params)

-- the count of one node more
pub counted_more : (nodes : List PlacedNode) (own : ℕ → PlacedNode → ℕ) (counts : List ℕ) (node x : ℕ) → node < length counts → ((n : PlacedNode) → slice_get nodes node ≡ Some n → x ≡ own node n) →
    ((i : ℕ) (n : PlacedNode) → i < node → slice_get nodes i ≡ Some n → slice_index counts i ≡ own i n) →
    (i : ℕ) (n : PlacedNode) → i < node + 1 → slice_get nodes i ≡ Some n → slice_index (set counts node x) i ≡ own i n
counted_more nodes own counts node x within here before i n below is = elim (cases_lt i node) [
  | inl less ↦ get_or-set_other counts node i x 0 (omega arith) ∙ before i n less is
  | inr more ↦
      let same : i ≡ node = omega arith in
      ap (λ k. get_or (set counts node x) k 0) same ∙ get_or-set_same counts node x 0 within ∙ here n (ap (slice_get nodes) (sym same) ∙ is) ∙ ap (λ k. own k n) (sym same)
]
