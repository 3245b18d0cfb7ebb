-- Every sampling is read: it has no name, and each place without a name is read once.
use Rattle.std.proofs.Common.{ℕ, suc, zero, ◌-◌, ◌≡◌, List, [], ◌∷◌, Option, Some, None, map, ap, sym, refl, ◌∙◌, subst, inl, inr, arith}
use Rattle.std.specs.Prelude.{slice_get, slice_index_or}
use Rattle.std.proofs.lemmas.Option.{same_Some, slice_get_within}
use Rattle.lucy_word.specs.Bits.{Bits}
use Rattle.lucy_host.proofs.Elements.{get_there, get_map}
use Rattle.lucy_place.specs.declared.placed.PlacedNode.{PlacedNode}
use Rattle.lucy_place.specs.declared.entry.CallSite.{CallSite}
use Rattle.lucy_place.specs.declared.entry.PlaceKind.{PlaceKind}
use Rattle.lucy_place.specs.declared.entry.PlaceKind.TheVariants as place_kind
use Rattle.lucy_place.specs.Proper.{at_one, Stands, IsLabelled, AreProper, operands_of, arguments_of, reads_of}
use Rattle.lucy_place.proofs.NodeLaws.{only_param}
use Rattle.lucy_net.specs.declared.kind.ActorKind.TheVariants.{When, Output}
use Rattle.lucy_clock.specs.declared.node_clock.NodeClock.{NodeClock}
use Rattle.lucy_kahn.specs.Spots.{Spot, at, site_in, node_at, kind_at, spot_form, argument, spot_reads}
use Rattle.lucy_kahn.specs.Numbers.{number}
use Rattle.lucy_kahn.proofs.Parts.{callee_in, kind_in, kind_of}
use Rattle.lucy_kahn.proofs.Paths.{proper_at}
use Rattle.lucy_kahn.proofs.Closed.{get_take}
use Rattle.lucy_flat.specs.declared.draft.Draft.{Draft}
use Rattle.lucy_flat.specs.Flat.{actor_of}
use Rattle.lucy_flat.specs.Clocked.{AreClocked}
use Rattle.lucy_flat.specs.Drafts.{AreDrafts}
use Rattle.lucy_flat.proofs.AssemblyLaws.{present}
use Rattle.lucy_flat.proofs.FlatLaws.{standing, which}

-- an actor that samples is that of a sampling
when_kind : (path : List ℕ) (place : ℕ) (kind : PlaceKind) (p : Bits) → actor_of (spot_form (at path place) kind) ≡ When p → (e : ℕ) × (w : Bits) × (kind ≡ place_kind.When e w)
when_kind [] place place_kind.Param p is = absurd (cc is)
when_kind (call ∷ path) place place_kind.Param p is = absurd (cc is)
when_kind path place (place_kind.Defined e) p is = absurd (cc is)
when_kind path place (place_kind.Lit l) p is = absurd (cc is)
when_kind path place (place_kind.Op op args) p is = absurd (cc is)
when_kind path place (place_kind.Host op a b) p is = absurd (cc is)
when_kind path place (place_kind.When e w) p is = (e, w, refl)
when_kind path place (place_kind.Merge w a b) p is = absurd (cc is)
when_kind path place (place_kind.Fby l e) p is = absurd (cc is)
when_kind path place (place_kind.Buffer k e) p is = absurd (cc is)
when_kind path place (place_kind.Result c j) p is = absurd (cc is)

module _ (nodes : List PlacedNode) (proper : AreProper nodes) where
  -- an instance place that reads another
  record IsReadBy (read : Spot) : Type 0 where
    pub spot : Spot
    pub kind : PlaceKind
    pub stands : kind_at nodes spot ≡ Some kind
    pub operand : ℕ
    pub reads : slice_get (spot_reads nodes spot kind) operand ≡ Some read

  -- a place that reads a place of its own instance
  own_read : (path : List ℕ) (n : PlacedNode) (p k place : ℕ) (kind : PlaceKind) → node_at nodes path ≡ Some n → Stands n p kind → slice_get (operands_of kind) k ≡ Some place →
      spot_reads nodes (at path p) kind ≡ map (at path) (operands_of kind) → IsReadBy (at path place)
  own_read path n p k place kind e stands got reads = record {
    spot = at path p;
    kind = kind;
    stands = ap (λ o. kind_in o p) e ∙ ap kind_of stands.1 ∙ ap (λ t. Some t) stands.2;
    operand = k;
    reads = ap (λ t. slice_get t k) reads ∙ get_map (at path) (operands_of kind) k place got;
  }

  -- the parameter that reads an argument of a call
  argument_read : (path : List ℕ) (n : PlacedNode) (call k place : ℕ) (site : CallSite) → node_at nodes path ≡ Some n → at_one n.calls call ≡ Some site → slice_get site.args k ≡ Some place → IsReadBy (at path place)
  argument_read path n call k place site e f got =
      let own = proper_at nodes proper path n e in
      let is = own.2.calls call site f in
      let callee = get_take nodes own.0 site.node is.callee is.found in
      let inside : node_at nodes (call ∷ path) ≡ Some is.callee = ap (λ o. callee_in nodes (site_in o call)) e ∙ ap (callee_in nodes) f ∙ callee in
      let of_callee = proper site.node is.callee callee in
      let within = slice_get_within site.args k place got in
      let few = of_callee.params in
      let count = is.arguments in
      let entry = get_there is.callee.places k (omega arith) in
      let param : entry.0.kind ≡ place_kind.Param = only_param is.callee (suc k) entry.0.kind (omega arith) (of_callee.kinds (suc k) entry.0 entry.1) in
      let back : suc k - 1 ≡ k = omega arith in
      let arg : slice_index_or site.args k 0 ≡ place = same_Some (slice_index_or site.args k 0) place (sym (present site.args k within) ∙ got) in
      let reads : argument (site_in (node_at nodes path) call) (suc k) ≡ place =
      ap (λ o. argument (site_in o call) (suc k)) e ∙ ap (λ o. argument o (suc k)) f ∙ ap (λ i. slice_index_or site.args i 0) back ∙ arg in
      record {
        spot = at (call ∷ path) (suc k);
        kind = place_kind.Param;
        stands = ap (λ o. kind_in o (suc k)) inside ∙ ap kind_of entry.1 ∙ ap (λ t. Some t) param;
        operand = 0;
        reads = ap (λ q. Some (at path q)) reads;
      }

  some_argument : (path : List ℕ) (n : PlacedNode) (call k place : ℕ) (o : Option CallSite) → node_at nodes path ≡ Some n → at_one n.calls call ≡ o → slice_get (arguments_of o) k ≡ Some place → IsReadBy (at path place)
  some_argument path n call k place None e f got = absurd (cc got)
  some_argument path n call k place (Some site) e f got = argument_read path n call k place site e f got

  by_kind : (path : List ℕ) (n : PlacedNode) (p k place : ℕ) (kind : PlaceKind) → node_at nodes path ≡ Some n → Stands n p kind → slice_get (reads_of n kind) k ≡ Some place → IsReadBy (at path place)
  by_kind path n p k place place_kind.Param e stands got = absurd (cc got)
  by_kind path n p k place (place_kind.Lit l) e stands got = absurd (cc got)
  by_kind path n p k place (place_kind.Result call zero) e stands got = some_argument path n call k place (at_one n.calls call) e refl got
  by_kind path n p k place (place_kind.Result call (suc j)) e stands got = absurd (cc got)
  by_kind path n p k place (place_kind.Defined q) e stands got = own_read path n p k place (place_kind.Defined q) e stands got refl
  by_kind path n p k place (place_kind.Op op args) e stands got = own_read path n p k place (place_kind.Op op args) e stands got refl
  by_kind path n p k place (place_kind.Host op a b) e stands got = own_read path n p k place (place_kind.Host op a b) e stands got refl
  by_kind path n p k place (place_kind.When q w) e stands got = own_read path n p k place (place_kind.When q w) e stands got refl
  by_kind path n p k place (place_kind.Merge w a b) e stands got = own_read path n p k place (place_kind.Merge w a b) e stands got refl
  by_kind path n p k place (place_kind.Fby l q) e stands got = own_read path n p k place (place_kind.Fby l q) e stands got refl
  by_kind path n p k place (place_kind.Buffer b q) e stands got = own_read path n p k place (place_kind.Buffer b q) e stands got refl

  -- a sampling of a node
  when_read : (path : List ℕ) (n : PlacedNode) (place e : ℕ) (w : Bits) → node_at nodes path ≡ Some n → Stands n place (place_kind.When e w) → IsReadBy (at path place)
  when_read path n place e w found stands =
      let is = (proper_at nodes proper path n found).2 in
      let label = subst (λ t. IsLabelled t stands.0) stands.2 (is.labels place stands.0 stands.1) in
      let once = is.once place (stands.0, stands.1, label.0) in
      by_kind path n once.reader once.operand place once.reads.entry.kind found (once.reads.entry, once.reads.stands, refl) once.reads.reads

-- a draft that reads another
pub record IsReader (drafts : List Draft) (a : ℕ) : Type 0 where
  pub by : ℕ
  pub operand : ℕ
  pub draft : Draft
  pub there : slice_get drafts by ≡ Some draft
  pub reads : slice_get draft.reads.items operand ≡ Some a

pub sampling_read : (nodes : List PlacedNode) (clocks : List NodeClock) → (proper : AreProper nodes) → (clocked : AreClocked nodes clocks) → (drafts : List Draft) → (are : AreDrafts nodes clocks drafts) → (a : ℕ) (d : Draft) (p : Bits) →
    slice_get drafts a ≡ Some d → d.kind ≡ When p → IsReader drafts a
sampling_read nodes clocks proper clocked drafts are a d p e kind_is =
    elim (which nodes clocks proper clocked drafts are a d e) [
      | inl l ↦
          let w = when_kind l.spot.path l.spot.place l.kind p (sym l.made.does ∙ kind_is) in
          let st = standing nodes l.spot l.kind l.stands in
          let by = when_read nodes proper l.spot.path st.node l.spot.place w.0 w.1 st.found (subst (Stands st.node l.spot.place) w.2 st.stands) in
          let own = are.places by.spot by.kind by.stands in
          let got : slice_get own.0.reads.items by.operand ≡ Some (number nodes l.spot) =
          ap (λ t. slice_get t by.operand) own.2.reads ∙ get_map (number nodes) (spot_reads nodes by.spot by.kind) by.operand l.spot by.reads in
          record { by = number nodes by.spot; operand = by.operand; draft = own.0; there = own.1; reads = got ∙ ap (λ t. Some t) l.numbered }
      | inr r ↦
          let out : d.kind ≡ Output r.i = ap (λ (t : Draft). t.kind) (sym r.same) ∙ r.out.kind in
          let no : When p ≡ Output r.i = sym kind_is ∙ out in
          absurd (cc no)
    ]
