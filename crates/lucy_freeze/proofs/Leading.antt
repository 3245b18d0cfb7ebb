-- Which instance places of a frozen program stand for which of the program, and that what they read does so too.
use Rattle.std.proofs.Common.{ℕ, suc, zero, ◌-◌, ◌<◌, ◌≤◌, ◌≡◌, inl, List, [], ◌∷◌, Some, length, map, ap, sym, refl, ◌∙◌, subst, arith}
use Rattle.std.specs.Prelude.{slice_get, slice_index_or, option_map}
use Rattle.std.proofs.lemmas.Option.{same_Some, slice_get_within, slice_get-map}
use Rattle.lucy_host.proofs.Elements.{get_there}
use Rattle.lucy_stream.specs.Forms.{Given, Constant, Pointwise, Hosted, Kept, Merged, Delayed}
use Rattle.lucy_place.specs.declared.placed.PlacedNode.{PlacedNode}
use Rattle.lucy_place.specs.declared.entry.CallSite.{CallSite}
use Rattle.lucy_place.specs.declared.entry.PlaceEntry.{PlaceEntry}
use Rattle.lucy_place.specs.declared.entry.PlaceKind.{PlaceKind}
use Rattle.lucy_place.specs.declared.entry.PlaceKind.TheVariants.{Param, Defined, Lit, Op, Host, When, Merge, Fby, Buffer, Result}
use Rattle.lucy_place.specs.Literals.{literal_value}
use Rattle.lucy_place.specs.Proper.{at_one, Stands, IsPlace, ArePlaces, IsProperKind, AreProper}
use Rattle.lucy_clock.specs.declared.node_clock.NodeClock.{NodeClock}
use Rattle.lucy_kahn.specs.Spots.{Spot, at, site_in, node_at, kind_at, IsSpot, argument, result_place, param_form, param_reads, spot_form, spot_reads, form_at, reads_at}
use Rattle.lucy_kahn.proofs.Parts.{callee_in, kind_of, kind_in, form_if, reads_if}
use Rattle.lucy_kahn.proofs.Paths.{low_of, proper_at}
use Rattle.lucy_kahn.proofs.Closed.{get_take, place_of, call_of}
use Rattle.lucy_freeze.specs.Frozen.{Pair, Renumbering, pair, IsReadFor, SaysSame, IsFrozenPlace, IsFrozenCall, IsFrozenNode, IsFrozenAt, AreFrozen}

-- two paths of calls lead to a node and its frozen one
pub record Lead (nodes frozen : List PlacedNode) (path other : List ℕ) (p : Pair) (r : Renumbering) : Type 0 where
  pub node : node_at nodes path ≡ Some p.node
  pub twin : node_at frozen other ≡ Some p.frozen
  pub is : IsFrozenNode r p

-- the calls of one stand for those of the other
abbrev pub Above : List PlacedNode → List PlacedNode → List ℕ → List ℕ → Type 0
Above nodes frozen [] [] = Unit {0}
Above nodes frozen (call ∷ path) (twin ∷ other) = (p : Pair) × (r : Renumbering) × Lead nodes frozen path other p r × (twin ≡ r.call call) × Above nodes frozen path other
Above nodes frozen path other = ⊥

-- an instance place stands for another
pub record IsImage (nodes frozen : List PlacedNode) (spot twin : Spot) : Type 0 where
  pub p : Pair
  pub r : Renumbering
  pub lead : Lead nodes frozen spot.path twin.path p r
  pub above : Above nodes frozen spot.path twin.path
  pub place : IsPlace p.node spot.place
  pub stands : twin.place ≡ r.place spot.place

-- or is read for another
pub record IsRead (nodes frozen : List PlacedNode) (spot twin : Spot) : Type 0 where
  pub p : Pair
  pub r : Renumbering
  pub lead : Lead nodes frozen spot.path twin.path p r
  pub above : Above nodes frozen spot.path twin.path
  pub place : IsPlace p.node spot.place
  pub read : IsReadFor r p spot.place twin.place

-- one by one
abbrev pub AreRead : List PlacedNode → List PlacedNode → List Spot → List Spot → Type 0
AreRead nodes frozen [] [] = Unit {0}
AreRead nodes frozen (s ∷ ss) (t ∷ ts) = IsRead nodes frozen s t × AreRead nodes frozen ss ts
AreRead nodes frozen ss ts = ⊥

-- the number at a number of a list
pub index_is : (xs : List ℕ) (i x : ℕ) → slice_get xs i ≡ Some x → slice_index_or xs i 0 ≡ x
index_is [] i x e = absurd (cc e)
index_is (y ∷ xs) zero x e = same_Some y x e
index_is (y ∷ xs) (suc i) x e = index_is xs i x e

pub kind_is : (nodes : List PlacedNode) (path : List ℕ) (place : ℕ) (n : PlacedNode) (entry : PlaceEntry) → node_at nodes path ≡ Some n → at_one n.places place ≡ Some entry → kind_at nodes (at path place) ≡ Some entry.kind
kind_is nodes path place n entry found stands = ap (λ o. kind_in o place) found ∙ ap kind_of stands

-- the forms of what says the same
param_forms : (nodes frozen : List PlacedNode) (path other : List ℕ) (place twin : ℕ) → Above nodes frozen path other → twin ≡ place → param_form path place ≡ param_form other twin
param_forms nodes frozen [] [] place twin above e = ap (λ x. Given (x - 1)) (sym e)
param_forms nodes frozen (call ∷ path) (also ∷ other) place twin above e = refl
param_forms nodes frozen [] (also ∷ other) place twin above e = absurd above
param_forms nodes frozen (call ∷ path) [] place twin above e = absurd above

forms_same : (nodes frozen : List PlacedNode) (r : Renumbering) (p : Pair) (path other : List ℕ) (place twin : ℕ) (kind also : PlaceKind) → Above nodes frozen path other → SaysSame r p kind also → (kind ≡ Param → twin ≡ place) →
    spot_form (at path place) kind ≡ spot_form (at other twin) also
forms_same nodes frozen r p path other place twin Param Param above h given = param_forms nodes frozen path other place twin above (given refl)
forms_same nodes frozen r p path other place twin (Defined e) (Defined f) above h given = refl
forms_same nodes frozen r p path other place twin (Lit l) (Lit m) above h given = ap (λ x. Constant (literal_value x)) h
forms_same nodes frozen r p path other place twin (Op op es) (Op o fs) above h given = ap Pointwise h.0
forms_same nodes frozen r p path other place twin (Host op a b) (Host o c d) above h given = ap Hosted h.0
forms_same nodes frozen r p path other place twin (When e w) (When f v) above h given = ap Kept h.1
forms_same nodes frozen r p path other place twin (Merge w a b) (Merge v c d) above h given = ap Merged h.0
forms_same nodes frozen r p path other place twin (Fby l e) (Fby m f) above h given = ap (λ x. Delayed (literal_value x)) h.0
forms_same nodes frozen r p path other place twin (Buffer k e) (Buffer l f) above h given = refl
forms_same nodes frozen r p path other place twin (Result c j) (Result d k) above h given = refl
forms_same nodes frozen r p path other place twin kind also above h given = absurd h

module _ (nodes : List PlacedNode) (clocks : List NodeClock) (frozen : List PlacedNode) (frozen_clocks : List NodeClock) (proper : AreProper nodes) (same : AreFrozen nodes clocks frozen frozen_clocks) where
  module _ (path other : List ℕ) (p : Pair) (r : Renumbering) (lead : Lead nodes frozen path other p r) (above : Above nodes frozen path other) where
    read_at : (e f : ℕ) → IsPlace p.node e → IsReadFor r p e f → IsRead nodes frozen (at path e) (at other f)
    read_at e f is h = record { p = p; r = r; lead = lead; above = above; place = is; read = h }

    all_read : (es fs : List ℕ) → ArePlaces p.node es → length fs ≡ length es → ((k e f : ℕ) → slice_get es k ≡ Some e → slice_get fs k ≡ Some f → IsReadFor r p e f) → AreRead nodes frozen (map (at path) es) (map (at other) fs)
    all_read [] [] are count each = tt
    all_read [] (f ∷ fs) are count each = absurd (omega arith)
    all_read (e ∷ es) [] are count each = absurd (omega arith)
    all_read (e ∷ es) (f ∷ fs) are count each = (read_at e f are.0 (each 0 e f refl refl), all_read es fs are.1 (omega arith) (λ k a b x y. each (suc k) a b x y))

    -- the result of a call reads that of the node that is called
    result_read : (c j d k place : ℕ) → d ≡ r.call c → k ≡ j → (site : CallSite) → at_one p.node.calls c ≡ Some site → Stands p.node place (Result c j) →
        IsRead nodes frozen (at (c ∷ path) (result_place (node_at nodes (c ∷ path)) j)) (at (d ∷ other) (result_place (node_at frozen (d ∷ other)) k))
    result_read c j d k place to also site stands result =
        let low = low_of p.node.calls c site stands in
        let within : c - 1 < length p.node.calls = slice_get_within p.node.calls (c - 1) site low.1 in
        let here = low.0 in
        let call : IsFrozenCall r p c = lead.is.calls c here (omega arith) in
        let own = proper_at nodes proper path p.node lead.node in
        let is = own.2.calls c call.site call.there in
        let callee : slice_get nodes call.site.node ≡ Some is.callee = get_take nodes own.0 call.site.node is.callee is.found in
        let inner : IsFrozenAt nodes clocks frozen frozen_clocks call.site.node = same.each call.site.node (slice_get_within nodes call.site.node is.callee callee) in
        let inside : node_at nodes (c ∷ path) ≡ Some inner.n = ap (λ o. callee_in nodes (site_in o c)) lead.node ∙ ap (callee_in nodes) call.there ∙ inner.node in
        let twin : at_one p.frozen.calls d ≡ Some call.twin = subst (λ x. at_one p.frozen.calls x ≡ Some call.twin) (sym to) call.stands in
        let beside : node_at frozen (d ∷ other) ≡ Some inner.m =
        ap (λ o. callee_in frozen (site_in o d)) lead.twin ∙ ap (callee_in frozen) twin ∙ ap (slice_get frozen) call.node ∙ inner.frozen_node in
        let known : is.callee ≡ inner.n = same_Some is.callee inner.n (sym callee ∙ inner.node) in
        let few : j < length inner.n.results = subst (λ (n : PlacedNode). j < length n.results) known (is.only place j result).1 in
        let deep = proper_at nodes proper (c ∷ path) inner.n inside in
        let at_j = get_there inner.n.results j few in
        let got : slice_get inner.m.results k ≡ Some (inner.renumbering.place at_j.0) =
        subst (λ x. slice_get inner.m.results x ≡ Some (inner.renumbering.place at_j.0)) (sym also)
        (ap (λ xs. slice_get xs j) inner.is.results ∙ slice_get-map inner.renumbering.place inner.n.results j ∙ ap (λ o. option_map inner.renumbering.place o) at_j.1) in
        let from : result_place (node_at nodes (c ∷ path)) j ≡ at_j.0 = ap (λ o. result_place o j) inside ∙ index_is inner.n.results j at_j.0 at_j.1 in
        let into : result_place (node_at frozen (d ∷ other)) k ≡ inner.renumbering.place at_j.0 = ap (λ o. result_place o k) beside ∙ index_is inner.m.results k (inner.renumbering.place at_j.0) got in
        let shown : IsPlace inner.n at_j.0 = subst (IsPlace inner.n) (index_is inner.n.results j at_j.0 at_j.1) (place_of inner.n inner.n.results j deep.2.results few) in
        record {
          p = pair inner.n inner.c inner.m inner.d;
          r = inner.renumbering;
          lead = record { node = inside; twin = beside; is = inner.is };
          above = (p, r, lead, to, above);
          place = subst (IsPlace inner.n) (sym from) shown;
          read = inl (into ∙ ap inner.renumbering.place (sym from));
        }

  -- a parameter of a call reads its argument
  param_read : (path other : List ℕ) (p : Pair) (r : Renumbering) → Lead nodes frozen path other p r → Above nodes frozen path other → (place twin : ℕ) → 1 ≤ place → place ≤ p.node.params → twin ≡ place →
      AreRead nodes frozen (param_reads nodes path place) (param_reads frozen other twin)
  param_read [] [] p r lead above place twin low high e = tt
  param_read [] (d ∷ other) p r lead above place twin low high e = absurd above
  param_read (c ∷ path) [] p r lead above place twin low high e = absurd above
  param_read (c ∷ path) (d ∷ other) p r lead above place twin low high e =
      let q = above.0 in
      let s = above.1 in
      let outer = above.2 in
      let of = call_of nodes path c p.node lead.node in
      let caller : of.caller ≡ q.node = same_Some of.caller q.node (sym of.outer ∙ outer.node) in
      let stands : at_one q.node.calls c ≡ Some of.to.site = subst (λ (n : PlacedNode). at_one n.calls c ≡ Some of.to.site) caller of.to.stands in
      let from = low_of q.node.calls c of.to.site stands in
      let within : c - 1 < length q.node.calls = slice_get_within q.node.calls (c - 1) of.to.site from.1 in
      let here = from.0 in
      let call : IsFrozenCall s q c = outer.is.calls c here (omega arith) in
      let own = proper_at nodes proper path q.node outer.node in
      let is = own.2.calls c call.site call.there in
      let callee : slice_get nodes call.site.node ≡ Some is.callee = get_take nodes own.0 call.site.node is.callee is.found in
      let inside : node_at nodes (c ∷ path) ≡ Some is.callee = ap (λ o. callee_in nodes (site_in o c)) outer.node ∙ ap (callee_in nodes) call.there ∙ callee in
      let known : p.node ≡ is.callee = same_Some p.node is.callee (sym lead.node ∙ inside) in
      let params : p.node.params ≡ is.callee.params = ap (λ (m : PlacedNode). m.params) known in
      let count = is.arguments in
      let also = call.args.count in
      let arg = get_there call.site.args (place - 1) (omega arith) in
      let read = get_there call.twin.args (place - 1) (omega arith) in
      let first : argument (site_in (node_at nodes path) c) place ≡ arg.0 =
      ap (λ o. argument (site_in o c) place) outer.node ∙ ap (λ o. argument o place) call.there ∙ index_is call.site.args (place - 1) arg.0 arg.1 in
      let twins : at_one q.frozen.calls d ≡ Some call.twin = subst (λ x. at_one q.frozen.calls x ≡ Some call.twin) (sym above.3) call.stands in
      let second : argument (site_in (node_at frozen other) d) twin ≡ read.0 =
      ap (argument (site_in (node_at frozen other) d)) e ∙ ap (λ o. argument (site_in o d) place) outer.twin ∙ ap (λ o. argument o place) twins ∙ index_is call.twin.args (place - 1) read.0 read.1 in
      let shown : IsPlace q.node arg.0 = subst (IsPlace q.node) (index_is call.site.args (place - 1) arg.0 arg.1) (place_of q.node call.site.args (place - 1) is.places (omega arith)) in
      let is_read : IsReadFor s q arg.0 read.0 = call.args.each (place - 1) arg.0 read.0 arg.1 read.1 in
      let found : IsRead nodes frozen (at path arg.0) (at other read.0) = read_at path other q s outer above.4 arg.0 read.0 shown is_read in
      (subst (λ x. IsRead nodes frozen (at path x) (at other (argument (site_in (node_at frozen other) d) twin))) (sym first) (subst (λ y. IsRead nodes frozen (at path arg.0) (at other y)) (sym second) found), tt)

  kinds_read : (path other : List ℕ) (p : Pair) (r : Renumbering) → Lead nodes frozen path other p r → Above nodes frozen path other → (place twin : ℕ) (kind also : PlaceKind) → SaysSame r p kind also →
      IsProperKind p.node place kind → Stands p.node place kind → 1 ≤ place → (kind ≡ Param → twin ≡ place) → AreRead nodes frozen (spot_reads nodes (at path place) kind) (spot_reads frozen (at other twin) also)
  kinds_read path other p r lead above place twin Param Param h is stands low given = param_read path other p r lead above place twin low is (given refl)
  kinds_read path other p r lead above place twin (Defined e) (Defined f) h is stands low given = (read_at path other p r lead above e f is.1 h, tt)
  kinds_read path other p r lead above place twin (Lit l) (Lit m) h is stands low given = tt
  kinds_read path other p r lead above place twin (Op op es) (Op o fs) h is stands low given = all_read path other p r lead above es fs is.2 h.1.count h.1.each
  kinds_read path other p r lead above place twin (Host op a b) (Host o c d) h is stands low given = (read_at path other p r lead above a c is.1 h.1, (read_at path other p r lead above b d is.2 h.2, tt))
  kinds_read path other p r lead above place twin (When e w) (When f v) h is stands low given = (read_at path other p r lead above e f is.1 h.0, tt)
  kinds_read path other p r lead above place twin (Merge w a b) (Merge v c d) h is stands low given = (read_at path other p r lead above a c is.2 h.1, (read_at path other p r lead above b d is.3 h.2, tt))
  kinds_read path other p r lead above place twin (Fby l e) (Fby m f) h is stands low given = (read_at path other p r lead above e f is.1 h.1, tt)
  kinds_read path other p r lead above place twin (Buffer k e) (Buffer l f) h is stands low given = (read_at path other p r lead above e f is.2 h.0, tt)
  kinds_read path other p r lead above place twin (Result c j) (Result d k) h is stands low given = (result_read path other p r lead above c j d k place h.0 h.1 is.1 is.2 stands, tt)
  kinds_read path other p r lead above place twin kind also h is stands low given = absurd h

  module _ (spot twin : Spot) (image : IsImage nodes frozen spot twin) where
    place_is : IsFrozenPlace image.r image.p spot.place
    place_is = image.lead.is.places spot.place image.place

    own_proper : IsProperKind image.p.node spot.place place_is.entry.kind
    own_proper = (proper_at nodes proper spot.path image.p.node image.lead.node).2.kinds spot.place place_is.entry place_is.there

    -- a parameter stands at its own number
    param_given : (place : ℕ) (kind : PlaceKind) → IsProperKind image.p.node place kind → kind ≡ Param → place ≤ image.p.node.params
    param_given place Param is e = is
    param_given place kind is e = absurd (cc e)

    given : place_is.entry.kind ≡ Param → twin.place ≡ spot.place
    given e = image.stands ∙ place_is.given (param_given spot.place place_is.entry.kind own_proper e)

    kind_here : kind_at nodes spot ≡ Some place_is.entry.kind
    kind_here = kind_is nodes spot.path spot.place image.p.node place_is.entry image.lead.node place_is.there

    kind_twin : kind_at frozen twin ≡ Some place_is.twin.kind
    kind_twin = kind_is frozen twin.path twin.place image.p.frozen place_is.twin image.lead.twin (subst (λ x. at_one image.p.frozen.places x ≡ Some place_is.twin) (sym image.stands) place_is.stands)

    pub image_spot : IsSpot nodes spot
    image_spot = (place_is.entry.kind, kind_here)

    pub image_form : form_at nodes spot ≡ form_at frozen twin
    image_form =
        ap (form_if spot) kind_here
        ∙ forms_same nodes frozen image.r image.p spot.path twin.path spot.place twin.place place_is.entry.kind place_is.twin.kind image.above place_is.says given
        ∙ sym (ap (form_if twin) kind_twin)

    pub image_reads : AreRead nodes frozen (reads_at nodes spot) (reads_at frozen twin)
    image_reads =
        subst (λ o. AreRead nodes frozen (reads_if nodes spot o) (reads_at frozen twin)) (sym kind_here)
        (subst (λ o. AreRead nodes frozen (spot_reads nodes spot place_is.entry.kind) (reads_if frozen twin o)) (sym kind_twin)
        (kinds_read spot.path twin.path image.p image.r image.lead image.above spot.place twin.place place_is.entry.kind place_is.twin.kind place_is.says own_proper
        (place_is.entry, place_is.there, refl) image.place.0 given))
