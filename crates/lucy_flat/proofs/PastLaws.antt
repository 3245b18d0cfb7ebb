-- Drafts whose words have more bits than are allowed have a net, and it has as many.
use Rattle.std.proofs.Common.{ℕ, suc, zero, ◌+◌, ◌<◌, ◌≤◌, ◌≡◌, cond, List, [], ◌∷◌, ◌++◌, Some, length, get_or, take, ap, sym, refl, ◌∙◌, subst, inl, inr, arith}
use Rattle.std.specs.Prelude.{All, sum_by, slice_get, ◌⊎◌, nat_eq}
use Rattle.std.proofs.lemmas.Bool.{cases_eq, eq-eqb, ne_eqb}
use Rattle.std.proofs.lemmas.List.{take_all}
use Rattle.std.proofs.lemmas.List.Elements.{All-nil}
use Rattle.std.proofs.lemmas.List.Sums.{sum_by-cons}
use Rattle.std.proofs.lemmas.Option.{same_Some, slice_get_within}
use Rattle.lucy_word.specs.Bits.{Bits, bit_count}
use Rattle.lucy_word.specs.Limits.{limit_number}
use Rattle.lucy_word.specs.declared.limit.Limit.TheVariants as limit
use Rattle.lucy_word.specs.Stored.{IsStored}
use Rattle.lucy_word.specs.Sampling.{IsOnTooLong}
use Rattle.lucy_word.specs.Complement.{turned}
use Rattle.lucy_word.proofs.BitsLaws.{period_some}
use Rattle.lucy_word.proofs.ShortLaws.{shortest_one}
use Rattle.lucy_word.proofs.Lists.{all_at, map_from}
use Rattle.lucy_host.proofs.Elements.{get_there}
use Rattle.lucy_place.specs.declared.placed.PlacedNode.{PlacedNode}
use Rattle.lucy_place.specs.declared.entry.PlaceKind.{PlaceKind}
use Rattle.lucy_place.specs.declared.entry.PlaceKind.TheVariants as place_kind
use Rattle.lucy_place.specs.Proper.{AreProper}
use Rattle.lucy_net.specs.declared.kind.ActorKind.{ActorKind}
use Rattle.lucy_net.specs.declared.kind.ActorKind.TheVariants.{Input, Lit, Op, Host, When, Merge, Fby, Pass, Output}
use Rattle.lucy_net.specs.declared.net.Actor.{Actor}
use Rattle.lucy_net.specs.declared.net.RingSpec.{RingSpec}
use Rattle.lucy_net.specs.declared.net.Net.{Net}
use Rattle.lucy_net.specs.Plans as plans
use Rattle.lucy_net.specs.Words.{ring_words}
use Rattle.lucy_clock.specs.declared.node_clock.NodeClock.{NodeClock}
use Rattle.lucy_kahn.specs.Spots.{at, spot_form, spot_reads, IsSpot}
use Rattle.lucy_kahn.specs.Numbers.{number}
use Rattle.lucy_kahn.proofs.Closed.{closed_at}
use Rattle.lucy_flat.specs.declared.draft.Draft.{Draft}
use Rattle.lucy_flat.specs.Instances.{IsSpotWord}
use Rattle.lucy_flat.specs.Clocked.{AreClocked}
use Rattle.lucy_flat.specs.Counts.{HasSmallNet}
use Rattle.lucy_flat.specs.Extents.{ring_bits}
use Rattle.lucy_flat.specs.Refusals.{IsMergeTooLong, net_bits}
use Rattle.lucy_flat.specs.Drafts.{AreDrafts, draft_bits}
use Rattle.lucy_flat.specs.Assembly.{reads_count, IsReadOn, IsReadTooLong, ReadsTooLong, IsRingOf, AreRingsOf, AreRingsSoFar, IsFiring, AreReadyDrafts, IsAssembled, IsNetPast}
use Rattle.lucy_flat.proofs.AssemblyLaws.{present, ring_is, rings_none, so_far_none, so_far_more, so_far_all}
use Rattle.lucy_flat.proofs.ExtentLaws.{sum_take}
use Rattle.lucy_flat.proofs.SpotWords.{Feeds, feeds, spot_same}
use Rattle.lucy_flat.proofs.RingWords.{ReadsBy, made_form}
use Rattle.lucy_flat.proofs.FlatLaws.{standing, which, ready, read_long}
use Rattle.lucy_flat.proofs.NetLaws.{words_bits}
use Rattle.lucy_flat.proofs.HeldLaws.{words_stored, net_of, is_assembled, net_stored}
use Rattle.lucy_flat.proofs.KeptLaws.{stored_at}
use Rattle.lucy_flat.proofs.ReadLaws.{sampling_read}

-- the word on which a form takes an operand is that of the operand, or its own
feeds_read : (path : List ℕ) (place : ℕ) (kind : PlaceKind) (k : ℕ) (write own : Bits) → Feeds kind k write own → IsStored write → IsStored own → (read : Bits) × ReadsBy (spot_form (at path place) kind) k own write read × IsStored read
feeds_read [] place place_kind.Param k write own feeds w o = (own, refl, o)
feeds_read (call ∷ path) place place_kind.Param k write own feeds w o = (own, refl, o)
feeds_read path place (place_kind.Defined e) k write own feeds w o = (own, refl, o)
feeds_read path place (place_kind.Lit l) k write own feeds w o = (own, refl, o)
feeds_read path place (place_kind.Op op args) k write own feeds w o = (own, refl, o)
feeds_read path place (place_kind.Host op a b) k write own feeds w o = (own, refl, o)
feeds_read path place (place_kind.When e p) k write own feeds w o = (write, refl, w)
feeds_read path place (place_kind.Merge p a b) zero write own feeds w o = (write, feeds, w)
feeds_read path place (place_kind.Merge p a b) (suc k) write own feeds w o = (write, feeds, w)
feeds_read path place (place_kind.Fby l e) k write own feeds w o = (own, refl, o)
feeds_read path place (place_kind.Buffer n e) k write own feeds w o = (own, refl, o)
feeds_read path place (place_kind.Result c j) k write own feeds w o = (own, refl, o)

reads_form : (kind : ActorKind) (k : ℕ) (own write word : Bits) → ReadsBy (plans.form_of kind) k own write word → IsReadOn kind k own write word
reads_form (Input x) k own write word is = is
reads_form (Lit v) k own write word is = is
reads_form (Op op) k own write word is = is
reads_form (Host op) k own write word is = is
reads_form (When p) k own write word is = is
reads_form (Merge p) zero own write word is = is
reads_form (Merge p) (suc k) own write word is = is
reads_form (Fby v) k own write word is = is
reads_form Pass k own write word is = is
reads_form (Output x) k own write word is = is

-- an actor fires on its draft's word, or is a sampling
firing_own : (kind : ActorKind) (own : Bits) (rings : List RingSpec) (first : ℕ) (firing : Bits) → IsFiring kind own (slice_get rings first) firing → (firing ≡ own) ⊎ ((p : Bits) × (kind ≡ When p))
firing_own (Input x) own rings first firing is = inl is
firing_own (Lit v) own rings first firing is = inl is
firing_own (Op op) own rings first firing is = inl is
firing_own (Host op) own rings first firing is = inl is
firing_own (When p) own rings first firing is = inr (p, refl)
firing_own (Merge p) own rings first firing is = inl is
firing_own (Fby v) own rings first firing is = inl is
firing_own Pass own rings first firing is = inl is
firing_own (Output x) own rings first firing is = inl is

-- the bits that are written on the rings from an actor
abbrev given_bits : List RingSpec → ℕ → ℕ
given_bits [] a = 0
given_bits (ring ∷ rings) a = cond (nat_eq ring.from a) (bit_count ring.write) 0 + given_bits rings a

abbrev sum_to : (ℕ → ℕ) → ℕ → ℕ
sum_to f zero = 0
sum_to f (suc n) = sum_to f n + f n

here_none : (from w n : ℕ) → n ≤ from → sum_to (λ a. cond (nat_eq from a) w 0) n ≡ 0
here_none from w zero l = refl
here_none from w (suc n) l =
    let e : cond (nat_eq from n) w 0 ≡ 0 = ap (λ b. cond b w 0) (ne_eqb from n (λ same. absurd (omega (arith, l, same)))) in
    let rest = here_none from w n (omega (arith, l)) in
    omega arith

here_most : (from w n : ℕ) → sum_to (λ a. cond (nat_eq from a) w 0) n ≤ w
here_most from w zero = omega arith
here_most from w (suc n) =
    elim (cases_eq from n) [
      | inl same ↦
          let e : cond (nat_eq from n) w 0 ≡ w = ap (λ b. cond b w 0) (eq-eqb from n same) in
          let none = here_none from w n (omega (arith, same)) in
          omega arith
      | inr other ↦
          let e : cond (nat_eq from n) w 0 ≡ 0 = ap (λ b. cond b w 0) (ne_eqb from n other) in
          let rest = here_most from w n in
          omega arith
    ]

given_none : (n : ℕ) → sum_to (given_bits []) n ≡ 0
given_none zero = refl
given_none (suc n) = let rest = given_none n in omega arith

given_split : (ring : RingSpec) (rings : List RingSpec) (n : ℕ) → sum_to (given_bits (ring ∷ rings)) n ≡ sum_to (λ a. cond (nat_eq ring.from a) (bit_count ring.write) 0) n + sum_to (given_bits rings) n
given_split ring rings zero = refl
given_split ring rings (suc n) = let rest = given_split ring rings n in omega arith

given_most : (rings : List RingSpec) (n : ℕ) → sum_to (given_bits rings) n ≤ sum_by ring_bits rings
given_most [] n = let none = given_none n in omega arith
given_most (ring ∷ rings) n =
    let split = given_split ring rings n in
    let here = here_most ring.from (bit_count ring.write) n in
    let rest = given_most rings n in
    let sum = sum_by-cons ring_bits ring rings in
    omega arith

given_here : (rings : List RingSpec) (r a : ℕ) (ring : RingSpec) → slice_get rings r ≡ Some ring → ring.from ≡ a → bit_count ring.write ≤ given_bits rings a
given_here [] r a ring e from = absurd (cc e)
given_here (x ∷ rings) zero a ring e from =
    let same : x ≡ ring = same_Some x ring e in
    let from_x : x.from ≡ a = ap (λ (t : RingSpec). t.from) same ∙ from in
    let bits : bit_count x.write ≡ bit_count ring.write = ap (λ (t : RingSpec). bit_count t.write) same in
    let here : cond (nat_eq x.from a) (bit_count x.write) 0 ≡ bit_count x.write = ap (λ b. cond b (bit_count x.write) 0) (eq-eqb x.from a from_x) in
    omega arith
given_here (x ∷ rings) (suc r) a ring e from = let rest = given_here rings r a ring e from in omega arith

module _ (nodes : List PlacedNode) (clocks : List NodeClock) (proper : AreProper nodes) (clocked : AreClocked nodes clocks) (drafts : List Draft) (are : AreDrafts nodes clocks drafts) where
  -- no merge takes on a word that is too long
  merges_fit : IsMergeTooLong nodes clocks → ⊥
  merges_fit long =
      let d = are.places long.spot (place_kind.Merge long.p long.a long.b) long.stands in
      let same : long.own ≡ d.0.word =
      shortest_one long.own d.0.word long.shortest d.2.shortest (period_some long.own long.is_word) (period_some d.0.word d.2.is_word) (spot_same nodes clocks long.spot long.own d.0.word long.is d.2.word) in
      elim long.too_long [
        | inl l ↦ d.2.fits (inl (subst (λ t. IsOnTooLong t long.p) same l))
        | inr r ↦ d.2.fits (inr (subst (λ t. IsOnTooLong t (turned long.p)) same r))
      ]

  reads_fit : IsReadTooLong drafts → ⊥
  reads_fit long = merges_fit (read_long nodes clocks proper clocked drafts are long)

  -- the bits of a draft's word are among those of its net
  module _ (net : Net) (is : IsAssembled drafts net) where
    word_within : (a : ℕ) (d : Draft) (actor : Actor) → slice_get drafts a ≡ Some d → (firing : (actor.firing ≡ d.word) ⊎ ((p : Bits) × (d.kind ≡ When p))) → draft_bits d ≤ bit_count actor.firing + given_bits net.rings a
    word_within a d actor e (inl own) = let same = ap bit_count own in omega arith
    word_within a d actor e (inr sampling) =
        let by = sampling_read nodes clocks proper clocked drafts are a d sampling.0 e sampling.1 in
        let ring = is.rings.each by.by by.operand a by.draft (slice_get_within drafts by.by by.draft by.there) by.there by.reads in
        let giver : ring.2.giver ≡ d = same_Some ring.2.giver d (sym ring.2.gives ∙ e) in
        let bits : bit_count ring.0.write ≡ draft_bits d = ap bit_count ring.2.write ∙ ap draft_bits giver in
        let here = given_here net.rings _ a ring.0 ring.1 ring.2.from in
        omega arith

    words_front : (n : ℕ) → n ≤ length drafts → sum_by draft_bits (take n drafts) ≤ sum_by (λ (x : Actor). bit_count x.firing) (take n net.actors) + sum_to (given_bits net.rings) n
    words_front zero l = omega arith
    words_front (suc n) l =
        let rest = words_front n (omega (arith, l)) in
        let d = get_there drafts n (omega (arith, l)) in
        let own = is.actors n d.0 d.1 in
        let here = word_within n d.0 own.0 d.1 (firing_own d.0.kind d.0.word net.rings _ own.0.firing own.2.firing) in
        let s : n + 1 ≡ suc n = omega arith in
        let words = ap (λ k. sum_by draft_bits (take k drafts)) (sym s) ∙ sum_take draft_bits drafts n d.0 d.1 in
        let firings = ap (λ k. sum_by (λ (x : Actor). bit_count x.firing) (take k net.actors)) (sym s) ∙ sum_take (λ (x : Actor). bit_count x.firing) net.actors n own.0 own.1 in
        omega arith

    words_within : sum_by draft_bits drafts ≤ net_bits net
    words_within =
        let front = words_front (length drafts) (omega arith) in
        let rings = given_most net.rings (length drafts) in
        let bits = words_bits net in
        let all = ap (sum_by draft_bits) (take_all (length drafts) drafts (omega arith)) in
        let count = is.count in
        let actors = ap (sum_by (λ (x : Actor). bit_count x.firing)) (take_all (length drafts) net.actors (omega arith)) in
        omega arith

  module _ (small : HasSmallNet nodes clocks) (stored : All (λ (draft : Draft). IsStored draft.word) drafts) where
    -- the word on which a draft takes an operand
    read_there : (a k source : ℕ) (d giver : Draft) → slice_get drafts a ≡ Some d → slice_get d.reads.items k ≡ Some source → slice_get drafts source ≡ Some giver → (read : Bits) × IsReadOn d.kind k d.word giver.word read × IsStored read
    read_there a k source d giver e f g =
        elim (which nodes clocks proper clocked drafts are a d e) [
          | inl l ↦
              let st = standing nodes l.spot l.kind l.stands in
              let read = map_from (number nodes) (spot_reads nodes l.spot l.kind) k source (ap (λ t. slice_get t k) (sym l.made.reads) ∙ f) in
              let inside = all_at (IsSpot nodes) (spot_reads nodes l.spot l.kind) k read.0 (closed_at nodes proper l.spot l.kind l.stands) read.1 in
              let own = are.places read.0 inside.0 inside.1 in
              let same : own.0 ≡ giver = same_Some own.0 giver (sym own.1 ∙ ap (slice_get drafts) read.2 ∙ g) in
              let word : IsSpotWord nodes clocks read.0 giver.word = subst (λ (t : Draft). IsSpotWord nodes clocks read.0 t.word) same own.2.word in
              let fed = feeds nodes clocks proper clocked l.spot.path st.node l.spot.place l.kind st.found st.stands k read.0 giver.word d.word read.1 word l.made.word in
              let by = feeds_read l.spot.path l.spot.place l.kind k giver.word d.word fed (stored_at drafts stored source giver g) (stored_at drafts stored a d e) in
              (by.0, reads_form d.kind k d.word giver.word by.0 (subst (λ t. ReadsBy t k d.word giver.word by.0) (sym (made_form l.made)) by.1), by.2)
          | inr r ↦
              let kind_is : d.kind ≡ Output r.i = ap (λ (t : Draft). t.kind) (sym r.same) ∙ r.out.kind in
              (d.word, subst (λ t. IsReadOn t k d.word giver.word d.word) (sym kind_is) refl, stored_at drafts stored a d e)
        ]

    drafts_ready : AreReadyDrafts drafts
    drafts_ready = ready nodes clocks proper clocked drafts are small

    record IsRingThere (a k : ℕ) : Type 0 where
      pub ring : RingSpec
      pub is : (from : ℕ) (draft : Draft) → slice_get drafts a ≡ Some draft → slice_get draft.reads.items k ≡ Some from → IsRingOf drafts a k from draft ring
      pub write : IsStored ring.write
      pub read : IsStored ring.read

    -- the ring of an operand
    ring_there : (a k : ℕ) (d : Draft) → slice_get drafts a ≡ Some d → k < reads_count d → IsRingThere a k
    ring_there a k d e l =
        let source : ℕ = get_or d.reads.items k 0 in
        let got : slice_get d.reads.items k ≡ Some source = present d.reads.items k l in
        let giver = get_there drafts source (drafts_ready.reads a k source d e got) in
        let read = read_there a k source d giver.0 e got giver.1 in
        let fits : ReadsTooLong d.kind k d.word → ⊥ = λ long. reads_fit (record { a = a; draft = d; there = e; operand = k; within = l; too_long = long }) in
        record {
          ring = record { from = source; to = a; write = giver.0.word; read = read.0; size = d.size };
          is = λ from draft f g. ring_is drafts a k d giver.0 draft source from giver.0.word read.0 e got giver.1 refl read.1 read.2.shortest fits f g;
          write = stored_at drafts stored source giver.0 giver.1;
          read = read.2;
        }

    rings_front : (a : ℕ) (d : Draft) → slice_get drafts a ≡ Some d → (rings : List RingSpec) → AreRingsOf drafts a rings → All IsStored (ring_words rings) → (upto : ℕ) → upto ≤ reads_count d →
        (more : List RingSpec) × AreRingsSoFar drafts a upto more × All IsStored (ring_words more)
    rings_front a d e rings of all zero l = (rings, so_far_none drafts a rings of, all)
    rings_front a d e rings of all (suc k) l =
        let before = rings_front a d e rings of all k (omega (arith, l)) in
        let next = ring_there a k d e (omega (arith, l)) in
        let s : k + 1 ≡ suc k = omega arith in (
          before.0 ++ next.ring ∷ [],
          subst (λ n. AreRingsSoFar drafts a n (before.0 ++ next.ring ∷ [])) s (so_far_more drafts a k before.0 next.ring before.1 next.is),
          words_stored before.0 next.ring before.2 next.write next.read,
        )

    rings_upto : (upto : ℕ) → upto ≤ length drafts → (rings : List RingSpec) × AreRingsOf drafts upto rings × All IsStored (ring_words rings)
    rings_upto zero l = ([], rings_none drafts, All-nil IsStored)
    rings_upto (suc a) l =
        let before = rings_upto a (omega (arith, l)) in
        let d = get_there drafts a (omega (arith, l)) in
        let more = rings_front a d.0 d.1 before.0 before.1 before.2 (reads_count d.0) (omega arith) in
        let s : a + 1 ≡ suc a = omega arith in
        (more.0, subst (λ n. AreRingsOf drafts n more.0) s (so_far_all drafts a d.0 more.0 d.1 more.1), more.2)

    pub drafts_past : limit_number limit.Bits < sum_by draft_bits drafts → IsNetPast drafts
    drafts_past past =
        let rings = rings_upto (length drafts) (omega arith) in
        let net : Net = net_of drafts rings.0 in
        let is : IsAssembled drafts net = is_assembled drafts rings.0 drafts_ready rings.1 in
        let within = words_within net is in
        record { net = net; is = is; stored = net_stored drafts rings.0 rings.2 (stored_at drafts stored); fits = reads_fit; past = omega arith }
