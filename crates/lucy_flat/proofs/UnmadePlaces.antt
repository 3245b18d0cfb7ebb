-- A place whose words aren't too long has a draft, though none is made.
use Rattle.std.proofs.Common.{ℕ, ◌<◌, ◌≤◌, ◌≡◌, List, [], ◌∷◌, Some, Vec, Global, length, map, sym, refl, ◌∙◌, subst, inl, inr, arith}
use Rattle.std.proofs.lemmas.List.{length-map}
use Rattle.lucy_word.specs.Bits.{Bits, IsWord}
use Rattle.lucy_word.specs.Limits.{limit_number}
use Rattle.lucy_word.specs.declared.limit.Limit.TheVariants as limit
use Rattle.lucy_word.specs.Shortest.{IsShortest}
use Rattle.lucy_word.specs.Sampling.{IsOn, IsOnTooLong}
use Rattle.lucy_host.specs.Arity.{arity}
use Rattle.lucy_place.specs.declared.placed.PlacedNode.{PlacedNode}
use Rattle.lucy_place.specs.declared.entry.PlaceEntry.{PlaceEntry}
use Rattle.lucy_place.specs.declared.entry.PlaceKind.{PlaceKind}
use Rattle.lucy_place.specs.declared.entry.PlaceKind.TheVariants as place_kind
use Rattle.lucy_place.specs.Proper.{at_one, IsProperKind, AreProper}
use Rattle.lucy_net.specs.declared.kind.ActorKind.{ActorKind}
use Rattle.lucy_net.specs.declared.kind.ActorKind.TheVariants as actor_kind
use Rattle.lucy_net.proofs.StateLaws.{operands_few}
use Rattle.lucy_clock.specs.declared.node_clock.NodeClock.{NodeClock}
use Rattle.lucy_kahn.specs.Spots.{Spot, at, kind_at, spot_form, spot_reads}
use Rattle.lucy_kahn.specs.Numbers.{number}
use Rattle.lucy_flat.specs.declared.draft.Draft.{Draft}
use Rattle.lucy_flat.specs.declared.kept.Kept.{Kept}
use Rattle.lucy_flat.specs.declared.instance.Instance.{Instance}
use Rattle.lucy_flat.specs.Clocked.{AreClocked}
use Rattle.lucy_flat.specs.Extents.{size_in}
use Rattle.lucy_flat.specs.Flat.{actor_of}
use Rattle.lucy_flat.specs.Instances.{word_at}
use Rattle.lucy_flat.specs.Refusals.{NetWordIsTooLong}
use Rattle.lucy_flat.specs.Drafts.{HasTooLong, IsDraftMade, IsInstance, AreKept, IsPlaceKept}
use Rattle.lucy_flat.proofs.SpotWords.{clock_of, base_word}
use Rattle.lucy_flat.proofs.InstanceLaws.{found_at, kind_here, kind_is, made_here, fit_here, merge_here}
use Rattle.lucy_flat.proofs.KeptLaws.{kept_past}
use Rattle.lucy_clock.proofs.UnmadeLaws.{stored_on}
use Rattle.lucy_net.proofs.Steps.{le_same}

-- a place reads few others
pub reads_few : (nodes : List PlacedNode) (n : PlacedNode) (path : List ℕ) (place : ℕ) (kind : PlaceKind) → IsProperKind n place kind → length (spot_reads nodes (at path place) kind) ≤ 3
reads_few nodes n [] place place_kind.Param is = omega arith
reads_few nodes n (call ∷ path) place place_kind.Param is = omega arith
reads_few nodes n path place (place_kind.Defined e) is = omega arith
reads_few nodes n path place (place_kind.Lit l) is = omega arith
reads_few nodes n path place (place_kind.Op op args) is = let few : arity op ≤ 3 = operands_few (actor_kind.Op op) in omega (arith, length-map args (at path), is.1, few)
reads_few nodes n path place (place_kind.Host op a b) is = omega arith
reads_few nodes n path place (place_kind.When e p) is = omega arith
reads_few nodes n path place (place_kind.Merge p a b) is = omega arith
reads_few nodes n path place (place_kind.Fby l e) is = omega arith
reads_few nodes n path place (place_kind.Buffer k e) is = omega arith
reads_few nodes n path place (place_kind.Result c j) is = omega arith

pub few_small : (n : ℕ) → n ≤ 3 → n < 9223372036854775808
few_small n few = omega (arith, few)

-- numbers, as they would stand in memory where other things do
abbrev pub list_of : {X : Type 0} (there : Vec X Global) (numbers : List ℕ) → length numbers ≤ 3 → Vec ℕ Global
list_of there numbers few = record {
  ptr = there.ptr;
  len = length numbers;
  cap = length numbers;
  alloc = there.alloc;
  items = numbers;
  ok = (refl, le_same (length numbers));
  small = few_small (length numbers) few;
}

module _ (nodes : List PlacedNode) (clocks : List NodeClock) (proper : AreProper nodes) (clocked : AreClocked nodes clocks) (path : List ℕ) (of : Instance) (is : IsInstance nodes clocks path of) where
  -- the word of a place in its node is one
  place_word : (place : ℕ) (word : Bits) → place ≤ length of.node.now.places → word_at nodes clocks path place ≡ word → IsWord word
  place_word place word high same =
      let h = clock_of nodes clocks proper clocked path of.node.now (found_at nodes clocks proper path of is) in
      subst IsWord (sym (h.word place) ∙ same) (h.is.well.words place (omega (arith, high)))

  pub place_kept : IsShortest of.base.now → (place : ℕ) (entry : PlaceEntry) (word : Bits) (old : List Draft) (kept : Kept) → place ≤ length of.node.now.places → at_one of.node.now.places place ≡ Some entry →
      word_at nodes clocks path place ≡ word → (HasTooLong entry.kind of.base.now word → ⊥) → AreKept old kept → limit_number limit.Bits < kept.bits → IsPlaceKept nodes clocks path place old kept
  place_kept short place entry word old kept high stands same fits keeps past =
      let own = stored_on of.base.now word (base_word nodes clocks proper clocked path of.base.now is.at.is_base) (place_word place word high same) (λ long. fits (inl long)) in
      let on : IsOn of.base.now (word_at nodes clocks path place) own.0 = subst (λ t. IsOn of.base.now t own.0) (sym same) own.1 in
      let does : ActorKind = actor_of (spot_form (at path place) entry.kind) in
      let spots : List Spot = spot_reads nodes (at path place) entry.kind in
      let few : length spots ≤ 3 = reads_few nodes of.node.now path place entry.kind (kind_here nodes clocks proper path of is place entry.kind (entry, stands, refl)) in
      let count : length (map (number nodes) spots) ≡ length spots = length-map spots (number nodes) in
      let reads : Vec ℕ Global = list_of kept.drafts (map (number nodes) spots) (omega (arith, count, few)) in
      let gives : Vec ℕ Global = list_of kept.drafts [] (omega arith) in
      let size : ℕ = size_in of.clock.now.sizes entry.kind in
      let here : kind_at nodes (at path place) ≡ Some entry.kind = kind_is nodes clocks proper path of is place entry stands in
      let draft : Draft = record { kind = does; word = own.0; reads = reads; size = size; gives = gives } in
      let made : IsDraftMade nodes clocks (at path place) entry.kind draft =
      made_here nodes clocks proper path of is place entry entry.kind does own.0 reads gives size here stands refl on own.2.word own.2.shortest refl refl refl (λ long. fits (inr (own.0, own.1, own.2, long))) in
      record {
        draft = draft;
        is = record { kind = entry.kind; stands = here; made = made };
        fit = fit_here nodes clocks proper clocked path place of.base.now word is.at.is_base short same (λ long. fits (inl long));
        keeps = kept_past old kept kept draft keeps own.2 (omega arith) past refl;
      }

  -- one that has a word that is too long is why the program has no net
  pub place_long : IsShortest of.base.now → (place : ℕ) (entry : PlaceEntry) (word : Bits) → 1 ≤ place → place ≤ length of.node.now.places → at_one of.node.now.places place ≡ Some entry →
      word_at nodes clocks path place ≡ word → HasTooLong entry.kind of.base.now word → NetWordIsTooLong nodes clocks
  place_long short place entry word low high stands same long =
      elim long [
        | inl l ↦
            inl (record {
              path = path;
              clock = place;
              node = of.node.now;
              found = found_at nodes clocks proper path of is;
              low = low;
              high = omega (arith, high);
              base = of.base.now;
              is = is.at.is_base;
              shortest = short;
              too_long = subst (IsOnTooLong of.base.now) (sym same) l;
            })
        | inr r ↦
            inr (merge_here nodes clocks proper path of is place entry r.0 stands (subst (λ t. IsOn of.base.now t r.0) (sym same) r.1) r.2.word r.2.shortest r.3)
      ]
