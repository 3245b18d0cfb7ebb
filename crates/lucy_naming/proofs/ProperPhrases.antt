-- The places, buffers and calls of expressions and of definitions: their numbers name what they should.
use Rattle.std.proofs.Common.{◌≡◌, ◌+◌, ◌≤◌, ◌<◌, ℕ, suc, List, [], ◌∷◌, ◌++◌, length, Some, refl, subst, arith}
use Rattle.std.specs.List.{AllByRecursion}
use Rattle.lucy_word.proofs.Lists.{front_empty, back_empty}
use Rattle.lucy_tree.specs.declared.decl.Decl.{Decl}
use Rattle.lucy_tree.specs.Tree.{Tree, literal, variable, operator, host, sampled, merged, followed, buffered, call}
use Rattle.lucy_tree.specs.View.{DefTree}
use Rattle.lucy_tree.specs.Shaped.{IsCall, Defines, IsShapedDef}
use Rattle.lucy_place.specs.declared.entry.PlaceEntry.{PlaceEntry}
use Rattle.lucy_place.specs.declared.entry.PlaceKind.TheVariants as kind
use Rattle.lucy_place.specs.declared.placed.PlacedNode.{PlacedNode}
use Rattle.lucy_naming.specs.Streams.{result_count}
use Rattle.lucy_naming.specs.Phrases.{Called, Phrase, Phrases, name, headed, none, and, phrase_of, count, phrases_of}
use Rattle.lucy_naming.specs.Faults.{Within, head_faults, phrase_faults, phrases_faults, def_faults}
use Rattle.lucy_naming.specs.Numbering.{Next, past, inside, number, numbers, entries, all_entries, own_entries}
use Rattle.lucy_naming.specs.Places.{Known, unnamed, results_from, left_entries}
use Rattle.lucy_naming.specs.Nodes.{past_def, defined, rights}
use Rattle.lucy_place.specs.Proper.{at_one, IsPlace, ArePlaces}
use Rattle.lucy_place.proofs.NodeLaws.{named_place}
use Rattle.lucy_naming.proofs.EachLaws.{Each, each_join, each_front, each_at}
use Rattle.lucy_naming.proofs.Spread.{Call, Reaches, spread_join, spread_front, spread_back}
use Rattle.lucy_naming.proofs.CallLaws.{made, all_made, own_made, def_made, reaches_own, reaches_phrase}
use Rattle.lucy_naming.proofs.ShapeLaws.{Takes, HasShape, HaveShape, has_shape, count_numbers}
use Rattle.lucy_naming.proofs.RoomLaws.{some_results, length_lefts}
use Rattle.lucy_naming.proofs.Good.{known_of, Lies, GoodPlace, GoodBuffer, GoodCall, Good, Setting, is_place}
use Rattle.lucy_naming.proofs.OwnPlaces.{unless_holds, slice_results, own_good}

module _ (n : PlacedNode) (cs : List Call) (at to : Next) (es fs : List PlaceEntry) (xs ys : List Call) (reach : Reaches at to es xs) where
  pub lies_front : Lies n cs at (es ++ fs) (xs ++ ys) → Lies n cs at es xs
  lies_front = spread_front (λ p e. at_one n.places p ≡ Some e) (λ b p. at_one n.buffers b ≡ Some p) (λ c x. at_one cs c ≡ Some x) at to es fs xs ys reach

  pub lies_back : Lies n cs at (es ++ fs) (xs ++ ys) → Lies n cs to fs ys
  lies_back = spread_back (λ p e. at_one n.places p ≡ Some e) (λ b p. at_one n.buffers b ≡ Some p) (λ c x. at_one cs c ≡ Some x) at to es fs xs ys reach

  pub good_join : (above : List PlacedNode) → Good above n cs at es xs → Good above n cs to fs ys → Good above n cs at (es ++ fs) (xs ++ ys)
  good_join above = spread_join (GoodPlace n cs) (GoodBuffer n) (GoodCall above n) at to es fs xs ys reach

module _ (w : Within) (above : List PlacedNode) (n : PlacedNode) (cs : List Call) (set : Setting w above n cs) where
  abbrev k : Known
  k = known_of w

  pub record GoodPhrase (at : Next) (r : ℕ) (f : Phrase) : Type 0 where
    pub number : IsPlace n (number k at f)
    pub good : Good above n cs at (entries k at r f) (made k at r f)

  pub record GoodPhrases (at : Next) (fs : Phrases) : Type 0 where
    pub numbers : ArePlaces n (numbers k at fs)
    pub good : Good above n cs at (all_entries k at fs) (all_made k at fs)

  mutual
    pub phrase_good : (at : Next) (r : ℕ) (f : Phrase) → 1 ≤ r → n.params < at.place → HasShape f → phrase_faults w r f ≡ [] →
        Lies n cs at (entries k at r f) (made k at r f) → GoodPhrase at r f
    phrase_good at r (name t) some low shape good lies = record {
      number = named_place n (number k at (name t)) (set.known t.text (unless_holds _ _ good));
      good = record { places = tt; buffers = tt; calls = tt };
    }
    phrase_good at r (headed h span fs) some low shape good lies =
        let in_ : Next = inside at r h in
        let args : List ℕ = numbers k in_ fs in
        let same : count fs ≡ length args = count_numbers k in_ fs in
        let front = lies_front n cs at in_ (own_entries k at r h args) (all_entries k in_ fs) (own_made k at r h args) (all_made k in_ fs) (reaches_own k at r h args) lies in
        let back = lies_back n cs at in_ (own_entries k at r h args) (all_entries k in_ fs) (own_made k at r h args) (all_made k in_ fs) (reaches_own k at r h args) lies in
        let rest = all_good in_ fs (omega (arith, low)) shape.1 (back_empty (head_faults w r (count fs) h) (phrases_faults w fs) good) back in
        let own = own_good w above n cs set at r h args some low (subst (Takes h) same shape.0) rest.numbers
        (subst (λ m. head_faults w r m h ≡ []) same (front_empty (head_faults w r (count fs) h) (phrases_faults w fs) good)) front in
        record {
          number = own.first;
          good = good_join n cs at in_ (own_entries k at r h args) (all_entries k in_ fs) (own_made k at r h args) (all_made k in_ fs) (reaches_own k at r h args) above own.good rest.good;
        }

    pub all_good : (at : Next) (fs : Phrases) → n.params < at.place → HaveShape fs → phrases_faults w fs ≡ [] → Lies n cs at (all_entries k at fs) (all_made k at fs) → GoodPhrases at fs
    all_good at none low shape good lies = record { numbers = tt; good = record { places = tt; buffers = tt; calls = tt } }
    all_good at (and f fs) low shape good lies =
        let next : Next = past at 1 f in
        let front = lies_front n cs at next (entries k at 1 f) (all_entries k next fs) (made k at 1 f) (all_made k next fs) (reaches_phrase k at 1 f) lies in
        let back = lies_back n cs at next (entries k at 1 f) (all_entries k next fs) (made k at 1 f) (all_made k next fs) (reaches_phrase k at 1 f) lies in
        let first = phrase_good at 1 f (omega arith) low shape.0 (front_empty (phrase_faults w 1 f) (phrases_faults w fs) good) front in
        let rest = all_good next fs (omega (arith, low)) shape.1 (back_empty (phrase_faults w 1 f) (phrases_faults w fs) good) back in
        record {
          numbers = (first.number, rest.numbers);
          good = good_join n cs at next (entries k at 1 f) (all_entries k next fs) (made k at 1 f) (all_made k next fs) (reaches_phrase k at 1 f) above first.good rest.good;
        }

  -- the results of a call on a right side
  call_numbers : (at : Next) (r : ℕ) (t : Tree) → IsCall t → Lies n cs at (entries k at r (phrase_of t)) (made k at r (phrase_of t)) → (j : ℕ) → j < r → IsPlace n (number k at (phrase_of t) + j)
  call_numbers at r (literal l span) c lies j h = absurd c
  call_numbers at r (variable t) c lies j h = absurd c
  call_numbers at r (operator o args span) c lies j h = absurd c
  call_numbers at r (host t args) c lies j h = absurd c
  call_numbers at r (sampled flip e p) c lies j h = absurd c
  call_numbers at r (merged p a b span) c lies j h = absurd c
  call_numbers at r (followed l e span) c lies j h = absurd c
  call_numbers at r (buffered most e span) c lies j h = absurd c
  call_numbers at r (call t base args) c lies j h =
      let in_ : Next = inside at r (Called t base) in
      let own = each_front (λ p e. at_one n.places p ≡ Some e) at.place (results_from at.call 0 r) (all_entries k in_ (phrases_of args)) lies.places in
      is_place n (at.place + j) (unnamed (kind.Result at.call (0 + j)))
      (each_at (λ p e. at_one n.places p ≡ Some e) at.place (results_from at.call 0 r) j (at.place + j) (unnamed (kind.Result at.call (0 + j))) refl (slice_results at.call 0 r j h) own)

  left_numbers : (at : Next) (left : List Decl) (t : Tree) → Defines left t → IsPlace n (number k at (phrase_of t)) → Lies n cs at (entries k at (result_count left) (phrase_of t)) (made k at (result_count left) (phrase_of t)) →
      (j : ℕ) → j < length left → IsPlace n (number k at (phrase_of t) + j)
  left_numbers at [] t d first lies j h = absurd d
  left_numbers at (a ∷ []) t d first lies j h = let e : number k at (phrase_of t) ≡ number k at (phrase_of t) + j = omega (arith, h) in subst (IsPlace n) e first
  left_numbers at (a ∷ b ∷ left) t d first lies j h = call_numbers at (length (a ∷ b ∷ left)) t d lies j h

  left_good : (right from : ℕ) (left : List Decl) → n.params < from → ((j : ℕ) → j < length left → IsPlace n (right + j)) → Each (GoodPlace n cs) from (left_entries right left)
  left_good right from [] low places = tt
  left_good right from (d ∷ left) low places =
      let e : right + 0 ≡ right = omega arith in (
        record { label = (d.name, refl); kind = (low, subst (IsPlace n) e (places 0 (omega arith))); result = tt },
        left_good (right + 1) (from + 1) left (omega (arith, low))
            (λ j h. let f : right + suc j ≡ right + 1 + j = omega arith in subst (IsPlace n) f (places (suc j) (omega (arith, h)))),
      )

  pub record GoodDefs (at : Next) (ds : List DefTree) : Type 0 where
    pub rights : Good above n cs at (rights k at ds) (def_made k at ds)
    pub defined : (from : ℕ) → n.params < from → Each (GoodPlace n cs) from (defined k at ds)

  pub defs_good : (at : Next) (ds : List DefTree) → n.params < at.place → AllByRecursion IsShapedDef ds → def_faults w ds ≡ [] → Lies n cs at (rights k at ds) (def_made k at ds) → GoodDefs at ds
  defs_good at [] low shape good lies = record { rights = record { places = tt; buffers = tt; calls = tt }; defined = λ from l. tt }
  defs_good at (d ∷ ds) low shape good lies =
      let r : ℕ = result_count d.left in
      let f : Phrase = phrase_of d.right in
      let next : Next = past_def at d in
      let front = lies_front n cs at next (entries k at r f) (rights k next ds) (made k at r f) (def_made k next ds) (reaches_phrase k at r f) lies in
      let back = lies_back n cs at next (entries k at r f) (rights k next ds) (made k at r f) (def_made k next ds) (reaches_phrase k at r f) lies in
      let first = phrase_good at r f (some_results d.left) low (has_shape d.right shape.0.right) (front_empty (phrase_faults w r f) (def_faults w ds) good) front in
      let rest = defs_good next ds (omega (arith, low)) shape.1 (back_empty (phrase_faults w r f) (def_faults w ds) good) back in
      record {
        rights = good_join n cs at next (entries k at r f) (rights k next ds) (made k at r f) (def_made k next ds) (reaches_phrase k at r f) above first.good rest.rights;
        defined = λ from l.
            each_join (GoodPlace n cs) from (from + length d.left) (left_entries (number k at f) d.left) (defined k next ds)
            (let e = length_lefts (number k at f) d.left in omega (arith, e))
            (left_good (number k at f) from d.left l (left_numbers at d.left d.right shape.0.defines first.number front))
            (rest.defined (from + length d.left) (omega (arith, l)));
      }
