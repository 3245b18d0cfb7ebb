-- The words of a written node, its calls' bases among them.
use Rattle.std.proofs.Common.{ℕ, zero, suc, ◌+◌, ◌^◌, ◌<◌, ◌≤◌, ◌≡◌, List, [], ◌∷◌, ◌++◌, Some, None, length, get_or, take, ap, sym, refl, ◌∙◌, subst, arith, append_assoc, length-append}
use Rattle.std.specs.Prelude.{slice_get}
use Rattle.std.specs.Option.{option_map_or}
use Rattle.std.proofs.lemmas.List.{take_more, map-append, length-map}
use Rattle.std.proofs.lemmas.List.Sums.{sum_by-cons, sum_by-append}
use Rattle.std.proofs.lemmas.Option.{same_Some, slice_get_read, slice_get_within, slice_get-get_or, get_or_from_slice_get}
use Rattle.lucy_word.specs.Bits.{Bits, bit_count}
use Rattle.std.specs.List.{AllByRecursion}
use Rattle.lucy_word.specs.Shortest.{Same}
use Rattle.lucy_word.specs.Stored.{IsStored}
use Rattle.lucy_word.specs.Always.{always}
use Rattle.lucy_word.proofs.Lists.{all_join}
use Rattle.lucy_tree.specs.declared.span.Name.{Name}
use Rattle.lucy_place.specs.declared.entry.PlaceEntry.{PlaceEntry}
use Rattle.lucy_place.specs.declared.entry.PlaceKind.{PlaceKind}
use Rattle.lucy_place.specs.declared.entry.PlaceKind.TheVariants.{Param, Defined, Merge}
use Rattle.lucy_place.specs.declared.entry.CallSite.{CallSite}
use Rattle.lucy_place.specs.declared.placed.PlacedNode.{PlacedNode}
use Rattle.lucy_place.specs.Proper.{at_one, IsLabelled, IsProperKind, IsProperNode}
use Rattle.lucy_place.specs.WrittenNodes.{IsWritten}
use Rattle.lucy_need.specs.Meeting.{assigned, word_bits}
use Rattle.lucy_clock.specs.Clocks.{clocks_of, call_clock}
use Rattle.lucy_clock.specs.HandedDown.{AreHandedWords, AreWordsOf, Hands}
use Rattle.lucy_clock.specs.Reading.{AreHandedSoFar, AreLabelled, AreReadersUpto, CanHandDown, HasTurned, HaveBases, base_word, base_words}

-- in a proper node only places with names have words
label_named : (kind : PlaceKind) (entry : PlaceEntry) (word : Bits) → IsLabelled kind entry → entry.word ≡ Some word → (name : Name) × (entry.name ≡ Some name)
label_named Param entry word l e = l
label_named (Defined x) entry word l e = l
label_named kind entry word l e = absurd (let f : None ≡ Some word = sym l.2 ∙ e in cc f)

pub labelled : (nodes : List PlacedNode) (n : PlacedNode) → IsProperNode nodes n → AreLabelled n
labelled nodes n proper p entry word here e = let l = label_named entry.kind entry word (proper.labels p entry here) e in (entry, l.0, here, l.1)

-- so that words can be handed down in it, where it is written
kind_turned : (n : PlacedNode) (p : ℕ) (kind : PlaceKind) → IsProperKind n p kind → HasTurned kind
kind_turned n p (Merge word a b) proper = proper.1
kind_turned n p kind proper = tt

pub can_hand_down : (nodes : List PlacedNode) (n : PlacedNode) (readers : List ℕ) → IsProperNode nodes n → IsWritten n → length n.places < 2 ^ 32 → AreReadersUpto n (length n.places) readers →
    length readers ≡ length n.places → CanHandDown n readers
can_hand_down nodes n readers proper is_written few are all = record {
  few = few;
  beside = are;
  all = all;
  turned = λ p entry here. kind_turned n p entry.kind (proper.kinds p entry here);
  labels = labelled nodes n proper;
  written = is_written;
  once = proper.once;
}

pub bases_of : (n : PlacedNode) → IsWritten n → HaveBases n.calls
bases_of n is_written i site e = is_written.bases (suc i) site e

-- one of them alone
pub base_alone : (sites : List CallSite) (k : ℕ) (site : CallSite) → k < length sites → site ≡ get_or sites k site → HaveBases sites → HaveBases (site ∷ [])
base_alone sites k site l is bases zero s e = bases k s (slice_get_read sites (length sites) k site refl l is ∙ e)
base_alone sites k site l is bases (suc i) s e = absurd (cc)

-- the bits of one word more
pub bits_push : (words : List Bits) (next : Bits) → word_bits (words ++ next ∷ []) ≡ word_bits words + bit_count next
bits_push words next =
    let a = sum_by-append bit_count words (next ∷ []) in
    let b = sum_by-cons bit_count next [] in
    omega arith

-- the word of a base, and one base more
pub base_is : (site : CallSite) (word : Bits) → site.at ≡ Some word → base_word site ≡ word
base_is site word e = ap (λ o. option_map_or (λ (w : Bits). w) o always) e

module _ (sites : List CallSite) (i : ℕ) (site : CallSite) (word : Bits) (l : i < length sites) (at : site ≡ get_or sites i site) (is : site.at ≡ Some word) where
  bases_next : base_words (take (i + 1) sites) ≡ base_words (take i sites) ++ word ∷ []
  bases_next =
      ap base_words (take_more sites i site l ∙ ap (λ x. take i sites ++ x ∷ []) (sym at)) ∙ map-append base_word (take i sites) (site ∷ [])
      ∙ ap (λ w. base_words (take i sites) ++ w ∷ []) (base_is site word is)

  pub bases_push : (old mid new : List Bits) → mid ≡ old ++ base_words (take i sites) → new ≡ mid ++ word ∷ [] → new ≡ old ++ base_words (take (i + 1) sites)
  bases_push old mid new m e =
      e ∙ ap (λ t. t ++ word ∷ []) m ∙ append_assoc old (base_words (take i sites)) (word ∷ []) ∙ ap (λ t. old ++ t) (sym bases_next)

-- the words of the bases behind others
record HasBases (old new : List Bits) (sites : List CallSite) : Type 0 where
  count : length new ≡ length old + length sites
  kept : (i : ℕ) → i < length old → slice_get new i ≡ slice_get old i
  stored : AllByRecursion IsStored old → AllByRecursion IsStored new
  bases : (i : ℕ) (site : CallSite) → slice_get sites i ≡ Some site → slice_get new (length old + i) ≡ site.at

get_front : (xs ys : List Bits) (i : ℕ) → i < length xs → slice_get (xs ++ ys) i ≡ slice_get xs i
get_front [] ys i l = absurd (omega (arith, l))
get_front (x ∷ xs) ys zero l = refl
get_front (x ∷ xs) ys (suc i) l = get_front xs ys i (omega (arith, l))

get_behind : (xs ys : List Bits) (i : ℕ) → slice_get (xs ++ ys) (length xs + i) ≡ slice_get ys i
get_behind [] ys i = let z : 0 + i ≡ i = omega arith in ap (λ k. slice_get ys k) z
get_behind (x ∷ xs) ys i =
    let z : suc (length xs) + i ≡ suc (length xs + i) = omega arith in
    ap (λ k. slice_get (x ∷ (xs ++ ys)) k) z ∙ get_behind xs ys i

get_base : (sites : List CallSite) → HaveBases sites → (i : ℕ) (site : CallSite) → slice_get sites i ≡ Some site → slice_get (base_words sites) i ≡ site.at
get_base [] have i site e = absurd (cc e)
get_base (s ∷ sites) have zero site e =
    let word = have 0 s refl in
    ap (λ w. Some w) (base_is s word.0 word.1) ∙ sym word.1 ∙ ap (λ (x : CallSite). x.at) (same_Some s site e)
get_base (s ∷ sites) have (suc i) site e = get_base sites (λ j other f. have (suc j) other f) i site e

bases_behind : (old : List Bits) (sites : List CallSite) → HaveBases sites → AllByRecursion IsStored (base_words sites) → HasBases old (old ++ base_words sites) sites
bases_behind old sites have stored = record {
  count = (let a = length-append old (base_words sites) in let b = length-map sites base_word in omega arith);
  kept = λ i l. get_front old (base_words sites) i l;
  stored = λ all. all_join IsStored old (base_words sites) all stored;
  bases = λ i site e. get_behind old (base_words sites) i ∙ get_base sites have i site e;
}

-- all words of a written node
module _ (n : PlacedNode) (is_written : IsWritten n) (old new : List Bits) (far : AreHandedSoFar n (length n.places) old) (stored : AllByRecursion IsStored (base_words n.calls)) (e : new ≡ old ++ base_words n.calls) where
  has : HasBases old new n.calls
  has = subst (λ ws. HasBases old ws n.calls) (sym e) (bases_behind old n.calls (bases_of n is_written) stored)

  same_word : (p : ℕ) → p ≤ length n.places → assigned old p ≡ assigned new p
  same_word p l =
      let c = far.count in
      let h : p < length old = omega arith in
      sym (get_or_from_slice_get new p (assigned old p) always (has.kept p h ∙ slice_get-get_or old p always h))

  one_most : (p : ℕ) (entry : PlaceEntry) → at_one n.places p ≡ Some entry → p ≤ length n.places
  one_most zero entry e = absurd (cc e)
  one_most (suc i) entry e = let l = slice_get_within n.places i entry e in omega arith

  pub all_count : length new ≡ clocks_of n
  all_count = let c = far.count in let d = has.count in omega arith

  base_at : (call : ℕ) (site : CallSite) (word : Bits) → at_one n.calls call ≡ Some site → site.at ≡ Some word → Same (assigned new (call_clock n call)) word
  base_at zero site word e f = absurd (cc e)
  base_at (suc i) site word e f =
      let c = far.count in
      let z : length old + i ≡ length n.places + suc i = omega arith in
      let g : assigned new (length n.places + suc i) ≡ word = ap (assigned new) (sym z) ∙ get_or_from_slice_get new (length old + i) word always (has.bases i site e ∙ f) in
      subst (λ w. Same w word) (sym g) (λ j h. refl)

  pub all_handed : AreHandedWords n (assigned new)
  all_handed = record {
    places = record {
      base = subst (λ w. Same w always) (same_word 0 (omega arith)) far.handed.base;
      named = λ p entry word l here f. subst (λ w. Same w word) (same_word p l) (far.handed.named p entry word l here f);
      passed = λ p k q l un reads.
          subst (λ w. Hands reads.entry.kind k w (assigned new q)) (same_word p (one_most p reads.entry reads.stands))
          (subst (Hands reads.entry.kind k (assigned old p)) (same_word q l) (far.handed.passed p k q l un reads));
    };
    bases = base_at;
  }

  pub words_are : AreWordsOf n new
  words_are = record { count = all_count; stored = has.stored far.stored; handed = all_handed }
