-- A net with one output more, over its lists of actors and rings.
use Rattle.std.proofs.Common.{ℕ, suc, zero, ◌+◌, ◌-◌, ◌<◌, ◌≤◌, ◌≡◌, ◌≢◌, ◌⊎◌, List, [], ◌∷◌, ◌++◌, Some, length, map, drop, get_or, set, ap, sym, refl, ◌∙◌, inl, inr, append_assoc, arith}
use Rattle.std.specs.Prelude.{sum_by, slice_get, slice_index_or}
use Rattle.std.specs.List.{AllByRecursion, range_with_len}
use Rattle.std.proofs.lemmas.List.{append-nil, drop_more, length_push, drop_all}
use Rattle.std.proofs.lemmas.List.Sums.{sum_by_push}
use Rattle.std.proofs.lemmas.Option.{same_Some}
use Rattle.lucy_word.specs.Bits.{Bits}
use Rattle.lucy_word.proofs.Lists.{get_push, range_more}
use Rattle.lucy_host.proofs.Elements.{get_last}
use Rattle.lucy_net.specs.declared.kind.ActorKind.{ActorKind}
use Rattle.lucy_net.specs.declared.net.Actor.{Actor}
use Rattle.lucy_net.specs.declared.net.RingSpec.{RingSpec}
use Rattle.lucy_net.specs.declared.net.Net.{Net}
use Rattle.lucy_net.specs.Plans.{giver, taker}
use Rattle.lucy_net.specs.Proper.{input_of, output_of}
use Rattle.lucy_net.proofs.NumberedLaws.{numbers_of}
use Rattle.lucy_need.specs.Meeting.{Assignment}
use Rattle.lucy_wave.specs.Seen.{IsWithin}
use Rattle.lucy_wave.specs.Watching.{giving, give_at, output_on, ring_on, with_output, with_outputs}

-- one element more, at the end
pub push_get : {A : Type 0} (xs : List A) (y : A) (i : ℕ) (x : A) → slice_get xs i ≡ Some x → slice_get (xs ++ y ∷ []) i ≡ Some x
push_get [] y i x e = absurd (cc e)
push_get (z ∷ xs) y zero x e = e
push_get (z ∷ xs) y (suc i) x e = push_get xs y i x e

pub index_push : {A B : Type 0} (f : A → B) (xs : List A) (y : A) (i : ℕ) (d : B) → i < length xs → slice_index_or (map f (xs ++ y ∷ [])) i d ≡ slice_index_or (map f xs) i d
index_push f [] y i d h = absurd (omega arith)
index_push f (x ∷ xs) y zero d h = refl
index_push f (x ∷ xs) y (suc i) d h = index_push f xs y i d (omega arith)

pub index_last : {A B : Type 0} (f : A → B) (xs : List A) (y : A) (d : B) → slice_index_or (map f (xs ++ y ∷ [])) (length xs) d ≡ f y
index_last f [] y d = refl
index_last f (x ∷ xs) y d = index_last f xs y d

-- an actor that gives on a ring more
pub give_length : (number ring : ℕ) (actors : List Actor) → length (give_at number ring actors) ≡ length actors
give_length number ring [] = refl
give_length zero ring (x ∷ xs) = refl
give_length (suc number) ring (x ∷ xs) = ap suc (give_length number ring xs)

-- each actor is the one before, but for the rings on which it gives
abbrev pub IsGiving : (number ring a : ℕ) → (old new : Actor) → Type 0
IsGiving number ring a old new = ((a ≡ number) × (new ≡ giving ring old)) ⊎ ((a ≢ number) × (new ≡ old))

giving_next : (number ring a : ℕ) (old new : Actor) → IsGiving number ring a old new → IsGiving (suc number) ring (suc a) old new
giving_next number ring a old new (inl l) = inl (ap suc l.0, l.1)
giving_next number ring a old new (inr r) = inr ((λ e. r.0 (omega arith)), r.1)

pub give_get : (number ring : ℕ) (actors : List Actor) (a : ℕ) (new : Actor) → slice_get (give_at number ring actors) a ≡ Some new → (old : Actor) × (slice_get actors a ≡ Some old) × IsGiving number ring a old new
give_get number ring [] a new e = absurd (cc e)
give_get zero ring (x ∷ xs) zero new e = (x, refl, inl (refl, sym (same_Some (giving ring x) new e)))
give_get zero ring (x ∷ xs) (suc a) new e = (new, e, inr ((λ s. omega arith), refl))
give_get (suc number) ring (x ∷ xs) zero new e = (x, refl, inr ((λ s. omega arith), sym (same_Some x new e)))
give_get (suc number) ring (x ∷ xs) (suc a) new e = let r = give_get number ring xs a new e in (r.0, r.1, giving_next number ring a r.0 new r.2)

pub give_keeps : (number ring : ℕ) (actors : List Actor) (a : ℕ) (old : Actor) → slice_get actors a ≡ Some old → (gs : List ℕ) × (slice_get (give_at number ring actors) a ≡ Some (record old { gives = gs }))
give_keeps number ring [] a old e = absurd (cc e)
give_keeps zero ring (x ∷ xs) zero old e = (old.gives ++ ring ∷ [], ap (λ (y : Actor). Some (giving ring y)) (same_Some x old e))
give_keeps zero ring (x ∷ xs) (suc a) old e = (old.gives, e)
give_keeps (suc number) ring (x ∷ xs) zero old e = (old.gives, e)
give_keeps (suc number) ring (x ∷ xs) (suc a) old e = give_keeps number ring xs a old e

-- so it is where the actor is set
pub give_set : (actors : List Actor) (number ring : ℕ) (first d : Actor) (more : List ℕ) → number < length actors → more ≡ (get_or actors number first).gives ++ ring ∷ [] →
    set actors number (record (get_or actors number d) { gives = more }) ≡ give_at number ring actors
give_set [] number ring first d more low g = absurd (omega arith)
give_set (x ∷ xs) zero ring first d more low g = ap (λ ns. record x { gives = ns } ∷ xs) g
give_set (x ∷ xs) (suc number) ring first d more low g = ap (λ ys. x ∷ ys) (give_set xs number ring first d more (omega arith) g)

pub give_numbers : (numbered : ActorKind → List ℕ) (number ring : ℕ) (actors : List Actor) → numbers_of numbered (give_at number ring actors) ≡ numbers_of numbered actors
give_numbers numbered number ring [] = refl
give_numbers numbered zero ring (x ∷ xs) = refl
give_numbers numbered (suc number) ring (x ∷ xs) = ap (λ ns. numbered x.kind ++ ns) (give_numbers numbered number ring xs)

pub numbers_push : (numbered : ActorKind → List ℕ) (actors : List Actor) (last : Actor) → numbers_of numbered (actors ++ last ∷ []) ≡ numbers_of numbered actors ++ numbered last.kind
numbers_push numbered [] last = append-nil (numbered last.kind)
numbers_push numbered (x ∷ xs) last = ap (λ ns. numbered x.kind ++ ns) (numbers_push numbered xs last) ∙ sym (append_assoc (numbered x.kind) (numbers_of numbered xs) (numbered last.kind))

module _ (net : Net) (output place : ℕ) (word : Bits) where
  abbrev pub more : Net
  more = with_output net output place word

  abbrev pub ring : ℕ
  ring = length net.rings

  abbrev pub last : Actor
  last = output_on output (length net.rings) word

  pub actors_are : more.actors ≡ give_at (place - 1) (length net.rings) net.actors ++ last ∷ []
  unfolding with_output
  actors_are = refl

  pub rings_are : more.rings ≡ net.rings ++ ring_on (place - 1) (length net.actors) word ∷ []
  unfolding with_output
  rings_are = refl

  pub actors_count : length more.actors ≡ length net.actors + 1
  actors_count = ap length actors_are ∙ length_push (give_at (place - 1) ring net.actors) last ∙ ap (λ n. n + 1) (give_length (place - 1) ring net.actors)

  pub rings_count : length more.rings ≡ ring + 1
  rings_count = ap length rings_are ∙ length_push net.rings (ring_on (place - 1) (length net.actors) word)

  pub slots_count : sum_by (λ (r : RingSpec). r.size + 1) more.rings ≡ sum_by (λ (r : RingSpec). r.size + 1) net.rings + 1
  slots_count = ap (sum_by (λ (r : RingSpec). r.size + 1)) rings_are ∙ sum_by_push (λ (r : RingSpec). r.size + 1) net.rings (ring_on (place - 1) (length net.actors) word)

  -- an actor is one of before, or the output
  pub actor_is : (a : ℕ) (new : Actor) → slice_get more.actors a ≡ Some new →
      ((old : Actor) × (slice_get net.actors a ≡ Some old) × IsGiving (place - 1) ring a old new) ⊎ ((a ≡ length net.actors) × (last ≡ new))
  actor_is a new e =
      elim (get_push (give_at (place - 1) ring net.actors) last a new (ap (λ xs. slice_get xs a) (sym actors_are) ∙ e)) [
        | inl l ↦ inl (give_get (place - 1) ring net.actors a new l)
        | inr r ↦ inr (r.0 ∙ give_length (place - 1) ring net.actors, r.1)
      ]

  pub keeps : (a : ℕ) (old : Actor) → slice_get net.actors a ≡ Some old → (gs : List ℕ) × (slice_get more.actors a ≡ Some (record old { gives = gs }))
  keeps a old e =
      let k = give_keeps (place - 1) ring net.actors a old e in
      (k.0, ap (λ xs. slice_get xs a) actors_are ∙ push_get (give_at (place - 1) ring net.actors) last a (record old { gives = k.0 }) k.1)

  pub last_there : slice_get more.actors (length net.actors) ≡ Some last
  last_there =
      ap (λ xs. slice_get xs (length net.actors)) actors_are
      ∙ ap (slice_get (give_at (place - 1) ring net.actors ++ last ∷ [])) (sym (give_length (place - 1) ring net.actors))
      ∙ get_last (give_at (place - 1) ring net.actors) last

  -- a ring is one of before, or that of the output
  pub ring_is : (r : ℕ) (spec : RingSpec) → slice_get more.rings r ≡ Some spec → (slice_get net.rings r ≡ Some spec) ⊎ ((r ≡ ring) × (ring_on (place - 1) (length net.actors) word ≡ spec))
  ring_is r spec e = get_push net.rings (ring_on (place - 1) (length net.actors) word) r spec (ap (λ xs. slice_get xs r) (sym rings_are) ∙ e)

  pub giver_old : (r : ℕ) → r < ring → giver more r ≡ giver net r
  giver_old r h =
      ap (λ (xs : List RingSpec). slice_index_or (map (λ (x : RingSpec). x.from) xs) r 0) rings_are
      ∙ index_push (λ (x : RingSpec). x.from) net.rings (ring_on (place - 1) (length net.actors) word) r 0 h

  pub giver_new : giver more ring ≡ place - 1
  giver_new =
      ap (λ (xs : List RingSpec). slice_index_or (map (λ (x : RingSpec). x.from) xs) ring 0) rings_are
      ∙ index_last (λ (x : RingSpec). x.from) net.rings (ring_on (place - 1) (length net.actors) word) 0

  pub taker_old : (r : ℕ) → r < ring → taker more r ≡ taker net r
  taker_old r h =
      ap (λ (xs : List RingSpec). slice_index_or (map (λ (x : RingSpec). x.to) xs) r 0) rings_are
      ∙ index_push (λ (x : RingSpec). x.to) net.rings (ring_on (place - 1) (length net.actors) word) r 0 h

  pub taker_new : taker more ring ≡ length net.actors
  taker_new =
      ap (λ (xs : List RingSpec). slice_index_or (map (λ (x : RingSpec). x.to) xs) ring 0) rings_are
      ∙ index_last (λ (x : RingSpec). x.to) net.rings (ring_on (place - 1) (length net.actors) word) 0

  -- inputs are those of before, and there is an output more
  pub inputs_are : numbers_of input_of more.actors ≡ numbers_of input_of net.actors
  inputs_are =
      ap (numbers_of input_of) actors_are ∙ numbers_push input_of (give_at (place - 1) ring net.actors) last
      ∙ append-nil (numbers_of input_of (give_at (place - 1) ring net.actors)) ∙ give_numbers input_of (place - 1) ring net.actors

  pub outputs_are : numbers_of output_of net.actors ≡ range_with_len 0 output → numbers_of output_of more.actors ≡ range_with_len 0 (output + 1)
  outputs_are e =
      ap (numbers_of output_of) actors_are ∙ numbers_push output_of (give_at (place - 1) ring net.actors) last
      ∙ ap (λ ns. ns ++ output ∷ []) (give_numbers output_of (place - 1) ring net.actors ∙ e)
      ∙ (let z : output ≡ 0 + output = omega arith in ap (λ n. range_with_len 0 output ++ n ∷ []) z) ∙ sym (range_more 0 output)

-- what holds of each place holds of the one here
pub place_within : (actors words : ℕ) (places : List ℕ) (i : ℕ) → i < length places → AllByRecursion (IsWithin actors words) places → IsWithin actors words (get_or places i 0)
place_within actors words [] i h all = absurd (omega arith)
place_within actors words (p ∷ places) zero h all = all.0
place_within actors words (p ∷ places) (suc i) h all = place_within actors words places i (omega arith) all.1

-- with the outputs so far and those that are left, one output more
pub outputs_more : (net next whole : Net) (w : Assignment) (first i place : ℕ) (word : Bits) (places : List ℕ) → i < length places → place ≡ get_or places i 0 → word ≡ w place → next ≡ with_output net (first + i) place word →
    with_outputs net w (first + i) (drop i places) ≡ whole → with_outputs next w (first + (i + 1)) (drop (i + 1) places) ≡ whole
unfolding with_outputs
outputs_more net next whole w first i place word places low is worded made before =
    let next_number : first + (i + 1) ≡ first + i + 1 = omega arith in
    let split : drop i places ≡ place ∷ drop (i + 1) places = drop_more places i 0 low ∙ ap (λ p. p ∷ drop (i + 1) places) (sym is) in
    ap (λ o. with_outputs next w o (drop (i + 1) places)) next_number
    ∙ ap (λ n. with_outputs n w (first + i + 1) (drop (i + 1) places)) (made ∙ ap (with_output net (first + i) place) worded)
    ∙ sym (ap (with_outputs net w (first + i)) split) ∙ before

-- none is left
pub outputs_done : (net whole : Net) (w : Assignment) (first i : ℕ) (places : List ℕ) → length places ≤ i → with_outputs net w first (drop i places) ≡ whole → net ≡ whole
unfolding with_outputs
outputs_done net whole w first i places past before = sym (ap (with_outputs net w first) (drop_all i places past)) ∙ before

-- what a net has once it has an output more
pub output_made : (net : Net) (to ring output place : ℕ) (word : Bits) (actor : Actor) (spec : RingSpec) (given actors : List Actor) (rings : List RingSpec) → to ≡ length net.actors → ring ≡ length net.rings → actor ≡ output_on output ring word →
    spec ≡ ring_on (place - 1) to word → given ≡ give_at (place - 1) ring net.actors → actors ≡ given ++ actor ∷ [] → rings ≡ net.rings ++ spec ∷ [] → record { actors = actors; rings = rings } ≡ with_output net output place word
unfolding with_output
output_made net to ring output place word actor spec given actors rings a b c d e f g =
    let first : actors ≡ give_at (place - 1) (length net.rings) net.actors ++ output_on output (length net.rings) word ∷ [] =
    f ∙ ap (λ xs. xs ++ actor ∷ []) e ∙ ap (λ x. give_at (place - 1) ring net.actors ++ x ∷ []) c ∙ ap (λ r. give_at (place - 1) r net.actors ++ output_on output r word ∷ []) b in
    let second : rings ≡ net.rings ++ ring_on (place - 1) (length net.actors) word ∷ [] = g ∙ ap (λ x. net.rings ++ x ∷ []) d ∙ ap (λ n. net.rings ++ ring_on (place - 1) n word ∷ []) a in
    let made : (xs : List Actor) (ys : List RingSpec) → Net = λ xs ys. record { actors = xs; rings = ys } in
    ap (λ xs. made xs rings) first ∙ ap (made (give_at (place - 1) (length net.rings) net.actors ++ output_on output (length net.rings) word ∷ [])) second
