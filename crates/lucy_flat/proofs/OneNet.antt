-- A program with clocks has one flat net.
use Rattle.std.proofs.Common.{ℕ, suc, zero, ◌+◌, ◌-◌, ◌<◌, ◌≤◌, ◌≡◌, ◌⊎◌, List, [], ◌∷◌, ◌++◌, Some, length, map, get_or, eqb, ap, sym, refl, ◌∙◌, subst, inl, inr, arith, length-append}
use Rattle.std.specs.Prelude.{All, slice_get, Result, Ok, Err, IfOk, IfErr, MatchResult}
use Rattle.std.specs.List.{range_with_len, flat_map}
use Rattle.std.proofs.lemmas.Bool.{cases_lt, eqb-true}
use Rattle.std.proofs.lemmas.Option.{same_Some, slice_get_within}
use Rattle.std.proofs.lemmas.List.FromFn.{length-range_with_len}
use Rattle.lucy_word.specs.Bits.{Bits}
use Rattle.lucy_word.specs.Shortest.{Same}
use Rattle.lucy_word.specs.Stored.{IsStored}
use Rattle.lucy_word.specs.Adaptable.{IsSize}
use Rattle.lucy_word.specs.Complement.{IsComplement}
use Rattle.lucy_word.proofs.ShortLaws.{shortest_one, same_sym, same_trans}
use Rattle.lucy_word.proofs.OnLaws.{on_one, on_word}
use Rattle.lucy_stream.specs.Forms.{Form, Given, Constant, Pointwise, Hosted, Kept, Merged, Delayed, Same as Alike, operands}
use Rattle.lucy_place.specs.declared.placed.PlacedNode.{PlacedNode}
use Rattle.lucy_place.specs.Proper.{AreProper}
use Rattle.lucy_clock.specs.declared.node_clock.NodeClock.{NodeClock}
use Rattle.lucy_net.specs.declared.net.Actor.{Actor}
use Rattle.lucy_net.specs.declared.net.RingSpec.{RingSpec}
use Rattle.lucy_net.specs.declared.net.Net.{Net}
use Rattle.lucy_net.specs.Plans.{form_of, giver, taker}
use Rattle.lucy_net.specs.Proper.{numbers_where, IsWriteWord, IsReadWord, IsProperActor}
use Rattle.lucy_net.proofs.WhereLaws.{where_all, operand_of, where_same}
use Rattle.lucy_net.proofs.NetLaws.{from_here, to_here, taken_times}
use Rattle.lucy_net.proofs.WordLaws.{actor_word, ring_word}
use Rattle.lucy_kahn.specs.Spots.{at, main_of, results_in}
use Rattle.lucy_kahn.specs.Sizes.{all_places}
use Rattle.lucy_kahn.proofs.Numbered.{number_reached}
use Rattle.lucy_flat.specs.Flat.{fires_at}
use Rattle.lucy_flat.specs.Counts.{HasSmallNet, IsPassedBy, NetPasses, actors_of, rings_of, slots_of}
use Rattle.lucy_flat.specs.Refusals.{IsFlatNet, RefusesFlat, net_bits}
use Rattle.lucy_flat.specs.declared.error.FlatError.{FlatError}
use Rattle.lucy_flat.specs.declared.error.FlatError.TheVariants as err
use Rattle.lucy_word.specs.Limits.{limit_number}
use Rattle.lucy_word.specs.declared.limit.Limit.{Limit}
use Rattle.lucy_word.specs.declared.limit.Limit.TheVariants as limit
use Rattle.lucy_word.proofs.Lists.{same_entries}
use Rattle.lucy_host.proofs.Elements.{get_there}
use Rattle.lucy_flat.proofs.SpotWords.{spot_same}

-- words in memory that have the same bits are one
same_stored : (v w : Bits) → IsStored v → IsStored w → Same v w → v ≡ w
same_stored v w a b same = shortest_one v w a.shortest b.shortest a.nonempty b.nonempty same

pub one_size : (v w : Bits) (s t : ℕ) → IsSize v w s → IsSize v w t → s ≡ t
one_size v w s t a b =
    let x = a.reached in
    let y = b.reached in
    omega (arith, x.1, b.passed x.0, y.1, a.passed y.0)

-- the words of a ring have the bits that its actors tell
write_same : (form : Form) (firing v w : Bits) → IsWriteWord form firing v → IsWriteWord form firing w → Same v w
write_same (Given x) firing v w a b = same_trans v firing w (same_sym firing v a) b
write_same (Constant x) firing v w a b = same_trans v firing w (same_sym firing v a) b
write_same (Pointwise x) firing v w a b = same_trans v firing w (same_sym firing v a) b
write_same (Hosted x) firing v w a b = same_trans v firing w (same_sym firing v a) b
write_same (Kept p) firing v w a b = on_one firing p v w a b
write_same (Merged p) firing v w a b = same_trans v firing w (same_sym firing v a) b
write_same (Delayed x) firing v w a b = same_trans v firing w (same_sym firing v a) b
write_same Alike firing v w a b = same_trans v firing w (same_sym firing v a) b

complement_same : (p v w : Bits) → IsComplement p v → IsComplement p w → Same v w
complement_same p v w a b i low = a i low ∙ sym (b i low)

read_same : (form : Form) (firing : Bits) (j : ℕ) (v w : Bits) → IsReadWord form firing j v → IsReadWord form firing j w → Same v w
read_same (Given x) firing j v w a b = same_trans v firing w (same_sym firing v a) b
read_same (Constant x) firing j v w a b = same_trans v firing w (same_sym firing v a) b
read_same (Pointwise x) firing j v w a b = same_trans v firing w (same_sym firing v a) b
read_same (Hosted x) firing j v w a b = same_trans v firing w (same_sym firing v a) b
read_same (Kept p) firing j v w a b = same_trans v firing w (same_sym firing v a) b
read_same (Merged p) firing zero v w a b = on_one firing p v w a b
read_same (Merged p) firing (suc j) v w a b = on_one firing a.0 v w a.2 (on_word firing b.0 a.0 w (complement_same p b.0 a.0 b.1 a.1) b.2)
read_same (Delayed x) firing j v w a b = same_trans v firing w (same_sym firing v a) b
read_same Alike firing j v w a b = same_trans v firing w (same_sym firing v a) b

-- lists joined of parts that are alike, or as long
flat_same : {X Y Z : Type 0} (f : X → List Z) (g : Y → List Z) (xs : List X) (ys : List Y) → length xs ≡ length ys → ((i : ℕ) (x : X) (y : Y) → slice_get xs i ≡ Some x → slice_get ys i ≡ Some y → f x ≡ g y) → flat_map f xs ≡ flat_map g ys
flat_same f g [] [] l h = refl
flat_same f g [] (y ∷ ys) l h = absurd (omega (arith, l))
flat_same f g (x ∷ xs) [] l h = absurd (omega (arith, l))
flat_same f g (x ∷ xs) (y ∷ ys) l h =
    ap (λ t. t ++ flat_map f xs) (h 0 x y refl refl) ∙ ap (λ t. g y ++ t) (flat_same f g xs ys (omega (arith, l)) (λ i a b e k. h (suc i) a b e k))

flat_length : {X Y Z : Type 0} (f : X → List Z) (g : Y → List Z) (xs : List X) (ys : List Y) → length xs ≡ length ys → ((i : ℕ) (x : X) (y : Y) → slice_get xs i ≡ Some x → slice_get ys i ≡ Some y → length (f x) ≡ length (g y)) → length (flat_map f xs) ≡ length (flat_map g ys)
flat_length f g [] [] l h = refl
flat_length f g [] (y ∷ ys) l h = absurd (omega (arith, l))
flat_length f g (x ∷ xs) [] l h = absurd (omega (arith, l))
flat_length f g (x ∷ xs) (y ∷ ys) l h =
    omega (arith, length-append (f x) (flat_map f xs), length-append (g y) (flat_map g ys), h 0 x y refl refl, flat_length f g xs ys (omega (arith, l)) (λ i a b e k. h (suc i) a b e k))

-- parts as long of one list are the same
parts_same : {Z : Type 0} (xs us ys vs : List Z) → xs ++ us ≡ ys ++ vs → length xs ≡ length ys → (xs ≡ ys) × (us ≡ vs)
parts_same [] us [] vs e l = (refl, e)
parts_same [] us (y ∷ ys) vs e l = absurd (omega (arith, l))
parts_same (x ∷ xs) us [] vs e l = absurd (omega (arith, l))
parts_same (x ∷ xs) us (y ∷ ys) vs e l =
    let head : x ≡ y = cc in
    let tail : xs ++ us ≡ ys ++ vs = cc in
    let rest = parts_same xs us ys vs tail (omega (arith, l)) in
    let front : xs ≡ ys = rest.0 in
    (cc, rest.1)

flat_parts : {X Y Z : Type 0} (f : X → List Z) (g : Y → List Z) (xs : List X) (ys : List Y) → length xs ≡ length ys → ((i : ℕ) (x : X) (y : Y) → slice_get xs i ≡ Some x → slice_get ys i ≡ Some y → length (f x) ≡ length (g y)) → flat_map f xs ≡ flat_map g ys →
    (i : ℕ) (x : X) (y : Y) → slice_get xs i ≡ Some x → slice_get ys i ≡ Some y → f x ≡ g y
flat_parts f g [] [] l h e i x y a b = absurd (cc a)
flat_parts f g [] (v ∷ ys) l h e i x y a b = absurd (omega (arith, l))
flat_parts f g (u ∷ xs) [] l h e i x y a b = absurd (omega (arith, l))
flat_parts f g (u ∷ xs) (v ∷ ys) l h e zero x y a b =
    let first = parts_same (f u) (flat_map f xs) (g v) (flat_map g ys) e (h 0 u v refl refl) in
    sym (ap f (same_Some u x a)) ∙ first.0 ∙ ap g (same_Some v y b)
flat_parts f g (u ∷ xs) (v ∷ ys) l h e (suc i) x y a b =
    let first = parts_same (f u) (flat_map f xs) (g v) (flat_map g ys) e (h 0 u v refl refl) in
    flat_parts f g xs ys (omega (arith, l)) (λ k p q m n. h (suc k) p q m n) first.1 i x y a b

map_append : {X Y : Type 0} (g : X → Y) (xs ys : List X) → map g (xs ++ ys) ≡ map g xs ++ map g ys
map_append g [] ys = refl
map_append g (x ∷ xs) ys = ap (λ t. g x ∷ t) (map_append g xs ys)

map_flat : {X Y Z : Type 0} (g : Y → Z) (f : X → List Y) (xs : List X) → map g (flat_map f xs) ≡ flat_map (λ x. map g (f x)) xs
map_flat g f [] = refl
map_flat g f (x ∷ xs) = map_append g (f x) (flat_map f xs) ∙ ap (λ t. map g (f x) ++ t) (map_flat g f xs)

-- numbers in a row, looked up
row_looked : (f g : ℕ → ℕ) (n m : ℕ) → map f (range_with_len n m) ≡ map g (range_with_len n m) → (r : ℕ) → n ≤ r → r < n + m → f r ≡ g r
row_looked f g n zero e r low high = absurd (omega (arith, low, high))
row_looked f g n (suc m) e r low high =
    let first : f n ≡ g n = cc in
    let tail : map f (range_with_len (n + 1) m) ≡ map g (range_with_len (n + 1) m) = cc in
    elim (cases_lt n r) [
      | inl l ↦ row_looked f g (n + 1) m tail r (omega (arith, l)) (omega (arith, high))
      | inr h ↦ (let z : n ≡ r = omega (arith, low, h) in subst (λ k. f k ≡ g k) z first)
    ]

-- what is taken by an actor has it for its taker
pub taken_by : (net : Net) (a r j : ℕ) (actor : Actor) → IsProperActor net a actor → j < length actor.takes → get_or actor.takes j 0 ≡ r → taker net r ≡ a
taken_by net a r j actor is l e =
    let all : All (λ (s : ℕ). taker net s ≡ a) actor.takes =
    subst (All (λ (s : ℕ). taker net s ≡ a)) (sym is.takes) (where_all (λ s. taker net s ≡ a) (λ s. eqb (taker net s) a) (length net.rings) (λ s h y. eqb-true (taker net s) a y)) in
    subst (λ s. taker net s ≡ a) e (all j 0 l)

actor_is : (x y : Actor) → x.kind ≡ y.kind → x.firing ≡ y.firing → x.takes ≡ y.takes → x.gives ≡ y.gives → x ≡ y
actor_is x y a b c d =
    ap (λ t. let r : Actor = record { kind = t; firing = x.firing; takes = x.takes; gives = x.gives } in r) a ∙ ap (λ t. let r : Actor = record { kind = y.kind; firing = t; takes = x.takes; gives = x.gives } in r) b
    ∙ ap (λ t. let r : Actor = record { kind = y.kind; firing = y.firing; takes = t; gives = x.gives } in r) c ∙ ap (λ t. let r : Actor = record { kind = y.kind; firing = y.firing; takes = y.takes; gives = t } in r) d

ring_is : (p q : RingSpec) → p.from ≡ q.from → p.to ≡ q.to → p.write ≡ q.write → p.read ≡ q.read → p.size ≡ q.size → p ≡ q
ring_is p q a b c d e =
    ap (λ t. let r : RingSpec = record { from = t; to = p.to; write = p.write; read = p.read; size = p.size } in r) a ∙ ap (λ t. let r : RingSpec = record { from = q.from; to = t; write = p.write; read = p.read; size = p.size } in r) b
    ∙ ap (λ t. let r : RingSpec = record { from = q.from; to = q.to; write = t; read = p.read; size = p.size } in r) c ∙ ap (λ t. let r : RingSpec = record { from = q.from; to = q.to; write = q.write; read = t; size = p.size } in r) d
    ∙ ap (λ t. let r : RingSpec = record { from = q.from; to = q.to; write = q.write; read = q.read; size = t } in r) e

net_is : (a b : Net) → a.actors ≡ b.actors → a.rings ≡ b.rings → a ≡ b
net_is a b e f = ap (λ t. let r : Net = record { actors = t; rings = a.rings } in r) e ∙ ap (λ t. let r : Net = record { actors = b.actors; rings = t } in r) f

-- actors at one number of two flat nets
record AreAlike (a b : Net) (x y : Actor) : Type 0 where
  pub kind : x.kind ≡ y.kind
  pub reads : map (giver a) x.takes ≡ map (giver b) y.takes
  pub firing : Same x.firing y.firing

module _ (nodes : List PlacedNode) (clocks : List NodeClock) (proper : AreProper nodes) (a b : Net) (is_a : IsFlatNet nodes clocks a) (is_b : IsFlatNet nodes clocks b) where
  alike : (i : ℕ) (x y : Actor) → slice_get a.actors i ≡ Some x → slice_get b.actors i ≡ Some y → AreAlike a b x y
  alike i x y e f = elim (cases_lt i (all_places nodes)) [
    | inl low ↦
        let r = number_reached nodes proper i low in
        let p = is_a.flat.actors r.0 r.1.0 r.1.1 in
        let q = is_b.flat.actors r.0 r.1.0 r.1.1 in
        let p_is : p.actor ≡ x = same_Some p.actor x (sym p.there ∙ ap (slice_get a.actors) r.2 ∙ e) in
        let q_is : q.actor ≡ y = same_Some q.actor y (sym q.there ∙ ap (slice_get b.actors) r.2 ∙ f) in
        let both : AreAlike a b p.actor q.actor = record {
          kind = p.does ∙ sym q.does;
          reads = p.reads ∙ sym q.reads;
          firing = spot_same nodes clocks (fires_at r.0 r.1.0) p.actor.firing q.actor.firing p.firing q.firing;
        } in
        subst (λ t. AreAlike a b t y) p_is (subst (AreAlike a b p.actor) q_is both)
    | inr high ↦
        let j : ℕ = i - all_places nodes in
        let place = get_there (results_in (main_of nodes)) j (omega (arith, high, slice_get_within a.actors i x e, is_a.flat.count)) in
        let at_i : all_places nodes + j ≡ i = omega (arith, high) in
        let p = is_a.flat.outputs j place.0 place.1 in
        let q = is_b.flat.outputs j place.0 place.1 in
        let p_is : p.actor ≡ x = same_Some p.actor x (sym p.there ∙ ap (slice_get a.actors) at_i ∙ e) in
        let q_is : q.actor ≡ y = same_Some q.actor y (sym q.there ∙ ap (slice_get b.actors) at_i ∙ f) in
        let both : AreAlike a b p.actor q.actor = record {
          kind = p.kind ∙ sym q.kind;
          reads = p.reads ∙ sym q.reads;
          firing = spot_same nodes clocks (at [] place.0) p.actor.firing q.actor.firing p.firing q.firing;
        } in
        subst (λ t. AreAlike a b t y) p_is (subst (AreAlike a b p.actor) q_is both)
  ]

  count : length a.actors ≡ length b.actors
  count = is_a.flat.count ∙ sym is_b.flat.count

  arity : (i : ℕ) (x y : Actor) → slice_get a.actors i ≡ Some x → slice_get b.actors i ≡ Some y → length x.takes ≡ length y.takes
  arity i x y e f =
      (is_a.flat.proper.actors i x e).arity ∙ ap (λ k. operands (form_of k)) (alike i x y e f).kind ∙ sym (is_b.flat.proper.actors i y f).arity

  rings_count : length a.rings ≡ length b.rings
  rings_count =
      sym (length-range_with_len 0 (length a.rings)) ∙ ap length (sym is_a.flat.rings) ∙ flat_length (λ (x : Actor). x.takes) (λ (y : Actor). y.takes) a.actors b.actors count arity
      ∙ ap length is_b.flat.rings ∙ length-range_with_len 0 (length b.rings)

  takes : (i : ℕ) (x y : Actor) → slice_get a.actors i ≡ Some x → slice_get b.actors i ≡ Some y → x.takes ≡ y.takes
  takes = flat_parts (λ (x : Actor). x.takes) (λ (y : Actor). y.takes) a.actors b.actors count arity (is_a.flat.rings ∙ ap (range_with_len 0) rings_count ∙ sym is_b.flat.rings)

  givers : (r : ℕ) → r < length a.rings → giver a r ≡ giver b r
  givers r l =
      let rows : map (giver a) (range_with_len 0 (length a.rings)) ≡ map (giver b) (range_with_len 0 (length a.rings)) =
      ap (map (giver a)) (sym is_a.flat.rings) ∙ map_flat (giver a) (λ (x : Actor). x.takes) a.actors
      ∙ flat_same (λ (x : Actor). map (giver a) x.takes) (λ (y : Actor). map (giver b) y.takes) a.actors b.actors count (λ i x y e f. (alike i x y e f).reads)
      ∙ sym (map_flat (giver b) (λ (y : Actor). y.takes) b.actors) ∙ ap (map (giver b)) (is_b.flat.rings ∙ ap (range_with_len 0) (sym rings_count)) in
      row_looked (giver a) (giver b) 0 (length a.rings) rows r (omega arith) (omega (arith, l))

  gives : (i : ℕ) (x y : Actor) → slice_get a.actors i ≡ Some x → slice_get b.actors i ≡ Some y → x.gives ≡ y.gives
  gives i x y e f =
      (is_a.flat.proper.actors i x e).gives ∙ where_same (λ r. eqb (giver a r) i) (λ r. eqb (giver b r) i) (length a.rings) (λ r l. ap (λ t. eqb t i) (givers r l))
      ∙ ap (numbers_where (λ r. eqb (giver b r) i)) rings_count ∙ sym (is_b.flat.proper.actors i y f).gives

  firing : (i : ℕ) (x y : Actor) → slice_get a.actors i ≡ Some x → slice_get b.actors i ≡ Some y → x.firing ≡ y.firing
  firing i x y e f = same_stored x.firing y.firing (actor_word IsStored a i x is_a.stored e) (actor_word IsStored b i y is_b.stored f) (alike i x y e f).firing

  actors : a.actors ≡ b.actors
  actors = same_entries a.actors b.actors count (λ i x y e f. actor_is x y (alike i x y e f).kind (firing i x y e f) (takes i x y e f) (gives i x y e f))

  rings : (r : ℕ) (p q : RingSpec) → slice_get a.rings r ≡ Some p → slice_get b.rings r ≡ Some q → p ≡ q
  rings r p q e f =
      let u = is_a.flat.proper.rings r p e in
      let v = is_b.flat.proper.rings r q f in
      let from : p.from ≡ q.from = sym (from_here a r p e) ∙ givers r (slice_get_within a.rings r p e) ∙ from_here b r q f in
      let by : IsProperActor a p.to u.taker = is_a.flat.proper.actors p.to u.taker u.takes_here in
      let there_b : slice_get b.actors p.to ≡ Some u.taker = ap (λ xs. slice_get xs p.to) (sym actors) ∙ u.takes_here in
      let operand = operand_of r u.taker.takes (taken_times a r p.to p u.taker by e refl) in
      let j : ℕ = operand.0 in
      let to : p.to ≡ q.to = sym (taken_by b p.to r j u.taker (is_b.flat.proper.actors p.to u.taker there_b) operand.1.there operand.1.is) ∙ to_here b r q f in
      let giver_is : u.giver ≡ v.giver = same_Some u.giver v.giver (sym u.gives_here ∙ ap (λ xs. slice_get xs p.from) actors ∙ ap (slice_get b.actors) from ∙ v.gives_here) in
      let taker_is : u.taker ≡ v.taker = same_Some u.taker v.taker (sym there_b ∙ ap (slice_get b.actors) to ∙ v.takes_here) in
      let p_words = ring_word IsStored a r p is_a.stored e in
      let q_words = ring_word IsStored b r q is_b.stored f in
      let write : p.write ≡ q.write = same_stored p.write q.write p_words.0 q_words.0
      (write_same (form_of u.giver.kind) u.giver.firing p.write q.write u.write (subst (λ (g : Actor). IsWriteWord (form_of g.kind) g.firing q.write) (sym giver_is) v.write)) in
      let there_v : j < length v.taker.takes = subst (λ (t : Actor). j < length t.takes) taker_is operand.1.there in
      let is_v : get_or v.taker.takes j 0 ≡ r = subst (λ (t : Actor). get_or t.takes j 0 ≡ r) taker_is operand.1.is in
      let read : p.read ≡ q.read = same_stored p.read q.read p_words.1 q_words.1
      (read_same (form_of u.taker.kind) u.taker.firing j p.read q.read (u.read j operand.1.there operand.1.is) (subst (λ (t : Actor). IsReadWord (form_of t.kind) t.firing j q.read) (sym taker_is) (v.read j there_v is_v))) in
      let size : p.size ≡ q.size = one_size p.write p.read p.size q.size u.size (subst (λ w. IsSize w p.read q.size) (sym write) (subst (λ w. IsSize q.write w q.size) (sym read) v.size)) in
      ring_is p q from to write read size

  pub one_net : a ≡ b
  one_net = net_is a b actors (same_entries a.rings b.rings rings_count rings)

-- a program passes one limit first
small_not_passed : (nodes : List PlacedNode) (clocks : List NodeClock) (l : Limit) → HasSmallNet nodes clocks → NetPasses nodes clocks l → ⊥
small_not_passed nodes clocks l small (inl why) = omega (arith, small.0, why.1)
small_not_passed nodes clocks l small (inr (inl why)) = omega (arith, small.1, why.2)
small_not_passed nodes clocks l small (inr (inr why)) = omega (arith, small.2, why.3)

one_passed : (actors rings slots : ℕ) (l other : Limit) → IsPassedBy actors rings slots l → IsPassedBy actors rings slots other → l ≡ other
one_passed actors rings slots l other (inl a) (inl b) = a.0 ∙ sym b.0
one_passed actors rings slots l other (inl a) (inr (inl b)) = absurd (omega (arith, a.1, b.1))
one_passed actors rings slots l other (inl a) (inr (inr b)) = absurd (omega (arith, a.1, b.1))
one_passed actors rings slots l other (inr (inl a)) (inl b) = absurd (omega (arith, b.1, a.1))
one_passed actors rings slots l other (inr (inl a)) (inr (inl b)) = a.0 ∙ sym b.0
one_passed actors rings slots l other (inr (inl a)) (inr (inr b)) = absurd (omega (arith, a.2, b.2))
one_passed actors rings slots l other (inr (inr a)) (inl b) = absurd (omega (arith, b.1, a.1))
one_passed actors rings slots l other (inr (inr a)) (inr (inl b)) = absurd (omega (arith, b.2, a.2))
one_passed actors rings slots l other (inr (inr a)) (inr (inr b)) = a.0 ∙ sym b.0

pub one_limit : (nodes : List PlacedNode) (clocks : List NodeClock) (l other : Limit) → RefusesFlat nodes clocks (err.Limit l) → RefusesFlat nodes clocks (err.Limit other) → l ≡ other
one_limit nodes clocks l other (inl a) (inl b) = one_passed (actors_of nodes) (rings_of nodes) (slots_of nodes clocks) l other a b
one_limit nodes clocks l other (inl a) (inr (inl b)) = absurd (small_not_passed nodes clocks l b.1 a)
one_limit nodes clocks l other (inl a) (inr (inr b)) = absurd (small_not_passed nodes clocks l b.2.small a)
one_limit nodes clocks l other (inr (inl a)) (inl b) = absurd (small_not_passed nodes clocks other a.1 b)
one_limit nodes clocks l other (inr (inl a)) (inr (inl b)) = a.0 ∙ sym b.0
one_limit nodes clocks l other (inr (inl a)) (inr (inr b)) = absurd (b.2.words a.2)
one_limit nodes clocks l other (inr (inr a)) (inl b) = absurd (small_not_passed nodes clocks other a.2.small b)
one_limit nodes clocks l other (inr (inr a)) (inr (inl b)) = absurd (a.2.words b.2)
one_limit nodes clocks l other (inr (inr a)) (inr (inr b)) = a.0 ∙ sym b.0

pub never_both : (nodes : List PlacedNode) (clocks : List NodeClock) (net : Net) (l : Limit) → AreProper nodes → IsFlatNet nodes clocks net → net_bits net ≤ limit_number limit.Bits → RefusesFlat nodes clocks (err.Limit l) → ⊥
never_both nodes clocks net l proper is few (inl why) = small_not_passed nodes clocks l is.small why
never_both nodes clocks net l proper is few (inr (inl why)) = is.words why.2
never_both nodes clocks net l proper is few (inr (inr why)) = omega (arith, few, why.3, ap net_bits (one_net nodes clocks proper net why.1 is why.2))

-- so what is answered is the net, or the limit, of the program
pub accepted : (nodes : List PlacedNode) (clocks : List NodeClock) → AreProper nodes → (r : Result Net FlatError) → IfOk r (IsFlatNet nodes clocks) → IfErr r (RefusesFlat nodes clocks) →
    (net : Net) → IsFlatNet nodes clocks net → net_bits net ≤ limit_number limit.Bits → MatchResult r (λ got. got ≡ net) (λ e. e ≡ err.OutOfMemory)
accepted nodes clocks proper (Ok got) ok refused net is few = one_net nodes clocks proper got net ok is
accepted nodes clocks proper (Err (err.Limit l)) ok refused net is few = absurd (never_both nodes clocks net l proper is few refused)
accepted nodes clocks proper (Err err.OutOfMemory) ok refused net is few = refl

pub limited : (nodes : List PlacedNode) (clocks : List NodeClock) → AreProper nodes → (r : Result Net FlatError) → IfOk r (IsFlatNet nodes clocks) → IfOk r (λ net. net_bits net ≤ limit_number limit.Bits) → IfErr r (RefusesFlat nodes clocks) →
    (l : Limit) → RefusesFlat nodes clocks (err.Limit l) → MatchResult r (λ net. ⊥) (λ e. (e ≡ err.OutOfMemory) ⊎ (e ≡ err.Limit l))
limited nodes clocks proper (Ok got) ok few refused l why = never_both nodes clocks got l proper ok few why
limited nodes clocks proper (Err (err.Limit other)) ok few refused l why = inr (ap err.Limit (one_limit nodes clocks other l refused why))
limited nodes clocks proper (Err err.OutOfMemory) ok few refused l why = inl refl
