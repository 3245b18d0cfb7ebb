-- What a proper net has, over plain lists: rings in rows, numberings, and the words of givers and takers.
use Rattle.std.proofs.Common.{ℕ, suc, zero, ◌+◌, ◌-◌, ◌*◌, ◌<◌, ◌≤◌, ◌≡◌, Bool, true, false, cond, eqb, List, [], ◌∷◌, ◌++◌, Option, Some, None, length, map, take, get_or, ap, sym, refl, ◌∙◌, subst, inl, inr, arith}
use Rattle.std.specs.Prelude.{◌⊎◌, min, sum_by, slice_get, slice_index_or}
use Rattle.std.specs.List.{range_with_len, flat_map}
use Rattle.std.proofs.lemmas.Bool.{cases_lt, eq-eqb, ne_eqb}
use Rattle.std.proofs.lemmas.List.{append-nil, length-map, take-take}
use Rattle.std.proofs.lemmas.List.Sums.{sum_by-cons, sum_by-take-le}
use Rattle.std.proofs.lemmas.Option.{same_Some}
use Rattle.std.proofs.lemmas.List.FromFn.{length-range_with_len}
use Rattle.lucy_word.specs.Bits.{Bits}
use Rattle.lucy_word.specs.Shortest.{Same}
use Rattle.lucy_word.specs.Sampling.{IsOn, IsOnTooLong}
use Rattle.lucy_word.proofs.ComplementLaws.{bit_at-turned}
use Rattle.lucy_word.specs.Complement.{turned}
use Rattle.lucy_place.specs.declared.placed.PlacedNode.{PlacedNode}
use Rattle.lucy_place.specs.Proper.{IsProperKind}
use Rattle.lucy_place.specs.declared.entry.PlaceKind.{PlaceKind}
use Rattle.lucy_place.specs.declared.entry.PlaceKind.TheVariants as place_kind
use Rattle.lucy_stream.specs.Forms.{Form, Merged, operands}
use Rattle.lucy_stream.specs.Plans.{times}
use Rattle.lucy_net.specs.declared.kind.ActorKind.{ActorKind}
use Rattle.lucy_net.specs.declared.kind.ActorKind.TheVariants.{Input, Lit, Op, Host, When, Merge, Fby, Pass, Output}
use Rattle.lucy_net.specs.declared.net.Actor.{Actor}
use Rattle.lucy_net.specs.declared.net.RingSpec.{RingSpec}
use Rattle.lucy_net.specs.Plans as plans
use Rattle.lucy_net.specs.Proper.{numbers_where, output_of, IsNumbering, IsWriteWord, IsReadWord}
use Rattle.lucy_net.proofs.NumberedLaws.{numbers_of}
use Rattle.lucy_net.specs.States.{GivesNone}
use Rattle.lucy_flat.specs.declared.draft.Draft.{Draft}
use Rattle.lucy_kahn.specs.Spots.{at, spot_form, spot_reads}
use Rattle.lucy_word.proofs.OnLaws.{same_self}
use Rattle.lucy_word.proofs.Lists.{range_more}
use Rattle.lucy_host.proofs.Elements.{get_there}
use Rattle.lucy_flat.specs.Assembly.{from_at, first_ring, reads_count, AreRingsOf, IsReadOn, ReadsTooLong, IsFiring, HasKind}
use Rattle.lucy_flat.specs.Drafts.{draft_slots}
use Rattle.lucy_flat.proofs.AssemblyLaws.{first_next, present}
use Rattle.lucy_flat.proofs.ExtentLaws.{sum_take}
use Rattle.lucy_flat.proofs.RingWords.{FiresBy}

-- the actor that gives to a ring of a list
pub giver_at : (rings : List RingSpec) (r : ℕ) → slice_index_or (map (λ (ring : RingSpec). ring.from) rings) r 0 ≡ from_at rings r
giver_at [] r = refl
giver_at (ring ∷ rings) zero = refl
giver_at (ring ∷ rings) (suc r) = giver_at rings r

-- numbers for which a test holds
pub where_none : (f : ℕ → Bool) (n : ℕ) → ((r : ℕ) → r < n → f r ≡ false) → numbers_where f n ≡ []
where_none f zero h = refl
where_none f (suc n) h =
    ap (λ b. numbers_where f n ++ cond b (n ∷ []) []) (h n (omega arith)) ∙ append-nil (numbers_where f n) ∙ where_none f n (λ r l. h r (omega (arith, l)))

where_off : (f : ℕ → Bool) (lo n a b : ℕ) → f n ≡ false → a ≡ b → numbers_where f n ≡ range_with_len lo a → numbers_where f (suc n) ≡ range_with_len lo b
where_off f lo n a b h e before =
    ap (λ t. numbers_where f n ++ cond t (n ∷ []) []) h ∙ append-nil (numbers_where f n) ∙ before ∙ ap (range_with_len lo) e

where_on : (f : ℕ → Bool) (lo n a b : ℕ) → f n ≡ true → a + 1 ≡ b → lo + a ≡ n → numbers_where f n ≡ range_with_len lo a → numbers_where f (suc n) ≡ range_with_len lo b
where_on f lo n a b h e z before =
    ap (λ t. numbers_where f n ++ cond t (n ∷ []) []) h ∙ ap (λ t. t ++ n ∷ []) before ∙ ap (λ t. range_with_len lo a ++ t ∷ []) (sym z) ∙ sym (range_more lo a) ∙ ap (range_with_len lo) e

-- those of a row
where_front : (f : ℕ → Bool) (lo count n : ℕ) → ((r : ℕ) → r < n → r < lo → f r ≡ false) → ((r : ℕ) → r < n → lo ≤ r → r < lo + count → f r ≡ true) → ((r : ℕ) → r < n → lo + count ≤ r → f r ≡ false) →
    numbers_where f n ≡ range_with_len lo (min count (n - lo))
where_front f lo count zero a b c = let e : 0 ≡ min count (0 - lo) = omega arith in ap (range_with_len lo) e
where_front f lo count (suc n) a b c =
    last (where_front f lo count n (λ r l. a r (omega (arith, l))) (λ r l. b r (omega (arith, l))) (λ r l. c r (omega (arith, l)))) (cases_lt n lo) (cases_lt n (lo + count))
  where
    last : numbers_where f n ≡ range_with_len lo (min count (n - lo)) → (n < lo) ⊎ (lo ≤ n) → (n < lo + count) ⊎ (lo + count ≤ n) → numbers_where f (suc n) ≡ range_with_len lo (min count (suc n - lo))
    last before (inl low) other = where_off f lo n (min count (n - lo)) (min count (suc n - lo)) (a n (omega arith) low) (omega (arith, low)) before
    last before (inr high) (inl within) = where_on f lo n (min count (n - lo)) (min count (suc n - lo)) (b n (omega arith) high within) (omega (arith, high, within)) (omega (arith, high, within)) before
    last before (inr high) (inr past) = where_off f lo n (min count (n - lo)) (min count (suc n - lo)) (c n (omega arith) past) (omega (arith, high, past)) before

pub where_row : (f : ℕ → Bool) (lo count n : ℕ) → lo + count ≤ n → ((r : ℕ) → r < n → r < lo → f r ≡ false) → ((r : ℕ) → r < n → lo ≤ r → r < lo + count → f r ≡ true) → ((r : ℕ) → r < n → lo + count ≤ r → f r ≡ false) →
    numbers_where f n ≡ range_with_len lo count
where_row f lo count n within a b c = let e : min count (n - lo) ≡ count = omega (arith, within) in where_front f lo count n a b c ∙ ap (range_with_len lo) e

-- a row is a numbering
row_none : (a n k : ℕ) → k < a → times k (range_with_len a n) ≡ 0
row_none a zero k l = refl
row_none a (suc n) k l =
    let c : times k (range_with_len a (suc n)) ≡ cond {A = ℕ} (eqb a k) 1 0 + times k (range_with_len (a + 1) n) = sum_by-cons (λ s. cond (eqb s k) 1 0) a (range_with_len (a + 1) n) in
    let z : cond {A = ℕ} (eqb a k) 1 0 ≡ 0 = ap (λ (b : Bool). cond {A = ℕ} b 1 0) (ne_eqb a k (λ e. absurd (omega (arith, e, l)))) in
    omega (arith, c, z, row_none (a + 1) n k (omega (arith, l)))

row_once : (a n k : ℕ) → a ≤ k → k < a + n → times k (range_with_len a n) ≡ 1
row_once a zero k low high = absurd (omega (arith, low, high))
row_once a (suc n) k low high =
    let c : times k (range_with_len a (suc n)) ≡ cond {A = ℕ} (eqb a k) 1 0 + times k (range_with_len (a + 1) n) = sum_by-cons (λ s. cond (eqb s k) 1 0) a (range_with_len (a + 1) n) in
    at_head c (cases_lt a k) (row_once (a + 1) n k)
  where
    at_head : times k (range_with_len a (suc n)) ≡ cond {A = ℕ} (eqb a k) 1 0 + times k (range_with_len (a + 1) n) → (a < k) ⊎ (k ≤ a) → (a + 1 ≤ k → k < a + 1 + n → times k (range_with_len (a + 1) n) ≡ 1) → times k (range_with_len a (suc n)) ≡ 1
    at_head c (inl below) rest =
        let z : cond {A = ℕ} (eqb a k) 1 0 ≡ 0 = ap (λ (b : Bool). cond {A = ℕ} b 1 0) (ne_eqb a k (λ e. absurd (omega (arith, e, below)))) in
        omega (arith, c, z, rest (omega (arith, below)) (omega (arith, high)))
    at_head c (inr here) rest =
        let o : cond {A = ℕ} (eqb a k) 1 0 ≡ 1 = ap (λ (b : Bool). cond {A = ℕ} b 1 0) (eq-eqb a k (omega (arith, low, here))) in
        omega (arith, c, o, row_none (a + 1) n k (omega (arith, here)))

pub row_numbering : (n : ℕ) → IsNumbering (range_with_len 0 n)
row_numbering n k l = row_once 0 n k (omega arith) (omega (arith, l, length-range_with_len 0 n))

-- inputs and outputs of actors are those of their drafts
abbrev pub AreKinds : List Actor → List Draft → Type 0
AreKinds actors drafts = (a : ℕ) (d : Draft) → slice_get drafts a ≡ Some d → (actor : Actor) × (slice_get actors a ≡ Some actor) × (actor.kind ≡ d.kind)

pub numbers_same : (number : ActorKind → List ℕ) (actors : List Actor) (drafts : List Draft) → length actors ≡ length drafts → AreKinds actors drafts → numbers_of number actors ≡ flat_map (λ (d : Draft). number d.kind) drafts
numbers_same number [] [] l h = refl
numbers_same number [] (d ∷ drafts) l h = absurd (omega (arith, l))
numbers_same number (x ∷ actors) [] l h = absurd (omega (arith, l))
numbers_same number (x ∷ actors) (d ∷ drafts) l h =
    let own = h 0 d refl in
    let kind : x.kind ≡ d.kind = ap (λ (t : Actor). t.kind) (same_Some x own.0 own.1) ∙ own.2 in
    ap (λ k. number k ++ numbers_of number actors) kind ∙ ap (λ t. number d.kind ++ t) (numbers_same number actors drafts (omega (arith, l)) (λ a e f. h (suc a) e f))

-- the word on which an actor gives
same_is : (firing own : Bits) → firing ≡ own → Same firing own
same_is firing own e = subst (λ t. Same t own) (sym e) (same_self own)

pub write_word : (path : List ℕ) (place : ℕ) (kind : PlaceKind) (own : Bits) (first : Option RingSpec) (firing : Bits) → FiresBy (spot_form (at path place) kind) own first firing →
    ((q : ℕ) (p : Bits) (ring : RingSpec) → kind ≡ place_kind.When q p → first ≡ Some ring → IsOn ring.write p own) → IsWriteWord (spot_form (at path place) kind) firing own
write_word [] place place_kind.Param own first firing is sampled = same_is firing own is
write_word (call ∷ path) place place_kind.Param own first firing is sampled = same_is firing own is
write_word path place (place_kind.Defined e) own first firing is sampled = same_is firing own is
write_word path place (place_kind.Lit l) own first firing is sampled = same_is firing own is
write_word path place (place_kind.Op op args) own first firing is sampled = same_is firing own is
write_word path place (place_kind.Host op a b) own first firing is sampled = same_is firing own is
write_word path place (place_kind.When q p) own (Some ring) firing is sampled = subst (λ t. IsOn t p own) (sym is) (sampled q p ring refl refl)
write_word path place (place_kind.When q p) own None firing is sampled = absurd is
write_word path place (place_kind.Merge p a b) own first firing is sampled = same_is firing own is
write_word path place (place_kind.Fby l e) own first firing is sampled = same_is firing own is
write_word path place (place_kind.Buffer n e) own first firing is sampled = same_is firing own is
write_word path place (place_kind.Result c j) own first firing is sampled = same_is firing own is

-- and that on which it takes
read_same : (firing own read : Bits) → firing ≡ own → read ≡ own → Same firing read
read_same firing own read e f = subst (λ t. Same firing t) (sym f) (same_is firing own e)

pub read_word : (kind : ActorKind) (j count : ℕ) (own write firing read : Bits) (first : Option RingSpec) → IsReadOn kind j own write read → IsFiring kind own first firing → HasKind kind count →
    ((ring : RingSpec) → first ≡ Some ring → (p : Bits) → kind ≡ When p → ring.write ≡ write) → IsReadWord (plans.form_of kind) firing j read
read_word (Input x) j count own write firing read first is fires has sampled = read_same firing own read fires is
read_word (Lit v) j count own write firing read first is fires has sampled = read_same firing own read fires is
read_word (Op op) j count own write firing read first is fires has sampled = read_same firing own read fires is
read_word (Host op) j count own write firing read first is fires has sampled = read_same firing own read fires is
read_word (When p) j count own write firing read (Some ring) is fires has sampled = read_same firing write read (fires ∙ sampled ring refl p refl) is
read_word (When p) j count own write firing read None is fires has sampled = absurd fires
read_word (Merge p) zero count own write firing read first is fires has sampled = subst (λ t. IsOn t p read) (sym fires) is
read_word (Merge p) (suc j) count own write firing read first is fires has sampled =
    (turned p, λ i low. bit_at-turned p i low (omega (arith, has)), subst (λ t. IsOn t (turned p) read) (sym fires) is)
read_word (Fby v) j count own write firing read first is fires has sampled = read_same firing own read fires is
read_word Pass j count own write firing read first is fires has sampled = read_same firing own read fires is
read_word (Output x) j count own write firing read first is fires has sampled = read_same firing own read fires is

-- a word on which a form takes is too long
abbrev pub LongBy : Form → ℕ → Bits → Type 0
LongBy (Merged p) zero own = IsOnTooLong own p
LongBy (Merged p) (suc k) own = IsOnTooLong own (turned p)
LongBy form k own = ⊥

pub form_long : (kind : ActorKind) (k : ℕ) (own : Bits) → ReadsTooLong kind k own → LongBy (plans.form_of kind) k own
form_long (Input x) k own is = is
form_long (Lit v) k own is = is
form_long (Op op) k own is = is
form_long (Host op) k own is = is
form_long (When p) k own is = is
form_long (Merge p) zero own is = is
form_long (Merge p) (suc k) own is = is
form_long (Fby v) k own is = is
form_long Pass k own is = is
form_long (Output x) k own is = is

pub long_form : (kind : ActorKind) (k : ℕ) (own : Bits) → LongBy (plans.form_of kind) k own → ReadsTooLong kind k own
long_form (Input x) k own is = is
long_form (Lit v) k own is = is
long_form (Op op) k own is = is
long_form (Host op) k own is = is
long_form (When p) k own is = is
long_form (Merge p) zero own is = is
long_form (Merge p) (suc k) own is = is
long_form (Fby v) k own is = is
long_form Pass k own is = is
long_form (Output x) k own is = is

-- so the place is a merge
pub record IsLongMerge (kind : PlaceKind) (own : Bits) : Type 0 where
  pub p : Bits
  pub a : ℕ
  pub b : ℕ
  pub is : kind ≡ place_kind.Merge p a b
  pub long : IsOnTooLong own p ⊎ IsOnTooLong own (turned p)

pub place_long : (path : List ℕ) (place : ℕ) (kind : PlaceKind) (k : ℕ) (own : Bits) → LongBy (spot_form (at path place) kind) k own → IsLongMerge kind own
place_long [] place place_kind.Param k own is = absurd is
place_long (call ∷ path) place place_kind.Param k own is = absurd is
place_long path place (place_kind.Defined e) k own is = absurd is
place_long path place (place_kind.Lit l) k own is = absurd is
place_long path place (place_kind.Op op args) k own is = absurd is
place_long path place (place_kind.Host op a b) k own is = absurd is
place_long path place (place_kind.When q p) k own is = absurd is
place_long path place (place_kind.Merge p a b) zero own is = record { p = p; a = a; b = b; is = refl; long = inl is }
place_long path place (place_kind.Merge p a b) (suc k) own is = record { p = p; a = a; b = b; is = refl; long = inr is }
place_long path place (place_kind.Fby l e) k own is = absurd is
place_long path place (place_kind.Buffer n e) k own is = absurd is
place_long path place (place_kind.Result c j) k own is = absurd is

-- a place reads as many places as its form has operands
pub place_arity : (nodes : List PlacedNode) (n : PlacedNode) (path : List ℕ) (place : ℕ) (kind : PlaceKind) → IsProperKind n place kind → length (spot_reads nodes (at path place) kind) ≡ operands (spot_form (at path place) kind)
place_arity nodes n [] place place_kind.Param is = refl
place_arity nodes n (call ∷ path) place place_kind.Param is = refl
place_arity nodes n path place (place_kind.Defined e) is = refl
place_arity nodes n path place (place_kind.Lit l) is = refl
place_arity nodes n path place (place_kind.Op op args) is = length-map args (at path) ∙ is.1
place_arity nodes n path place (place_kind.Host op a b) is = refl
place_arity nodes n path place (place_kind.When q p) is = refl
place_arity nodes n path place (place_kind.Merge p a b) is = refl
place_arity nodes n path place (place_kind.Fby l e) is = refl
place_arity nodes n path place (place_kind.Buffer k e) is = refl
place_arity nodes n path place (place_kind.Result c j) is = refl

-- an actor that is no output, or that gives on no ring
pub none_inner : (kind : ActorKind) (gives : List ℕ) → output_of kind ≡ [] → GivesNone kind gives
none_inner (Input x) gives e = tt
none_inner (Lit v) gives e = tt
none_inner (Op op) gives e = tt
none_inner (Host op) gives e = tt
none_inner (When p) gives e = tt
none_inner (Merge p) gives e = tt
none_inner (Fby v) gives e = tt
none_inner Pass gives e = tt
none_inner (Output x) gives e = absurd (cc e)

pub none_gives : (kind : ActorKind) (gives : List ℕ) → gives ≡ [] → GivesNone kind gives
none_gives (Input x) gives e = tt
none_gives (Lit v) gives e = tt
none_gives (Op op) gives e = tt
none_gives (Host op) gives e = tt
none_gives (When p) gives e = tt
none_gives (Merge p) gives e = tt
none_gives (Fby v) gives e = tt
none_gives Pass gives e = tt
none_gives (Output x) gives e = e

-- the rings of one draft and no other lie in its row
pub rings_rise : (drafts : List Draft) (i j : ℕ) → i ≤ j → first_ring drafts i ≤ first_ring drafts j
rings_rise drafts i j l =
    let front : first_ring drafts i ≡ sum_by reads_count (take i (take j drafts)) = ap (sum_by reads_count) (sym (take-take i j drafts l)) in
    omega (arith, front, sum_by-take-le reads_count (take j drafts) i)

pub row_of : (drafts : List Draft) (a b k r : ℕ) (d e : Draft) → slice_get drafts a ≡ Some d → slice_get drafts b ≡ Some e → k < reads_count e → first_ring drafts b + k ≡ r →
    first_ring drafts a ≤ r → r < first_ring drafts a + reads_count d → b ≡ a
row_of drafts a b k r d e f g within at_r low high = by_order (cases_lt b a) (cases_lt a b)
  where
    by_order : (b < a) ⊎ (a ≤ b) → (a < b) ⊎ (b ≤ a) → b ≡ a
    by_order (inl l) other = absurd (omega (arith, within, at_r, low, high, first_next drafts b e g, rings_rise drafts (b + 1) a (omega (arith, l))))
    by_order (inr l) (inl m) = absurd (omega (arith, within, at_r, low, high, first_next drafts a d f, rings_rise drafts (a + 1) b (omega (arith, m))))
    by_order (inr l) (inr m) = omega (arith, l, m)

-- the number at an index of a row
pub row_at : (a n j : ℕ) → j < n → get_or (range_with_len a n) j 0 ≡ a + j
row_at a zero j l = absurd (omega (arith, l))
row_at a (suc n) zero l = omega arith
row_at a (suc n) (suc j) l = omega (arith, row_at (a + 1) n j (omega (arith, l)))

-- the slots of rings of one draft after another
abbrev pub slots_of_ring : RingSpec → ℕ
slots_of_ring ring = ring.size + 1

slots_here : (drafts : List Draft) (rings : List RingSpec) (upto a : ℕ) (d : Draft) → AreRingsOf drafts upto rings → a < upto → slice_get drafts a ≡ Some d → (k : ℕ) → k ≤ reads_count d →
    sum_by slots_of_ring (take (first_ring drafts a + k) rings) ≡ sum_by slots_of_ring (take (first_ring drafts a) rings) + k * (d.size + 1)
slots_here drafts rings upto a d are low f zero l =
    let z : first_ring drafts a + 0 ≡ first_ring drafts a = omega arith in
    let e = ap (λ n. sum_by slots_of_ring (take n rings)) z in
    omega (arith, e)
slots_here drafts rings upto a d are low f (suc k) l =
    let source = present d.reads.items k (omega (arith, l)) in
    let r = are.each a k (get_or d.reads.items k 0) d low f source in
    let size : slots_of_ring r.0 ≡ d.size + 1 = ap (λ t. t + 1) r.2.size in
    let s : first_ring drafts a + suc k ≡ first_ring drafts a + k + 1 = omega arith in
    let e = ap (λ n. sum_by slots_of_ring (take n rings)) s in
    let step = sum_take slots_of_ring rings (first_ring drafts a + k) r.0 r.1 in
    let before = slots_here drafts rings upto a d are low f k (omega (arith, l)) in
    omega (arith, e, step, before, size)

pub slots_front : (drafts : List Draft) (rings : List RingSpec) (upto : ℕ) → AreRingsOf drafts upto rings → (a : ℕ) → a ≤ upto → a ≤ length drafts → sum_by slots_of_ring (take (first_ring drafts a) rings) ≡ sum_by draft_slots (take a drafts)
slots_front drafts rings upto are zero l m = refl
slots_front drafts rings upto are (suc a) l m =
    let d = get_there drafts a (omega (arith, m)) in
    let s : suc a ≡ a + 1 = omega arith in
    let next : first_ring drafts (suc a) ≡ first_ring drafts a + reads_count d.0 = ap (first_ring drafts) s ∙ first_next drafts a d.0 d.1 in
    let e = ap (λ n. sum_by slots_of_ring (take n rings)) next in
    let here = slots_here drafts rings upto a d.0 are (omega (arith, l)) d.1 (reads_count d.0) (omega arith) in
    let before = slots_front drafts rings upto are a (omega (arith, l)) (omega (arith, m)) in
    let t = ap (λ n. sum_by draft_slots (take n drafts)) s in
    let step = sum_take draft_slots drafts a d.0 d.1 in
    omega (arith, e, here, before, t, step)
