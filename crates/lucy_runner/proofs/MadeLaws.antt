-- The parts of all actors with the ends of all rings.
use Rattle.std.proofs.Common.{ℕ, suc, zero, ◌+◌, ◌<◌, ◌≤◌, ◌≡◌, Bool, true, false, cond, eqb, List, [], ◌∷◌, length, get_or, ap, sym, refl, ◌∙◌, subst, inl, inr, arith, length-append}
use Rattle.std.specs.Prelude.{ℤ, Some, All, slice_get}
use Rattle.std.proofs.lemmas.Bool.{cases_eq, eq-eqb, ne_eqb}
use Rattle.std.proofs.lemmas.Option.{slice_get_within, slice_get-get_or}
use Rattle.lucy_word.specs.Limits.{limit_number}
use Rattle.lucy_word.specs.declared.limit.Limit.TheVariants as limit
use Rattle.lucy_host.proofs.Elements.{get_there}
use Rattle.lucy_stream.specs.Totals.{total}
use Rattle.lucy_net.specs.declared.net.Actor.{Actor}
use Rattle.lucy_net.specs.declared.net.RingSpec.{RingSpec}
use Rattle.lucy_net.specs.declared.net.Net.{Net}
use Rattle.lucy_net.specs.Plans.{giver, taker}
use Rattle.lucy_net.specs.Proper.{numbers_where, IsProper, IsProperActor, IsSupplied}
use Rattle.lucy_net.proofs.NetLaws.{usable}
use Rattle.lucy_ring.specs.Views.{GiverView, TakerView}
use Rattle.lucy_stream.proofs.TotalLaws.{total-same}
use Rattle.lucy_worker.specs.declared.part.Part.{Part}
use Rattle.lucy_worker.specs.News.{IsNew, ends_of, ends_by, most_ends}
use Rattle.lucy_runner.specs.declared.place.Ends.{Ends}
use Rattle.lucy_runner.specs.Making.{rings_from, rings_to, IsBegun, IsFirstPart, AreFirstParts, HasEndsOf, HaveAllJoined, AreNumbered, CanWork}
use Rattle.lucy_runner.proofs.WorkingLaws.{value_in, sum_all}
use Rattle.lucy_runner.proofs.JoiningLaws.{row_length, given_none, taken_none}
use Rattle.lucy_runner.proofs.BegunLaws.{begun_still, begun_new}

-- an actor of the net, whose part has done nothing and has the ends of its rings
pub record IsOut (inputs : List (List ℤ)) (instants : ℕ) (parts : List Part) (givers : List GiverView) (takers : List TakerView) (a : ℕ) (actor : Actor) : Type 0 where
  pub part : Part
  pub there : slice_get parts a ≡ Some part
  pub alone : Part
  pub first : IsFirstPart inputs instants a actor alone
  pub ends : HasEndsOf givers takers actor.gives actor.takes alone part

pub is_out : (net : Net) (inputs : List (List ℤ)) (instants : ℕ) (alone parts : List Part) (ends : List Ends) → IsProper net → AreFirstParts inputs instants net.actors alone → (joined : HaveAllJoined net.rings (length net.rings) alone parts ends) →
    (a : ℕ) (actor : Actor) → slice_get net.actors a ≡ Some actor → IsOut inputs instants parts joined.givers joined.takers a actor
is_out net inputs instants alone parts ends proper first joined a actor here =
    let l : a < length net.actors = slice_get_within net.actors a actor here in
    let count : length alone ≡ length net.actors = first.count in
    let same : length parts ≡ length alone = joined.count in
    let (p, p_is) = get_there alone a (omega arith) in
    let (q, q_is) = get_there parts a (omega arith) in
    let all : HasEndsOf joined.givers joined.takers (rings_from net.rings a (length net.rings)) (rings_to net.rings a (length net.rings)) p q = joined.each a p q p_is q_is in
    let is : IsProperActor net a actor = proper.actors a actor here in
    record {
      part = q;
      there = q_is;
      alone = p;
      first = first.each a actor p here p_is;
      ends = subst (λ (xs : List ℕ). HasEndsOf joined.givers joined.takers xs actor.takes p q) (sym is.gives) (subst (λ (xs : List ℕ). HasEndsOf joined.givers joined.takers (rings_from net.rings a (length net.rings)) xs p q) (sym is.takes) all);
    }

pub out_begun : (inputs : List (List ℤ)) (instants : ℕ) (parts : List Part) (givers : List GiverView) (takers : List TakerView) (a : ℕ) (actor : Actor) (out : IsOut inputs instants parts givers takers a actor) → IsBegun inputs instants a actor out.part
out_begun inputs instants parts givers takers a actor out = begun_still inputs instants a actor givers takers actor.gives actor.takes out.alone out.part out.first out.ends

-- the parts are in order
pub numbered_all : (net : Net) (inputs : List (List ℤ)) (instants : ℕ) (alone parts : List Part) (ends : List Ends) → IsProper net → AreFirstParts inputs instants net.actors alone → HaveAllJoined net.rings (length net.rings) alone parts ends → AreNumbered parts
numbered_all net inputs instants alone parts ends proper first joined a q e =
    let l : a < length parts = slice_get_within parts a q e in
    let count : length alone ≡ length net.actors = first.count in
    let same : length parts ≡ length alone = joined.count in
    let (actor, here) = get_there net.actors a (omega arith) in
    let out = is_out net inputs instants alone parts ends proper first joined a actor here in
    let it : out.part ≡ q = (let f = out.there in cc) in
    ap (λ (x : Part). x.number) (sym it) ∙ (out_begun inputs instants parts joined.givers joined.takers a actor out).is

-- sums over numbers
total_both : (n : ℕ) (f g : ℕ → ℕ) → total n (λ a. f a + g a) ≡ total n f + total n g
total_both zero f g = refl
total_both (suc n) f g = omega (arith, total_both n f g)

abbrev one : Bool → ℕ
one b = cond b 1 0

past_none : (n m : ℕ) → n ≤ m → total n (λ a. one (eqb m a)) ≡ 0
past_none zero m l = refl
past_none (suc n) m l = omega (arith, past_none n m (omega arith), ap one (ne_eqb m n (λ (e : m ≡ n). absurd (omega arith))))

one_most : (n m : ℕ) → total n (λ a. one (eqb m a)) ≤ 1
one_most zero m = omega arith
one_most (suc n) m = elim (cases_eq m n) [
  | inl same ↦ omega (arith, past_none n m (omega arith), ap one (eq-eqb m n same))
  | inr other ↦ omega (arith, one_most n m, ap one (ne_eqb m n other))
]

row_more : (f : ℕ → ℕ) (n a : ℕ) → length (numbers_where (λ r. eqb (f r) a) (suc n)) ≡ length (numbers_where (λ r. eqb (f r) a) n) + one (eqb (f n) a)
row_more f n a =
    let len : length (cond (eqb (f n) a) (n ∷ []) []) ≡ one (eqb (f n) a) = elim (eqb (f n) a) as (λ b. length (cond b (n ∷ []) []) ≡ one b) [ true ↦ refl | false ↦ refl ] in
    omega (arith, length-append (numbers_where (λ r. eqb (f r) a) n) (cond (eqb (f n) a) (n ∷ []) []), len)

zeros : (k : ℕ) → total k (λ (a : ℕ). 0) ≡ 0
zeros zero = refl
zeros (suc k) = omega (arith, zeros k)

-- each ring is in one row
rows_total : (f : ℕ → ℕ) (k n : ℕ) → total k (λ a. length (numbers_where (λ r. eqb (f r) a) n)) ≤ n
rows_total f k zero = omega (arith, zeros k)
rows_total f k (suc n) =
    let more : total k (λ a. length (numbers_where (λ r. eqb (f r) a) (suc n))) ≡ total k (λ a. length (numbers_where (λ r. eqb (f r) a) n) + one (eqb (f n) a)) =
    total-same k (λ a. length (numbers_where (λ r. eqb (f r) a) (suc n))) (λ a. length (numbers_where (λ r. eqb (f r) a) n) + one (eqb (f n) a)) (λ a l. row_more f n a) in
    omega (arith, more, total_both k (λ a. length (numbers_where (λ r. eqb (f r) a) n)) (λ a. one (eqb (f n) a)), rows_total f k n, one_most k (f n))

-- all parts together have two ends for each ring
few_ends : (net : Net) (inputs : List (List ℤ)) (instants : ℕ) (alone parts : List Part) (ends : List Ends) → IsProper net → AreFirstParts inputs instants net.actors alone → HaveAllJoined net.rings (length net.rings) alone parts ends → ends_by parts ≤ most_ends
few_ends net inputs instants alone parts ends proper first joined =
    let count : length alone ≡ length net.actors = first.count in
    let same : length parts ≡ length alone = joined.count in
    let n : ℕ = length net.rings in
    let from : ℕ → ℕ = λ (a : ℕ). length (rings_from net.rings a n) in
    let to : ℕ → ℕ = λ (a : ℕ). length (rings_to net.rings a n) in
    let each : (a : ℕ) → a < length parts → value_in ends_of (slice_get parts a) ≡ from a + to a = λ (a : ℕ) (l : a < length parts).
    (let (p, p_is) = get_there alone a (omega arith) in
    let (q, q_is) = get_there parts a l in
    let have = joined.each a p q p_is q_is in
    let value : value_in ends_of (slice_get parts a) ≡ length q.givers.items + length q.takers.items = ap (value_in ends_of) q_is in
    omega (arith, value, row_length joined.givers (rings_from net.rings a n) q.givers.items have.givers_are, row_length joined.takers (rings_to net.rings a n) q.takers.items have.takers_are)) in
    let sum : total (length parts) (λ a. value_in ends_of (slice_get parts a)) ≡ total (length parts) (λ a. from a + to a) = total-same (length parts) (λ a. value_in ends_of (slice_get parts a)) (λ a. from a + to a) each in
    let most_from : total (length parts) from ≤ n = rows_total (giver net) (length parts) n in
    let most_to : total (length parts) to ≤ n = rows_total (taker net) (length parts) n in
    let few : n ≤ limit_number limit.Rings = proper.few_rings in
    omega (arith, sum, total_both (length parts) from to, most_from, most_to, few, sum_all ends_of parts)

-- workers can be made of the parts
pub works_all : (net : Net) (inputs : List (List ℤ)) (instants : ℕ) (alone parts : List Part) (ends : List Ends) → IsProper net → IsSupplied inputs net instants → instants ≤ limit_number limit.Instants → AreFirstParts inputs instants net.actors alone →
    HaveAllJoined net.rings (length net.rings) alone parts ends → CanWork parts
works_all net inputs instants alone parts ends proper supplied early first joined = (
  λ k d l.
      let count : length alone ≡ length net.actors = first.count in
      let same : length parts ≡ length alone = joined.count in
      let (actor, here) = get_there net.actors k (omega arith) in
      let out = is_out net inputs instants alone parts ends proper first joined k actor here in
      let it : out.part ≡ get_or parts k d = (let f = out.there in let g : slice_get parts k ≡ Some (get_or parts k d) = slice_get-get_or parts k d l in cc) in
      let new : IsNew out.part = begun_new inputs instants k actor joined.givers joined.takers out.alone out.part out.first out.ends (usable net k actor proper here) (supplied k actor here) early
      (given_none net.rings joined.givers joined.takers joined.made joined.new) (taken_none net.rings joined.givers joined.takers joined.made joined.new) in
      subst IsNew it new,
  few_ends net inputs instants alone parts ends proper first joined,
)

-- the actors of rings are there
pub rings_within : (net : Net) → IsProper net → All (λ ring. (ring.from < length net.actors) × (ring.to < length net.actors)) net.rings
rings_within net proper = λ k d l.
    let is = proper.rings k (get_or net.rings k d) (slice_get-get_or net.rings k d l) in
    (slice_get_within net.actors (get_or net.rings k d).from is.giver is.gives_here, slice_get_within net.actors (get_or net.rings k d).to is.taker is.takes_here)

-- parts without ends
pub alone_none : (inputs : List (List ℤ)) (instants : ℕ) (actors : List Actor) (alone : List Part) → AreFirstParts inputs instants actors alone → All (λ p. (p.givers.items ≡ []) × (p.takers.items ≡ [])) alone
alone_none inputs instants actors alone first = λ k d l.
    let count : length alone ≡ length actors = first.count in
    let (actor, here) = get_there actors k (omega arith) in
    let is = first.each k actor (get_or alone k d) here (slice_get-get_or alone k d l) in
    (is.no_givers, is.no_takers)

-- what was made of the net's own lists
pub first_of : (net : Net) (inputs : List (List ℤ)) (instants : ℕ) (actors : List Actor) (alone : List Part) → actors ≡ net.actors → AreFirstParts inputs instants actors alone → AreFirstParts inputs instants net.actors alone
first_of net inputs instants actors alone e is = subst (λ (xs : List Actor). AreFirstParts inputs instants xs alone) e is

pub joined_of : (net : Net) (rings : List RingSpec) (before alone after : List Part) (ends : List Ends) → rings ≡ net.rings → before ≡ alone → HaveAllJoined rings (length rings) before after ends → HaveAllJoined net.rings (length net.rings) alone after ends
joined_of net rings before alone after ends e f is = subst (λ (xs : List Part). HaveAllJoined net.rings (length net.rings) xs after ends) f (subst (λ (xs : List RingSpec). HaveAllJoined xs (length xs) before after ends) e is)
