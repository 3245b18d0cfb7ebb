-- Parts whose ends meet.
use Rattle.std.proofs.Common.{ℕ, ◌+◌, ◌<◌, ◌≤◌, ◌≡◌, List, [], length, get_or, set, ap, sym, ◌∙◌, subst, arith}
use Rattle.std.specs.Prelude.{Some, slice_get}
use Rattle.std.proofs.lemmas.Option.{slice_get_within, get_or_from_slice_get}
use Rattle.std.proofs.lemmas.List.{length-set}
use Rattle.std.proofs.lemmas.List.Elements.{All-set, All-get_or}
use Rattle.std.proofs.lemmas.List.Sums.{sum_by-set}
use Rattle.lucy_ring.specs.Views.{GiverView, TakerView}
use Rattle.lucy_worker.specs.declared.part.Part.{Part}
use Rattle.lucy_worker.specs.declared.place.EndPlace.{EndPlace}
use Rattle.lucy_worker.specs.Parts.{done_of}
use Rattle.lucy_worker.specs.News.{ends_of}
use Rattle.lucy_worker.specs.Meets.{HaveMet, with_giver, with_taker, set_giver, set_taker, HasGiver, HasTaker}
use Rattle.lucy_worker.specs.Readiness.{IsReady, AreReady, AreTwoEnds}

pub ends_giver : (p : Part) (n : ℕ) (h : GiverView) → ends_of (with_giver p n h) ≡ ends_of p
ends_giver p n h = (let l : length (set p.givers.items n h) ≡ length p.givers.items = length-set p.givers.items n h in omega arith)

pub ends_taker : (p : Part) (n : ℕ) (u : TakerView) → ends_of (with_taker p n u) ≡ ends_of p
ends_taker p n u = (let l : length (set p.takers.items n u) ≡ length p.takers.items = length-set p.takers.items n u in omega arith)

pub ready_giver : (p : Part) (n : ℕ) (h : GiverView) → IsReady p → h.given ≡ [] → IsReady (with_giver p n h)
ready_giver p n h ready none =
    let empty : length h.given ≡ 0 = ap (λ xs. length xs) none in
    record {
      usable = ready.usable;
      state = ready.state;
      givers = length-set p.givers.items n h ∙ ready.givers;
      takers = ready.takers;
      few = (let e = ends_giver p n h in let f = ready.few in omega arith);
      quota = ready.quota;
      items = ready.items;
      room = ready.room;
      gave_few = All-set (λ (e : GiverView). length e.given ≤ 1048576 + done_of p) p.givers.items n h (omega arith) ready.gave_few;
      took_few = ready.took_few;
    }

pub ready_taker : (p : Part) (n : ℕ) (u : TakerView) → IsReady p → u.taken ≡ [] → IsReady (with_taker p n u)
ready_taker p n u ready none =
    let empty : length u.taken ≡ 0 = ap (λ xs. length xs) none in
    record {
      usable = ready.usable;
      state = ready.state;
      givers = ready.givers;
      takers = length-set p.takers.items n u ∙ ready.takers;
      few = (let e = ends_taker p n u in let f = ready.few in omega arith);
      quota = ready.quota;
      items = ready.items;
      room = ready.room;
      gave_few = ready.gave_few;
      took_few = All-set (λ (e : TakerView). length e.taken ≤ 1048576 + done_of p) p.takers.items n u (omega arith) ready.took_few;
    }

-- what is read from a list at a place, where it is known by another name
pub read_is : {X : Type 0} (xs ys : List X) (k : ℕ) (x y d : X) → xs ≡ ys → slice_get ys k ≡ Some x → y ≡ get_or xs k d → y ≡ x
read_is xs ys k x y d same at is = is ∙ get_or_from_slice_get xs k x d (ap (λ zs. slice_get zs k) same ∙ at)

pub read_at : {X : Type 0} (xs ys : List X) (k : ℕ) (x y d : X) → xs ≡ ys → slice_get ys k ≡ Some x → y ≡ get_or xs k d → slice_get xs k ≡
    Some y
read_at xs ys k x y d same at is = ap (λ zs. slice_get zs k) same ∙ at ∙ ap Some (sym (read_is xs ys k x y d same at is))

pub read_within : {X : Type 0} (xs ys : List X) (k : ℕ) (x : X) → xs ≡ ys → slice_get ys k ≡ Some x → k < length xs
read_within xs ys k x same at = slice_get_within xs k x (ap (λ zs. slice_get zs k) same ∙ at)

-- a part for another that is ready and has as many ends
pub set_ready : (ps : List Part) (k : ℕ) (d q : Part) → AreReady ps → k < length ps → IsReady q → ends_of q ≡ ends_of (get_or ps k d) → AreReady (set ps k q)
set_ready ps k d q ready l is same = record {
  each = All-set IsReady ps k q is ready.each;
  few = (let e = sum_by-set ends_of ps k q d l in let f = ready.few in omega arith);
}

set_at : (ps : List Part) (k : ℕ) (p q : Part) → AreReady ps → slice_get ps k ≡ Some p → (IsReady p → IsReady q) → ends_of q ≡ ends_of p →
    AreReady (set ps k q)
set_at ps k p q ready at is same =
    let l : k < length ps = slice_get_within ps k p at in
    let here : get_or ps k p ≡ p = get_or_from_slice_get ps k p p at in
    set_ready ps k p q ready l (is (subst IsReady here (All-get_or IsReady ps k p l ready.each))) (same ∙ ap ends_of (sym here))

-- parts with another giver, another taker, and both at one part
pub giver_set : (ps : List Part) (k n : ℕ) (p : Part) (h : GiverView) → AreReady ps → slice_get ps k ≡ Some p → h.given ≡ [] → AreReady
    (set ps k (with_giver p n h))
giver_set ps k n p h ready at none = set_at ps k p (with_giver p n h) ready at (λ is. ready_giver p n h is none) (ends_giver p n h)

pub taker_set : (ps : List Part) (k n : ℕ) (p : Part) (u : TakerView) → AreReady ps → slice_get ps k ≡ Some p → u.taken ≡ [] → AreReady
    (set ps k (with_taker p n u))
taker_set ps k n p u ready at none = set_at ps k p (with_taker p n u) ready at (λ is. ready_taker p n u is none) (ends_taker p n u)

pub both_set : (ps : List Part) (k n m : ℕ) (p : Part) (h : GiverView) (u : TakerView) → AreReady ps → slice_get ps k ≡ Some p → h.given ≡
    [] → u.taken ≡ [] → AreReady (set ps k (with_taker (with_giver p n h) m u))
both_set ps k n m p h u ready at none no_more =
    set_at ps k p (with_taker (with_giver p n h) m u) ready at
    (λ is. ready_taker (with_giver p n h) m u (ready_giver p n h is none) no_more)
    (ends_taker (with_giver p n h) m u ∙ ends_giver p n h)

-- a place of an end is one of a part
pub giver_within : (ps : List Part) (giver : EndPlace) → HasGiver ps giver → giver.part < length ps
giver_within ps giver g = slice_get_within ps giver.part g.part g.part_is

pub taker_within : (ps : List Part) (taker : EndPlace) → HasTaker ps taker → taker.part < length ps
taker_within ps taker t = slice_get_within ps taker.part t.part t.part_is

-- two ends of one ring at different parts
pub two_ends : (ps qs : List Part) (giver taker : EndPlace) (p q : Part) (g : HasGiver ps giver) (t : HasTaker qs taker) → p ≡ g.part → q ≡
    t.part → g.end.ring ≡ t.end.ring → AreTwoEnds p giver.number q taker.number g.end t.end
two_ends ps qs giver taker p q g t is_p is_q ring = record {
  giver_is = ap (λ (x : Part). slice_get x.givers.items giver.number) is_p ∙ g.end_is;
  taker_is = ap (λ (x : Part). slice_get x.takers.items taker.number) is_q ∙ t.end_is;
  ring = ring;
}

-- an end that was read at a place, and parts with another there
pub giver_is : (ps : List Part) (giver : EndPlace) (p : Part) (e d : GiverView) (g : HasGiver ps giver) → p ≡ g.part → e ≡ get_or
    p.givers.items giver.number d → e ≡ g.end
giver_is ps giver p e d g same is = read_is p.givers.items g.part.givers.items giver.number g.end e d
    (ap (λ (x : Part). x.givers.items) same) g.end_is is

pub taker_is : (ps : List Part) (taker : EndPlace) (p : Part) (e d : TakerView) (t : HasTaker ps taker) → p ≡ t.part → e ≡ get_or
    p.takers.items taker.number d → e ≡ t.end
taker_is ps taker p e d t same is = read_is p.takers.items t.part.takers.items taker.number t.end e d
    (ap (λ (x : Part). x.takers.items) same) t.end_is is

pub have_met : (g g' : GiverView) (t t' : TakerView) (h : GiverView) (u : TakerView) → g ≡ g' → t ≡ t' → HaveMet g t h u → HaveMet g' t' h u
have_met g g' t t' h u e f met = subst (λ (x : GiverView). HaveMet x t' h u) e (subst (λ (x : TakerView). HaveMet g x h u) f met)

pub given_at : (ps ps0 : List Part) (giver : EndPlace) (p : Part) (h : GiverView) (g : HasGiver ps giver) → ps0 ≡ ps → p ≡ g.part → set ps0
    giver.part (with_giver p giver.number h) ≡ set_giver ps giver g h
given_at ps ps0 giver p h g same is = ap (λ (xs : List Part). set xs giver.part (with_giver p giver.number h)) same ∙ ap
    (λ (x : Part). set ps giver.part (with_giver x giver.number h)) is

pub taken_at : (ps ps0 : List Part) (taker : EndPlace) (p : Part) (u : TakerView) (t : HasTaker ps taker) → ps0 ≡ ps → p ≡ t.part → set ps0
    taker.part (with_taker p taker.number u) ≡ set_taker ps taker t u
taken_at ps ps0 taker p u t same is = ap (λ (xs : List Part). set xs taker.part (with_taker p taker.number u)) same ∙ ap
    (λ (x : Part). set ps taker.part (with_taker x taker.number u)) is
