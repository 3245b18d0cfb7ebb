-- Other ends at places of the workers' parts, and what stays.
use Rattle.std.proofs.Common.{ℕ, suc, zero, ◌<◌, ◌≡◌, ◌⊎◌, List, [], ◌∷◌, length, get_or, set, ap, sym, refl, ◌∙◌, subst, inl, inr, arith}
use Rattle.std.specs.Prelude.{Option, Some, None, slice_get}
use Rattle.std.proofs.lemmas.Bool.{cases_eq}
use Rattle.std.proofs.lemmas.Option.{slice_get-get_or, slice_get_within}
use Rattle.std.proofs.lemmas.List.{get_or-set_same, get_or-set_other, set-set, length-set}
use Rattle.lucy_net.specs.declared.net.Actor.{Actor}
use Rattle.lucy_ring.specs.Views.{GiverView, TakerView}
use Rattle.lucy_worker.specs.declared.part.Part.{Part}
use Rattle.lucy_worker.specs.declared.place.EndPlace.{EndPlace}
use Rattle.lucy_worker.specs.Meets.{MetBetween, MetWithin, set_giver, set_taker, with_giver, with_taker}
use Rattle.lucy_worker.proofs.WithinLaws.{get_set}
use Rattle.lucy_core.proofs.ListLaws.{get_set_other}
use Rattle.lucy_runner.specs.declared.place.Place.{Place}
use Rattle.lucy_runner.specs.Crews.{part_in, placed_in, part_of}
use Rattle.lucy_runner.specs.Turns.{IsButEnds, AreButEnds}
use Rattle.lucy_runner.specs.Seats.{parts_at, HaveMetAt}

-- ends of one worker that met, among all
pub within_all : (crew : List (List Part)) (s : ℕ) (giver taker : EndPlace) (ps : List Part) → s < length crew → MetWithin (parts_at crew s) giver taker ps → HaveMetAt crew s giver s taker (set crew s ps)
within_all crew s giver taker ps l is =
    let first : List Part = set_giver (parts_at crew s) giver is.g is.h in
    let e : parts_at (set crew s first) s ≡ first = get_or-set_same crew s first [] l in
    record {
      g = is.g;
      t = is.t;
      h = is.h;
      u = is.u;
      met = is.met;
      then = record {
        part = is.then.part;
        part_is = ap (λ (xs : List Part). slice_get xs taker.part) e ∙ is.then.part_is;
        end =
            is.then.end;
        end_is = is.then.end_is;
      };
      after = ap (set crew s) is.parts
          ∙ sym (set-set crew s first (set_taker first taker is.then is.u))
          ∙ ap (λ (xs : List Part). set (set crew s first) s (set xs taker.part (with_taker is.then.part taker.number is.u))) (sym e);
    }

-- ends of two workers
pub between_all : (crew : List (List Part)) (s t : ℕ) (giver taker : EndPlace) (ps qs : List Part) → (s ≡ t → ⊥) → MetBetween (parts_at crew s) giver (parts_at crew t) taker ps qs → HaveMetAt crew s giver t taker (set (set crew s ps) t qs)
between_all crew s t giver taker ps qs ne is =
    let first : List Part = set_giver (parts_at crew s) giver is.g is.h in
    let e : parts_at (set crew s first) t ≡ parts_at crew t = get_or-set_other crew s t first [] (λ (e : t ≡ s). ne (sym e)) in
    record {
      g = is.g;
      t = is.t;
      h = is.h;
      u = is.u;
      met = is.met;
      then = record {
        part = is.t.part;
        part_is = ap (λ (xs : List Part). slice_get xs taker.part) e ∙ is.t.part_is;
        end = is.t.end;
        end_is = is.t.end_is;
      };
      after = ap (λ (xs : List Part). set (set crew s xs) t qs) is.givers
          ∙ ap (λ (xs : List Part). set (set crew s first) t xs) is.takers
          ∙ ap (λ (xs : List Part). set (set crew s first) t (set xs taker.part (with_taker is.t.part taker.number is.u))) (sym e);
    }

-- another part at a place
abbrev pub set_part : List (List Part) → ℕ → ℕ → Part → List (List Part)
set_part crew s k p = set crew s (set (parts_at crew s) k p)

abbrev pub part_here : List (List Part) → ℕ → ℕ → Option Part
part_here crew s k = part_in (slice_get crew s) k

part_same : (crew : List (List Part)) (s k : ℕ) (p q : Part) → part_here crew s k ≡ Some p → part_here (set_part crew s k q) s k ≡ Some q
part_same [] s k p q e = absurd (cc)
part_same (ps ∷ crew) zero k p q e = get_set ps k p q e
part_same (ps ∷ crew) (suc s) k p q e = part_same crew s k p q e

part_other : (crew : List (List Part)) (s k : ℕ) (q : Part) (t j : ℕ) → (s ≡ t → k ≡ j → ⊥) → part_here (set_part crew s k q) t j ≡ part_here crew t j
part_other [] s k q t j ne = refl
part_other (ps ∷ crew) zero k q zero j ne = get_set_other ps k j q (ne refl)
part_other (ps ∷ crew) zero k q (suc t) j ne = refl
part_other (ps ∷ crew) (suc s) k q zero j ne = refl
part_other (ps ∷ crew) (suc s) k q (suc t) j ne = part_other crew s k q t j (λ (e : s ≡ t). ne (ap suc e))

counts_kept : (crew : List (List Part)) (s k : ℕ) (q : Part) (t : ℕ) (ps qs : List Part) → slice_get crew t ≡ Some ps → slice_get (set_part crew s k q) t ≡ Some qs → length qs ≡ length ps
counts_kept [] s k q t ps qs e f = absurd (cc)
counts_kept (xs ∷ crew) zero k q zero ps qs e f = (let a : xs ≡ ps = cc in let b : set xs k q ≡ qs = cc in ap (λ (ys : List Part). length ys) (sym b) ∙ length-set xs k q ∙ ap (λ (ys : List Part). length ys) a)
counts_kept (xs ∷ crew) zero k q (suc t) ps qs e f = (let a : qs ≡ ps = cc in ap (λ (ys : List Part). length ys) a)
counts_kept (xs ∷ crew) (suc s) k q zero ps qs e f = (let a : qs ≡ ps = cc in ap (λ (ys : List Part). length ys) a)
counts_kept (xs ∷ crew) (suc s) k q (suc t) ps qs e f = counts_kept crew s k q t ps qs e f

here_at : (crew : List (List Part)) (s k : ℕ) (ps : List Part) (p : Part) → slice_get crew s ≡ Some ps → slice_get ps k ≡ Some p → part_here crew s k ≡ Some p
here_at crew s k ps p e f = ap (λ (o : Option (List Part)). part_in o k) e ∙ f

same_ends : (p q : Part) → q ≡ p → IsButEnds p q
same_ends p q e = subst (λ (x : Part). IsButEnds p x) (sym e) (record { rest = refl; givers = refl; takers = refl })

one_or_other : (s k t j : ℕ) → ((s ≡ t) × (k ≡ j)) ⊎ (s ≡ t → k ≡ j → ⊥)
one_or_other s k t j = elim (cases_eq s t) [
  | inl a ↦ elim (cases_eq k j) [ inl b ↦ inl (a, b) | inr ne ↦ inr (λ (c : s ≡ t) (b : k ≡ j). ne b) ]
  | inr ne ↦ inr (λ (a : s ≡ t) (b : k ≡ j). ne a)
]

moved_here : (crew : List (List Part)) (s k t j : ℕ) → s ≡ t → k ≡ j → part_here crew t j ≡ part_here crew s k
moved_here crew s k t j e f = ap (λ n. part_here crew n j) (sym e) ∙ ap (part_here crew s) (sym f)

kept_at : (crew : List (List Part)) (s k : ℕ) (p q : Part) (t j : ℕ) (x y : Part) → part_here crew s k ≡ Some p → IsButEnds p q → part_here crew t j ≡ Some x → part_here (set_part crew s k q) t j ≡ Some y → IsButEnds x y
kept_at crew s k p q t j x y e is old now = elim (one_or_other s k t j) [
  | inl same ↦
      let a : Some x ≡ Some p = sym old ∙ moved_here crew s k t j same.0 same.1 ∙ e in
      let b : Some y ≡ Some q = sym now ∙ moved_here (set_part crew s k q) s k t j same.0 same.1 ∙ part_same crew s k p q e in
      let c : p ≡ x = cc in
      let d : q ≡ y = cc in
      subst (λ (v : Part). IsButEnds v y) c (subst (λ (v : Part). IsButEnds p v) d is)
  | inr other ↦ (let a : Some y ≡ Some x = sym now ∙ part_other crew s k q t j other ∙ old in let b : y ≡ x = cc in same_ends x y b)
]

-- the same parts but for the ends of one
rest_kept : (crew : List (List Part)) (s k : ℕ) (p q : Part) → part_here crew s k ≡ Some p → IsButEnds p q → AreButEnds crew (set_part crew s k q)
rest_kept crew s k p q e is = record {
  seats = length-set crew s (set (parts_at crew s) k q);
  counts = λ t ps qs f g. counts_kept crew s k q t ps qs f g;
  parts = λ t j ps qs x y f g at new.
      (let old : part_here crew t j ≡ Some x = here_at crew t j ps x f at in
      let now : part_here (set_part crew s k q) t j ≡ Some y = here_at (set_part crew s k q) t j qs y g new in
      kept_at crew s k p q t j x y e is old now);
}

-- the same parts but for their ends twice
pub still_but_ends : (crew mid met : List (List Part)) → AreButEnds crew mid → AreButEnds mid met → AreButEnds crew met
still_but_ends crew mid met first then = record {
  seats = then.seats ∙ first.seats;
  counts = λ s ps qs e f.
      (let ms : List Part = get_or mid s [] in
      let m : slice_get mid s ≡ Some ms = slice_get-get_or mid s [] (omega (arith, slice_get_within crew s ps e, first.seats)) in
      then.counts s ms qs m f ∙ first.counts s ps ms e m);
  parts = λ s k ps qs p q e f g h.
      (let ms : List Part = get_or mid s [] in
      let m : slice_get mid s ≡ Some ms = slice_get-get_or mid s [] (omega (arith, slice_get_within crew s ps e, first.seats)) in
      let x : Part = get_or ms k p in
      let at : slice_get ms k ≡ Some x = slice_get-get_or ms k p (omega (arith, slice_get_within ps k p g, first.counts s ps ms e m)) in
      let a : IsButEnds p x = first.parts s k ps ms p x e m g at in
      let b : IsButEnds x q = then.parts s k ms qs x q m f at h in
      record {
        rest = b.rest ∙ ap (λ (v : Part). record v { givers = q.givers; takers = q.takers }) a.rest;
        givers = b.givers ∙ a.givers;
        takers = b.takers ∙ a.takers;
      });
}

pub all_but_ends : (crew : List (List Part)) → AreButEnds crew crew
all_but_ends crew = record {
  seats = refl;
  counts = λ s ps qs e f. (let a : qs ≡ ps = cc in ap (λ (xs : List Part). length xs) a);
  parts = λ s k ps qs p q e f g h. (let a : ps ≡ qs = cc in let b : slice_get ps k ≡ Some q = ap (λ (xs : List Part). slice_get xs k) a ∙ h in let c : q ≡ p = cc in same_ends p q c);
}

-- where the ends of a ring are
pub record IsGiverEnd (crew : List (List Part)) (places : List Place) (n r from : ℕ) (g : GiverView) : Type 0 where
  pub part : Part
  pub is : part_of crew places from ≡ Some part
  pub gives : slice_get part.actor.gives n ≡ Some r
  pub end : slice_get part.givers.items n ≡ Some g

pub record IsTakerEnd (crew : List (List Part)) (places : List Place) (n r to : ℕ) (t : TakerView) : Type 0 where
  pub part : Part
  pub is : part_of crew places to ≡ Some part
  pub takes : slice_get part.actor.takes n ≡ Some r
  pub end : slice_get part.takers.items n ≡ Some t

-- where the part of an actor is, and what a part at a place means for it
pub record StandsAt (crew : List (List Part)) (places : List Place) (a : ℕ) (p : Part) : Type 0 where
  pub place : Place
  pub at : slice_get places a ≡ Some place
  pub here : part_here crew place.seat place.part ≡ Some p

stands_in : (crew : List (List Part)) (places : List Place) (a : ℕ) (p : Part) (o : Option Place) → slice_get places a ≡ o → placed_in crew o ≡ Some p → StandsAt crew places a p
stands_in crew places a p None at e = absurd (cc)
stands_in crew places a p (Some place) at e = record { place = place; at = at; here = e }

pub stands_at : (crew : List (List Part)) (places : List Place) (a : ℕ) (p : Part) → part_of crew places a ≡ Some p → StandsAt crew places a p
stands_at crew places a p e = stands_in crew places a p (slice_get places a) refl e

-- a part with another at its place, where the actor is the same
record IsKept (crew : List (List Part)) (places : List Place) (s k a : ℕ) (p q x : Part) : Type 0 where
  pub part : Part
  pub is : part_of (set_part crew s k q) places a ≡ Some part
  pub which : ((x ≡ p) × (part ≡ q)) ⊎ (part ≡ x)

kept_part : (crew : List (List Part)) (places : List Place) (s k a : ℕ) (p q x : Part) → part_here crew s k ≡ Some p → part_of crew places a ≡ Some x → IsKept crew places s k a p q x
kept_part crew places s k a p q x e f =
    let at : StandsAt crew places a x = stands_at crew places a x f in
    elim (one_or_other s k at.place.seat at.place.part) [
      | inl same ↦
          let there : Some x ≡ Some p = sym at.here ∙ moved_here crew s k at.place.seat at.place.part same.0 same.1 ∙ e in
          let it : x ≡ p = cc in
          record {
            part = q;
            is = ap (placed_in (set_part crew s k q)) at.at ∙ moved_here (set_part crew s k q) s k at.place.seat at.place.part same.0 same.1 ∙ part_same crew s k p q e;
            which = inl (it, refl);
          }
      | inr other ↦ record { part = x; is = ap (placed_in (set_part crew s k q)) at.at ∙ part_other crew s k q at.place.seat at.place.part other ∙ at.here; which = inr refl }
    ]

giver_over : (crew : List (List Part)) (places : List Place) (s k : ℕ) (p q : Part) (n r from : ℕ) (g : GiverView) → part_here crew s k ≡ Some p → q.actor ≡ p.actor →
    (slice_get p.actor.gives n ≡ Some r → slice_get q.givers.items n ≡ slice_get p.givers.items n) → IsGiverEnd crew places n r from g → IsGiverEnd (set_part crew s k q) places n r from g
giver_over crew places s k p q n r from g e actor same is =
    let kept : IsKept crew places s k from p q is.part = kept_part crew places s k from p q is.part e is.is in
    elim kept.which [
      | inl w ↦
          let gives : slice_get p.actor.gives n ≡ Some r = ap (λ (x : Part). slice_get x.actor.gives n) (sym w.0) ∙ is.gives in
          let end : slice_get p.givers.items n ≡ Some g = ap (λ (x : Part). slice_get x.givers.items n) (sym w.0) ∙ is.end in
          record {
            part = q;
            is = kept.is ∙ ap Some w.1;
            gives = ap (λ (x : Actor). slice_get x.gives n) actor ∙ gives;
            end = same gives ∙ end;
          }
      | inr w ↦ record { part = is.part; is = kept.is ∙ ap Some w; gives = is.gives; end = is.end }
    ]

taker_over : (crew : List (List Part)) (places : List Place) (s k : ℕ) (p q : Part) (n r to : ℕ) (t : TakerView) → part_here crew s k ≡ Some p → q.actor ≡ p.actor →
    (slice_get p.actor.takes n ≡ Some r → slice_get q.takers.items n ≡ slice_get p.takers.items n) → IsTakerEnd crew places n r to t → IsTakerEnd (set_part crew s k q) places n r to t
taker_over crew places s k p q n r to t e actor same is =
    let kept : IsKept crew places s k to p q is.part = kept_part crew places s k to p q is.part e is.is in
    elim kept.which [
      | inl w ↦
          let takes : slice_get p.actor.takes n ≡ Some r = ap (λ (x : Part). slice_get x.actor.takes n) (sym w.0) ∙ is.takes in
          let end : slice_get p.takers.items n ≡ Some t = ap (λ (x : Part). slice_get x.takers.items n) (sym w.0) ∙ is.end in
          record {
            part = q;
            is = kept.is ∙ ap Some w.1;
            takes = ap (λ (x : Actor). slice_get x.takes n) actor ∙ takes;
            end = same takes ∙ end;
          }
      | inr w ↦ record { part = is.part; is = kept.is ∙ ap Some w; takes = is.takes; end = is.end }
    ]

-- the part at its place among those of its worker
pub part_get : (crew : List (List Part)) (s k : ℕ) (p : Part) → part_here crew s k ≡ Some p → slice_get (parts_at crew s) k ≡ Some p
part_get [] s k p e = absurd (cc)
part_get (ps ∷ crew) zero k p e = e
part_get (ps ∷ crew) (suc s) k p e = part_get crew s k p e

pub seat_there : (crew : List (List Part)) (s k : ℕ) (p : Part) → part_here crew s k ≡ Some p → s < length crew
seat_there [] s k p e = absurd (cc)
seat_there (ps ∷ crew) zero k p e = omega arith
seat_there (ps ∷ crew) (suc s) k p e = omega (arith, seat_there crew s k p e)

-- the ends of a part with another end
giver_ends : (p : Part) (n : ℕ) (h : GiverView) → IsButEnds p (with_giver p n h)
giver_ends p n h = record { rest = refl; givers = length-set p.givers.items n h; takers = refl }

taker_ends : (p : Part) (n : ℕ) (u : TakerView) → IsButEnds p (with_taker p n u)
taker_ends p n u = record { rest = refl; givers = refl; takers = length-set p.takers.items n u }

two_rings : (xs : List ℕ) (n m r q : ℕ) → slice_get xs n ≡ Some r → slice_get xs m ≡ Some q → (q ≡ r → ⊥) → n ≡ m → ⊥
two_rings xs n m r q e f ne same = (let g : slice_get xs n ≡ slice_get xs m = ap (slice_get xs) same in let it : q ≡ r = cc in ne it)

-- another giver at a place
module _ (crew next : List (List Part)) (places : List Place) (x : Place) (p : Part) (n r from : ℕ) (g h : GiverView) (place : slice_get places from ≡ Some x) (here : part_here crew x.seat x.part ≡ Some p)
    (gives : slice_get p.actor.gives n ≡ Some r) (end : slice_get p.givers.items n ≡ Some g) (is : next ≡ set_part crew x.seat x.part (with_giver p n h)) where
  pub giver_rest : AreButEnds crew next
  giver_rest = subst (AreButEnds crew) (sym is) (rest_kept crew x.seat x.part p (with_giver p n h) here (giver_ends p n h))

  pub giver_other : (m q a : ℕ) (f : GiverView) → (q ≡ r → ⊥) → IsGiverEnd crew places m q a f → IsGiverEnd next places m q a f
  giver_other m q a f ne old =
      subst (λ (c : List (List Part)). IsGiverEnd c places m q a f) (sym is)
      (giver_over crew places x.seat x.part p (with_giver p n h) m q a f here refl (λ at. get_set_other p.givers.items n m h (two_rings p.actor.gives n m r q gives at ne)) old)

  pub giver_taker : (m q a : ℕ) (f : TakerView) → IsTakerEnd crew places m q a f → IsTakerEnd next places m q a f
  giver_taker m q a f old = subst (λ (c : List (List Part)). IsTakerEnd c places m q a f) (sym is) (taker_over crew places x.seat x.part p (with_giver p n h) m q a f here refl (λ at. refl) old)

  pub giver_new : IsGiverEnd next places n r from h
  giver_new = record {
    part = with_giver p n h;
    is = ap (λ (c : List (List Part)). part_of c places from) is ∙ ap (placed_in (set_part crew x.seat x.part (with_giver p n h))) place ∙ part_same crew x.seat x.part p (with_giver p n h) here;
    gives = gives;
    end = get_set p.givers.items n g h end;
  }

-- another taker
module _ (crew next : List (List Part)) (places : List Place) (x : Place) (p : Part) (n r to : ℕ) (t u : TakerView) (place : slice_get places to ≡ Some x) (here : part_here crew x.seat x.part ≡ Some p)
    (takes : slice_get p.actor.takes n ≡ Some r) (end : slice_get p.takers.items n ≡ Some t) (is : next ≡ set_part crew x.seat x.part (with_taker p n u)) where
  pub taker_rest : AreButEnds crew next
  taker_rest = subst (AreButEnds crew) (sym is) (rest_kept crew x.seat x.part p (with_taker p n u) here (taker_ends p n u))

  pub taker_other : (m q a : ℕ) (f : TakerView) → (q ≡ r → ⊥) → IsTakerEnd crew places m q a f → IsTakerEnd next places m q a f
  taker_other m q a f ne old =
      subst (λ (c : List (List Part)). IsTakerEnd c places m q a f) (sym is)
      (taker_over crew places x.seat x.part p (with_taker p n u) m q a f here refl (λ at. get_set_other p.takers.items n m u (two_rings p.actor.takes n m r q takes at ne)) old)

  pub taker_giver : (m q a : ℕ) (f : GiverView) → IsGiverEnd crew places m q a f → IsGiverEnd next places m q a f
  taker_giver m q a f old = subst (λ (c : List (List Part)). IsGiverEnd c places m q a f) (sym is) (giver_over crew places x.seat x.part p (with_taker p n u) m q a f here refl (λ at. refl) old)

  pub taker_new : IsTakerEnd next places n r to u
  taker_new = record {
    part = with_taker p n u;
    is = ap (λ (c : List (List Part)). part_of c places to) is ∙ ap (placed_in (set_part crew x.seat x.part (with_taker p n u))) place ∙ part_same crew x.seat x.part p (with_taker p n u) here;
    takes = takes;
    end = get_set p.takers.items n t u end;
  }
