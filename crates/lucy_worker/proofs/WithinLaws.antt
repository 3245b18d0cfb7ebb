-- Ends of one list of parts that meet.
use Rattle.std.proofs.Common.{ℕ, suc, zero, ◌-◌, ◌<◌, ◌≡◌, List, [], ◌∷◌, ◌++◌, length, get_or, set, ap, sym, refl, ◌∙◌, subst, arith}
use Rattle.std.specs.Prelude.{Some, slice_get}
use Rattle.std.proofs.lemmas.Option.{get_or_from_slice_get}
use Rattle.std.proofs.lemmas.List.{set-set, set-append_left, set-append_right, length-set}
use Rattle.lucy_word.proofs.Lists.{get_set_other}
use Rattle.lucy_host.proofs.Elements.{get_left}
use Rattle.lucy_ring.specs.Views.{GiverView, TakerView}
use Rattle.lucy_worker.specs.declared.part.Part.{Part}
use Rattle.lucy_worker.specs.declared.place.EndPlace.{EndPlace}
use Rattle.lucy_worker.specs.Meets.{HaveMet, with_giver, with_taker, set_giver, HasGiver, HasTaker, MetWithin}
use Rattle.lucy_worker.specs.Readiness.{AreReady}
use Rattle.lucy_worker.proofs.MeetLaws.{read_within, giver_set, taker_set, both_set, giver_is, taker_is}

-- the element of a list that was set
pub get_set : {X : Type 0} (xs : List X) (i : ℕ) (x y : X) → slice_get xs i ≡ Some x → slice_get (set xs i y) i ≡ Some y
get_set [] i x y e = absurd (cc)
get_set (z ∷ xs) zero x y e = refl
get_set (z ∷ xs) (suc i) x y e = get_set xs i x y e

-- elements of a list that was cut in two
pub get_right : {X : Type 0} (l r : List X) (t : ℕ) → length l ≡ t → slice_get (l ++ r) t ≡ slice_get r 0
get_right [] r zero len = refl
get_right [] r (suc t) len = absurd (omega arith)
get_right (x ∷ l) r zero len = absurd (omega arith)
get_right (x ∷ l) r (suc t) len = get_right l r t (omega arith)

pub set_two : {X : Type 0} (xs l r : List X) (i t : ℕ) (a b : X) → xs ≡ l ++ r → length l ≡ t → i < t → set l i a ++ set r 0 b ≡ set
    (set xs i a) t b
set_two xs l r i t a b e len before =
    let zero_it : t - t ≡ 0 = omega arith in
    sym (ap (λ ys. set (set ys i a) t b) e ∙ ap (λ ys. set ys t b) (set-append_left l r i a (omega arith)) ∙ set-append_right (set l i a) r
    t t b (length-set l i a ∙ len) (omega arith) ∙ ap (λ k. set l i a ++ set r k b) zero_it)

pub set_apart : {X : Type 0} (xs : List X) (i t : ℕ) (a b : X) → (i ≡ t → ⊥) → set (set xs i a) t b ≡ set (set xs t b) i a
set_apart [] i t a b ne = refl
set_apart (x ∷ xs) zero zero a b ne = absurd (ne refl)
set_apart (x ∷ xs) zero (suc t) a b ne = refl
set_apart (x ∷ xs) (suc i) zero a b ne = refl
set_apart (x ∷ xs) (suc i) (suc t) a b ne = ap (λ ys. x ∷ ys) (set_apart xs i t a b (λ (e : i ≡ t). ne (ap suc e)))

pub left_read : {X : Type 0} (xs l r : List X) (i : ℕ) (x d : X) → xs ≡ l ++ r → i < length l → slice_get xs i ≡ Some x → get_or l i d ≡ x
left_read xs l r i x d cut less at = get_or_from_slice_get l i x d (sym (ap (λ ys. slice_get ys i) cut ∙ get_left l r i less) ∙ at)

pub right_read : {X : Type 0} (xs l r : List X) (t : ℕ) (x d : X) → xs ≡ l ++ r → length l ≡ t → slice_get xs t ≡ Some x → get_or r 0 d ≡ x
right_read xs l r t x d cut len at = get_or_from_slice_get r 0 x d (sym (ap (λ ys. slice_get ys t) cut ∙ get_right l r t len) ∙ at)

-- the parts are ready after a meeting of two of their ends
abbrev pub IsMet : List Part → EndPlace → EndPlace → List Part → Type 0
IsMet ps giver taker met = AreReady met × MetWithin ps giver taker met

-- ends of different parts
far : (ps met : List Part) (giver taker : EndPlace) (a b : Part) (g : HasGiver ps giver) (t : HasTaker ps taker) (h : GiverView)
    (u : TakerView) → AreReady ps → (taker.part ≡ giver.part → ⊥) → HaveMet g.end t.end h u →
    a ≡ with_giver g.part giver.number h → b ≡ with_taker t.part taker.number u → met ≡ set (set ps giver.part a) taker.part b → IsMet ps
    giver taker met
far ps met giver taker a b g t h u ready other meets is_a is_b e =
    let mid : List Part = set_giver ps giver g h in
    let still : slice_get mid taker.part ≡ Some t.part = get_set_other ps giver.part taker.part (with_giver g.part giver.number h) other ∙
    t.part_is in
    let is : met ≡ set mid taker.part (with_taker t.part taker.number u) = e ∙ ap (λ (x : Part). set (set ps giver.part x) taker.part b)
    is_a ∙ ap (λ (x : Part). set mid taker.part x) is_b in
    let first : AreReady mid = giver_set ps giver.part giver.number g.part h ready g.part_is meets.anew.0 in (
      subst (λ (xs : List Part). AreReady xs) (sym is) (taker_set mid taker.part taker.number t.part u first still meets.anew.1),
      record {
        g = g;
        t = t;
        h = h;
        u = u;
        met = meets;
        then = record { part = t.part; part_is = still; end = t.end; end_is = t.end_is };
        parts = is;
      },
    )

-- what two parts that were cut from each other are after a meeting
abbrev pub HaveMetTwo : Part → ℕ → Part → ℕ → GiverView → TakerView → Part → Part → Type 0
HaveMetTwo p n q m g t a b = (h : GiverView) × (u : TakerView) × HaveMet g t h u × (a ≡ with_giver p n h) × (b ≡ with_taker q m u)

pub far_left : (ps l r : List Part) (giver taker : EndPlace) (d e a b : Part) (g : HasGiver ps giver) (t : HasTaker ps taker) → AreReady
    ps → ps ≡ l ++ r → length l ≡ taker.part → giver.part < taker.part →
    HaveMetTwo (get_or l giver.part d) giver.number (get_or r 0 e) taker.number g.end t.end a b → IsMet ps giver taker
    (set l giver.part a ++ set r 0 b)
far_left ps l r giver taker d e a b g t ready cut len less m =
    far ps (set l giver.part a ++ set r 0 b) giver taker a b g t m.0 m.1 ready (λ same. absurd (omega arith)) m.2
    (m.3 ∙ ap (λ (x : Part). with_giver x giver.number m.0) (left_read ps l r giver.part g.part d cut (omega arith) g.part_is))
    (m.4 ∙ ap (λ (x : Part). with_taker x taker.number m.1) (right_read ps l r taker.part t.part e cut len t.part_is))
    (set_two ps l r giver.part taker.part a b cut len less)

pub far_right : (ps l r : List Part) (giver taker : EndPlace) (d e a b : Part) (g : HasGiver ps giver) (t : HasTaker ps taker) → AreReady
    ps → ps ≡ l ++ r → length l ≡ giver.part → taker.part < giver.part →
    HaveMetTwo (get_or r 0 d) giver.number (get_or l taker.part e) taker.number g.end t.end a b → IsMet ps giver taker
    (set l taker.part b ++ set r 0 a)
far_right ps l r giver taker d e a b g t ready cut len less m =
    far ps (set l taker.part b ++ set r 0 a) giver taker a b g t m.0 m.1 ready (λ same. absurd (omega arith)) m.2
    (m.3 ∙ ap (λ (x : Part). with_giver x giver.number m.0) (right_read ps l r giver.part g.part d cut len g.part_is))
    (m.4 ∙ ap (λ (x : Part). with_taker x taker.number m.1) (left_read ps l r taker.part t.part e cut (omega arith) t.part_is))
    (set_two ps l r taker.part giver.part b a cut len less ∙ set_apart ps taker.part giver.part b a (λ same. absurd (omega arith)))

-- ends of one part are among those that were read of it
pub near_giver : (ps : List Part) (giver : EndPlace) (d : Part) (g : HasGiver ps giver) → giver.number < length (get_or ps giver.part d).givers.items
near_giver ps giver d g =
    read_within (get_or ps giver.part d).givers.items g.part.givers.items giver.number g.end
    (ap (λ (x : Part). x.givers.items) (get_or_from_slice_get ps giver.part g.part d g.part_is)) g.end_is

pub near_taker : (ps : List Part) (k : ℕ) (taker : EndPlace) (d : Part) (t : HasTaker ps taker) → k ≡ taker.part → taker.number < length (get_or ps k d).takers.items
near_taker ps k taker d t same =
    read_within (get_or ps k d).takers.items t.part.takers.items taker.number t.end
    (ap (λ (x : Part). x.takers.items) (get_or_from_slice_get ps k t.part d (ap (slice_get ps) same ∙ t.part_is))) t.end_is

-- those that were read there
pub near_ends : (ps : List Part) (giver taker : EndPlace) (d : Part) (g0 c : GiverView) (t0 b : TakerView) (g : HasGiver ps giver)
    (t : HasTaker ps taker) → giver.part ≡ taker.part →
    g0 ≡ get_or (get_or ps giver.part d).givers.items giver.number c → t0 ≡ get_or (get_or ps giver.part d).takers.items taker.number b →
    (g0 ≡ g.end) × (t0 ≡ t.end)
near_ends ps giver taker d g0 c t0 b g t same is_g is_t =
    let p : Part = get_or ps giver.part d in (
      giver_is ps giver p g0 c g (get_or_from_slice_get ps giver.part g.part d g.part_is) is_g,
      taker_is ps taker p t0 b t (get_or_from_slice_get ps giver.part t.part d (ap (slice_get ps) same ∙ t.part_is)) is_t,
    )

-- after their meeting
pub near : (ps : List Part) (giver taker : EndPlace) (d : Part) (g : HasGiver ps giver) (t : HasTaker ps taker) (h : GiverView)
    (u : TakerView) → AreReady ps → giver.part ≡ taker.part → HaveMet g.end t.end h u →
    IsMet ps giver taker (set ps giver.part (with_taker (with_giver (get_or ps giver.part d) giver.number h) taker.number u))
near ps giver taker d g t h u ready same meets =
    let p : Part = with_giver g.part giver.number h in
    let met : List Part = set ps giver.part (with_taker (with_giver (get_or ps giver.part d) giver.number h) taker.number u) in
    let one : Some g.part ≡ Some t.part = sym g.part_is ∙ ap (slice_get ps) same ∙ t.part_is in
    let it : t.part ≡ g.part = cc in
    let mid : List Part = set_giver ps giver g h in
    let still : slice_get mid taker.part ≡ Some p = ap (slice_get mid) (sym same) ∙ get_set ps giver.part g.part p g.part_is in
    let is : met ≡ set ps giver.part (with_taker p taker.number u) =
    ap (λ (x : Part). set ps giver.part (with_taker (with_giver x giver.number h) taker.number u))
    (get_or_from_slice_get ps giver.part g.part d g.part_is) in (
      subst (λ (xs : List Part). AreReady xs) (sym is)
          (both_set ps giver.part giver.number taker.number g.part h u ready g.part_is meets.anew.0 meets.anew.1),
      record {
        g = g;
        t = t;
        h = h;
        u = u;
        met = meets;
        then = record {
          part = p;
          part_is = still;
          end = t.end;
          end_is = ap (λ (x : Part). slice_get x.takers.items taker.number) (sym it) ∙
              t.end_is;
        };
        parts = is ∙ sym (set-set ps giver.part p (with_taker p taker.number u)) ∙ ap (λ (k : ℕ). set mid k (with_taker p taker.number u))
            same;
      },
    )
