-- Ends that stay where they are.
use Rattle.std.proofs.Common.{ℕ, ◌<◌, ◌≡◌, List, map, length, get_or, ap, sym, refl, ◌∙◌, subst, inl, inr, arith}
use Rattle.std.specs.Prelude.{Some, slice_get}
use Rattle.std.specs.Option.{option_map}
use Rattle.std.proofs.lemmas.Bool.{cases_eq}
use Rattle.std.proofs.lemmas.Option.{slice_get-map, slice_get-get_or, slice_get_within, get_or_from_slice_get}
use Rattle.std.proofs.lemmas.List.{length-map}
use Rattle.lucy_word.proofs.Lists.{get_set_other}
use Rattle.lucy_host.specs.declared.kind.HostKind.{HostKind}
use Rattle.lucy_ring.specs.Views.{GiverView, TakerView}
use Rattle.lucy_worker.specs.declared.part.Part.{Part}
use Rattle.lucy_worker.specs.declared.place.EndPlace.{EndPlace}
use Rattle.lucy_worker.specs.Turns.{HasRun, HaveRun, giver_name, taker_name}
use Rattle.lucy_worker.specs.Meets.{HasGiver, HasTaker, MetBetween, MetWithin, set_giver, set_taker, with_giver, with_taker}
use Rattle.lucy_worker.specs.Laws.{KeepsGiver, KeepsTaker, IsPlace, OthersStay, AreEndsAt}
use Rattle.lucy_worker.proofs.WithinLaws.{get_set}

-- there is one end at a place
pub one_giver : (ps : List Part) (place : EndPlace) (g h : HasGiver ps place) → g.end ≡ h.end
one_giver ps place g h =
    let parts : Some g.part ≡ Some h.part = sym g.part_is ∙ h.part_is in
    let part : g.part ≡ h.part = cc in
    let ends : Some g.end ≡ Some h.end = sym g.end_is ∙ ap (λ (p : Part). slice_get p.givers.items place.number) part ∙ h.end_is in
    cc

pub one_taker : (ps : List Part) (place : EndPlace) (t u : HasTaker ps place) → t.end ≡ u.end
one_taker ps place t u =
    let parts : Some t.part ≡ Some u.part = sym t.part_is ∙ u.part_is in
    let part : t.part ≡ u.part = cc in
    let ends : Some t.end ≡ Some u.end = sym t.end_is ∙ ap (λ (p : Part). slice_get p.takers.items place.number) part ∙ u.end_is in
    cc

-- an end of a list whose names are those of another has the name of the other's
named : {X Y : Type 0} (name : X → Y) (xs ys : List X) (n : ℕ) (x : X) → map name ys ≡ map name xs → slice_get xs n ≡ Some x →
    (y : X) × (slice_get ys n ≡ Some y) × (name y ≡ name x)
named name xs ys n x same at =
    let long : length ys ≡ length xs = sym (length-map ys name) ∙ ap length same ∙ length-map xs name in
    let there : slice_get ys n ≡ Some (get_or ys n x) = slice_get-get_or ys n x (omega (arith, long, slice_get_within xs n x at)) in
    let names : Some (name (get_or ys n x)) ≡ Some (name x) = sym (ap (option_map name) there) ∙ sym (slice_get-map name ys n) ∙ ap (λ zs. slice_get zs n) same ∙ slice_get-map name xs n ∙ ap (option_map name) at in
    (get_or ys n x, there, (cc))

-- the part at the place where one ran
ran_at : (kinds : List HostKind) (ps qs : List Part) (k : ℕ) (p : Part) → HaveRun kinds ps qs → slice_get ps k ≡ Some p →
    (q : Part) × (slice_get qs k ≡ Some q) × HasRun kinds p q
ran_at kinds ps qs k p run at =
    let l : k < length ps = slice_get_within ps k p at in (
      get_or qs k p,
      slice_get-get_or qs k p (omega (arith, l, run.as_many)),
      subst (λ (x : Part). HasRun kinds x (get_or qs k p)) (get_or_from_slice_get ps k p p at) (run.run k p l),
    )

pub runs_keep : (kinds : List HostKind) (ps qs : List Part) → HaveRun kinds ps qs → (place : EndPlace) → KeepsGiver ps qs place × KeepsTaker ps qs place
runs_keep kinds ps qs run place = (
  λ g.
      (let to = ran_at kinds ps qs place.part g.part run g.part_is in
      let end = named giver_name g.part.givers.items to.0.givers.items place.number g.end to.2.givers g.end_is in
      (record { part = to.0; part_is = to.1; end = end.0; end_is = end.1 }, end.2)),
  λ t.
      (let to = ran_at kinds ps qs place.part t.part run t.part_is in
      let end = named taker_name t.part.takers.items to.0.takers.items place.number t.end to.2.takers t.end_is in
      (record { part = to.0; part_is = to.1; end = end.0; end_is = end.1 }, ap (λ n. n.0) end.2)),
)

-- ends that are kept are those of one ring, as they were
pub rings_keep : (ps qs ps' qs' : List Part) (giver taker : EndPlace) → KeepsGiver ps ps' giver → KeepsTaker qs qs' taker → AreEndsAt ps giver qs taker → AreEndsAt ps' giver qs' taker
rings_keep ps qs ps' qs' giver taker g t ends =
    let h = g ends.giver in
    let u = t ends.taker in
    record {
      giver = h.0;
      taker = u.0;
      ring = λ x y. ap (λ (v : GiverView). v.ring) (one_giver ps' giver x h.0) ∙ h.1 ∙ ends.ring ends.giver ends.taker ∙ sym u.1 ∙ ap (λ (v : TakerView). v.ring) (one_taker qs' taker u.0 y);
    }

-- where another giver is put at a place, all others stay, and all takers
giver_set : (ps : List Part) (giver : EndPlace) (g : HasGiver ps giver) (h : GiverView) → OthersStay (IsPlace giver) (λ place. ⊥) ps (set_giver ps giver g h)
giver_set ps giver g h =
    let p : Part = with_giver g.part giver.number h in
    let here : slice_get (set_giver ps giver g h) giver.part ≡ Some p = get_set ps giver.part g.part p g.part_is in
    record {
      givers = λ place ne was. elim (cases_eq place.part giver.part) [
        | inl same ↦
            let parts : Some was.part ≡ Some g.part = sym was.part_is ∙ ap (slice_get ps) same ∙ g.part_is in
            let part : was.part ≡ g.part = cc in
            let end : slice_get g.part.givers.items place.number ≡ Some was.end = ap (λ (x : Part). slice_get x.givers.items place.number) (sym part) ∙ was.end_is in (
              record {
                part = p;
                part_is = ap (slice_get (set_giver ps giver g h)) same ∙ here;
                end = was.end;
                end_is = get_set_other g.part.givers.items giver.number place.number h (λ e. ne (same, e)) ∙ end;
              },
              refl,
            )
        | inr other ↦ (record { part = was.part; part_is = get_set_other ps giver.part place.part p other ∙ was.part_is; end = was.end; end_is = was.end_is }, refl)
      ];
      takers = λ place ne was. elim (cases_eq place.part giver.part) [
        | inl same ↦
            let parts : Some was.part ≡ Some g.part = sym was.part_is ∙ ap (slice_get ps) same ∙ g.part_is in
            let part : was.part ≡ g.part = cc in
            let end : slice_get g.part.takers.items place.number ≡ Some was.end = ap (λ (x : Part). slice_get x.takers.items place.number) (sym part) ∙ was.end_is in
            (record { part = p; part_is = ap (slice_get (set_giver ps giver g h)) same ∙ here; end = was.end; end_is = end }, refl)
        | inr other ↦ (record { part = was.part; part_is = get_set_other ps giver.part place.part p other ∙ was.part_is; end = was.end; end_is = was.end_is }, refl)
      ];
    }

-- where another taker is put at a place, all others stay, and all givers
taker_set : (ps : List Part) (taker : EndPlace) (t : HasTaker ps taker) (u : TakerView) → OthersStay (λ place. ⊥) (IsPlace taker) ps (set_taker ps taker t u)
taker_set ps taker t u =
    let p : Part = with_taker t.part taker.number u in
    let here : slice_get (set_taker ps taker t u) taker.part ≡ Some p = get_set ps taker.part t.part p t.part_is in
    record {
      givers = λ place ne was. elim (cases_eq place.part taker.part) [
        | inl same ↦
            let parts : Some was.part ≡ Some t.part = sym was.part_is ∙ ap (slice_get ps) same ∙ t.part_is in
            let part : was.part ≡ t.part = cc in
            let end : slice_get t.part.givers.items place.number ≡ Some was.end = ap (λ (x : Part). slice_get x.givers.items place.number) (sym part) ∙ was.end_is in
            (record { part = p; part_is = ap (slice_get (set_taker ps taker t u)) same ∙ here; end = was.end; end_is = end }, refl)
        | inr other ↦ (record { part = was.part; part_is = get_set_other ps taker.part place.part p other ∙ was.part_is; end = was.end; end_is = was.end_is }, refl)
      ];
      takers = λ place ne was. elim (cases_eq place.part taker.part) [
        | inl same ↦
            let parts : Some was.part ≡ Some t.part = sym was.part_is ∙ ap (slice_get ps) same ∙ t.part_is in
            let part : was.part ≡ t.part = cc in
            let end : slice_get t.part.takers.items place.number ≡ Some was.end = ap (λ (x : Part). slice_get x.takers.items place.number) (sym part) ∙ was.end_is in (
              record {
                part = p;
                part_is = ap (slice_get (set_taker ps taker t u)) same ∙ here;
                end = was.end;
                end_is = get_set_other t.part.takers.items taker.number place.number u (λ e. ne (same, e)) ∙ end;
              },
              refl,
            )
        | inr other ↦ (record { part = was.part; part_is = get_set_other ps taker.part place.part p other ∙ was.part_is; end = was.end; end_is = was.end_is }, refl)
      ];
    }

-- the end that was put at a place is there
giver_there : (ps : List Part) (giver : EndPlace) (g : HasGiver ps giver) (h : GiverView) → (x : HasGiver (set_giver ps giver g h) giver) × (x.end ≡ h)
giver_there ps giver g h = (
  record {
    part = with_giver g.part giver.number h;
    part_is = get_set ps giver.part g.part (with_giver g.part giver.number h) g.part_is;
    end = h;
    end_is = get_set g.part.givers.items giver.number g.end h g.end_is;
  },
  refl,
)

taker_there : (ps : List Part) (taker : EndPlace) (t : HasTaker ps taker) (u : TakerView) → (x : HasTaker (set_taker ps taker t u) taker) × (x.end ≡ u)
taker_there ps taker t u = (
  record {
    part = with_taker t.part taker.number u;
    part_is = get_set ps taker.part t.part (with_taker t.part taker.number u) t.part_is;
    end = u;
    end_is = get_set t.part.takers.items taker.number t.end u t.end_is;
  },
  refl,
)

-- ends of which the names are told are those of one ring
pub ends_at : (ps qs : List Part) (giver taker : EndPlace) (x : HasGiver ps giver) (y : HasTaker qs taker) → x.end.ring ≡ y.end.ring → AreEndsAt ps giver qs taker
ends_at ps qs giver taker x y same = record {
  giver = x;
  taker = y;
  ring = λ v w. ap (λ (e : GiverView). e.ring) (one_giver ps giver v x) ∙ same ∙ ap (λ (e : TakerView). e.ring) (one_taker qs taker y w);
}

pub between_keep : (ps qs ps' qs' : List Part) (giver taker : EndPlace) → MetBetween ps giver qs taker ps' qs' →
    AreEndsAt ps' giver qs' taker × OthersStay (IsPlace giver) (λ place. ⊥) ps ps' × OthersStay (λ place. ⊥) (IsPlace taker) qs qs'
between_keep ps qs ps' qs' giver taker is =
    let x = giver_there ps giver is.g is.h in
    let y = taker_there qs taker is.t is.u in
    let name : x.0.end.ring ≡ y.0.end.ring = ap (λ (e : GiverView). e.ring) x.1 ∙ is.met.ends ∙ sym (ap (λ (e : TakerView). e.ring) y.1) in (
      subst (λ (vs : List Part). AreEndsAt vs giver qs' taker) (sym is.givers) (subst (λ (vs : List Part). AreEndsAt (set_giver ps giver is.g is.h) giver vs taker) (sym is.takers)
          (ends_at (set_giver ps giver is.g is.h) (set_taker qs taker is.t is.u) giver taker x.0 y.0 name)),
      subst (λ (vs : List Part). OthersStay (IsPlace giver) (λ place. ⊥) ps vs) (sym is.givers) (giver_set ps giver is.g is.h),
      subst (λ (vs : List Part). OthersStay (λ place. ⊥) (IsPlace taker) qs vs) (sym is.takers) (taker_set qs taker is.t is.u),
    )

pub own_keep : (ps qs : List Part) (giver taker : EndPlace) → MetWithin ps giver taker qs →
    AreEndsAt qs giver qs taker × OthersStay (IsPlace giver) (IsPlace taker) ps qs
own_keep ps qs giver taker is =
    let mid : List Part = set_giver ps giver is.g is.h in
    let last : List Part = set_taker mid taker is.then is.u in
    let x = giver_there ps giver is.g is.h in
    let first = giver_set ps giver is.g is.h in
    let second = taker_set mid taker is.then is.u in
    let kept = second.givers giver (λ none. none) x.0 in
    let y = taker_there mid taker is.then is.u in
    let name : kept.0.end.ring ≡ y.0.end.ring = ap (λ (e : GiverView). e.ring) (kept.1 ∙ x.1) ∙ is.met.ends ∙ sym (ap (λ (e : TakerView). e.ring) y.1) in
    let stay : OthersStay (IsPlace giver) (IsPlace taker) ps last = record {
      givers = λ place ne was. (let a = first.givers place ne was in let b = second.givers place (λ none. none) a.0 in (b.0, b.1 ∙ a.1));
      takers = λ place ne was. (let a = first.takers place (λ none. none) was in let b = second.takers place ne a.0 in (b.0, b.1 ∙ a.1));
    } in (
      subst (λ (vs : List Part). AreEndsAt vs giver vs taker) (sym is.parts) (ends_at last last giver taker kept.0 y.0 name),
      subst (λ (vs : List Part). OthersStay (IsPlace giver) (IsPlace taker) ps vs) (sym is.parts) stay,
    )
