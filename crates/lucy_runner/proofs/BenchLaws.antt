-- Parts on benches.
use Rattle.std.proofs.Common.{ℕ, suc, zero, ◌+◌, ◌<◌, ◌≤◌, ◌≡◌, Bool, eqb, List, [], ◌∷◌, ◌++◌, map, length, get_or, set, ap, sym, refl, ◌∙◌, subst, inl, inr, arith}
use Rattle.std.specs.Prelude.{Some, All, slice_get}
use Rattle.std.specs.Option.{option_map}
use Rattle.std.proofs.lemmas.Option.{slice_get-get_or, slice_get-map}
use Rattle.std.proofs.lemmas.Bool.{cases_eq, eq-eqb, ne_eqb}
use Rattle.std.proofs.lemmas.List.{map-append, map-set, length-set, get_or-set_same, get_or-set_other}
use Rattle.std.proofs.lemmas.List.Elements.{All-head, All-tail}
use Rattle.lucy_net.specs.Proper.{numbers_where}
use Rattle.lucy_net.proofs.WhereLaws.{where_yes, where_no}
use Rattle.lucy_core.proofs.ListLaws.{some_same}
use Rattle.lucy_worker.specs.declared.part.Part.{Part}
use Rattle.lucy_runner.specs.declared.place.Place.{Place}
use Rattle.lucy_runner.specs.declared.sitting.Bench.{Bench}
use Rattle.lucy_runner.specs.Homes.{at_home, actors_by}
use Rattle.lucy_runner.specs.Making.{ArePlaced, AreNumbered, CanWork, benched, homes_in}
use Rattle.lucy_runner.proofs.PlacingLaws.{place_more, row_short}
use Rattle.lucy_runner.proofs.WorkingLaws.{row_works}

-- the row of a bench
row_here : (benches : List Bench) (s : ℕ) (d : Bench) → s < length benches → slice_get (map benched benches) s ≡ Some (benched (get_or benches s d))
row_here benches s d l = slice_get-map benched benches s ∙ ap (option_map benched) (slice_get-get_or benches s d l)

-- a bench has no more parts than there are
pub bench_short : (parts : List Part) (n : ℕ) (benches : List Bench) (places : List Place) (s : ℕ) (d : Bench) → ArePlaced parts n (map benched benches) places → s < length benches → length (benched (get_or benches s d)) ≤ n
bench_short parts n benches places s d is l = row_short parts n (map benched benches) places s (benched (get_or benches s d)) is (row_here benches s d l)

-- one part more on its bench
pub bench_more : (parts : List Part) (n : ℕ) (benches : List Bench) (places now : List Place) (s : ℕ) (d b : Bench) (p : Part) (place : Place) → ArePlaced parts n (map benched benches) places → AreNumbered parts → slice_get parts n ≡ Some p → s < length benches →
    benched b ≡ benched (get_or benches s d) ++ p ∷ [] → place ≡ record { seat = s; part = length (benched (get_or benches s d)) } → now ≡ places ++ place ∷ [] → ArePlaced parts (n + 1) (map benched (set benches s b)) now
bench_more parts n benches places now s d b p place is numbered here l more at e =
    place_more parts n (map benched benches) places s (benched (get_or benches s d)) p (map benched (set benches s b)) now is numbered here (row_here benches s d l)
    (map-set benched benches s b ∙ ap (set (map benched benches) s) more) (e ∙ ap (λ x. places ++ x ∷ []) at)

-- workers can be made of all benches
pub benches_work : (parts : List Part) (benches : List Bench) (places : List Place) → ArePlaced parts (length parts) (map benched benches) places → CanWork parts → All (λ b. CanWork (benched b)) benches
benches_work parts benches places is can = λ k d l. row_works parts (map benched benches) places k (benched (get_or benches k d)) is can (row_here benches k d l)

-- of the first actors, so many of them, a bench has those whose home it is
abbrev pub IsManned : List ℕ → ℕ → Bench → Type 0
IsManned homes n bench = map (λ (p : Part). p.number) (benched bench) ≡ numbers_where (λ actor. eqb (get_or homes actor 0) bench.home) n

-- the home of a bench
home_here : (benches : List Bench) (s : ℕ) (d : Bench) → s < length benches → slice_get (homes_in benches) s ≡ Some (get_or benches s d).home
home_here benches s d l = slice_get-map (λ (b : Bench). b.home) benches s ∙ ap (option_map (λ (b : Bench). b.home)) (slice_get-get_or benches s d l)

pub homes_kept : (benches : List Bench) (s : ℕ) (d b : Bench) → s < length benches → b.home ≡ (get_or benches s d).home → homes_in (set benches s b) ≡ homes_in benches
homes_kept [] s d b l e = absurd (omega arith)
homes_kept (x ∷ benches) zero d b l e = ap (λ h. h ∷ homes_in benches) e
homes_kept (x ∷ benches) (suc s) d b l e = ap (λ hs. x.home ∷ hs) (homes_kept benches s d b (omega arith) e)

-- one actor more on the bench of its home, which no other bench has
pub manned_more : (homes numbers : List ℕ) (n : ℕ) (benches : List Bench) (s : ℕ) (d b : Bench) (p : Part) → All (IsManned homes n) benches → s < length benches → p.number ≡ n →
    slice_get (homes_in benches) s ≡ Some (get_or homes n 0) → ((k h : ℕ) → slice_get (homes_in benches) k ≡ Some h → get_or numbers h 0 ≡ k) →
    b.home ≡ (get_or benches s d).home → benched b ≡ benched (get_or benches s d) ++ p ∷ [] → All (IsManned homes (n + 1)) (set benches s b)
manned_more homes numbers n benches s d b p all l number own known same more k e m =
    let old : Bench = get_or benches s d in
    let h : ℕ = get_or homes n 0 in
    let at : h ≡ old.home = some_same (slice_get (homes_in benches) s) h old.home own (home_here benches s d l) in
    elim (cases_eq k s) [
      | inl here ↦
          let now : get_or (set benches s b) k e ≡ b = ap (λ i. get_or (set benches s b) i e) here ∙ get_or-set_same benches s b e l in
          let test : ℕ → Bool = λ (actor : ℕ). eqb (get_or homes actor 0) old.home in
          let one : map (λ (q : Part). q.number) (benched b) ≡ numbers_where test (n + 1) =
          ap (map (λ (q : Part). q.number)) more ∙ map-append (λ (q : Part). q.number) (benched old) (p ∷ []) ∙ ap (λ xs. xs ++ p.number ∷ []) (all s d l)
          ∙ ap (λ a. numbers_where test n ++ a ∷ []) number ∙ sym (where_yes test n (eq-eqb h old.home at)) in
          subst (IsManned homes (n + 1)) (sym now) (one ∙ ap (λ w. numbers_where (λ actor. eqb (get_or homes actor 0) w) (n + 1)) (sym same))
      | inr other ↦
          let q : Bench = get_or benches k e in
          let inside : k < length benches = omega (arith, m, length-set benches s b) in
          let now : get_or (set benches s b) k e ≡ q = get_or-set_other benches s k b e other in
          let apart : h ≡ q.home → ⊥ = λ (is : h ≡ q.home). other (sym (known k q.home (home_here benches k e inside)) ∙ ap (λ w. get_or numbers w 0) (sym is) ∙ known s h own) in
          subst (IsManned homes (n + 1)) (sym now) (all k e inside ∙ sym (where_no (λ actor. eqb (get_or homes actor 0) q.home) n (ne_eqb h q.home apart)))
    ]

pub manned_none : (homes : List ℕ) (benches : List Bench) → All (λ b. benched b ≡ []) benches → All (IsManned homes 0) benches
manned_none homes benches none = λ k d l. ap (map (λ (p : Part). p.number)) (none k d l)

-- once all are there, each bench has the actors that are at home there
pub manned_all : (homes : List ℕ) (benches : List Bench) → All (IsManned homes (length homes)) benches → actors_by (map benched benches) ≡ map (at_home homes) (homes_in benches)
manned_all homes [] all = refl
manned_all homes (b ∷ benches) all =
    let first : map (λ (p : Part). p.number) (benched b) ≡ at_home homes b.home = All-head (IsManned homes (length homes)) b benches all in
    let rest : actors_by (map benched benches) ≡ map (at_home homes) (homes_in benches) = manned_all homes benches (All-tail (IsManned homes (length homes)) b benches all) in
    cc
