-- What the steps of a round leave at the place of an actor.
use Rattle.std.proofs.Common.{ℕ, ◌<◌, ◌≤◌, ◌≡◌, List, [], map, length, get_or, ap, sym, refl, ◌∙◌, subst, arith}
use Rattle.std.specs.Prelude.{Option, Some, None, slice_get}
use Rattle.std.specs.Option.{option_map}
use Rattle.std.proofs.lemmas.Option.{slice_get-map, slice_get_within, slice_get_past, slice_get-get_or, get_or_from_slice_get}
use Rattle.lucy_host.specs.declared.kind.HostKind.{HostKind}
use Rattle.lucy_worker.specs.declared.part.Part.{Part}
use Rattle.lucy_worker.specs.Parts.{done_of, CanMove}
use Rattle.lucy_worker.specs.Turns.{HasRun}
use Rattle.lucy_runner.specs.declared.place.Place.{Place}
use Rattle.lucy_runner.specs.Crews.{part_in, placed_in, part_of}
use Rattle.lucy_runner.specs.Turns.{HasTurned, HaveTurned, IsButEnds, AreButEnds}

-- where the part of an actor is
pub record IsFound (crew : List (List Part)) (places : List Place) (a : ℕ) (p : Part) : Type 0 where
  pub place : Place
  pub parts : List Part
  pub at : slice_get places a ≡ Some place
  pub seat : slice_get crew place.seat ≡ Some parts
  pub part : slice_get parts place.part ≡ Some p

found_in : (crew : List (List Part)) (places : List Place) (a : ℕ) (p : Part) (place : Place) (seat : Option (List Part)) → slice_get places a ≡ Some place → slice_get crew place.seat ≡ seat → part_in seat place.part ≡ Some p →
    IsFound crew places a p
found_in crew places a p place None at here e = absurd (cc)
found_in crew places a p place (Some parts) at here e = record { place = place; parts = parts; at = at; seat = here; part = e }

found_at : (crew : List (List Part)) (places : List Place) (a : ℕ) (p : Part) (place : Option Place) → slice_get places a ≡ place → placed_in crew place ≡ Some p → IsFound crew places a p
found_at crew places a p None at e = absurd (cc)
found_at crew places a p (Some place) at e = found_in crew places a p place (slice_get crew place.seat) at refl e

pub found : (crew : List (List Part)) (places : List Place) (a : ℕ) (p : Part) → part_of crew places a ≡ Some p → IsFound crew places a p
found crew places a p e = found_at crew places a p (slice_get places a) refl e

pub part_is : (crew : List (List Part)) (places : List Place) (a : ℕ) (place : Place) (parts : List Part) (p : Part) → slice_get places a ≡ Some place → slice_get crew place.seat ≡ Some parts → slice_get parts place.part ≡ Some p →
    part_of crew places a ≡ Some p
part_is crew places a place parts p at seat part = ap (placed_in crew) at ∙ ap (λ (o : Option (List Part)). part_in o place.part) seat ∙ part

-- past the last actor there is none
pub no_part : (crew : List (List Part)) (places : List Place) (a : ℕ) → length places ≤ a → part_of crew places a ≡ None
no_part crew places a past = ap (placed_in crew) (slice_get_past places a past)

-- there is one part of an actor
pub same_part : (crew : List (List Part)) (places : List Place) (a b : ℕ) (p q : Part) → part_of crew places a ≡ Some p → part_of crew places b ≡ Some q → a ≡ b → p ≡ q
same_part crew places a b p q e f same = (let g : part_of crew places a ≡ part_of crew places b = ap (part_of crew places) same in cc)

-- its part after a turn
pub record IsTurned (kinds : List HostKind) (turned : List (List Part)) (places : List Place) (a : ℕ) (p : Part) : Type 0 where
  pub after : Part
  pub at : part_of turned places a ≡ Some after
  pub run : HasRun kinds p after
  pub moved : CanMove p → done_of p < done_of after

pub turned_at : (kinds : List HostKind) (crew turned : List (List Part)) (moves : ℕ) (places : List Place) (a : ℕ) (p : Part) → HaveTurned kinds crew turned moves → part_of crew places a ≡ Some p → IsTurned kinds turned places a p
turned_at kinds crew turned moves places a p turns e =
    let f : IsFound crew places a p = found crew places a p e in
    let s : ℕ = f.place.seat in
    let k : ℕ = f.place.part in
    let qs : List Part = get_or turned s [] in
    let there : slice_get turned s ≡ Some qs = slice_get-get_or turned s [] (omega (arith, slice_get_within crew s f.parts f.seat, turns.as_many)) in
    let one : HasTurned kinds f.parts qs = turns.each s f.parts qs f.seat there in
    let l : k < length f.parts = slice_get_within f.parts k p f.part in
    let q : Part = get_or qs k p in
    let same : get_or f.parts k p ≡ p = get_or_from_slice_get f.parts k p p f.part in
    record {
      after = q;
      at = part_is turned places a f.place qs q f.at there (slice_get-get_or qs k p (omega (arith, one.run.as_many)));
      run = subst (λ (x : Part). HasRun kinds x q) same (one.run.run k p l);
      moved = subst (λ (x : Part). CanMove x → done_of x < done_of q) same (one.moved k p l);
    }

-- its part after the meetings
pub record IsMet (met : List (List Part)) (places : List Place) (a : ℕ) (p : Part) : Type 0 where
  pub after : Part
  pub at : part_of met places a ≡ Some after
  pub rest : IsButEnds p after

pub met_at : (crew met : List (List Part)) (places : List Place) (a : ℕ) (p : Part) → AreButEnds crew met → part_of crew places a ≡ Some p → IsMet met places a p
met_at crew met places a p meets e =
    let f : IsFound crew places a p = found crew places a p e in
    let s : ℕ = f.place.seat in
    let k : ℕ = f.place.part in
    let qs : List Part = get_or met s [] in
    let there : slice_get met s ≡ Some qs = slice_get-get_or met s [] (omega (arith, slice_get_within crew s f.parts f.seat, meets.seats)) in
    let q : Part = get_or qs k p in
    let here : slice_get qs k ≡ Some q = slice_get-get_or qs k p (omega (arith, slice_get_within f.parts k p f.part, meets.counts s f.parts qs f.seat there)) in
    record { after = q; at = part_is met places a f.place qs q f.at there here; rest = meets.parts s k f.parts qs p q f.seat there f.part here }

-- an end at the same place of ends of the same names
pub record IsNamed {A B : Type 0} (name : A → B) (xs : List A) (k : ℕ) (b : B) : Type 0 where
  pub is : A
  pub at : slice_get xs k ≡ Some is
  pub named : name is ≡ b

named_in : {A B : Type 0} (name : A → B) (xs : List A) (k : ℕ) (b : B) (o : Option A) → slice_get xs k ≡ o → option_map name o ≡ Some b → IsNamed name xs k b
named_in name xs k b None at e = absurd (cc)
named_in name xs k b (Some x) at e = record { is = x; at = at; named = cc }

pub named_at : {A B : Type 0} (name : A → B) (xs ys : List A) (k : ℕ) (x : A) → map name ys ≡ map name xs → slice_get xs k ≡ Some x → IsNamed name ys k (name x)
named_at name xs ys k x same at =
    named_in name ys k (name x) (slice_get ys k) refl
    (sym (slice_get-map name ys k) ∙ ap (λ ns. slice_get ns k) same ∙ slice_get-map name xs k ∙ ap (option_map name) at)

-- the end of which a list is
pub from_map : {A B : Type 0} (name : A → B) (xs : List A) (k : ℕ) (b : B) → slice_get (map name xs) k ≡ Some b → IsNamed name xs k b
from_map name xs k b e = named_in name xs k b (slice_get xs k) refl (sym (slice_get-map name xs k) ∙ e)
