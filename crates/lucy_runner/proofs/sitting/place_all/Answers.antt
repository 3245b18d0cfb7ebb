use Rattle.std.proofs.Common.{ℕ, ◌+◌, ◌<◌, ◌≡◌, List, [], ◌∷◌, ◌++◌, length, map, get_or, set, ap, refl, sym, ◌∙◌, subst, arith, length-append}
use Rattle.std.specs.Prelude.{All, Some, slice_get}
use Rattle.std.proofs.lemmas.Option.{slice_get_read}
use Rattle.std.proofs.lemmas.Iterator.Adapters.{YieldsList-from_vec}
use Rattle.std.proofs.lemmas.Iterator.Consumers.{YieldsList-turn, YieldsList-end}
use Rattle.lucy_worker.specs.declared.part.Part.{Part}
use Rattle.lucy_runner.specs.declared.place.Place.{Place}
use Rattle.lucy_runner.specs.declared.sitting.Bench.{Bench}
use Rattle.lucy_runner.specs.Homes.{at_home}
use Rattle.lucy_runner.specs.Making.{ArePlaced, AreNumbered, benched, homes_in}
use Rattle.lucy_runner.proofs.PlacingLaws.{place_none}
use Rattle.lucy_runner.proofs.BenchLaws.{IsManned, bench_short, bench_more, homes_kept, manned_more, manned_none, manned_all}
use Rattle.lucy_runner.proofs.HomeLaws.{rows_none}
use Rattle.lucy_runner.proofs.sitting.place_all.Goals as goal

-- the part of a turn
record IsTurn (parts : List Part) (homes : List ℕ) (numbers : List ℕ) (benches : ℕ) (n : ℕ) (p : Part) : Type 0 where
  pub below : n < length parts
  pub at : slice_get parts n ≡ Some p
  pub home : p.number < length homes
  pub number : get_or homes p.number 0 < length numbers
  pub seat : get_or numbers (get_or homes p.number 0) 0 < benches

turn_is : (parts : List Part) (homes numbers : List ℕ) (benches n : ℕ) (p : Part) → AreNumbered parts → length homes ≡ length parts → All (λ home. (home < length numbers) × (get_or numbers home 0 < benches)) homes → (n < length parts) × (p ≡ get_or parts n p) → IsTurn parts homes numbers benches n p
turn_is parts homes numbers benches n p numbered len all turn =
    let at : slice_get parts n ≡ Some p = slice_get_read parts (length parts) n p refl turn.0 turn.1 in
    let here : p.number ≡ n = numbered n p at in
    let l : p.number < length homes = (let w = turn.0 in omega arith) in
    record { below = turn.0; at = at; home = l; number = (all p.number 0 l).0; seat = (all p.number 0 l).1 }

pub loop-part-init : goal.loop-part-init
loop-part-init c = record {
  placed = subst (λ (xs : List Place). ArePlaced c.args.parts.items 0 (map benched c.args.benches.now) xs) (sym c.new-places.ensures.items) (place_none c.args.parts.items (map benched c.args.benches.now) (rows_none c.args.benches.now c.requires.empty));
  homes = refl;
  manned = manned_none c.args.homes.now c.args.benches.now c.requires.empty;
}

pub bounds-homes-part : goal.bounds-homes-part
bounds-homes-part c =
    let b = c.into_iter-part-iterator.ensures.into_iter_gives in
    let road = YieldsList-from_vec {s = c.into_iter-part-iterator.result} c.args.parts.items b.0 (b.1 ∙ c.args.parts.ok.0) in
    let turn = YieldsList-turn road c.loop-part.yielded c.loop-part.part-iterator c.loop-part.yielded_by c.next.result c.next.new.self c.in-Some.part c.in-Some.is c.next.ensures.steps in
    (turn_is c.args.parts.items c.args.homes.now c.args.numbers.now (length c.args.benches.now) (length c.loop-part.yielded) c.in-Some.part c.requires.numbered c.requires.homes c.requires.seats turn).home

pub bounds-numbers-homes : goal.bounds-numbers-homes
bounds-numbers-homes c =
    let b = c.into_iter-part-iterator.ensures.into_iter_gives in
    let road = YieldsList-from_vec {s = c.into_iter-part-iterator.result} c.args.parts.items b.0 (b.1 ∙ c.args.parts.ok.0) in
    let turn = YieldsList-turn road c.loop-part.yielded c.loop-part.part-iterator c.loop-part.yielded_by c.next.result c.next.new.self c.in-Some.part c.in-Some.is c.next.ensures.steps in
    (turn_is c.args.parts.items c.args.homes.now c.args.numbers.now (length c.args.benches.now) (length c.loop-part.yielded) c.in-Some.part c.requires.numbered c.requires.homes c.requires.seats turn).number

pub bounds-benches-seat : goal.bounds-benches-seat
bounds-benches-seat c =
    let b = c.into_iter-part-iterator.ensures.into_iter_gives in
    let road = YieldsList-from_vec {s = c.into_iter-part-iterator.result} c.args.parts.items b.0 (b.1 ∙ c.args.parts.ok.0) in
    let turn = YieldsList-turn road c.loop-part.yielded c.loop-part.part-iterator c.loop-part.yielded_by c.next.result c.next.new.self c.in-Some.part c.in-Some.is c.next.ensures.steps in
    let is = turn_is c.args.parts.items c.args.homes.now c.args.numbers.now (length c.args.benches.now) (length c.loop-part.yielded) c.in-Some.part c.requires.numbered c.requires.homes c.requires.seats turn in
    omega (arith, is.seat, c.loop-part.auto.benches)

pub sit_down-requires : goal.sit_down-requires
sit_down-requires c =
    let b = c.into_iter-part-iterator.ensures.into_iter_gives in
    let road = YieldsList-from_vec {s = c.into_iter-part-iterator.result} c.args.parts.items b.0 (b.1 ∙ c.args.parts.ok.0) in
    let turn = YieldsList-turn road c.loop-part.yielded c.loop-part.part-iterator c.loop-part.yielded_by c.next.result c.next.new.self c.in-Some.part c.in-Some.is c.next.ensures.steps in
    let is = turn_is c.args.parts.items c.args.homes.now c.args.numbers.now (length c.args.benches.now) (length c.loop-part.yielded) c.in-Some.part c.requires.numbered c.requires.homes c.requires.seats turn in
    let seat : ℕ = get_or c.args.numbers.now (get_or c.args.homes.now c.in-Some.part.number 0) 0 in
    let short = bench_short c.args.parts.items (length c.loop-part.yielded) c.loop-part.benches c.loop-part.places.items seat c.index-benches-seat.result c.loop-part.invariant.placed (omega (arith, is.seat, c.loop-part.auto.benches)) in
    omega (arith, short, is.below, c.requires.few)

pub loop-part-preserved : goal.loop-part-preserved
loop-part-preserved c =
    let b = c.into_iter-part-iterator.ensures.into_iter_gives in
    let road = YieldsList-from_vec {s = c.into_iter-part-iterator.result} c.args.parts.items b.0 (b.1 ∙ c.args.parts.ok.0) in
    let turn = YieldsList-turn road c.loop-part.yielded c.loop-part.part-iterator c.loop-part.yielded_by c.next.result c.next.new.self c.in-Some.part c.in-Some.is c.next.ensures.steps in
    let is = turn_is c.args.parts.items c.args.homes.now c.args.numbers.now (length c.args.benches.now) (length c.loop-part.yielded) c.in-Some.part c.requires.numbered c.requires.homes c.requires.seats turn in
    let seat : ℕ = get_or c.args.numbers.now (get_or c.args.homes.now c.in-Some.part.number 0) 0 in
    let n : ℕ = length c.loop-part.yielded in
    let next : length (c.loop-part.yielded ++ c.in-Some.part ∷ []) ≡ n + 1 = length-append c.loop-part.yielded (c.in-Some.part ∷ []) in
    let number : c.in-Some.part.number ≡ n = c.requires.numbered n c.in-Some.part is.at in
    let old : List Bench = c.loop-part.benches in
    let b : Bench = c.sit_down.new.bench in
    let inside : seat < length old = omega (arith, is.seat, c.loop-part.auto.benches) in
    let kept : homes_in old ≡ homes_in c.args.benches.now = c.loop-part.invariant.homes in
    let home : ℕ = get_or c.args.homes.now c.in-Some.part.number 0 in
    let own : slice_get (homes_in old) seat ≡ Some home = ap (λ hs. slice_get hs seat) kept ∙ c.requires.own c.in-Some.part.number 0 is.home in
    record {
      placed = subst (λ (k : ℕ). ArePlaced c.args.parts.items k (map benched (set old seat b)) c.push.new.self.items) (sym next)
          (bench_more c.args.parts.items n old c.loop-part.places.items c.push.new.self.items seat c.index-benches-seat.result b c.in-Some.part c.in_ok-place.place
          c.loop-part.invariant.placed c.requires.numbered is.at inside c.in_ok-place.ensures.more c.in_ok-place.ensures.at c.in_ok-push.ensures.items);
      homes = homes_kept old seat c.index-benches-seat.result b inside c.in_ok-place.ensures.home ∙ kept;
      manned = subst (λ (k : ℕ). All (IsManned c.args.homes.now k) (set old seat b)) (sym next)
          (manned_more c.args.homes.now c.args.numbers.now n old seat c.index-benches-seat.result b c.in-Some.part c.loop-part.invariant.manned inside number
          (own ∙ ap (λ a. Some (get_or c.args.homes.now a 0)) number) (λ k h e. c.requires.known k h (ap (λ hs. slice_get hs k) (sym kept) ∙ e)) c.in_ok-place.ensures.home c.in_ok-place.ensures.more);
    }

pub returns-clause-placed : goal.returns-clause-placed
returns-clause-placed c =
    let b = c.into_iter-part-iterator.ensures.into_iter_gives in
    let road = YieldsList-from_vec {s = c.into_iter-part-iterator.result} c.args.parts.items b.0 (b.1 ∙ c.args.parts.ok.0) in
    let end = YieldsList-end road c.loop-part.yielded c.loop-part.part-iterator c.loop-part.yielded_by c.next.result c.next.new.self c.in-None.is c.next.ensures.steps in
    subst (λ (k : ℕ). ArePlaced c.args.parts.items k (map benched c.loop-part.benches) c.loop-part.places.items) end.1 c.loop-part.invariant.placed

pub returns-clause-homed : goal.returns-clause-homed
returns-clause-homed c =
    let b = c.into_iter-part-iterator.ensures.into_iter_gives in
    let road = YieldsList-from_vec {s = c.into_iter-part-iterator.result} c.args.parts.items b.0 (b.1 ∙ c.args.parts.ok.0) in
    let end = YieldsList-end road c.loop-part.yielded c.loop-part.part-iterator c.loop-part.yielded_by c.next.result c.next.new.self c.in-None.is c.next.ensures.steps in
    manned_all c.args.homes.now c.loop-part.benches (subst (λ (k : ℕ). All (IsManned c.args.homes.now k) c.loop-part.benches) (end.1 ∙ sym c.requires.homes) c.loop-part.invariant.manned)
    ∙ ap (map (at_home c.args.homes.now)) c.loop-part.invariant.homes
