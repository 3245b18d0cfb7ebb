use Rattle.std.proofs.Common.{ℕ, ◌+◌, ◌<◌, ◌≡◌, true, List, [], ◌∷◌, ◌++◌, length, get_or, ap, sym, refl, ◌∙◌, subst, arith, length-append}
use Rattle.std.specs.Prelude.{All, Some, slice_get}
use Rattle.std.proofs.lemmas.Option.{slice_get_within}
use Rattle.lucy_runner.specs.declared.sitting.Bench.{Bench}
use Rattle.lucy_net.specs.Proper.{numbers_where}
use Rattle.lucy_runner.specs.Making.{benched, is_used}
use Rattle.lucy_runner.proofs.HomeLaws.{seats_more, none_more, not_used, places_more, homes_more, homes_same, seat_count}
use Rattle.lucy_runner.proofs.sitting.hall_of.Goals as goal
use Rattle.lucy_runner.proofs.sitting.hall_of.Goals.{then-used+in_ok-push-2, else-used}

pub loop-home-preserved : goal.loop-home-preserved
loop-home-preserved c =
    let before : List Bench = c.loop-home.benches.items in
    let numbers : c.push.new.self.items ≡ c.loop-home.numbers.items ++ length before ∷ [] = c.in_ok-push.ensures.items ∙ ap (λ n. c.loop-home.numbers.items ++ n ∷ []) (c.len.ensures ∙ c.loop-home.benches.ok.0) in
    let count : length c.push.new.self.items ≡ c.loop-home.home + 1 = omega (arith, ap length numbers, length-append c.loop-home.numbers.items (length before ∷ []), c.loop-home.invariant.count) in
    let places : (home : ℕ) → home < c.loop-home.home + 1 → get_or c.push.new.self.items home 0 ≡ length (numbers_where (is_used c.args.used.now) home) =
    subst (λ (xs : List ℕ). (home : ℕ) → home < c.loop-home.home + 1 → get_or xs home 0 ≡ length (numbers_where (is_used c.args.used.now) home)) (sym numbers)
    (places_more (is_used c.args.used.now) c.loop-home.home c.loop-home.numbers.items (length before) c.loop-home.invariant.count (seat_count c.args.used.now c.loop-home.home before c.loop-home.invariant.homes) c.loop-home.invariant.places) in
    elim c.if-used.branch [
      | then-used+in_ok-push-2 w ↦
          let bench : Bench = record { home = c.loop-home.home; parts = w.new.result } in
          let now : c.if-used.benches.items ≡ before ++ bench ∷ [] = ap (λ v. v.items) w.benches-is ∙ w.in_ok-push-2.ensures.items in
          let more : length c.if-used.benches.items ≡ length before + 1 = ap length now ∙ length-append before (bench ∷ []) in
          record {
            count = count;
            few = omega (arith, more, c.loop-home.invariant.few);
            seats = subst (λ (xs : List ℕ). (home : ℕ) → home < c.loop-home.home + 1 → slice_get c.args.used.now home ≡ Some true → get_or xs home 0 < length c.if-used.benches.items) (sym numbers)
                (seats_more c.args.used.now c.loop-home.home c.loop-home.numbers.items (length before) (length c.if-used.benches.items) c.loop-home.invariant.count c.loop-home.invariant.seats (omega (arith, more)) (λ e. omega (arith, more)));
            homes = homes_more c.args.used.now c.loop-home.home before c.if-used.benches.items bench c.loop-home.invariant.homes now refl w.if-used.true;
            places = places;
            none = none_more before c.if-used.benches.items bench c.loop-home.invariant.none now w.new.ensures.items;
          }
      | else-used w ↦
          let now : c.if-used.benches.items ≡ before = ap (λ v. v.items) w.benches-is in
          let same : length c.if-used.benches.items ≡ length before = ap length now in
          record {
            count = count;
            few = omega (arith, same, c.loop-home.invariant.few);
            seats = subst (λ (xs : List ℕ). (home : ℕ) → home < c.loop-home.home + 1 → slice_get c.args.used.now home ≡ Some true → get_or xs home 0 < length c.if-used.benches.items) (sym numbers)
                (seats_more c.args.used.now c.loop-home.home c.loop-home.numbers.items (length before) (length c.if-used.benches.items) c.loop-home.invariant.count c.loop-home.invariant.seats (omega (arith, same))
                (λ e. absurd (not_used c.args.used.now c.loop-home.home c.loop-home-test.true w.if-used.false e)));
            homes = homes_same c.args.used.now c.loop-home.home before c.if-used.benches.items c.loop-home.invariant.homes now w.if-used.false;
            places = places;
            none = subst (All (λ (b : Bench). benched b ≡ [])) (sym now) c.loop-home.invariant.none;
          }
    ]

pub returns : goal.returns
returns c = record {
  count = omega (arith, c.loop-home.invariant.count, c.loop-home-test.false);
  few_benches = omega (arith, c.loop-home.invariant.few, c.loop-home-test.false);
  seats = λ home is. c.loop-home.invariant.seats home (omega (arith, slice_get_within c.args.used.now home true is, c.loop-home-test.false)) is;
  homes = c.loop-home.invariant.homes ∙ ap (numbers_where (is_used c.args.used.now)) (let all : c.loop-home.home ≡ length c.args.used.now = omega (arith, c.loop-home-test.false) in all);
  places = λ home l. c.loop-home.invariant.places home (omega (arith, l, c.loop-home-test.false));
  none = c.loop-home.invariant.none;
}
