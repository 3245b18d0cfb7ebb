use Rattle.std.proofs.Common.{ℕ, ◌≡◌, true, List, ◌++◌, map, length, get_or, take, drop, ap, sym, ◌∙◌, subst}
use Rattle.std.specs.Prelude.{All, Some, slice_get}
use Rattle.lucy_word.proofs.Lists.{written_back}
use Rattle.lucy_runner.specs.declared.sitting.Bench.{Bench}
use Rattle.lucy_runner.specs.declared.sitting.Hall.{Hall}
use Rattle.lucy_runner.specs.Homes.{at_home, actors_by}
use Rattle.lucy_runner.specs.Making.{benched, homes_in, CanWork, HaveSeats}
use Rattle.lucy_runner.proofs.BenchLaws.{benches_work}
use Rattle.lucy_runner.proofs.HomeLaws.{own_bench, known_bench, crew_here}
use Rattle.lucy_runner.proofs.sitting.seat_parts.Goals as goal

pub workers_of-requires : goal.workers_of-requires
workers_of-requires c =
    let old : List Bench = c.in_ok-numbers.field-0.benches.items in
    let back : take c.in_ok-numbers.field-0.benches.len (c.place_all.new.benches ++ drop (length c.place_all.new.benches) old) ≡ c.place_all.new.benches =
    written_back c.in_ok-numbers.field-0.benches.len c.place_all.new.benches old (c.place_all.auto.benches ∙ ap length c.deref_mut.ensures.value) c.in_ok-numbers.field-0.benches.ok.0 in
    subst (All (λ (b : Bench). CanWork (benched b))) (sym back) (benches_work c.args.parts.items c.place_all.new.benches c.in_ok-places.places.items c.in_ok-places.ensures.placed c.requires.can)

pub place_all-requires-clause-own : goal.place_all-requires-clause-own
place_all-requires-clause-own c = λ k d l.
    let hall : Hall = c.in_ok-numbers.field-0 in
    let has : HaveSeats c.deref.result.now hall = c.in_ok-numbers.ensures in
    let home : ℕ = get_or c.args.homes.now k d in
    let marked : slice_get c.deref.result.now home ≡ Some true = ap (λ xs. slice_get xs home) c.deref.ensures.value ∙ c.in_ok-used.ensures.used k d l in
    ap (λ (bs : List Bench). slice_get (homes_in bs) (get_or c.deref-2.result.now home 0)) c.deref_mut.ensures.value
    ∙ ap (λ ns. slice_get (homes_in hall.benches.items) (get_or ns home 0)) c.deref-2.ensures.value ∙ own_bench c.deref.result.now hall home has marked

pub place_all-requires-clause-known : goal.place_all-requires-clause-known
place_all-requires-clause-known c = λ k home e.
    let hall : Hall = c.in_ok-numbers.field-0 in
    let has : HaveSeats c.deref.result.now hall = c.in_ok-numbers.ensures in
    ap (λ ns. get_or ns home 0) c.deref-2.ensures.value
    ∙ known_bench c.deref.result.now hall k home has (ap (λ (bs : List Bench). slice_get (homes_in bs) k) (sym c.deref_mut.ensures.value) ∙ e)

pub returns-clause-homed : goal.returns-clause-homed
returns-clause-homed c =
    let hall : Hall = c.in_ok-numbers.field-0 in
    let has : HaveSeats c.deref.result.now hall = c.in_ok-numbers.ensures in
    let old : List Bench = hall.benches.items in
    let homes : List ℕ = c.args.homes.now in
    let back : take hall.benches.len (c.place_all.new.benches ++ drop (length c.place_all.new.benches) old) ≡ c.place_all.new.benches =
    written_back hall.benches.len c.place_all.new.benches old (c.place_all.auto.benches ∙ ap length c.deref_mut.ensures.value) hall.benches.ok.0 in
    ap actors_by (c.in_ok-seats.ensures ∙ ap (map benched) back) ∙ c.in_ok-places.ensures.homed ∙ ap (λ (bs : List Bench). map (at_home homes) (homes_in bs)) c.deref_mut.ensures.value
    ∙ crew_here c.deref.result.now homes hall c.args.workers has (ap length c.deref.ensures.value ∙ c.in_ok-used.ensures.count)
    (λ k d l. ap (λ xs. slice_get xs (get_or homes k d)) c.deref.ensures.value ∙ c.in_ok-used.ensures.used k d l)
    (λ home e. c.in_ok-used.ensures.only home (ap (λ xs. slice_get xs home) (sym c.deref.ensures.value) ∙ e))
