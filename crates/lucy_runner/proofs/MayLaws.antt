-- What the parts of a finished runner may get in a block more.
use Rattle.std.proofs.Common.{ℕ, suc, zero, ◌+◌, ◌<◌, ◌≤◌, ◌≡◌, cond, List, [], ◌∷◌, ◌++◌, length, get_or, ap, refl, ◌∙◌, subst, arith, length-append}
use Rattle.std.specs.Prelude.{ℤ, Some, slice_get, sum_by}
use Rattle.std.proofs.lemmas.Option.{slice_get_within, get_or_from_slice_get}
use Rattle.std.proofs.lemmas.List.Sums.{sum_by-cons, get_or-le-sum_by}
use Rattle.lucy_word.specs.Bits.{ones_to}
use Rattle.lucy_word.specs.Limits.{limit_number}
use Rattle.lucy_word.specs.declared.limit.Limit.TheVariants as limit
use Rattle.lucy_word.proofs.IndexLaws.{ones_to-rises}
use Rattle.lucy_host.specs.Operators.{Operator, kinds_of}
use Rattle.lucy_stream.specs.Items.{list_at}
use Rattle.lucy_stream.specs.Plans.{HasInput}
use Rattle.lucy_stream.specs.Totals.{total}
use Rattle.lucy_net.specs.declared.kind.ActorKind.{ActorKind}
use Rattle.lucy_net.specs.declared.kind.ActorKind.TheVariants as kind
use Rattle.lucy_net.specs.declared.net.Net.{Net}
use Rattle.lucy_net.specs.Plans.{form_of}
use Rattle.lucy_net.specs.Proper.{IsSupplied}
use Rattle.lucy_net.specs.States.{ReadsInput}
use Rattle.lucy_net.specs.Schedules.{Timetable}
use Rattle.lucy_core.specs.Seen as core
use Rattle.lucy_core.specs.Seen.{Seen, IsOver}
use Rattle.lucy_worker.specs.declared.part.Part.{Part}
use Rattle.lucy_worker.specs.Parts.{IsPartAt}
use Rattle.lucy_worker.specs.News.{HasItems}
use Rattle.lucy_runner.specs.declared.place.Place.{Place}
use Rattle.lucy_runner.specs.declared.place.Ends.{Ends}
use Rattle.lucy_runner.specs.Views.{input_count}
use Rattle.lucy_runner.specs.Crews.{part_of, seen_by, number_of, sum_seated}
use Rattle.lucy_runner.specs.Standing.{carried, IsPartOf, IsStanding}
use Rattle.lucy_runner.specs.Blocks.{longer_for, longer_inputs}
use Rattle.lucy_runner.specs.Growths.{added_for, MayGrow, OfEach, AreFew}
use Rattle.lucy_runner.proofs.PlaceLaws.{same_part}
use Rattle.lucy_runner.proofs.ReachLaws.{at_number}
use Rattle.lucy_runner.proofs.FinishedLaws.{finished_is}
use Rattle.lucy_runner.proofs.InputLaws.{read_here, counted_here, numbered}

-- what a block more asks
pub record IsAsked (old : Seen) (instants : ℕ) (added : List (List ℤ)) : Type 0 where
  pub finished : IsOver old
  pub later : old.instants ≤ instants
  pub early : instants ≤ limit_number limit.Instants
  pub supplied : IsSupplied (longer_inputs old.net old.inputs added) old.net instants

-- as many parts as actors
pub total_one : (n : ℕ) → total n (λ (a : ℕ). 1) ≡ n
total_one zero = refl
total_one (suc n) = omega (arith, total_one n)

-- as many as there are parts
pub sum_ones : (ps : List Part) → sum_seated (λ (a : ℕ). 1) ps ≡ length ps
sum_ones [] = refl
sum_ones (p ∷ ps) = omega (arith, sum_by-cons (number_of (λ (a : ℕ). 1)) p ps, sum_ones ps)

pub few_parts : (seen : Seen) (before : ℕ) (crew : List (List Part)) (places : List Place) (ends : List Ends) → IsStanding seen before crew places ends → AreFew crew
few_parts seen before crew places ends standing s ps e =
    let ones : ℕ → ℕ = λ (a : ℕ). 1 in
    let same : get_or crew s [] ≡ ps = get_or_from_slice_get crew s ps [] e in
    let some : sum_seated ones (get_or crew s []) ≤ sum_by (sum_seated ones) crew = get_or-le-sum_by (sum_seated ones) crew s [] (slice_get_within crew s ps e) in
    let all : sum_by (sum_seated ones) crew ≡ length seen.net.actors = standing.shared ones ∙ total_one (length seen.net.actors) in
    let own : sum_seated ones (get_or crew s []) ≡ length ps = ap (sum_seated ones) same ∙ sum_ones ps in
    omega (arith, some, all, own, standing.fixed.proper.few_actors)

-- a part stands in the state of the counts
pub part_here : (seen : Seen) (before s k : ℕ) (crew : List (List Part)) (places : List Place) (ends : List Ends) (ps : List Part) (p : Part) → IsStanding seen before crew places ends → slice_get crew s ≡ Some ps → slice_get ps k ≡ Some p →
    IsPartAt (kinds_of seen.operators) seen.inputs seen.net seen.instants (core.state_of seen) (carried seen before p) p
part_here seen before s k crew places ends ps p standing e f =
    let a : ℕ = p.number in
    let at : part_of crew places a ≡ Some p = at_number crew places s k ps p standing.covered e f in
    let l : a < length seen.net.actors = omega (arith, slice_get_within places a _ (standing.covered s k ps p e f), standing.placed) in
    let is : IsPartOf seen before crew places a = standing.actors a l in
    let same : is.part ≡ p = same_part crew places a a is.part p is.at at refl in
    subst (λ (y : Part). IsPartAt (kinds_of seen.operators) seen.inputs seen.net seen.instants (core.state_of seen) (carried seen before y) y) same is.stands

has_items : (what : ActorKind) (quota items : ℕ) → ((n : ℕ) → what ≡ kind.Input n → quota ≤ items) → HasItems what quota items
has_items (kind.Input n) quota items h = h n refl
has_items what quota items h = tt

-- every part of a finished runner may get what a block more brings
pub may_grow : (net : Net) (schedule : Timetable) (ops : List Operator) (old before instants : ℕ) (crew : List (List Part)) (places : List Place) (ends : List Ends) (added : List (List ℤ)) →
    IsStanding (seen_by net schedule ops old crew places) before crew places ends → IsAsked (seen_by net schedule ops old crew places) instants added → OfEach (MayGrow added instants) crew
may_grow net schedule ops old before instants crew places ends added standing asked s k ps p e f =
    let seen : Seen = seen_by net schedule ops old crew places in
    let here = part_here seen before s k crew places ends ps p standing e f in
    let quota : ℕ = ones_to p.actor.firing instants in
    let counted : (n : ℕ) → p.actor.kind ≡ kind.Input n → n < input_count net.actors = λ n is. counted_here net.actors p.number n p.actor here.there is in
    record {
      done = (finished_is net schedule ops old before crew places ends standing).1 asked.finished s k ps p e f;
      more = omega (arith, here.state.quota, ones_to-rises p.actor.firing old instants asked.later);
      early = asked.early;
      items = has_items p.actor.kind quota (length p.input.items + length (added_for p.actor.kind added)) (λ n is.
          (let held : length p.input.items ≡ length (list_at seen.inputs n) = ap (λ (xs : List ℤ). length xs) (subst (λ (what : ActorKind). ReadsInput what seen.inputs p.input.items) is here.reads) in
          let more : length (added_for p.actor.kind added) ≡ length (list_at added n) = ap (λ (what : ActorKind). length (added_for what added)) is in
          let lists : list_at (longer_inputs net seen.inputs added) n ≡ list_at seen.inputs n ++ list_at added n =
          numbered (longer_for net.actors seen.inputs added) (input_count net.actors) n (counted n is)
          ∙ ap (λ c. cond c (list_at seen.inputs n ++ list_at added n) []) (read_here net.actors p.number n p.actor here.there is) in
          let has : quota ≤ length (list_at (longer_inputs net seen.inputs added) n) = subst (λ (what : ActorKind). HasInput (longer_inputs net seen.inputs added) (form_of what) quota) is (asked.supplied p.number p.actor here.there) in
          let sum : length (list_at (longer_inputs net seen.inputs added) n) ≡ length (list_at seen.inputs n) + length (list_at added n) = ap (λ (xs : List ℤ). length xs) lists ∙ length-append (list_at seen.inputs n) (list_at added n) in
          omega (arith, has, sum, held, more)));
    }
