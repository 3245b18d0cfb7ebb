-- A program that is run from horizon to horizon.
use Rattle.std.proofs.Common.{ℕ, ◌≡◌, List, length, ap, sym, ◌∙◌, subst}
use Rattle.std.specs.Prelude.{ℤ, Result, Ok, Err, IfOk}
use Rattle.lucy_host.specs.declared.kind.HostKind.{HostKind}
use Rattle.lucy_place.specs.declared.placed.PlacedNode.{PlacedNode}
use Rattle.lucy_place.specs.Proper.{AreProper}
use Rattle.lucy_clock.specs.declared.node_clock.NodeClock.{NodeClock}
use Rattle.lucy_host.specs.Operators.{kinds_of}
use Rattle.lucy_kahn.specs.Spots.{main_of}
use Rattle.lucy_kahn.specs.Turns.{params_in}
use Rattle.lucy_net.specs.declared.net.Actor.{Actor}
use Rattle.lucy_net.specs.declared.net.Net.{Net}
use Rattle.lucy_net.specs.Proper.{IsSupplied}
use Rattle.lucy_kahn.specs.Horizons.{Suffice}
use Rattle.lucy_flat.specs.Flat.{IsFlat}
use Rattle.lucy_core.specs.Seen.{Seen, IsOver, after_picks}
use Rattle.lucy_runner.specs.Views.{RunnerView, first_runner, inputs_for}
use Rattle.lucy_runner.specs.Homes.{crew_by}
use Rattle.lucy_runner.specs.Blocks.{longer_inputs, grown_seen}
use Rattle.lucy_results.specs.Streams.{param_words, main_streams, later_streams}
use Rattle.lucy_results.specs.Playing.{PlayerView, homes_for, crew_for, played, IsPlayed, joined}
use Rattle.lucy_results.proofs.LaterLaws.{joined_count, longer_same, later_first}
use Rattle.lucy_results.proofs.NetLaws.{supplied}

-- the homes of a net's actors give its crew
pub crew_is : (net : Net) (workers : ℕ) (list : List Actor) (homes : List ℕ) → homes ≡ homes_for (length list) workers → list ≡ net.actors → crew_by workers homes ≡ crew_for net workers
crew_is net workers list homes e f = ap (crew_by workers) (e ∙ ap (λ (xs : List Actor). homes_for (length xs) workers) f)

module _ (nodes : List PlacedNode) (clocks : List NodeClock) where
  -- a runner of a new core that went to its end
  pub played_first : (core : Seen) (first last : RunnerView) (picks : List ℕ) → first ≡ first_runner core first.crew → last.seen ≡ after_picks first.seen picks → IsOver last.seen → IsFlat nodes clocks core.net →
      inputs_for core.net core.inputs ≡ core.inputs → params_in (main_of nodes) ≡ length core.inputs → IsPlayed nodes clocks last
  played_first core first last picks e f over flat inputs params =
      let all : last.seen ≡ after_picks (first_runner core first.crew).seen picks = f ∙ ap (λ (v : RunnerView). after_picks v.seen picks) e in
      record {
        flat = subst (λ (s : Seen). IsFlat nodes clocks s.net) (sym all) flat;
        over = over;
        inputs = params ∙ ap length (sym inputs) ∙ sym (ap (λ (s : Seen). length s.inputs) all);
      }

  pub first_is : (core : Seen) (first last : RunnerView) (picks : List ℕ) → first ≡ first_runner core first.crew → last.seen ≡ after_picks first.seen picks → last.before ≡ first.before →
      (crew : List (List ℕ)) → last.crew ≡ first.crew → first.crew ≡ crew → inputs_for core.net core.inputs ≡ core.inputs →
      played nodes clocks last ≡ record { nodes = nodes; clocks = clocks; kinds = kinds_of core.operators; inputs = core.inputs; instants = core.instants; before = 0; crew = crew }
  first_is core first last picks e f g crew kept is inputs =
      let seen : last.seen ≡ after_picks (first_runner core first.crew).seen picks = f ∙ ap (λ (v : RunnerView). after_picks v.seen picks) e in
      let before : last.before ≡ 0 = g ∙ ap (λ (v : RunnerView). v.before) e in
      let P : Seen → ℕ → List (List ℕ) → PlayerView = λ (s : Seen) n w. record { nodes = nodes; clocks = clocks; kinds = kinds_of s.operators; inputs = s.inputs; instants = s.instants; before = n; crew = w } in
      ap (λ (s : Seen). P s last.before last.crew) seen ∙ ap (λ n. P (after_picks (first_runner core first.crew).seen picks) n last.crew) before
      ∙ ap (λ (xs : List (List ℤ)). P (record core { inputs = xs }) 0 last.crew) inputs ∙ ap (P core 0) (kept ∙ is)

  module _ (proper : AreProper nodes) (old grown last : RunnerView) (added : List (List ℤ)) (instants : ℕ) (picks : List ℕ) (is : IsPlayed nodes clocks old) (same : length added ≡ length old.seen.inputs)
      (more : grown ≡ record old { seen = grown_seen old.seen added instants; before = old.seen.instants }) (run : last.seen ≡ after_picks grown.seen picks) where
    seen_on : last.seen ≡ after_picks (grown_seen old.seen added instants) picks
    seen_on = run ∙ ap (λ (v : RunnerView). after_picks v.seen picks) more

    inputs_on : last.seen.inputs ≡ joined old.seen.inputs added
    inputs_on = ap (λ (s : Seen). s.inputs) seen_on ∙ longer_same nodes clocks proper old.seen.net is.flat old.seen.inputs added is.inputs (sym same)

    -- a runner that was finished, and went on to its end
    pub played_on : IsOver last.seen → IsPlayed nodes clocks last
    played_on over = record {
      flat = subst (λ (s : Seen). IsFlat nodes clocks s.net) (sym seen_on) is.flat;
      over = over;
      inputs = is.inputs ∙ sym (ap length inputs_on ∙ joined_count old.seen.inputs added);
    }

    pub on_is : last.before ≡ grown.before → last.crew ≡ grown.crew →
        played nodes clocks last ≡ record (played nodes clocks old) { inputs = joined old.seen.inputs added; instants = instants; before = old.seen.instants }
    on_is e kept =
        let before : last.before ≡ old.seen.instants = e ∙ ap (λ (v : RunnerView). v.before) more in
        let crew : last.crew ≡ old.crew = kept ∙ ap (λ (v : RunnerView). v.crew) more in
        let P : Seen → List (List ℤ) → ℕ → List (List ℕ) → PlayerView = λ (s : Seen) xs n w.
        record { nodes = nodes; clocks = clocks; kinds = kinds_of s.operators; inputs = xs; instants = s.instants; before = n; crew = w } in
        ap (λ n. P last.seen last.seen.inputs n last.crew) before ∙ ap (λ xs. P last.seen xs old.seen.instants last.crew) inputs_on
        ∙ ap (λ (s : Seen). P s (joined old.seen.inputs added) old.seen.instants last.crew) seen_on
        ∙ ap (P (grown_seen old.seen added instants) (joined old.seen.inputs added) old.seen.instants) crew

-- inputs that go on supply the net
pub supplied_on : (nodes : List PlacedNode) (clocks : List NodeClock) → AreProper nodes → (net : Net) → IsFlat nodes clocks net → (held added : List (List ℤ)) (t : ℕ) → params_in (main_of nodes) ≡ length held → length held ≡ length added →
    Suffice (param_words nodes clocks) (joined held added) t → IsSupplied (longer_inputs net held added) net t
supplied_on nodes clocks proper net flat held added t e f suffice =
    subst (λ xs. IsSupplied xs net t) (sym (longer_same nodes clocks proper net flat held added e f)) (supplied nodes clocks proper net flat (joined held added) t suffice)

-- what is told of a program that was run in one step
pub told_whole : {E : Type 0} (r : Result (List (List ℤ)) E) (v : PlayerView) (nodes : List PlacedNode) (clocks : List NodeClock) (kinds : List HostKind) (inputs : List (List ℤ)) (instants : ℕ) (crew : List (List ℕ)) →
    v ≡ record { nodes = nodes; clocks = clocks; kinds = kinds; inputs = inputs; instants = instants; before = 0; crew = crew } →
    IfOk r (λ lists. lists ≡ later_streams v.kinds v.inputs v.nodes v.clocks v.before v.instants) → IfOk r (λ lists. lists ≡ main_streams kinds inputs nodes clocks instants)
told_whole (Ok lists) v nodes clocks kinds inputs instants crew e f =
    f ∙ ap (λ (u : PlayerView). later_streams u.kinds u.inputs u.nodes u.clocks u.before u.instants) e ∙ later_first kinds inputs nodes clocks instants
told_whole (Err e) v nodes clocks kinds inputs instants crew f g = tt
