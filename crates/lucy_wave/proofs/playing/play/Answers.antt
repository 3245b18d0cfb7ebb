use Rattle.std.proofs.Common.{◌-◌, ◌<◌, ◌≤◌, ◌^◌, length, ap, sym, refl, ◌∙◌, subst, arith}
use Rattle.lucy_host.specs.Host.{lent}
use Rattle.lucy_host.specs.Operators.{kinds_of}
use Rattle.lucy_results.proofs.OutputLaws.{main_here}
use Rattle.lucy_wave.specs.Seen.{AreFed}
use Rattle.lucy_wave.proofs.PlayLaws.{AtHand, plain_grown, plain_fed, more_proper, can_play, cannot_show, inner_is, inner_within, main_played, none_inside, some_inside}
use Rattle.lucy_wave.proofs.playing.play.Given.{Over}
use Rattle.lucy_wave.proofs.playing.play.Goals.{After-deref}
use Rattle.lucy_wave.proofs.playing.play.Goals as goal

at_hand : (g : Over) (c : After-deref g) → AtHand c.args.placed.now.nodes c.args.clocks.now c.args.net c.args.lists c.args.instants (lent c.args.host.now) c.args.schedule c.node-main.result.now
    c.main_words-words.result.now c.list-results.result.now c.deref.result.now
at_hand g c =
    let r = c.requires in
    let nodes = c.args.placed.now.nodes in record {
      proper = c.nodes.ensures.proper;
      clocked = r.clocked;
      flat = r.flat;
      early = r.early;
      fixed = c.nets_can_be_run.ensures.fixed nodes c.args.clocks.now c.args.net c.args.schedule c.args.lists (lent c.args.host.now) c.args.instants c.nodes.ensures.proper r.known r.flat r.sound r.suffice r.early;
      main_is = main_here nodes c.nodes.result (c.nodes.result - 1) c.node-main.result.now c.nodes.ensures.count refl c.node-main.ensures.is;
      words_are = c.main_words-words.ensures;
      results_are = c.list-results.ensures;
      places_are = c.deref.ensures.value ∙ c.in_ok-places.ensures.places;
    }

pub inner_places-requires : goal.inner_places-requires
inner_places-requires g c =
    let few : length c.node-main.result.now.places ≤ 4096 = c.node-main.ensures.proper.few in
    record { few = omega arith }

-- main has few results
few_results : (g : Over) (c : After-deref g) → length c.list-results.result.now < 2 ^ 31
few_results g c =
    let few : length c.node-main.result.now.results ≤ 4096 = c.node-main.ensures.proper.few_results in
    omega (arith, ap length c.list-results.ensures)

-- and few inner places
few_inner : (g : Over) (c : After-deref g) → length c.deref.result.now < 2 ^ 30
few_inner g c =
    let few : length c.node-main.result.now.places ≤ 4096 = c.node-main.ensures.proper.few in
    omega (arith, c.in_ok-places.ensures.few, ap length c.deref.ensures.value)

pub watch-requires-clause-proper : goal.watch-requires-clause-proper
watch-requires-clause-proper g c = c.requires.flat.proper

pub watch-requires-clause-few : goal.watch-requires-clause-few
watch-requires-clause-few g c = few_inner g c

pub watch-requires-clause-first : goal.watch-requires-clause-first
watch-requires-clause-first g c = few_results g c

pub watch-requires-clause-within : goal.watch-requires-clause-within
watch-requires-clause-within g c = inner_within (at_hand g c)

pub watch-requires-clause-made : goal.watch-requires-clause-made
watch-requires-clause-made g c = more_proper (at_hand g c)

pub play_results-requires-clause-serves : goal.play_results-requires-clause-serves
play_results-requires-clause-serves g c κs within = c.requires.serves

pub play_results-requires-clause-fixed : goal.play_results-requires-clause-fixed
play_results-requires-clause-fixed g c κs within = (at_hand g (goal.at.play_results-requires-clause-fixed g c).After-deref).fixed

pub play_results-requires-clause-grown : goal.play_results-requires-clause-grown
play_results-requires-clause-grown g c κs within = plain_grown (at_hand g (goal.at.play_results-requires-clause-grown g c).After-deref)

pub play_results-requires-clause-fed : goal.play_results-requires-clause-fed
play_results-requires-clause-fed g c κs within = plain_fed (at_hand g (goal.at.play_results-requires-clause-fed g c).After-deref)

pub play_results-requires-clause-few : goal.play_results-requires-clause-few
play_results-requires-clause-few g c κs within = few_results g (goal.at.play_results-requires-clause-few g c).After-deref

pub play_all-requires-clause-serves : goal.play_all-requires-clause-serves
play_all-requires-clause-serves g c κs within = c.requires.serves

pub play_all-requires-clause-fixed : goal.play_all-requires-clause-fixed
play_all-requires-clause-fixed g c κs within =
    (can_play (at_hand g (goal.at.play_all-requires-clause-fixed g c).After-deref) c.in-Some.is c.in_ok-watch.ensures).fixed

pub play_all-requires-clause-grown : goal.play_all-requires-clause-grown
play_all-requires-clause-grown g c κs within =
    (can_play (at_hand g (goal.at.play_all-requires-clause-grown g c).After-deref) c.in-Some.is c.in_ok-watch.ensures).grown

pub play_all-requires-clause-fed : goal.play_all-requires-clause-fed
play_all-requires-clause-fed g c κs within =
    (can_play (at_hand g (goal.at.play_all-requires-clause-fed g c).After-deref) c.in-Some.is c.in_ok-watch.ensures).fed

pub play_all-requires-clause-fed_too : goal.play_all-requires-clause-fed_too
play_all-requires-clause-fed_too g c κs within =
    subst (AreFed c.args.placed.now.nodes c.args.clocks.now c.in-Some.watched.net (length c.list-results.result.now)) (c.deref.ensures.value ∙ sym c.deref-in-Some.ensures.value)
    (can_play (at_hand g (goal.at.play_all-requires-clause-fed_too g c).After-deref) c.in-Some.is c.in_ok-watch.ensures).fed_too

pub play_all-requires-clause-few : goal.play_all-requires-clause-few
play_all-requires-clause-few g c κs within = few_results g (goal.at.play_all-requires-clause-few g c).After-deref

pub play_all-requires-clause-few_places : goal.play_all-requires-clause-few_places
play_all-requires-clause-few_places g c κs within =
    subst (λ ps. length ps < 2 ^ 30) (c.deref.ensures.value ∙ sym c.deref-in-Some.ensures.value) (few_inner g (goal.at.play_all-requires-clause-few_places g c).After-deref)

pub returns-in-None-clause-streams : goal.returns-in-None-clause-streams
returns-in-None-clause-streams g c =
    let h = at_hand g (goal.at.returns-in-None-clause-streams g c).After-deref in
    main_played (kinds_of (lent c.args.host.now)) c.args.lists c.args.placed.now.nodes c.args.clocks.now c.args.instants c.node-main.result.now c.list-results.result.now c.play_results.result c.play_results.ensures.streams h.main_is h.results_are

pub returns-in-None-clause-inside : goal.returns-in-None-clause-inside
returns-in-None-clause-inside g c =
    none_inside (kinds_of (lent c.args.host.now)) c.args.lists c.args.placed.now.nodes c.args.clocks.now c.args.net c.args.instants c.play_results.result c.play_results.ensures.inside
    (cannot_show (at_hand g (goal.at.returns-in-None-clause-inside g c).After-deref) c.in-None.is c.in_ok-watch.ensures)

pub returns-clause-streams : goal.returns-clause-streams
returns-clause-streams g c =
    let h = at_hand g (goal.at.returns-clause-streams g c).After-deref in
    main_played (kinds_of (lent c.args.host.now)) c.args.lists c.args.placed.now.nodes c.args.clocks.now c.args.instants c.node-main.result.now c.list-results.result.now c.play_all.result c.play_all.ensures.streams h.main_is h.results_are

pub returns-clause-inside : goal.returns-clause-inside
returns-clause-inside g c =
    let h = at_hand g (goal.at.returns-clause-inside g c).After-deref in
    some_inside (kinds_of (lent c.args.host.now)) c.args.lists c.args.placed.now.nodes c.args.clocks.now c.args.net c.args.instants c.deref-in-Some.result.now c.play_all.result c.play_all.ensures.inside
    (can_play h c.in-Some.is c.in_ok-watch.ensures).shown (c.deref-in-Some.ensures.value ∙ sym c.deref.ensures.value ∙ inner_is h)
