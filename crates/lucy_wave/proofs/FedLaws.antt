-- What outputs take of the net of a program with outputs more.
use Rattle.std.proofs.Common.{ℕ, suc, zero, ◌+◌, ◌-◌, ◌*◌, ◌<◌, ◌≡◌, Bool, eqb, List, [], ◌∷◌, ◌++◌, Some, length, map, take, get_or, ap, sym, refl, ◌∙◌, subst, inl, inr, arith}
use Rattle.std.specs.Prelude.{ℤ, slice_get, option_map, if◌then◌else◌}
use Rattle.std.proofs.lemmas.List.{map-append, take_more, length-map}
use Rattle.std.proofs.lemmas.Option.{slice_get_within, slice_get-map, get_or_from_slice_get}
use Rattle.lucy_word.specs.Bits.{Bits, ones_to}
use Rattle.lucy_word.proofs.Lists.{map_from}
use Rattle.lucy_host.specs.declared.kind.HostKind.{HostKind}
use Rattle.lucy_host.specs.Operators.{kinds_of}
use Rattle.lucy_host.proofs.Elements.{get_there}
use Rattle.lucy_stream.specs.Items.{list_at}
use Rattle.lucy_stream.specs.Iterates.{Place, lists_of, iterate}
use Rattle.lucy_stream.specs.Lists.{form_list}
use Rattle.lucy_stream.specs.Plans.{Task, GiveBelow}
use Rattle.lucy_stream.proofs.IterateLaws.{list_at_map}
use Rattle.lucy_net.specs.declared.net.Actor.{Actor}
use Rattle.lucy_net.specs.declared.net.Net.{Net}
use Rattle.lucy_net.specs.Plans.{task_of, giver, taker, plan}
use Rattle.lucy_net.specs.Proper.{numbers_where, IsProper}
use Rattle.lucy_net.specs.Causal.{actor_place, net_places}
use Rattle.lucy_net.proofs.BackLaws.{same_places}
use Rattle.lucy_net.proofs.WhereLaws.{where_all}
use Rattle.lucy_core.specs.Seen.{Seen, IsOver, IsOutputOf, first_ring, plan_of, stream_of}
use Rattle.lucy_place.specs.declared.placed.PlacedNode.{PlacedNode}
use Rattle.lucy_clock.specs.declared.node_clock.NodeClock.{NodeClock}
use Rattle.lucy_kahn.specs.Spots.{at, IsSpot}
use Rattle.lucy_kahn.specs.Sizes.{all_places}
use Rattle.lucy_kahn.specs.Kahn.{kahn}
use Rattle.lucy_kahn.proofs.JoinedLists.{mapped}
use Rattle.lucy_results.specs.Streams.{main_word, main_stream}
use Rattle.lucy_wave.specs.Watching.{output_on, with_output}
use Rattle.lucy_wave.specs.Seen.{IsGrown, IsFedBy}
use Rattle.lucy_wave.proofs.GiveLaws as give
use Rattle.lucy_wave.proofs.GiveLaws.{IsGiving}
use Rattle.lucy_wave.proofs.ProperLaws.{giver_there}
use Rattle.lucy_wave.proofs.ReadLaws.{either}

-- what the numbers for which a test holds are sent to
map_where : (f g : ℕ → ℕ) (p : ℕ → Bool) (n : ℕ) → ((r : ℕ) → r < n → f r ≡ g r) → map f (numbers_where p n) ≡ map g (numbers_where p n)
map_where f g p zero h = refl
map_where f g p (suc n) h =
    map-append f (numbers_where p n) (if p n then n ∷ [] else [])
    ∙ ap (λ xs. xs ++ map f (if p n then n ∷ [] else [])) (map_where f g p n (λ r l. h r (omega arith)))
    ∙ ap (λ xs. map g (numbers_where p n) ++ xs) (either (λ xs. map f xs ≡ map g xs) (p n) (n ∷ []) [] (ap (λ x. x ∷ []) (h n (omega arith))) refl)
    ∙ sym (map-append g (numbers_where p n) (if p n then n ∷ [] else []))

-- the lists that are read are the same, where the lists at their numbers are
lists_same : (lists others : List (List ℤ)) (count : ℕ) (reads : List ℕ) → ((k x : ℕ) → slice_get reads k ≡ Some x → x < count) →
    ((a : ℕ) → a < count → list_at others a ≡ list_at lists a) → lists_of others reads ≡ lists_of lists reads
lists_same lists others count [] low same = refl
lists_same lists others count (x ∷ reads) low same =
    ap (λ l. l ∷ lists_of others reads) (same x (low zero x refl)) ∙ ap (λ ls. list_at lists x ∷ ls) (lists_same lists others count reads (λ k y e. low (suc k) y e) same)

-- places that read one another alone have the same lists among more
module _ (kinds : List HostKind) (inputs : List (List ℤ)) (places others : List Place)
    (stay : (a : ℕ) (place : Place) → slice_get places a ≡ Some place → slice_get others a ≡ Some place)
    (inside : (a k x : ℕ) (place : Place) → slice_get places a ≡ Some place → slice_get place.reads k ≡ Some x → x < length places) where
  pub same_lists : (n a : ℕ) → a < length places → list_at (iterate kinds inputs others n) a ≡ list_at (iterate kinds inputs places n) a
  same_lists zero a h =
      let p = get_there places a h in
      list_at_map (λ place. []) others a p.0 (stay a p.0 p.1) ∙ sym (list_at_map (λ place. []) places a p.0 p.1)
  same_lists (suc n) a h =
      let p = get_there places a h in
      list_at_map (λ place. form_list kinds inputs n place.form (lists_of (iterate kinds inputs others n) place.reads)) others a p.0 (stay a p.0 p.1)
      ∙ ap (form_list kinds inputs n p.0.form) (lists_same (iterate kinds inputs places n) (iterate kinds inputs others n) (length places) p.0.reads (λ k x e. inside a k x p.0 p.1 e) (same_lists n))
      ∙ sym (list_at_map (λ place. form_list kinds inputs n place.form (lists_of (iterate kinds inputs places n) place.reads)) places a p.0 p.1)

module _ (net : Net) (proper : IsProper net) where
  -- the rings from which an actor takes are there
  pub takes_there : (a k r : ℕ) (actor : Actor) → slice_get net.actors a ≡ Some actor → slice_get actor.takes k ≡ Some r → r < length net.rings
  takes_there a k r actor e f =
      let all = where_all (λ n. n < length net.rings) (λ n. eqb (taker net n) a) (length net.rings) (λ n l y. l) in
      let own = (proper.actors a actor e).takes in
      let at : slice_get (numbers_where (λ n. eqb (taker net n) a) (length net.rings)) k ≡ Some r = ap (λ xs. slice_get xs k) (sym own) ∙ f in
      let l = slice_get_within (numbers_where (λ n. eqb (taker net n) a) (length net.rings)) k r at in
      subst (λ n. n < length net.rings) (get_or_from_slice_get (numbers_where (λ n. eqb (taker net n) a) (length net.rings)) k r 0 at) (all k 0 l)

  -- an actor's place reads places of actors
  pub reads_there : (a k x : ℕ) (place : Place) → slice_get (net_places net) a ≡ Some place → slice_get place.reads k ≡ Some x → x < length (net_places net)
  reads_there a k x place e f =
      let from = mapped (actor_place net) (slice_get net.actors a) place (sym (slice_get-map (actor_place net) net.actors a) ∙ e) in
      let read = map_from (giver net) from.0.takes k x (ap (λ (p : Place). slice_get p.reads k) from.2 ∙ f) in
      let ring = takes_there a k read.0 from.0 from.1 read.1 in
      let low = giver_there net proper read.0 ring in
      let same = read.2 in
      omega (arith, length-map net.actors (actor_place net))

module _ (net : Net) (output place : ℕ) (word : Bits) (proper : IsProper net) where
  abbrev more : Net
  more = with_output net output place word

  -- the places of the net stay
  places_stay : (a : ℕ) (p : Place) → slice_get (net_places net) a ≡ Some p → slice_get (net_places more) a ≡ Some p
  places_stay a p e =
      let from = mapped (actor_place net) (slice_get net.actors a) p (sym (slice_get-map (actor_place net) net.actors a) ∙ e) in
      let to = give.keeps net output place word a from.0 from.1 in
      let own = (proper.actors a from.0 from.1).takes in
      let reads : map (giver more) from.0.takes ≡ map (giver net) from.0.takes =
      ap (map (giver more)) own ∙ map_where (giver more) (giver net) (λ r. eqb (taker net r) a) (length net.rings) (give.giver_old net output place word) ∙ ap (map (giver net)) (sym own) in
      slice_get-map (actor_place more) more.actors a ∙ ap (option_map (actor_place more)) to.1
      ∙ ap (λ xs. Some (record { form = (actor_place net from.0).form; reads = xs })) reads ∙ ap (λ q. Some q) from.2

  module _ (nodes : List PlacedNode) (grown : IsGrown nodes net) (below : place - 1 < all_places nodes) where
    quiet : (t : ℕ) → GiveBelow (plan more t) (all_places nodes)
    quiet t a task e high =
        let from = mapped (task_of t) (slice_get more.actors a) task (sym (slice_get-map (task_of t) more.actors a) ∙ e) in
        ap (λ (x : Task). x.gives) (sym from.2) ∙ actor_quiet from.0 from.1
      where
        actor_quiet : (new : Actor) → slice_get more.actors a ≡ Some new → new.gives ≡ []
        actor_quiet new f =
            elim (give.actor_is net output place word a new f) [
              | inl (old, old_there, inl (own, is)) ↦ absurd (omega arith)
              | inl (old, old_there, inr (other, is)) ↦
                  ap (λ (x : Actor). x.gives) is ∙ grown.below t a (task_of t old) (slice_get-map (task_of t) net.actors a ∙ ap (option_map (task_of t)) old_there) high
              | inr (number, is) ↦ ap (λ (x : Actor). x.gives) (sym is)
            ]

    pub still_grown : ((p : ℕ) → IsSpot nodes (at [] p) → p - 1 < length net.actors) → IsGrown nodes more
    still_grown there_are = record {
      below = quiet;
      iterates = λ kinds inputs n p spot.
          same_lists kinds inputs (net_places net) (net_places more) places_stay (reads_there net proper) n (p - 1) (let l = there_are p spot in omega (arith, length-map net.actors (actor_place net)))
          ∙ grown.iterates kinds inputs n p spot;
    }

  -- an output that was there takes what it took
  pub still_fed : (nodes : List PlacedNode) (clocks : List NodeClock) (number of : ℕ) → IsFedBy nodes clocks net number of → IsFedBy nodes clocks more number of
  still_fed nodes clocks number of fed =
      let to = give.keeps net output place word fed.index fed.actor fed.output.there in
      let low = fed.ring in
      record {
        spot = fed.spot;
        index = fed.index;
        actor = record fed.actor { gives = to.0 };
        output = record { there = to.1; kind = fed.output.kind };
        counts = fed.counts;
        ring = omega (arith, give.rings_count net output place word);
        from = give.giver_old net output place word (first_ring fed.actor) fed.ring ∙ fed.from;
      }

  -- the new one takes what the place's actor gives
  pub newly_fed : (nodes : List PlacedNode) (clocks : List NodeClock) → IsSpot nodes (at [] place) → ((t : ℕ) → ones_to word t ≡ ones_to (main_word nodes clocks place) t) → IsFedBy nodes clocks more output place
  newly_fed nodes clocks spot counts = record {
    spot = spot;
    index = length net.actors;
    actor = output_on output (length net.rings) word;
    output = record { there = give.last_there net output place word; kind = refl };
    counts = counts;
    ring = omega (arith, give.rings_count net output place word);
    from = give.giver_new net output place word;
  }

-- what a core tells of an output once it is finished
abbrev pub IsTaken : Seen → ℕ → List ℤ → Type 0
IsTaken seen i list = (a givers : ℕ) (actor : Actor) → IsOutputOf seen.net i a actor → GiveBelow (plan_of seen) givers → IsOver seen →
    list ≡ take (ones_to actor.firing seen.instants) (stream_of seen givers (first_ring actor))

-- it is the stream of the place that feeds it
pub stream_taken : (seen : Seen) (nodes : List PlacedNode) (clocks : List NodeClock) (number place : ℕ) (list : List ℤ) → IsGrown nodes seen.net → IsFedBy nodes clocks seen.net number place → IsOver seen → IsTaken seen number list →
    list ≡ main_stream (kinds_of seen.operators) seen.inputs nodes clocks seen.instants place
stream_taken seen nodes clocks number place list grown fed over taken =
    let kinds = kinds_of seen.operators in
    let count : ℕ = all_places nodes * seen.instants in
    let turns : count ≡ seen.instants * all_places nodes = omega arith in
    taken fed.index (all_places nodes) fed.actor fed.output (grown.below seen.instants) over
    ∙ ap (λ k. take k (stream_of seen (all_places nodes) (first_ring fed.actor))) (fed.counts seen.instants)
    ∙ ap (λ ps. take (ones_to (main_word nodes clocks place) seen.instants) (list_at (iterate kinds seen.inputs ps count) (giver seen.net (first_ring fed.actor)))) (same_places seen.net seen.instants)
    ∙ ap (λ a. take (ones_to (main_word nodes clocks place) seen.instants) (list_at (iterate kinds seen.inputs (net_places seen.net) count) a)) fed.from
    ∙ ap (take (ones_to (main_word nodes clocks place) seen.instants)) (grown.iterates kinds seen.inputs count place fed.spot)
    ∙ ap (λ n. take (ones_to (main_word nodes clocks place) seen.instants) (kahn kinds seen.inputs nodes n (at [] place))) turns

-- the streams so far with the next one
pub streams_more : (f : ℕ → List ℤ) (places : List ℕ) (i place : ℕ) (list : List ℤ) → slice_get places i ≡ Some place → list ≡ f place → take i (map f places) ++ list ∷ [] ≡ take (i + 1) (map f places)
streams_more f places i place list e is =
    let within = slice_get_within places i place e in
    let here : get_or (map f places) i [] ≡ f place = get_or_from_slice_get (map f places) i (f place) [] (slice_get-map f places i ∙ ap (option_map f) e) in
    ap (λ x. take i (map f places) ++ x ∷ []) (is ∙ sym here) ∙ sym (take_more (map f places) i [] (omega (arith, within, length-map places f)))
