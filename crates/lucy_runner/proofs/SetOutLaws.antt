-- What was made, as it is seen: the parts of all actors at their beginning.
use Rattle.std.proofs.Common.{ℕ, suc, ◌<◌, ◌≡◌, cond, List, [], ◌∷◌, map, length, get_or, ap, sym, refl, ◌∙◌, subst, arith}
use Rattle.std.specs.Prelude.{ℤ, Some, slice_get, replicate}
use Rattle.std.specs.List.{range_with_len}
use Rattle.std.proofs.lemmas.Option.{slice_get_within}
use Rattle.lucy_word.specs.Bits.{ones_to}
use Rattle.lucy_host.specs.Operators.{Operator}
use Rattle.lucy_host.proofs.Elements.{get_there}
use Rattle.lucy_stream.specs.Items.{list_at}
use Rattle.lucy_stream.specs.Plans.{HasInput}
use Rattle.lucy_net.specs.declared.kind.ActorKind.{ActorKind}
use Rattle.lucy_net.specs.declared.kind.ActorKind.TheVariants.{Input, Lit, Op, Host, When, Merge, Fby, Pass, Output}
use Rattle.lucy_net.specs.declared.net.Actor.{Actor}
use Rattle.lucy_net.specs.declared.net.Net.{Net}
use Rattle.lucy_net.specs.Plans.{form_of}
use Rattle.lucy_net.specs.Proper.{IsProper}
use Rattle.lucy_net.specs.States.{ReadsInput}
use Rattle.lucy_net.specs.Schedules.{Timetable}
use Rattle.lucy_core.specs.Seen.{CanMakeCore, first_seen}
use Rattle.lucy_ring.specs.Views.{GiverView, TakerView}
use Rattle.lucy_worker.specs.declared.part.Part.{Part}
use Rattle.lucy_runner.specs.declared.place.Place.{Place}
use Rattle.lucy_runner.specs.declared.place.Ends.{Ends}
use Rattle.lucy_runner.specs.Views.{input_count, input_for, inputs_for}
use Rattle.lucy_runner.specs.Crews.{placed_in, part_of, done_in, done_at_place, done_list, items_of, inputs_of, seen_by}
use Rattle.lucy_runner.specs.Making.{IsBegun, HasEndsOf, AreMade}
use Rattle.lucy_runner.proofs.JoiningLaws.{map_alike}
use Rattle.lucy_runner.proofs.MadeLaws.{is_out, out_begun}
use Rattle.lucy_runner.proofs.BegunLaws.{none_done}
use Rattle.lucy_runner.proofs.InputLaws.{HasListOf, items_are, read_here, counted_here, numbered}

-- an actor of the net, whose part has done nothing and has the ends of its rings
pub record IsSetOut (net : Net) (inputs : List (List ℤ)) (instants : ℕ) (crew : List (List Part)) (places : List Place) (givers : List GiverView) (takers : List TakerView) (a : ℕ) (actor : Actor) : Type 0 where
  pub part : Part
  pub at : part_of crew places a ≡ Some part
  pub begun : IsBegun inputs instants a actor part
  pub first : Part
  pub ends : HasEndsOf givers takers actor.gives actor.takes first part

pub sets_out : (net : Net) (inputs : List (List ℤ)) (instants : ℕ) (crew : List (List Part)) (places : List Place) (ends : List Ends) (made : AreMade net inputs instants crew places ends) → IsProper net → (a : ℕ) (actor : Actor) → slice_get net.actors a ≡ Some actor →
    IsSetOut net inputs instants crew places made.joined.givers made.joined.takers a actor
sets_out net inputs instants crew places ends made proper a actor here =
    let out = is_out net inputs instants made.alone made.parts ends proper made.first made.joined a actor here in
    record {
      part = out.part;
      at = made.seated.each a out.part (slice_get_within net.actors a actor here) out.there;
      begun = out_begun inputs instants made.parts made.joined.givers made.joined.takers a actor out;
      first = out.alone;
      ends = out.ends;
    }

-- what is read is the list of a number
pub list_read : (what : ActorKind) (inputs : List (List ℤ)) (items : List ℤ) → ReadsInput what inputs items → HasListOf (list_at inputs) what items
list_read (Input n) inputs items is = is
list_read (Lit value) inputs items is = tt
list_read (Op op) inputs items is = tt
list_read (Host op) inputs items is = tt
list_read (When word) inputs items is = tt
list_read (Merge word) inputs items is = tt
list_read (Fby first) inputs items is = tt
list_read Pass inputs items is = tt
list_read (Output output) inputs items is = tt

-- the inputs that are seen
inputs_seen : (net : Net) (inputs : List (List ℤ)) (instants : ℕ) (crew : List (List Part)) (places : List Place) (ends : List Ends) → AreMade net inputs instants crew places ends → IsProper net → inputs_of net crew places ≡ inputs_for net inputs
inputs_seen net inputs instants crew places ends made proper =
    let each : (i : ℕ) → items_of crew places i ≡ input_for net.actors inputs i = λ i. items_are (list_at inputs) i crew places net.actors made.seated.placed (λ a actor e.
    let out = sets_out net inputs instants crew places ends made proper a actor e in
    record {
      is = out.part;
      there = out.at;
      same = out.begun.of_actor;
      list = subst (λ (y : Actor). HasListOf (list_at inputs) y.kind out.part.input.items) (sym out.begun.of_actor) (list_read actor.kind inputs out.part.input.items out.begun.reads);
    }) in
    map_alike (items_of crew places) (input_for net.actors inputs) (range_with_len 0 (input_count net.actors)) (λ k d l. each (get_or (range_with_len 0 (input_count net.actors)) k d))

-- an input of the net has its list among those that are seen
list_seen : (net : Net) (inputs : List (List ℤ)) (a n : ℕ) (actor : Actor) → slice_get net.actors a ≡ Some actor → actor.kind ≡ Input n → list_at (inputs_for net inputs) n ≡ list_at inputs n
list_seen net inputs a n actor here is =
    numbered (input_for net.actors inputs) (input_count net.actors) n (counted_here net.actors a n actor here is)
    ∙ ap (λ b. cond b (list_at inputs n) []) (read_here net.actors a n actor here is)

pub reads_seen : (net : Net) (inputs : List (List ℤ)) (a : ℕ) (actor : Actor) (what : ActorKind) (items : List ℤ) → slice_get net.actors a ≡ Some actor → actor.kind ≡ what → ReadsInput what inputs items → ReadsInput what (inputs_for net inputs) items
reads_seen net inputs a actor (Input n) items here is reads = reads ∙ sym (list_seen net inputs a n actor here is)
reads_seen net inputs a actor (Lit value) items here is reads = tt
reads_seen net inputs a actor (Op op) items here is reads = tt
reads_seen net inputs a actor (Host op) items here is reads = tt
reads_seen net inputs a actor (When word) items here is reads = tt
reads_seen net inputs a actor (Merge word) items here is reads = tt
reads_seen net inputs a actor (Fby first) items here is reads = tt
reads_seen net inputs a actor Pass items here is reads = tt
reads_seen net inputs a actor (Output output) items here is reads = tt

fed_seen : (net : Net) (inputs : List (List ℤ)) (a quota : ℕ) (actor : Actor) (what : ActorKind) → slice_get net.actors a ≡ Some actor → actor.kind ≡ what → HasInput inputs (form_of what) quota → HasInput (inputs_for net inputs) (form_of what) quota
fed_seen net inputs a quota actor (Input n) here is fed = omega (arith, fed, ap length (list_seen net inputs a n actor here is))
fed_seen net inputs a quota actor (Lit value) here is fed = tt
fed_seen net inputs a quota actor (Op op) here is fed = tt
fed_seen net inputs a quota actor (Host op) here is fed = tt
fed_seen net inputs a quota actor (When word) here is fed = tt
fed_seen net inputs a quota actor (Merge word) here is fed = tt
fed_seen net inputs a quota actor (Fby first) here is fed = tt
fed_seen net inputs a quota actor Pass here is fed = tt
fed_seen net inputs a quota actor (Output output) here is fed = tt

pub fixed_seen : (net : Net) (schedule : Timetable) (inputs : List (List ℤ)) (operators : List Operator) (instants : ℕ) → CanMakeCore net schedule inputs operators instants → CanMakeCore net schedule (inputs_for net inputs) operators instants
fixed_seen net schedule inputs operators instants is = record {
  proper = is.proper;
  sound = is.sound;
  early = is.early;
  supplied = λ a actor e. fed_seen net inputs a (ones_to actor.firing instants) actor actor.kind e refl (is.supplied a actor e);
  known = is.known;
}

-- no operation is done
map_zeros : {X : Type 0} (f : X → ℕ) (xs : List X) → ((k : ℕ) (x : X) → slice_get xs k ≡ Some x → f x ≡ 0) → map f xs ≡ replicate (length xs) 0
map_zeros f [] h = refl
map_zeros f (x ∷ xs) h = ap (λ y. y ∷ map f xs) (h 0 x refl) ∙ ap (λ ys. 0 ∷ ys) (map_zeros f xs (λ k y e. h (suc k) y e))

nothing_done : (net : Net) (inputs : List (List ℤ)) (instants : ℕ) (crew : List (List Part)) (places : List Place) (ends : List Ends) → AreMade net inputs instants crew places ends → IsProper net → done_list crew places ≡ replicate (length net.actors) 0
nothing_done net inputs instants crew places ends made proper =
    map_zeros (done_at_place crew) places (λ a place e.
    let l : a < length net.actors = (let w : a < length places = slice_get_within places a place e in let n : length places ≡ length net.actors = made.seated.placed in omega arith) in
    let (actor, here) = get_there net.actors a l in
    let out = sets_out net inputs instants crew places ends made proper a actor here in
    ap done_in (ap (placed_in crew) (sym e) ∙ out.at) ∙ none_done inputs instants a actor out.part out.begun)
    ∙ ap (λ n. replicate n 0) made.seated.placed

-- it is what is seen of a core without an event
pub first_is : (net : Net) (schedule : Timetable) (inputs : List (List ℤ)) (operators : List Operator) (instants : ℕ) (crew : List (List Part)) (places : List Place) (ends : List Ends) → AreMade net inputs instants crew places ends → IsProper net →
    seen_by net schedule operators instants crew places ≡ first_seen net schedule (inputs_for net inputs) operators instants
first_is net schedule inputs operators instants crew places ends made proper =
    ap (λ xs. record { net = net; schedule = schedule; inputs = xs; operators = operators; instants = instants; done = done_list crew places }) (inputs_seen net inputs instants crew places ends made proper)
    ∙ ap (λ xs. record { net = net; schedule = schedule; inputs = inputs_for net inputs; operators = operators; instants = instants; done = xs }) (nothing_done net inputs instants crew places ends made proper)

pub first_same : (net other : Net) (schedule times : Timetable) (inputs lists : List (List ℤ)) (operators ops : List Operator) (instants horizon : ℕ) → net ≡ other → schedule ≡ times → inputs ≡ lists → operators ≡ ops → instants ≡ horizon →
    first_seen net schedule (inputs_for net inputs) operators instants ≡ first_seen other times (inputs_for other lists) ops horizon
first_same net other schedule times inputs lists operators ops instants horizon n s i o t =
    ap (λ x. first_seen x schedule (inputs_for x inputs) operators instants) n ∙ ap (λ x. first_seen other x (inputs_for other inputs) operators instants) s
    ∙ ap (λ x. first_seen other times (inputs_for other x) operators instants) i ∙ ap (λ x. first_seen other times (inputs_for other lists) x instants) o ∙ ap (λ x. first_seen other times (inputs_for other lists) ops x) t
