-- A block more, and what an actor gets in it.
use Rattle.std.proofs.Common.{ℕ, ◌<◌, ◌≤◌, ◌≡◌, cond, List, [], ◌++◌, map, length, get_or, ap, sym, ◌∙◌, subst, inl, inr, arith}
use Rattle.std.specs.Prelude.{ℤ, Some, slice_get}
use Rattle.std.proofs.lemmas.Bool.{cases_lt}
use Rattle.std.proofs.lemmas.Option.{slice_get_within, slice_get-get_or}
use Rattle.lucy_word.specs.Limits.{limit_number}
use Rattle.lucy_word.specs.declared.limit.Limit.TheVariants as limit
use Rattle.lucy_word.proofs.Lists.{get_one}
use Rattle.lucy_host.specs.Operators.{kinds_of}
use Rattle.lucy_net.specs.declared.kind.ActorKind.{ActorKind}
use Rattle.lucy_net.specs.declared.kind.ActorKind.TheVariants as kind
use Rattle.lucy_net.specs.declared.net.Actor.{Actor}
use Rattle.lucy_net.specs.Proper.{IsSupplied}
use Rattle.lucy_net.specs.States.{IsActorState, ReadsInput}
use Rattle.lucy_core.specs.Seen as core
use Rattle.lucy_core.specs.Seen.{Seen, CanMakeCore, IsOver}
use Rattle.lucy_stream.specs.Items.{list_at}
use Rattle.lucy_worker.specs.declared.part.Part.{Part}
use Rattle.lucy_worker.specs.Parts.{done_of, state_of, IsPartAt}
use Rattle.lucy_worker.specs.Growing.{IsExtended}
use Rattle.lucy_runner.specs.declared.place.Place.{Place}
use Rattle.lucy_runner.specs.declared.place.Ends.{Ends}
use Rattle.lucy_runner.specs.Views.{is_read}
use Rattle.lucy_runner.specs.Crews.{part_of, done_in, inputs_of, items_of}
use Rattle.lucy_runner.specs.Standing.{carried, IsPartOf, IsStanding}
use Rattle.lucy_runner.specs.Blocks.{longer_for, longer_inputs, grown_seen}
use Rattle.lucy_runner.specs.Growths.{added_for, HaveGrown}
use Rattle.lucy_runner.proofs.PlaceLaws.{IsFound, found, part_is, no_part}
use Rattle.lucy_runner.proofs.InputLaws.{HasListOf, items_are}
use Rattle.lucy_runner.proofs.SetOutLaws.{list_read}

-- a finished state whose parts were given more to do
pub record Block : Type 0 where
  pub seen : Seen
  pub before : ℕ
  pub crew : List (List Part)
  pub grown : List (List Part)
  pub places : List Place
  pub ends : List Ends
  pub added : List (List ℤ)
  pub instants : ℕ
  pub counts : (a : ℕ) → core.done_of seen.done a ≡ done_in (part_of crew places a)
  pub inputs : seen.inputs ≡ inputs_of seen.net crew places
  pub standing : IsStanding seen before crew places ends
  pub over : IsOver seen
  pub grows : HaveGrown crew grown added instants
  pub later : seen.instants ≤ instants
  pub early : instants ≤ limit_number limit.Instants
  pub supplied : IsSupplied (longer_inputs seen.net seen.inputs added) seen.net instants

-- what is seen then
abbrev pub then : Block → Seen
then b = grown_seen b.seen b.added b.instants

pub fixed : (b : Block) → CanMakeCore b.seen.net b.seen.schedule (then b).inputs b.seen.operators b.instants
fixed b = record { proper = b.standing.fixed.proper; sound = b.standing.fixed.sound; early = b.early; supplied = b.supplied; known = b.standing.fixed.known }

-- what an actor gets
pub record Gets (b : Block) (a : ℕ) : Type 0 where
  pub part : Part
  pub at : part_of b.crew b.places a ≡ Some part
  pub number : part.number ≡ a
  pub stands : IsPartAt (kinds_of b.seen.operators) b.seen.inputs b.seen.net b.seen.instants (core.state_of b.seen) (carried b.seen b.before part) part
  pub there : slice_get b.seen.net.actors a ≡ Some part.actor
  pub after : Part
  pub after_at : part_of b.grown b.places a ≡ Some after
  pub grows : IsExtended part (added_for part.actor.kind b.added) b.instants after

pub gets : (b : Block) (a : ℕ) → a < length b.seen.net.actors → Gets b a
gets b a l =
    let is : IsPartOf b.seen b.before b.crew b.places a = b.standing.actors a l in
    let p : Part = is.part in
    let f : IsFound b.crew b.places a p = found b.crew b.places a p is.at in
    let s : ℕ = f.place.seat in
    let k : ℕ = f.place.part in
    let qs : List Part = get_or b.grown s [] in
    let seat : slice_get b.grown s ≡ Some qs = slice_get-get_or b.grown s [] (omega (arith, slice_get_within b.crew s f.parts f.seat, b.grows.seats)) in
    let q : Part = get_or qs k p in
    let here : slice_get qs k ≡ Some q = slice_get-get_or qs k p (omega (arith, slice_get_within f.parts k p f.part, b.grows.counts s f.parts qs f.seat seat)) in
    record {
      part = p;
      at = is.at;
      number = is.number;
      stands = is.stands;
      there = ap (slice_get b.seen.net.actors) (sym is.number) ∙ is.stands.there;
      after = q;
      after_at = part_is b.grown b.places a f.place qs q f.at seat here;
      grows = b.grows.parts s k f.parts qs p q f.seat seat f.part here;
    }

-- the part has done as much as before
pub same_done : (b : Block) (a : ℕ) (w : Gets b a) → done_of w.after ≡ done_of w.part
same_done b a w =
    let is : IsActorState w.part.actor b.instants (done_of w.part) (map (state_of (core.state_of b.seen) w.part).took w.part.actor.takes) w.after.state =
    w.grows.state b.seen.instants (done_of w.part) (map (state_of (core.state_of b.seen) w.part).took w.part.actor.takes) w.stands.state in
    ap (λ (y : Part). done_of y) w.grows.rest ∙ sym is.done

pub grown_done : (b : Block) (a : ℕ) → done_in (part_of b.grown b.places a) ≡ done_in (part_of b.crew b.places a)
grown_done b a = elim (cases_lt a (length b.seen.net.actors)) [
  | inl l ↦ (let w : Gets b a = gets b a l in ap done_in w.after_at ∙ same_done b a w ∙ sym (ap done_in w.at))
  | inr past ↦
      let l : length b.places ≤ a = omega (arith, b.standing.placed) in
      ap done_in (no_part b.grown b.places a l) ∙ sym (ap done_in (no_part b.crew b.places a l))
]

-- the lists of the inputs, before and then
new_list : (what : ActorKind) (inputs added : List (List ℤ)) (items more : List ℤ) → ReadsInput what inputs items → more ≡ items ++ added_for what added → HasListOf (λ n. list_at inputs n ++ list_at added n) what more
new_list (kind.Input n) inputs added items more reads is = is ∙ ap (λ (xs : List ℤ). xs ++ list_at added n) reads
new_list what inputs added items more reads is = tt

pub items_before : (b : Block) (i : ℕ) → items_of b.crew b.places i ≡ cond (is_read i b.seen.net.actors) (list_at b.seen.inputs i) []
items_before b i =
    items_are (list_at b.seen.inputs) i b.crew b.places b.seen.net.actors b.standing.placed (λ a actor e.
    (let w : Gets b a = gets b a (slice_get_within b.seen.net.actors a actor e) in
    record {
      is = w.part;
      there = w.at;
      same = get_one b.seen.net.actors a w.part.actor actor w.there e;
      list = list_read w.part.actor.kind b.seen.inputs w.part.input.items w.stands.reads;
    }))

pub items_then : (b : Block) (i : ℕ) → items_of b.grown b.places i ≡ longer_for b.seen.net.actors b.seen.inputs b.added i
items_then b i =
    items_are (λ n. list_at b.seen.inputs n ++ list_at b.added n) i b.grown b.places b.seen.net.actors b.standing.placed (λ a actor e.
    (let w : Gets b a = gets b a (slice_get_within b.seen.net.actors a actor e) in
    let own : w.after.actor ≡ w.part.actor = ap (λ (y : Part). y.actor) w.grows.rest in
    record {
      is = w.after;
      there = w.after_at;
      same = own ∙ get_one b.seen.net.actors a w.part.actor actor w.there e;
      list = subst (λ (y : Actor). HasListOf (λ n. list_at b.seen.inputs n ++ list_at b.added n) y.kind w.after.input.items) (sym own)
          (new_list w.part.actor.kind b.seen.inputs b.added w.part.input.items w.after.input.items w.stands.reads w.grows.input);
    }))
