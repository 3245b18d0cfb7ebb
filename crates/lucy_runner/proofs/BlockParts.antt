-- In a block more each part stands where it did.
use Rattle.std.proofs.Common.{ℕ, ◌<◌, ◌≡◌, cond, List, [], ◌++◌, map, length, get_or, ap, sym, refl, ◌∙◌, subst, arith}
use Rattle.std.specs.Prelude.{ℤ, slice_index_or, count_by}
use Rattle.std.proofs.lemmas.List.{append-nil, take_all}
use Rattle.std.proofs.lemmas.List.Elements.{All-get_or}
use Rattle.lucy_word.specs.Bits.{ones_to}
use Rattle.lucy_host.specs.Operators.{kinds_of}
use Rattle.lucy_stream.specs.Forms.{Form, Same, operands}
use Rattle.lucy_stream.specs.Firings.{took_in}
use Rattle.lucy_stream.specs.Items.{list_at}
use Rattle.lucy_stream.specs.Systems.{is_take, takes_before, taken}
use Rattle.lucy_stream.specs.Actors.{IsSameAt}
use Rattle.lucy_stream.specs.Plans.{IsOperand}
use Rattle.lucy_stream.proofs.ActorLaws.{each_stands, same_stands}
use Rattle.lucy_stream.proofs.CountLaws.{taken-is}
use Rattle.lucy_stream.proofs.CoverLaws.{once_at}
use Rattle.lucy_stream.proofs.TakeCounts.{takes_in_ops}
use Rattle.lucy_net.specs.declared.kind.ActorKind.{ActorKind}
use Rattle.lucy_net.specs.declared.kind.ActorKind.TheVariants as kind
use Rattle.lucy_net.specs.declared.net.Actor.{Actor}
use Rattle.lucy_net.specs.Plans.{form_of}
use Rattle.lucy_net.specs.States.{IsActorState, ReadsInput}
use Rattle.lucy_net.proofs.NetLaws.{plugged}
use Rattle.lucy_core.specs.Seen.{machine_on}
use Rattle.lucy_core.proofs.ListLaws.{map_same}
use Rattle.lucy_worker.specs.declared.part.Part.{Part}
use Rattle.lucy_worker.specs.Parts as parts
use Rattle.lucy_worker.specs.Parts.{given_on, taken_on, PutsOut, IsPartAt}
use Rattle.lucy_runner.specs.Views.{input_count}
use Rattle.lucy_runner.specs.Crews.{part_of, done_in, AreJoined}
use Rattle.lucy_runner.specs.Standing.{took_first, carried, TookAsMany, IsPartOf}
use Rattle.lucy_runner.specs.Blocks.{longer_for}
use Rattle.lucy_runner.specs.Growths.{added_for}
use Rattle.lucy_runner.proofs.InputLaws.{read_here, counted_here, numbered}
use Rattle.lucy_runner.proofs.OwnLaws.{none_given, none_taken}
use Rattle.lucy_runner.proofs.Blocks.{Block, then, Gets, gets, same_done}
use Rattle.lucy_runner.proofs.BlockStates.{short, long, first, last, short_is, wired, local, first_state, first_done, last_state, same_state}

-- the part of an actor with more to do, which stands where it did
abbrev more_part : (b : Block) (a : ℕ) → Gets b a → Part
more_part b a w = record w.part { state = w.after.state; input = w.after.input; output = w.after.output }

abbrev ends_now : (b : Block) → AreJoined b.crew b.places b.ends b.seen.net.rings
ends_now b r ring e = (b.standing.rings r ring e).joined

idle_given : (b : Block) (a r : ℕ) (w : Gets b a) → given_on w.part r ≡ []
idle_given b a r w = none_given b.seen.net b.crew b.places b.ends (ends_now b) a r w.part b.standing.fixed.proper w.there w.at (λ q ring e. (b.standing.rings q ring e).holds.given)

idle_taken : (b : Block) (a r : ℕ) (w : Gets b a) → taken_on w.part r ≡ []
idle_taken b a r w = none_taken b.seen.net b.crew b.places b.ends (ends_now b) a r w.part b.standing.fixed.proper w.there w.at (λ q ring e. (b.standing.rings q ring e).holds.taken)

-- an input has the longer list
reads_more : (what : ActorKind) (inputs : List (List ℤ)) (items : List ℤ) → ((n : ℕ) → what ≡ kind.Input n → items ≡ list_at inputs n) → ReadsInput what inputs items
reads_more (kind.Input n) inputs items h = h n refl
reads_more what inputs items h = tt

reads_then : (b : Block) (a : ℕ) (w : Gets b a) → ReadsInput w.part.actor.kind (then b).inputs w.after.input.items
reads_then b a w = reads_more w.part.actor.kind (then b).inputs w.after.input.items (λ n is.
    (let old : w.part.input.items ≡ list_at b.seen.inputs n = subst (λ k. ReadsInput k b.seen.inputs w.part.input.items) is w.stands.reads in
    let add : w.after.input.items ≡ w.part.input.items ++ list_at b.added n = subst (λ k. w.after.input.items ≡ w.part.input.items ++ added_for k b.added) is w.grows.input in
    let new : list_at (then b).inputs n ≡ list_at b.seen.inputs n ++ list_at b.added n =
    numbered (longer_for b.seen.net.actors b.seen.inputs b.added) (input_count b.seen.net.actors) n (counted_here b.seen.net.actors a n w.part.actor w.there is)
    ∙ ap (λ c. cond c (list_at b.seen.inputs n ++ list_at b.added n) []) (read_here b.seen.net.actors a n w.part.actor w.there is) in
    add ∙ ap (λ (xs : List ℤ). xs ++ list_at b.added n) old ∙ sym new))

-- an output took an item in each of its firings
pub took_all : (b : Block) (a output : ℕ) (w : Gets b a) → w.part.actor.kind ≡ kind.Output output → length ((last b).took (slice_index_or w.part.actor.takes 0 0)) ≡ ones_to w.part.actor.firing b.seen.instants
unfolding machine_on
took_all b a output w is =
    let actor : Actor = w.part.actor in
    let r : ℕ = slice_index_or actor.takes 0 0 in
    let quota : ℕ = ones_to actor.firing b.seen.instants in
    let m = short_is b in
    let same : form_of actor.kind ≡ Same = ap form_of is in
    let arity : length actor.takes ≡ operands (form_of actor.kind) = (m.usable a actor w.there).arity in
    let one : operands (form_of actor.kind) ≡ 1 = ap operands same in
    let own : (short b).sys.to r ≡ a = All-get_or (λ q. (short b).sys.to q ≡ a) actor.takes 0 0 (omega arith) (m.takers a actor w.there) in
    let operand : IsOperand actor.takes 0 r = record { there = omega arith; is = refl; once = once_at actor.takes 0 r (omega arith) refl (m.once a actor w.there r) } in
    let ops = (short b).sys.ops a in
    let all : takes_before (short b).sys a (length ops) r ≡ taken (short b).sys (first b).done r = taken-is (short b).sys (first b).done a (length ops) r own (first_done b a ∙ b.over a) in
    let whole : takes_before (short b).sys a (length ops) r ≡ count_by (is_take r) ops = ap (count_by (is_take r)) (take_all (length ops) ops (omega arith)) in
    let counted : count_by (is_take r) ops ≡ took_in (form_of actor.kind) quota 0 = ap (count_by (is_take r)) (m.ops a actor w.there) ∙ takes_in_ops (form_of actor.kind) actor.takes actor.gives quota 0 r arity operand in
    let form : took_in (form_of actor.kind) quota 0 ≡ quota = ap (λ (f : Form). took_in f quota 0) same in
    sym (ap (λ (xs : List ℤ). length xs) ((same_state b).took r)) ∙ (first_state b).took_count r ∙ sym all ∙ whole ∙ counted ∙ form

puts_none : (what : ActorKind) (front took items : List ℤ) → ((output : ℕ) → what ≡ kind.Output output → took ≡ front) → items ≡ [] → PutsOut what front took items
puts_none (kind.Output output) front took items h none = h output refl ∙ sym (ap (λ (xs : List ℤ). front ++ xs) none ∙ append-nil front)
puts_none what front took items h none = tt

took_many : (what : ActorKind) (most took : ℕ) → ((output : ℕ) → what ≡ kind.Output output → took ≡ most) → TookAsMany what most took
took_many (kind.Output output) most took h = omega (arith, h output refl)
took_many what most took h = tt

-- the part stands in the state of the same counts
more_stands : (b : Block) (a : ℕ) (w : Gets b a) → IsPartAt (kinds_of b.seen.operators) (then b).inputs b.seen.net b.instants (last b) (carried (then b) b.seen.instants (more_part b a w)) (more_part b a w)
more_stands b a w =
    let p : Part = w.part in
    let q : Part = more_part b a w in
    let r : ℕ = slice_index_or p.actor.takes 0 0 in
    let took : (s : ℕ) → (parts.state_of (first b) p).took s ≡ (parts.state_of (last b) q).took s = λ s. ap (λ (xs : List ℤ). xs ++ taken_on p s) ((same_state b).took s) in
    let lists : map (parts.state_of (first b) p).took p.actor.takes ≡ map (parts.state_of (last b) q).took p.actor.takes =
    map_same (parts.state_of (first b) p).took (parts.state_of (last b) q).took p.actor.takes (λ k d l. took (get_or p.actor.takes k d)) in
    let count : parts.done_of p ≡ parts.done_of q = sym (same_done b a w) ∙ ap (λ (y : Part). parts.done_of y) w.grows.rest in
    let state : IsActorState p.actor b.instants (parts.done_of p) (map (parts.state_of (first b) p).took p.actor.takes) w.after.state =
    w.grows.state b.seen.instants (parts.done_of p) (map (parts.state_of (first b) p).took p.actor.takes) w.stands.state in
    let now : (last b).done p.number ≡ parts.done_of q = sym ((same_state b).done p.number) ∙ first_done b p.number ∙ b.counts p.number ∙ ap (λ n. done_in (part_of b.crew b.places n)) w.number ∙ ap done_in w.at ∙ count in
    let same : IsSameAt (long b).sys p.number (last b) (parts.state_of (last b) q) = record {
      done = sym now;
      gave = λ s f. ap (λ (xs : List ℤ). (last b).gave s ++ xs) (idle_given b a s w) ∙ append-nil ((last b).gave s);
      took = λ s f. ap (λ (xs : List ℤ). (last b).took s ++ xs) (idle_taken b a s w) ∙ append-nil ((last b).took s);
    } in
    record {
      plugged = plugged b.seen.net b.instants b.standing.fixed.proper;
      there = w.stands.there;
      reads = reads_then b a w;
      state = subst (λ n. IsActorState p.actor b.instants n (map (parts.state_of (last b) q).took p.actor.takes) w.after.state) count
          (subst (λ ls. IsActorState p.actor b.instants (parts.done_of p) ls w.after.state) lists state);
      stands = same_stands (long b) (last b) (parts.state_of (last b) q) p.number (wired b) (local b) same (each_stands (long b) (last b) p.number (last_state b));
      output = puts_none p.actor.kind (carried (then b) b.seen.instants q) ((parts.state_of (last b) q).took r) w.after.output.items
          (λ output is. ap (λ (xs : List ℤ). (last b).took r ++ xs) (idle_taken b a r w) ∙ append-nil ((last b).took r)
          ∙ sym (take_all (ones_to p.actor.firing b.seen.instants) ((last b).took r) (omega (arith, took_all b a output w is)))) w.grows.output;
    }

pub actor_more : (b : Block) (a : ℕ) → a < length b.seen.net.actors → IsPartOf (then b) b.seen.instants b.grown b.places a
actor_more b a l =
    let w : Gets b a = gets b a l in
    let p : Part = w.part in
    record {
      part = w.after;
      at = w.after_at;
      number = ap (λ (y : Part). y.number) w.grows.rest ∙ w.number;
      stands = subst (λ (y : Part). IsPartAt (kinds_of b.seen.operators) (then b).inputs b.seen.net b.instants (last b) (carried (then b) b.seen.instants y) y) (sym w.grows.rest) (more_stands b a w);
      took = subst (λ (y : Part). TookAsMany y.actor.kind (ones_to y.actor.firing b.seen.instants) (length (took_first (then b) y))) (sym w.grows.rest)
          (took_many p.actor.kind (ones_to p.actor.firing b.seen.instants) (length ((last b).took (slice_index_or p.actor.takes 0 0))) (λ output is. took_all b a output w is));
    }
