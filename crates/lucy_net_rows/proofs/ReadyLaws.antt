-- What a core is that was made of an accepted program, and what is known of main.
use Rattle.std.proofs.Common.{ℕ, zero, suc, ◌≡◌, ◌<◌, ◌≤◌, ◌+◌, List, [], ◌∷◌, ℤ, length, ◌++◌, length-append, get_or, set, get_or-set_same, length-set, refl, ap, sym, ◌∙◌, subst, arith}
use Rattle.std.specs.Prelude.{pos, Result, Option, Ok, Err, IfOk, IfSome, replicate, slice_index}
use Rattle.std.specs.Result.{result_ok}
use Rattle.std.proofs.lemmas.List.{length-replicate, get_or_past}
use Rattle.std.proofs.lemmas.Option.{slice_get-get_or}
use Rattle.lucy_word.specs.Bits.{Bits, ones_to}
use Rattle.lucy_word.proofs.BitsLaws.{ones_to-le}
use Rattle.lucy_host.specs.Operators.{Operator}
use Rattle.lucy_stream.specs.Items.{list_at}
use Rattle.lucy_place.specs.declared.placed.PlacedNode.{PlacedNode}
use Rattle.lucy_clock.specs.declared.node_clock.NodeClock.{NodeClock}
use Rattle.lucy_net.specs.declared.net.Actor.{Actor}
use Rattle.lucy_net.specs.declared.net.Net.{Net}
use Rattle.lucy_net.specs.Schedules.{Timetable}
use Rattle.lucy_core.specs.Seen.{Seen, IsUnbegun, IsOutputOf, first_seen}
use Rattle.lucy_kahn.specs.Spots.{main_of, results_in}
use Rattle.lucy_kahn.specs.Sizes.{all_places}
use Rattle.lucy_kahn.specs.Horizons.{Suffice, IsHorizon}
use Rattle.lucy_flat.specs.Flat.{IsFlat}
use Rattle.lucy_results.proofs.OutputLaws.{first_unbegun}
use Rattle.lucy_net_rows.specs.Ready.{HasOneList}

-- nothing is done in a new core
pub unbegun_as : (core : Seen) (net : Net) (schedule : Timetable) (inputs : List (List ℤ)) (operators : List Operator) (instants : ℕ) → core ≡ first_seen net schedule inputs operators instants → IsUnbegun core
unbegun_as core net schedule inputs operators instants e = subst IsUnbegun (sym e) (first_unbegun net schedule inputs operators instants)

-- a net has few actors
pub few_actors : (nodes : List PlacedNode) (clocks : List NodeClock) (net : Net) → IsFlat nodes clocks net → length net.actors ≤ 16384
few_actors nodes clocks net flat = flat.proper.few_actors

-- each result of main has its output
pub output_there : (nodes : List PlacedNode) (clocks : List NodeClock) (net : Net) → IsFlat nodes clocks net → (i : ℕ) → i < length (results_in (main_of nodes)) → (a : ℕ) × (actor : Actor) × IsOutputOf net i a actor
output_there nodes clocks net flat i l =
    let of = flat.outputs i (get_or (results_in (main_of nodes)) i 0) (slice_get-get_or (results_in (main_of nodes)) i 0 l) in
    (all_places nodes + i, of.actor, record { there = of.there; kind = of.kind })

-- no words ask for no items
pub none_suffices : (own : List Bits) (lists : List (List ℤ)) (instants : ℕ) → length own ≡ 0 → Suffice own lists instants
none_suffices [] lists instants e = λ i word there. absurd (cc)
none_suffices (word ∷ words) lists instants e = absurd (omega arith)

-- nor does no instant
pub at_none : (own : List Bits) (lists : List (List ℤ)) → Suffice own lists 0
at_none own lists = λ i word there. omega (arith, ones_to-le word 0)

counts_one : (items : ℕ) (inputs : List (List ℤ)) → HasOneList items inputs → (i : ℕ) → slice_index (items ∷ []) i ≡ length (list_at inputs i)
counts_one items inputs one zero = sym one.all
counts_one items inputs one (suc i) = (let count = one.one in sym (ap length (get_or_past inputs (suc i) [] (omega arith))))

-- one list has the items of the horizon that its length allows
pub one_suffices : (words own : List Bits) (inputs : List (List ℤ)) (items most horizon : ℕ) → words ≡ own → HasOneList items inputs →
    ((xs : List (List ℤ)) → ((i : ℕ) → slice_index (items ∷ []) i ≡ length (list_at xs i)) → IsHorizon words xs most horizon) → Suffice own inputs horizon
one_suffices words own inputs items most horizon same one allow = subst (λ (ws : List Bits). Suffice ws inputs horizon) same (allow inputs (counts_one items inputs one)).suffice

-- nor is it past the most
pub one_early : (words : List Bits) (items most horizon : ℕ) → ((xs : List (List ℤ)) → ((i : ℕ) → slice_index (items ∷ []) i ≡ length (list_at xs i)) → IsHorizon words xs most horizon) → horizon ≤ most
one_early words items most horizon allow =
    let some : List (List ℤ) = replicate items (pos 0) ∷ [] in
    (allow some (counts_one items some (record { one = refl; all = length-replicate items (pos 0) }))).within

-- a list that has one item more
pub one_more : (inputs next : List (List ℤ)) (item : ℤ) (items : ℕ) → HasOneList items inputs → next ≡ set inputs 0 (list_at inputs 0 ++ item ∷ []) → HasOneList (items + 1) next
one_more inputs next item items one e =
    let count = one.one in
    let all = one.all in
    let there : 0 < length inputs = omega arith in
    record {
      one = ap length e ∙ length-set inputs 0 (list_at inputs 0 ++ item ∷ []) ∙ count;
      all = ap (λ xs. length (list_at xs 0)) e ∙ ap length (get_or-set_same inputs 0 (list_at inputs 0 ++ item ∷ []) [] there) ∙ length-append (list_at inputs 0) (item ∷ []) ∙ ap (λ n. n + 1) all;
    }

pub first_list : (inputs next : List (List ℤ)) → inputs ≡ [] → next ≡ inputs ++ [] ∷ [] → HasOneList 0 next
first_list inputs next none e = (let P : List (List ℤ) → Type 0 = HasOneList 0 in subst P (sym (e ∙ ap (λ xs. xs ++ [] ∷ []) none)) (record { one = refl; all = refl }))

-- what holds of the value of an answer, where that alone is looked at
pub ok_part : {X Y : Type 0} (r : Result X Y) (o : Option X) (P : X → Type 0) → o ≡ result_ok r → IfOk r P → IfSome o P
ok_part (Ok x) o P e h = subst (λ v. IfSome v P) (sym e) h
ok_part (Err y) o P e h = subst (λ v. IfSome v P) (sym e) tt
