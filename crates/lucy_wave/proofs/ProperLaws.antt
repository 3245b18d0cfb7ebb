-- A proper net with one output more is proper.
use Rattle.std.proofs.Common.{ℕ, ◌+◌, ◌-◌, ◌<◌, ◌≡◌, ◌≢◌, eqb, List, [], ◌∷◌, ◌++◌, Some, length, ap, sym, refl, ◌∙◌, subst, inl, inr, arith}
use Rattle.std.specs.Prelude.{ℤ, slice_get}
use Rattle.std.specs.List.{range_with_len}
use Rattle.std.proofs.lemmas.Bool.{eq-eqb, ne_eqb}
use Rattle.std.proofs.lemmas.Option.{same_Some, slice_get_within}
use Rattle.lucy_word.specs.Bits.{Bits, ones_to}
use Rattle.lucy_word.proofs.OnLaws.{same_self}
use Rattle.lucy_word.proofs.AdaptableLaws.{adaptable_self, size_self}
use Rattle.lucy_host.proofs.Elements.{get_there}
use Rattle.lucy_stream.specs.Plans.{HasInput}
use Rattle.lucy_net.specs.declared.net.Actor.{Actor}
use Rattle.lucy_net.specs.declared.net.RingSpec.{RingSpec}
use Rattle.lucy_net.specs.declared.net.Net.{Net}
use Rattle.lucy_net.specs.Plans.{form_of, giver, taker}
use Rattle.lucy_net.specs.Proper.{output_of, numbers_where, IsNumbering, IsProper, IsProperActor, IsProperRing, IsWriteWord, IsSupplied}
use Rattle.lucy_net.proofs.NumberedLaws.{numbers_of}
use Rattle.lucy_net.specs.States.{KnowsOperator}
use Rattle.lucy_net.proofs.NetLaws.{from_here, to_here}
use Rattle.lucy_net.proofs.WhereLaws.{where_yes, where_no, where_same}
use Rattle.lucy_flat.proofs.ProperLaws.{where_none, none_inner, row_numbering}
use Rattle.lucy_wave.specs.Watching.{output_on, ring_on, with_output, HasRoom}
use Rattle.lucy_wave.proofs.GiveLaws as give
use Rattle.lucy_wave.proofs.GiveLaws.{IsGiving}

-- the ends of rings are actors
module _ (net : Net) (proper : IsProper net) where
  pub giver_there : (r : ℕ) → r < length net.rings → giver net r < length net.actors
  giver_there r h =
      let spec = get_there net.rings r h in
      let is = proper.rings r spec.0 spec.1 in
      subst (λ n. n < length net.actors) (sym (from_here net r spec.0 spec.1)) (slice_get_within net.actors spec.0.from is.giver is.gives_here)

  pub taker_there : (r : ℕ) → r < length net.rings → taker net r < length net.actors
  taker_there r h =
      let spec = get_there net.rings r h in
      let is = proper.rings r spec.0 spec.1 in
      subst (λ n. n < length net.actors) (sym (to_here net r spec.0 spec.1)) (slice_get_within net.actors spec.0.to is.taker is.takes_here)

-- an actor that may have an output more, on this word
pub record MayGive (net : Net) (place : ℕ) (word : Bits) : Type 0 where
  pub actor : Actor
  pub found : slice_get net.actors (place - 1) ≡ Some actor
  pub write : IsWriteWord (form_of actor.kind) actor.firing word
  pub inner : output_of actor.kind ≡ []

module _ (net : Net) (output place : ℕ) (word : Bits) (may : MayGive net place word) (proper : IsProper net) where
  abbrev more : Net
  more = with_output net output place word

  abbrev R : ℕ
  R = length net.rings

  abbrev A : ℕ
  A = length net.actors

  place_there : place - 1 < A
  place_there = slice_get_within net.actors (place - 1) may.actor may.found

  -- the rings that an actor has, where none is new
  same_where : (new old : ℕ → ℕ) (a : ℕ) → ((r : ℕ) → r < R → new r ≡ old r) → new R ≢ a →
      numbers_where (λ r. eqb (new r) a) (length more.rings) ≡ numbers_where (λ r. eqb (old r) a) R
  same_where new old a alike other =
      ap (numbers_where (λ r. eqb (new r) a)) (give.rings_count net output place word)
      ∙ where_no (λ r. eqb (new r) a) R (ne_eqb (new R) a other)
      ∙ where_same (λ r. eqb (new r) a) (λ r. eqb (old r) a) R (λ r l. ap (λ n. eqb n a) (alike r l))

  -- and where the new one is its own
  more_where : (new old : ℕ → ℕ) (a : ℕ) → ((r : ℕ) → r < R → new r ≡ old r) → new R ≡ a →
      numbers_where (λ r. eqb (new r) a) (length more.rings) ≡ numbers_where (λ r. eqb (old r) a) R ++ R ∷ []
  more_where new old a alike own =
      ap (numbers_where (λ r. eqb (new r) a)) (give.rings_count net output place word)
      ∙ where_yes (λ r. eqb (new r) a) R (eq-eqb (new R) a own)
      ∙ ap (λ ns. ns ++ R ∷ []) (where_same (λ r. eqb (new r) a) (λ r. eqb (old r) a) R (λ r l. ap (λ n. eqb n a) (alike r l)))

  givers : (r : ℕ) → r < R → giver more r ≡ giver net r
  givers = give.giver_old net output place word

  takers : (r : ℕ) → r < R → taker more r ≡ taker net r
  takers = give.taker_old net output place word

  old_actor : (a : ℕ) (old new : Actor) → slice_get net.actors a ≡ Some old → IsGiving (place - 1) R a old new → IsProperActor more a new
  old_actor a old new e (inl (own, is)) =
      let was = proper.actors a old e in
      let within = slice_get_within net.actors a old e in
      let same : old ≡ may.actor = same_Some old may.actor (sym e ∙ ap (slice_get net.actors) own ∙ may.found) in
      subst (IsProperActor more a) (sym is) (record {
        gives = ap (λ ns. ns ++ R ∷ []) was.gives ∙ sym (more_where (giver more) (giver net) a givers (give.giver_new net output place word ∙ sym own));
        takes = was.takes ∙ sym (same_where (taker more) (taker net) a takers (λ f. let g = give.taker_new net output place word in omega arith));
        arity = was.arity;
        gives_none = none_inner old.kind (old.gives ++ R ∷ []) (ap (λ (y : Actor). output_of y.kind) same ∙ may.inner);
      })
  old_actor a old new e (inr (other, is)) =
      let was = proper.actors a old e in
      let within = slice_get_within net.actors a old e in
      subst (IsProperActor more a) (sym is) (record {
        gives = was.gives ∙ sym (same_where (giver more) (giver net) a givers (λ f. other (sym f ∙ give.giver_new net output place word)));
        takes = was.takes ∙ sym (same_where (taker more) (taker net) a takers (λ f. let g = give.taker_new net output place word in omega arith));
        arity = was.arity;
        gives_none = was.gives_none;
      })

  abbrev last : Actor
  last = output_on output R word

  -- the output gives on no ring, and takes from the new one
  none_given : numbers_where (λ r. eqb (giver more r) A) (length more.rings) ≡ []
  none_given =
      same_where (giver more) (giver net) A givers (λ f. let g = give.giver_new net output place word in let l = place_there in omega arith)
      ∙ where_none (λ r. eqb (giver net r) A) R (λ r l. ne_eqb (giver net r) A (λ f. let h = giver_there net proper r l in omega arith))

  one_taken : numbers_where (λ r. eqb (taker more r) A) (length more.rings) ≡ R ∷ []
  one_taken =
      more_where (taker more) (taker net) A takers (give.taker_new net output place word)
      ∙ ap (λ ns. ns ++ R ∷ []) (where_none (λ r. eqb (taker net r) A) R (λ r l. ne_eqb (taker net r) A (λ f. let h = taker_there net proper r l in omega arith)))

  new_actor : IsProperActor more A last
  new_actor = record { gives = sym none_given; takes = sym one_taken; arity = refl; gives_none = refl }

  each_actor : (a : ℕ) (new : Actor) → slice_get more.actors a ≡ Some new → IsProperActor more a new
  each_actor a new e =
      elim (give.actor_is net output place word a new e) [
        | inl (old, there_is, giving_is) ↦ old_actor a old new there_is giving_is
        | inr (number, is) ↦ subst (λ n. IsProperActor more n new) (sym number) (subst (IsProperActor more A) is new_actor)
      ]

  -- rings
  each_ring : (r : ℕ) (spec : RingSpec) → slice_get more.rings r ≡ Some spec → IsProperRing more r spec
  each_ring r spec e =
      elim (give.ring_is net output place word r spec e) [
        | inl old ↦
            let was = proper.rings r spec old in
            let from = give.keeps net output place word spec.from was.giver was.gives_here in
            let to = give.keeps net output place word spec.to was.taker was.takes_here in
            record {
              giver = record was.giver { gives = from.0 };
              taker = record was.taker { gives = to.0 };
              gives_here = from.1;
              takes_here = to.1;
              write = was.write;
              read = was.read;
              adaptable = was.adaptable;
              size = was.size;
            }
        | inr (number, is) ↦ subst (λ n. IsProperRing more n spec) (sym number) (subst (IsProperRing more R) is new_ring)
      ]
    where
      new_ring : IsProperRing more R (ring_on (place - 1) A word)
      new_ring =
          let from = give.keeps net output place word (place - 1) may.actor may.found in
          record {
            giver = record may.actor { gives = from.0 };
            taker = last;
            gives_here = from.1;
            takes_here = give.last_there net output place word;
            write = may.write;
            read = λ j l is. same_self word;
            adaptable = adaptable_self word word (same_self word);
            size = size_self word word (same_self word);
          }

  pub with_output_proper : numbers_of output_of net.actors ≡ range_with_len 0 output → HasRoom net 1 → IsProper more
  with_output_proper numbered room = record {
    few_actors = omega (arith, give.actors_count net output place word, room.0);
    few_rings = omega (arith, give.rings_count net output place word, room.1);
    few_slots = omega (arith, give.slots_count net output place word, room.2);
    inputs = subst IsNumbering (sym (give.inputs_are net output place word)) proper.inputs;
    outputs = subst IsNumbering (sym (give.outputs_are net output place word numbered)) (row_numbering (output + 1));
    actors = each_actor;
    rings = each_ring;
  }

  -- what a core wants of a net
  pub with_output_supplied : (inputs : List (List ℤ)) (t : ℕ) → IsSupplied inputs net t → IsSupplied inputs more t
  with_output_supplied inputs t all a new e =
      elim (give.actor_is net output place word a new e) [
        | inl (old, there_is, inl (own, is)) ↦ subst (λ (y : Actor). HasInput inputs (form_of y.kind) (ones_to y.firing t)) (sym is) (all a old there_is)
        | inl (old, there_is, inr (other, is)) ↦ subst (λ (y : Actor). HasInput inputs (form_of y.kind) (ones_to y.firing t)) (sym is) (all a old there_is)
        | inr (number, is) ↦ subst (λ (y : Actor). HasInput inputs (form_of y.kind) (ones_to y.firing t)) is tt
      ]

  pub with_output_known : (count : ℕ) → ((a : ℕ) (actor : Actor) → slice_get net.actors a ≡ Some actor → KnowsOperator actor.kind count) →
      (a : ℕ) (actor : Actor) → slice_get more.actors a ≡ Some actor → KnowsOperator actor.kind count
  with_output_known count all a new e =
      elim (give.actor_is net output place word a new e) [
        | inl (old, there_is, inl (own, is)) ↦ subst (λ (y : Actor). KnowsOperator y.kind count) (sym is) (all a old there_is)
        | inl (old, there_is, inr (other, is)) ↦ subst (λ (y : Actor). KnowsOperator y.kind count) (sym is) (all a old there_is)
        | inr (number, is) ↦ subst (λ (y : Actor). KnowsOperator y.kind count) is tt
      ]
