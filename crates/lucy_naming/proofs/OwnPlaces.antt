-- The own places, buffers and calls of forms: their numbers name what they should.
use Rattle.std.proofs.Common.{◌≡◌, ◌+◌, ◌≤◌, ◌<◌, ◌&&◌, ℕ, zero, suc, Bool, true, false, List, [], ◌∷◌, length, map, Option, Some, None, slice_get, slice_index_or, nat_eq, refl, ap, sym, ◌∙◌, subst, arith}
use Rattle.std.proofs.lemmas.Bool.Decides.{nat_tests}
use Rattle.std.proofs.lemmas.Option.{slice_get-map}
use Rattle.std.specs.Prelude.{option_map}
use Rattle.lucy_tree.specs.declared.span.Name as names
use Rattle.lucy_tree.specs.View.{NodeTree, ProgramTree}
use Rattle.lucy_naming.specs.declared.error.NameError.{NameError}
use Rattle.lucy_place.specs.declared.entry.PlaceKind.TheVariants as kind
use Rattle.lucy_place.specs.declared.placed.PlacedNode.{PlacedNode}
use Rattle.lucy_naming.specs.Texts.{place_in}
use Rattle.lucy_naming.specs.Streams.{node_names}
use Rattle.lucy_naming.specs.Phrases.{Head, Literal, Applied, Host, Sampled, Merged, Followed, Buffered, Called}
use Rattle.lucy_naming.specs.Faults.{Within, unless, callee_faults, head_faults}
use Rattle.lucy_naming.specs.Numbering.{Next, own_entries}
use Rattle.lucy_naming.specs.Places.{unnamed, results_from}
use Rattle.lucy_place.specs.Proper.{at_one, IsPlace, ArePlaces}
use Rattle.lucy_naming.proofs.EachLaws.{Each, each_at}
use Rattle.lucy_naming.proofs.Spread.{Call}
use Rattle.lucy_naming.proofs.CallLaws.{site, own_made, buffers_results}
use Rattle.lucy_naming.proofs.ShapeLaws.{Takes}
use Rattle.lucy_naming.proofs.Good.{known_of, Lies, GoodPlace, GoodBuffer, Good, Callee, Setting, is_place}

-- what a test that is met says
pub unless_holds : (b : Bool) (e : NameError) → unless b e ≡ [] → b ≡ true
unless_holds true e h = refl
unless_holds false e h = cc

-- two pairs of numbers that are tested equal are equal
pub both_same : (a b c d : ℕ) → (nat_eq a b && nat_eq c d) ≡ true → (a ≡ b) × (c ≡ d)
both_same a b c d h = (grind (arith, nat_tests), grind (arith, nat_tests))

callee_good : (all : ProgramTree) (n : names.Name) (args results : ℕ) (o : Option NodeTree) → callee_faults all n args results o ≡ [] →
    (t : NodeTree) × (o ≡ Some t) × (length t.params ≡ args) × (length t.results ≡ results)
callee_good all n args results None h = cc
callee_good all n args results (Some t) h =
    let b = both_same (length t.params) args (length t.results) results (unless_holds _ _ h) in
    (t, refl, b.0, b.1)

-- the first operands
first_place : (n : PlacedNode) (args : List ℕ) → 1 ≤ length args → ArePlaces n args → IsPlace n (slice_index_or args 0 0)
first_place n [] h p = absurd (omega arith)
first_place n (a ∷ args) h p = p.0

second_place : (n : PlacedNode) (args : List ℕ) → 2 ≤ length args → ArePlaces n args → IsPlace n (slice_index_or args 1 0)
second_place n [] h p = absurd (omega arith)
second_place n (a ∷ []) h p = absurd (omega arith)
second_place n (a ∷ b ∷ args) h p = p.1.0

-- the results of a call
pub slice_results : (c first m j : ℕ) → j < m → slice_get (results_from c first m) j ≡ Some (unnamed (kind.Result c (first + j)))
slice_results c first zero j h = absurd (omega arith)
slice_results c first (suc m) zero h = let e : first ≡ first + 0 = omega arith in ap (λ i. Some (unnamed (kind.Result c i))) e
slice_results c first (suc m) (suc j) h =
    let e : first + 1 + j ≡ first + suc j = omega arith in
    slice_results c (first + 1) m j (omega (arith, h)) ∙ ap (λ i. Some (unnamed (kind.Result c i))) e

pub site_at : (cs : List Call) (c : ℕ) (x : Call) → at_one cs c ≡ Some x → at_one (map site cs) c ≡ Some x.site
site_at cs zero x h = cc
site_at cs (suc i) x h = slice_get-map site cs i ∙ ap (option_map site) h

module _ (w : Within) (above : List PlacedNode) (n : PlacedNode) (cs : List Call) (set : Setting w above n cs) where
  results_good : (from c first m : ℕ) (x : Call) → n.params < from → at_one cs c ≡ Some x → from ≡ x.site.first + first → first + m ≤ x.results →
      Each (GoodPlace n cs) from (results_from c first m)
  results_good from c first zero x low at e few = tt
  results_good from c first (suc m) x low at e few = (
    record {
      label = (refl, refl, refl);
      kind = (low, x.site, ap (λ l. at_one l c) set.calls ∙ site_at cs c x at);
      result = (x, at, e, omega (arith, few));
    },
    results_good (from + 1) c (first + 1) m x (omega (arith, low)) at (omega (arith, e)) (omega (arith, few)),
  )

  pub record OwnGood (at : Next) (r : ℕ) (h : Head) (args : List ℕ) : Type 0 where
    pub first : IsPlace n at.place
    pub good : Good above n cs at (own_entries (known_of w) at r h args) (own_made (known_of w) at r h args)

  called_first : (at : Next) (r : ℕ) → 1 ≤ r → Each (λ p e. at_one n.places p ≡ Some e) at.place (results_from at.call 0 r) → IsPlace n at.place
  called_first at zero some h = absurd (omega arith)
  called_first at (suc r) some h = is_place n at.place (unnamed (kind.Result at.call 0)) h.0

  pub own_good : (at : Next) (r : ℕ) (h : Head) (args : List ℕ) → 1 ≤ r → n.params < at.place → Takes h (length args) → ArePlaces n args → head_faults w r (length args) h ≡ [] →
      Lies n cs at (own_entries (known_of w) at r h args) (own_made (known_of w) at r h args) → OwnGood at r h args
  own_good at r (Literal l) args some low takes places none lies = record {
    first = is_place n at.place _ lies.places.0;
    good = record { places = (record { label = (refl, refl, refl); kind = low; result = tt }, tt); buffers = tt; calls = tt };
  }
  own_good at r (Applied o) args some low takes places none lies = record {
    first = is_place n at.place _ lies.places.0;
    good = record { places = (record { label = (refl, refl, refl); kind = (low, takes, places); result = tt }, tt); buffers = tt; calls = tt };
  }
  own_good at r (Host function) args some low takes places none lies = record {
    first = is_place n at.place _ lies.places.0;
    good = record {
      places = (record { label = (refl, refl, refl); kind = (low, first_place n args (omega (arith, takes)) places, second_place n args (omega (arith, takes)) places); result = tt }, tt);
      buffers = tt;
      calls = tt;
    };
  }
  own_good at r (Sampled flip w) args some low takes places none lies = record {
    first = is_place n at.place _ lies.places.0;
    good = record { places = (record { label = (refl, refl, refl); kind = (low, first_place n args (omega (arith, takes.0)) places); result = tt }, tt); buffers = tt; calls = tt };
  }
  own_good at r (Merged w) args some low takes places none lies = record {
    first = is_place n at.place _ lies.places.0;
    good = record {
      places = (record { label = (refl, refl, refl); kind = (low, takes.1, first_place n args (omega (arith, takes.0)) places, second_place n args (omega (arith, takes.0)) places); result = tt }, tt);
      buffers = tt;
      calls = tt;
    };
  }
  own_good at r (Followed l) args some low takes places none lies = record {
    first = is_place n at.place _ lies.places.0;
    good = record { places = (record { label = (refl, refl, refl); kind = (low, first_place n args (omega (arith, takes)) places); result = tt }, tt); buffers = tt; calls = tt };
  }
  own_good at r (Buffered most) args some low takes places none lies = record {
    first = is_place n at.place _ lies.places.0;
    good = record {
      places = (record { label = (refl, refl, refl); kind = (low, lies.buffers.0, first_place n args (omega (arith, takes.0)) places); result = tt }, tt);
      buffers = ((slice_index_or args 0 0, (unnamed (kind.Buffer at.buffer (slice_index_or args 0 0)), lies.places.0, refl)), tt);
      calls = tt;
    };
  }
  own_good at r (Called callee_name base) args some low takes places none lies =
      let x : Call = record { site = record { node = place_in (node_names w.above) callee_name.text; at = base; first = at.place; args = args }; results = r } in
      let good = callee_good w.all callee_name (length args) r (slice_get w.above (place_in (node_names w.above) callee_name.text)) none in
      let callee : Callee above (place_in (node_names w.above) callee_name.text) good.0 = set.callees (place_in (node_names w.above) callee_name.text) good.0 good.1 in
      record {
        first = called_first at r some lies.places;
        good = record {
          places = results_good at.place at.call 0 r x low lies.calls.0 (omega arith) (omega arith);
          buffers = subst (λ l. Each (GoodBuffer n) at.buffer l) (sym (buffers_results at.place at.call 0 r)) tt;
          calls = (
            record {
              callee = callee.node;
              found = callee.found;
              arguments = sym good.2 ∙ sym callee.params;
              places = places;
              count = sym good.3 ∙ sym callee.results;
              some = omega (arith, some);
              results = λ j h. (
                unnamed (kind.Result at.call (0 + j)),
                each_at (λ p e. at_one n.places p ≡ Some e) at.place (results_from at.call 0 r) j (at.place + j) (unnamed (kind.Result at.call (0 + j))) refl (slice_results at.call 0 r j h) lies.places,
                let e : 0 + j ≡ j = omega arith in ap (kind.Result at.call) e,
              );
            },
            tt,
          );
        };
      }
