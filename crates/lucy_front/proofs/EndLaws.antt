-- The ends of the parts of an instance, and the actors' names that are found by them.
use Rattle.std.proofs.Common.{ℕ, zero, suc, ◌+◌, ◌-◌, ◌<◌, ◌≤◌, ◌≡◌, List, [], ◌∷◌, ◌++◌, length, take, get_or, Some, ap, sym, ◌∙◌, subst, inl, inr, arith}
use Rattle.std.specs.Prelude.{◌⊎◌, slice_get, slice_index, sum_by}
use Rattle.std.specs.List.Sorted.{IsNonDecreasing}
use Rattle.std.proofs.lemmas.Bool.{cases_lt}
use Rattle.std.proofs.lemmas.List.{length_push, get_or_append_left, get_or_push, take_all}
use Rattle.std.proofs.lemmas.List.Sums.{sum_by-cons}
use Rattle.std.proofs.lemmas.List.Sorted.{IsNonDecreasingBy-from_default}
use Rattle.std.proofs.lemmas.Option.{same_Some, slice_get_within, slice_get-get_or}
use Rattle.lucy_word.proofs.Lists.{still_there}
use Rattle.lucy_place.specs.declared.placed.PlacedNode.{PlacedNode}
use Rattle.lucy_place.specs.declared.entry.CallSite.{CallSite}
use Rattle.lucy_kahn.specs.Spots.{at as at_place, node_at, main_of, site_in}
use Rattle.lucy_kahn.proofs.Parts.{callee_in}
use Rattle.lucy_kahn.specs.Numbers.{begin_from, call_offset}
use Rattle.lucy_kahn.specs.Sizes.{capped, own_places, size_of}
use Rattle.lucy_kahn.proofs.Tables.{total_law}
use Rattle.lucy_kahn.proofs.Closed.{place_spot}
use Rattle.lucy_kahn.specs.Below.{Below}
use Rattle.lucy_flat.proofs.AssemblyLaws.{get_last}
use Rattle.lucy_flat.proofs.ExtentLaws.{sum_take}
use Rattle.lucy_program.specs.Names.{of_one, place_name}
use Rattle.lucy_front.specs.Items.{path_text, IsActorName}
use Rattle.lucy_front.specs.Ends.{end_of, AreEndsTo, AreAllEnds}

-- one part more
end_more : (nodes : List PlacedNode) (n : PlacedNode) (i : ℕ) (site : CallSite) → slice_get n.calls i ≡ Some site → end_of nodes n (i + 1) ≡ end_of nodes n i + size_of nodes site.node
end_more nodes n i site e = omega (arith, sum_take (λ (s : CallSite). size_of nodes s.node) n.calls i site e)

cap_add : (a b : ℕ) → capped (capped a + capped b) ≡ capped (a + b)
cap_add a b = omega arith

pub ends_more : (nodes : List PlacedNode) (n : PlacedNode) (i : ℕ) (site : CallSite) (ends : List ℕ) (end next : ℕ) → AreEndsTo nodes n i ends → end ≡ slice_index ends i → slice_get n.calls i ≡ Some site →
    next ≡ capped (end + capped (size_of nodes site.node)) → AreEndsTo nodes n (i + 1) (ends ++ next ∷ [])
ends_more nodes n i site ends end next are last e is = record {
  count = omega (arith, are.count, length_push ends next);
  each = λ j l. each_at j l (cases_lt j (i + 1));
}
  where
    next_is : next ≡ capped (end_of nodes n (i + 1))
    next_is =
        let here = last ∙ are.each i (omega arith) in
        let more = end_more nodes n i site e in
        is ∙ ap (λ a. capped (a + capped (size_of nodes site.node))) here ∙ cap_add (end_of nodes n i) (size_of nodes site.node) ∙ ap capped (sym more)

    each_at : (j : ℕ) → j ≤ i + 1 → (j < i + 1) ⊎ (i + 1 ≤ j) → slice_index (ends ++ next ∷ []) j ≡ capped (end_of nodes n j)
    each_at j l (inl low) = get_or_append_left ends (next ∷ []) 0 j (omega (arith, low, are.count)) ∙ are.each j (omega (arith, low))
    each_at j l (inr high) =
        let same : i + 1 ≡ j = omega (arith, l, high) in
        get_or_push ends next 0 j (omega (arith, same, are.count)) ∙ next_is ∙ ap (λ k. capped (end_of nodes n k)) same

-- one node more
pub all_more : (nodes : List PlacedNode) (i : ℕ) (rows : List (List ℕ)) (n : PlacedNode) (ends : List ℕ) → AreAllEnds nodes i rows → slice_get nodes i ≡ Some n → AreEndsTo nodes n (length n.calls) ends →
    AreAllEnds nodes (i + 1) (rows ++ ends ∷ [])
all_more nodes i rows n ends are found new = record {
  count = omega (arith, are.count, length_push rows ends);
  each = λ k m row at_m at_row. each_at k m row at_m at_row (cases_lt k i);
}
  where
    each_at : (k : ℕ) (m : PlacedNode) (row : List ℕ) → slice_get nodes k ≡ Some m → slice_get (rows ++ ends ∷ []) k ≡ Some row → (k < i) ⊎ (i ≤ k) → AreEndsTo nodes m (length m.calls) row
    each_at k m row at_m at_row (inl low) =
        let h = slice_get-get_or rows k row (omega (arith, low, are.count)) in
        are.each k m row at_m (h ∙ sym (still_there rows (ends ∷ []) k (get_or rows k row) h) ∙ at_row)
    each_at k m row at_m at_row (inr high) =
        let w = slice_get_within (rows ++ ends ∷ []) k row at_row in
        let k_is : i ≡ k = omega (arith, w, high, length_push rows ends, are.count) in
        let last : ends ≡ row = same_Some ends row (sym (get_last rows k ends (are.count ∙ k_is)) ∙ at_row) in
        let one : n ≡ m = same_Some n m (sym found ∙ ap (slice_get nodes) k_is ∙ at_m) in
        subst (λ r. AreEndsTo nodes m (length m.calls) r) last (subst (λ x. AreEndsTo nodes x (length x.calls) ends) one new)

-- the ends rise
sum_rises : {A : Type 0} (f : A → ℕ) (xs : List A) (i j : ℕ) → i ≤ j → sum_by f (take i xs) ≤ sum_by f (take j xs)
sum_rises f [] zero zero l = omega arith
sum_rises f [] zero (suc j) l = omega arith
sum_rises f [] (suc i) zero l = omega arith
sum_rises f [] (suc i) (suc j) l = omega arith
sum_rises f (x ∷ xs) zero j l = omega arith
sum_rises f (x ∷ xs) (suc i) zero l = absurd (omega (arith, l))
sum_rises f (x ∷ xs) (suc i) (suc j) l = omega (arith, sum_by-cons f x (take i xs), sum_by-cons f x (take j xs), sum_rises f xs i j (omega (arith, l)))

pub ends_rise : (nodes : List PlacedNode) (n : PlacedNode) (ends : List ℕ) → AreEndsTo nodes n (length n.calls) ends → IsNonDecreasing ends
ends_rise nodes n ends are =
    IsNonDecreasingBy-from_default (λ x. x) ends 0 (λ i j l w.
    let low = are.each i (omega (arith, l, w, are.count)) in
    let high = are.each j (omega (arith, w, are.count)) in
    let rises = sum_rises (λ (s : CallSite). size_of nodes s.node) n.calls i j l in
    omega (arith, low, high, rises))

-- the ends of a node among those of all
pub ends_at : (nodes : List PlacedNode) (rows : List (List ℕ)) (upto i : ℕ) (n : PlacedNode) (row ends : List ℕ) → AreAllEnds nodes upto rows → i < upto → slice_get nodes i ≡ Some n → row ≡ get_or rows i row → ends ≡ row →
    AreEndsTo nodes n (length n.calls) ends
ends_at nodes rows upto i n row ends are low found at is =
    let there : slice_get rows i ≡ Some row = slice_get-get_or rows i row (omega (arith, low, are.count)) ∙ ap (λ r. Some r) (sym at) in
    subst (AreEndsTo nodes n (length n.calls)) (sym is) (are.each i n row found there)

-- a call in a loop over those of a node
pub site_at : (sites calls : List CallSite) (j : ℕ) (s : CallSite) → sites ≡ calls → j < length sites → s ≡ get_or sites j s → slice_get calls j ≡ Some s
site_at sites calls j s same l at = ap (λ ss. slice_get ss j) (sym same) ∙ slice_get-get_or sites j s l ∙ ap (λ r. Some r) (sym at)

pub ends_step : (nodes : List PlacedNode) (n : PlacedNode) (i : ℕ) (site : CallSite) (ends : List ℕ) (end part next : ℕ) (new : List ℕ) → AreEndsTo nodes n i ends → end ≡ slice_index ends i → slice_get n.calls i ≡ Some site →
    part ≡ capped (size_of nodes site.node) → next ≡ capped (end + part) → new ≡ ends ++ next ∷ [] → AreEndsTo nodes n (i + 1) new × (next ≡ slice_index new (i + 1))
ends_step nodes n i site ends end part next new are last stands part_is next_is new_is = (
  subst (AreEndsTo nodes n (i + 1)) (sym new_is) (ends_more nodes n i site ends end next are last stands (next_is ∙ ap (λ x. capped (end + x)) part_is)),
  sym (ap (λ xs. slice_index xs (i + 1)) new_is ∙ get_or_push ends next 0 (i + 1) (omega (arith, are.count))),
)

-- an actor that stands so far behind the begin of an instance of a node
module _ (nodes : List PlacedNode) (node : ℕ) (n : PlacedNode) (behind : ℕ) (ends : List ℕ) (found : slice_get nodes node ≡ Some n) (are : AreEndsTo nodes n (length n.calls) ends)
    (few : size_of nodes node < 4294967296) (below : Below node n.calls) (there : behind < size_of nodes node) where
  whole : size_of nodes node ≡ end_of nodes n (length n.calls)
  whole = sym (ap (λ sites. length n.places + sum_by (λ (site : CallSite). size_of nodes site.node) sites) (take_all (length n.calls) n.calls (omega arith)) ∙ sym (total_law own_places nodes node n found below))

  -- what is no more than the whole is exact
  exact : (j : ℕ) → j ≤ length n.calls → slice_index ends j ≡ end_of nodes n j
  exact j l = let e = are.each j l in let r = sum_rises (λ (s : CallSite). size_of nodes s.node) n.calls j (length n.calls) l in omega (arith, e, r, whole, few)

  -- among its own places
  pub own_place : behind < slice_index ends 0 → behind < length n.places
  own_place l = let e = exact 0 (omega arith) in omega (arith, l, e)

  -- or within the instance of a call
  pub record IsWithin (call : ℕ) : Type 0 where
    pub some : 0 < call
    pub is_call : call - 1 < length n.calls
    pub low : slice_index ends (call - 1) ≤ behind
    pub high : behind < slice_index ends call

  pub within : (call : ℕ) → (call ≡ 0 → ⊥) → call ≤ length ends → ((i : ℕ) → i < call → slice_index ends i ≤ behind) → ((i : ℕ) → call ≤ i → i < length ends → behind < slice_index ends i) → IsWithin call
  within call some most before from =
      let not_all : call < length ends =
      elim (cases_lt call (length ends)) [
        | inl low ↦ low
        | inr high ↦ absurd (let p = before (length n.calls) (omega (arith, high, are.count)) in let e = exact (length n.calls) (omega arith) in omega (arith, p, e, whole, there))
      ] in
      let first : 0 < call = elim (cases_lt 0 call) [ inl low ↦ low | inr high ↦ absurd (some (omega (arith, high))) ] in
      record {
        some = first;
        is_call = omega (arith, first, not_all, are.count);
        low = before (call - 1) (omega (arith, first));
        high = from call (omega arith) not_all;
      }

  module _ (call : ℕ) (site : CallSite) (is : IsWithin call) (stands : slice_get n.calls (call - 1) ≡ Some site) where
    back : call - 1 + 1 ≡ call
    back = omega (arith, is.some)

    pub inner_there : behind - slice_index ends (call - 1) < size_of nodes site.node
    inner_there =
        let a = exact (call - 1) (omega (arith, is.is_call)) in
        let b = exact call (omega (arith, is.is_call)) in
        let more = end_more nodes n (call - 1) site stands in
        let same : end_of nodes n (call - 1 + 1) ≡ end_of nodes n call = ap (end_of nodes n) back in
        omega (arith, is.low, is.high, a, b, more, same)

    pub inner_few : size_of nodes site.node < 4294967296
    inner_few =
        let more = end_more nodes n (call - 1) site stands in
        let same : end_of nodes n (call - 1 + 1) ≡ end_of nodes n call = ap (end_of nodes n) back in
        let r = sum_rises (λ (s : CallSite). size_of nodes s.node) n.calls call (length n.calls) (omega (arith, is.is_call)) in
        omega (arith, more, same, r, whole, few)

    -- a path to the instance, with the call, leads to that of the call
    module _ (path : List ℕ) (leads : node_at nodes path ≡ slice_get nodes node) where
      pub inner_leads : node_at nodes (call ∷ path) ≡ slice_get nodes site.node
      inner_leads = inner call is.some stands
        where
          inner : (c : ℕ) → 0 < c → slice_get n.calls (c - 1) ≡ Some site → node_at nodes (c ∷ path) ≡ slice_get nodes site.node
          inner zero l e = absurd (omega (arith, l))
          inner (suc c) l e =
              let one : suc c - 1 ≡ c = omega arith in
              let here : slice_get n.calls c ≡ Some site = ap (slice_get n.calls) (sym one) ∙ e in
              ap (λ o. callee_in nodes (site_in o (suc c))) (leads ∙ found) ∙ ap (callee_in nodes) here

      pub inner_begin : begin_from nodes (main_of nodes) (call ∷ path) + (behind - slice_index ends (call - 1)) ≡ begin_from nodes (main_of nodes) path + behind
      inner_begin =
          let a = exact (call - 1) (omega (arith, is.is_call)) in
          let off : call_offset nodes (node_at nodes path) call ≡ end_of nodes n (call - 1) = ap (λ o. call_offset nodes o call) (leads ∙ found) in
          omega (arith, a, off, is.low)

-- the name of an instance's own place
pub own_name : (nodes : List PlacedNode) (path : List ℕ) (n : PlacedNode) (behind place : ℕ) (name : List ℕ) → node_at nodes path ≡ Some n → behind < length n.places → place ≡ behind + 1 →
    name ≡ path_text path ++ place_name n place → IsActorName nodes (begin_from nodes (main_of nodes) path + behind) name
own_name nodes path n behind place name leads l at is = record {
  spot = at_place path place;
  there = place_spot nodes path n place leads (omega (arith, at), omega (arith, l, at));
  numbered = (omega (arith, at));
  is = is ∙ ap (λ o. path_text path ++ of_one (λ (m : PlacedNode). place_name m place) o) (sym leads);
}
