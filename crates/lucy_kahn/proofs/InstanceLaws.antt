-- Instances, as they are made.
use Rattle.std.proofs.Common.{ℕ, zero, suc, ◌+◌, ◌-◌, ◌<◌, ◌≡◌, inl, inr, cond, List, [], ◌∷◌, ◌++◌, Option, Some, None, length, drop, take, get_or, ap, sym, refl, ◌∙◌, subst, arith, length-append}
use Rattle.std.specs.Prelude.{slice_get, sum_by}
use Rattle.std.proofs.lemmas.Bool.{cases_lt, lt-ltb, le-ltb}
use Rattle.std.proofs.lemmas.List.{take_more, length-take-le, drop-append-le}
use Rattle.std.proofs.lemmas.List.Sums.{sum_by-cons, sum_by-append}
use Rattle.std.proofs.lemmas.Option.{same_Some, slice_get_within, get_or_from_slice_get}
use Rattle.lucy_word.proofs.Lists.{drop_next}
use Rattle.lucy_host.proofs.Elements.{get_there, get_left, get_right}
use Rattle.lucy_place.specs.declared.placed.PlacedNode.{PlacedNode}
use Rattle.lucy_place.specs.declared.entry.CallSite.{CallSite}
use Rattle.lucy_place.specs.Proper.{AreProper}
use Rattle.lucy_kahn.specs.Spots.{node_at, site_in}
use Rattle.lucy_kahn.proofs.Parts.{callee_in}
use Rattle.lucy_kahn.specs.Sizes.{total_of}
use Rattle.lucy_kahn.proofs.Tables.{calls_below, total_law}
use Rattle.lucy_kahn.proofs.Paths.{low_of}
use Rattle.lucy_kahn.proofs.Closed.{get_take, call_of}
use Rattle.lucy_kahn.specs.declared.instances.Caller.{Caller}
use Rattle.lucy_kahn.specs.declared.instances.Instance.{Instance}
use Rattle.lucy_kahn.specs.Instances.{made, IsCalledBy, IsInstance, AreMade, AreInstances, AreAll, paths_with}

pub length-made : (instance call : ℕ) (sites : List CallSite) → length (made instance call sites) ≡ length sites
length-made instance call [] = refl
length-made instance call (s ∷ sites) = ap suc (length-made instance (suc call) sites)

made_push : (instance call : ℕ) (sites : List CallSite) (s : CallSite) → made instance call (sites ++ s ∷ []) ≡ made instance call sites ++ record { node = s.node; caller = Some (record { instance = instance; call = call + length sites }) } ∷ []
made_push instance call [] s =
    let z : call ≡ call + 0 = omega arith in
    let at : ℕ → List Instance = λ c. record { node = s.node; caller = Some (record { instance = instance; call = c }) } ∷ [] in
    ap at z
made_push instance call (x ∷ sites) s =
    let z : suc call + length sites ≡ call + length (x ∷ sites) = omega arith in
    let own : Instance = record { node = x.node; caller = Some (record { instance = instance; call = call }) } in
    let at : ℕ → List Instance = λ c. own ∷ (made instance (suc call) sites ++ record { node = s.node; caller = Some (record { instance = instance; call = c }) } ∷ []) in
    ap (λ ys. own ∷ ys) (made_push instance (suc call) sites s) ∙ ap at z

-- one more call, in a loop over calls
pub made_more : (instance i : ℕ) (sites : List CallSite) (s : CallSite) (call : ℕ) → i < length sites → s ≡ get_or sites i s → call ≡ i + 1 →
    made instance 1 (take (i + 1) sites) ≡ made instance 1 (take i sites) ++ record { node = s.node; caller = Some (record { instance = instance; call = call }) } ∷ []
made_more instance i sites s call l e is =
    let n : length (take i sites) ≡ i = length-take-le i sites (omega arith) in
    let c : 1 + length (take i sites) ≡ call = omega arith in
    let at : ℕ → List Instance = λ k. made instance 1 (take i sites) ++ record { node = s.node; caller = Some (record { instance = instance; call = k }) } ∷ [] in
    ap (made instance 1) (take_more sites i s l ∙ ap (λ x. take i sites ++ x ∷ []) (sym e)) ∙ made_push instance 1 (take i sites) s ∙ ap at c

-- what stands among those that calls make
pub record IsMadeAt (instance call : ℕ) (sites : List CallSite) (j : ℕ) (x : Instance) : Type 0 where
  pub site : CallSite
  pub stands : slice_get sites j ≡ Some site
  pub is : x ≡ record { node = site.node; caller = Some (record { instance = instance; call = call + j }) }

made_at : (instance call : ℕ) (sites : List CallSite) (j : ℕ) (x : Instance) → slice_get (made instance call sites) j ≡ Some x → IsMadeAt instance call sites j x
made_at instance call [] j x e = absurd (cc e)
made_at instance call (s ∷ sites) zero x e =
    let z : call ≡ call + 0 = omega arith in
    let at : ℕ → Instance = λ c. record { node = s.node; caller = Some (record { instance = instance; call = c }) } in
    record { site = s; stands = refl; is = sym (same_Some (at call) x e) ∙ ap at z }
made_at instance call (s ∷ sites) (suc j) x e =
    let r = made_at instance (suc call) sites j x e in
    let z : suc call + j ≡ call + suc j = omega arith in
    let at : ℕ → Instance = λ c. record { node = r.site.node; caller = Some (record { instance = instance; call = c }) } in
    record { site = r.site; stands = r.stands; is = r.is ∙ ap at z }

-- paths of instances that were there, and of those that are new
old_path : (paths : ℕ → List ℕ) (first caller i : ℕ) → i < first → paths_with paths first caller i ≡ paths i
old_path paths first caller i l = ap (λ b. cond b (paths i) (suc (i - first) ∷ paths caller)) (lt-ltb i first l)

new_path : (paths : ℕ → List ℕ) (first caller j : ℕ) → paths_with paths first caller (first + j) ≡ suc j ∷ paths caller
new_path paths first caller j =
    let z : first + j - first ≡ j = omega arith in
    ap (λ b. cond b (paths (first + j)) (suc (first + j - first) ∷ paths caller)) (le-ltb (first + j) first (omega arith)) ∙ ap (λ k. suc k ∷ paths caller) z

-- an instance of main by itself
pub first_made : (nodes : List PlacedNode) (x : Instance) → 0 < length nodes → x ≡ record { node = length nodes - 1; caller = None } → AreInstances nodes (x ∷ []) [] (λ i. [])
first_made nodes x some is = record {
  some = omega arith;
  most = omega arith;
  main = refl;
  each = each;
  calls = λ i first e. absurd (cc e);
}
  where
    main : Instance
    main = record { node = length nodes - 1; caller = None }

    own : IsInstance nodes (λ i. []) 1 [] (record { node = length nodes - 1; caller = None })
    own = record { within = omega arith; node = refl; caller = refl }

    each : (i : ℕ) (y : Instance) → slice_get (x ∷ []) i ≡ Some y → IsInstance nodes (λ i. []) 1 [] y
    each zero y e = subst (λ z. IsInstance nodes (λ i. []) 1 [] z) (sym is ∙ same_Some x y e) own
    each (suc i) y e = absurd (cc e)

-- what is known when the calls of the next instance have made theirs
module _ (nodes : List PlacedNode) (list : List Instance) (inner : List ℕ) (paths : ℕ → List ℕ) (are : AreInstances nodes list inner paths)
    (x : Instance) (n : PlacedNode) (next : length inner < length list) (is : slice_get list (length inner) ≡ Some x) (found : slice_get nodes x.node ≡ Some n) (proper : AreProper nodes) where
  abbrev now : ℕ → List ℕ
  now = paths_with paths (length list) (length inner)

  abbrev all : List Instance
  all = list ++ made (length inner) 1 n.calls

  own : node_at nodes (paths (length inner)) ≡ Some n
  own = (are.each (length inner) x is).node ∙ found

  count : length all ≡ length list + length n.calls
  count = omega (arith, length-append list (made (length inner) 1 n.calls), length-made (length inner) 1 n.calls)

  old : (i : ℕ) → i < length list → now i ≡ paths i
  old i l = old_path paths (length list) (length inner) i l

  new : (j : ℕ) → now (length list + j) ≡ suc j ∷ paths (length inner)
  new j = new_path paths (length list) (length inner) j

  caller_later : (path : List ℕ) (o : Option Caller) → IsCalledBy paths (length list) path o → IsCalledBy now (length all) path o
  caller_later path None h = h
  caller_later path (Some by) h = (omega (arith, h.0, count), h.1 ∙ ap (λ p. by.call ∷ p) (sym (old by.instance h.0)))

  old_instance : (i : ℕ) (y : Instance) → slice_get list i ≡ Some y → IsInstance nodes now (length all) (paths i) y
  old_instance i y e = let h = are.each i y e in record { within = h.within; node = h.node; caller = caller_later (paths i) y.caller h.caller }

  new_instance : (j : ℕ) (y : Instance) → slice_get (made (length inner) 1 n.calls) j ≡ Some y → IsInstance nodes now (length all) (suc j ∷ paths (length inner)) y
  new_instance j y e =
      let r = made_at (length inner) 1 n.calls j y e in
      let call = (proper x.node n found).calls (suc j) r.site r.stands in
      let callee : slice_get nodes r.site.node ≡ Some call.callee = get_take nodes x.node r.site.node call.callee call.found in
      let z : suc j ≡ 1 + j = omega arith in
      let of : IsInstance nodes now (length all) (suc j ∷ paths (length inner)) (record { node = r.site.node; caller = Some (record { instance = length inner; call = 1 + j }) }) = record {
        within = slice_get_within nodes r.site.node call.callee callee;
        node = ap (λ o. callee_in nodes (site_in o (suc j))) own ∙ ap (callee_in nodes) r.stands;
        caller = (omega (arith, next, count), ap (λ p. suc j ∷ p) (sym (old (length inner) next)) ∙ ap (λ k. k ∷ now (length inner)) z);
      } in
      subst (λ t. IsInstance nodes now (length all) (suc j ∷ paths (length inner)) t) (sym r.is) of

  each : (i : ℕ) (y : Instance) → slice_get all i ≡ Some y → IsInstance nodes now (length all) (now i) y
  each i y e = elim (cases_lt i (length list)) [
    | inl l ↦
        subst (λ p. IsInstance nodes now (length all) p y) (sym (old i l)) (old_instance i y (sym (get_left list (made (length inner) 1 n.calls) i l) ∙ e))
    | inr l ↦
        let j : ℕ = i - length list in
        let z : i ≡ length list + j = omega arith in
        let here : slice_get (made (length inner) 1 n.calls) j ≡ Some y = sym (get_right list (made (length inner) 1 n.calls) j) ∙ sym (ap (slice_get all) z) ∙ e in
        subst (λ p. IsInstance nodes now (length all) p y) (sym (ap now z ∙ new j)) (new_instance j y here)
  ]

  old_calls : (i first : ℕ) → slice_get inner i ≡ Some first → AreMade nodes now (length all) (now i) first
  old_calls i first e m site j f g =
      let most = are.most in
      let l : i < length list = omega (arith, slice_get_within inner i first e) in
      let h = are.calls i first e m site j (ap (node_at nodes) (sym (old i l)) ∙ f) g in
      (omega (arith, h.0, count), old (first + j) h.0 ∙ h.1 ∙ ap (λ p. suc j ∷ p) (sym (old i l)))

  new_calls : AreMade nodes now (length all) (now (length inner)) (length list)
  new_calls m site j f g =
      let same : n ≡ m = same_Some n m (sym own ∙ ap (node_at nodes) (sym (old (length inner) next)) ∙ f) in
      let l : j < length n.calls = subst (λ (k : PlacedNode). j < length k.calls) (sym same) (slice_get_within m.calls j site g) in
      (omega (arith, l, count), new j ∙ ap (λ p. suc j ∷ p) (sym (old (length inner) next)))

  calls : (i first : ℕ) → slice_get (inner ++ length list ∷ []) i ≡ Some first → AreMade nodes now (length all) (now i) first
  calls i first e = elim (cases_lt i (length inner)) [
    | inl l ↦ old_calls i first (sym (get_left inner (length list ∷ []) i l) ∙ e)
    | inr l ↦ at_new (i - length inner) (let z : i ≡ length inner + (i - length inner) = omega arith in z)
  ]
    where
      at_new : (k : ℕ) → i ≡ length inner + k → AreMade nodes now (length all) (now i) first
      at_new zero z =
          let here : i ≡ length inner = omega (arith, z) in
          let same : length list ≡ first = same_Some (length list) first (sym (get_right inner (length list ∷ []) 0) ∙ sym (ap (slice_get (inner ++ length list ∷ [])) z) ∙ e) in
          subst (λ t. AreMade nodes now (length all) (now i) t) same (subst (λ t. AreMade nodes now (length all) (now t) (length list)) (sym here) new_calls)
      at_new (suc k) z =
          let never : slice_get {X = ℕ} [] k ≡ Some first = sym (get_right inner (length list ∷ []) (suc k)) ∙ sym (ap (slice_get (inner ++ length list ∷ [])) z) ∙ e in
          absurd (cc never)

  pub instances_more : AreInstances nodes all (inner ++ length list ∷ []) now
  instances_more = record {
    some = omega (arith, next, count);
    most = omega (arith, next, count, length-append inner (length list ∷ []));
    main = old 0 (omega arith) ∙ are.main;
    each = each;
    calls = calls;
  }

-- how many instances a node has with its calls written out, itself among them
abbrev pub one_each : ℕ → PlacedNode → ℕ
one_each i n = 1

abbrev pub count_of : List PlacedNode → Instance → ℕ
count_of nodes x = total_of one_each nodes x.node

sum_made : (nodes : List PlacedNode) (instance call : ℕ) (sites : List CallSite) → sum_by (count_of nodes) (made instance call sites) ≡ sum_by (λ site. total_of one_each nodes site.node) sites
sum_made nodes instance call [] = refl
sum_made nodes instance call (s ∷ sites) =
    let own : Instance = record { node = s.node; caller = Some (record { instance = instance; call = call }) } in
    let a : sum_by (count_of nodes) (own ∷ made instance (suc call) sites) ≡ count_of nodes own + sum_by (count_of nodes) (made instance (suc call) sites) = sum_by-cons (count_of nodes) own (made instance (suc call) sites) in
    let b = sum_by-cons (λ (site : CallSite). total_of one_each nodes site.node) s sites in
    omega (arith, sum_made nodes instance (suc call) sites)

-- how many instances are still to be looked at
abbrev pub left_from : List PlacedNode → List Instance → ℕ → ℕ
left_from nodes list i = sum_by (count_of nodes) (drop i list)

pub left_falls : (nodes : List PlacedNode) (list : List Instance) (i : ℕ) (x : Instance) (n : PlacedNode) → AreProper nodes → slice_get list i ≡ Some x → slice_get nodes x.node ≡ Some n →
    left_from nodes (list ++ made i 1 n.calls) (i + 1) < left_from nodes list i
left_falls nodes list i x n proper e found =
    let l : i < length list = slice_get_within list i x e in
    let rest : List Instance = drop (i + 1) list in
    let here : drop i list ≡ x ∷ rest = drop_next list i x l (sym (get_or_from_slice_get list i x x e)) in
    let there : drop (i + 1) (list ++ made i 1 n.calls) ≡ rest ++ made i 1 n.calls = drop-append-le (i + 1) list (made i 1 n.calls) (omega (arith, l)) in
    let a : left_from nodes list i ≡ count_of nodes x + sum_by (count_of nodes) rest = ap (sum_by (count_of nodes)) here ∙ sum_by-cons (count_of nodes) x rest in
    let b : left_from nodes (list ++ made i 1 n.calls) (i + 1) ≡ sum_by (count_of nodes) rest + sum_by (count_of nodes) (made i 1 n.calls) = ap (sum_by (count_of nodes)) there ∙ sum_by-append (count_of nodes) rest (made i 1 n.calls) in
    let c : count_of nodes x ≡ 1 + sum_by (λ site. total_of one_each nodes site.node) n.calls = total_law one_each nodes x.node n found (calls_below nodes x.node n (proper x.node n found)) in
    let d = sum_made nodes i 1 n.calls in
    omega arith

-- each path of calls is that of an instance
pub path_found : (nodes : List PlacedNode) (list : List Instance) (inner : List ℕ) (are : AreAll nodes list inner) (path : List ℕ) (n : PlacedNode) → node_at nodes path ≡ Some n →
    (i : ℕ) × (i < length list) × (are.paths i ≡ path)
path_found nodes list inner are [] n e = (0, are.instances.some, are.instances.main)
path_found nodes list inner are (call ∷ path) n e =
    let of = call_of nodes path call n e in
    let at = path_found nodes list inner are path of.caller of.outer in
    let l : at.0 < length inner = omega (arith, at.1, are.all) in
    let first = get_there inner at.0 l in
    let low = low_of of.caller.calls call of.to.site of.to.stands in
    let r = are.instances.calls at.0 first.0 first.1 of.caller of.to.site (call - 1) (ap (node_at nodes) at.2 ∙ of.outer) low.1 in
    let z : suc (call - 1) ≡ call = omega (arith, low.0) in
    (first.0 + (call - 1), r.0, r.1 ∙ ap (λ p. suc (call - 1) ∷ p) at.2 ∙ ap (λ c. c ∷ path) z)
