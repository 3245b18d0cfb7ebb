-- The drafts of an instance and of those inside it, call by call.
use Rattle.std.proofs.Common.{ℕ, suc, zero, ◌+◌, ◌-◌, ◌<◌, ◌≤◌, ◌≡◌, List, [], ◌∷◌, ◌++◌, Option, Some, None, length, map, take, get_or, ap, sym, refl, ◌∙◌, subst, inl, inr, arith, append_assoc, length-append}
use Rattle.std.specs.Prelude.{◌⊎◌, sum_by, slice_get, slice_index, slice_index_or}
use Rattle.std.specs.List.{range_with_len}
use Rattle.std.proofs.lemmas.Bool.{cases_lt}
use Rattle.std.proofs.lemmas.List.{append-nil, length-map, map-append, take_all}
use Rattle.std.proofs.lemmas.List.Sums.{sum_by-cons, sum_by-take-le}
use Rattle.std.proofs.lemmas.Option.{same_Some, slice_get_within}
use Rattle.std.proofs.lemmas.List.FromFn.{length-range_with_len}
use Rattle.lucy_word.specs.Bits.{Bits, IsWord}
use Rattle.lucy_word.specs.Sampling.{IsOn}
use Rattle.lucy_host.proofs.Elements.{get_there}
use Rattle.lucy_place.specs.declared.placed.PlacedNode.{PlacedNode}
use Rattle.lucy_place.specs.declared.entry.CallSite.{CallSite}
use Rattle.lucy_place.specs.Proper.{at_one, AreProper}
use Rattle.lucy_kahn.specs.Numbers.{within_call, inner_spots, spots_of}
use Rattle.lucy_kahn.proofs.SpotLists.{spots_law, length_spots}
use Rattle.lucy_kahn.proofs.Paths.{none_from, node_inside, begins_with}
use Rattle.lucy_kahn.specs.Spots.{node_from}
use Rattle.lucy_clock.specs.Clocks.{clocks_of}
use Rattle.lucy_clock.specs.declared.node_clock.NodeClock.{NodeClock}
use Rattle.lucy_flat.specs.declared.draft.Draft.{Draft}
use Rattle.lucy_flat.specs.declared.instance.Caller.{Caller}
use Rattle.lucy_flat.specs.declared.instance.Instance.{Instance}
use Rattle.lucy_kahn.specs.Spots.{main_of, Spot, at, site_in, node_at}
use Rattle.lucy_kahn.proofs.Parts.{callee_in}
use Rattle.lucy_kahn.specs.Below.{Below}
use Rattle.lucy_flat.specs.Extents.{actors_in, AreSumsOf}
use Rattle.lucy_kahn.specs.Sizes.{AreCapped, own_places, size_of}
use Rattle.lucy_kahn.specs.Numbers.{begin_from, call_offset}
use Rattle.lucy_flat.specs.Instances.{index_at, word_at}
use Rattle.lucy_flat.proofs.Parts.{called, base_clock}
use Rattle.lucy_kahn.proofs.Tables.{below_take, calls_below, total_law}
use Rattle.lucy_kahn.proofs.SizeLaws.{below_more}
use Rattle.lucy_flat.specs.Clocked.{AreClocked}
use Rattle.lucy_flat.proofs.InstanceLaws.{word_is}
use Rattle.lucy_flat.specs.Drafts.{inside, AreMade, own_spots, calls_spots, instance_spots, IsFit, AreFit, ArePut, CanBeFlattened, IsInstanceAt, IsInstance, AreBegins, ArePlacesPut, ArePutSoFar}
use Rattle.lucy_flat.proofs.MadeLaws.{made_length, made_append}

-- how many actors the instances of calls have, by the table
pub actors_exact : (nodes : List PlacedNode) (sizes : List ℕ) → AreCapped (size_of nodes) (length nodes) sizes → (sites : List CallSite) → Below (length nodes) sites →
    sum_by (λ (s : CallSite). size_of nodes s.node) sites < 4294967296 → actors_in sizes sites ≡ sum_by (λ (s : CallSite). size_of nodes s.node) sites
actors_exact nodes sizes are [] below few = refl
actors_exact nodes sizes are (s ∷ sites) below few =
    let exact = are s.node below.0 in
    let sum = sum_by-cons (λ (t : CallSite). size_of nodes t.node) s sites in
    let rest = actors_exact nodes sizes are sites below.1 (omega (arith, sum, few)) in
    omega (arith, exact, sum, few, rest, sum_by-cons (λ (t : CallSite). slice_index sizes t.node) s sites)

-- where the instances of calls begin
pub begins_are : (nodes : List PlacedNode) (sizes : List ℕ) → AreCapped (size_of nodes) (length nodes) sizes → (n : PlacedNode) (begin first : ℕ) (begins : List ℕ) →
    Below (length nodes) n.calls → sum_by (λ (s : CallSite). size_of nodes s.node) n.calls < 4294967296 → first ≡ begin + length n.places → AreSumsOf sizes n.calls first (length n.calls) begins → AreBegins nodes n begin begins
begins_are nodes sizes are n begin first begins below few first_is sums = record {
  count = sums.count;
  each = λ j l. each_at j l;
}
  where
    each_at : (j : ℕ) → j < length begins → slice_index_or begins j 0 ≡ begin + call_offset nodes (Some n) (j + 1)
    each_at j l =
        let back : j + 1 - 1 ≡ j = omega arith in
        let offset = ap (λ k. sum_by (λ (s : CallSite). size_of nodes s.node) (take k n.calls)) back in
        let part = sum_by-take-le (λ (s : CallSite). size_of nodes s.node) n.calls j in
        let exact = actors_exact nodes sizes are (take j n.calls) (below_take (length nodes) n.calls j below) (omega (arith, part, few)) in
        omega (arith, sums.each j (omega (arith, l, sums.count)), exact, first_is, offset)

-- how many instance places an instance has
pub inner_length : (nodes : List PlacedNode) (known : List ℕ → ℕ → List Spot) (d : ℕ) (path : List ℕ) (call : ℕ) (sites : List CallSite) → ((p : List ℕ) (i : ℕ) → i < d → length (known p i) ≡ size_of nodes i) → Below d sites →
    length (calls_spots known path call sites) ≡ sum_by (λ (s : CallSite). size_of nodes s.node) sites
inner_length nodes known d path call [] h below = refl
inner_length nodes known d path call (s ∷ sites) h below =
    length-append (known (call ∷ path) s.node) (calls_spots known path (suc call) sites)
    ∙ (let a = h (call ∷ path) s.node below.0 in
    let b = inner_length nodes known d path (suc call) sites h below.1 in
    let c = sum_by-cons (λ (t : CallSite). size_of nodes t.node) s sites in
    omega (arith, a, b, c))

pub own_length : (path : List ℕ) (n : PlacedNode) → length (own_spots path n) ≡ length n.places
own_length path n = length-map (range_with_len 1 (length n.places)) (at path) ∙ length-range_with_len 1 (length n.places)

-- the instance places of an instance are its own and those of its calls
own_inside : (path ps : List ℕ) → map (inside path) (map (at []) ps) ≡ map (at path) ps
own_inside path [] = refl
own_inside path (p ∷ ps) = ap (λ t. at path p ∷ t) (own_inside path ps)

call_inside : (path : List ℕ) (call : ℕ) (spots : List Spot) → map (inside path) (map (within_call call) spots) ≡ map (inside (call ∷ path)) spots
call_inside path call [] = refl
call_inside path call (s ∷ spots) =
    ap (λ p. at p s.place ∷ map (inside path) (map (within_call call) spots)) (append_assoc s.path (call ∷ []) path) ∙ ap (λ t. inside (call ∷ path) s ∷ t) (call_inside path call spots)

calls_inside : (known : ℕ → List Spot) (path : List ℕ) (call : ℕ) (sites : List CallSite) → map (inside path) (inner_spots known call sites) ≡ calls_spots (λ p i. map (inside p) (known i)) path call sites
calls_inside known path call [] = refl
calls_inside known path call (s ∷ sites) =
    map-append (inside path) (map (within_call call) (known s.node)) (inner_spots known (suc call) sites)
    ∙ ap (λ t. t ++ map (inside path) (inner_spots known (suc call) sites)) (call_inside path call (known s.node)) ∙ ap (λ t. map (inside (call ∷ path)) (known s.node) ++ t) (calls_inside known path (suc call) sites)

module _ (nodes : List PlacedNode) (proper : AreProper nodes) where
  pub instance_law : (path : List ℕ) (node : ℕ) (n : PlacedNode) → slice_get nodes node ≡ Some n → instance_spots nodes path node ≡ own_spots path n ++ calls_spots (instance_spots nodes) path 1 n.calls
  instance_law path node n e =
      ap (map (inside path)) (spots_law nodes proper node n e) ∙ map-append (inside path) (map (at []) (range_with_len 1 (length n.places))) (inner_spots (spots_of nodes) 1 n.calls)
      ∙ ap (λ t. t ++ map (inside path) (inner_spots (spots_of nodes) 1 n.calls)) (own_inside path (range_with_len 1 (length n.places))) ∙ ap (λ t. own_spots path n ++ t) (calls_inside (spots_of nodes) path 1 n.calls)

  pub instance_length : (path : List ℕ) (node : ℕ) → node < length nodes → length (instance_spots nodes path node) ≡ size_of nodes node
  instance_length path node within =
      let n = get_there nodes node within in
      length-map (spots_of nodes node) (inside path) ∙ length_spots nodes proper (suc node) node n.0 (omega arith) n.1

  pub front_length : (path : List ℕ) (node : ℕ) (n : PlacedNode) (i : ℕ) → slice_get nodes node ≡ Some n →
      length (own_spots path n ++ calls_spots (instance_spots nodes) path 1 (take i n.calls)) ≡ length n.places + sum_by (λ (s : CallSite). size_of nodes s.node) (take i n.calls)
  front_length path node n i e =
      let within = slice_get_within nodes node n e in
      let below = below_take node n.calls i (calls_below nodes node n (proper node n e)) in
      let inner = inner_length nodes (instance_spots nodes) node path 1 (take i n.calls) (λ p j h. instance_length p j (omega (arith, h, within))) below in
      length-append (own_spots path n) (calls_spots (instance_spots nodes) path 1 (take i n.calls)) ∙ (omega (arith, own_length path n, inner))

module _ (nodes : List PlacedNode) (clocks : List NodeClock) where
  pub so_far_first : (path : List ℕ) (n : PlacedNode) (old new : List Draft) → ArePlacesPut nodes clocks path (length n.places) old new → ArePutSoFar nodes clocks path n 0 old new
  so_far_first path n old new are = record {
    more = are.more;
    grown = are.grown;
    made = subst (λ t. AreMade nodes clocks t are.more) (sym (append-nil (own_spots path n))) are.made;
    fit = λ clock low high. are.fit clock low (omega (arith, high));
    inner_fit = λ c site l. absurd (omega (arith, l));
  }

  pub inner_more : (known : List ℕ → ℕ → List Spot) (path : List ℕ) (call : ℕ) (sites : List CallSite) (i : ℕ) (site : CallSite) → slice_get sites i ≡ Some site →
      calls_spots known path call (take (suc i) sites) ≡ calls_spots known path call (take i sites) ++ known ((call + i) ∷ path) site.node
  inner_more known path call [] i site e = absurd (cc e)
  inner_more known path call (s ∷ sites) zero site e =
      let same : s ≡ site = same_Some s site e in
      let z : call ≡ call + 0 = omega arith in
      append-nil (known (call ∷ path) s.node) ∙ ap (λ (t : CallSite). known (call ∷ path) t.node) same ∙ ap (λ k. known (k ∷ path) site.node) z
  inner_more known path call (s ∷ sites) (suc i) site e =
      let k : suc call + i ≡ call + suc i = omega arith in
      ap (λ t. known (call ∷ path) s.node ++ t) (inner_more known path (suc call) sites i site e)
      ∙ sym (append_assoc (known (call ∷ path) s.node) (calls_spots known path (suc call) (take i sites)) (known ((suc call + i) ∷ path) site.node))
      ∙ ap (λ j. (known (call ∷ path) s.node ++ calls_spots known path (suc call) (take i sites)) ++ known (j ∷ path) site.node) k

  pub so_far_more : (path : List ℕ) (n : PlacedNode) (i : ℕ) (old mid new : List Draft) (site : CallSite) → ArePutSoFar nodes clocks path n i old mid → slice_get n.calls i ≡ Some site →
      ArePut nodes clocks (suc i ∷ path) site.node mid new → IsFit nodes clocks path (length n.places + suc i) → ArePutSoFar nodes clocks path n (i + 1) old new
  so_far_more path n i old mid new site before e put fits =
      let k : suc i ≡ 1 + i = omega arith in
      let s : suc i ≡ i + 1 = omega arith in
      let known : List ℕ → ℕ → List Spot = instance_spots nodes in
      let spots : (own_spots path n ++ calls_spots known path 1 (take i n.calls)) ++ known (suc i ∷ path) site.node ≡ own_spots path n ++ calls_spots known path 1 (take (i + 1) n.calls) =
      append_assoc (own_spots path n) (calls_spots known path 1 (take i n.calls)) (known (suc i ∷ path) site.node)
      ∙ ap (λ j. own_spots path n ++ (calls_spots known path 1 (take i n.calls) ++ known (j ∷ path) site.node)) k
      ∙ ap (λ t. own_spots path n ++ t) (sym (inner_more known path 1 n.calls i site e)) ∙ ap (λ j. own_spots path n ++ calls_spots known path 1 (take j n.calls)) s in
      record {
        more = before.more ++ put.more;
        grown = put.grown ∙ ap (λ t. t ++ put.more) before.grown ∙ append_assoc old before.more put.more;
        made = subst (λ t. AreMade nodes clocks t (before.more ++ put.more)) spots (made_append nodes clocks (own_spots path n ++ calls_spots known path 1 (take i n.calls)) (known (suc i ∷ path) site.node) before.more put.more before.made put.made);
        fit = λ clock low high. fit_at clock low high (cases_lt (length n.places + i) clock);
        inner_fit = λ c other l f. inner_at c other l f (cases_lt c i);
      }
    where
      fit_at : (clock : ℕ) → 0 < clock → clock ≤ length n.places + (i + 1) → (length n.places + i < clock) ⊎ (clock ≤ length n.places + i) → IsFit nodes clocks path clock
      fit_at clock low high (inl last) = let c : length n.places + suc i ≡ clock = omega (arith, high, last) in subst (IsFit nodes clocks path) c fits
      fit_at clock low high (inr earlier) = before.fit clock low earlier

      inner_at : (c : ℕ) (other : CallSite) → c < i + 1 → slice_get n.calls c ≡ Some other → (c < i) ⊎ (i ≤ c) → AreFit nodes clocks (suc c ∷ path) other.node
      inner_at c other l f (inl earlier) = before.inner_fit c other earlier f
      inner_at c other l f (inr last) =
          let same : i ≡ c = omega (arith, l, last) in
          let site_is : site ≡ other = same_Some site other (sym e ∙ ap (slice_get n.calls) same ∙ f) in
          subst (λ j. AreFit nodes clocks (suc j ∷ path) other.node) same (subst (λ (t : CallSite). AreFit nodes clocks (suc i ∷ path) t.node) site_is put.fit)

  -- no clock of a node or of those inside it is too long
  whole_fit : (path : List ℕ) (n : PlacedNode) (node : ℕ) → slice_get nodes node ≡ Some n → ((clock : ℕ) → 0 < clock → clock < clocks_of n → IsFit nodes clocks path clock) →
      ((c : ℕ) (site : CallSite) → slice_get n.calls c ≡ Some site → AreFit nodes clocks (suc c ∷ path) site.node) → AreFit nodes clocks path node
  whole_fit path n node e own calls inner m clock found low high =
      elim (begins_with inner) [
        | inl l ↦
            let same : n ≡ m = same_Some n m (sym e ∙ ap (node_from nodes (slice_get nodes node)) (sym l) ∙ found) in
            let few : clocks_of n ≡ clocks_of m = ap clocks_of same in
            subst (λ p. IsFit nodes clocks (p ++ path) clock) (sym l) (own clock low (omega (arith, high, few)))
        | inr r ↦
            let at_call = sym (node_inside nodes (slice_get nodes node) r.0 r.1) ∙ ap (node_from nodes (slice_get nodes node)) (sym r.2) ∙ found in
            let within = ap (λ o. node_from nodes (callee_in nodes (site_in o r.1)) r.0) (sym e) ∙ at_call in
            subst (λ p. IsFit nodes clocks p clock) (sym (ap (λ p. p ++ path) r.2 ∙ append_assoc r.0 (r.1 ∷ []) path)) (by_call r.0 r.1 within)
      ]
    where
      by_site : (rest : List ℕ) (call : ℕ) (o : Option CallSite) → at_one n.calls call ≡ o → node_from nodes (callee_in nodes o) rest ≡ Some m → IsFit nodes clocks (rest ++ call ∷ path) clock
      by_site rest call None f g = absurd (cc (sym (none_from nodes rest) ∙ g))
      by_site rest zero (Some site) f g = absurd (cc f)
      by_site rest (suc c) (Some site) f g = calls c site f rest m clock g low high

      by_call : (rest : List ℕ) (call : ℕ) → node_from nodes (callee_in nodes (site_in (Some n) call)) rest ≡ Some m → IsFit nodes clocks (rest ++ call ∷ path) clock
      by_call rest call g = by_site rest call (at_one n.calls call) refl g

  pub so_far_whole : AreProper nodes → (path : List ℕ) (n : PlacedNode) (node i : ℕ) (old new : List Draft) → slice_get nodes node ≡ Some n → length n.calls ≤ i → ArePutSoFar nodes clocks path n i old new → ArePut nodes clocks path node old new
  so_far_whole proper path n node i old new e past are =
      let all : take i n.calls ≡ n.calls = take_all i n.calls past in
      record {
        more = are.more;
        grown = are.grown;
        made = subst (λ t. AreMade nodes clocks t are.more) (sym (instance_law nodes proper path node n e)) (subst (λ t. AreMade nodes clocks (own_spots path n ++ calls_spots (instance_spots nodes) path 1 t) are.more) all are.made);
        fit = whole_fit path n node e (λ clock low high. are.fit clock low (omega (arith, high, past))) (λ c site f. are.inner_fit c site (omega (arith, past, slice_get_within n.calls c site f)) f);
      }

  -- the instance of a call
  pub at_call : (path : List ℕ) (n : PlacedNode) (node begin : ℕ) (base inner : Bits) (caller : Option Caller) (i b : ℕ) (site : CallSite) (c : Caller) → IsInstanceAt nodes clocks path node begin base caller → slice_get nodes node ≡ Some n → slice_get n.calls i ≡ Some site →
      IsWord inner → IsOn base (word_at nodes clocks path (length n.places + suc i)) inner → c.begin ≡ begin → c.args.now ≡ site.args → b ≡ begin + call_offset nodes (Some n) (suc i) →
      IsInstanceAt nodes clocks (suc i ∷ path) site.node b inner (Some c)
  at_call path n node begin base inner caller i b site c is e f is_word on begin_is args_is b_is =
      let found : node_at nodes path ≡ Some n = is.found ∙ e in
      let here : site_in (node_at nodes path) (suc i) ≡ Some site = ap (λ o. site_in o (suc i)) found ∙ f in
      record {
        index = ap called here;
        found = ap (callee_in nodes) here;
        begins = ap (λ o. begin_from nodes (main_of nodes) path + call_offset nodes o (suc i)) found ∙ ap (λ k. k + call_offset nodes (Some n) (suc i)) is.begins ∙ sym b_is;
        is_base = (is_word, base, is.is_base, subst (λ o. IsOn base (word_at nodes clocks path (base_clock o (suc i))) inner) (sym found) on);
        is_called = (c, site, refl, here, begin_is ∙ sym is.begins, args_is);
      }

  -- how many drafts get_there are
  pub so_far_length : AreProper nodes → (path : List ℕ) (n : PlacedNode) (node i : ℕ) (old new : List Draft) → slice_get nodes node ≡ Some n → ArePutSoFar nodes clocks path n i old new → length new ≡ length old + call_offset nodes (Some n) (suc i)
  so_far_length proper path n node i old new e are =
      let back : suc i - 1 ≡ i = omega arith in
      let offset = ap (λ k. sum_by (λ (s : CallSite). size_of nodes s.node) (take k n.calls)) back in
      let count = made_length nodes clocks (own_spots path n ++ calls_spots (instance_spots nodes) path 1 (take i n.calls)) are.more are.made in
      let front = front_length nodes proper path node n i e in
      ap length are.grown ∙ length-append old are.more ∙ (omega (arith, count, front, offset))

-- the instance that the code has at hand
pub instance_is : (nodes : List PlacedNode) (clocks : List NodeClock) (sizes : List ℕ) → CanBeFlattened nodes clocks sizes → (path : List ℕ) (node begin first : ℕ) (of : Instance) (sites : List CallSite) →
    slice_get nodes node ≡ Some of.node.now → slice_get clocks node ≡ Some of.clock.now → IsInstanceAt nodes clocks path node begin of.base.now of.caller → of.begin ≡ begin → begin + size_of nodes node < 4294967296 →
    sites ≡ of.node.now.calls → first ≡ of.begin + length of.node.now.places → AreSumsOf sizes sites first (length sites) of.inner.now → (is : IsInstance nodes clocks path of) × (is.index ≡ node)
instance_is nodes clocks sizes program path node begin first of sites e f is begin_is few sites_are first_is sums =
    let n : PlacedNode = of.node.now in
    let inside = slice_get_within nodes node n e in
    let below = calls_below nodes node n (program.proper node n e) in
    let whole = total_law own_places nodes node n e below in
    let instance : IsInstance nodes clocks path of = record {
      index = node;
      at = subst (λ b. IsInstanceAt nodes clocks path node b of.base.now of.caller) (sym begin_is) is;
      node = e;
      clock = f;
      inner = begins_are nodes sizes program.sizes n of.begin first of.inner.now (below_more node (length nodes) n.calls (omega (arith, inside)) below) (omega (arith, whole, few)) first_is
          (subst (λ s. AreSumsOf sizes s first (length s) of.inner.now) sites_are sums);
      few = omega (arith, few, begin_is);
    } in
    (instance, refl)

-- the word of a call's base
pub call_bound : (nodes : List PlacedNode) (clocks : List NodeClock) → AreClocked nodes clocks → (node : ℕ) (n : PlacedNode) (clock : NodeClock) (i places : ℕ) (words : List Bits) → slice_get nodes node ≡ Some n → slice_get clocks node ≡ Some clock →
    words ≡ clock.words → places ≡ length n.places → i < length n.calls → places + 1 + i < length words
call_bound nodes clocks clocked node n clock i places words e f words_are places_are l =
    let count = (clocked.each node n clock e f).count in
    let length_is = ap length words_are in
    omega (arith, count, length_is, places_are, l)

pub call_word : (nodes : List PlacedNode) (clocks : List NodeClock) → AreClocked nodes clocks → (path : List ℕ) (node : ℕ) (n : PlacedNode) (clock : NodeClock) (i places : ℕ) (words : List Bits) (w : Bits) → index_at nodes path ≡ node →
    slice_get nodes node ≡ Some n → slice_get clocks node ≡ Some clock → words ≡ clock.words → places ≡ length n.places → i < length n.calls → w ≡ get_or words (places + 1 + i) w → word_at nodes clocks path (length n.places + suc i) ≡ w
call_word nodes clocks clocked path node n clock i places words w index e f words_are places_are l got_word =
    let k : length n.places + suc i ≡ places + 1 + i = omega (arith, places_are) in
    ap (word_at nodes clocks path) k ∙ word_is nodes clocks path node clock index f (places + 1 + i) words w words_are (call_bound nodes clocks clocked node n clock i places words e f words_are places_are l) got_word
