-- A node without faults of names is well named, and one that is well named has none, but for too many places.
use Rattle.std.proofs.Common.{◌≡◌, ◌≢◌, ◌<◌, ◌++◌, ◌||◌, ◌&&◌, ℕ, zero, suc, Bool, true, false, not, List, [], ◌∷◌, length, map, take, Option, Some, None, Err, slice_get, nat_eq, nat_lt, if◌then◌else◌, IsSomeAnd, Contains, AllPairs, refl, ap, sym, ◌∙◌, subst, ⊎_elim, arith, append-nil}
use Rattle.std.specs.List.{AllByRecursion}
use Rattle.std.proofs.lemmas.Bool.{false_from_ne_true, or_right}
use Rattle.std.proofs.lemmas.Bool.Decides.{nat_tests}
use Rattle.std.proofs.lemmas.List.{get_or_default}
use Rattle.std.proofs.lemmas.List.Elements.{Contains-append_left, Contains-push, Contains-push_cases}
use Rattle.std.proofs.lemmas.Slice.Eq.{bytes_eq-Decides}
use Rattle.lucy_word.specs.declared.limit.Limit.TheVariants as limit
use Rattle.lucy_word.proofs.Lists.{front_empty, back_empty}
use Rattle.lucy_host.specs.Operators.{Operator}
use Rattle.lucy_tree.specs.declared.span.Name.{Name}
use Rattle.lucy_tree.specs.View.{DefTree, NodeTree, ProgramTree}
use Rattle.lucy_naming.specs.declared.error.NameError.{NameError}
use Rattle.lucy_naming.specs.declared.error.NameError.TheVariants.{Unknown, Twice, NoResult, Arity, TooMany}
use Rattle.lucy_naming.specs.Texts.{is_text, is_in, place_in}
use Rattle.lucy_naming.specs.Streams.{streams, node_names, result_count}
use Rattle.lucy_naming.specs.Views.{text_of}
use Rattle.lucy_naming.specs.Phrases.{Head, Literal, Applied, Host, Sampled, Merged, Followed, Buffered, Called, Phrase, Phrases, name, headed, none, and, count, phrase_of}
use Rattle.lucy_naming.specs.Faults.{Within, unless, repeat, repeats, callee_faults, head_faults, phrase_faults, phrases_faults, def_faults, result_fault, result_faults, node_faults, nodes_faults, verdict}
use Rattle.lucy_place.specs.Standing.{most_places}
use Rattle.lucy_naming.specs.Places.{Known, as_placed}
use Rattle.lucy_naming.proofs.ProperPrograms.{behind}
use Rattle.lucy_naming.proofs.VerdictLaws.{all_faultless}
use Rattle.lucy_naming.proofs.OwnPlaces.{unless_holds, both_same}
use Rattle.lucy_right.specs.Names.{HasOwner, NamesWell, AllNameWell, IsWellNamed}
use Rattle.lucy_right.specs.Laws.{FaultlessAreWellNamed, WellNamedHaveNoFault}

-- a text is among texts
text_is : (t u : List ℕ) → is_text t u ≡ true → t ≡ u
text_is t u h = (bytes_eq-Decides t u).0 h

is_same : (t u : List ℕ) → t ≡ u → is_text t u ≡ true
is_same t u h = (bytes_eq-Decides t u).1 h

there_by : (u t : List ℕ) (us : List (List ℕ)) (b : Bool) → is_text t u ≡ b → (b || is_in us t) ≡ true → (is_in us t ≡ true → Contains us t) → Contains (u ∷ us) t
there_by u t us true e h rest = (zero, omega arith, sym (text_is t u e))
there_by u t us false e h rest = let c = rest h in (suc c.0, omega (arith, c.1), c.2)

pub there : (ts : List (List ℕ)) (t : List ℕ) → is_in ts t ≡ true → Contains ts t
there [] t h = cc
there (u ∷ us) t h = there_by u t us (is_text t u) refl h (there us t)

pub is_there : (ts : List (List ℕ)) (t : List ℕ) → Contains ts t → is_in ts t ≡ true
is_there [] t (k, l, e) = absurd (omega arith)
is_there (u ∷ us) t (zero, l, e) = ap (λ b. b || is_in us t) (is_same t u (sym e))
is_there (u ∷ us) t (suc k, l, e) = or_right (is_text t u) (is_in us t) (is_there us t (k, omega (arith, l), e))

pub not_there : (ts : List (List ℕ)) (t : List ℕ) → (Contains ts t → ⊥) → is_in ts t ≡ false
not_there ts t out = false_from_ne_true (is_in ts t) (λ h. out (there ts t h))

pub is_new : (ts : List (List ℕ)) (t : List ℕ) (e : NameError) → unless (not (is_in ts t)) e ≡ [] → Contains ts t → ⊥
is_new ts t e h c = let b : not (is_in ts t) ≡ true = unless_holds (not (is_in ts t)) e h in let i : is_in ts t ≡ true = is_there ts t c in let n : not (is_in ts t) ≡ false = ap not i in cc

pub new_is : (ts : List (List ℕ)) (t : List ℕ) (e : NameError) → (Contains ts t → ⊥) → unless (not (is_in ts t)) e ≡ []
new_is ts t e out = ap (λ b. unless (not b) e) (not_there ts t out)

-- texts of which no two are one
abbrev AreApart : List (List ℕ) → Type 0
AreApart ts = AllPairs (λ t u. t ≢ u) ts

apart_more : (t : List ℕ) (ts : List (List ℕ)) → (Contains ts t → ⊥) → AreApart ts → AreApart (t ∷ ts)
apart_more t ts out rest zero zero d h l same = absurd (omega arith)
apart_more t ts out rest zero (suc j) d h l same =
    let within : j < length ts = omega (arith, l) in out (j, within, get_or_default ts j t d within ∙ sym same)
apart_more t ts out rest (suc i) zero d h l same = absurd (omega arith)
apart_more t ts out rest (suc i) (suc j) d h l same = rest i j d (omega (arith, h)) (omega (arith, l)) same

apart_head : (t : List ℕ) (ts : List (List ℕ)) → AreApart (t ∷ ts) → Contains ts t → ⊥
apart_head t ts apart (k, l, e) = apart zero (suc k) t (omega arith) (omega (arith, l)) (sym e)

apart_tail : (t : List ℕ) (ts : List (List ℕ)) → AreApart (t ∷ ts) → AreApart ts
apart_tail t ts apart i j d h l same = apart (suc i) (suc j) d (omega (arith, h)) (omega (arith, l)) same

-- names that don't repeat
no_repeat : (before : List (List ℕ)) (ns : List Name) (t : List ℕ) → repeats before ns ≡ [] → Contains before t → Contains (map text_of ns) t → ⊥
no_repeat before [] t new b (k, l, e) = omega arith
no_repeat before (n ∷ ns) t new b (zero, l, e) = is_new before n.text (Twice n.span) (front_empty (repeat before n) (repeats (before ++ n.text ∷ []) ns) new) (subst (Contains before) (sym e) b)
no_repeat before (n ∷ ns) t new b (suc k, l, e) =
    no_repeat (before ++ n.text ∷ []) ns t (back_empty (repeat before n) (repeats (before ++ n.text ∷ []) ns) new) (Contains-append_left before (n.text ∷ []) t b) (k, omega (arith, l), e)

pub apart : (before : List (List ℕ)) (ns : List Name) → repeats before ns ≡ [] → AreApart (map text_of ns)
apart before [] new = λ i j d h l same. omega arith
apart before (n ∷ ns) new =
    let more = back_empty (repeat before n) (repeats (before ++ n.text ∷ []) ns) new in
    apart_more n.text (map text_of ns) (λ c. no_repeat (before ++ n.text ∷ []) ns n.text more (Contains-push before n.text) c) (apart (before ++ n.text ∷ []) ns more)

shifted : (u t : List ℕ) (us : List (List ℕ)) → Contains us t → Contains (u ∷ us) t
shifted u t us (k, l, e) = (suc k, omega (arith, l), e)

pub no_repeats : (before : List (List ℕ)) (ns : List Name) → AreApart (map text_of ns) → ((t : List ℕ) → Contains before t → Contains (map text_of ns) t → ⊥) → repeats before ns ≡ []
no_repeats before [] are out = refl
no_repeats before (n ∷ ns) are out =
    let own : repeat before n ≡ [] = new_is before n.text (Twice n.span) (λ b. out n.text b (zero, omega arith, refl)) in
    let far : (t : List ℕ) → Contains (before ++ n.text ∷ []) t → Contains (map text_of ns) t → ⊥ =
    λ t b c. ⊎_elim (λ a. out t a (shifted n.text t (map text_of ns) c)) (λ e. apart_head n.text (map text_of ns) are (subst (Contains (map text_of ns)) (sym e) c)) (Contains-push_cases before n.text t b) in
    all_faultless (repeat before n) (repeats (before ++ n.text ∷ []) ns) own (no_repeats (before ++ n.text ∷ []) ns (apart_tail n.text (map text_of ns) are) far)

-- results
module _ (texts : List (List ℕ)) where
  abbrev AreStreams : List Name → Type 0
  AreStreams ns = AllByRecursion (λ (r : Name). Contains texts r.text) ns

  one_result : (before : List (List ℕ)) (n : Name) (b : Bool) → is_in texts n.text ≡ b → (if b then repeat before n else NoResult n.span ∷ []) ≡ [] → Contains texts n.text × (repeat before n ≡ [])
  one_result before n true e h = (there texts n.text e, h)
  one_result before n false e h = cc

  pub results_fine : (before : List (List ℕ)) (ns : List Name) → result_faults texts before ns ≡ [] → AreStreams ns × (repeats before ns ≡ [])
  results_fine before [] h = (tt, refl)
  results_fine before (n ∷ ns) h =
      let own = one_result before n (is_in texts n.text) refl (front_empty (result_fault texts before n) (result_faults texts (before ++ n.text ∷ []) ns) h) in
      let more = results_fine (before ++ n.text ∷ []) ns (back_empty (result_fault texts before n) (result_faults texts (before ++ n.text ∷ []) ns) h) in
      ((own.0, more.0), all_faultless (repeat before n) (repeats (before ++ n.text ∷ []) ns) own.1 more.1)

  pub no_result_faults : (before : List (List ℕ)) (ns : List Name) → AreStreams ns → repeats before ns ≡ [] → result_faults texts before ns ≡ []
  no_result_faults before [] are new = refl
  no_result_faults before (n ∷ ns) are new =
      let own : result_fault texts before n ≡ [] =
      ap (λ b. if b then repeat before n else NoResult n.span ∷ []) (is_there texts n.text are.0) ∙ front_empty (repeat before n) (repeats (before ++ n.text ∷ []) ns) new in
      all_faultless (result_fault texts before n) (result_faults texts (before ++ n.text ∷ []) ns) own
      (no_result_faults (before ++ n.text ∷ []) ns are.1 (back_empty (repeat before n) (repeats (before ++ n.text ∷ []) ns) new))

same_both : (a b c d : ℕ) → a ≡ b → c ≡ d → (nat_eq a b && nat_eq c d) ≡ true
same_both a b c d p q = grind (arith, nat_tests)

-- what a node's expressions name
module _ (ops : List Operator) (all above : ProgramTree) (texts : List (List ℕ)) where
  abbrev w : Within
  w = record { operators = ops; all = all; above = above; streams = texts }

  abbrev k : Known
  k = record { operators = ops; nodes = node_names above; streams = texts }

  callee_there : (n : Name) (args results : ℕ) (o : Option NodeTree) → callee_faults all n args results o ≡ [] →
      IsSomeAnd o (λ (f : NodeTree). (length f.params ≡ args) × (length f.results ≡ results))
  callee_there n args results None h = cc
  callee_there n args results (Some f) h = both_same (length f.params) args (length f.results) results (unless_holds _ _ h)

  there_callee : (n : Name) (args results : ℕ) (o : Option NodeTree) → IsSomeAnd o (λ (f : NodeTree). (length f.params ≡ args) × (length f.results ≡ results)) →
      callee_faults all n args results o ≡ []
  there_callee n args results None h = absurd h
  there_callee n args results (Some f) h = ap (λ b. unless b (Arity n.span)) (same_both (length f.params) args (length f.results) results h.0 h.1)

  head_owned : (r args : ℕ) (h : Head) → head_faults w r args h ≡ [] → HasOwner k above r args h
  head_owned r args (Literal l) none_ = tt
  head_owned r args (Applied o) none_ = tt
  head_owned r args (Host n) none_ = unless_holds _ _ none_
  head_owned r args (Sampled flip word) none_ = tt
  head_owned r args (Merged word) none_ = tt
  head_owned r args (Followed l) none_ = tt
  head_owned r args (Buffered most) none_ = tt
  head_owned r args (Called n base) none_ = callee_there n args r (slice_get above (place_in (node_names above) n.text)) none_

  owned_head : (r args : ℕ) (h : Head) → HasOwner k above r args h → head_faults w r args h ≡ []
  owned_head r args (Literal l) own = refl
  owned_head r args (Applied o) own = refl
  owned_head r args (Host n) own = ap (λ b. unless b (Unknown n.span)) own
  owned_head r args (Sampled flip word) own = refl
  owned_head r args (Merged word) own = refl
  owned_head r args (Followed l) own = refl
  owned_head r args (Buffered most) own = refl
  owned_head r args (Called n base) own = there_callee n args r (slice_get above (place_in (node_names above) n.text)) own

  mutual
    phrase_well : (r : ℕ) (f : Phrase) → phrase_faults w r f ≡ [] → NamesWell k above r f
    phrase_well r (name n) h = there texts n.text (unless_holds _ _ h)
    phrase_well r (headed h span fs) none_ =
        (head_owned r (count fs) h (front_empty (head_faults w r (count fs) h) (phrases_faults w fs) none_), all_well fs (back_empty (head_faults w r (count fs) h) (phrases_faults w fs) none_))

    all_well : (fs : Phrases) → phrases_faults w fs ≡ [] → AllNameWell k above fs
    all_well none h = tt
    all_well (and f fs) h = (phrase_well 1 f (front_empty (phrase_faults w 1 f) (phrases_faults w fs) h), all_well fs (back_empty (phrase_faults w 1 f) (phrases_faults w fs) h))

  mutual
    well_phrase : (r : ℕ) (f : Phrase) → NamesWell k above r f → phrase_faults w r f ≡ []
    well_phrase r (name n) h = ap (λ b. unless b (Unknown n.span)) (is_there texts n.text h)
    well_phrase r (headed h span fs) good = all_faultless (head_faults w r (count fs) h) (phrases_faults w fs) (owned_head r (count fs) h good.0) (well_all fs good.1)

    well_all : (fs : Phrases) → AllNameWell k above fs → phrases_faults w fs ≡ []
    well_all none h = refl
    well_all (and f fs) h = all_faultless (phrase_faults w 1 f) (phrases_faults w fs) (well_phrase 1 f h.0) (well_all fs h.1)

  abbrev AreWell : List DefTree → Type 0
  AreWell ds = AllByRecursion (λ (d : DefTree). NamesWell k above (result_count d.left) (phrase_of d.right)) ds

  pub defs_well : (ds : List DefTree) → def_faults w ds ≡ [] → AreWell ds
  defs_well [] h = tt
  defs_well (d ∷ ds) h =
      let f : Phrase = phrase_of d.right in
      let r : ℕ = result_count d.left in
      (phrase_well r f (front_empty (phrase_faults w r f) (def_faults w ds) h), defs_well ds (back_empty (phrase_faults w r f) (def_faults w ds) h))

  pub well_defs : (ds : List DefTree) → AreWell ds → def_faults w ds ≡ []
  well_defs [] h = refl
  well_defs (d ∷ ds) h =
      let f : Phrase = phrase_of d.right in
      let r : ℕ = result_count d.left in
      all_faultless (phrase_faults w r f) (def_faults w ds) (well_phrase r f h.0) (well_defs ds h.1)

-- a node
module _ (ops : List Operator) (all above : ProgramTree) (n : NodeTree) where
  abbrev texts : List (List ℕ)
  texts = map text_of (streams n)

  abbrev in_name : List NameError
  in_name = unless (not (is_in (node_names above) n.name.text)) (Twice n.name.span)

  abbrev in_streams : List NameError
  in_streams = repeats [] (streams n)

  abbrev in_defs : List NameError
  in_defs = def_faults (w ops all above texts) n.defs

  abbrev in_results : List NameError
  in_results = result_faults texts [] n.results

  abbrev in_rooms : List NameError
  in_rooms = unless (not (nat_lt most_places (length (as_placed ops above n).places))) (TooMany limit.Places)

  pub node_well : node_faults ops all above n ≡ [] → IsWellNamed ops above n
  node_well h =
      let behind_name = back_empty in_name (in_streams ++ (in_defs ++ (in_results ++ in_rooms))) h in
      let behind_streams = back_empty in_streams (in_defs ++ (in_results ++ in_rooms)) behind_name in
      let behind_defs = back_empty in_defs (in_results ++ in_rooms) behind_streams in
      let results = results_fine texts [] n.results (front_empty in_results in_rooms behind_defs) in
      record {
        new = is_new (node_names above) n.name.text (Twice n.name.span) (front_empty in_name (in_streams ++ (in_defs ++ (in_results ++ in_rooms))) h);
        streams_apart = apart [] (streams n) (front_empty in_streams (in_defs ++ (in_results ++ in_rooms)) behind_name);
        results_apart = apart [] n.results results.1;
        results = results.0;
        defs = defs_well ops all above texts n.defs (front_empty in_defs (in_results ++ in_rooms) behind_streams);
      }

  nothing : (ts : List (List ℕ)) (t : List ℕ) → Contains [] t → Contains ts t → ⊥
  nothing ts t (k, l, e) c = omega arith

  pub well_node : IsWellNamed ops above n → node_faults ops all above n ≡ in_rooms
  well_node h =
      let named : in_name ≡ [] = new_is (node_names above) n.name.text (Twice n.name.span) h.new in
      let streamed : in_streams ≡ [] = no_repeats [] (streams n) h.streams_apart (nothing texts) in
      let defining : in_defs ≡ [] = well_defs ops all above texts n.defs h.defs in
      let resulting : in_results ≡ [] = no_result_faults texts [] n.results h.results (no_repeats [] n.results h.results_apart (nothing (map text_of n.results))) in
      ap (λ fs. fs ++ (in_streams ++ (in_defs ++ (in_results ++ in_rooms)))) named ∙ ap (λ fs. fs ++ (in_defs ++ (in_results ++ in_rooms))) streamed
      ∙ ap (λ fs. fs ++ (in_results ++ in_rooms)) defining ∙ ap (λ fs. fs ++ in_rooms) resulting

-- the nodes of a program
module _ (ops : List Operator) (all : ProgramTree) where
  all_nodes_well : (above : ProgramTree) (ns : List NodeTree) → nodes_faults ops all above ns ≡ [] → (i : ℕ) (n : NodeTree) → slice_get ns i ≡ Some n → IsWellNamed ops (above ++ take i ns) n
  all_nodes_well above [] h i n there_ = cc
  all_nodes_well above (m ∷ ns) h zero n there_ =
      let own = node_well ops all above m (front_empty (node_faults ops all above m) (nodes_faults ops all (above ++ m ∷ []) ns) h) in
      let same : m ≡ n = cc in
      subst (IsWellNamed ops (above ++ [])) same (subst (λ a. IsWellNamed ops a m) (sym (append-nil above)) own)
  all_nodes_well above (m ∷ ns) h (suc i) n there_ =
      subst (λ a. IsWellNamed ops a n) (behind ops above m ns i)
      (all_nodes_well (above ++ m ∷ []) ns (back_empty (node_faults ops all above m) (nodes_faults ops all (above ++ m ∷ []) ns) h) i n there_)

  -- the first fault is of too many places, where there is one
  abbrev TellsPlaces : List NameError → Type 0
  TellsPlaces fs = (e : NameError) → verdict fs ≡ Err e → e ≡ TooMany limit.Places

  places_first : (b : Bool) (fs : List NameError) → TellsPlaces fs → TellsPlaces (unless b (TooMany limit.Places) ++ fs)
  places_first true fs rest = rest
  places_first false fs rest = λ e h. cc

  only_places : (above : ProgramTree) (ns : List NodeTree) → ((i : ℕ) (n : NodeTree) → slice_get ns i ≡ Some n → IsWellNamed ops (above ++ take i ns) n) → TellsPlaces (nodes_faults ops all above ns)
  only_places above [] well = λ e h. cc
  only_places above (m ∷ ns) well =
      let own : IsWellNamed ops above m = subst (λ a. IsWellNamed ops a m) (append-nil above) (well zero m refl) in
      let more : TellsPlaces (nodes_faults ops all (above ++ m ∷ []) ns) =
      only_places (above ++ m ∷ []) ns (λ i n h. subst (λ a. IsWellNamed ops a n) (sym (behind ops above m ns i)) (well (suc i) n h)) in
      subst TellsPlaces (ap (λ fs. fs ++ nodes_faults ops all (above ++ m ∷ []) ns) (sym (well_node ops all above m own)))
      (places_first (not (nat_lt most_places (length (as_placed ops above m).places))) (nodes_faults ops all (above ++ m ∷ []) ns) more)

pub faultless_well : FaultlessAreWellNamed
faultless_well ops program h i n there_ = all_nodes_well ops program [] program h i n there_

pub well_faultless : WellNamedHaveNoFault
well_faultless ops program e well h = only_places ops program [] program well e h
