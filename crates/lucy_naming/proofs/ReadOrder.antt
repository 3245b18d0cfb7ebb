-- A place without a name stands behind the place that reads it.
use Rattle.std.proofs.Common.{◌≡◌, ◌+◌, ◌≤◌, ◌<◌, ℕ, zero, suc, true, List, [], ◌∷◌, ◌++◌, length, length-append, map, Some, slice_get, slice_index_or, refl, ap, sym, ◌∙◌, subst, arith, append_assoc}
use Rattle.std.proofs.lemmas.List.{length-map}
use Rattle.std.proofs.lemmas.Option.{same_Some, slice_get_within}
use Rattle.std.specs.List.{AllByRecursion}
use Rattle.lucy_word.proofs.Lists.{front_empty, back_empty}
use Rattle.lucy_host.specs.Operators.{Operator}
use Rattle.lucy_tree.specs.declared.decl.Decl.{Decl}
use Rattle.lucy_tree.specs.declared.span.Name as names
use Rattle.lucy_tree.specs.View.{DefTree, NodeTree, ProgramTree}
use Rattle.lucy_tree.specs.Shaped.{IsShapedDef, IsShapedNode}
use Rattle.lucy_place.specs.declared.entry.PlaceEntry.{PlaceEntry}
use Rattle.lucy_place.specs.declared.entry.PlaceKind.TheVariants as kind
use Rattle.lucy_place.specs.declared.placed.PlacedNode.{PlacedNode}
use Rattle.lucy_naming.specs.Texts.{is_text, is_in, place_in}
use Rattle.lucy_naming.specs.Streams.{streams, declared, def_names, result_count, node_names}
use Rattle.lucy_naming.specs.Views.{text_of}
use Rattle.lucy_naming.specs.Phrases.{Head, Literal, Applied, Host, Sampled, Merged, Followed, Buffered, Called, Phrase, Phrases, name, headed, none, and, phrase_of, count}
use Rattle.lucy_naming.specs.Faults.{Within as Scope, head_faults, phrase_faults, phrases_faults, def_faults, node_faults}
use Rattle.lucy_naming.specs.Numbering.{Next, past, inside, number, numbers, entries, all_entries, own_entries}
use Rattle.lucy_naming.specs.Places.{Known, results_from, stream_place, declared_entry}
use Rattle.lucy_naming.specs.Nodes.{past_def, rights, first_next}
use Rattle.lucy_place.specs.Proper.{arguments_of, reads_of, IsUnnamed, IsReadOnce, at_one}
use Rattle.lucy_naming.proofs.EachLaws.{Each, each_join, each_made, each_one}
use Rattle.lucy_naming.proofs.Spread.{Call}
use Rattle.lucy_naming.proofs.CallLaws.{site, made, all_made, own_made, def_made, reaches_own, reaches_phrase, def_sites_are}
use Rattle.lucy_naming.proofs.ShapeLaws.{Takes, HasShape, HaveShape, has_shape, count_numbers}
use Rattle.lucy_naming.proofs.RoomLaws.{some_results, length_defined}
use Rattle.lucy_naming.proofs.Good.{known_of, Lies}
use Rattle.lucy_naming.proofs.OwnPlaces.{unless_holds, site_at}
use Rattle.lucy_naming.proofs.ProperPhrases.{lies_front, lies_back}
use Rattle.lucy_naming.proofs.NodeParts.{found_within, w, k, n, cs, ps, ds, rs, rights_lie}
use Rattle.lucy_naming.proofs.NodeFaults.{defs_faultless}
use Rattle.lucy_naming.proofs.ReadNodes.{behind_streams, read_total, once_of}

zero_arg : (args : List ℕ) → 1 ≤ length args → slice_get args 0 ≡ Some (slice_index_or args 0 0)
zero_arg [] h = absurd (omega arith)
zero_arg (a ∷ args) h = refl

one_arg : (args : List ℕ) → 2 ≤ length args → slice_get args 1 ≡ Some (slice_index_or args 1 0)
one_arg [] h = absurd (omega arith)
one_arg (a ∷ []) h = absurd (omega arith)
one_arg (a ∷ b ∷ args) h = refl

module _ (sc : Scope) (m : PlacedNode) (calls_of : List Call) (calls : m.calls ≡ map site calls_of) where
  abbrev kn : Known
  kn = known_of sc

  -- each number read that is no stream's is behind the place
  abbrev pub Ahead : ℕ → PlaceEntry → Type 0
  Ahead p e = (j x : ℕ) → slice_get (reads_of m e.kind) j ≡ Some x → length sc.streams < x → p < x

  stream_low : (t : names.Name) → is_in sc.streams t.text ≡ true → stream_place kn t.text ≤ length sc.streams
  stream_low t known = let l = found_within (is_text t.text) sc.streams known in omega arith

  number_behind : (at : Next) (f : Phrase) → phrase_faults sc 1 f ≡ [] → length sc.streams < number kn at f → at.place ≤ number kn at f
  number_behind at (name t) good h = let l = stream_low t (unless_holds _ _ good) in absurd (omega arith)
  number_behind at (headed h span fs) good l = omega arith

  numbers_behind : (at : Next) (fs : Phrases) → phrases_faults sc fs ≡ [] → (j x : ℕ) → slice_get (numbers kn at fs) j ≡ Some x → length sc.streams < x → at.place ≤ x
  numbers_behind at none good j x e h = absurd (cc e)
  numbers_behind at (and f fs) good zero x e h =
      let same : number kn at f ≡ x = same_Some (number kn at f) x e in
      let b = number_behind at f (front_empty (phrase_faults sc 1 f) (phrases_faults sc fs) good) (omega arith) in
      omega arith
  numbers_behind at (and f fs) good (suc j) x e h =
      let b = numbers_behind (past at 1 f) fs (back_empty (phrase_faults sc 1 f) (phrases_faults sc fs) good) j x e h in
      omega arith

  -- one number, and two
  ahead_one : (p a : ℕ) → (length sc.streams < a → p < a) → (j x : ℕ) → slice_get (a ∷ []) j ≡ Some x → length sc.streams < x → p < x
  ahead_one p a f zero x e h = let s : a ≡ x = same_Some a x e in let g = f (omega arith) in omega arith
  ahead_one p a f (suc j) x e h = absurd (cc e)

  ahead_two : (p a b : ℕ) → (length sc.streams < a → p < a) → (length sc.streams < b → p < b) → (j x : ℕ) → slice_get (a ∷ b ∷ []) j ≡ Some x → length sc.streams < x → p < x
  ahead_two p a b f g zero x e h = let s : a ≡ x = same_Some a x e in let l = f (omega arith) in omega arith
  ahead_two p a b f g (suc j) x e h = ahead_one p b g j x e h

  later_ahead : (from c first r : ℕ) → Each Ahead from (results_from c (suc first) r)
  later_ahead from c first zero = tt
  later_ahead from c first (suc r) =
      let e : suc (first + 1) ≡ suc first + 1 = omega arith in
      ((λ j x f h. absurd (cc f)), subst (λ i. Each Ahead (from + 1) (results_from c i r)) e (later_ahead (from + 1) c (first + 1) r))

  own_ahead : (at : Next) (r : ℕ) (h : Head) (args : List ℕ) → 1 ≤ r → Takes h (length args) → head_faults sc r (length args) h ≡ [] →
      Lies m calls_of at (own_entries kn at r h args) (own_made kn at r h args) → ((j x : ℕ) → slice_get args j ≡ Some x → length sc.streams < x → (inside at r h).place ≤ x) → Each Ahead at.place (own_entries kn at r h args)
  own_ahead at r (Literal l) args some takes clean lies behind = ((λ j x f h. absurd (cc f)), tt)
  own_ahead at r (Applied op) args some takes clean lies behind = ((λ j x f h. let b = behind j x f h in omega arith), tt)
  own_ahead at r (Host t) args some takes clean lies behind = (
    ahead_two at.place (slice_index_or args 0 0) (slice_index_or args 1 0) (λ l. let b = behind 0 (slice_index_or args 0 0) (zero_arg args (omega (arith, takes))) l in omega arith)
        (λ l. let b = behind 1 (slice_index_or args 1 0) (one_arg args (omega (arith, takes))) l in omega arith),
    tt,
  )
  own_ahead at r (Sampled flip p) args some takes clean lies behind =
      (ahead_one at.place (slice_index_or args 0 0) (λ l. let b = behind 0 (slice_index_or args 0 0) (zero_arg args (omega (arith, takes.0))) l in omega arith), tt)
  own_ahead at r (Merged p) args some takes clean lies behind = (
    ahead_two at.place (slice_index_or args 0 0) (slice_index_or args 1 0) (λ l. let b = behind 0 (slice_index_or args 0 0) (zero_arg args (omega (arith, takes.0))) l in omega arith)
        (λ l. let b = behind 1 (slice_index_or args 1 0) (one_arg args (omega (arith, takes.0))) l in omega arith),
    tt,
  )
  own_ahead at r (Followed l) args some takes clean lies behind =
      (ahead_one at.place (slice_index_or args 0 0) (λ l. let b = behind 0 (slice_index_or args 0 0) (zero_arg args (omega (arith, takes))) l in omega arith), tt)
  own_ahead at r (Buffered most) args some takes clean lies behind =
      (ahead_one at.place (slice_index_or args 0 0) (λ l. let b = behind 0 (slice_index_or args 0 0) (zero_arg args (omega (arith, takes))) l in omega arith), tt)
  own_ahead at zero (Called t base) args some takes clean lies behind = absurd (omega arith)
  own_ahead at (suc r) (Called t base) args some takes clean lies behind =
      let x : Call = record { site = record { node = place_in (node_names sc.above) t.text; at = base; first = at.place; args = args }; results = suc r } in
      let here : at_one m.calls at.call ≡ Some x.site = ap (λ l. at_one l at.call) calls ∙ site_at calls_of at.call x lies.calls.0 in
      let e : 1 ≡ 0 + 1 = omega arith in (
        (λ j y f h. let b = behind j y (ap (λ o. slice_get (arguments_of o) j) (sym here) ∙ f) h in omega arith),
        subst (λ i. Each Ahead (at.place + 1) (results_from at.call i r)) e (later_ahead (at.place + 1) at.call 0 r),
      )

  mutual
    pub phrase_ahead : (at : Next) (r : ℕ) (f : Phrase) → 1 ≤ r → HasShape f → phrase_faults sc r f ≡ [] → Lies m calls_of at (entries kn at r f) (made kn at r f) → Each Ahead at.place (entries kn at r f)
    phrase_ahead at r (name t) some shape good lies = tt
    phrase_ahead at r (headed h span fs) some shape good lies =
        let in_ : Next = inside at r h in
        let args : List ℕ = numbers kn in_ fs in
        let same : count fs ≡ length args = count_numbers kn in_ fs in
        let reach = reaches_own kn at r h args in
        let front = lies_front m calls_of at in_ (own_entries kn at r h args) (all_entries kn in_ fs) (own_made kn at r h args) (all_made kn in_ fs) reach lies in
        let back = lies_back m calls_of at in_ (own_entries kn at r h args) (all_entries kn in_ fs) (own_made kn at r h args) (all_made kn in_ fs) reach lies in
        let clean = back_empty (head_faults sc r (count fs) h) (phrases_faults sc fs) good in
        each_join Ahead at.place in_.place (own_entries kn at r h args) (all_entries kn in_ fs) reach.place
        (own_ahead at r h args some (subst (Takes h) same shape.0) (subst (λ c. head_faults sc r c h ≡ []) same (front_empty (head_faults sc r (count fs) h) (phrases_faults sc fs) good)) front (numbers_behind in_ fs clean))
        (all_ahead in_ fs shape.1 clean back)

    pub all_ahead : (at : Next) (fs : Phrases) → HaveShape fs → phrases_faults sc fs ≡ [] → Lies m calls_of at (all_entries kn at fs) (all_made kn at fs) → Each Ahead at.place (all_entries kn at fs)
    all_ahead at none shape good lies = tt
    all_ahead at (and f fs) shape good lies =
        let next : Next = past at 1 f in
        let reach = reaches_phrase kn at 1 f in
        let front = lies_front m calls_of at next (entries kn at 1 f) (all_entries kn next fs) (made kn at 1 f) (all_made kn next fs) reach lies in
        let back = lies_back m calls_of at next (entries kn at 1 f) (all_entries kn next fs) (made kn at 1 f) (all_made kn next fs) reach lies in
        each_join Ahead at.place next.place (entries kn at 1 f) (all_entries kn next fs) reach.place
        (phrase_ahead at 1 f (omega arith) shape.0 (front_empty (phrase_faults sc 1 f) (phrases_faults sc fs) good) front)
        (all_ahead next fs shape.1 (back_empty (phrase_faults sc 1 f) (phrases_faults sc fs) good) back)

  pub defs_ahead : (at : Next) (defs : List DefTree) → AllByRecursion IsShapedDef defs → def_faults sc defs ≡ [] → Lies m calls_of at (rights kn at defs) (def_made kn at defs) → Each Ahead at.place (rights kn at defs)
  defs_ahead at [] shape good lies = tt
  defs_ahead at (d ∷ defs) shape good lies =
      let r : ℕ = result_count d.left in
      let f : Phrase = phrase_of d.right in
      let next : Next = past_def at d in
      let reach = reaches_phrase kn at r f in
      let front = lies_front m calls_of at next (entries kn at r f) (rights kn next defs) (made kn at r f) (def_made kn next defs) reach lies in
      let back = lies_back m calls_of at next (entries kn at r f) (rights kn next defs) (made kn at r f) (def_made kn next defs) reach lies in
      each_join Ahead at.place next.place (entries kn at r f) (rights kn next defs) reach.place
      (phrase_ahead at r f (some_results d.left) (has_shape d.right shape.0.right) (front_empty (phrase_faults sc r f) (def_faults sc defs) good) front)
      (defs_ahead next defs shape.1 (back_empty (phrase_faults sc r f) (def_faults sc defs) good) back)

module _ (ops : List Operator) (all above : ProgramTree) (t : NodeTree) (shape : IsShapedNode t) (clean : node_faults ops all above t ≡ []) where
  node_calls : (n ops all above t).calls ≡ map site (cs ops all above t)
  node_calls = sym (def_sites_are (k ops all above t) (first_next t) t.defs)

  rights_ahead : Each (Ahead (w ops all above t) (n ops all above t) (cs ops all above t) node_calls) (first_next t).place (rs ops all above t)
  rights_ahead = defs_ahead (w ops all above t) (n ops all above t) (cs ops all above t) node_calls (first_next t) t.defs shape (defs_faultless ops all above t clean) (rights_lie ops all above t)

  length_early : length (ps ops all above t ++ ds ops all above t) ≡ length (streams t)
  length_early =
      let c = length-map t.params (declared_entry kind.Param) in
      let d = length_defined (k ops all above t) (first_next t) t.defs in
      let e = length-append (declared t.params) (def_names t.defs) in
      let f = length-map t.params (λ (x : Decl). x.name) in
      let g = length-append (ps ops all above t) (ds ops all above t) in
      omega arith

  places_ahead : Each (Ahead (w ops all above t) (n ops all above t) (cs ops all above t) node_calls) 1 (n ops all above t).places
  places_ahead =
      let len = length-map (streams t) text_of in
      let a = length_early in
      subst (λ l. Each (Ahead (w ops all above t) (n ops all above t) (cs ops all above t) node_calls) 1 l) (append_assoc (ps ops all above t) (ds ops all above t) (rs ops all above t))
      (each_join (Ahead (w ops all above t) (n ops all above t) (cs ops all above t) node_calls) 1 (first_next t).place (ps ops all above t ++ ds ops all above t) (rs ops all above t) (omega arith)
      (each_made (Ahead (w ops all above t) (n ops all above t) (cs ops all above t) node_calls) 1 (ps ops all above t ++ ds ops all above t)
      (λ i p x e g j y f h. let l = slice_get_within (ps ops all above t ++ ds ops all above t) i x g in omega arith))
      rights_ahead)

  -- each place without a name is read once, by a place before it
  pub read_once : (q : ℕ) → IsUnnamed (n ops all above t) q → IsReadOnce (n ops all above t) q
  read_once q un =
      once_of (n ops all above t) q (read_total ops all above t shape clean q un)
      (λ p j reads. each_one (Ahead (w ops all above t) (n ops all above t) (cs ops all above t) node_calls) (n ops all above t).places p reads.entry reads.stands places_ahead j q reads.reads (behind_streams ops all above t shape clean q un).0)
