-- How often a number behind those of the streams is read in expressions: once, but for their first places.
use Rattle.std.proofs.Common.{◌≡◌, ◌+◌, ◌≤◌, ◌<◌, ℕ, zero, suc, List, [], ◌∷◌, true, length, map, Some, slice_index_or, refl, ap, sym, ◌∙◌, subst, arith}
use Rattle.std.specs.List.{AllByRecursion}
use Rattle.lucy_word.proofs.Lists.{front_empty, back_empty}
use Rattle.lucy_tree.specs.declared.decl.Decl.{Decl}
use Rattle.lucy_tree.specs.declared.span.Span.{Span}
use Rattle.lucy_tree.specs.declared.span.Name as names
use Rattle.lucy_tree.specs.Tree.{Tree, literal, variable, operator, host, sampled, merged, followed, buffered, call}
use Rattle.lucy_tree.specs.View.{DefTree}
use Rattle.lucy_tree.specs.Shaped.{Defines, IsShapedDef}
use Rattle.lucy_place.specs.declared.entry.PlaceEntry.{PlaceEntry}
use Rattle.lucy_place.specs.declared.placed.PlacedNode.{PlacedNode}
use Rattle.lucy_naming.specs.Texts.{is_text, is_in, place_in}
use Rattle.lucy_naming.specs.Streams.{result_count, node_names}
use Rattle.lucy_naming.specs.Phrases.{Head, Literal, Applied, Host, Sampled, Merged, Followed, Buffered, Called, Phrase, Phrases, name, headed, none, and, phrase_of, count}
use Rattle.lucy_naming.specs.Faults.{Within as Scope, head_faults, phrase_faults, phrases_faults, def_faults}
use Rattle.lucy_naming.specs.Numbering.{Next, own_rooms, past, past_all, inside, number, numbers, entries, all_entries, own_entries}
use Rattle.lucy_naming.specs.Places.{Known, results_from, stream_place, left_entries}
use Rattle.lucy_naming.specs.Nodes.{past_def, past_defs, defined, rights}
use Rattle.lucy_place.specs.Proper.{arguments_of, at_one}
use Rattle.lucy_naming.proofs.Spread.{Call}
use Rattle.lucy_naming.proofs.CallLaws.{site, made, all_made, own_made, def_made, reaches_own, reaches_phrase}
use Rattle.lucy_naming.proofs.ShapeLaws.{Takes, HasShape, HaveShape, has_shape, count_numbers}
use Rattle.lucy_naming.proofs.DraftLaws.{inside_past}
use Rattle.lucy_naming.proofs.RoomLaws.{some_results}
use Rattle.lucy_naming.proofs.Good.{known_of, Lies}
use Rattle.lucy_naming.proofs.OwnPlaces.{unless_holds, site_at}
use Rattle.lucy_naming.proofs.ProperPhrases.{lies_front, lies_back}
use Rattle.lucy_naming.proofs.NodeParts.{found_within}
use Rattle.lucy_naming.proofs.ReadCounts.{Within, within_none, within_join, within_one, test, test_other, times, total, total_append}

-- behind a form's own places
abbrev pub first_past : Next → ℕ → Phrase → ℕ
first_past at r (name t) = at.place
first_past at r (headed h span fs) = (inside at r h).place

-- a form takes one place where one result is wanted
pub own_one : (h : Head) → own_rooms 1 h ≡ 1
own_one (Literal l) = refl
own_one (Applied op) = refl
own_one (Host t) = refl
own_one (Sampled flip p) = refl
own_one (Merged p) = refl
own_one (Followed l) = refl
own_one (Buffered most) = refl
own_one (Called t base) = refl

one_arg : (args : List ℕ) (q : ℕ) → length args ≡ 1 → times q (slice_index_or args 0 0 ∷ []) ≡ times q args
one_arg [] q h = absurd (omega arith)
one_arg (a ∷ []) q h = refl
one_arg (a ∷ b ∷ args) q h = absurd (omega arith)

two_args : (args : List ℕ) (q : ℕ) → length args ≡ 2 → times q (slice_index_or args 0 0 ∷ slice_index_or args 1 0 ∷ []) ≡ times q args
two_args [] q h = absurd (omega arith)
two_args (a ∷ []) q h = absurd (omega arith)
two_args (a ∷ b ∷ []) q h = refl
two_args (a ∷ b ∷ c ∷ args) q h = absurd (omega arith)

no_args : (args : List ℕ) (q : ℕ) → length args ≡ 0 → times q args ≡ 0
no_args [] q h = refl
no_args (a ∷ args) q h = absurd (omega arith)

module _ (w : Scope) (n : PlacedNode) (cs : List Call) (calls : n.calls ≡ map site cs) (q : ℕ) (fresh : length w.streams < q) where
  abbrev k : Known
  k = known_of w

  -- a stream is none of the numbers behind
  stream_other : (t : names.Name) → is_in w.streams t.text ≡ true → test q (stream_place k t.text) ≡ 0
  stream_other t known = let l = found_within (is_text t.text) w.streams known in test_other q (stream_place k t.text) (λ e. omega arith)

  -- the results of a call but the first read nothing
  later_none : (c first m : ℕ) → total n q (results_from c (suc first) m) ≡ 0
  later_none c first zero = refl
  later_none c first (suc m) =
      let e : suc first + 1 ≡ suc (first + 1) = omega arith in
      let f : total n q (results_from c (suc first + 1) m) ≡ 0 = ap (λ x. total n q (results_from c x m)) e ∙ later_none c (first + 1) m in
      omega arith

  own_count : (at : Next) (r : ℕ) (h : Head) (args : List ℕ) → 1 ≤ r → Takes h (length args) → head_faults w r (length args) h ≡ [] →
      Lies n cs at (own_entries k at r h args) (own_made k at r h args) → total n q (own_entries k at r h args) ≡ times q args
  own_count at r (Literal l) args some takes clean lies = sym (no_args args q takes)
  own_count at r (Applied op) args some takes clean lies = omega arith
  own_count at r (Host t) args some takes clean lies = omega (arith, two_args args q takes)
  own_count at r (Sampled flip p) args some takes clean lies = omega (arith, one_arg args q takes.0)
  own_count at r (Merged p) args some takes clean lies = omega (arith, two_args args q takes.0)
  own_count at r (Followed l) args some takes clean lies = omega (arith, one_arg args q takes)
  own_count at r (Buffered most) args some takes clean lies = omega (arith, one_arg args q takes.0)
  own_count at zero (Called t base) args some takes clean lies = absurd (omega arith)
  own_count at (suc r) (Called t base) args some takes clean lies =
      let x : Call = record { site = record { node = place_in (node_names w.above) t.text; at = base; first = at.place; args = args }; results = suc r } in
      let here : at_one n.calls at.call ≡ Some x.site = ap (λ l. at_one l at.call) calls ∙ site_at cs at.call x lies.calls.0 in
      let own : times q (arguments_of (at_one n.calls at.call)) ≡ times q args = ap (λ o. times q (arguments_of o)) here in
      let one : total n q (results_from at.call (0 + 1) r) ≡ 0 = (let e : 0 + 1 ≡ 1 = omega arith in ap (λ f. total n q (results_from at.call f r)) e) ∙ later_none at.call 0 r in
      omega arith

  -- an operand, with its first place
  operand_from : (at : Next) (f : Phrase) → phrase_faults w 1 f ≡ [] → Within (first_past at 1 f) (past at 1 f).place q (total n q (entries k at 1 f)) →
      Within at.place (past at 1 f).place q (test q (number k at f) + total n q (entries k at 1 f))
  operand_from at (name t) good rest = within_none at.place (at.place + 0) q _ (omega arith) (omega (arith, stream_other t (unless_holds _ _ good)))
  operand_from at (headed h span fs) good rest =
      let one = own_one h in
      within_join at.place (at.place + own_rooms 1 h) (past at 1 (headed h span fs)).place q (test q at.place) (total n q (entries k at 1 (headed h span fs))) _
      (omega arith) (omega arith) (within_one q at.place (at.place + own_rooms 1 h) (omega arith)) rest refl

  all_behind : (at : Next) (fs : Phrases) → at.place ≤ (past_all at fs).place
  all_behind at none = omega arith
  all_behind at (and f fs) = omega (arith, all_behind (past at 1 f) fs)

  mutual
    pub phrase_count : (at : Next) (r : ℕ) (f : Phrase) → 1 ≤ r → length w.streams < at.place → HasShape f → phrase_faults w r f ≡ [] →
        Lies n cs at (entries k at r f) (made k at r f) → Within (first_past at r f) (past at r f).place q (total n q (entries k at r f))
    phrase_count at r (name t) some low shape good lies = within_none at.place (at.place + 0) q 0 (omega arith) refl
    phrase_count at r (headed h span fs) some low shape good lies =
        let in_ : Next = inside at r h in
        let args : List ℕ = numbers k in_ fs in
        let same : count fs ≡ length args = count_numbers k in_ fs in
        let front = lies_front n cs at in_ (own_entries k at r h args) (all_entries k in_ fs) (own_made k at r h args) (all_made k in_ fs) (reaches_own k at r h args) lies in
        let back = lies_back n cs at in_ (own_entries k at r h args) (all_entries k in_ fs) (own_made k at r h args) (all_made k in_ fs) (reaches_own k at r h args) lies in
        let own = own_count at r h args some (subst (Takes h) same shape.0) (subst (λ m. head_faults w r m h ≡ []) same (front_empty (head_faults w r (count fs) h) (phrases_faults w fs) good)) front in
        let rest = all_count in_ fs (omega (arith, low)) shape.1 (back_empty (head_faults w r (count fs) h) (phrases_faults w fs) good) back in
        let sum = total_append n q (own_entries k at r h args) (all_entries k in_ fs) in
        let c : times q args + total n q (all_entries k in_ fs) ≡ total n q (entries k at r (headed h span fs)) = omega arith in
        subst (λ t. Within in_.place t q (total n q (entries k at r (headed h span fs)))) (ap (λ (x : Next). x.place) (inside_past at r h span fs)) (subst (Within in_.place (past_all in_ fs).place q) c rest)

    pub all_count : (at : Next) (fs : Phrases) → length w.streams < at.place → HaveShape fs → phrases_faults w fs ≡ [] →
        Lies n cs at (all_entries k at fs) (all_made k at fs) → Within at.place (past_all at fs).place q (times q (numbers k at fs) + total n q (all_entries k at fs))
    all_count at none low shape good lies = within_none at.place at.place q (0 + 0) refl (omega arith)
    all_count at (and f fs) low shape good lies =
        let next : Next = past at 1 f in
        let front = lies_front n cs at next (entries k at 1 f) (all_entries k next fs) (made k at 1 f) (all_made k next fs) (reaches_phrase k at 1 f) lies in
        let back = lies_back n cs at next (entries k at 1 f) (all_entries k next fs) (made k at 1 f) (all_made k next fs) (reaches_phrase k at 1 f) lies in
        let clean = front_empty (phrase_faults w 1 f) (phrases_faults w fs) good in
        let first = operand_from at f clean (phrase_count at 1 f (omega arith) low shape.0 clean front) in
        let rest = all_count next fs (omega (arith, low)) shape.1 (back_empty (phrase_faults w 1 f) (phrases_faults w fs) good) back in
        let sum = total_append n q (entries k at 1 f) (all_entries k next fs) in
        within_join at.place next.place (past_all next fs).place q (test q (number k at f) + total n q (entries k at 1 f)) (times q (numbers k next fs) + total n q (all_entries k next fs)) _
        (omega arith) (all_behind next fs) first rest (omega arith)

  -- the names on the left read the places of their right side in turn
  lefts_count : (right : ℕ) (left : List Decl) → Within right (right + length left) q (total n q (left_entries right left))
  lefts_count right [] = within_none right (right + 0) q 0 (omega arith) refl
  lefts_count right (d ∷ left) =
      within_join right (right + 1) (right + suc (length left)) q (test q right) (total n q (left_entries (right + 1) left)) _ (omega arith) (omega arith)
      (within_one q right (right + 1) refl)
      (let e : right + 1 + length left ≡ right + suc (length left) = omega arith in subst (λ t. Within (right + 1) t q (total n q (left_entries (right + 1) left))) e (lefts_count (right + 1) left)) (omega arith)

  -- a definition of several names has a call on its right
  abbrev Fits : List Decl → Phrase → Type 0
  Fits [] f = ⊥
  Fits (d ∷ []) f = Unit {0}
  Fits (d ∷ e ∷ left) (headed (Called t base) span fs) = Unit {0}
  Fits (d ∷ e ∷ left) f = ⊥

  lefts_rooms : (left : List Decl) (h : Head) (span : Span) (fs : Phrases) → Fits left (headed h span fs) → length left ≡ own_rooms (result_count left) h
  lefts_rooms [] h span fs fit = absurd fit
  lefts_rooms (d ∷ []) h span fs fit = sym (own_one h)
  lefts_rooms (d ∷ e ∷ left) (Called t base) span fs fit = refl
  lefts_rooms (d ∷ e ∷ left) h span fs fit = absurd fit

  def_count : (at : Next) (left : List Decl) (f : Phrase) → Fits left f → length w.streams < at.place → HasShape f → phrase_faults w (result_count left) f ≡ [] →
      Lies n cs at (entries k at (result_count left) f) (made k at (result_count left) f) →
      Within at.place (past at (result_count left) f).place q (total n q (left_entries (number k at f) left) + total n q (entries k at (result_count left) f))
  def_count at [] (name t) fit low shape good lies = absurd fit
  def_count at (d ∷ []) (name t) fit low shape good lies = within_none at.place (at.place + 0) q _ (omega arith) (omega (arith, stream_other t (unless_holds _ _ good)))
  def_count at (d ∷ e ∷ left) (name t) fit low shape good lies = absurd fit
  def_count at left (headed h span fs) fit low shape good lies =
      let rest = phrase_count at (result_count left) (headed h span fs) (some_results left) low shape good lies in
      let rooms_are = lefts_rooms left h span fs fit in
      let first : Within at.place (at.place + own_rooms (result_count left) h) q (total n q (left_entries at.place left)) =
      subst (λ m. Within at.place (at.place + m) q (total n q (left_entries at.place left))) rooms_are (lefts_count at.place left) in
      within_join at.place (at.place + own_rooms (result_count left) h) (past at (result_count left) (headed h span fs)).place q (total n q (left_entries at.place left)) (total n q (entries k at (result_count left) (headed h span fs))) _
      (omega arith) (omega arith) first rest refl

  fits_of : (left : List Decl) (t : Tree) → Defines left t → Fits left (phrase_of t)
  fits_of [] t d = d
  fits_of (a ∷ []) t d = tt
  fits_of (a ∷ b ∷ left) (literal l span) d = d
  fits_of (a ∷ b ∷ left) (variable x) d = d
  fits_of (a ∷ b ∷ left) (operator op args span) d = d
  fits_of (a ∷ b ∷ left) (host x args) d = d
  fits_of (a ∷ b ∷ left) (sampled flip e p) d = d
  fits_of (a ∷ b ∷ left) (merged p x y span) d = d
  fits_of (a ∷ b ∷ left) (followed l e span) d = d
  fits_of (a ∷ b ∷ left) (buffered most e span) d = d
  fits_of (a ∷ b ∷ left) (call x base args) d = tt

  defs_behind : (at : Next) (ds : List DefTree) → at.place ≤ (past_defs at ds).place
  defs_behind at [] = omega arith
  defs_behind at (d ∷ ds) = omega (arith, defs_behind (past_def at d) ds)

  pub defs_count : (at : Next) (ds : List DefTree) → length w.streams < at.place → AllByRecursion IsShapedDef ds → def_faults w ds ≡ [] → Lies n cs at (rights k at ds) (def_made k at ds) →
      Within at.place (past_defs at ds).place q (total n q (defined k at ds) + total n q (rights k at ds))
  defs_count at [] low shape good lies = within_none at.place at.place q (0 + 0) refl (omega arith)
  defs_count at (d ∷ ds) low shape good lies =
      let r : ℕ = result_count d.left in
      let f : Phrase = phrase_of d.right in
      let next : Next = past_def at d in
      let front = lies_front n cs at next (entries k at r f) (rights k next ds) (made k at r f) (def_made k next ds) (reaches_phrase k at r f) lies in
      let back = lies_back n cs at next (entries k at r f) (rights k next ds) (made k at r f) (def_made k next ds) (reaches_phrase k at r f) lies in
      let first = def_count at d.left f (fits_of d.left d.right shape.0.defines) low (has_shape d.right shape.0.right) (front_empty (phrase_faults w r f) (def_faults w ds) good) front in
      let rest = defs_count next ds (omega (arith, low)) shape.1 (back_empty (phrase_faults w r f) (def_faults w ds) good) back in
      let lefts : List PlaceEntry = left_entries (number k at f) d.left in
      let sum = total_append n q lefts (defined k next ds) in
      let more = total_append n q (entries k at r f) (rights k next ds) in
      within_join at.place next.place (past_defs next ds).place q (total n q lefts + total n q (entries k at r f)) (total n q (defined k next ds) + total n q (rights k next ds)) _
      (omega arith) (defs_behind next ds) first rest (omega arith)
