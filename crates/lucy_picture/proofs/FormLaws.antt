-- What is known of the forms of a node: each stands at its place.
use Rattle.std.proofs.Common.{ℕ, zero, suc, ◌+◌, ◌-◌, ◌≡◌, ◌<◌, List, [], ◌∷◌, ◌++◌, Option, Some, None, length, map, refl, sym, ap, ◌∙◌, subst, arith, append-nil, append_assoc, length-append, false}
use Rattle.std.specs.Prelude.{slice_get, nat_le, if◌then◌else◌}
use Rattle.std.proofs.lemmas.Bool.{lt-leb}
use Rattle.std.proofs.lemmas.List.{length-map}
use Rattle.lucy_word.specs.Bits.{Bits}
use Rattle.lucy_host.specs.Operators.{Operator}
use Rattle.lucy_host.proofs.Elements.{get_right}
use Rattle.lucy_tree.specs.declared.span.Name.{Name}
use Rattle.lucy_tree.specs.declared.decl.Decl.{Decl}
use Rattle.lucy_tree.specs.Tree.{Tree, Trees, literal, variable, operator, host, sampled, merged, followed, buffered, call, no_more, more}
use Rattle.lucy_tree.specs.View.{DefTree, NodeTree, ProgramTree}
use Rattle.lucy_place.specs.declared.entry.PlaceEntry.{PlaceEntry}
use Rattle.lucy_place.specs.declared.entry.PlaceKind.TheVariants.{Param}
use Rattle.lucy_naming.specs.Phrases.{Applied, Host, Sampled, Merged, Followed, Buffered, Called, phrase_of, phrases_of}
use Rattle.lucy_naming.specs.Numbering.{Next, past, inside, entries, all_entries, number}
use Rattle.lucy_naming.specs.Places.{Known, results_from, declared_entry, known_in}
use Rattle.lucy_naming.specs.Nodes.{past_def, defined, rights, first_next, node_entries, placed_node}
use Rattle.lucy_place.specs.Standing.{at_one}
use Rattle.lucy_naming.specs.Streams.{streams, result_count, declared, def_names}
use Rattle.lucy_naming.proofs.RoomLaws.{length_defined}
use Rattle.lucy_picture.specs.Forms.{times, forms, all_forms, def_forms, form_at, IsOfForm}

-- each place is that of its form, one after the other
Matched : List PlaceEntry → List Tree → Type 0
Matched [] [] = Unit {0}
Matched (e ∷ es) (t ∷ ts) = IsOfForm t e.kind × Matched es ts
Matched es ts = ⊥

matched_append : (es fs : List PlaceEntry) (ts us : List Tree) → Matched es ts → Matched fs us → Matched (es ++ fs) (ts ++ us)
unfolding Matched
matched_append [] fs [] us h k = k
matched_append [] fs (t ∷ ts) us h k = absurd h
matched_append (e ∷ es) fs [] us h k = absurd h
matched_append (e ∷ es) fs (t ∷ ts) us h k = (h.0, matched_append es fs ts us h.1 k)

-- with no more behind them
matched_alone : (es : List PlaceEntry) (ts : List Tree) → Matched es ts → Matched (es ++ []) ts
matched_alone es ts h = subst (λ fs. Matched fs ts) (sym (append-nil es)) h

both_matched : (es fs : List PlaceEntry) (ts us : List Tree) → Matched es ts → Matched fs us → Matched (es ++ (fs ++ [])) (ts ++ us)
both_matched es fs ts us h k = matched_append es (fs ++ []) ts us h (matched_alone fs us k)

matched_results : (n : Name) (at : Option Bits) (args : Trees) (count number first : ℕ) → Matched (results_from number first count) (times count (call n at args))
unfolding Matched
matched_results n at args zero number first = tt
matched_results n at args (suc count) number first = (tt, matched_results n at args count number (first + 1))

mutual
  unfolding Matched

  entries_matched : (k : Known) (at : Next) (results : ℕ) (t : Tree) → Matched (entries k at results (phrase_of t)) (forms results t)
  entries_matched k at results (literal l span) = (refl, tt)
  entries_matched k at results (variable n) = tt
  entries_matched k at results (operator op args span) = (refl, all_matched k (inside at results (Applied op)) args)
  entries_matched k at results (host n args) = (tt, all_matched k (inside at results (Host n)) args)
  entries_matched k at results (sampled flip e w) =
      (refl, matched_alone (entries k (inside at results (Sampled flip w)) 1 (phrase_of e)) (forms 1 e) (entries_matched k (inside at results (Sampled flip w)) 1 e))
  entries_matched k at results (merged w a b span) = (
    refl,
    both_matched (entries k (inside at results (Merged w)) 1 (phrase_of a)) (entries k (past (inside at results (Merged w)) 1 (phrase_of a)) 1 (phrase_of b)) (forms 1 a) (forms 1 b)
        (entries_matched k (inside at results (Merged w)) 1 a) (entries_matched k (past (inside at results (Merged w)) 1 (phrase_of a)) 1 b),
  )
  entries_matched k at results (followed l e span) =
      (refl, matched_alone (entries k (inside at results (Followed l)) 1 (phrase_of e)) (forms 1 e) (entries_matched k (inside at results (Followed l)) 1 e))
  entries_matched k at results (buffered most e span) =
      (tt, matched_alone (entries k (inside at results (Buffered most)) 1 (phrase_of e)) (forms 1 e) (entries_matched k (inside at results (Buffered most)) 1 e))
  entries_matched k at results (call n base args) =
      let here = inside at results (Called n base) in
      matched_append (results_from at.call 0 results) (all_entries k here (phrases_of args)) (times results (call n base args)) (all_forms args) (matched_results n base args results at.call 0) (all_matched k here args)

  all_matched : (k : Known) (at : Next) (ts : Trees) → Matched (all_entries k at (phrases_of ts)) (all_forms ts)
  all_matched k at no_more = tt
  all_matched k at (more t ts) =
      matched_append (entries k at 1 (phrase_of t)) (all_entries k (past at 1 (phrase_of t)) (phrases_of ts)) (forms 1 t) (all_forms ts) (entries_matched k at 1 t) (all_matched k (past at 1 (phrase_of t)) ts)

rights_matched : (k : Known) (at : Next) (ds : List DefTree) → Matched (rights k at ds) (def_forms ds)
unfolding Matched
rights_matched k at [] = tt
rights_matched k at (d ∷ ds) =
    matched_append (entries k at (result_count d.left) (phrase_of d.right)) (rights k (past_def at d) ds) (forms (result_count d.left) d.right) (def_forms ds) (entries_matched k at (result_count d.left) d.right) (rights_matched k (past_def at d) ds)

-- the form of a place that is there
matched_at : (es : List PlaceEntry) (ts : List Tree) (i : ℕ) (e : PlaceEntry) → Matched es ts → slice_get es i ≡ Some e → (t : Tree) × (slice_get ts i ≡ Some t) × IsOfForm t e.kind
unfolding Matched
matched_at [] ts i e h at = absurd (cc at)
matched_at (x ∷ es) [] i e h at = absurd h
matched_at (x ∷ es) (t ∷ ts) zero e h at = let same : x ≡ e = cc at in (t, refl, subst (λ (y : PlaceEntry). IsOfForm t y.kind) same h.0)
matched_at (x ∷ es) (t ∷ ts) (suc i) e h at = matched_at es ts i e h.1 at

-- the form of a number behind the streams stands so many places further on
pub form_by : (n : NodeTree) (place skip : ℕ) (found : Option Tree) → skip + length (streams n) + 1 ≡ place → found ≡ slice_get (def_forms n.defs) skip → found ≡ form_at n place
form_by n place skip found e is =
    let past : nat_le place (length (streams n)) ≡ false = lt-leb place (length (streams n)) (omega arith) in
    let same : skip ≡ place - length (streams n) - 1 = omega arith in
    is ∙ ap (slice_get (def_forms n.defs)) same ∙ sym (ap (λ b. if b then None else slice_get (def_forms n.defs) (place - length (streams n) - 1)) past)

module _ (operators : List Operator) (above : ProgramTree) (n : NodeTree) where
  first : List PlaceEntry
  first = map (declared_entry Param) n.params ++ defined (known_in operators above n) (first_next n) n.defs

  streams_count : length first ≡ length (streams n)
  unfolding first
  streams_count =
      let k = known_in operators above n in
      let params = length-map n.params (declared_entry Param) in
      let names = length-map n.params (λ (x : Decl). x.name) in
      let of_defs = length_defined k (first_next n) n.defs in
      omega (arith, length-append (map (declared_entry Param) n.params) (defined k (first_next n) n.defs), length-append (declared n.params) (def_names n.defs))

  firsts : (i : ℕ) (entry : PlaceEntry) → slice_get (node_entries (known_in operators above n) n) i ≡ Some entry → slice_get (first ++ rights (known_in operators above n) (first_next n) n.defs) i ≡ Some entry
  unfolding first
  firsts i entry at =
      let k = known_in operators above n in
      ap (λ l. slice_get l i) (append_assoc (map (declared_entry Param) n.params) (defined k (first_next n) n.defs) (rights k (first_next n) n.defs)) ∙ at

  pub form_there : (place : ℕ) (entry : PlaceEntry) → at_one (placed_node operators above n).places place ≡ Some entry → length (streams n) < place → (t : Tree) × (form_at n place ≡ Some t) × IsOfForm t entry.kind
  form_there zero entry at behind = absurd (omega (arith, behind))
  form_there (suc i) entry at behind =
      let k = known_in operators above n in
      let params = map (declared_entry Param) n.params in
      let names = defined k (first_next n) n.defs in
      let others = rights k (first_next n) n.defs in
      let count = streams_count in
      let j : ℕ = i - length first in
      let z : i ≡ length first + j = omega arith in
      let whole : slice_get (first ++ others) i ≡ Some entry = firsts i entry at in
      let here : slice_get others j ≡ Some entry = sym (get_right first others j) ∙ ap (slice_get (first ++ others)) (sym z) ∙ whole in
      let found = matched_at others (def_forms n.defs) j entry (rights_matched k (first_next n) n.defs) here in
      (found.0, sym (form_by n (suc i) j (Some found.0) (omega arith) (sym found.1)), found.2)
