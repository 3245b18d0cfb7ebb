-- No two places of a node without faults have one name.
use Rattle.std.proofs.Common.{◌≡◌, ◌+◌, ℕ, zero, suc, true, false, List, [], ◌∷◌, ◌++◌, map, Option, Some, None, slice_get, refl, ap, sym, ◌∙◌, append_assoc}
use Rattle.std.specs.List.{AllByRecursion}
use Rattle.std.proofs.lemmas.Cmp.{nat_list_eq_equiv}
use Rattle.std.proofs.lemmas.List.{map-append}
use Rattle.std.proofs.lemmas.List.Folds.{list_any-append}
use Rattle.std.proofs.lemmas.Option.{slice_get-map}
use Rattle.std.specs.Prelude.{option_map}
use Rattle.std.proofs.lemmas.Bool.{or_parts}
use Rattle.lucy_word.proofs.Lists.{front_empty, back_empty}
use Rattle.lucy_host.specs.Operators.{Operator}
use Rattle.lucy_tree.specs.declared.span.Name.{Name}
use Rattle.lucy_tree.specs.declared.decl.Decl.{Decl}
use Rattle.lucy_tree.specs.View.{DefTree, NodeTree, ProgramTree}
use Rattle.lucy_place.specs.declared.entry.PlaceEntry.{PlaceEntry}
use Rattle.lucy_place.specs.declared.entry.PlaceKind.TheVariants as kind
use Rattle.lucy_naming.specs.Texts.{is_text, is_in}
use Rattle.lucy_naming.specs.Streams.{streams, declared, def_names, result_count}
use Rattle.lucy_naming.specs.Phrases.{Head, Literal, Applied, Host, Sampled, Merged, Followed, Buffered, Called, Phrase, Phrases, name, headed, none, and, phrase_of}
use Rattle.lucy_naming.specs.Faults.{repeat, repeats, node_faults}
use Rattle.lucy_naming.specs.Numbering.{Next, past, inside, number, numbers, entries, all_entries, own_entries}
use Rattle.lucy_naming.specs.Places.{Known, results_from, declared_entry, left_entries}
use Rattle.lucy_naming.specs.Nodes.{past_def, defined, rights, first_next}
use Rattle.lucy_place.specs.Proper.{AreDistinct}
use Rattle.lucy_naming.proofs.VerdictLaws.{is_new}
use Rattle.lucy_naming.proofs.NodeFaults.{streams_faultless}
use Rattle.lucy_naming.proofs.NodeParts.{k, n, ps, ds, rs}

-- the names of places
abbrev names_of : List PlaceEntry → List (Option Name)
names_of es = map (λ e. e.name) es

params_are : (decls : List Decl) → names_of (map (declared_entry kind.Param) decls) ≡ map Some (declared decls)
params_are [] = refl
params_are (d ∷ decls) = ap (λ l. Some d.name ∷ l) (params_are decls)

lefts_are : (right : ℕ) (decls : List Decl) → names_of (left_entries right decls) ≡ map Some (declared decls)
lefts_are right [] = refl
lefts_are right (d ∷ decls) = ap (λ l. Some d.name ∷ l) (lefts_are (right + 1) decls)

defined_are : (k : Known) (at : Next) (defs : List DefTree) → names_of (defined k at defs) ≡ map Some (def_names defs)
defined_are k at [] = refl
defined_are k at (d ∷ defs) =
    let left : List PlaceEntry = left_entries (number k at (phrase_of d.right)) d.left in
    map-append (λ (e : PlaceEntry). e.name) left (defined k (past_def at d) defs)
    ∙ ap (λ l. l ++ names_of (defined k (past_def at d) defs)) (lefts_are (number k at (phrase_of d.right)) d.left)
    ∙ ap (λ l. map Some (declared d.left) ++ l) (defined_are k (past_def at d) defs) ∙ sym (map-append Some (declared d.left) (def_names defs))

-- right sides have none
abbrev AreNameless : List PlaceEntry → Type 0
AreNameless es = AllByRecursion (λ e. e.name ≡ None) es

nameless_join : (es fs : List PlaceEntry) → AreNameless es → AreNameless fs → AreNameless (es ++ fs)
nameless_join [] fs a b = b
nameless_join (e ∷ es) fs a b = (a.0, nameless_join es fs a.1 b)

results_nameless : (call first m : ℕ) → AreNameless (results_from call first m)
results_nameless call first zero = tt
results_nameless call first (suc m) = (refl, results_nameless call (first + 1) m)

own_nameless : (k : Known) (at : Next) (r : ℕ) (h : Head) (args : List ℕ) → AreNameless (own_entries k at r h args)
own_nameless k at r (Literal l) args = (refl, tt)
own_nameless k at r (Applied o) args = (refl, tt)
own_nameless k at r (Host t) args = (refl, tt)
own_nameless k at r (Sampled flip w) args = (refl, tt)
own_nameless k at r (Merged w) args = (refl, tt)
own_nameless k at r (Followed l) args = (refl, tt)
own_nameless k at r (Buffered most) args = (refl, tt)
own_nameless k at r (Called t base) args = results_nameless at.call 0 r

mutual
  phrase_nameless : (k : Known) (at : Next) (r : ℕ) (f : Phrase) → AreNameless (entries k at r f)
  phrase_nameless k at r (name t) = tt
  phrase_nameless k at r (headed h span fs) =
      let in_ : Next = inside at r h in
      nameless_join (own_entries k at r h (numbers k in_ fs)) (all_entries k in_ fs) (own_nameless k at r h (numbers k in_ fs)) (all_nameless k in_ fs)

  all_nameless : (k : Known) (at : Next) (fs : Phrases) → AreNameless (all_entries k at fs)
  all_nameless k at none = tt
  all_nameless k at (and f fs) = nameless_join (entries k at 1 f) (all_entries k (past at 1 f) fs) (phrase_nameless k at 1 f) (all_nameless k (past at 1 f) fs)

rights_nameless : (k : Known) (at : Next) (defs : List DefTree) → AreNameless (rights k at defs)
rights_nameless k at [] = tt
rights_nameless k at (d ∷ defs) =
    nameless_join (entries k at (result_count d.left) (phrase_of d.right)) (rights k (past_def at d) defs)
    (phrase_nameless k at (result_count d.left) (phrase_of d.right)) (rights_nameless k (past_def at d) defs)

no_name : (es : List PlaceEntry) (i : ℕ) (a : Name) → AreNameless es → slice_get (names_of es) i ≡ Some (Some a) → ⊥
no_name [] i a nameless h = cc
no_name (e ∷ es) zero a nameless h = let bare : Some e.name ≡ Some None = ap (λ x. Some x) nameless.0 in cc
no_name (e ∷ es) (suc i) a nameless h = no_name es i a nameless.1 h

-- a name among all is the stream's of its number
stream_at : (ns : List Name) (es : List PlaceEntry) (i : ℕ) (a : Name) → AreNameless es → slice_get (map Some ns ++ names_of es) i ≡ Some (Some a) → slice_get ns i ≡ Some a
stream_at [] es i a nameless h = absurd (no_name es i a nameless h)
stream_at (t ∷ ns) es zero a nameless h = cc
stream_at (t ∷ ns) es (suc i) a nameless h = stream_at ns es i a nameless h

-- what is not among some names and one more is among neither
pub behind_one : (before : List (List ℕ)) (text own : List ℕ) → is_in (before ++ own ∷ []) text ≡ false → (is_in before text ≡ false) × (is_text text own ≡ false)
behind_one before text own h =
    let both = or_parts (is_in before text) (is_in (own ∷ []) text) (sym (list_any-append (is_text text) before (own ∷ [])) ∙ h) in
    (both.0, (or_parts (is_text text own) false both.1).0)

not_before : (before : List (List ℕ)) (ns : List Name) (j : ℕ) (b : Name) → repeats before ns ≡ [] → slice_get ns j ≡ Some b → is_in before b.text ≡ false
not_before before [] j b new h = cc
not_before before (t ∷ ns) zero b new h =
    let same : t ≡ b = cc in
    ap (λ (x : Name). is_in before x.text) (sym same) ∙ is_new _ _ (front_empty (repeat before t) (repeats (before ++ t.text ∷ []) ns) new)
not_before before (t ∷ ns) (suc j) b new h =
    (behind_one before b.text t.text (not_before (before ++ t.text ∷ []) ns j b (back_empty (repeat before t) (repeats (before ++ t.text ∷ []) ns) new) h)).0

-- a name is not that of a later one
apart : (before : List (List ℕ)) (ns : List Name) (t : Name) (j : ℕ) (b : Name) → repeats before (t ∷ ns) ≡ [] → slice_get ns j ≡ Some b → t.text ≡ b.text → ⊥
apart before ns t j b new h same =
    let other = (behind_one before b.text t.text (not_before (before ++ t.text ∷ []) ns j b (back_empty (repeat before t) (repeats (before ++ t.text ∷ []) ns) new) h)).1 in
    let own : is_text b.text t.text ≡ true = ap (is_text b.text) same ∙ nat_list_eq_equiv.refl b.text in
    cc

one_stream : (before : List (List ℕ)) (ns : List Name) (i j : ℕ) (a b : Name) → repeats before ns ≡ [] → slice_get ns i ≡ Some a → slice_get ns j ≡ Some b → a.text ≡ b.text → i ≡ j
one_stream before [] i j a b new g h same = cc
one_stream before (t ∷ ns) zero zero a b new g h same = refl
one_stream before (t ∷ ns) zero (suc j) a b new g h same = let e : t ≡ a = cc in absurd (apart before ns t j b new h (ap (λ (x : Name). x.text) e ∙ same))
one_stream before (t ∷ ns) (suc i) zero a b new g h same = let e : t ≡ b = cc in absurd (apart before ns t i a new g (ap (λ (x : Name). x.text) e ∙ sym same))
one_stream before (t ∷ ns) (suc i) (suc j) a b new g h same =
    ap suc (one_stream (before ++ t.text ∷ []) ns i j a b (back_empty (repeat before t) (repeats (before ++ t.text ∷ []) ns) new) g h same)

module _ (ops : List Operator) (all above : ProgramTree) (t : NodeTree) (clean : node_faults ops all above t ≡ []) where
  names_are : names_of (n ops all above t).places ≡ map Some (streams t) ++ names_of (rs ops all above t)
  names_are =
      let p : List PlaceEntry = ps ops all above t in
      let d : List PlaceEntry = ds ops all above t in
      let r : List PlaceEntry = rs ops all above t in
      map-append (λ (e : PlaceEntry). e.name) p (d ++ r) ∙ ap (λ l. names_of p ++ l) (map-append (λ (e : PlaceEntry). e.name) d r)
      ∙ sym (append_assoc (names_of p) (names_of d) (names_of r))
      ∙ ap (λ l. l ++ names_of r) (ap (λ l. l ++ names_of d) (params_are t.params) ∙ ap (λ l. map Some (declared t.params) ++ l) (defined_are (k ops all above t) (first_next t) t.defs)
      ∙ sym (map-append Some (declared t.params) (def_names t.defs)))

  named_stream : (i : ℕ) (e : PlaceEntry) (a : Name) → slice_get (n ops all above t).places i ≡ Some e → e.name ≡ Some a → slice_get (streams t) i ≡ Some a
  named_stream i e a g h =
      stream_at (streams t) (rs ops all above t) i a (rights_nameless (k ops all above t) (first_next t) t.defs)
      (ap (λ l. slice_get l i) (sym names_are) ∙ slice_get-map (λ (x : PlaceEntry). x.name) (n ops all above t).places i ∙ ap (option_map (λ (x : PlaceEntry). x.name)) g ∙ ap (λ x. Some x) h)

  pub distinct : AreDistinct (n ops all above t)
  distinct zero q e f a b g h na nb same = absurd (cc g)
  distinct (suc i) zero e f a b g h na nb same = absurd (cc h)
  distinct (suc i) (suc j) e f a b g h na nb same =
      ap suc (one_stream [] (streams t) i j a b (streams_faultless ops all above t clean) (named_stream i e a g na) (named_stream j f b h nb) same)
