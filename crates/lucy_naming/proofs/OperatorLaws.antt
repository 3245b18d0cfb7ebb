-- The numbers of the host's operators in a program without faults are below their count.
use Rattle.std.proofs.Common.{◌≡◌, ◌+◌, ◌<◌, ℕ, zero, suc, true, List, take, [], ◌∷◌, ◌++◌, length, map, Option, Some, None, slice_get, refl, subst, arith}
use Rattle.std.specs.Prelude.{is_some}
use Rattle.std.specs.Str.{bytes_eq}
use Rattle.std.specs.Option.{unwrap_or}
use Rattle.std.specs.List.{AllByRecursion}
use Rattle.std.proofs.lemmas.List.{length-map}
use Rattle.std.proofs.lemmas.List.Quantifiers.{position-Some}
use Rattle.lucy_word.proofs.Lists.{front_empty, back_empty}
use Rattle.lucy_host.specs.Operators.{Operator, names_of, operator_number}
use Rattle.lucy_tree.specs.declared.decl.Decl.{Decl}
use Rattle.lucy_tree.specs.View.{DefTree, NodeTree, ProgramTree}
use Rattle.lucy_place.specs.declared.entry.PlaceEntry.{PlaceEntry}
use Rattle.lucy_place.specs.declared.entry.PlaceKind.{PlaceKind}
use Rattle.lucy_place.specs.declared.entry.PlaceKind.TheVariants as kind
use Rattle.lucy_naming.specs.Streams.{result_count}
use Rattle.lucy_naming.specs.Phrases.{Head, Literal, Applied, Host, Sampled, Merged, Followed, Buffered, Called, Phrase, Phrases, name, headed, none, and, phrase_of, count}
use Rattle.lucy_naming.specs.Faults.{Within, head_faults, phrase_faults, phrases_faults, def_faults, node_faults, faults}
use Rattle.lucy_naming.specs.Numbering.{Next, past, inside, number, numbers, entries, all_entries, own_entries}
use Rattle.lucy_naming.specs.Places.{Known, results_from, declared_entry, left_entries}
use Rattle.lucy_naming.specs.Nodes.{past_def, defined, rights, first_next, placed_nodes}
use Rattle.lucy_place.specs.Proper.{Stands, HaveOperators}
use Rattle.lucy_naming.proofs.Good.{known_of}
use Rattle.lucy_naming.proofs.OwnPlaces.{unless_holds}
use Rattle.lucy_naming.proofs.NodeFaults.{defs_faultless}
use Rattle.lucy_naming.proofs.NodeParts.{w, k, n, ps, ds, rs}
use Rattle.lucy_naming.proofs.ProperPrograms.{tree_at, node_good}

-- the number of an operator that is there is below the count
number_below : (ops : List Operator) (text : List ℕ) → is_some (operator_number ops text) ≡ true → unwrap_or (operator_number ops text) 0 < length ops
number_below ops text some = found (operator_number ops text) refl some
  where
    found : (o : Option ℕ) → operator_number ops text ≡ o → is_some o ≡ true → unwrap_or o 0 < length ops
    found None e h = cc
    found (Some i) e h =
        let within = (position-Some (bytes_eq text) (names_of ops) i [] e).0 in
        let len = length-map ops (λ (o : Operator). o.name) in
        omega arith

-- what stands at a place is no operator of the host, or one below the count
abbrev IsBelow : ℕ → PlaceKind → Type 0
IsBelow most (kind.Host op a b) = op < most
IsBelow most other = Unit {0}

abbrev AreBelow : ℕ → List PlaceEntry → Type 0
AreBelow most es = AllByRecursion (λ e. IsBelow most e.kind) es

below_join : (most : ℕ) (es fs : List PlaceEntry) → AreBelow most es → AreBelow most fs → AreBelow most (es ++ fs)
below_join most [] fs a b = b
below_join most (e ∷ es) fs a b = (a.0, below_join most es fs a.1 b)

below_at : (most : ℕ) (es : List PlaceEntry) (i : ℕ) (e : PlaceEntry) → AreBelow most es → slice_get es i ≡ Some e → IsBelow most e.kind
below_at most [] i e all h = cc
below_at most (x ∷ es) zero e all h = let same : x ≡ e = cc in subst (λ (y : PlaceEntry). IsBelow most y.kind) same all.0
below_at most (x ∷ es) (suc i) e all h = below_at most es i e all.1 h

params_below : (most : ℕ) (decls : List Decl) → AreBelow most (map (declared_entry kind.Param) decls)
params_below most [] = tt
params_below most (d ∷ decls) = (tt, params_below most decls)

lefts_below : (most right : ℕ) (decls : List Decl) → AreBelow most (left_entries right decls)
lefts_below most right [] = tt
lefts_below most right (d ∷ decls) = (tt, lefts_below most (right + 1) decls)

defined_below : (most : ℕ) (known : Known) (at : Next) (defs : List DefTree) → AreBelow most (defined known at defs)
defined_below most known at [] = tt
defined_below most known at (d ∷ defs) =
    below_join most (left_entries (number known at (phrase_of d.right)) d.left) (defined known (past_def at d) defs)
    (lefts_below most (number known at (phrase_of d.right)) d.left) (defined_below most known (past_def at d) defs)

results_below : (most call first m : ℕ) → AreBelow most (results_from call first m)
results_below most call first zero = tt
results_below most call first (suc m) = (tt, results_below most call (first + 1) m)

module _ (sc : Within) where
  abbrev kn : Known
  kn = known_of sc

  abbrev most : ℕ
  most = length sc.operators

  own_below : (at : Next) (r : ℕ) (h : Head) (args : List ℕ) (m : ℕ) → head_faults sc r m h ≡ [] → AreBelow most (own_entries kn at r h args)
  own_below at r (Literal l) args m clean = (tt, tt)
  own_below at r (Applied op) args m clean = (tt, tt)
  own_below at r (Host t) args m clean = (number_below sc.operators t.text (unless_holds _ _ clean), tt)
  own_below at r (Sampled flip p) args m clean = (tt, tt)
  own_below at r (Merged p) args m clean = (tt, tt)
  own_below at r (Followed l) args m clean = (tt, tt)
  own_below at r (Buffered _) args m clean = (tt, tt)
  own_below at r (Called t base) args m clean = results_below most at.call 0 r

  mutual
    phrase_below : (at : Next) (r : ℕ) (f : Phrase) → phrase_faults sc r f ≡ [] → AreBelow most (entries kn at r f)
    phrase_below at r (name t) clean = tt
    phrase_below at r (headed h span fs) clean =
        let in_ : Next = inside at r h in
        below_join most (own_entries kn at r h (numbers kn in_ fs)) (all_entries kn in_ fs)
        (own_below at r h (numbers kn in_ fs) (count fs) (front_empty (head_faults sc r (count fs) h) (phrases_faults sc fs) clean))
        (all_below in_ fs (back_empty (head_faults sc r (count fs) h) (phrases_faults sc fs) clean))

    all_below : (at : Next) (fs : Phrases) → phrases_faults sc fs ≡ [] → AreBelow most (all_entries kn at fs)
    all_below at none clean = tt
    all_below at (and f fs) clean =
        below_join most (entries kn at 1 f) (all_entries kn (past at 1 f) fs)
        (phrase_below at 1 f (front_empty (phrase_faults sc 1 f) (phrases_faults sc fs) clean)) (all_below (past at 1 f) fs (back_empty (phrase_faults sc 1 f) (phrases_faults sc fs) clean))

  rights_below : (at : Next) (defs : List DefTree) → def_faults sc defs ≡ [] → AreBelow most (rights kn at defs)
  rights_below at [] clean = tt
  rights_below at (d ∷ defs) clean =
      let r : ℕ = result_count d.left in
      let f : Phrase = phrase_of d.right in
      below_join most (entries kn at r f) (rights kn (past_def at d) defs)
      (phrase_below at r f (front_empty (phrase_faults sc r f) (def_faults sc defs) clean)) (rights_below (past_def at d) defs (back_empty (phrase_faults sc r f) (def_faults sc defs) clean))

module _ (ops : List Operator) (all above : ProgramTree) (t : NodeTree) (clean : node_faults ops all above t ≡ []) where
  places_below : AreBelow (length ops) (n ops all above t).places
  places_below =
      let p : List PlaceEntry = ps ops all above t in
      let d : List PlaceEntry = ds ops all above t in
      let r : List PlaceEntry = rs ops all above t in
      below_join (length ops) p (d ++ r) (params_below (length ops) t.params)
      (below_join (length ops) d r (defined_below (length ops) (k ops all above t) (first_next t) t.defs)
      (rights_below (w ops all above t) (first_next t) t.defs (defs_faultless ops all above t clean)))

  pub node_below : (p op a b : ℕ) → Stands (n ops all above t) p (kind.Host op a b) → op < length ops
  node_below zero op a b stands = absurd (let e = stands.1 in cc e)
  node_below (suc i) op a b stands = subst (IsBelow (length ops)) stands.2 (below_at (length ops) (n ops all above t).places i stands.0 places_below stands.1)

pub operators_below : (ops : List Operator) (p : ProgramTree) → faults ops p ≡ [] → HaveOperators (length ops) (placed_nodes ops p)
operators_below ops p clean i m q op a b h stands =
    let found = tree_at ops [] p i m h in
    node_below ops p (take i p) found.0 (node_good ops p [] p i found.0 clean found.1) q op a b (subst (λ x. Stands x q (kind.Host op a b)) found.2 stands)
