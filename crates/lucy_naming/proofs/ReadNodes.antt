-- Each place without a name is read once.
use Rattle.std.proofs.Common.{◌≡◌, ◌<◌, ℕ, zero, suc, List, [], ◌∷◌, ◌++◌, length, length-append, map, Some, None, refl, ap, sym, ◌∙◌, subst, inl, inr, arith, append_assoc}
use Rattle.std.specs.Prelude.{slice_get}
use Rattle.std.proofs.lemmas.Bool.{cases_lt}
use Rattle.std.proofs.lemmas.List.{length-map}
use Rattle.std.proofs.lemmas.Option.{same_Some, slice_get_within}
use Rattle.lucy_host.specs.Operators.{Operator}
use Rattle.lucy_tree.specs.declared.decl.Decl.{Decl}
use Rattle.lucy_tree.specs.View.{NodeTree, ProgramTree}
use Rattle.lucy_tree.specs.Shaped.{IsShapedNode}
use Rattle.lucy_place.specs.declared.entry.PlaceEntry.{PlaceEntry}
use Rattle.lucy_place.specs.declared.entry.PlaceKind.TheVariants as kind
use Rattle.lucy_place.specs.declared.placed.PlacedNode.{PlacedNode}
use Rattle.lucy_naming.specs.Streams.{streams, declared, def_names}
use Rattle.lucy_naming.specs.Views.{text_of}
use Rattle.lucy_naming.specs.Faults.{node_faults}
use Rattle.lucy_naming.specs.Nodes.{past_defs, first_next}
use Rattle.lucy_naming.specs.Places.{declared_entry}
use Rattle.lucy_place.specs.Proper.{reads_of, Reads, IsUnnamed, IsReadOnce}
use Rattle.lucy_naming.proofs.CallLaws.{def_sites_are, reaches_defs}
use Rattle.lucy_naming.proofs.RoomLaws.{length_defined}
use Rattle.lucy_naming.proofs.NodeParts.{w, k, n, cs, ps, ds, rs, texts, named_at, names_join, params_named, defined_named, rights_lie}
use Rattle.lucy_naming.proofs.NodeFaults.{defs_faultless}
use Rattle.lucy_naming.proofs.ReadCounts.{total, total_append, times_some, times_at, times_one, total_some, total_one, total_at}
use Rattle.lucy_naming.proofs.ReadPhrases.{defs_count}

-- parameters read nothing
params_none : (m : PlacedNode) (q : ℕ) (decls : List Decl) → total m q (map (declared_entry kind.Param) decls) ≡ 0
params_none m q [] = refl
params_none m q (d ∷ decls) = omega (arith, params_none m q decls)

-- what is read once in all is read by one place, as one operand
pub once_of : (m : PlacedNode) (q : ℕ) → total m q m.places ≡ 1 → ((p k : ℕ) → Reads m p k q → p < q) → IsReadOnce m q
once_of m q one before =
    let found = total_some m q m.places (omega arith) in
    let operand = times_some q (reads_of m found.1.kind) found.3 in
    let here : Reads m (suc found.0) operand.0 q = record { entry = found.1; stands = found.2; reads = operand.1 } in
    record {
      reader = suc found.0;
      operand = operand.0;
      before = before (suc found.0) operand.0 here;
      reads = here;
      only = λ p j reads. only p j reads;
    }
  where
    only : (p j : ℕ) → (reads : Reads m p j q) → (p ≡ suc (total_some m q m.places (omega arith)).0) × (j ≡ (times_some q (reads_of m (total_some m q m.places (omega arith)).1.kind) (total_some m q m.places (omega arith)).3).0)
    only zero j reads = absurd (let e = reads.stands in cc e)
    only (suc i) j reads =
        let found = total_some m q m.places (omega arith) in
        let operand = times_some q (reads_of m found.1.kind) found.3 in
        let some = times_at q (reads_of m reads.entry.kind) j reads.reads in
        let same : i ≡ found.0 = total_one m q m.places i found.0 reads.entry found.1 (omega arith) reads.stands found.2 some found.3 in
        let entry : reads.entry ≡ found.1 = same_Some reads.entry found.1 (sym reads.stands ∙ ap (slice_get m.places) same ∙ found.2) in
        let most = total_at m q m.places found.0 found.1 found.2 in
        let at : slice_get (reads_of m found.1.kind) j ≡ Some q = subst (λ (x : PlaceEntry). slice_get (reads_of m x.kind) j ≡ Some q) entry reads.reads in
        (ap suc same, times_one q (reads_of m found.1.kind) j operand.0 (omega arith) at operand.1)

module _ (ops : List Operator) (all above : ProgramTree) (t : NodeTree) (shape : IsShapedNode t) (clean : node_faults ops all above t ≡ []) where
  -- a place without a name stands behind the streams
  pub behind_streams : (q : ℕ) → IsUnnamed (n ops all above t) q → (length (texts ops all above t) < q) × (q < (past_defs (first_next t) t.defs).place)
  behind_streams zero un = absurd (let e = un.1 in cc e)
  behind_streams (suc i) un =
      let len = length-map (streams t) text_of in
      let reach = reaches_defs (k ops all above t) (first_next t) t.defs in
      let a = length-append (ps ops all above t) (ds ops all above t ++ rs ops all above t) in
      let b = length-append (ds ops all above t) (rs ops all above t) in
      let c = length-map t.params (declared_entry kind.Param) in
      let d = length_defined (k ops all above t) (first_next t) t.defs in
      let e = length-append (declared t.params) (def_names t.defs) in
      let f = length-map t.params (λ (x : Decl). x.name) in
      let g = length-append (ps ops all above t) (ds ops all above t) in
      let within = slice_get_within (n ops all above t).places i un.0 un.1 in
      let place = reach.place in
      elim (cases_lt i (length (streams t))) [
        | inl early ↦
            let found = named_at (ps ops all above t ++ ds ops all above t) (rs ops all above t) i (omega arith) (names_join (ps ops all above t) (ds ops all above t) (params_named t.params) (defined_named (k ops all above t) (first_next t) t.defs)) in
            let h : slice_get (n ops all above t).places i ≡ Some found.0 = ap (λ l. slice_get l i) (sym (append_assoc (ps ops all above t) (ds ops all above t) (rs ops all above t))) ∙ found.2 in
            let same : found.0 ≡ un.0 = same_Some found.0 un.0 (sym h ∙ un.1) in
            let none : Some found.1 ≡ None = sym found.3 ∙ ap (λ (x : PlaceEntry). x.name) same ∙ un.2 in
            absurd (cc none)
        | inr late ↦ (omega arith, omega arith)
      ]

  pub read_total : (q : ℕ) → IsUnnamed (n ops all above t) q → total (n ops all above t) q (n ops all above t).places ≡ 1
  read_total q un =
      let bounds = behind_streams q un in
      let low = bounds.0 in
      let high = bounds.1 in
      let len = length-map (streams t) text_of in
      let calls = sym (def_sites_are (k ops all above t) (first_next t) t.defs) in
      let count = defs_count (w ops all above t) (n ops all above t) (cs ops all above t) calls q (omega arith) (first_next t) t.defs (omega arith) shape (defs_faultless ops all above t clean) (rights_lie ops all above t) in
      let one = count.here (omega arith) high in
      let a = total_append (n ops all above t) q (ps ops all above t) (ds ops all above t ++ rs ops all above t) in
      let b = total_append (n ops all above t) q (ds ops all above t) (rs ops all above t) in
      let c = params_none (n ops all above t) q t.params in
      omega arith
