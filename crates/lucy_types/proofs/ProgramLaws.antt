-- A program has no more than one table of types, and no types where a node of it has a clash path.
use Rattle.std.proofs.Common.{ℕ, zero, suc, ◌≡◌, ◌≤◌, ◌<◌, List, [], length, take, refl, sym, ◌∙◌, subst, inl, inr, arith, add-one}
use Rattle.std.proofs.lemmas.Bool.{cases_lt}
use Rattle.std.proofs.lemmas.List.{take_all, take-take, take_more_same, length-take-le}
use Rattle.std.proofs.lemmas.Option.{slice_get_within, get_or_from_slice_get}
use Rattle.lucy_host.proofs.Elements.{get_there, get_take}
use Rattle.lucy_place.specs.declared.placed.PlacedNode.{PlacedNode}
use Rattle.lucy_types.specs.declared.ty.Ty.{Ty}
use Rattle.lucy_types.specs.Rules.{IsRule}
use Rattle.lucy_types.specs.Typing.{AreTypes}
use Rattle.lucy_types.specs.Clash.{IsClashPath}
use Rattle.lucy_types.specs.Programs.{IsTyped, IsClash}
use Rattle.lucy_types.proofs.ListLaws.{taken}
use Rattle.lucy_types.proofs.TypingLaws.{types_unique, clash_refutes}

-- the tables of the nodes above are the tables of those
pub typed_above : (nodes : List PlacedNode) (tables : List (List Ty)) (m : ℕ) → m ≤ length nodes → IsTyped nodes tables → IsTyped (take m nodes) (take m tables)
typed_above nodes tables m l t = record {
  all = let e : length tables ≡ length nodes = t.all in length-take-le m tables (omega arith) ∙ sym (length-take-le m nodes l);
  each = λ i n tys e f.
      let a = taken m nodes i n e in
      let b = taken m tables i tys f in
      let h : i < m = a.0 in
      subst (λ above. AreTypes (IsRule above (take i (take m tables)) n) (length n.places) tys) (sym (take-take i m nodes (omega arith)))
      (subst (λ known. AreTypes (IsRule (take i nodes) known n) (length n.places) tys) (sym (take-take i m tables (omega arith))) (t.each i n tys a.1 b.1));
}

same_front : (nodes : List PlacedNode) (xs ys : List (List Ty)) → IsTyped nodes xs → IsTyped nodes ys → (m : ℕ) → m ≤ length nodes → take m xs ≡ take m ys
same_front nodes xs ys x y zero l = refl
same_front nodes xs ys x y (suc m) l =
    let xl : length xs ≡ length nodes = x.all in
    let yl : length ys ≡ length nodes = y.all in
    let n = get_there nodes m (omega arith) in
    let u = get_there xs m (omega arith) in
    let v = get_there ys m (omega arith) in
    let before : take m xs ≡ take m ys = same_front nodes xs ys x y m (omega arith) in
    let t = x.each m n.0 u.0 n.1 u.1 in
    let s = subst (λ known. AreTypes (IsRule (take m nodes) known n.0) (length n.0.places) v.0) (sym before) (y.each m n.0 v.0 n.1 v.1) in
    let e : u.0 ≡ v.0 = types_unique (IsRule (take m nodes) (take m xs) n.0) (length n.0.places) u.0 v.0 t s in
    rw (← add-one) (take_more_same xs ys m [] (omega arith) (omega arith) before (get_or_from_slice_get xs m u.0 [] u.1 ∙ e ∙ sym (get_or_from_slice_get ys m v.0 [] v.1)))

-- tables of one program are equal
pub typed_unique : (nodes : List PlacedNode) (xs ys : List (List Ty)) → IsTyped nodes xs → IsTyped nodes ys → xs ≡ ys
typed_unique nodes xs ys x y =
    let xl : length xs ≡ length nodes = x.all in
    let yl : length ys ≡ length nodes = y.all in
    sym (take_all (length nodes) xs (omega arith)) ∙ same_front nodes xs ys x y (length nodes) (omega arith) ∙ take_all (length nodes) ys (omega arith)

-- a program with a clash path has no tables
pub clash_untyped : (nodes : List PlacedNode) (tables : List (List Ty)) (node : ℕ) (path : List ℕ) → IsClash nodes node path → IsTyped nodes tables → ⊥
clash_untyped nodes tables node path c t =
    let l : node < length nodes = slice_get_within nodes node c.n c.found in
    let tl : length tables ≡ length nodes = t.all in
    let u = get_there tables node (omega arith) in
    let e : take node tables ≡ c.known = typed_unique (take node nodes) (take node tables) c.known (typed_above nodes tables node (omega arith) t) c.above in
    let a = subst (λ known. AreTypes (IsRule (take node nodes) known c.n) (length c.n.places) u.0) e (t.each node c.n u.0 c.found u.1) in
    clash_refutes (IsRule (take node nodes) c.known c.n) path c.clashes a.typing a.meets

-- a clash above is a clash of the nodes above
clash_above : (nodes : List PlacedNode) (node m : ℕ) (path : List ℕ) → node < m → IsClash nodes node path → IsClash (take m nodes) node path
clash_above nodes node m path l c = record {
  n = c.n;
  found = get_take m nodes node l ∙ c.found;
  known = c.known;
  above = subst (λ ns. IsTyped ns c.known) (sym (take-take node m nodes (omega arith))) c.above;
  clashes = subst (λ ns. IsClashPath (IsRule ns c.known c.n) path) (sym (take-take node m nodes (omega arith))) c.clashes;
}

-- clashes are of one node
pub clash_unique : (nodes : List PlacedNode) (i j : ℕ) (path other : List ℕ) → IsClash nodes i path → IsClash nodes j other → i ≡ j
clash_unique nodes i j path other c d =
    elim (cases_lt i j) [
      | inl h ↦ absurd (clash_untyped (take j nodes) d.known i path (clash_above nodes i j path h c) d.above)
      | inr h ↦ elim (cases_lt j i) [
        | inl g ↦ absurd (clash_untyped (take i nodes) c.known j other (clash_above nodes j i other g d) c.above)
        | inr g ↦ omega arith
      ]
    ]
