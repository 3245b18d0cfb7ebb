-- Laws of lists of numbers as they are kept.
use Rattle.std.proofs.Common.{◌≡◌, ◌<◌, ℕ, ℤ, List, [], ◌++◌, length, set, get_or, ap, ◌∙◌, sym, arith}
use Rattle.std.specs.declared.alloc.Global.{Global}
use Rattle.std.specs.declared.vec.Vec.{Vec}
use Rattle.std.proofs.lemmas.List.{length-map, map-set, get_or-map}
use Rattle.std.proofs.Math.Seq.{map-set_same}
use Rattle.lucy_host.specs.Lists.{lists_of}

module _ (kept : List (Vec ℤ Global)) (lists : List (List ℤ)) (i : ℕ) (new old : Vec ℤ Global) (view : lists_of kept ≡ lists) (is : old ≡ get_or kept i old) where
  items : Vec ℤ Global → List ℤ
  items v = v.items

  -- a list that is put back as it was changes nothing
  pub put_back : new.items ≡ old.items → lists_of (set kept i new) ≡ lists
  unfolding items
  put_back e = map-set_same items kept i new old (e ∙ ap items is) ∙ view

  -- a list that has grown
  pub grown : (more : List ℤ) → i < length lists → new.items ≡ old.items ++ more → lists_of (set kept i new) ≡ set lists i (get_or lists i [] ++ more)
  unfolding items
  grown more l e =
      let n : length (lists_of kept) ≡ length lists = ap (λ k. length k) view in
      let m : length (lists_of kept) ≡ length kept = simp length-map in
      let was : get_or lists i [] ≡ old.items = ap (λ k. get_or k i []) (sym view) ∙ get_or-map items kept i old [] (omega (arith, l, n, m)) ∙ ap items (sym is) in
      map-set items kept i new ∙ ap (λ k. set k i new.items) view ∙ ap (λ n. set lists i n) (e ∙ ap (λ n. n ++ more) (sym was))
