-- How texts that are put one behind another are held.
use Rattle.std.proofs.Common.{ℕ, zero, suc, ◌+◌, ◌≡◌, List, [], ◌∷◌, ◌++◌, Some, length, take, map, refl, ap, sym, ◌∙◌, subst, append_assoc, append-nil, add-one, take_all, arith}
use Rattle.std.specs.Prelude.{slice_get}
use Rattle.lucy_picture.specs.Holding.{HoldsAll, Puts, Extends}

map_suc : {X A : Type 0} (f : X → A) (xs : List X) (i : ℕ) (x : X) → slice_get xs i ≡ Some x → map f (take (suc i) xs) ≡ map f (take i xs) ++ f x ∷ []
map_suc f [] i x at = cc
map_suc f (y ∷ xs) zero x at = let e : y ≡ x = cc in ap (λ z. f z ∷ []) e
map_suc f (y ∷ xs) (suc i) x at = ap (λ l. f y ∷ l) (map_suc f xs i x at)

-- of one element more
map_more : {X A : Type 0} (f : X → A) (xs : List X) (i : ℕ) (x : X) → slice_get xs i ≡ Some x → map f (take (i + 1) xs) ≡ map f (take i xs) ++ f x ∷ []
map_more f xs i x at = rw add-one (map_suc f xs i x at)

module _ {A : Type 0} (P : A → List ℕ → Type 0) where
  holds_behind : (xs : List A) (s t : List ℕ) → HoldsAll P xs t → HoldsAll P xs (s ++ t)
  holds_behind [] s t h = tt
  holds_behind (x ∷ xs) s t h = (s ++ h.0, h.1, h.2, ap (λ u. s ++ u) h.3 ∙ sym (append_assoc s h.0 (h.1 ++ h.2)), h.4, h.5)

  pub holds_both : (xs ys : List A) (s t : List ℕ) → HoldsAll P xs s → HoldsAll P ys t → HoldsAll P (xs ++ ys) (s ++ t)
  holds_both [] ys s t a b = holds_behind ys s t b
  holds_both (x ∷ xs) ys s t a b = (
    a.0,
    a.1,
    a.2 ++ t,
    ap (λ u. u ++ t) a.3 ∙ append_assoc a.0 (a.1 ++ a.2) t ∙ ap (λ u. a.0 ++ u) (append_assoc a.1 a.2 t),
    a.4,
    holds_both xs ys a.2 t a.5 b,
  )

  -- what is put before or behind is nothing of these
  pub puts_none : (a b : List ℕ) → Extends a b → Puts P [] a b
  puts_none a b e = record { more = e.more; puts = e.puts; holds = tt }

  pub puts_same : (a : List ℕ) → Puts P [] a a
  puts_same a = record { more = []; puts = sym (append-nil a); holds = tt }

  pub holds_before : (xs : List A) (s t : List ℕ) → HoldsAll P xs s → HoldsAll P xs (s ++ t)
  holds_before xs s t h = subst (λ l. HoldsAll P l (s ++ t)) (append-nil xs) (holds_both xs [] s t h tt)

  -- one of them, and nothing else
  pub puts_part : (x : A) (a b part : List ℕ) → b ≡ a ++ part → P x part → Puts P (x ∷ []) a b
  puts_part x a b part e is = record { more = part; puts = e; holds = ([], part, [], sym (append-nil part), is, tt) }

  -- one of them, with something before and behind
  pub puts_one : (x : A) (a b before part behind : List ℕ) → b ≡ a ++ (before ++ (part ++ behind)) → P x part → Puts P (x ∷ []) a b
  puts_one x a b before part behind e is = record { more = before ++ (part ++ behind); puts = e; holds = (before, part, behind, refl, is, tt) }

  pub puts_more : (xs ys : List A) (a b c : List ℕ) → Puts P xs a b → Puts P ys b c → Puts P (xs ++ ys) a c
  puts_more xs ys a b c m n = record {
    more = m.more ++ n.more;
    puts = n.puts ∙ ap (λ t. t ++ n.more) m.puts ∙ append_assoc a m.more n.more;
    holds = holds_both xs ys m.more n.more m.holds n.holds;
  }

  -- with something before
  pub puts_behind : (xs : List A) (a b c : List ℕ) → Extends a b → Puts P xs b c → Puts P xs a c
  puts_behind xs a b c e n = puts_more [] xs a b c (puts_none a b e) n

  -- and with something behind
  pub puts_before : (xs : List A) (a b c : List ℕ) → Puts P xs a b → Extends b c → Puts P xs a c
  puts_before xs a b c m e = subst (λ l. Puts P l a c) (append-nil xs) (puts_more xs [] a b c m (puts_none b c e))

  -- those of one element more
  pub puts_each : {X : Type 0} (f : X → A) (xs : List X) (i : ℕ) (x : X) (a b c : List ℕ) → slice_get xs i ≡ Some x → Puts P (map f (take i xs)) a b → Puts P (f x ∷ []) b c →
      Puts P (map f (take (i + 1) xs)) a c
  puts_each f xs i x a b c at m n = subst (λ l. Puts P l a c) (sym (map_more f xs i x at)) (puts_more (map f (take i xs)) (f x ∷ []) a b c m n)

  pub puts_all : {X : Type 0} (f : X → A) (xs : List X) (i : ℕ) (a b : List ℕ) → i ≡ length xs → Puts P (map f (take i xs)) a b → Puts P (map f xs) a b
  puts_all f xs i a b end m = subst (λ l. Puts P (map f l) a b) (take_all i xs (omega arith)) m
