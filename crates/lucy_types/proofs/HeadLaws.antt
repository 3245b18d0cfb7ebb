-- The first port of each open class.
use Rattle.std.proofs.Common.{◌≡◌, ◌+◌, ◌<◌, ◌≤◌, ◌++◌, ◌∷◌, [], ℕ, List, length, Some, arith, ap, sym, ◌∙◌, subst, set, inl, inr, length-set, get_or-set_same, get_or-set_other}
use Rattle.std.specs.Prelude.{slice_get, slice_index}
use Rattle.std.proofs.lemmas.Bool.{cases_lt, cases_eq}
use Rattle.std.proofs.lemmas.List.{length_push, get_or_push, get_or_append_left}
use Rattle.std.proofs.lemmas.Option.{same_Some, slice_get_within}
use Rattle.lucy_types.specs.declared.ty.Ty.{Ty}
use Rattle.lucy_types.specs.declared.ty.Ty.TheVariants as ty
use Rattle.lucy_types.specs.Ports.{HaveClasses, IsSeated, HasSeat, AreHeads}

-- for so many first ports their heads, and for each class that was met its head with one added
pub record HaveSeats (most : ℕ) (ports : List Ty) (i : ℕ) (seats heads : List ℕ) : Type 0 where
  pub all : length seats ≡ most + 1
  pub heads_all : length heads ≡ i
  pub inside : (j : ℕ) → j < i → slice_index heads j ≤ j
  pub seated : (j k : ℕ) → j < i → slice_get ports j ≡ Some (ty.Open k) → slice_index seats k ≡ slice_index heads j + 1
  pub met : (k s : ℕ) → slice_index seats k ≡ s + 1 → (s < i) × (slice_get ports s ≡ Some (ty.Open k))

old_head : (heads : List ℕ) (h i j : ℕ) → length heads ≡ i → j < i → slice_index (heads ++ h ∷ []) j ≡ slice_index heads j
old_head heads h i j e l = get_or_append_left heads (h ∷ []) 0 j (omega arith)

new_head : (heads : List ℕ) (h i : ℕ) → length heads ≡ i → slice_index (heads ++ h ∷ []) i ≡ h
new_head heads h i e = get_or_push heads h 0 i e

-- one port more, that does not change the seats
seats_kept : (most : ℕ) (ports : List Ty) (i : ℕ) (seats heads : List ℕ) (h : ℕ) → HaveSeats most ports i seats heads → h ≤ i
    → ((k : ℕ) → slice_get ports i ≡ Some (ty.Open k) → slice_index seats k ≡ h + 1) → HaveSeats most ports (i + 1) seats (heads ++ h ∷ [])
seats_kept most ports i seats heads h u l s = record {
  all = u.all;
  heads_all = length_push heads h ∙ ap (λ n. n + 1) u.heads_all;
  inside = λ j b. elim (cases_lt j i) [
    | inl c ↦ let e = old_head heads h i j u.heads_all c in let d : slice_index heads j ≤ j = u.inside j c in omega arith
    | inr c ↦ let d : j ≡ i = omega arith in let e : slice_index (heads ++ h ∷ []) j ≡ h = ap (slice_index (heads ++ h ∷ [])) d ∙ new_head heads h i u.heads_all in omega arith
  ];
  seated = λ j k b f. elim (cases_lt j i) [
    | inl c ↦ u.seated j k c f ∙ ap (λ n. n + 1) (sym (old_head heads h i j u.heads_all c))
    | inr c ↦
        let d : j ≡ i = omega arith in
        s k (ap (slice_get ports) (sym d) ∙ f) ∙ ap (λ n. n + 1) (sym (ap (slice_index (heads ++ h ∷ [])) d ∙ new_head heads h i u.heads_all))
  ];
  met = λ k n f. let d = u.met k n f in let b : n < i = d.0 in (omega arith, d.1);
}

-- equal open types have one number
pub same_open : (k l : ℕ) → ty.Open k ≡ ty.Open l → k ≡ l
same_open k l e = cc

-- one port more, the first of its class
seats_first : (most : ℕ) (ports : List Ty) (i : ℕ) (seats heads : List ℕ) (k : ℕ) → HaveSeats most ports i seats heads → k < length seats
    → slice_get ports i ≡ Some (ty.Open k) → slice_index seats k ≡ 0 → HaveSeats most ports (i + 1) (set seats k (i + 1)) (heads ++ i ∷ [])
seats_first most ports i seats heads k u l e z = record {
  all = length-set seats k (i + 1) ∙ u.all;
  heads_all = length_push heads i ∙ ap (λ n. n + 1) u.heads_all;
  inside = λ j b. elim (cases_lt j i) [
    | inl c ↦ let f = old_head heads i i j u.heads_all c in let d : slice_index heads j ≤ j = u.inside j c in omega arith
    | inr c ↦ let d : j ≡ i = omega arith in let f : slice_index (heads ++ i ∷ []) j ≡ i = ap (slice_index (heads ++ i ∷ [])) d ∙ new_head heads i i u.heads_all in omega arith
  ];
  seated = λ j n b f. elim (cases_lt j i) [
    | inl c ↦
        let s : slice_index seats n ≡ slice_index heads j + 1 = u.seated j n c f in
        get_or-set_other seats k n (i + 1) 0 (λ d. let y : slice_index seats n ≡ 0 = ap (slice_index seats) d ∙ z in omega arith)
        ∙ s ∙ ap (λ m. m + 1) (sym (old_head heads i i j u.heads_all c))
    | inr c ↦
        let d : j ≡ i = omega arith in
        let same : k ≡ n = same_open k n (same_Some (ty.Open k) (ty.Open n) (sym e ∙ ap (slice_get ports) (sym d) ∙ f)) in
        ap (slice_index (set seats k (i + 1))) (sym same) ∙ get_or-set_same seats k (i + 1) 0 l
        ∙ ap (λ m. m + 1) (sym (ap (slice_index (heads ++ i ∷ [])) d ∙ new_head heads i i u.heads_all))
  ];
  met = λ n s f. elim (cases_eq n k) [
    | inl c ↦
        let g : slice_index (set seats k (i + 1)) k ≡ i + 1 = get_or-set_same seats k (i + 1) 0 l in
        let h : slice_index (set seats k (i + 1)) k ≡ s + 1 = ap (slice_index (set seats k (i + 1))) (sym c) ∙ f in
        let d : s ≡ i = omega arith in
        (omega arith, ap (slice_get ports) d ∙ e ∙ ap (λ m. Some (ty.Open m)) (sym c))
    | inr c ↦
        let d = u.met n s (sym (get_or-set_other seats k n (i + 1) 0 c) ∙ f) in let b : s < i = d.0 in (omega arith, d.1)
  ];
}

pub seats_more : (most : ℕ) (ports : List Ty) (i : ℕ) (seats heads new : List ℕ) (h : ℕ) (t : Ty) → HaveSeats most ports i seats heads → HasSeat t seats
    → slice_get ports i ≡ Some t → IsSeated t i seats new h → HaveSeats most ports (i + 1) new (heads ++ h ∷ [])
seats_more most ports i seats heads new h ty.Int u l e s =
    subst (λ xs. HaveSeats most ports (i + 1) xs (heads ++ h ∷ [])) (sym s.0)
    (seats_kept most ports i seats heads h u (let d : h ≡ i = s.1 in omega arith) (λ k f. cc (same_Some ty.Int (ty.Open k) (sym e ∙ f))))
seats_more most ports i seats heads new h ty.Bool u l e s =
    subst (λ xs. HaveSeats most ports (i + 1) xs (heads ++ h ∷ [])) (sym s.0)
    (seats_kept most ports i seats heads h u (let d : h ≡ i = s.1 in omega arith) (λ k f. cc (same_Some ty.Bool (ty.Open k) (sym e ∙ f))))
seats_more most ports i seats heads new h (ty.Open n) u l e (inl s) =
    subst (λ xs. HaveSeats most ports (i + 1) xs (heads ++ h ∷ [])) (sym s.1)
    (subst (λ m. HaveSeats most ports (i + 1) (set seats n (i + 1)) (heads ++ m ∷ [])) (sym s.2) (seats_first most ports i seats heads n u l e s.0))
seats_more most ports i seats heads new h (ty.Open n) u l e (inr s) =
    subst (λ xs. HaveSeats most ports (i + 1) xs (heads ++ h ∷ [])) (sym s.1)
    (seats_kept most ports i seats heads h u (let d = u.met n h s.0 in let b : h < i = d.0 in omega arith)
    (λ k f. ap (slice_index seats) (same_open k n (same_Some (ty.Open k) (ty.Open n) (sym f ∙ e))) ∙ s.0))

pub seats_heads : (most : ℕ) (ports : List Ty) (upto : ℕ) (seats heads : List ℕ) → length ports ≤ upto → upto ≤ length ports → HaveSeats most ports upto seats heads → AreHeads ports heads
seats_heads most ports upto seats heads a b u = record {
  all = let e : length heads ≡ upto = u.heads_all in omega arith;
  inside = λ i l. let d : slice_index heads i ≤ i = u.inside i (omega arith) in omega arith;
  same = λ i k e.
      let w : i < length ports = slice_get_within ports i (ty.Open k) e in
      (u.met k (slice_index heads i) (u.seated i k (omega arith) e)).1;
  one = λ i j k e f.
      let w : i < length ports = slice_get_within ports i (ty.Open k) e in
      let v : j < length ports = slice_get_within ports j (ty.Open k) f in
      let x : slice_index seats k ≡ slice_index heads i + 1 = u.seated i k (omega arith) e in
      let y : slice_index seats k ≡ slice_index heads j + 1 = u.seated j k (omega arith) f in
      omega arith;
}

-- there is a seat for each class
pub has_seat : (most : ℕ) (ports : List Ty) (i : ℕ) (seats : List ℕ) (t : Ty) → HaveClasses most ports → length seats ≡ most + 1 → slice_get ports i ≡ Some t → HasSeat t seats
has_seat most ports i seats ty.Int h l e = tt
has_seat most ports i seats ty.Bool h l e = tt
has_seat most ports i seats (ty.Open k) h l e = let b : k ≤ most = h i k e in omega arith
