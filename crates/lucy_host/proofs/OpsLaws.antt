-- Laws of the operators that a host lends, as a list.
use Rattle.std.proofs.Common.{◌≡◌, ◌<◌, ◌≤◌, ℕ, ◌+◌, Bool, true, false, not, cond, List, [], length, map, get_or, Option, Some, None, Result, Err, Contains, refl, ap, sym, ◌∙◌, arith, slice_get, inl, inr, true≢false}
use Rattle.std.specs.Prelude.{◌↔◌, nat_lt, is_some, IsErrAnd}
use Rattle.std.specs.Str.{bytes_eq}
use Rattle.std.specs.List.{position, position_or_len}
use Rattle.std.proofs.lemmas.Bool.{cases_lt}
use Rattle.std.proofs.lemmas.Bool.Decides.{nat_tests}
use Rattle.std.proofs.lemmas.List.Recursion.{is_position_or_len}
use Rattle.std.proofs.lemmas.List.Sums.{prefix_len_passes}
use Rattle.std.proofs.lemmas.List.Quantifiers.{position-Some}
use Rattle.std.proofs.lemmas.List.{length-map}
use Rattle.std.proofs.lemmas.Option.{slice_get-get_or, slice_get-map}
use Rattle.std.specs.Option.{option_map}
use Rattle.std.proofs.lemmas.Result.{err_from_is_err_and}
use Rattle.std.proofs.lemmas.Slice.Eq.{bytes_eq-Decides}
use Rattle.lucy_host.specs.declared.error.OpsError.{OpsError}
use Rattle.lucy_host.specs.declared.error.OpsError.TheVariants.{Twice, OutOfMemory}
use Rattle.lucy_host.specs.declared.kind.HostKind.{HostKind}
use Rattle.lucy_host.specs.Operators.{Operator, kinds_of, operator_number}
use Rattle.lucy_host.specs.Entries.{operator_of, operators_of}
use Rattle.lucy_host.specs.declared.ops.Entry.{Entry}

module _ {A B : Type 0} (f : A → B) (p : B → Bool) where
  place_map : (xs : List A) → position_or_len p (map f xs) ≡ position_or_len (λ x. p (f x)) xs
  place_map xs = is_position_or_len (λ ys. position_or_len p (map f ys)) (λ x. p (f x)) refl (λ x ys. step (p (f x)) (position_or_len p (map f ys))) xs
    where
      step : (b : Bool) (n : ℕ) → cond (not b) (1 + n) 0 ≡ cond b 0 (1 + n)
      step true n = refl
      step false n = refl

  position-map : (xs : List A) → position p (map f xs) ≡ position (λ x. p (f x)) xs
  position-map xs =
      let F : ℕ → ℕ → Option ℕ = λ i n. cond (nat_lt i n) (Some i) None in
      ap (λ i. F i (length (map f xs))) (place_map xs) ∙ ap (λ n. F (position_or_len (λ x. p (f x)) xs) n) (simp length-map)

-- the number of a name among the entries
pub entry_number : (entries : List Entry) (name : List ℕ) →
    operator_number (operators_of entries) name ≡ position (λ entry. bytes_eq name entry.name.items) entries
entry_number entries name =
    position-map (λ (o : Operator). o.name) (bytes_eq name) (operators_of entries) ∙ position-map operator_of (λ o. bytes_eq name o.name) entries

module _ (names : List (List ℕ)) (name : List ℕ) where
  -- the name stands at the number that is found for it
  pub found : (i : ℕ) → position (bytes_eq name) names ≡ Some i → (i < length names) × (slice_get names i ≡ Some name)
  found i e =
      let h = position-Some (bytes_eq name) names i [] e in
      let is : name ≡ get_or names i [] = (bytes_eq-Decides name (get_or names i [])).0 h.1 in
      (h.0, slice_get-get_or names i [] h.0 ∙ ap (λ n. Some n) (sym is))

  -- a name that is there is found
  pub finds : Contains names name → (i : ℕ) × (position (bytes_eq name) names ≡ Some i)
  finds h = (position_or_len (bytes_eq name) names, ap (λ b. cond b (Some (position_or_len (bytes_eq name) names)) None) within)
    where
      passes : bytes_eq name (get_or names h.0 name) ≡ true
      passes = (bytes_eq-Decides name (get_or names h.0 name)).1 (sym h.2)

      reached : position_or_len (bytes_eq name) names ≤ h.0
      reached = elim (cases_lt h.0 (position_or_len (bytes_eq name) names)) [
        | inl below ↦ absurd (clash (bytes_eq name (get_or names h.0 name)) passes (prefix_len_passes (λ n. not (bytes_eq name n)) names h.0 name below))
        | inr above ↦ omega arith
      ]
        where
          clash : (b : Bool) → b ≡ true → not b ≡ true → ⊥
          clash true p q = true≢false (sym q)
          clash false p q = true≢false (sym p)

      within : nat_lt (position_or_len (bytes_eq name) names) (length names) ≡ true
      within = let l : position_or_len (bytes_eq name) names < length names = omega (arith, h.1, reached) in grind (arith, nat_tests)

  -- a name is there where one is found
  pub is_there : (i : ℕ) → position (bytes_eq name) names ≡ Some i → Contains names name
  is_there i e =
      let h = position-Some (bytes_eq name) names i name e in
      (i, h.0, sym ((bytes_eq-Decides name (get_or names i name)).0 h.1))

-- what a search for a name tells: it is there where something is found, and isn't where nothing is
pub is_held : (names : List (List ℕ)) (name : List ℕ) (o : Option ℕ) → o ≡ position (bytes_eq name) names → is_some o ≡ true → Contains names name
is_held names name None e some = cc
is_held names name (Some i) e some = is_there names name i (sym e)

pub is_lacking : {P : Type 0} (o : Option ℕ) → (o ≡ None) ↔ (P → ⊥) → is_some o ≡ false → P → ⊥
is_lacking None told none = told.0 refl
is_lacking (Some i) told none = cc

-- an error that comes of want of memory tells nothing of names
pub not_twice : {T : Type 0} (r : Result T OpsError) → IsErrAnd r (λ e. e ≡ OutOfMemory) → r ≡ Err Twice → ⊥
not_twice r i e = let p = err_from_is_err_and r i in cc

-- what is found among the entries is the operator's number
pub entry_found : (entries : List Entry) (ops : List Operator) (name : List ℕ) (r : Option ℕ) →
    operators_of entries ≡ ops → r ≡ position (λ entry. bytes_eq name entry.name.items) entries → r ≡ operator_number ops name
entry_found entries ops name r v e = e ∙ sym (entry_number entries name) ∙ ap (λ o. operator_number o name) v

-- the kind of an entry is that of the operator
pub entry_kind : (entries : List Entry) (ops : List Operator) (i : ℕ) (e : Entry) →
    operators_of entries ≡ ops → i < length ops → e ≡ get_or entries i e → slice_get (kinds_of ops) i ≡ Some e.kind
entry_kind entries ops i e v l g =
    let kind : Operator → HostKind = λ o. o.kind in
    let within : i < length entries = let n : length (operators_of entries) ≡ length ops = ap (λ o. length o) v in let m : length (operators_of entries) ≡ length entries = simp length-map in omega (arith, l, n, m) in
    let at : slice_get entries i ≡ Some e = slice_get-get_or entries i e within ∙ ap (λ x. Some x) (sym g) in
    ap (λ o. slice_get (kinds_of o) i) (sym v)
    ∙ slice_get-map kind (operators_of entries) i
    ∙ ap (λ m. option_map kind m) (slice_get-map operator_of entries i)
    ∙ ap (λ m. option_map kind (option_map operator_of m)) at
