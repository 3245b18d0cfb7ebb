-- Laws of fields.
use Rattle.std.proofs.Common.{◌≡◌, ℕ, suc, ◌+◌, ◌-◌, ◌<◌, ◌≤◌, Bool, true, false, not, cond, List, [], ◌∷◌, length, get_or, take, drop, add-zero, Option, refl, ap, sym, ◌∙◌, subst, inl, inr, arith}
use Rattle.std.specs.Prelude.{nat_lt, ◌==◌, ◌||◌, if◌then◌else◌, filter}
use Rattle.std.specs.Option.{unwrap_or}
use Rattle.std.specs.List.{prefix_len, slice_split, onto_first}
use Rattle.std.proofs.Math.ListN.{drop_of_length-le}
use Rattle.std.proofs.lemmas.List.{get_or-drop, take_rest, length-drop}
use Rattle.std.proofs.lemmas.List.Sums.{prefix_len_stops}
use Rattle.std.proofs.lemmas.Bool.{ltb-true, ltb-false, cases_Bool}
use Rattle.memchr.specs.Find.{IsFirstByte}
use Rattle.bstr.specs.Bytes.{is_in}
use Rattle.lucy_lines.specs.Fields.{is_space, line_fields}
use Rattle.lucy_lines.proofs.Runs.{run_value, run_same}

-- the byte before the first field of the rest
abbrev before_field : ℕ → List (List ℕ) → List (List ℕ)
before_field c [] = (c ∷ []) ∷ []
before_field c (field ∷ more) = (c ∷ field) ∷ more

-- the byte, which is no blank, before the rest of its line, which has these fields
abbrev joined : ℕ → List ℕ → List (List ℕ) → List (List ℕ)
joined c [] more = (c ∷ []) ∷ []
joined c (d ∷ line) more = if is_space d then (c ∷ []) ∷ more else before_field c more

-- the fields, byte by byte
abbrev pieces : List ℕ → List (List ℕ)
pieces [] = []
pieces (c ∷ line) = if is_space c then pieces line else joined c line (pieces line)

-- the parts that have a byte
abbrev some_parts : List (List ℕ) → List (List ℕ)
some_parts parts = filter (λ part. nat_lt 0 (length part)) parts

has_byte : (c : ℕ) (part : List ℕ) → nat_lt 0 (length (c ∷ part)) ≡ true
has_byte c part = elim (cases_Bool (nat_lt 0 (length (c ∷ part)))) [
  | inl e ↦ e
  | inr e ↦ let none : length (c ∷ part) ≤ 0 = ltb-false 0 (length (c ∷ part)) e in absurd (omega arith)
]

some_first : (c : ℕ) (part : List ℕ) (parts : List (List ℕ)) → some_parts ((c ∷ part) ∷ parts) ≡ (c ∷ part) ∷ some_parts parts
some_first c part parts = ap (λ b. cond b ((c ∷ part) ∷ some_parts parts) (some_parts parts)) (has_byte c part)

some_joined : (c d : ℕ) (parts : List (List ℕ)) → some_parts (onto_first c (onto_first d parts)) ≡ before_field c (some_parts (onto_first d parts))
some_joined c d [] = some_first c (d ∷ []) [] ∙ sym (ap (before_field c) (some_first d [] []))
some_joined c d (part ∷ parts) = some_first c (d ∷ part) parts ∙ sym (ap (before_field c) (some_first d part parts))

-- the parts of a line behind a byte that is no blank
some_onto : (c : ℕ) (line : List ℕ) → some_parts (onto_first c (slice_split is_space line)) ≡ joined c line (some_parts (slice_split is_space line))
some_onto c [] = some_first c [] []
some_onto c (d ∷ line) = elim (cases_Bool (is_space d)) [
  | inl e ↦
      ap (λ b. some_parts (onto_first c (cond b ([] ∷ slice_split is_space line) (onto_first d (slice_split is_space line))))) e
      ∙ some_first c [] (slice_split is_space line)
      ∙ sym (ap (λ b. cond b ((c ∷ []) ∷ some_parts (cond b ([] ∷ slice_split is_space line) (onto_first d (slice_split is_space line))))
      (before_field c (some_parts (cond b ([] ∷ slice_split is_space line) (onto_first d (slice_split is_space line)))))) e)
  | inr e ↦
      ap (λ b. some_parts (onto_first c (cond b ([] ∷ slice_split is_space line) (onto_first d (slice_split is_space line))))) e
      ∙ some_joined c d (slice_split is_space line)
      ∙ sym (ap (λ b. cond b ((c ∷ []) ∷ some_parts (cond b ([] ∷ slice_split is_space line) (onto_first d (slice_split is_space line))))
      (before_field c (some_parts (cond b ([] ∷ slice_split is_space line) (onto_first d (slice_split is_space line)))))) e)
]

-- the fields are these
fields_are : (line : List ℕ) → line_fields line ≡ pieces line
unfolding line_fields
fields_are [] = refl
fields_are (c ∷ line) = elim (cases_Bool (is_space c)) [
  | inl e ↦
      ap (λ b. some_parts (cond b ([] ∷ slice_split is_space line) (onto_first c (slice_split is_space line)))) e
      ∙ fields_are line ∙ sym (ap (λ b. cond b (pieces line) (joined c line (pieces line))) e)
  | inr e ↦
      ap (λ b. some_parts (cond b ([] ∷ slice_split is_space line) (onto_first c (slice_split is_space line)))) e
      ∙ some_onto c line ∙ ap (joined c line) (fields_are line) ∙ sym (ap (λ b. cond b (pieces line) (joined c line (pieces line))) e)
]

abbrev pub is_dark : ℕ → Bool
is_dark c = not (is_space c)

one_add : (n : ℕ) → 1 + n ≡ suc n
one_add n = omega arith

-- blanks at the front make no difference
pieces_behind : (line : List ℕ) → pieces line ≡ pieces (drop (prefix_len is_space line) line)
pieces_behind [] = refl
pieces_behind (c ∷ line) =
    let n : ℕ = prefix_len is_space line in
    elim (cases_Bool (is_space c)) [
      | inl e ↦
          ap (λ b. cond b (pieces line) (joined c line (pieces line))) e ∙ pieces_behind line ∙
          sym (ap (λ b. pieces (drop (cond b (1 + n) 0) (c ∷ line))) e ∙ ap (λ k. pieces (drop k (c ∷ line))) (one_add n))
      | inr e ↦ sym (ap (λ b. pieces (drop (cond b (1 + n) 0) (c ∷ line))) e)
    ]

-- blanks alone have no field
pieces_none : (line : List ℕ) → prefix_len is_space line ≡ length line → pieces line ≡ []
pieces_none line e = pieces_behind line ∙ ap pieces (ap (λ n. drop n line) e ∙ drop_of_length-le line (omega arith))

dark_first : (c : ℕ) (line : List ℕ) → 0 < prefix_len is_dark (c ∷ line) → is_space c ≡ false
dark_first c line some = elim (cases_Bool (is_space c)) [
  | inl e ↦ absurd (omega (arith, some, ap (λ b. cond (not b) (1 + prefix_len is_dark line) 0) e))
  | inr e ↦ e
]

-- a field goes to its first blank
pieces_first : (line : List ℕ) → 0 < prefix_len is_dark line →
    pieces line ≡ take (prefix_len is_dark line) line ∷ pieces (drop (prefix_len is_dark line) line)
pieces_first [] some = absurd (omega (arith, some))
pieces_first (c ∷ []) some =
    let e = dark_first c [] some in
    let n : prefix_len is_dark (c ∷ []) ≡ 1 = ap (λ b. cond (not b) (1 + 0) 0) e in
    ap (λ b. cond b (pieces []) (joined c [] (pieces []))) e ∙ sym (ap (λ k. take k (c ∷ []) ∷ pieces (drop k (c ∷ []))) n)
pieces_first (c ∷ d ∷ line) some =
    let e = dark_first c (d ∷ line) some in
    let rest : List ℕ = d ∷ line in
    let m : ℕ = prefix_len is_dark rest in
    let n : prefix_len is_dark (c ∷ rest) ≡ 1 + m = ap (λ b. cond (not b) (1 + m) 0) e in
    let first = ap (λ b. cond b (pieces rest) (joined c rest (pieces rest))) e in
    elim (cases_Bool (is_space d)) [
      | inl f ↦
          let z : m ≡ 0 = ap (λ b. cond (not b) (1 + prefix_len is_dark line) 0) f in
          let one : prefix_len is_dark (c ∷ rest) ≡ 1 = n ∙ ap (λ k. 1 + k) z in
          first ∙ ap (λ b. cond b ((c ∷ []) ∷ pieces rest) (before_field c (pieces rest))) f ∙
          sym (ap (λ k. take k (c ∷ rest) ∷ pieces (drop k (c ∷ rest))) one)
      | inr f ↦
          let z : m ≡ 1 + prefix_len is_dark line = ap (λ b. cond (not b) (1 + prefix_len is_dark line) 0) f in
          let later = pieces_first (d ∷ line) (omega (arith, z)) in
          first ∙ ap (λ b. cond b ((c ∷ []) ∷ pieces rest) (before_field c (pieces rest))) f ∙
          ap (λ fs. before_field c fs) later ∙
          sym (ap (λ k. take k (c ∷ rest) ∷ pieces (drop k (c ∷ rest))) (n ∙ one_add m))
    ]

-- the set of the blanks
abbrev pub blanks : List ℕ
blanks = 32 ∷ 9 ∷ []

or_last : (a b : Bool) → (a || (b || false)) ≡ (a || b)
or_last true b = refl
or_last false true = refl
or_last false false = refl

in_blanks : (c : ℕ) → is_in blanks c ≡ is_space c
unfolding is_in
in_blanks c = or_last (c == 32) (c == 9)

-- behind the blanks a line has a field at its front, where it has any byte
some_dark : (line : List ℕ) → prefix_len is_space line < length line → 0 < prefix_len is_dark (drop (prefix_len is_space line) line)
some_dark line h =
    let start : ℕ = prefix_len is_space line in
    let rest : List ℕ = drop start line in
    let long = length-drop start line in
    let at : get_or rest 0 0 ≡ get_or line start 0 = get_or-drop start line 0 0 ∙ ap (λ k. get_or line k 0) (add-zero start) in
    let dark : is_dark (get_or rest 0 0) ≡ true = ap is_dark at ∙ ap not (prefix_len_stops is_space line 0 h) in
    elim (cases_Bool (nat_lt 0 (prefix_len is_dark rest))) [
      | inl e ↦ ltb-true 0 (prefix_len is_dark rest) e
      | inr e ↦
          let none : prefix_len is_dark rest ≡ 0 = let k : prefix_len is_dark rest ≤ 0 = ltb-false 0 (prefix_len is_dark rest) e in omega arith in
          let stop = prefix_len_stops is_dark rest 0 (omega arith) in
          absurd (true_false (sym dark ∙ sym (ap (λ k. is_dark (get_or rest k 0)) none) ∙ stop))
    ]
  where
    true_false : true ≡ false → ⊥
    true_false u = cc

-- the first field and the rest, by the number of blanks at the front and the first blank behind them
first_piece : (line rest : List ℕ) (start end : ℕ) (r : Option ℕ) → start ≡ prefix_len is_space line → rest ≡ drop start line → 0 < length rest →
    IsFirstByte (is_in blanks) rest r → end ≡ unwrap_or r (length rest) →
    pieces line ≡ take end rest ∷ pieces (take (length rest - end) (drop end rest))
first_piece line rest start end r s t some k e =
    let blank : prefix_len is_space line < length line = let n = ap length t in let m = length-drop start line in omega arith in
    let behind : rest ≡ drop (prefix_len is_space line) line = t ∙ ap (λ n. drop n line) s in
    let dark : end ≡ prefix_len is_dark rest = e ∙ run_value (is_in blanks) rest r k ∙ run_same (λ c. not (is_in blanks c)) is_dark (λ c. ap not (in_blanks c)) rest in
    let first : 0 < prefix_len is_dark rest = let Q : List ℕ → Type 0 = λ u. 0 < prefix_len is_dark u in subst Q (sym behind) (some_dark line blank) in
    pieces_behind line ∙ ap pieces (sym behind) ∙ pieces_first rest first ∙
    sym (ap (λ n. take n rest ∷ pieces (drop n rest)) dark) ∙ ap (λ u. take end rest ∷ pieces u) (sym (take_rest rest end))

-- blanks alone have no field
pub fields_none : (line : List ℕ) → prefix_len is_space line ≡ length line → line_fields line ≡ []
fields_none line e = fields_are line ∙ pieces_none line e

-- the first field and the rest, by the number of blanks at the front and the first blank behind them
pub first_field : (line rest : List ℕ) (start end : ℕ) (r : Option ℕ) → start ≡ prefix_len is_space line → rest ≡ drop start line → 0 < length rest →
    IsFirstByte (is_in blanks) rest r → end ≡ unwrap_or r (length rest) →
    line_fields line ≡ take end rest ∷ line_fields (take (length rest - end) (drop end rest))
first_field line rest start end r s t some k e =
    fields_are line ∙ first_piece line rest start end r s t some k e ∙ ap (λ u. take end rest ∷ u) (sym (fields_are (take (length rest - end) (drop end rest))))
