-- The items of a cut are those that the first lines of an input say, and a line that stops them is refused.
use Rattle.std.proofs.Common.{◌≡◌, ◌+◌, ◌-◌, ◌<◌, ◌≤◌, ◌==◌, ◌++◌, ◌⊎◌, ℕ, zero, suc, Bool, true, false, cond, List, [], ◌∷◌, length, take, drop, get_or, refl, ap, sym, ◌∙◌, subst, inl, inr, arith, append-nil, length-append}
use Rattle.std.specs.Prelude.{◌≢◌, nat_lt, Some, None, slice_get, IsSomeAnd}
use Rattle.std.specs.List.{slice_split, onto_first, All}
use Rattle.std.specs.Str.Lines.{lines, lines_of_parts, strip_carriage_return}
use Rattle.std.proofs.lemmas.Bool.{cases_Bool, ltb-true, ltb-false, eqb-true, cond_both}
use Rattle.std.proofs.lemmas.List.{length-take-le, get_or-take, take-take, take-append-le, drop-append-le, take_all, drop_all, nil_from_length}
use Rattle.std.proofs.lemmas.List.Sums.{fails_before_first}
use Rattle.std.proofs.lemmas.List.Splits.{slice_split_first, slice_split_none}
use Rattle.lucy_lines.specs.declared.input.InputSpec.{InputSpec}
use Rattle.lucy_lines.specs.declared.reader.TextFault.{TextFault}
use Rattle.lucy_lines.specs.declared.reader.TextFault.TheVariants.{BadLine, TooLong}
use Rattle.lucy_lines.specs.Fronts.{most_bytes, longest_line, run, reach, judge, content_of, front_of}
use Rattle.lucy_lines.specs.Fields.{line_fields}
use Rattle.lucy_lines.specs.Kinds.{FieldsSay, PairSays, IsKind}
use Rattle.lucy_lines.specs.Cuts.{Held, past, with_more, ItemOf, refusal, Stop, At, Before, Cut, blank, item, refused, long, too_long, undecided}
use Rattle.lucy_lines.proofs.FrontLaws.{run_more, reach_range, content_within, front_more, WithinBytes, line_within}
use Rattle.lucy_lines.proofs.CutLaws.{one_cut}
use Rattle.lucy_lines.proofs.Exists.{some_cut}
use Rattle.lucy_right.specs.Right.{LineSays, LineFails, LinesSay}

abbrev is_feed : ℕ → Bool
is_feed b = b == 10

-- there is a first part
record Parted (bytes : List ℕ) : Type 0 where
  first : List ℕ
  rest : List (List ℕ)
  is : slice_split is_feed bytes ≡ first ∷ rest

parted_by : (c : ℕ) (b : Bool) (bytes : List ℕ) → is_feed c ≡ b → Parted bytes → Parted (c ∷ bytes)
parted_by c true bytes e p = record { first = []; rest = slice_split is_feed bytes; is = ap (λ t. cond t ([] ∷ slice_split is_feed bytes) (onto_first c (slice_split is_feed bytes))) e }
parted_by c false bytes e p = record {
  first = c ∷ p.first;
  rest = p.rest;
  is = ap (λ t. cond t ([] ∷ slice_split is_feed bytes) (onto_first c (slice_split is_feed bytes))) e ∙ ap (onto_first c) p.is;
}

parted : (bytes : List ℕ) → Parted bytes
parted [] = record { first = []; rest = []; is = refl }
parted (c ∷ bytes) = parted_by c (is_feed c) bytes refl (parted bytes)

-- the line before the first line feed
lines_at : (bytes : List ℕ) → run bytes < length bytes → lines bytes ≡ strip_carriage_return (take (run bytes) bytes) ∷ lines (drop (run bytes + 1) bytes)
lines_at bytes h =
    let p = parted (drop (run bytes + 1) bytes) in
    let front : List ℕ = take (run bytes) bytes in
    ap lines_of_parts (slice_split_first is_feed bytes 0 h ∙ ap (λ ps. front ∷ ps) p.is)
    ∙ ap (λ ps. strip_carriage_return front ∷ lines_of_parts ps) (sym p.is)

take_by : (b : Bool) (i j : ℕ) (bytes : List ℕ) → cond b (take i bytes) (take j bytes) ≡ take (cond b i j) bytes
take_by true i j bytes = refl
take_by false i j bytes = refl

strip_is : (bytes : List ℕ) (n : ℕ) → n ≤ length bytes → strip_carriage_return (take n bytes) ≡ take (content_of bytes n) bytes
strip_is bytes zero h = ap (λ m. take m bytes) (sym (cond_both (get_or bytes 0 0 == 13) 0 0 (λ m. m ≡ 0) (λ e. refl) (λ e. refl)))
strip_is bytes (suc m) h =
    let n : ℕ = suc m in
    let kept : List ℕ = take n bytes in
    let inner : n - 1 < n = omega arith in
    let below : n - 1 ≤ n = omega arith in
    ap (λ l. cond (get_or kept (l - 1) 0 == 13) (take (l - 1) kept) kept) (length-take-le n bytes h)
    ∙ ap (λ c. cond (c == 13) (take (n - 1) kept) kept) (get_or-take n bytes (n - 1) 0 inner)
    ∙ ap (λ t. cond (get_or bytes (n - 1) 0 == 13) t kept) (take-take (n - 1) n bytes below)
    ∙ take_by (get_or bytes (n - 1) 0 == 13) (n - 1) n bytes

-- a last line without an end
one_line : (bytes : List ℕ) → length bytes ≤ run bytes → (length bytes == 0) ≡ false → lines bytes ≡ bytes ∷ []
one_line bytes h some =
    let none : All (λ c. is_feed c ≡ false) bytes = λ k d l. fails_before_first is_feed bytes k d (omega (arith, l)) in
    ap lines_of_parts (slice_split_none is_feed bytes none) ∙ ap (λ t. cond t [] (bytes ∷ [])) some

-- The line at the front of bytes has this length without its end and with it, and isn't too long: it ends with a line feed, or it is all that there is.
abbrev IsFirst : (closed : Bool) (bytes : List ℕ) (content whole : ℕ) → Type 0
IsFirst closed bytes c n =
    ((run bytes < length bytes) × (content_of bytes (run bytes) ≡ c) × (run bytes + 1 ≡ n) × (run bytes ≤ reach bytes))
    ⊎ ((closed ≡ true) × (length bytes ≤ run bytes) × ((length bytes == 0) ≡ false) × (length bytes ≡ c) × (length bytes ≡ n) × (length bytes ≤ longest_line))

-- a line that ends where it may has no more bytes than a line may have, without a carriage return at its end
content_short : (bytes : List ℕ) → run bytes ≤ reach bytes → content_of bytes (run bytes) ≤ longest_line
content_short bytes near = elim (cases_Bool (get_or bytes longest_line 0 == 13)) [
  | inl t ↦
      let r : reach bytes ≡ longest_line + 1 = ap (λ b. cond b (longest_line + 1) longest_line) t in
      elim (cases_Bool (nat_lt longest_line (run bytes))) [
        | inl k ↦
            let far : longest_line < run bytes = ltb-true longest_line (run bytes) k in
            let last : run bytes - 1 ≡ longest_line = omega arith in
            let cut : content_of bytes (run bytes) ≡ run bytes - 1 = ap (λ b. cond b (run bytes - 1) (run bytes)) (ap (λ i. get_or bytes i 0 == 13) last ∙ t) in
            omega (arith, cut)
        | inr k ↦
            let within : run bytes ≤ longest_line = ltb-false longest_line (run bytes) k in
            let inner = content_within bytes (run bytes) in
            omega arith
      ]
  | inr t ↦
      let r : reach bytes ≡ longest_line = ap (λ b. cond b (longest_line + 1) longest_line) t in
      let inner = content_within bytes (run bytes) in
      omega arith
]

first_short : (closed : Bool) (bytes : List ℕ) (c n : ℕ) → IsFirst closed bytes c n → length (take c bytes) ≤ longest_line
first_short closed bytes c n (inl h) =
    let range = reach_range bytes in
    let inner = content_within bytes (run bytes) in
    let short = content_short bytes h.3 in
    let all = length-take-le c bytes (omega (arith, h.0, h.1)) in
    omega (arith, h.1, all)
first_short closed bytes c n (inr h) =
    let all = length-take-le c bytes (omega (arith, h.3)) in
    omega (arith, h.3, h.5, all)

-- it is the first line, whatever follows
first_lines : (closed : Bool) (bytes more : List ℕ) (c n : ℕ) → IsFirst closed bytes c n → (closed ≡ true → more ≡ []) → lines (bytes ++ more) ≡ take c bytes ∷ lines (drop n bytes ++ more)
first_lines closed bytes more c n (inl h) shut =
    let within : run bytes < length bytes = h.0 in
    let below : run bytes ≤ length bytes = omega arith in
    let upto : run bytes + 1 ≤ length bytes = omega arith in
    let longer : run (bytes ++ more) < length (bytes ++ more) = omega (arith, run_more bytes more within, length-append bytes more) in
    lines_at (bytes ++ more) longer
    ∙ ap (λ r. strip_carriage_return (take r (bytes ++ more)) ∷ lines (drop (r + 1) (bytes ++ more))) (run_more bytes more within)
    ∙ ap (λ l. strip_carriage_return l ∷ lines (drop (run bytes + 1) (bytes ++ more))) (take-append-le (run bytes) bytes more below)
    ∙ ap (λ l. strip_carriage_return (take (run bytes) bytes) ∷ lines l) (drop-append-le (run bytes + 1) bytes more upto)
    ∙ ap (λ l. l ∷ lines (drop (run bytes + 1) bytes ++ more)) (strip_is bytes (run bytes) below)
    ∙ ap (λ m. take m bytes ∷ lines (drop (run bytes + 1) bytes ++ more)) h.1
    ∙ ap (λ m. take c bytes ∷ lines (drop m bytes ++ more)) h.2
first_lines closed bytes more c n (inr h) shut =
    let none : more ≡ [] = shut h.0 in
    let whole : length bytes ≤ c = omega (arith, h.3) in
    let past_all : length bytes ≤ n = omega (arith, h.4) in
    ap (λ m. lines (bytes ++ m)) none ∙ ap lines (append-nil bytes) ∙ one_line bytes h.1 h.2
    ∙ ap (λ l. l ∷ lines []) (sym (take_all c bytes whole))
    ∙ ap (λ l. take c bytes ∷ lines (l ++ [])) (sym (drop_all n bytes past_all))
    ∙ ap (λ m. take c bytes ∷ lines (drop n bytes ++ m)) (sym none)

-- what tests of bytes say of their first line
first_ended : (closed : Bool) (bytes : List ℕ) (c n : ℕ) → nat_lt (judge bytes) (length bytes) ≡ true → nat_lt (reach bytes) (run bytes) ≡ false → content_of bytes (run bytes) ≡ c → run bytes + 1 ≡ n →
    IsFirst closed bytes c n
first_ended closed bytes c n t r p q =
    let near : run bytes ≤ reach bytes = ltb-false (reach bytes) (run bytes) r in
    let inside : judge bytes < length bytes = ltb-true (judge bytes) (length bytes) t in
    inl (omega arith, p, q, near)

first_whole : (closed : Bool) (bytes : List ℕ) (c n : ℕ) → nat_lt (judge bytes) (length bytes) ≡ false → closed ≡ true → (length bytes == 0) ≡ false → nat_lt longest_line (length bytes) ≡ false →
    length bytes ≡ c → length bytes ≡ n → IsFirst closed bytes c n
first_whole closed bytes c n t is_closed s v p q =
    let far : length bytes ≤ judge bytes = ltb-false (judge bytes) (length bytes) t in
    let short : length bytes ≤ longest_line = ltb-false longest_line (length bytes) v in
    inr (is_closed, omega arith, s, p, q, short)

-- What is decided of a front has no name here: what is told of it has the type that such a step takes.
abbrev Suits : (A : Type 0) → A → Type 0
Suits A step = Unit {0}

-- so a line that is decided is the first
line_first : (closed : Bool) (used : ℕ) (bytes : List ℕ) (c n : ℕ) (e : _) → Suits (WithinBytes bytes c n) (line_within closed used bytes c n e) → IsFirst closed bytes c n
unfolding front_of
line_first closed used bytes c n e suits = elim (cases_Bool (nat_lt (judge bytes) (length bytes))) [
  | inl t ↦
      let e1 = rw t at e in
      elim (cases_Bool (nat_lt (used + judge bytes) most_bytes)) [
        | inl u ↦
            let e2 = rw u at e1 in
            elim (cases_Bool (nat_lt (reach bytes) (run bytes))) [
              | inl r ↦ let e3 = rw r at e2 in absurd (cc e3)
              | inr r ↦ let e3 = rw r at e2 in first_ended closed bytes c n t r (cc e3) (cc e3)
            ]
        | inr u ↦ let e2 = rw u at e1 in absurd (cc e2)
      ]
  | inr t ↦
      let e1 = rw t at e in
      elim (cases_Bool (nat_lt most_bytes (used + length bytes))) [
        | inl p ↦ let e2 = rw p at e1 in absurd (cc e2)
        | inr p ↦
            let e2 = rw p at e1 in
            elim (cases_Bool closed) [
              | inl k ↦
                  let e3 = rw k at e2 in
                  elim (cases_Bool (length bytes == 0)) [
                    | inl s ↦ let e4 = rw s at e3 in absurd (cc e4)
                    | inr s ↦
                        let e4 = rw s at e3 in
                        elim (cases_Bool (nat_lt longest_line (length bytes))) [
                          | inl v ↦ let e5 = rw v at e4 in absurd (cc e5)
                          | inr v ↦ let e5 = rw v at e4 in first_whole closed bytes c n t k s v (cc e5) (cc e5)
                        ]
                  ]
              | inr k ↦ let e3 = rw k at e2 in absurd (cc e3)
            ]
      ]
]

-- and where none of all bytes is decided there are none
open_none : (inputs : List InputSpec) (h : Held) (e : _) → Suits (Cut inputs true h [] (Before h)) (undecided e) → h.rest ≡ []
unfolding front_of
open_none inputs h e suits = let used : ℕ = h.used in let bytes : List ℕ = h.rest in elim (cases_Bool (nat_lt (judge bytes) (length bytes))) [
  | inl t ↦
      let e1 = rw t at e in
      elim (cases_Bool (nat_lt (used + judge bytes) most_bytes)) [
        | inl u ↦
            let e2 = rw u at e1 in
            elim (cases_Bool (nat_lt (reach bytes) (run bytes))) [ inl r ↦ let e3 = rw r at e2 in absurd (cc e3) | inr r ↦ let e3 = rw r at e2 in absurd (cc e3) ]
        | inr u ↦ let e2 = rw u at e1 in absurd (cc e2)
      ]
  | inr t ↦
      let e1 = rw t at e in
      elim (cases_Bool (nat_lt most_bytes (used + length bytes))) [
        | inl p ↦ let e2 = rw p at e1 in absurd (cc e2)
        | inr p ↦
            let e2 = rw p at e1 in
            elim (cases_Bool (length bytes == 0)) [
              | inl s ↦ nil_from_length bytes (eqb-true (length bytes) 0 s)
              | inr s ↦
                  let e3 = rw s at e2 in
                  elim (cases_Bool (nat_lt longest_line (length bytes))) [ inl v ↦ let e4 = rw v at e3 in absurd (cc e4) | inr v ↦ let e4 = rw v at e3 in absurd (cc e4) ]
            ]
      ]
]

-- Bytes with more before their first line feed than a line may have, or without one and with more than a line may have.
abbrev IsLong : List ℕ → Type 0
IsLong bytes = ((reach bytes < run bytes) × (reach bytes < length bytes)) ⊎ ((length bytes ≤ run bytes) × (longest_line < length bytes))

-- what tests say of them
long_ended : (bytes : List ℕ) → nat_lt (judge bytes) (length bytes) ≡ true → nat_lt (reach bytes) (run bytes) ≡ true → IsLong bytes
long_ended bytes t r =
    let inside : judge bytes < length bytes = ltb-true (judge bytes) (length bytes) t in
    let far : reach bytes < run bytes = ltb-true (reach bytes) (run bytes) r in
    inl (far, omega arith)

long_whole : (bytes : List ℕ) → nat_lt (judge bytes) (length bytes) ≡ false → nat_lt longest_line (length bytes) ≡ true → IsLong bytes
long_whole bytes t v =
    let far : length bytes ≤ judge bytes = ltb-false (judge bytes) (length bytes) t in
    inr (omega arith, ltb-true longest_line (length bytes) v)

long_front : (inputs : List InputSpec) (h : Held) (e : _) → Suits (Cut inputs true h [] (At (BadLine (h.lines + 1)))) (long e) → IsLong h.rest
unfolding front_of
long_front inputs h e suits = let used : ℕ = h.used in let bytes : List ℕ = h.rest in elim (cases_Bool (nat_lt (judge bytes) (length bytes))) [
  | inl t ↦
      let e1 = rw t at e in
      elim (cases_Bool (nat_lt (used + judge bytes) most_bytes)) [
        | inl u ↦
            let e2 = rw u at e1 in
            elim (cases_Bool (nat_lt (reach bytes) (run bytes))) [ inl r ↦ long_ended bytes t r | inr r ↦ let e3 = rw r at e2 in absurd (cc e3) ]
        | inr u ↦ let e2 = rw u at e1 in absurd (cc e2)
      ]
  | inr t ↦
      let e1 = rw t at e in
      elim (cases_Bool (nat_lt most_bytes (used + length bytes))) [
        | inl p ↦ let e2 = rw p at e1 in absurd (cc e2)
        | inr p ↦
            let e2 = rw p at e1 in
            elim (cases_Bool (length bytes == 0)) [
              | inl s ↦ let e3 = rw s at e2 in absurd (cc e3)
              | inr s ↦
                  let e3 = rw s at e2 in
                  elim (cases_Bool (nat_lt longest_line (length bytes))) [ inl v ↦ long_whole bytes t v | inr v ↦ let e4 = rw v at e3 in absurd (cc e4) ]
            ]
      ]
]

-- a line that is too long is so whatever follows
long_more : (inputs : List InputSpec) (closed : Bool) (h : Held) (more : List ℕ) (e : _) → Suits (Cut inputs closed h [] (At (BadLine (h.lines + 1)))) (long e) → (closed ≡ true → more ≡ []) → IsLong (h.rest ++ more)
long_more inputs true h more e suits shut =
    long_front inputs (with_more h more) (ap (λ m. front_of true h.used (h.rest ++ m)) (shut refl) ∙ ap (front_of true h.used) (append-nil h.rest) ∙ e) tt
long_more inputs false h more e suits shut = long_front inputs (with_more h more) (front_more true h.used h.rest more (λ o. cc (sym e ∙ o)) ∙ e) tt

-- it has more bytes than a line may have, also without a carriage return at its end
long_content : (bytes : List ℕ) → reach bytes < run bytes → longest_line < content_of bytes (run bytes)
long_content bytes far = elim (cases_Bool (get_or bytes longest_line 0 == 13)) [
  | inl t ↦
      let r : reach bytes ≡ longest_line + 1 = ap (λ b. cond b (longest_line + 1) longest_line) t in
      cond_both (get_or bytes (run bytes - 1) 0 == 13) (run bytes - 1) (run bytes) (λ n. longest_line < n) (λ e. omega arith) (λ e. omega arith)
  | inr t ↦
      let r : reach bytes ≡ longest_line = ap (λ b. cond b (longest_line + 1) longest_line) t in
      elim (cases_Bool (nat_lt (longest_line + 1) (run bytes))) [
        | inl k ↦
            let far_off : longest_line + 1 < run bytes = ltb-true (longest_line + 1) (run bytes) k in
            cond_both (get_or bytes (run bytes - 1) 0 == 13) (run bytes - 1) (run bytes) (λ n. longest_line < n) (λ e. omega arith) (λ e. omega arith)
        | inr k ↦
            let near : run bytes ≤ longest_line + 1 = ltb-false (longest_line + 1) (run bytes) k in
            let last : run bytes - 1 ≡ longest_line = omega arith in
            let all : content_of bytes (run bytes) ≡ run bytes = ap (λ b. cond b (run bytes - 1) (run bytes)) (ap (λ i. get_or bytes i 0 == 13) last ∙ t) in
            omega (arith, all)
      ]
]

-- the first line of bytes has more bytes than a line may have
record LongLine (bytes : List ℕ) : Type 0 where
  line : List ℕ
  others : List (List ℕ)
  is : lines bytes ≡ line ∷ others
  far : longest_line < length line

long_line : (bytes : List ℕ) → IsLong bytes → LongLine bytes
long_line bytes h = elim (cases_Bool (nat_lt (run bytes) (length bytes))) [
  | inl w ↦
      let within : run bytes < length bytes = ltb-true (run bytes) (length bytes) w in
      let behind : reach bytes < run bytes = elim h [ inl r ↦ r.0 | inr r ↦ absurd (omega (arith, r.0)) ] in
      let inner = content_within bytes (run bytes) in
      let all : length (strip_carriage_return (take (run bytes) bytes)) ≡ content_of bytes (run bytes) =
      ap length (strip_is bytes (run bytes) (omega arith)) ∙ length-take-le (content_of bytes (run bytes)) bytes (omega arith) in
      let more = long_content bytes behind in
      record {
        line = strip_carriage_return (take (run bytes) bytes);
        others = lines (drop (run bytes + 1) bytes);
        is = lines_at bytes within;
        far = omega (arith, all);
      }
  | inr w ↦
      let open_end : length bytes ≤ run bytes = ltb-false (run bytes) (length bytes) w in
      let range = reach_range bytes in
      let many : longest_line < length bytes = elim h [ inl r ↦ omega (arith, r.1) | inr r ↦ r.1 ] in
      let some : (length bytes == 0) ≡ false = elim (cases_Bool (length bytes == 0)) [
        | inl s ↦ let none : length bytes ≡ 0 = eqb-true (length bytes) 0 s in absurd (omega arith)
        | inr s ↦ s
      ] in
      record { line = bytes; others = []; is = one_line bytes open_end some; far = many }
]

-- What fields say that are not refused: none nothing, and two what a name and a spelled value say.
told_fields : (inputs : List InputSpec) (fs : List (List ℕ)) (k : _) → FieldsSay inputs fs k → refusal 1 k ≡ None →
    ((fs ≡ []) × FieldsSay inputs [] k) ⊎ ((name : List ℕ) × (spelled : List ℕ) × (fs ≡ name ∷ spelled ∷ []) × PairSays inputs name spelled k)
told_fields inputs [] k h r = inl (refl, h)
told_fields inputs (a ∷ []) k h r = let bad : refusal 1 k ≡ Some (BadLine 1) = ap (refusal 1) h in absurd (cc (sym r ∙ bad))
told_fields inputs (a ∷ b ∷ []) k h r = inr (a, b, refl, h)
told_fields inputs (a ∷ b ∷ c ∷ fs) k h r = let bad : refusal 1 k ≡ Some (BadLine 1) = ap (refusal 1) h in absurd (cc (sym r ∙ bad))

-- fields that are refused are some
refused_fields : (inputs : List InputSpec) (fs : List (List ℕ)) (k : _) (n : ℕ) (f : TextFault) → FieldsSay inputs fs k → refusal n k ≡ Some f → fs ≢ []
refused_fields inputs [] k n f h r = let bad : refusal n k ≡ None = ap (refusal n) h in absurd (cc (sym r ∙ bad))
refused_fields inputs (a ∷ fs) k n f h r = λ e. cc e

-- what follows where a line says what two fields say, follows of them
by_fields : (R : Type 0) (inputs : List InputSpec) (line name spelled : List ℕ) (k : _) → (IsKind inputs line k → R) → line_fields line ≡ name ∷ spelled ∷ [] → PairSays inputs name spelled k → R
by_fields R inputs line name spelled k step split pair = step (subst (λ fs. FieldsSay inputs fs k) (sym split) pair)

-- and a line that is refused says no item, since its bytes have one cut
unsaid : (inputs : List InputSpec) (closed : Bool) (h : Held) (c n : ℕ) (k : _) (f : TextFault) (e : _) → Suits (WithinBytes h.rest c n) (line_within closed h.used h.rest c n e) → IsKind inputs (take c h.rest) k →
    refusal (h.lines + 1) k ≡ Some f → (x : ItemOf) → LineSays inputs (take c h.rest) x → ⊥
unsaid inputs closed h c n k f e suits is r x (name, spelled, input, split, at, spells) =
    let rest = some_cut inputs closed (past h n) in
    let it : ItemOf = record { stream = x.stream; value = x.value } in
    let R : Type 0 = Cut inputs closed h (it ∷ rest.0) rest.1 in
    let said : R = by_fields R inputs (take c h.rest) name spelled _ (λ told. item {stream = x.stream} {value = x.value} e told rest.2) split (input, at, spells) in
    let bad : [] ≡ it ∷ rest.0 = (one_cut (refused k e is r) said).0 in
    cc bad

-- what the first lines say of what is held and of what follows it, with the stop of its items, where that is a line the next one
pub record Lined (inputs : List InputSpec) (closed : Bool) (h : Held) (more : List ℕ) (items : List ItemOf) (stop : Stop) : Type 0 where
  pub many : ℕ
  pub say : LinesSay inputs (take many (lines (h.rest ++ more))) items
  pub all : closed ≡ true → (g : Held) → stop ≡ Before g → many ≡ length (lines (h.rest ++ more))
  pub next : (f : TextFault) → stop ≡ At f → f ≢ TooLong → IsSomeAnd (slice_get (lines (h.rest ++ more)) many) (LineFails inputs)

module _ (input : InputSpec) (others : List InputSpec) (closed : Bool) where
  abbrev inputs : List InputSpec
  inputs = input ∷ others

  behind_line : (h : Held) (more line : List ℕ) (n : ℕ) (items now : List ItemOf) (stop : Stop) → lines (h.rest ++ more) ≡ line ∷ lines (drop n h.rest ++ more) →
      (rest : Lined inputs closed (past h n) more items stop) → LinesSay inputs (line ∷ take rest.many (lines (drop n h.rest ++ more))) now → Lined inputs closed h more now stop
  behind_line h more line n items now stop ls rest say = record {
    many = suc rest.many;
    say = subst (λ l. LinesSay inputs (take (suc rest.many) l) now) (sym ls) say;
    all = λ shut g s. ap suc (rest.all shut g s) ∙ ap length (sym ls);
    next = λ f s short. subst (λ l. IsSomeAnd (slice_get l (suc rest.many)) (LineFails inputs)) (sym ls) (rest.next f s short);
  }

  stopped : (h : Held) (more : List ℕ) (f : TextFault) → (f ≢ TooLong → IsSomeAnd (slice_get (lines (h.rest ++ more)) 0) (LineFails inputs)) → Lined inputs closed h more [] (At f)
  stopped h more f fails = record {
    many = 0;
    say = refl;
    all = λ shut g s. absurd (cc s);
    next = λ g s short. let same : g ≡ f = cc s in fails (λ t. short (same ∙ t));
  }

  stopped_line : (h : Held) (more line : List ℕ) (others : List (List ℕ)) (f : TextFault) → lines (h.rest ++ more) ≡ line ∷ others → LineFails inputs line → Lined inputs closed h more [] (At f)
  stopped_line h more line others f ls fails = stopped h more f (λ short. subst (λ l. IsSomeAnd (slice_get l 0) (LineFails inputs)) (sym ls) fails)

  pub cut_lines : {h : Held} {items : List ItemOf} {stop : Stop} → Cut inputs closed h items stop → (more : List ℕ) → (closed ≡ true → more ≡ []) → Lined inputs closed h more items stop
  cut_lines {h = h} {stop = stop} (blank {content = c} {length = n} {items = items} e said cut) more shut =
      let rest : Lined inputs closed (past h n) more items stop = cut_lines cut more shut in
      let none : line_fields (take c h.rest) ≡ [] = elim (told_fields inputs (line_fields (take c h.rest)) _ said refl) [ inl f ↦ f.0 | inr (name, spelled, f, pair) ↦ absurd pair ] in
      let first = line_first closed h.used h.rest c n e tt in
      behind_line h more (take c h.rest) n items items stop (first_lines closed h.rest more c n first shut) rest (first_short closed h.rest c n first, inl (none, rest.say))
  cut_lines {h = h} {stop = stop} (item {content = c} {length = n} {stream = number} {value = value} {items = items} e said cut) more shut =
      let rest : Lined inputs closed (past h n) more items stop = cut_lines cut more shut in
      let it : ItemOf = record { stream = number; value = value } in
      let says : LineSays inputs (take c h.rest) it =
      elim (told_fields inputs (line_fields (take c h.rest)) _ said refl) [ inl f ↦ absurd (cc f.1) | inr (name, spelled, f, pair) ↦ (name, spelled, pair.0, f, pair.1, pair.2) ] in
      let first = line_first closed h.used h.rest c n e tt in
      behind_line h more (take c h.rest) n items (it ∷ items) stop (first_lines closed h.rest more c n first shut) rest (first_short closed h.rest c n first, inr (it, items, says, rest.say, refl))
  cut_lines {h = h} (refused {content = c} {length = n} {f = f} k e is r) more shut =
      stopped_line h more (take c h.rest) (lines (drop n h.rest ++ more)) f (first_lines closed h.rest more c n (line_first closed h.used h.rest c n e tt) shut)
      (λ none. cc none, inr (refused_fields inputs (line_fields (take c h.rest)) k (h.lines + 1) f is r, unsaid inputs closed h c n k f e tt is r))
  cut_lines {h = h} (long e) more shut =
      let it = long_line (h.rest ++ more) (long_more inputs closed h more e tt shut) in
      stopped_line h more it.line it.others (BadLine (h.lines + 1)) it.is (λ none. cc none, inl it.far)
  cut_lines {h = h} (too_long e) more shut = stopped h more TooLong (λ short. absurd (short refl))
  cut_lines {h = h} (undecided e) more shut = record {
    many = 0;
    say = refl;
    all = λ k g s. ap (λ m. length (lines m)) (sym (ap (λ r. r ++ more) (open_none inputs h (ap (λ b. front_of b h.used h.rest) (sym k) ∙ e) tt) ∙ shut k));
    next = λ f s short. absurd (cc s);
  }
