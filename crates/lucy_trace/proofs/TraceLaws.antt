-- The lines of rounds are a log of their events.
use Rattle.std.proofs.Common.{ℕ, ◌+◌, ◌-◌, ◌%◌, ◌<◌, ◌≤◌, ◌≡◌, ◌^◌, true, false, eqb, List, [], ◌∷◌, ◌++◌, map, length, get_or, take, Ok, Some, refl, ap, sym, ◌∙◌, subst, arith, append_assoc}
use Rattle.std.specs.Prelude.{All, ◌&&◌, nat_le, None, if◌then◌else◌, ok_or}
use Rattle.std.specs.Fmt.{decimal}
use Rattle.std.specs.List.{concat, join_with_byte}
use Rattle.std.specs.Str.{all_ascii_digits}
use Rattle.std.specs.Str.Parse.{digits_value}
use Rattle.std.proofs.lemmas.Bool.{ne_eqb, le-leb, and_from}
use Rattle.std.proofs.lemmas.Fmt.{decimal_by_steps, decimal_nonempty, digits_decimal, digits_value-decimal, length-decimal-le}
use Rattle.std.proofs.lemmas.List.{take_more, length-take-le}
use Rattle.std.proofs.lemmas.List.Elements.{All-nil, All-cons, All-head, All-tail, All-push}
use Rattle.lucy_fields.specs.Fields.{is_blank, fields_from}
use Rattle.lucy_fields.specs.Numbers.{number_of}
use Rattle.lucy_fields.specs.Readings.{reading}
use Rattle.lucy_fields.specs.Steps.{IsFull}
use Rattle.lucy_fields.proofs.FieldLaws.{blank_passed, field_first, nothing_left}
use Rattle.lucy_fields.proofs.NumberLaws.{numerals}
use Rattle.lucy_trace.specs.Logs.{pick_of}
use Rattle.lucy_trace.specs.Traces.{round_line, trace_text}

-- digits of a number that is neither too small nor too great
number_is : (digits least most v : ℕ) (bytes : List ℕ) → 0 < length bytes → length bytes ≤ digits → all_ascii_digits bytes ≡ true → digits_value 10 bytes ≡ v → least ≤ v → v ≤ most →
    number_of digits least most bytes ≡ Some v
number_is digits least most v [] some few digit value low high = absurd (omega arith)
number_is digits least most v (b ∷ bytes) some few digit value low high =
    let is : ℕ = digits_value 10 (b ∷ bytes) in
    let test : (nat_le (length (b ∷ bytes)) digits && (all_ascii_digits (b ∷ bytes) && (nat_le least is && nat_le is most))) ≡ true =
    and_from (nat_le (length (b ∷ bytes)) digits) _ (le-leb (length (b ∷ bytes)) digits few)
    (and_from (all_ascii_digits (b ∷ bytes)) _ digit (and_from (nat_le least is) _ (le-leb least is (omega arith)) (le-leb is most (omega arith)))) in
    ap (λ t. if t then Some is else None) test ∙ ap Some value

pick_decimal : (a : ℕ) → a < 2 ^ 32 → pick_of (decimal a) ≡ Some a
pick_decimal a l =
    number_is 10 0 (2 ^ 32 - 1) a (decimal a) (decimal_nonempty a (omega arith)) (length-decimal-le 10 a (omega arith) (omega arith) (omega arith))
    (digits_decimal numerals a (omega arith)) (digits_value-decimal numerals a (omega arith)) (omega arith) (omega arith)

-- no digit is a blank
not_blank : (c : ℕ) → 47 < c → is_blank c ≡ false
not_blank c l =
    let space : eqb c 32 ≡ false = ne_eqb c 32 (λ (e : c ≡ 32). absurd (omega arith)) in
    let tab : eqb c 9 ≡ false = ne_eqb c 9 (λ (e : c ≡ 9). absurd (omega arith)) in
    let carriage : eqb c 13 ≡ false = ne_eqb c 13 (λ (e : c ≡ 13). absurd (omega arith)) in
    let feed : eqb c 10 ≡ false = ne_eqb c 10 (λ (e : c ≡ 10). absurd (omega arith)) in
    rw (space, tab, carriage, feed)

full_decimal : (a : ℕ) → a < 2 ^ 64 → IsFull (decimal a)
full_decimal a l =
    decimal_by_steps (λ (n : ℕ) (ds : List ℕ). IsFull ds)
    (λ n small. All-cons (λ c. is_blank c ≡ false) (48 + n) [] (not_blank (48 + n) (omega arith)) (All-nil (λ c. is_blank c ≡ false)))
    (λ n ds large full. All-push (λ c. is_blank c ≡ false) ds (48 + n % 10) full (not_blank (48 + n % 10) (omega arith)))
    a l

-- a field, and a blank behind it
field_then : (at sep : ℕ) (field rest : List ℕ) → 0 < length field → IsFull field → is_blank sep ≡ true →
    fields_from at (field ++ sep ∷ rest) ≡ (at, field) ∷ fields_from (at + length field + 1) rest
field_then at sep [] rest some full blank = absurd (omega arith)
field_then at sep (c ∷ field) rest some full blank =
    field_first at c field (sep ∷ rest) full blank
    ∙ ap (λ fs. (at, c ∷ field) ∷ fs) (blank_passed (at + length (c ∷ field)) sep rest blank)

-- the text has these actors, wherever it begins
abbrev pub Reads : (text picks : List ℕ) → Type 0
Reads text picks = (at : ℕ) → map (reading pick_of) (fields_from at text) ≡ map (λ v. Ok v) picks

actor_reads : (a sep : ℕ) (rest more : List ℕ) → a < 2 ^ 32 → is_blank sep ≡ true → Reads rest more → Reads (decimal a ++ sep ∷ rest) (a ∷ more)
actor_reads a sep rest more l blank h at =
    let after : ℕ = at + length (decimal a) + 1 in
    let first : reading pick_of (at, decimal a) ≡ Ok a = ap (λ o. ok_or o at) (pick_decimal a l) in
    let all : map (reading pick_of) (fields_from at (decimal a ++ sep ∷ rest)) ≡ reading pick_of (at, decimal a) ∷ map (reading pick_of) (fields_from after rest) =
    ap (map (reading pick_of)) (field_then at sep (decimal a) rest (decimal_nonempty a (omega arith)) (full_decimal a (omega arith)) blank) in
    let others : map (reading pick_of) (fields_from after rest) ≡ map (λ v. Ok v) more = h after in
    cc

line_reads : (picks rest more : List ℕ) → All (λ a. a < 2 ^ 32) picks → Reads rest more → Reads (round_line picks ++ rest) (picks ++ more)
line_reads [] rest more all h = λ at. ap (map (reading pick_of)) (blank_passed at 10 rest refl) ∙ h (at + 1)
line_reads (a ∷ []) rest more all h =
    subst (λ text. Reads text (a ∷ more)) (sym (append_assoc (decimal a) (10 ∷ []) rest))
    (actor_reads a 10 rest more (All-head (λ a. a < 2 ^ 32) a [] all) refl h)
line_reads (a ∷ b ∷ picks) rest more all h =
    let later : List ℕ = join_with_byte 32 (map decimal (b ∷ picks)) in
    let joined : round_line (a ∷ b ∷ picks) ++ rest ≡ decimal a ++ 32 ∷ (round_line (b ∷ picks) ++ rest) =
    ap (λ t. t ++ rest) (append_assoc (decimal a) (32 ∷ later) (10 ∷ [])) ∙ append_assoc (decimal a) (32 ∷ (later ++ 10 ∷ [])) rest in
    subst (λ text. Reads text (a ∷ ((b ∷ picks) ++ more))) (sym joined)
    (actor_reads a 32 (round_line (b ∷ picks) ++ rest) ((b ∷ picks) ++ more) (All-head (λ a. a < 2 ^ 32) a (b ∷ picks) all) refl
    (line_reads (b ∷ picks) rest more (All-tail (λ a. a < 2 ^ 32) a (b ∷ picks) all) h))

all_first : (P : ℕ → Type 0) (xs ys : List ℕ) → All P (xs ++ ys) → All P xs
all_first P [] ys all = All-nil P
all_first P (x ∷ xs) ys all = All-cons P x xs (All-head P x (xs ++ ys) all) (all_first P xs ys (All-tail P x (xs ++ ys) all))

all_rest : (P : ℕ → Type 0) (xs ys : List ℕ) → All P (xs ++ ys) → All P ys
all_rest P [] ys all = all
all_rest P (x ∷ xs) ys all = all_rest P xs ys (All-tail P x (xs ++ ys) all)

pub trace_reads : (rounds : List (List ℕ)) → All (λ a. a < 2 ^ 32) (concat rounds) → Reads (trace_text rounds) (concat rounds)
trace_reads [] all = λ at. ap (map (reading pick_of)) (nothing_left at [] tt tt)
trace_reads (picks ∷ rounds) all =
    line_reads picks (trace_text rounds) (concat rounds) (all_first (λ a. a < 2 ^ 32) picks (concat rounds) all)
    (trace_reads rounds (all_rest (λ a. a < 2 ^ 32) picks (concat rounds) all))

-- one piece more behind others
join_more : (sep : ℕ) (p : List ℕ) (pieces : List (List ℕ)) (x : List ℕ) → join_with_byte sep ((p ∷ pieces) ++ x ∷ []) ≡ join_with_byte sep (p ∷ pieces) ++ sep ∷ x
join_more sep p [] x = refl
join_more sep p (q ∷ pieces) x = ap (λ t. p ++ sep ∷ t) (join_more sep q pieces x) ∙ sym (append_assoc p (sep ∷ join_with_byte sep (q ∷ pieces)) (sep ∷ x))

map_push : (picks : List ℕ) (a : ℕ) → map decimal (picks ++ a ∷ []) ≡ map decimal picks ++ decimal a ∷ []
map_push [] a = refl
map_push (b ∷ picks) a = ap (λ t. decimal b ∷ t) (map_push picks a)

actors_push : (picks : List ℕ) (a : ℕ) (line new : List ℕ) → line ≡ join_with_byte 32 (map decimal picks) →
    (eqb (length picks) 0 ≡ true → new ≡ line ++ decimal a) → (eqb (length picks) 0 ≡ false → new ≡ line ++ 32 ∷ decimal a) → new ≡ join_with_byte 32 (map decimal (picks ++ a ∷ []))
actors_push [] a line new e first later = first refl ∙ ap (λ t. t ++ decimal a) e
actors_push (b ∷ picks) a line new e first later =
    later (ne_eqb (length (b ∷ picks)) 0 (λ (f : length (b ∷ picks) ≡ 0). absurd (omega arith))) ∙ ap (λ t. t ++ 32 ∷ decimal a) e ∙ sym (ap (join_with_byte 32) (map_push (b ∷ picks) a) ∙ join_more 32 (decimal b) (map decimal picks) (decimal a))

-- a line with one actor more
pub actors_more : (picks : List ℕ) (i : ℕ) (line new : List ℕ) → i < length picks → line ≡ join_with_byte 32 (map decimal (take i picks)) →
    (eqb i 0 ≡ true → new ≡ line ++ decimal (get_or picks i 0)) → (eqb i 0 ≡ false → new ≡ line ++ 32 ∷ decimal (get_or picks i 0)) →
    new ≡ join_with_byte 32 (map decimal (take (i + 1) picks))
actors_more picks i line new l e first later =
    let count : i ≡ length (take i picks) = omega (arith, length-take-le i picks (omega arith)) in
    actors_push (take i picks) (get_or picks i 0) line new e (λ f. first (ap (λ n. eqb n 0) count ∙ f)) (λ f. later (ap (λ n. eqb n 0) count ∙ f))
    ∙ ap (λ xs. join_with_byte 32 (map decimal xs)) (sym (take_more picks i 0 l))
