-- How many steps a dump has.
use Rattle.std.proofs.Common.{ℕ, suc, zero, ◌+◌, ◌≡◌, Bool, true, false, List, [], ◌∷◌, ◌++◌, length, length-append, refl, ap, ap₂, sym, ◌∙◌, append_assoc, arith}
use Rattle.std.specs.Prelude.{nat_eq, filter, codes, if◌then◌else◌}
use Rattle.std.specs.List.{AllByRecursion}
use Rattle.std.proofs.lemmas.List.Elements.{filter-append}
use Rattle.lucy_wave.specs.Dumps.{Variable, code_of, declarations, time_line, change_line, is_changed, change, changes, steps, header, dump, text_of}
use Rattle.lucy_wave.specs.Reading.{sets_time, time_lines, HasSteps}
use Rattle.lucy_wave.specs.Laws.{OneCount}
use Rattle.lucy_wave.proofs.ReadLaws.{Free, either, cut_once}

-- no line of the header sets a time
declarations_no_time : (vs : List Variable) (k : ℕ) → filter sets_time (declarations k vs) ≡ []
declarations_no_time [] k = refl
declarations_no_time (v ∷ vs) k = declarations_no_time vs (k + 1)

header_no_time : (scope : List ℕ) (vs : List Variable) → filter sets_time (header scope vs) ≡ []
header_no_time scope vs =
    filter-append sets_time (declarations 0 vs) (codes "$upscope $end" ∷ (codes "$enddefinitions $end" ∷ [])) ∙ ap (λ ls. ls ++ []) (declarations_no_time vs 0)

-- and no change
change_no_time : (wide : Bool) (code : List ℕ) (value : ℕ) → sets_time (change_line wide code value) ≡ false
change_no_time true code value = refl
change_no_time false code value = either (λ digit. nat_eq digit 35 ≡ false) (nat_eq value 0) 48 49 refl refl

one_no_time : (line : List ℕ) → sets_time line ≡ false → filter sets_time (line ∷ []) ≡ []
one_no_time line e = ap (λ b. if b then line ∷ [] else []) e

changes_no_time : (vs : List Variable) (k t : ℕ) → filter sets_time (changes k vs t) ≡ []
changes_no_time [] k t = refl
changes_no_time (v ∷ vs) k t =
    let line : List ℕ = change_line v.is_wide (code_of k) (v.value t) in
    let own : filter sets_time (change k v t) ≡ [] =
    either (λ ls. filter sets_time ls ≡ []) (is_changed v.value t) (line ∷ []) [] (one_no_time line (change_no_time v.is_wide (code_of k) (v.value t))) refl in
    filter-append sets_time (change k v t) (changes (k + 1) vs t) ∙ ap₂ (λ xs ys. xs ++ ys) own (changes_no_time vs (k + 1) t)

-- each step sets its own
steps_times : (vs : List Variable) (t : ℕ) → filter sets_time (steps vs t) ≡ time_lines t
unfolding steps
steps_times vs zero = refl
steps_times vs (suc t) =
    filter-append sets_time (steps vs t) (time_line (suc t) ∷ changes 0 vs (suc t))
    ∙ ap₂ (λ xs ys. xs ++ time_line (suc t) ∷ ys) (steps_times vs t) (changes_no_time vs 0 (suc t))

pub dump_steps : (scope : List ℕ) (vs : List Variable) (t : ℕ) → HasSteps (dump scope vs t) t
dump_steps scope vs t =
    let last : List (List ℕ) = time_line (suc t) ∷ [] in
    filter-append sets_time (header scope vs) (steps vs t ++ last)
    ∙ ap₂ (λ xs ys. xs ++ ys) (header_no_time scope vs) (filter-append sets_time (steps vs t) last ∙ ap (λ xs. xs ++ last) (steps_times vs t))

-- a text has one list of lines
line_text : (line : List ℕ) (lines : List (List ℕ)) → text_of (line ∷ lines) ≡ line ++ 10 ∷ text_of lines
line_text line lines = append_assoc line (10 ∷ []) (text_of lines)

never_empty : (line rest : List ℕ) → [] ≡ line ++ 10 ∷ rest → ⊥
never_empty [] rest e = cc
never_empty (byte ∷ line) rest e = cc

lines_once : (xs ys : List (List ℕ)) → AllByRecursion (Free 10) xs → AllByRecursion (Free 10) ys → text_of xs ≡ text_of ys → xs ≡ ys
lines_once [] [] f g e = refl
lines_once [] (y ∷ ys) f g e = absurd (never_empty y (text_of ys) (e ∙ line_text y ys))
lines_once (x ∷ xs) [] f g e = absurd (never_empty x (text_of xs) (sym e ∙ line_text x xs))
lines_once (x ∷ xs) (y ∷ ys) f g e =
    let cut = cut_once 10 x y (text_of xs) (text_of ys) f.0 g.0 (sym (line_text x xs) ∙ e ∙ line_text y ys) in
    ap₂ (λ line lines. line ∷ lines) cut.0 (lines_once xs ys f.1 g.1 cut.1)

-- so many times have so many lines
times_count : (t : ℕ) → length (time_lines t) ≡ t
times_count zero = refl
times_count (suc t) =
    let before = times_count t in
    let more : length (time_lines (suc t)) ≡ length (time_lines t) + 1 = length-append (time_lines t) (time_line (suc t) ∷ []) in omega arith

-- a text says one count
pub count_once : OneCount
count_once text outputs count other output out (lines, are, has, says) (others, also, had, said) =
    let same : lines ≡ others = lines_once lines others are.1 also.1 (sym are.0 ∙ also.0) in
    let times : time_lines (suc count) ≡ time_lines (suc other) = sym has ∙ ap (filter sets_time) same ∙ had in
    let lengths : suc count ≡ suc other = sym (times_count (suc count)) ∙ ap length times ∙ times_count (suc other) in omega arith
