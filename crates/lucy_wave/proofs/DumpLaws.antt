-- The text of a dump, line by line.
use Rattle.std.proofs.Common.{Bool, ℕ, suc, ◌+◌, ◌<◌, ◌≡◌, List, [], ◌∷◌, ◌++◌, length, drop, get_or, ap, sym, ◌∙◌, subst, append_assoc, append-nil, arith}
use Rattle.std.proofs.lemmas.List.Concat.{flat_map-append}
use Rattle.std.specs.Prelude.{codes}
use Rattle.lucy_wave.specs.declared.variable.Variable.{Variable as Shown}
use Rattle.lucy_wave.specs.Dumps.{Variable, code_of, kind_of, declaration, declarations, time_line, change, changes, steps, header, dump, text_of}
use Rattle.lucy_wave.specs.Seen.{seen, all_seen}
use Rattle.lucy_wave.proofs.PieceLaws.{pieces, mapped_split}

pub text_append : (xs ys : List (List ℕ)) → text_of (xs ++ ys) ≡ text_of xs ++ text_of ys
text_append xs ys = flat_map-append (λ (line : List ℕ). line ++ codes "\n") xs ys

-- the text of one line
pub text_one : (line : List ℕ) → text_of (line ∷ []) ≡ line ++ codes "\n"
text_one line = append-nil (line ++ codes "\n")

-- the text of the line that declares a variable
pub declaration_text : (is_wide : Bool) (code name : List ℕ) →
    text_of (declaration is_wide code name ∷ []) ≡ codes "$var " ++ (kind_of is_wide ++ ((code ++ codes " ") ++ (name ++ codes " $end\n")))
declaration_text is_wide code name =
    let kind : List ℕ = kind_of is_wide in
    let named : List ℕ = name ++ codes " $end" in
    text_one (declaration is_wide code name)
    ∙ ap (λ x. codes "$var " ++ x) (append_assoc kind (code ++ (codes " " ++ named)) (codes "\n")
    ∙ ap (λ x. kind ++ x) (append_assoc code (codes " " ++ named) (codes "\n")
    ∙ ap (λ x. code ++ (codes " " ++ x)) (append_assoc name (codes " $end") (codes "\n"))
    ∙ sym (append_assoc code (codes " ") (name ++ codes " $end\n"))))

-- the changes of one variable more
pub changes_more : (vs : List Shown) (i t : ℕ) (v : Shown) (old new whole : List ℕ) → i < length vs → v ≡ get_or vs i v → new ≡ old ++ text_of (change i (seen v) t) →
    old ++ text_of (changes i (drop i (all_seen vs)) t) ≡ whole → new ++ text_of (changes (i + 1) (drop (i + 1) (all_seen vs)) t) ≡ whole
changes_more vs i t v old new whole h is more before =
    let rest : List Variable = drop (i + 1) (all_seen vs) in
    let split = ap (λ xs. text_of (changes i xs t)) (mapped_split seen vs i v h is) ∙ text_append (change i (seen v) t) (changes (i + 1) rest t) in
    pieces old new whole (text_of (change i (seen v) t)) (text_of (changes i (drop i (all_seen vs)) t)) (text_of (changes (i + 1) rest t)) more split before

-- the declaration of one more
pub declarations_more : (vs : List Shown) (i : ℕ) (v : Shown) (old new whole : List ℕ) → i < length vs → v ≡ get_or vs i v →
    new ≡ old ++ text_of (declaration (seen v).is_wide (code_of i) (seen v).name ∷ []) → old ++ text_of (declarations i (drop i (all_seen vs))) ≡ whole →
    new ++ text_of (declarations (i + 1) (drop (i + 1) (all_seen vs))) ≡ whole
declarations_more vs i v old new whole h is more before =
    let rest : List Variable = drop (i + 1) (all_seen vs) in
    let line : List ℕ = declaration (seen v).is_wide (code_of i) (seen v).name in
    let split = ap (λ xs. text_of (declarations i xs)) (mapped_split seen vs i v h is) ∙ text_append (line ∷ []) (declarations (i + 1) rest) in
    pieces old new whole (text_of (line ∷ [])) (text_of (declarations i (drop i (all_seen vs)))) (text_of (declarations (i + 1) rest)) more split before

-- the text of one step more
steps_text : (vs : List Variable) (t : ℕ) → text_of (steps vs (suc t)) ≡ text_of (steps vs t) ++ (text_of (time_line (suc t) ∷ []) ++ text_of (changes 0 vs (suc t)))
unfolding steps
steps_text vs t =
    text_append (steps vs t) (time_line (suc t) ∷ changes 0 vs (suc t))
    ∙ ap (λ x. text_of (steps vs t) ++ x) (text_append (time_line (suc t) ∷ []) (changes 0 vs (suc t)))

pub no_steps : (vs : List Variable) (old : List ℕ) → old ≡ old ++ text_of (steps vs 0)
unfolding steps
no_steps vs old = sym (append-nil old)

pub steps_more : (vs : List Variable) (t : ℕ) (first old mid new : List ℕ) → old ≡ first ++ text_of (steps vs t) → mid ≡ old ++ text_of (time_line (t + 1) ∷ []) → new ≡ mid ++ text_of (changes 0 vs (t + 1)) →
    new ≡ first ++ text_of (steps vs (t + 1))
steps_more vs t first old mid new before timed more =
    let next : suc t ≡ t + 1 = omega arith in
    let S : List ℕ = text_of (steps vs t) in
    let T : List ℕ = text_of (time_line (t + 1) ∷ []) in
    let C : List ℕ = text_of (changes 0 vs (t + 1)) in
    let split : text_of (steps vs (t + 1)) ≡ S ++ (T ++ C) =
    subst (λ n. text_of (steps vs n) ≡ S ++ (text_of (time_line n ∷ []) ++ text_of (changes 0 vs n))) next (steps_text vs t) in
    more ∙ ap (λ x. x ++ C) (timed ∙ ap (λ x. x ++ T) before) ∙ append_assoc (first ++ S) T C ∙ append_assoc first S (T ++ C) ∙ ap (λ x. first ++ x) (sym split)

-- the text above the steps
pub header_text : (scope : List ℕ) (vs : List Variable) →
    text_of (header scope vs)
    ≡ codes "$timescale 1 ns $end\n$scope module " ++ (scope ++ (codes " $end\n" ++ (text_of (declarations 0 vs) ++ codes "$upscope $end\n$enddefinitions $end\n")))
header_text scope vs =
    let last : List (List ℕ) = codes "$upscope $end" ∷ (codes "$enddefinitions $end" ∷ []) in
    let T : List ℕ = text_of (declarations 0 vs ++ last) in
    let line : ((scope ++ codes " $end") ++ codes "\n") ++ T ≡ scope ++ (codes " $end\n" ++ T) =
    ap (λ x. x ++ T) (append_assoc scope (codes " $end") (codes "\n")) ∙ append_assoc scope (codes " $end\n") T in
    ap (λ x. codes "$timescale 1 ns $end\n$scope module " ++ x) (line ∙ ap (λ x. scope ++ (codes " $end\n" ++ x)) (text_append (declarations 0 vs) last))

-- the text of a dump
pub dump_text : (scope : List ℕ) (vs : List Variable) (t s : ℕ) (a b c d : List ℕ) → s ≡ suc t → b ≡ a ++ text_of (header scope vs) → c ≡ b ++ text_of (steps vs t) → d ≡ c ++ text_of (time_line s ∷ []) →
    d ≡ a ++ text_of (dump scope vs t)
dump_text scope vs t s a b c d next one two last =
    let H : List ℕ = text_of (header scope vs) in
    let S : List ℕ = text_of (steps vs t) in
    let T : List ℕ = text_of (time_line (suc t) ∷ []) in
    let split : text_of (dump scope vs t) ≡ H ++ (S ++ T) =
    text_append (header scope vs) (steps vs t ++ (time_line (suc t) ∷ [])) ∙ ap (λ x. H ++ x) (text_append (steps vs t) (time_line (suc t) ∷ [])) in
    last ∙ ap (λ n. c ++ text_of (time_line n ∷ [])) next ∙ ap (λ x. x ++ T) (two ∙ ap (λ x. x ++ S) one) ∙ append_assoc (a ++ H) S T ∙ append_assoc a H (S ++ T) ∙ ap (λ x. a ++ x) (sym split)
