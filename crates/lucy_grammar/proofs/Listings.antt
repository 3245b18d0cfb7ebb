-- What is printed one after another.
use Rattle.std.proofs.Common.{ℕ, ◌≡◌, List, [], ◌++◌, ◌∷◌, ap, sym, ◌∙◌, append_assoc, append-nil}
use Rattle.std.specs.List.{AllByRecursion}
use Rattle.lucy_token.specs.Printed.{Printed}
use Rattle.lucy_grammar.specs.PrintTokens.{spaced_text, commas}
use Rattle.lucy_grammar.proofs.PrintedText.{IsTight, listed, text_commas}

-- one more text behind what parts it from those before, and before what is left
pub one_more : (old mid new apart text rest whole : List ℕ) → mid ≡ old ++ apart → new ≡ mid ++ text → old ++ (apart ++ (text ++ rest)) ≡ whole → new ++ rest ≡ whole
one_more old mid new apart text rest whole d e h =
    ap (λ u. u ++ rest) (e ∙ ap (λ u. u ++ text) d) ∙ append_assoc (old ++ apart) text rest ∙ append_assoc old apart (text ++ rest) ∙ h

-- the first, and all others behind it with commas between
pub all_listed : (old first last : List ℕ) (x : List Printed) (xs : List (List Printed)) → AllByRecursion IsTight xs → first ≡ old ++ spaced_text x → last ++ listed [] ≡ first ++ listed xs → last ≡ old ++ spaced_text (commas (x ∷ xs))
all_listed old first last x xs t e h =
    sym (append-nil last) ∙ h ∙ ap (λ u. u ++ listed xs) e ∙ append_assoc old (spaced_text x) (listed xs) ∙ ap (λ u. old ++ u) (sym (text_commas x xs t))
