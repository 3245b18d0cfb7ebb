-- One byte on, in a comment.
use Rattle.std.proofs.Common.{◌≡◌, ℕ, ◌+◌, false, cond, List, ◌∷◌, Option, Some, None, refl, ap, sym, ◌∙◌, arith}
use Rattle.std.specs.Prelude.{◌==◌, ◌&&◌, option_map}
use Rattle.lucy_token.specs.Fronts.{head, close_of}

-- bytes that were passed, and those that are left
abbrev pub plus : ℕ → Option ℕ → Option ℕ
plus n None = None
plus n (Some m) = Some (m + n)

plus-one_more : (n : ℕ) (o : Option ℕ) → plus n (option_map (λ m. m + 1) o) ≡ plus (n + 1) o
plus-one_more n None = refl
plus-one_more n (Some m) = ap Some (omega arith)

close-open : (c : ℕ) (more : List ℕ) → (c == 42 && head more == 41) ≡ false → close_of (c ∷ more) ≡ option_map (λ m. m + 1) (close_of more)
close-open c more h = ap (λ b. cond b (Some 2) (option_map (λ m. m + 1) (close_of more))) h

pub close-step : (n c : ℕ) (more rest text : List ℕ) → rest ≡ c ∷ more → (c == 42 && head more == 41) ≡ false → plus n (close_of rest) ≡ close_of text → plus (n + 1) (close_of more) ≡ close_of text
close-step n c more rest text e h s = sym (plus-one_more n (close_of more)) ∙ ap (plus n) (sym (close-open c more h)) ∙ ap (λ u. plus n (close_of u)) (sym e) ∙ s
