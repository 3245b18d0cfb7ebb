-- Texts that are not empty come back from their spelling.
use Rattle.std.proofs.Common.{ℕ, ◌≡◌, List, [], ◌∷◌, Option, Some, None, refl, ap, ◌∙◌}
use Rattle.std.specs.Prelude.{IfSome}
use Rattle.lucy_command.specs.Parts.{Texts}
use Rattle.lucy_command.specs.Seen.{texts, or_empty, if_full, IsFull}

pub full_is : (text : Option (List ℕ)) → IfSome text IsFull → if_full (or_empty text) ≡ text
full_is None full = refl
full_is (Some []) full = absurd full
full_is (Some (byte ∷ more)) full = refl

-- texts that are those of this record
pub texts_are : (t : Texts) (a b c d e f g : Option (List ℕ)) → a ≡ t.scale → b ≡ t.lead → c ≡ t.instants → d ≡ t.workers → e ≡ t.block → f ≡ t.first → g ≡ t.second → texts a b c d e f g ≡ t
texts_are t a b c d e f g scale lead instants workers block first second =
    ap (λ x. texts x b c d e f g) scale ∙ ap (λ x. texts t.scale x c d e f g) lead ∙ ap (λ x. texts t.scale t.lead x d e f g) instants ∙ ap (λ x. texts t.scale t.lead t.instants x e f g) workers
    ∙ ap (λ x. texts t.scale t.lead t.instants t.workers x f g) block ∙ ap (λ x. texts t.scale t.lead t.instants t.workers t.block x g) first
    ∙ ap (λ x. texts t.scale t.lead t.instants t.workers t.block t.first x) second
