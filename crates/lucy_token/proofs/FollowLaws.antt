-- Tokens in print, piece after piece.
use Rattle.std.proofs.Common.{◌≡◌, ℕ, ◌+◌, true, List, [], ◌∷◌, ◌++◌, length, map, refl, ap, ◌∙◌, inl, inr}
use Rattle.std.specs.Prelude.{◌&&◌}
use Rattle.std.proofs.lemmas.Bool.{cases_Bool}
use Rattle.lucy_token.specs.declared.mark.Mark.TheVariants as mark
use Rattle.lucy_token.specs.declared.token.What.{What}
use Rattle.lucy_token.specs.declared.token.What.TheVariants as what
use Rattle.lucy_token.specs.declared.token.Token as token_type
use Rattle.lucy_token.specs.Printed.{text_of_what, Printed, whats_of}
use Rattle.lucy_token.specs.Spelled.{placed, is_keyword, apart}
use Rattle.lucy_token.proofs.PrintFronts.{keyword_end_is}
use Rattle.lucy_token.proofs.PrintEnds.{sign_ends}

-- every token is apart from `)` and `,`
pub apart_close : (v : What) → apart v (what.Mark mark.Close) ≡ true
apart_close (what.Mark m) = elim (cases_Bool (is_keyword m)) [ inl k ↦ keyword_end_is m 41 k | inr k ↦ sign_ends m 41 k refl refl refl (inr refl) ]
apart_close (what.Name bytes) = refl
apart_close (what.Number n) = refl
apart_close (what.Word w) = refl

pub apart_comma : (v : What) → apart v (what.Mark mark.Comma) ≡ true
apart_comma (what.Mark m) = elim (cases_Bool (is_keyword m)) [ inl k ↦ keyword_end_is m 44 k | inr k ↦ sign_ends m 44 k refl refl refl (inr refl) ]
apart_comma (what.Name bytes) = refl
apart_comma (what.Number n) = refl
apart_comma (what.Word w) = refl

-- the tokens are what they are in print
pub placed_whats : (from : ℕ) (ps : List Printed) → map (λ t. t.what) (placed from ps) ≡ whats_of ps
placed_whats from [] = refl
placed_whats from (p ∷ ps) = ap (λ ws. p.what ∷ ws) (placed_whats (from + length p.blanks + length (text_of_what p.what)) ps)
