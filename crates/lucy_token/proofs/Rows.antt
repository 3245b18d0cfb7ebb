-- A text in print, as a reader sees it, is cut into its tokens.
use Rattle.std.proofs.Common.{◌≡◌, ◌+◌, false, List, [], ◌∷◌, length, refl, arith}
use Rattle.std.specs.Prelude.{codes, negsuc, None}
use Rattle.std.proofs.lemmas.List.Sums.{AllPass-from_list_all}
use Rattle.std.proofs.lemmas.Bool.{both_ways}
use Rattle.std.proofs.lemmas.Fmt.{decimal_digit}
use Rattle.lucy_token.specs.declared.mark.Mark.TheVariants as mark
use Rattle.lucy_token.specs.declared.token.What.{What}
use Rattle.lucy_token.specs.declared.token.What.TheVariants as what
use Rattle.lucy_token.specs.declared.stop.Stop.TheVariants.{End}
use Rattle.lucy_token.specs.Tokens.{kind_of}
use Rattle.lucy_token.specs.declared.token.Kind.{Kind}
use Rattle.lucy_token.specs.Before.{nearest, limit_at, is_entry_past, wants_word, operand_begins}
use Rattle.lucy_token.specs.Fronts.{is_name_byte}
use Rattle.lucy_token.specs.Written.{IsNameText}
use Rattle.lucy_token.specs.Cuts.{Cuts}
use Rattle.lucy_token.specs.Printed.{Printed, bytes_of}
use Rattle.lucy_token.specs.Spelled.{placed, is_word, is_negative, IsSpelled, MayStandHere, PrintsBehind}
use Rattle.lucy_token.proofs.PrintLaws.{cut_printed}

spaced : What → Printed
spaced w = record { blanks = 32 ∷ []; what = w }

bare : What → Printed
bare w = record { blanks = []; what = w }

-- `rec x = (-3) + x`
row : List Printed
row =
    bare (what.Mark mark.Rec) ∷ spaced (what.Name (codes "x")) ∷ spaced (what.Mark mark.Equals) ∷ spaced (what.Mark mark.Open) ∷ bare (what.Number (negsuc 2))
    ∷ bare (what.Mark mark.Close) ∷ spaced (what.Mark mark.Plus) ∷ spaced (what.Name (codes "x")) ∷ []

x_name : IsNameText (codes "x")
x_name = record { some = omega arith; short = omega arith; begins = refl; name_bytes = AllPass-from_list_all is_name_byte (codes "x") refl; no_keyword = refl }

row_text : bytes_of row (10 ∷ []) ≡ codes "rec x = (-3) + x\n"
unfolding row spaced bare
row_text = rw (decimal_digit 3 (omega arith)) refl

-- a token that is no number below 0
plain : (ks : List Kind) (w : What) → limit_at ks (kind_of w) ≡ None → is_entry_past ks (kind_of w) ≡ false → wants_word (nearest ks) ≡ is_word w → is_negative w ≡ false → IsSpelled (nearest ks) w → MayStandHere ks w
plain ks w l p h n spelled = record { passes = l; in_list = p; word_here = h; operand_here = λ e. absurd (both_ways (is_negative w) n e); spelled = spelled }

row_follows : PrintsBehind [] row
unfolding row spaced bare limit_at is_entry_past operand_begins
row_follows = record {
  stand = (
    plain _ (what.Mark mark.Rec) refl refl refl refl tt,
    (
      plain _ (what.Name (codes "x")) refl refl refl refl x_name,
      (
        plain _ (what.Mark mark.Equals) refl refl refl refl tt,
        (
          plain _ (what.Mark mark.Open) refl refl refl refl tt,
          (
            record { passes = refl; in_list = refl; word_here = refl; operand_here = λ e. refl; spelled = record { sfits = omega arith } },
            (
              plain _ (what.Mark mark.Close) refl refl refl refl tt,
              (plain _ (what.Mark mark.Plus) refl refl refl refl tt, (plain _ (what.Name (codes "x")) refl refl refl refl x_name, tt)),
            ),
          ),
        ),
      ),
    ),
  );
  apart = refl;
}

row_cut : Cuts 0 [] (bytes_of row (10 ∷ [])) (placed 0 row) (End (0 + length (bytes_of row (10 ∷ []))))
row_cut = cut_printed 0 [] row (10 ∷ []) row_follows refl
