-- Names, as they are told apart.
use Rattle.std.proofs.Common.{ℕ, ◌≤◌, ◌≡◌, true, List, [], ◌∷◌, length, refl, ap, arith}
use Rattle.std.specs.Prelude.{◌↔◌, IsTrue}
use Rattle.std.specs.List.{prefix_len}
use Rattle.std.proofs.lemmas.Bool.{and_parts, and_from, eqb-true, eq-eqb, leb-true, le-leb}
use Rattle.std.proofs.lemmas.List.Sums.{prefix_len_is, prefix_len_passes}
use Rattle.lucy_word.specs.Limits.{limit_number}
use Rattle.lucy_word.specs.declared.limit.Limit.TheVariants as limit
use Rattle.lucy_token.specs.declared.token.Kind.{Kind}
use Rattle.lucy_token.specs.declared.token.Kind.TheVariants as kind
use Rattle.lucy_token.specs.Marks.{keywords}
use Rattle.lucy_token.specs.Before.{is_name}
use Rattle.lucy_token.specs.Fronts.{head, is_letter, is_name_byte, named_in}
use Rattle.lucy_token.specs.Written.{IsNameText, is_name_text}

-- all bytes of a name may stand in one
all_pass : (bytes : List ℕ) → IsNameText bytes → prefix_len is_name_byte bytes ≡ length bytes
all_pass bytes name = prefix_len_is is_name_byte bytes (length bytes) 0 (omega arith) (λ k within. name.name_bytes k 0 within) (λ within. absurd (omega (arith, within)))

-- bytes all of which may stand in a name are one, where the first may begin it, and they are not too many and no keyword
is_so : (bytes : List ℕ) → is_letter (head bytes) ≡ true → length bytes ≤ limit_number limit.Name → length bytes ≤ prefix_len is_name_byte bytes → named_in keywords bytes ≡ kind.Name → IsNameText bytes
is_so [] begins short whole none = absurd (cc begins)
is_so (c ∷ bytes) begins short whole none = record {
  some = omega arith;
  short = short;
  begins = begins;
  name_bytes = λ k d within. prefix_len_passes is_name_byte (c ∷ bytes) k d (omega (arith, within, whole));
  no_keyword = none;
}

-- a token that is told to be a name is one
name_kind : (k : Kind) → is_name k ≡ true → k ≡ kind.Name
name_kind kind.Name e = refl
name_kind kind.End e = absurd (cc e)
name_kind kind.Number e = absurd (cc e)
name_kind kind.Word e = absurd (cc e)
name_kind (kind.Mark m) e = absurd (cc e)

-- bytes are told to be a name where they are one
pub told_name : (bytes : List ℕ) → IsTrue (is_name_text bytes) ↔ IsNameText bytes
told_name bytes = (
  λ t.
      let (begins, more) = and_parts _ _ t in
      let (whole, rest) = and_parts _ _ more in
      let (short, none) = and_parts _ _ rest in
      let all : prefix_len is_name_byte bytes ≡ length bytes = eqb-true _ _ whole in
      is_so bytes begins (leb-true _ _ short) (omega (arith, all)) (name_kind _ none),
  λ name.
      and_from _ _ name.begins (and_from _ _ (eq-eqb _ _ (all_pass bytes name)) (and_from _ _ (le-leb _ _ name.short) (ap is_name name.no_keyword))),
)
