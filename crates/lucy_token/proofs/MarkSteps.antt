-- One mark on in a table.
use Rattle.std.proofs.Common.{◌≡◌, ℕ, ◌+◌, ◌<◌, true, false, List, length, get_or, drop, take, ap, sym, ◌∙◌, eqb}
use Rattle.std.specs.Str.{bytes_eq}
use Rattle.std.specs.List.{starts_with}
use Rattle.std.proofs.lemmas.Bool.{cond-true, cond-false}
use Rattle.std.proofs.lemmas.Bool.Decides.{same_from_decides}
use Rattle.std.proofs.lemmas.Slice.Eq.{bytes_eq-Decides}
use Rattle.std.proofs.lemmas.List.{drop_more}
use Rattle.lucy_token.specs.declared.mark.Mark.{Mark}
use Rattle.lucy_token.specs.declared.token.Kind.TheVariants as kind
use Rattle.lucy_token.specs.declared.front.Front.TheVariants.{Token}
use Rattle.lucy_token.specs.Marks.{spelling}
use Rattle.lucy_token.specs.Fronts.{named_in, sign_in}

pub named_more : (ms : List Mark) (bytes : List ℕ) (i : ℕ) (d : Mark) → i < length ms → bytes_eq bytes (spelling (get_or ms i d)) ≡ false → named_in (drop (i + 1) ms) bytes ≡ named_in (drop i ms) bytes
named_more ms bytes i d h e =
    sym (ap (λ u. named_in u bytes) (drop_more ms i d h) ∙ cond-false (bytes_eq bytes (spelling (get_or ms i d))) (kind.Mark (get_or ms i d)) (named_in (drop (i + 1) ms) bytes) e)

eq_turned : (a b : List ℕ) → bytes_eq a b ≡ bytes_eq b a
eq_turned a b = same_from_decides (bytes_eq a b) (bytes_eq b a) (bytes_eq-Decides a b) ((λ e. sym ((bytes_eq-Decides b a).0 e)), (λ e. (bytes_eq-Decides b a).1 (sym e)))

pub sign_more : (ms : List Mark) (text : List ℕ) (i : ℕ) (d : Mark) → i < length ms → starts_with eqb text (spelling (get_or ms i d)) ≡ false → sign_in (drop (i + 1) ms) text ≡ sign_in (drop i ms) text
sign_more ms text i d h e =
    let m : Mark = get_or ms i d in
    let other : bytes_eq (take (length (spelling m)) text) (spelling m) ≡ false = eq_turned (take (length (spelling m)) text) (spelling m) ∙ e in
    sym (ap (λ u. sign_in u text) (drop_more ms i d h) ∙ cond-false (bytes_eq (take (length (spelling m)) text) (spelling m)) (Token (kind.Mark m) (length (spelling m))) (sign_in (drop (i + 1) ms) text) other)

pub sign_found : (ms : List Mark) (text : List ℕ) (i : ℕ) (d : Mark) → i < length ms → starts_with eqb text (spelling (get_or ms i d)) ≡ true → sign_in (drop i ms) text ≡ Token (kind.Mark (get_or ms i d)) (length (spelling (get_or ms i d)))
sign_found ms text i d h e =
    let m : Mark = get_or ms i d in
    let same : bytes_eq (take (length (spelling m)) text) (spelling m) ≡ true = eq_turned (take (length (spelling m)) text) (spelling m) ∙ e in
    ap (λ u. sign_in u text) (drop_more ms i d h) ∙ cond-true (bytes_eq (take (length (spelling m)) text) (spelling m)) (Token (kind.Mark m) (length (spelling m))) (sign_in (drop (i + 1) ms) text) same
