-- The number of a kind is its own.
use Rattle.std.proofs.Common.{ℕ, ◌≡◌, Bool, true, false, if◌then◌else◌, ◌&&◌, nat_le, ◌++◌, List, [], ◌∷◌, Some, map, refl, ap, sym, ◌∙◌, subst}
use Rattle.std.specs.List.{slice_get}
use Rattle.lucy_token.specs.declared.mark.Mark.{Mark}
use Rattle.lucy_token.specs.declared.mark.Mark.TheVariants as mark
use Rattle.lucy_token.specs.declared.token.Kind.{Kind}
use Rattle.lucy_token.specs.declared.token.Kind.TheVariants as kind
use Rattle.std.specs.Prelude.{pos, negsuc}
use Rattle.lucy_tree.specs.Shaped.{most_bound}
use Rattle.lucy_token.specs.declared.token.What.{What}
use Rattle.lucy_token.specs.declared.token.What.TheVariants as what
use Rattle.lucy_token.specs.declared.token.Token.{Token}
use Rattle.lucy_token.specs.Tokens.{kind_of, first}
use Rattle.lucy_grammar.specs.Sets.{within, subset}
use Rattle.lucy_grammar.specs.Kinds.{mark_number, number, class_number, kind_class, bound_class, what_number, ahead, kind_numbers, Sort, of, bound, unbound, sort_kind, sort_numbers, Fits}
use Rattle.lucy_grammar.proofs.Sets.{within_cases, within_subset, within_one, within_either, same_number}

-- the marks in the order of their numbers
marks : List Mark
marks = mark.Let ∷ mark.Node ∷ mark.Where ∷ mark.Rec ∷ mark.And ∷ mark.When ∷ mark.Whenot ∷ mark.Merge ∷ mark.Fby ∷ mark.Buffer ∷ mark.At ∷ mark.Host ∷ mark.If ∷ mark.Then ∷ mark.Else ∷ mark.Not ∷ mark.True ∷ mark.False ∷ mark.Int ∷ mark.Bool
    ∷ mark.Open ∷ mark.Close ∷ mark.Comma ∷ mark.Colon ∷ mark.Colons ∷ mark.Equals ∷ mark.Same ∷ mark.Differs ∷ mark.Less ∷ mark.AtMost ∷ mark.Greater ∷ mark.AtLeast ∷ mark.Plus ∷ mark.Minus ∷ mark.Star ∷ mark.Slash ∷ mark.Percent ∷ mark.Both ∷ mark.Either ∷ []

-- the kinds in the order of their numbers; the last is that of a number that may be a bound
kinds : List Kind
kinds = kind.End ∷ kind.Name ∷ kind.Number ∷ kind.Word ∷ (map (λ m. kind.Mark m) marks ++ kind.Number ∷ [])

-- the kind at the place of its number is that kind
at_number : (k : Kind) → slice_get kinds (number k) ≡ Some k
unfolding kinds marks
at_number kind.End = refl
at_number kind.Name = refl
at_number kind.Number = refl
at_number kind.Word = refl
at_number (kind.Mark mark.Let) = refl
at_number (kind.Mark _) = refl

-- and that at the place of a token's number is the token's
at_either : (b : Bool) → slice_get kinds (class_number (if b then bound_class else kind_class kind.Number)) ≡ Some kind.Number
unfolding kinds marks
at_either true = refl
at_either false = refl

at_what : (w : What) → slice_get kinds (what_number w) ≡ Some (kind_of w)
unfolding kinds marks
at_what (what.Mark m) = at_number (kind.Mark m)
at_what (what.Name bytes) = refl
at_what (what.Word w) = refl
at_what (what.Number (pos n)) = at_either (nat_le n most_bound)
at_what (what.Number (negsuc n)) = refl

at_ahead : (ts : List Token) → slice_get kinds (ahead ts) ≡ Some (first ts)
unfolding kinds marks
at_ahead [] = refl
at_ahead (t ∷ ts) = at_what t.what

at_one : (k : Kind) (n : ℕ) → within n (number k ∷ []) ≡ true → slice_get kinds n ≡ Some k
at_one k n w = ap (slice_get kinds) (sym (within_one (number k) n w)) ∙ at_number k

at_kind : (k : Kind) (n : ℕ) → within n (kind_numbers k) ≡ true → slice_get kinds n ≡ Some k
unfolding kinds marks
at_kind kind.End n w = at_one kind.End n w
at_kind kind.Name n w = at_one kind.Name n w
at_kind kind.Word n w = at_one kind.Word n w
at_kind (kind.Mark m) n w = at_one (kind.Mark m) n w
at_kind kind.Number n w = within_cases 2 n (43 ∷ []) _ w (λ e. ap (slice_get kinds) (sym e) ∙ at_number kind.Number) (λ v. ap (slice_get kinds) (sym (within_one 43 n v)) ∙ at_either true)

-- tokens whose first number is one of a kind begin with that kind
pub ahead_kind : (ts : List Token) (k : Kind) → within (ahead ts) (kind_numbers k) ≡ true → first ts ≡ k
ahead_kind ts k w =
    let same : Some (first ts) ≡ Some k = sym (at_ahead ts) ∙ at_kind k (ahead ts) w in
    cc

-- and the other way round
either_number : (b : Bool) → within (class_number (if b then bound_class else kind_class kind.Number)) (2 ∷ 43 ∷ []) ≡ true
either_number true = refl
either_number false = refl

own_number : (w : What) → within (what_number w) (kind_numbers (kind_of w)) ≡ true
own_number (what.Mark m) = same_number (mark_number m)
own_number (what.Name bytes) = refl
own_number (what.Word w) = refl
own_number (what.Number (pos n)) = either_number (nat_le n most_bound)
own_number (what.Number (negsuc n)) = refl

own_first : (ts : List Token) → within (ahead ts) (kind_numbers (first ts)) ≡ true
own_first [] = refl
own_first (t ∷ ts) = own_number t.what

pub first_in : (ts : List Token) {k : Kind} → first ts ≡ k → within (ahead ts) (kind_numbers k) ≡ true
first_in ts e = subst (λ (k : Kind). within (ahead ts) (kind_numbers k) ≡ true) e (own_first ts)

-- the first token's kind is one of a set
pub is_in : (ts : List Token) {k : Kind} (ns : List ℕ) → first ts ≡ k → subset (kind_numbers k) ns ≡ true → within (ahead ts) ns ≡ true
is_in ts {k = k} ns e w = within_subset (kind_numbers k) ns (ahead ts) w (first_in ts e)

-- the kind is none of these
abbrev pub IsNone : Kind → List Kind → Type 0
IsNone k [] = Unit {0}
IsNone k (x ∷ xs) = (k ≡ x → ⊥) × IsNone k xs

abbrev pub all_numbers : List Kind → List ℕ
all_numbers [] = []
all_numbers (k ∷ ks) = kind_numbers k ++ all_numbers ks

-- then its number is none of theirs
pub not_in : (ts : List Token) (ks : List Kind) → IsNone (first ts) ks → within (ahead ts) (all_numbers ks) ≡ true → ⊥
not_in ts [] h w = absurd cc
not_in ts (k ∷ ks) h w = within_either (kind_numbers k) (all_numbers ks) (ahead ts) ⊥ w (λ e. h.0 (ahead_kind ts k e)) (λ v. not_in ts ks h.1 v)

and_more : (a : Bool) → a ≡ true → (a && true) ≡ true
and_more a e = ap (λ b. b && true) e

pub same_kind : (k : Kind) → subset (kind_numbers k) (kind_numbers k) ≡ true
same_kind kind.End = refl
same_kind kind.Name = refl
same_kind kind.Word = refl
same_kind kind.Number = refl
same_kind (kind.Mark m) = and_more (within (mark_number m) (mark_number m ∷ [])) (same_number (mark_number m))

-- what is of a sort has a number and the kind of the sort
pub fits_number : (s : Sort) (w : What) → Fits s w → within (what_number w) (sort_numbers s) ≡ true
fits_number (of k) w e = subst (λ (k : Kind). within (what_number w) (kind_numbers k) ≡ true) e (own_number w)
fits_number bound w e = ap (λ (b : Bool). within (class_number (if b then bound_class else kind_class (kind_of w))) (43 ∷ [])) e
fits_number unbound w e = ap (λ (b : Bool). within (class_number (if b then bound_class else kind_class (kind_of w))) (2 ∷ [])) e.1 ∙ ap (λ (k : Kind). within (number k) (2 ∷ [])) e.0

pub fits_kind : (s : Sort) (w : What) → Fits s w → kind_of w ≡ sort_kind s
fits_kind (of k) w e = e
fits_kind bound (what.Number n) e = refl
fits_kind bound (what.Mark m) e = absurd cc
fits_kind bound (what.Name bytes) e = absurd cc
fits_kind bound (what.Word w) e = absurd cc
fits_kind unbound w e = e.0
