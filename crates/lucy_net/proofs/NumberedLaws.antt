-- No two inputs, and no two outputs, have one number.
use Rattle.std.proofs.Common.{ℕ, suc, zero, ◌+◌, ◌<◌, ◌≤◌, ◌≡◌, Bool, true, false, cond, eqb, ltb, List, [], ◌∷◌, ◌++◌, length, ap, sym, refl, ◌∙◌, inl, inr, arith}
use Rattle.std.specs.Prelude.{Some, slice_get}
use Rattle.std.specs.List.{flat_map}
use Rattle.std.proofs.lemmas.Bool.{cases_eq, cases_lt, eq-eqb, ne_eqb, lt-ltb, le-ltb}
use Rattle.std.proofs.lemmas.List.Sums.{sum_by-cons, sum_by-append}
use Rattle.lucy_stream.specs.Plans.{times}
use Rattle.lucy_net.specs.declared.kind.ActorKind.{ActorKind}
use Rattle.lucy_net.specs.declared.kind.ActorKind.TheVariants.{Input, Output}
use Rattle.lucy_net.specs.declared.net.Actor.{Actor}
use Rattle.lucy_net.specs.Proper.{input_of, output_of, IsNumbering}

-- the numbers of actors, in their order
abbrev pub numbers_of : (ActorKind → List ℕ) → List Actor → List ℕ
numbers_of number actors = flat_map (λ (actor : Actor). number actor.kind) actors

abbrev one : Bool → ℕ
one b = cond b 1 0

times_cons : (r x : ℕ) (xs : List ℕ) → times r (x ∷ xs) ≡ one (eqb x r) + times r xs
times_cons r x xs = sum_by-cons (λ s. cond (eqb s r) 1 0) x xs

-- how many of the numbers are below a bound
abbrev below : ℕ → List ℕ → ℕ
below n [] = 0
below n (x ∷ xs) = one (ltb x n) + below n xs

below_one : (n x : ℕ) → one (ltb x (suc n)) ≡ one (ltb x n) + one (eqb x n)
below_one n x = elim (cases_lt x n) [
  | inl l ↦ omega (arith, ap one (lt-ltb x (suc n) (omega arith)), ap one (lt-ltb x n l), ap one (ne_eqb x n (λ (e : x ≡ n). absurd (omega arith))))
  | inr h ↦ elim (cases_eq x n) [
    | inl e ↦ omega (arith, ap one (lt-ltb x (suc n) (omega arith)), ap one (le-ltb x n h), ap one (eq-eqb x n e))
    | inr ne ↦ omega (arith, ap one (le-ltb x (suc n) (omega (arith, ne))), ap one (le-ltb x n h), ap one (ne_eqb x n ne))
  ]
]

below_more : (n : ℕ) (xs : List ℕ) → below (suc n) xs ≡ below n xs + times n xs
below_more n [] = omega arith
below_more n (x ∷ xs) = omega (arith, below_more n xs, times_cons n x xs, below_one n x)

below_le : (n : ℕ) (xs : List ℕ) → below n xs ≤ length xs
below_le n [] = omega arith
below_le n (x ∷ xs) = (let h : one (ltb x n) ≤ 1 = elim (ltb x n) as (λ b. one b ≤ 1) [ true ↦ omega arith | false ↦ omega arith ] in omega (arith, below_le n xs))

below_zero : (xs : List ℕ) → below 0 xs ≡ 0
below_zero [] = refl
below_zero (x ∷ xs) = omega (arith, below_zero xs, ap one (le-ltb x 0 (omega arith)))

-- where all are below the bound, none is past it
past_none : (n r : ℕ) (xs : List ℕ) → n ≤ r → below n xs ≡ length xs → times r xs ≡ 0
past_none n r [] l e = refl
past_none n r (x ∷ xs) l e = elim (cases_lt x n) [
  | inl in_it ↦ omega (arith, times_cons r x xs, ap one (lt-ltb x n in_it), ap one (ne_eqb x r (λ (q : x ≡ r). absurd (omega arith))), past_none n r xs l (omega (arith, ap one (lt-ltb x n in_it))))
  | inr out ↦ absurd (omega (arith, ap one (le-ltb x n out), below_le n xs))
]

-- each number once: so many are below the bound
below_all : (n : ℕ) (xs : List ℕ) → ((k : ℕ) → k < n → times k xs ≡ 1) → below n xs ≡ n
below_all zero xs h = below_zero xs
below_all (suc n) xs h = omega (arith, below_more n xs, below_all n xs (λ k l. h k (omega arith)), h n (omega arith))

pub numbers_once : (xs : List ℕ) (n : ℕ) → IsNumbering xs → times n xs ≤ 1
numbers_once xs n is = elim (cases_lt n (length xs)) [
  | inl l ↦ omega (arith, is n l)
  | inr past ↦ omega (arith, past_none (length xs) n xs past (below_all (length xs) xs is))
]

-- how often a number stands in two lists
pub times_append : (r : ℕ) (xs ys : List ℕ) → times r (xs ++ ys) ≡ times r xs + times r ys
times_append r xs ys = sum_by-append (λ s. cond (eqb s r) 1 0) xs ys

times_here : (number : ActorKind → List ℕ) (n : ℕ) (what kind : ActorKind) → what ≡ kind → number kind ≡ n ∷ [] → times n (number what) ≡ 1
times_here number n what kind e h =
    let o : one (eqb n n) ≡ 1 = ap one (eq-eqb n n refl) in
    ap (λ w. times n (number w)) e ∙ ap (times n) h ∙ omega (arith, times_cons n n [])

some_there : (number : ActorKind → List ℕ) (kind : ActorKind) (actors : List Actor) (a n : ℕ) (x : Actor) → number kind ≡ n ∷ [] → slice_get actors a ≡ Some x → x.kind ≡ kind → 1 ≤ times n (numbers_of number actors)
some_there number kind [] a n x h e k = absurd (cc)
some_there number kind (y ∷ ys) zero n x h e k =
    let it : x ≡ y = cc in
    let what : y.kind ≡ kind = ap (λ (z : Actor). z.kind) (sym it) ∙ k in
    omega (arith, times_append n (number y.kind) (numbers_of number ys), times_here number n y.kind kind what h)
some_there number kind (y ∷ ys) (suc a) n x h e k = omega (arith, times_append n (number y.kind) (numbers_of number ys), some_there number kind ys a n x h e k)

apart_at : (number : ActorKind → List ℕ) (kind : ActorKind) (actors : List Actor) (a b n : ℕ) (x y : Actor) → number kind ≡ n ∷ [] → times n (numbers_of number actors) ≤ 1 →
    slice_get actors a ≡ Some x → slice_get actors b ≡ Some y → x.kind ≡ kind → y.kind ≡ kind → a ≡ b
apart_at number kind [] a b n x y h most e f k l = absurd (cc)
apart_at number kind (z ∷ zs) zero zero n x y h most e f k l = refl
apart_at number kind (z ∷ zs) zero (suc b) n x y h most e f k l =
    let it : x ≡ z = cc in
    let what : z.kind ≡ kind = ap (λ (w : Actor). w.kind) (sym it) ∙ k in
    absurd (omega (arith, times_append n (number z.kind) (numbers_of number zs), times_here number n z.kind kind what h, some_there number kind zs b n y h f l))
apart_at number kind (z ∷ zs) (suc a) zero n x y h most e f k l =
    let it : y ≡ z = cc in
    let what : z.kind ≡ kind = ap (λ (w : Actor). w.kind) (sym it) ∙ l in
    absurd (omega (arith, times_append n (number z.kind) (numbers_of number zs), times_here number n z.kind kind what h, some_there number kind zs a n x h e k))
apart_at number kind (z ∷ zs) (suc a) (suc b) n x y h most e f k l =
    ap suc (apart_at number kind zs a b n x y h (omega (arith, times_append n (number z.kind) (numbers_of number zs))) e f k l)

pub outputs_apart : (actors : List Actor) (a b n : ℕ) (x y : Actor) → IsNumbering (numbers_of output_of actors) → slice_get actors a ≡ Some x → slice_get actors b ≡ Some y → x.kind ≡ Output n → y.kind ≡ Output n → a ≡ b
outputs_apart actors a b n x y is e f k l = apart_at output_of (Output n) actors a b n x y refl (numbers_once (numbers_of output_of actors) n is) e f k l

pub inputs_apart : (actors : List Actor) (a b n : ℕ) (x y : Actor) → IsNumbering (numbers_of input_of actors) → slice_get actors a ≡ Some x → slice_get actors b ≡ Some y → x.kind ≡ Input n → y.kind ≡ Input n → a ≡ b
inputs_apart actors a b n x y is e f k l = apart_at input_of (Input n) actors a b n x y refl (numbers_once (numbers_of input_of actors) n is) e f k l
