-- Laws of bytes that are read and written one part after another.
use Rattle.std.proofs.Common.{ℕ, zero, suc, ◌≡◌, ◌≤◌, Bool, true, false, List, [], ◌++◌, Option, Some, None, Ok, refl, ap, sym, subst, ◌∙◌, arith, append_assoc, append-nil}
use Rattle.std.specs.Prelude.{IfSome, IsSomeAnd}
use Rattle.std.specs.Option.{option_map}
use Rattle.lucy_text.specs.Outside.{appended, gives_nothing, after_call, NoneFollows}

-- bytes that stand before the rest, where the rest is told
abbrev pub followed : List ℕ → Option (List ℕ) → Option (List ℕ)
followed bytes left = option_map (λ rest. bytes ++ rest) left

-- nothing is left, where that is told
abbrev pub AtEnd : Option (List ℕ) → Type 0
AtEnd left = IfSome left (λ bytes. bytes ≡ [])

pub appended-appended : (o : Option (List ℕ)) (a b : List ℕ) → appended (appended o a) b ≡ appended o (a ++ b)
appended-appended None a b = refl
appended-appended (Some w) a b = ap (λ u. Some u) (append_assoc w a b)

pub followed-followed : (a b : List ℕ) (o : Option (List ℕ)) → followed a (followed b o) ≡ followed (a ++ b) o
followed-followed a b None = refl
followed-followed a b (Some w) = ap (λ u. Some u) (sym (append_assoc a b w))

pub appended-nil : (o : Option (List ℕ)) → appended o [] ≡ o
appended-nil None = refl
appended-nil (Some w) = ap (λ u. Some u) (append-nil w)

pub followed-nil : (o : Option (List ℕ)) → followed [] o ≡ o
followed-nil None = refl
followed-nil (Some w) = refl

-- one part more was written
pub appended_more : (was now new : Option (List ℕ)) (a b : List ℕ) →
    now ≡ appended was a → new ≡ appended now b → new ≡ appended was (a ++ b)
appended_more was now new a b e f = f ∙ ap (λ o. appended o b) e ∙ appended-appended was a b

-- one part more was read
pub followed_more : (was now new : Option (List ℕ)) (a b : List ℕ) →
    was ≡ followed a now → now ≡ followed b new → was ≡ followed (a ++ b) new
followed_more was now new a b e f = e ∙ ap (followed a) f ∙ followed-followed a b new

-- a call that goes on is not counted where none has stopped
pub goes_on : (before now : Option ℕ) (stops : Bool) → now ≡ option_map (after_call stops) before → stops ≡ false → before ≡ Some 0 → now ≡ Some 0
goes_on before now stops counted going none = counted ∙ ap (λ b. option_map (after_call b) before) going ∙ ap (option_map (after_call false)) none

-- after any call there is at most the one that stopped
pub none_follows : (before now : Option ℕ) (stops : Bool) → now ≡ option_map (after_call stops) before → NoneFollows before now
none_follows before now true counted none =
    let P : Option ℕ → Type 0 = λ o. IsSomeAnd o (λ calls. calls ≤ 1) in
    subst P (sym (counted ∙ ap (option_map (after_call true)) none)) (omega arith)
none_follows before now false counted none =
    let P : Option ℕ → Type 0 = λ o. IsSomeAnd o (λ calls. calls ≤ 1) in
    subst P (sym (counted ∙ ap (option_map (after_call false)) none)) (omega arith)

-- where none has stopped, none follows
pub still_none : (now : Option ℕ) → now ≡ Some 0 → IsSomeAnd now (λ calls. calls ≤ 1)
still_none now none =
    let P : Option ℕ → Type 0 = λ o. IsSomeAnd o (λ calls. calls ≤ 1) in
    subst P (sym none) (omega arith)

-- a read of some bytes goes on
pub some_is_no_stop : (E : Type 0) (n : ℕ) → (n ≡ 0 → ⊥) → gives_nothing {E = E} (Ok n) ≡ false
some_is_no_stop E zero some = absurd (some refl)
some_is_no_stop E (suc n) some = refl
