-- Readings of the whole: the tokens are a program, or have a first one that doesn't fit, and never two of these.
use Rattle.std.proofs.Common.{◌≡◌, ◌⊎◌, inl, inr, true, List, [], ◌∷◌, ◌++◌, refl, ap, sym, ◌∙◌, subst, append_assoc}
use Rattle.std.proofs.lemmas.List.{append-nil}
use Rattle.lucy_tree.specs.View.{ProgramTree}
use Rattle.lucy_token.specs.declared.token.Token.{Token}
use Rattle.lucy_grammar.specs.Kinds.{ahead}
use Rattle.lucy_grammar.specs.Symbols.{part, Program}
use Rattle.lucy_grammar.specs.Deriving.{spelled, value}
use Rattle.lucy_grammar.specs.Programs.{IsProgram, BeginsProgram, IsFirstUnfit}
use Rattle.lucy_grammar.specs.Reading.{follows, begins, Follows, Reads, Unfit}
use Rattle.lucy_grammar.proofs.Deriving.{derived, of_derivation}
use Rattle.lucy_grammar.proofs.Table.{good}
use Rattle.lucy_grammar.proofs.Unique.{unique}

ends : Follows Program []
unfolding follows
ends = refl

program_good : good Program (part Program ∷ []) ≡ true
unfolding follows begins
program_good = refl

-- tokens are at most one program
pub one_tree : (ts : List Token) (p q : ProgramTree) → IsProgram ts p → IsProgram ts q → p ≡ q
one_tree ts p q a b =
    let c = derived a in
    let d = derived b in
    let same = unique Program (part Program ∷ []) program_good c.0 d.0 [] [] ends ends (ap (λ u. u ++ []) (c.1 ∙ sym d.1)) in
    ap (λ (u : ProgramTree × Unit {0}). u.0) (sym c.2 ∙ same.0 ∙ d.2)

-- a program is read to the end
pub is_program : {ts : List Token} {p : ProgramTree} → Reads Program ts p [] → IsProgram ts p
is_program r = of_derivation (r.deriv, r.spells ∙ sym (append-nil r.front) ∙ sym r.whole, r.means)

-- a program is read, and something follows it
pub is_followed : {ts : List Token} {p : ProgramTree} {rest : List Token} → Reads Program ts p rest → (rest ≡ [] → ⊥) → IsFirstUnfit ts rest
is_followed {p = p} {rest = rest} r more = record {
  front = r.front;
  whole = r.whole;
  fits = (p, [], of_derivation (r.deriv, r.spells ∙ sym (append-nil r.front), r.means));
  stops = λ t after e b.
      let q = derived b.2 in
      let same : r.front ++ (t ∷ b.1) ≡ spelled q.0 ++ [] = sym (append_assoc r.front (t ∷ []) b.1) ∙ sym q.1 ∙ sym (append-nil (spelled q.0)) in
      let only = r.only (t ∷ b.1) (sym (ap ahead e)) q.0 [] ends same in
      let no_end : [] ≡ t ∷ b.1 = only.1 in
      cc;
  none = λ other h. let q = derived h in more (sym (r.only rest refl q.0 [] ends (sym r.whole ∙ sym q.1 ∙ sym (append-nil (spelled q.0)))).1);
}

-- no program is read
pub is_unfit : {ts rest : List Token} → Unfit Program ts rest → IsFirstUnfit ts rest
is_unfit {rest = rest} r = record {
  front = r.front;
  whole = r.whole;
  fits = ((value r.completes.0).0, r.completes.1, of_derivation (r.completes.0, r.completes.2, refl));
  stops = λ t after e b.
      let q = derived b.2 in
      r.never (t ∷ b.1) (sym (ap ahead e)) q.0 [] ends (sym (append_assoc r.front (t ∷ []) b.1) ∙ sym q.1 ∙ sym (append-nil (spelled q.0)));
  none = λ other h. let q = derived h in r.never rest refl q.0 [] ends (sym r.whole ∙ sym q.1 ∙ sym (append-nil (spelled q.0)));
}

-- the front of what begins a program begins one
pub front_begins : (front back : List Token) → BeginsProgram (front ++ back) → BeginsProgram front
front_begins front back b =
    let P : List Token → Type 0 = λ u. IsProgram u b.0 in
    (b.0, back ++ b.1, subst P (append_assoc front back b.1) b.2)

-- of two fronts of the same tokens the second is the longer one
pub record Longer (x a y b : List Token) : Type 0 where
  pub token : Token
  pub more : List Token
  pub longer : y ≡ x ++ token ∷ more
  pub rest : a ≡ token ∷ (more ++ b)

pub compared : (x a y b : List Token) → x ++ a ≡ y ++ b → (a ≡ b) ⊎ (Longer x a y b ⊎ Longer y b x a)
compared [] a [] b e = inl e
compared [] a (t ∷ y) b e = inr (inl (record { token = t; more = y; longer = refl; rest = e }))
compared (t ∷ x) a [] b e = inr (inr (record { token = t; more = x; longer = refl; rest = sym e }))
compared (t ∷ x) a (u ∷ y) b e =
    let same : t ≡ u = cc in
    let tails : x ++ a ≡ y ++ b = cc in
    elim (compared x a y b tails) [
      | inl c ↦ inl c
      | inr (inl c) ↦ inr (inl (record { token = c.token; more = c.more; longer = ap (λ v. u ∷ v) c.longer ∙ ap (λ v. v ∷ (x ++ c.token ∷ c.more)) (sym same); rest = c.rest }))
      | inr (inr c) ↦ inr (inr (record { token = c.token; more = c.more; longer = ap (λ v. t ∷ v) c.longer ∙ ap (λ v. v ∷ (y ++ c.token ∷ c.more)) same; rest = c.rest }))
    ]

never_longer : (ts a b : List Token) (f : IsFirstUnfit ts a) (g : IsFirstUnfit ts b) → Longer f.front a g.front b → ⊥
never_longer ts a b f g c =
    let fits : BeginsProgram (f.front ++ c.token ∷ c.more) = subst (λ u. BeginsProgram u) c.longer g.fits in
    let one : BeginsProgram ((f.front ++ c.token ∷ []) ++ c.more) = subst (λ u. BeginsProgram u) (sym (append_assoc f.front (c.token ∷ []) c.more)) fits in
    f.stops c.token (c.more ++ b) c.rest (front_begins (f.front ++ c.token ∷ []) c.more one)

-- one token is the first that doesn't fit
pub one_unfit : (ts a b : List Token) → IsFirstUnfit ts a → IsFirstUnfit ts b → a ≡ b
one_unfit ts a b f g =
    elim (compared f.front a g.front b (sym f.whole ∙ g.whole)) [
      | inl same ↦ same
      | inr (inl c) ↦ absurd (never_longer ts a b f g c)
      | inr (inr c) ↦ absurd (never_longer ts b a g f c)
    ]

-- and none is, where the tokens are a program
pub never_both : (ts : List Token) (p : ProgramTree) (rest : List Token) → IsProgram ts p → IsFirstUnfit ts rest → ⊥
never_both ts p rest q f = f.none p q
