-- Printed tokens as they stand one after the other, by what is open, by their list, and by where operands begin.
use Rattle.std.proofs.Common.{◌≡◌, ℕ, suc, ◌+◌, ◌-◌, ◌<◌, ◌≤◌, true, false, List, [], ◌∷◌, ◌++◌, length, refl, ap, sym, ◌∙◌, subst, arith, append_assoc}
use Rattle.std.specs.List.{AllByRecursion}
use Rattle.std.proofs.lemmas.List.{append-nil, map-append}
use Rattle.lucy_word.specs.Limits.{limit_number}
use Rattle.lucy_word.specs.declared.limit.Limit.TheVariants as limit
use Rattle.lucy_token.specs.declared.mark.Mark.{Mark}
use Rattle.lucy_token.specs.declared.mark.Mark.TheVariants as mark
use Rattle.lucy_token.specs.declared.token.Kind.{Kind}
use Rattle.lucy_token.specs.declared.token.Kind.TheVariants as kind
use Rattle.lucy_token.specs.declared.token.What.{What}
use Rattle.lucy_token.specs.declared.token.What.TheVariants as what
use Rattle.lucy_token.specs.declared.state.Side.{Side}
use Rattle.lucy_token.specs.declared.state.Side.TheVariants as side
use Rattle.lucy_token.specs.Tokens.{kind_of}
use Rattle.lucy_token.specs.Before.{precedes_operand}
use Rattle.lucy_token.specs.States.{ScanState, served, after, side_defined, begins_operand, is_past_last}
use Rattle.lucy_token.specs.Printed.{Printed, in_print, whats_of}
use Rattle.lucy_token.specs.Spelled.{is_negative}
use Rattle.lucy_token.proofs.StateLaws.{before_after}
use Rattle.lucy_grammar.specs.PrintTokens.{blank, the, after_commas, commas, parens}
use Rattle.lucy_grammar.specs.PrintTokens as print
use Rattle.lucy_grammar.proofs.FewEntries.{most}
use Rattle.lucy_grammar.proofs.Levels.{Keeps, keeps_self, keeps_then, is_plain, keeps_plain, IsDue, due_right, opened, no_commas, opened_right, closed_after, one_on, in_list, begins_behind, begins_wanted, wanted_two}

abbrev pub deepest : ℕ
deepest = limit_number limit.Depth

-- the token may stand here
pub record Fits (s : ScanState) (w : What) : Type 0 where
  pub room : kind_of w ≡ kind.Mark mark.Open → length s.outer < deepest
  pub in_list : is_past_last s (kind_of w) ≡ false
  pub operand_here : is_negative w ≡ true → begins_operand s ≡ true

abbrev pub AllFit : ScanState → List What → Type 0
AllFit s [] = Unit {0}
AllFit s (w ∷ ws) = Fits s w × AllFit (after s (kind_of w)) ws

-- a state on a side, where so many parentheses may still be opened, and a list is not yet past its last entry
pub record IsReady (at : Side) (e : ℕ) (s : ScanState) : Type 0 where
  pub here : s.side ≡ at
  pub room : length s.outer + e ≤ deepest
  pub few : s.level.commas < most

pub ready_then : {at : Side} {e : ℕ} {s j : ScanState} → IsReady at e s → Keeps s j → IsReady at e j
ready_then r k = record { here = k.at ∙ r.here; room = omega (arith, r.room, ap length k.outer); few = omega (arith, r.few, k.commas) }

-- these tokens may stand, where what follows may stand: anywhere on the side, where an operand begins, as one operand
pub record IsTail (at : Side) (e : ℕ) (ps : List Printed) : Type 0 where
  pub fits : (s : ScanState) (ws : List What) → IsReady at e s → ((j : ScanState) → Keeps s j → AllFit j ws) → AllFit s (whats_of ps ++ ws)

pub record IsOperand (at : Side) (e : ℕ) (ps : List Printed) : Type 0 where
  pub fits : (s : ScanState) (ws : List What) → IsReady at e s → (at ≡ side.Right → begins_operand s ≡ true) → ((j : ScanState) → Keeps s j → AllFit j ws) → AllFit s (whats_of ps ++ ws)

pub record IsUnit (e : ℕ) (ps : List Printed) : Type 0 where
  pub fits : (s : ScanState) (ws : List What) → IsReady side.Right e s → begins_operand s ≡ true → ((j : ScanState) → Keeps s j → j.level.wanted ≡ s.level.wanted - 1 → AllFit j ws) → AllFit s (whats_of ps ++ ws)

-- and up to the end of a call, behind which no other call is due
pub record IsLast (at : Side) (e : ℕ) (ps : List Printed) : Type 0 where
  pub fits : (s : ScanState) (ws : List What) → IsReady at e s → ((j : ScanState) → j.side ≡ side.Right → j.outer ≡ s.outer → j.level.commas ≡ s.level.commas → AllFit j ws) → AllFit s (whats_of ps ++ ws)

-- and up to the end of a declaration, behind which an `=` is no call's
pub record IsDeclared (at : Side) (e : ℕ) (ps : List Printed) : Type 0 where
  pub fits : (s : ScanState) (ws : List What) → IsReady at e s → ((j : ScanState) → Keeps s j → side_defined j.before ≡ side.Right → AllFit j ws) → AllFit s (whats_of ps ++ ws)

-- tokens one after the other
pub split_whats : (a b : List Printed) (ws : List What) → whats_of (a ++ b) ++ ws ≡ whats_of a ++ (whats_of b ++ ws)
split_whats a b ws = ap (λ u. u ++ ws) (map-append (λ (t : Printed). t.what) a b) ∙ append_assoc (whats_of a) (whats_of b) ws

pub whats_of-after : (blanks : List ℕ) (a : List Printed) → whats_of (print.after blanks a) ≡ whats_of a
whats_of-after blanks [] = refl
whats_of-after blanks (t ∷ a) = refl

no_open : (k : Kind) → is_plain k ≡ true → k ≡ kind.Mark mark.Open → ⊥
no_open k e f = let g : false ≡ true = sym (ap is_plain f) ∙ e in absurd cc

pub fits_plain : (s : ScanState) (w : What) → s.level.commas < most → is_plain (kind_of w) ≡ true → is_negative w ≡ false → Fits s w
fits_plain s w h e f = record {
  room = λ o. absurd (no_open (kind_of w) e o);
  in_list = in_list s (kind_of w) h;
  operand_here = λ g. let no : false ≡ true = sym f ∙ g in absurd cc;
}

pub fits_mark : (s : ScanState) (m : Mark) → s.level.commas < most → (kind.Mark m ≡ kind.Mark mark.Open → ⊥) → Fits s (what.Mark m)
fits_mark s m h e = record { room = λ o. absurd (e o); in_list = in_list s (kind.Mark m) h; operand_here = λ g. absurd cc }

pub tail_none : {at : Side} {e : ℕ} → IsTail at e []
tail_none = record { fits = λ s ws r k. k s (keeps_self s) }

pub operand_of : {at : Side} {e : ℕ} {a : List Printed} → IsTail at e a → IsOperand at e a
operand_of x = record { fits = λ s ws r b k. x.fits s ws r k }

pub tail_declared : {at : Side} {e : ℕ} {a : List Printed} → IsDeclared at e a → IsTail at e a
tail_declared x = record { fits = λ s ws r k. x.fits s ws r (λ j q d. k j q) }

pub operand_unit : {e : ℕ} {a : List Printed} → IsUnit e a → IsOperand side.Right e a
operand_unit x = record { fits = λ s ws r b k. x.fits s ws r (b refl) (λ j q d. k j q) }

pub tail_last : {e : ℕ} {a : List Printed} → IsLast side.Right e a → IsTail side.Right e a
tail_last x = record { fits = λ s ws r k. x.fits s ws r (λ j a o c. k j (record { at = a ∙ sym r.here; outer = o; commas = c })) }

pub operand_and : {at : Side} {e : ℕ} {a b : List Printed} → IsOperand at e a → IsTail at e b → IsOperand at e (a ++ b)
operand_and {a = a} {b = b} x y = record {
  fits = λ s ws r h k.
      subst (AllFit s) (sym (split_whats a b ws)) (x.fits s (whats_of b ++ ws) r h (λ j q. y.fits j ws (ready_then r q) (λ i p. k i (keeps_then q p))));
}

-- blanks don't matter
pub operand_after : {at : Side} {e : ℕ} {a : List Printed} (blanks : List ℕ) → IsOperand at e a → IsOperand at e (print.after blanks a)
operand_after {a = a} blanks x = record { fits = λ s ws r h k. subst (λ u. AllFit s (u ++ ws)) (sym (whats_of-after blanks a)) (x.fits s ws r h k) }

pub unit_after : {e : ℕ} {a : List Printed} (blanks : List ℕ) → IsUnit e a → IsUnit e (print.after blanks a)
unit_after {a = a} blanks x = record { fits = λ s ws r h k. subst (λ u. AllFit s (u ++ ws)) (sym (whats_of-after blanks a)) (x.fits s ws r h k) }

pub last_end : {at : Side} {e : ℕ} {a : List Printed} → IsLast at e a → IsLast at e (print.after blank a ++ [])
last_end {a = a} x = record { fits = λ s ws r k. subst (λ u. AllFit s (u ++ ws)) (sym (ap whats_of (append-nil (print.after blank a)) ∙ whats_of-after blank a)) (x.fits s ws r k) }

-- an operand behind blanks, at the end
pub later : {at : Side} {e : ℕ} {a : List Printed} → IsOperand at e a → IsOperand at e (print.after blank a ++ [])
later x = operand_and (operand_after blank x) tail_none

-- a plain token first
pub tail_plain : {at : Side} {e : ℕ} {a : List Printed} (blanks : List ℕ) (w : What) → is_plain (kind_of w) ≡ true → is_negative w ≡ false → IsTail at e a → IsTail at e (in_print blanks w ∷ a)
tail_plain blanks w e f x = record {
  fits = λ s ws r k.
      let q = keeps_plain s (kind_of w) e in
      (fits_plain s w r.few e f, x.fits (after s (kind_of w)) ws (ready_then r q) (λ j p. k j (keeps_then q p)));
}

pub last_plain : {at : Side} {e : ℕ} {a : List Printed} (blanks : List ℕ) (w : What) → is_plain (kind_of w) ≡ true → is_negative w ≡ false → IsLast at e a → IsLast at e (in_print blanks w ∷ a)
last_plain blanks w e f x = record {
  fits = λ s ws r k.
      let q = keeps_plain s (kind_of w) e in
      (fits_plain s w r.few e f, x.fits (after s (kind_of w)) ws (ready_then r q) (λ j a o c. k j a (o ∙ q.outer) (c ∙ q.commas)));
}

pub declared_plain : {at : Side} {e : ℕ} {a : List Printed} (blanks : List ℕ) (w : What) → is_plain (kind_of w) ≡ true → is_negative w ≡ false → IsDeclared at e a → IsDeclared at e (in_print blanks w ∷ a)
declared_plain blanks w e f x = record {
  fits = λ s ws r k.
      let q = keeps_plain s (kind_of w) e in
      (fits_plain s w r.few e f, x.fits (after s (kind_of w)) ws (ready_then r q) (λ j p d. k j (keeps_then q p) d));
}

pub declared_one : {at : Side} {e : ℕ} (blanks : List ℕ) (w : What) → is_plain (kind_of w) ≡ true → is_negative w ≡ false → side_defined (kind_of w) ≡ side.Right → IsDeclared at e (in_print blanks w ∷ [])
declared_one blanks w e f d = record {
  fits = λ s ws r k. (fits_plain s w r.few e f, k (after s (kind_of w)) (keeps_plain s (kind_of w) e) (ap side_defined (before_after s (kind_of w)) ∙ d));
}

-- a mark with an operand behind it
pub tail_before : {at : Side} {e : ℕ} {a : List Printed} (blanks : List ℕ) (m : Mark) → is_plain (kind.Mark m) ≡ true → precedes_operand (kind.Mark m) ≡ true → IsOperand at e a → IsTail at e (in_print blanks (what.Mark m) ∷ a)
tail_before blanks m e f x = record {
  fits = λ s ws r k.
      let q = keeps_plain s (kind.Mark m) e in (
        fits_plain s (what.Mark m) r.few e refl,
        x.fits (after s (kind.Mark m)) ws (ready_then r q) (λ h. begins_behind (after s (kind.Mark m)) (q.at ∙ r.here ∙ h) (ap precedes_operand (before_after s (kind.Mark m)) ∙ f)) (λ j p. k j (keeps_then q p)),
      );
}

-- with more room
pub operand_more : {at : Side} {e : ℕ} {a : List Printed} (f : ℕ) → e ≤ f → IsOperand at e a → IsOperand at f a
operand_more f h x = record { fits = λ s ws r b k. x.fits s ws (record { here = r.here; room = omega (arith, r.room, h); few = r.few }) b k }

pub unit_more : {e : ℕ} {a : List Printed} (f : ℕ) → e ≤ f → IsUnit e a → IsUnit f a
unit_more f h x = record { fits = λ s ws r b k. x.fits s ws (record { here = r.here; room = omega (arith, r.room, h); few = r.few }) b k }

pub last_more : {at : Side} {e : ℕ} {a : List Printed} (f : ℕ) → e ≤ f → IsLast at e a → IsLast at f a
last_more f h x = record { fits = λ s ws r k. x.fits s ws (record { here = r.here; room = omega (arith, r.room, h); few = r.few }) k }

-- parentheses
parens_fit : (x : List Printed) (at : Side) (s : ScanState) (ws : List What) → (after s (kind.Mark mark.Open)).side ≡ at → length s.outer < deepest → s.level.commas < most →
    ((vs : List What) → ((j : ScanState) → j.side ≡ at → j.outer ≡ s.level ∷ s.outer → j.level.commas < most → AllFit j vs) → AllFit (after s (kind.Mark mark.Open)) (whats_of x ++ vs)) →
    ((j : ScanState) → j.side ≡ at → j.outer ≡ s.outer → j.level ≡ served s.level → j.before ≡ kind.Mark mark.Close → AllFit j ws) → AllFit s (whats_of (parens x) ++ ws)
parens_fit x at s ws e room few inner k =
    let q : ScanState = after s (kind.Mark mark.Open) in
    let close : (j : ScanState) → j.side ≡ at → j.outer ≡ s.level ∷ s.outer → j.level.commas < most → AllFit j (what.Mark mark.Close ∷ ws) = λ j a o f.
    let c = closed_after j s.level s.outer o in
    (fits_mark j mark.Close f (λ g. absurd cc), k (after j (kind.Mark mark.Close)) (c.at ∙ a) c.outer c.level c.before) in
    let whole : AllFit q (whats_of x ++ (what.Mark mark.Close ∷ ws)) = inner (what.Mark mark.Close ∷ ws) close in (
      record { room = λ o. room; in_list = in_list s (kind.Mark mark.Open) few; operand_here = λ g. absurd cc },
      subst (AllFit q) (sym (split_whats x (the mark.Close) ws)) whole,
    )

pub unit_parens : {e : ℕ} {a : List Printed} → IsOperand side.Right e a → IsUnit (suc e) (parens a)
unit_parens {e} {a} x = record {
  fits = λ s ws r b k.
      let q : ScanState = after s (kind.Mark mark.Open) in
      let o = opened s in
      let at : q.side ≡ side.Right = opened_right s (due_right s.side r.here) in
      let ready : IsReady side.Right e q = record { here = at; room = omega (arith, r.room, ap length o.outer); few = omega (arith, no_commas o) } in
      parens_fit a side.Right s ws at (omega (arith, r.room)) r.few
      (λ vs h. x.fits q vs ready (λ g. begins_behind q at (ap precedes_operand o.before)) (λ j p. h j (p.at ∙ at) (p.outer ∙ o.outer) (omega (arith, p.commas, no_commas o))))
      (λ j a o l f. k j (record { at = a ∙ sym r.here; outer = o; commas = ap (λ u. u.commas) l }) (ap (λ u. u.wanted) l));
}

pub last_parens : {e : ℕ} {a : List Printed} → IsOperand side.Right e a → IsLast side.Right (suc e) (parens a)
last_parens {e} {a} x = record {
  fits = λ s ws r k.
      let q : ScanState = after s (kind.Mark mark.Open) in
      let o = opened s in
      let at : q.side ≡ side.Right = opened_right s (due_right s.side r.here) in
      let ready : IsReady side.Right e q = record { here = at; room = omega (arith, r.room, ap length o.outer); few = omega (arith, no_commas o) } in
      parens_fit a side.Right s ws at (omega (arith, r.room)) r.few
      (λ vs h. x.fits q vs ready (λ g. begins_behind q at (ap precedes_operand o.before)) (λ j p. h j (p.at ∙ at) (p.outer ∙ o.outer) (omega (arith, p.commas, no_commas o))))
      (λ j a o l f. k j a o (ap (λ u. u.commas) l));
}

-- lists
entries_fit : (at : Side) (e : ℕ) (xs : List (List Printed)) → AllByRecursion (IsOperand at e) xs → (s : ScanState) (ws : List What) → s.side ≡ at → length s.outer + e ≤ deepest → s.level.commas + length xs < most →
    ((j : ScanState) → j.side ≡ at → j.outer ≡ s.outer → j.level.commas < most → AllFit j ws) → AllFit s (whats_of (after_commas xs) ++ ws)
entries_fit at e [] h s ws a room few k = k s a refl (omega (arith, few))
entries_fit at e (x ∷ xs) h s ws a room few k =
    let q : ScanState = after s (kind.Mark mark.Comma) in
    let o = one_on s in
    let ready : IsReady at e q = record { here = o.at ∙ a; room = omega (arith, room, ap length o.outer); few = omega (arith, o.commas, few) } in
    let rest : (j : ScanState) → Keeps q j → AllFit j (whats_of (after_commas xs) ++ ws) = λ j p.
    entries_fit at e xs h.1 j ws (p.at ∙ o.at ∙ a) (omega (arith, room, ap length o.outer, ap length p.outer)) (omega (arith, p.commas, o.commas, few)) (λ i b l f. k i b (l ∙ p.outer ∙ o.outer) f) in (
      fits_mark s mark.Comma (omega (arith, few)) (λ g. absurd cc),
      subst (AllFit q) (sym (split_whats (print.after blank x) (after_commas xs) ws))
          ((operand_after blank h.0).fits q (whats_of (after_commas xs) ++ ws) ready (λ g. begins_behind q (o.at ∙ a ∙ g) (ap precedes_operand o.before)) rest),
    )

commas_fit : (at : Side) (e : ℕ) (xs : List (List Printed)) → AllByRecursion (IsOperand at e) xs → length xs ≤ most → (s : ScanState) (ws : List What) → IsReady at e s → s.level.commas ≡ 0 → (at ≡ side.Right → begins_operand s ≡ true) →
    ((j : ScanState) → j.side ≡ at → j.outer ≡ s.outer → j.level.commas < most → AllFit j ws) → AllFit s (whats_of (commas xs) ++ ws)
commas_fit at e [] h few s ws r z b k = k s r.here refl r.few
commas_fit at e (x ∷ xs) h few s ws r z b k =
    subst (AllFit s) (sym (split_whats x (after_commas xs) ws))
    (h.0.fits s (whats_of (after_commas xs) ++ ws) r b
    (λ j p. entries_fit at e xs h.1 j ws (p.at ∙ r.here) (omega (arith, r.room, ap length p.outer)) (omega (arith, few, p.commas, z)) (λ i a o f. k i a (o ∙ p.outer) f)))

pub list_fit : (at : Side) (e : ℕ) (xs : List (List Printed)) → AllByRecursion (IsOperand at e) xs → length xs ≤ most → (s : ScanState) (ws : List What) → (after s (kind.Mark mark.Open)).side ≡ at → length s.outer + suc e ≤ deepest → s.level.commas < most →
    ((j : ScanState) → j.side ≡ at → j.outer ≡ s.outer → j.level ≡ served s.level → j.before ≡ kind.Mark mark.Close → AllFit j ws) → AllFit s (whats_of (parens (commas xs)) ++ ws)
list_fit at e xs h few s ws a room n k =
    let q : ScanState = after s (kind.Mark mark.Open) in
    let o = opened s in
    let ready : IsReady at e q = record { here = a; room = omega (arith, room, ap length o.outer); few = omega (arith, no_commas o) } in
    parens_fit (commas xs) at s ws a (omega (arith, room)) n
    (λ vs f. commas_fit at e xs h few q vs ready (no_commas o) (λ g. begins_behind q (a ∙ g) (ap precedes_operand o.before)) (λ j b p c. f j b (p ∙ o.outer) c)) k

pub list_last : {at : Side} (e : ℕ) (xs : List (List Printed)) → IsDue at → AllByRecursion (IsOperand side.Right e) xs → length xs ≤ most → IsLast at (suc e) (parens (commas xs))
list_last e xs due h few = record {
  fits = λ s ws r k.
      list_fit side.Right e xs h few s ws (opened_right s (subst IsDue (sym r.here) due)) r.room r.few (λ j a o l b. k j a o (ap (λ u. u.commas) l));
}

-- a merge wants two operands behind its word
pub tail_merge : {e : ℕ} {a b : List Printed} (w : What) → kind_of w ≡ kind.Word → is_negative w ≡ false → IsUnit e a → IsUnit e b → IsTail side.Right e (in_print [] (what.Mark mark.Merge) ∷ in_print blank w ∷ (print.after blank a ++ (print.after blank b ++ [])))
tail_merge {e} {a} {b} w f g x y = record {
  fits = λ s ws r k.
      let m : ScanState = after s (kind.Mark mark.Merge) in
      let q : ScanState = after m kind.Word in
      let p : Keeps s m = keeps_plain s (kind.Mark mark.Merge) refl in
      let p2 : Keeps s q = keeps_then p (keeps_plain m kind.Word refl) in
      let vs : List What = whats_of (print.after blank b ++ []) ++ ws in
      let last : (j : ScanState) → Keeps q j → j.level.wanted ≡ q.level.wanted - 1 → AllFit j vs = λ j t n.
      (later (operand_unit y)).fits j ws (ready_then r (keeps_then p2 t)) (λ z. begins_wanted j (t.at ∙ p2.at ∙ r.here) (omega (arith, n, wanted_two s))) (λ i u. k i (keeps_then p2 (keeps_then t u))) in
      let whole : AllFit q (whats_of (print.after blank a) ++ vs) = (unit_after blank x).fits q vs (ready_then r p2) (begins_wanted q (p2.at ∙ r.here) (omega (arith, wanted_two s))) last in (
        fits_plain s (what.Mark mark.Merge) r.few refl refl,
        (
          fits_plain m w (omega (arith, r.few, p.commas)) (ap is_plain f) g,
          subst (λ (i : Kind). AllFit (after m i) (whats_of (print.after blank a ++ (print.after blank b ++ [])) ++ ws)) (sym f) (subst (AllFit q) (sym (split_whats (print.after blank a) (print.after blank b ++ []) ws)) whole),
        ),
      );
}
