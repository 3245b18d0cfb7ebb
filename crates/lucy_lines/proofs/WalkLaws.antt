-- Laws of outputs that are walked along.
use Rattle.std.proofs.Common.{ℕ, suc, zero, ◌+◌, ◌-◌, ◌<◌, ◌≤◌, ◌≡◌, ◌⊎◌, inl, inr, ℤ, pos, negsuc, Bool, true, false, List, [], ◌∷◌, ◌++◌, length, take, drop, set, get_or, Some, None, refl, ap, sym, ◌∙◌, subst, arith, append_assoc, append-nil, length-append, w64, FitsSigned, if◌then◌else◌}
use Rattle.std.specs.List.{slice_get}
use Rattle.std.proofs.lemmas.Option.{slice_get_within, slice_get-get_or, get_or_from_slice_get}
use Rattle.std.proofs.lemmas.Fmt.{length_signed_le}
use Rattle.std.proofs.lemmas.List.{drop-drop}
use Rattle.lucy_word.specs.Bits.{Bits, bit_at, ones_to, one_if}
use Rattle.lucy_word.proofs.BitsLaws.{ones_to-more}
use Rattle.lucy_word.proofs.IndexLaws.{ones_to-rises}
use Rattle.lucy_word.proofs.Lists.{get_set, get_set_other, front_empty}
use Rattle.lucy_host.specs.declared.data_type.DataType.{DataType}
use Rattle.lucy_host.specs.declared.data_type.DataType.TheVariants as kind
use Rattle.lucy_lines.specs.Written.{LinesState, value_text, line_of}
use Rattle.lucy_lines.specs.declared.output.OutputSpec.{OutputSpec}
use Rattle.lucy_lines.specs.Outputs.{line_with_value, value_after, instant_after}
use Rattle.lucy_text.specs.Outside.{SeenSink, Fails}
use Rattle.lucy_lines.specs.Walks.{WalkState, next_value, next_lines, IsStepped, AreStepped, AreSteppedTo, IsWalkedTo, AreAt, IsWalked, AreWalked, FitsRoom, FitRoom, Gathers}
use Rattle.lucy_lines.proofs.SinkLaws.{fails_longer, gathers_more, gathered_fails}

-- items of lists that have one more
get-more : {A : Type 0} (xs : List A) (x : A) (k : ℕ) (y : A) → slice_get (xs ++ x ∷ []) k ≡ Some y → (slice_get xs k ≡ Some y) ⊎ ((k ≡ length xs) × (y ≡ x))
get-more [] x zero y e = inr (refl, (cc))
get-more [] x (suc k) y e = cc
get-more (z ∷ xs) x zero y e = inl e
get-more (z ∷ xs) x (suc k) y e = elim (get-more xs x k y e) [ inl old ↦ inl old | inr new ↦ inr (ap suc new.0, new.1) ]

get-drop : {A : Type 0} (xs : List A) (n : ℕ) → slice_get (drop n xs) 0 ≡ slice_get xs n
get-drop xs zero = refl
get-drop [] (suc n) = refl
get-drop (x ∷ xs) (suc n) = get-drop xs n

-- lists of one length have items at the same places
get-there : {A B : Type 0} (xs : List A) (ys : List B) (k : ℕ) (y : B) → length ys ≡ length xs → slice_get ys k ≡ Some y → (x : A) × (slice_get xs k ≡ Some x)
get-there [] [] k y same at = cc
get-there [] (z ∷ ys) k y same at = absurd (omega arith)
get-there (x ∷ xs) [] k y same at = cc
get-there (x ∷ xs) (z ∷ ys) zero y same at = (x, refl)
get-there (x ∷ xs) (z ∷ ys) (suc k) y same at = get-there xs ys k y (omega arith) at

-- before the first instant nothing was walked along
pub none_walked : (o : OutputSpec) (w : WalkState) → w ≡ record { output = o; bits = o.word; place = 0 } → IsWalkedTo 0 o w
none_walked o w e = record { output = ap (λ v. v.output) e; bits = λ i some. ap (λ v. bit_at v.bits i) e ∙ ap (bit_at o.word) (omega arith) }

-- at the front of lists all of them is left
all_left : (t : ℕ) (o : OutputSpec) (list : List ℤ) (w : WalkState) → IsWalkedTo t o w → w.place ≡ 0 → IsWalked t t o list w
all_left t o list w at front = record { at = at; rest = ap (λ n. drop n list) (front ∙ (omega arith)) }

-- the next bit
next_bit : (t : ℕ) (o : OutputSpec) (w : WalkState) → IsWalkedTo t o w → bit_at w.bits 1 ≡ bit_at o.word (t + 1)
next_bit t o w at = at.bits 1 (omega arith)

-- one instant later
pub at_later : (t : ℕ) (o : OutputSpec) (list : List ℤ) (w v : WalkState) → IsWalkedTo t o w → IsStepped list w v → IsWalkedTo (t + 1) o v
at_later t o list w v at step = record {
  output = step.output ∙ at.output;
  bits = λ i some. step.bits i some ∙ at.bits (i + 1) (omega arith) ∙ ap (bit_at o.word) (omega arith);
}

pub left_later : (before t : ℕ) (o : OutputSpec) (list : List ℤ) (w v : WalkState) → before ≤ t → IsWalked before t o list w → IsStepped list w v → IsWalked before (t + 1) o list v
left_later before t o list w v le left step =
    let past : ℕ = ones_to o.word t - ones_to o.word before in
    let more : ones_to o.word (t + 1) ≡ ones_to o.word t + one_if (bit_at o.word (t + 1)) = ones_to-more o.word t in
    let rises : ones_to o.word before ≤ ones_to o.word t = ones_to-rises o.word before t le in
    record {
      at = at_later t o list w v left.at step;
      rest = step.rest
          ∙ ap (drop (one_if (bit_at w.bits 1))) left.rest
          ∙ drop-drop (one_if (bit_at w.bits 1)) past list
          ∙ ap (λ bit. drop (past + one_if bit) list) (next_bit t o w left.at)
          ∙ ap (λ n. drop n list) (omega arith);
    }

-- the item at a place is the first of what is left there
item_left : (list : List ℤ) (n m : ℕ) → drop n list ≡ drop m list → slice_get list n ≡ slice_get list m
item_left list n m e = sym (get-drop list n) ∙ ap (λ items. slice_get items 0) e ∙ get-drop list m

-- the item at a one
item_at_one : (word : Bits) (before t : ℕ) (list : List ℤ) (bit : Bool) → before ≤ t → bit ≡ bit_at word (t + 1) →
    (if bit then slice_get list (ones_to word t - ones_to word before) else None) ≡ (if bit then slice_get list (ones_to word (t + 1) - 1 - ones_to word before) else None)
item_at_one word before t list false le is = refl
item_at_one word before t list true le is =
    let one : ones_to word (t + 1) ≡ ones_to word t + 1 = ones_to-more word t ∙ ap (λ bit. ones_to word t + one_if bit) (sym is) in
    ap (slice_get list) (omega arith)

-- the value at the next instant
pub next_value-is : (before t : ℕ) (o : OutputSpec) (list : List ℤ) (w : WalkState) → before ≤ t → IsWalked before t o list w → next_value w list ≡ value_after o list before (t + 1)
next_value-is before t o list w le left =
    let bit = next_bit t o w left.at in
    ap (λ item. if bit_at w.bits 1 then item else None) (item_left list w.place (ones_to o.word t - ones_to o.word before) left.rest)
    ∙ item_at_one o.word before t list (bit_at w.bits 1) le bit
    ∙ ap (λ b. if b then slice_get list (ones_to o.word (t + 1) - 1 - ones_to o.word before) else None) bit

-- the lines of the next instant
pub next_lines-is : (before t : ℕ) (outputs : List OutputSpec) (lists : List (List ℤ)) (walks : List WalkState) → before ≤ t → length outputs ≤ length lists →
    AreWalked before t outputs lists walks → next_lines walks lists ≡ instant_after outputs lists before (t + 1)
unfolding next_lines instant_after
next_lines-is before t [] lists [] le enough left = refl
next_lines-is before t [] lists (w ∷ walks) le enough left = absurd (omega (arith, left.count))
next_lines-is before t (o ∷ outputs) lists [] le enough left = absurd (omega (arith, left.count))
next_lines-is before t (o ∷ outputs) [] (w ∷ walks) le enough left = absurd (omega arith)
next_lines-is before t (o ∷ outputs) (list ∷ lists) (w ∷ walks) le enough left =
    let here = left.each 0 o w refl refl in
    let more = next_lines-is before t outputs lists walks le (omega arith) (record { count = omega (arith, left.count); each = λ k p v is at. left.each (suc k) p v is at }) in
    let output = ap (λ p. line_with_value p (next_value w list)) here.at.output in
    let value = ap (line_with_value o) (next_value-is before t o list w le here) in
    ap (λ line. line ++ next_lines walks lists) (output ∙ value) ∙ ap (λ text. line_with_value o (value_after o list before (t + 1)) ++ text) more

-- all one instant later
pub all_left_later : (before t : ℕ) (outputs : List OutputSpec) (lists : List (List ℤ)) (walks later : List WalkState) → before ≤ t → length later ≡ length walks →
    AreWalked before t outputs lists walks → AreStepped lists walks later → AreWalked before (t + 1) outputs lists later
all_left_later before t outputs lists walks later le count left steps = record {
  count = count ∙ left.count;
  each = λ k o v is at.
      let was = get-there walks later k v count at in
      left_later before t o (get_or lists k []) was.0 v le (left.each k o was.0 is was.1) (steps k was.0 v was.1 at);
}

-- the next lists begin
pub lists_begin : (t : ℕ) (outputs : List OutputSpec) (lists : List (List ℤ)) (walks now : List WalkState) → length now ≡ length walks → AreAt t outputs walks →
    ((k : ℕ) (w : WalkState) → slice_get walks k ≡ Some w → slice_get now k ≡ Some (record w { place = 0 })) → AreWalked t t outputs lists now
lists_begin t outputs lists walks now count at begun = record {
  count = count ∙ at.count;
  each = λ k o v is there.
      let was = get-there walks now k v count there in
      let same : Some v ≡ Some (record was.0 { place = 0 }) = sym there ∙ begun k was.0 was.1 in
      let here : v ≡ record was.0 { place = 0 } = cc in
      let before : IsWalkedTo t o was.0 = at.each k o was.0 is was.1 in
      let P : WalkState → Type 0 = λ u. IsWalked t t o (get_or lists k []) u in
      subst P (sym here) (all_left t o (get_or lists k []) (record was.0 { place = 0 }) (record { output = before.output; bits = before.bits }) refl);
}

-- the walks stand there, whatever is left of their lists
pub walked_at : (before t : ℕ) (outputs : List OutputSpec) (lists : List (List ℤ)) (walks : List WalkState) → AreWalked before t outputs lists walks → AreAt t outputs walks
walked_at before t outputs lists walks left = record { count = left.count; each = λ k o w is at. (left.each k o w is at).at }

-- walks that fit their room still do
pub fit_later : (lists : List (List ℤ)) (walks later : List WalkState) (room : ℕ) → length later ≡ length walks → FitRoom walks room → AreStepped lists walks later → FitRoom later room
fit_later lists walks later room count fit steps = λ k v at.
    let before = get-there walks later k v count at in
    let P : OutputSpec → Type 0 = λ o. FitsRoom o room in
    subst P (sym (steps k before.0 v before.1 at).output) (fit k before.0 before.1)

-- also where the next lists begin
pub fit_begun : (walks now : List WalkState) (room : ℕ) → length now ≡ length walks → FitRoom walks room →
    ((k : ℕ) (w : WalkState) → slice_get walks k ≡ Some w → slice_get now k ≡ Some (record w { place = 0 })) → FitRoom now room
fit_begun walks now room count fit begun = λ k v there.
    let was = get-there walks now k v count there in
    let same : Some v ≡ Some (record was.0 { place = 0 }) = sym there ∙ begun k was.0 was.1 in
    let here : v ≡ record was.0 { place = 0 } = cc in
    let P : WalkState → Type 0 = λ u. FitsRoom u.output room in
    subst P (sym here) (fit k was.0 was.1)

-- a value has at most 20 bytes in print
pub value_text-short : (holds : DataType) (value : ℤ) → FitsSigned w64 value → length (value_text holds value) ≤ 20
value_text-short kind.Int value fits = length_signed_le 19 value (omega (arith, fits.sfits)) (omega (arith, fits.sfits))
value_text-short kind.Bool (pos zero) fits = omega arith
value_text-short kind.Bool (pos (suc n)) fits = omega arith
value_text-short kind.Bool (negsuc n) fits = omega arith

-- so a line has at most 22 bytes more than its name
pub line_of-short : (name : List ℕ) (holds : DataType) (value : ℤ) → FitsSigned w64 value → length (line_of name holds value) ≤ length name + 22
line_of-short name holds value fits =
    omega (arith, value_text-short holds value fits, length-append name (32 ∷ (value_text holds value ++ 10 ∷ [])), length-append (value_text holds value) (10 ∷ []))

-- the lines of one output more
pub next_lines-more : (walks : List WalkState) (lists : List (List ℤ)) (i : ℕ) (w : WalkState) (items : List ℤ) → slice_get walks i ≡ Some w → slice_get lists i ≡ Some items →
    next_lines (take (i + 1) walks) lists ≡ next_lines (take i walks) lists ++ line_with_value w.output (next_value w items)
unfolding next_lines
next_lines-more [] lists i w items at has = cc
next_lines-more (v ∷ walks) [] i w items at has = cc
next_lines-more (v ∷ walks) (list ∷ lists) zero w items at has =
    let same : v ≡ w = cc in
    let alike : list ≡ items = cc in
    append-nil (line_with_value v.output (next_value v list)) ∙ ap (λ u. line_with_value u.output (next_value u list)) same ∙ ap (λ l. line_with_value w.output (next_value w l)) alike
next_lines-more (v ∷ walks) (list ∷ lists) (suc i) w items at has =
    let line = line_with_value v.output (next_value v list) in
    let e : suc i + 1 ≡ suc (i + 1) = omega arith in
    ap (λ n. next_lines (take n (v ∷ walks)) (list ∷ lists)) e
    ∙ ap (λ text. line ++ text) (next_lines-more walks lists i w items at has)
    ∙ sym (append_assoc line (next_lines (take i walks) lists) (line_with_value w.output (next_value w items)))

-- and those of the others
pub next_lines-split : (walks : List WalkState) (lists : List (List ℤ)) (i : ℕ) → next_lines walks lists ≡ next_lines (take i walks) lists ++ next_lines (drop i walks) (drop i lists)
unfolding next_lines
next_lines-split walks lists zero = refl
next_lines-split [] lists (suc i) = refl
next_lines-split (w ∷ walks) [] (suc i) = sym (no_list (drop i walks))
  where
    no_list : (rest : List WalkState) → next_lines rest [] ≡ []
    no_list [] = refl
    no_list (v ∷ rest) = refl
next_lines-split (w ∷ walks) (list ∷ lists) (suc i) =
    let line = line_with_value w.output (next_value w list) in
    ap (λ text. line ++ text) (next_lines-split walks lists i) ∙ sym (append_assoc line (next_lines (take i walks) lists) (next_lines (drop i walks) (drop i lists)))

-- the walks are as they were before the first is walked along
pub none_stepped : (lists : List (List ℤ)) (walks : List WalkState) → AreSteppedTo lists walks walks 0
none_stepped lists walks = record { stepped = λ k w v lt. absurd (omega arith); others = λ k le. refl }

below_or : (k i : ℕ) → k < i + 1 → (k < i) ⊎ (k ≡ i)
below_or zero zero lt = inr refl
below_or zero (suc i) lt = inl (omega arith)
below_or (suc k) zero lt = absurd (omega arith)
below_or (suc k) (suc i) lt = elim (below_or k i (omega arith)) [ inl below ↦ inl (omega arith) | inr here ↦ inr (ap suc here) ]

stepped_here : (lists : List (List ℤ)) (items : List ℤ) (before now : List WalkState) (i k : ℕ) (w v x y : WalkState) → k ≡ i → i < length now → slice_get lists i ≡ Some items →
    slice_get before i ≡ Some w → slice_get before k ≡ Some x → slice_get (set now i v) k ≡ Some y → IsStepped items w v → IsStepped (get_or lists k []) x y
stepped_here lists items before now i k w v x y here lt has at was is step =
    let old : Some w ≡ Some x = sym at ∙ ap (slice_get before) (sym here) ∙ was in
    let new : Some v ≡ Some y = sym (get_set now i v lt) ∙ ap (slice_get (set now i v)) (sym here) ∙ is in
    let w_is : w ≡ x = cc in
    let v_is : v ≡ y = cc in
    let given : get_or lists k [] ≡ items = ap (λ n. get_or lists n []) here ∙ get_or_from_slice_get lists i items [] has in
    let P : WalkState → Type 0 = λ u. IsStepped (get_or lists k []) u y in
    let Q : WalkState → Type 0 = λ u. IsStepped (get_or lists k []) w u in
    let R : List ℤ → Type 0 = λ l. IsStepped l w v in
    subst P w_is (subst Q v_is (subst R (sym given) step))

-- and one more
pub one_more_stepped : (lists : List (List ℤ)) (items : List ℤ) (before now : List WalkState) (i : ℕ) (w v : WalkState) → length now ≡ length before → slice_get lists i ≡ Some items →
    slice_get before i ≡ Some w → IsStepped items w v → AreSteppedTo lists before now i → AreSteppedTo lists before (set now i v) (i + 1)
one_more_stepped lists items before now i w v same has at step steps = record {
  stepped = λ k x y lt was is. elim (below_or k i lt) [
    | inl below ↦ steps.stepped k x y below was (sym (get_set_other now i k v (λ e. absurd (omega arith))) ∙ is)
    | inr here ↦ stepped_here lists items before now i k w v x y here (omega (arith, slice_get_within before i w at)) has at was is step
  ];
  others = λ k le. get_set_other now i k v (λ e. absurd (omega arith)) ∙ steps.others k (omega arith);
}

-- and in the end all are one instant later
pub all_stepped : (lists : List (List ℤ)) (before now : List WalkState) (i : ℕ) → length before ≤ i → AreSteppedTo lists before now i → AreStepped lists before now
all_stepped lists before now i le steps = λ k w v was is. steps.stepped k w v (omega (arith, slice_get_within before k w was)) was is

-- the lines of the outputs before, and the line of one more
pub one_more_gathered : {K : Type 0} (k l m : K) (s t u : SeenSink) (lines waits : LinesState) (bytes line : List ℕ) (walks : List WalkState) (lists : List (List ℤ)) (i : ℕ) (w : WalkState)
    (items : List ℤ) → slice_get walks i ≡ Some w → slice_get lists i ≡ Some items → line ≡ line_with_value w.output (next_value w items) →
    Gathers k l s t lines (bytes ++ next_lines (take i walks) lists) → Gathers l m t u waits (lines.bytes ++ line) → Gathers k m s u waits (bytes ++ next_lines (take (i + 1) walks) lists)
one_more_gathered k l m s t u lines waits bytes line walks lists i w items at has is p q =
    let P : List ℕ → Type 0 = λ text. Gathers k m s u waits text in
    let e : (bytes ++ next_lines (take i walks) lists) ++ line ≡ bytes ++ next_lines (take (i + 1) walks) lists =
    append_assoc bytes (next_lines (take i walks) lists) line
    ∙ ap (λ text. bytes ++ (next_lines (take i walks) lists ++ text)) is
    ∙ ap (λ text. bytes ++ text) (sym (next_lines-more walks lists i w items at has)) in
    subst P e (gathers_more k l m s t u lines waits (bytes ++ next_lines (take i walks) lists) line p q)

-- the write of a piece failed
pub instant_fails : {K : Type 0} (k l : K) (s t u : SeenSink) (lines : LinesState) (bytes line : List ℕ) (walks : List WalkState) (lists : List (List ℤ)) (i : ℕ) (w : WalkState)
    (items : List ℤ) → slice_get walks i ≡ Some w → slice_get lists i ≡ Some items → line ≡ line_with_value w.output (next_value w items) →
    Gathers k l s t lines (bytes ++ next_lines (take i walks) lists) → Fails t u (lines.bytes ++ line) → Fails s u (bytes ++ next_lines walks lists)
instant_fails k l s t u lines bytes line walks lists i w items at has is p q =
    let before = next_lines (take i walks) lists in
    let rest = next_lines (drop (i + 1) walks) (drop (i + 1) lists) in
    let P : List ℕ → Type 0 = λ text. Fails s u text in
    let e : ((bytes ++ before) ++ line) ++ rest ≡ bytes ++ next_lines walks lists =
    append_assoc (bytes ++ before) line rest
    ∙ append_assoc bytes before (line ++ rest)
    ∙ ap (λ text. bytes ++ text)
    (sym (append_assoc before line rest)
    ∙ ap (λ l. (before ++ l) ++ rest) is
    ∙ ap (λ text. text ++ rest) (sym (next_lines-more walks lists i w items at has))
    ∙ sym (next_lines-split walks lists (i + 1))) in
    subst P e (fails_longer s u ((bytes ++ before) ++ line) rest (gathered_fails k l s t u lines (bytes ++ before) line p q))

-- where there is no text, none was gathered of the first outputs
pub first_empty : (bytes : List ℕ) (walks : List WalkState) (lists : List (List ℤ)) (i : ℕ) → bytes ++ next_lines walks lists ≡ [] → bytes ++ next_lines (take i walks) lists ≡ []
first_empty bytes walks lists i empty =
    let before = next_lines (take i walks) lists in
    let rest = next_lines (drop i walks) (drop i lists) in
    front_empty (bytes ++ before) rest (append_assoc bytes before rest ∙ ap (λ text. bytes ++ text) (sym (next_lines-split walks lists i)) ∙ empty)

-- of no outputs there is no line
pub no_lines : (bytes : List ℕ) (walks : List WalkState) (lists : List (List ℤ)) → bytes ≡ bytes ++ next_lines (take 0 walks) lists
unfolding next_lines
no_lines bytes walks lists = sym (append-nil bytes)

-- the output that is walked along now is as it was
pub walked_now : (lists : List (List ℤ)) (before now : List WalkState) (i : ℕ) (w : WalkState) → AreSteppedTo lists before now i → i < length now → slice_get before i ≡ Some (get_or now i w)
walked_now lists before now i w steps lt = sym (steps.others i (omega arith)) ∙ slice_get-get_or now i w lt

-- the first outputs before the first instant
abbrev pub AreNew : List OutputSpec → List WalkState → Type 0
AreNew outputs walks = (k : ℕ) (o : OutputSpec) (w : WalkState) → slice_get outputs k ≡ Some o → slice_get walks k ≡ Some w → IsWalkedTo 0 o w

-- and one more
pub one_more_new : (outputs : List OutputSpec) (walks : List WalkState) (i : ℕ) (o : OutputSpec) (w : WalkState) → length walks ≡ i →
    slice_get outputs i ≡ Some o → w ≡ record { output = o; bits = o.word; place = 0 } → AreNew outputs walks → AreNew outputs (walks ++ w ∷ [])
one_more_new outputs walks i o w count is new before = λ k p v was at. elim (get-more walks w k v at) [
  | inl old ↦ before k p v was old
  | inr last ↦ (
      let here : k ≡ i = last.0 ∙ count in
      let same : Some o ≡ Some p = sym is ∙ ap (slice_get outputs) (sym here) ∙ was in
      let output : o ≡ p = cc in
      let Q : OutputSpec → Type 0 = λ q. IsWalkedTo 0 q v in
      subst Q output (none_walked o v (last.1 ∙ new))
      )
]

-- where the lines of outputs fit a room, those that are walked along do
pub fit_all : (outputs : List OutputSpec) (walks : List WalkState) (n room : ℕ) → AreAt n outputs walks →
    ((k : ℕ) (o : OutputSpec) → slice_get outputs k ≡ Some o → FitsRoom o room) → FitRoom walks room
fit_all outputs walks n room at fit = λ k w here.
    let there = get-there outputs walks k w at.count here in
    let P : OutputSpec → Type 0 = λ o. FitsRoom o room in
    subst P (sym (at.each k there.0 w there.1 here).output) (fit k there.0 there.1)

-- the next list of one more output begins
pub one_more_begun : (before now : List WalkState) (i : ℕ) (w v : WalkState) → i < length now → v ≡ record (get_or now i w) { place = 0 } →
    ((k : ℕ) (u : WalkState) → k < i → slice_get before k ≡ Some u → slice_get now k ≡ Some (record u { place = 0 })) → ((k : ℕ) → i ≤ k → slice_get now k ≡ slice_get before k) →
    (k : ℕ) (u : WalkState) → k < i + 1 → slice_get before k ≡ Some u → slice_get (set now i v) k ≡ Some (record u { place = 0 })
one_more_begun before now i w v there new begun others k u lt was = elim (below_or k i lt) [
  | inl below ↦ get_set_other now i k v (λ e. absurd (omega arith)) ∙ begun k u below was
  | inr here ↦ (
      let same : Some (get_or now i w) ≡ Some u = sym (slice_get-get_or now i w there) ∙ others i (omega arith) ∙ ap (slice_get before) (sym here) ∙ was in
      let alike : get_or now i w ≡ u = cc in
      let front : WalkState → WalkState = λ x. record x { place = 0 } in
      ap (slice_get (set now i v)) here ∙ get_set now i v there ∙ ap (λ x. Some x) (new ∙ ap front alike)
      )
]

pub others_more : (before now : List WalkState) (i : ℕ) (v : WalkState) → ((k : ℕ) → i ≤ k → slice_get now k ≡ slice_get before k) →
    (k : ℕ) → i + 1 ≤ k → slice_get (set now i v) k ≡ slice_get before k
others_more before now i v others k le = get_set_other now i k v (λ e. absurd (omega arith)) ∙ others k (omega arith)
