-- The variables of main, one after another.
use Rattle.std.proofs.Common.{ℕ, suc, zero, ◌+◌, ◌<◌, ◌≤◌, ◌≡◌, List, [], ◌∷◌, ◌++◌, length, take, drop, get_or, Option, Some, None, ap, ap₂, sym, refl, ◌∙◌, subst, arith}
use Rattle.std.specs.Prelude.{ℤ, slice_get}
use Rattle.std.specs.List.{AllByRecursion}
use Rattle.std.specs.Option.{unwrap_or}
use Rattle.std.proofs.lemmas.List.{drop_more, take_more}
use Rattle.std.proofs.lemmas.Option.{get_or_from_slice_get}
use Rattle.lucy_word.specs.Bits.{Bits}
use Rattle.lucy_word.proofs.Lists.{drop_next, all_join}
use Rattle.lucy_lines.specs.declared.output.OutputSpec.{OutputSpec}
use Rattle.lucy_place.specs.declared.entry.PlaceEntry.{PlaceEntry}
use Rattle.lucy_place.specs.declared.placed.PlacedNode.{PlacedNode}
use Rattle.lucy_tree.specs.declared.span.Name.{Name}
use Rattle.lucy_place.specs.Proper.{at_one, IsNamed}
use Rattle.lucy_place.proofs.NodeLaws.{named_place}
use Rattle.lucy_need.specs.Meeting.{Assignment}
use Rattle.lucy_program.specs.Report.{first_operand}
use Rattle.lucy_wave.specs.Dumps.{Variable}
use Rattle.lucy_wave.specs.Waves.{Fit, there, waits, stream, results, input, inputs, written_name, is_outer, inner_place, inner_places, inner_of, there_bits, with_items, buffers}
use Rattle.lucy_wave.specs.Seen.{IsWithin}
use Rattle.lucy_wave.proofs.ReadLaws.{either}
use Rattle.lucy_wave.proofs.PieceLaws.{pieces, items_split}

-- one result more
pub results_more : (outputs : List OutputSpec) (streams : List (List ℤ)) (i : ℕ) (o : OutputSpec) (items : List ℤ) (old new whole : List Variable) → i < length outputs → o ≡ get_or outputs i o → slice_get streams i ≡ Some items →
    i < length streams → new ≡ old ++ stream o.name o.word items → old ++ results (drop i outputs) (drop i streams) ≡ whole → new ++ results (drop (i + 1) outputs) (drop (i + 1) streams) ≡ whole
results_more outputs streams i o items old new whole h is at k more before =
    let split = ap₂ results (drop_next outputs i o h is) (items_split streams i items at k) in
    pieces old new whole (stream o.name o.word items) _ _ more split before

-- those so far fit
all_push : {A : Type 0} (P : A → Type 0) (xs : List A) (x : A) → AllByRecursion P xs → P x → AllByRecursion P (xs ++ x ∷ [])
all_push P [] x all own = (own, tt)
all_push P (y ∷ xs) x all own = (all.0, all_push P xs x all.1 own)

pub fit_more : (streams : List (List ℤ)) (i : ℕ) (items : List ℤ) → i < length streams → slice_get streams i ≡ Some items → AllByRecursion Fit (take i streams) → Fit items → AllByRecursion Fit (take (i + 1) streams)
fit_more streams i items k at all own =
    let here : get_or streams i [] ≡ items = get_or_from_slice_get streams i items [] at in
    subst (AllByRecursion Fit) (sym (take_more streams i [] k ∙ ap (λ x. take i streams ++ x ∷ []) here)) (all_push Fit (take i streams) items all own)

-- one input more
pub inputs_more : (n : PlacedNode) (w : Assignment) (lists : List (List ℤ)) (i place : ℕ) (word : Bits) (items : List ℤ) (old new whole : List Variable) → slice_get lists i ≡ Some items → i < length lists →
    place ≡ i + 1 → word ≡ w place → new ≡ old ++ input n word place items → old ++ inputs n w (1 + i) (drop i lists) ≡ whole → new ++ inputs n w (1 + (i + 1)) (drop (i + 1) lists) ≡ whole
inputs_more n w lists i place word items old new whole at k is worded more before =
    let next : 1 + i + 1 ≡ 1 + (i + 1) = omega arith in
    let here : 1 + i ≡ place = omega arith in
    let own : input n (w (1 + i)) (1 + i) items ≡ input n word place items =
    ap (λ p. input n (w p) p items) here ∙ ap (λ x. input n x place items) (sym worded) in
    let split : inputs n w (1 + i) (drop i lists) ≡ input n word place items ++ inputs n w (1 + (i + 1)) (drop (i + 1) lists) =
    ap (inputs n w (1 + i)) (items_split lists i items at k)
    ∙ ap₂ (λ x p. x ++ inputs n w p (drop (i + 1) lists)) own next in
    pieces old new whole (input n word place items) _ _ more split before

-- one inner place more
pub places_more : (n : PlacedNode) (entries : List PlaceEntry) (i place : ℕ) (entry : PlaceEntry) (old new whole : List ℕ) → i < length entries → entry ≡ get_or entries i entry → place ≡ i + 1 →
    new ≡ old ++ inner_place n place entry.name → old ++ inner_places n (1 + i) (drop i entries) ≡ whole → new ++ inner_places n (1 + (i + 1)) (drop (i + 1) entries) ≡ whole
places_more n entries i place entry old new whole h is at more before =
    let next : 1 + i + 1 ≡ 1 + (i + 1) = omega arith in
    let here : 1 + i ≡ place = omega arith in
    let split : inner_places n (1 + i) (drop i entries) ≡ inner_place n place entry.name ++ inner_places n (1 + (i + 1)) (drop (i + 1) entries) =
    ap (inner_places n (1 + i)) (drop_next entries i entry h is)
    ∙ ap₂ (λ x p. x ++ inner_places n p (drop (i + 1) entries)) (ap (λ p. inner_place n p entry.name) here) next in
    pieces old new whole (inner_place n place entry.name) _ _ more split before

-- a place has at most one
pub one_place : (n : PlacedNode) (place : ℕ) (name : Option Name) → length (inner_place n place name) ≤ 1
one_place n place None = omega arith
one_place n place (Some name) = either (λ xs. length xs ≤ 1) (is_outer n place) [] (place ∷ []) (omega arith) (omega arith)

-- the first of what is left of numbers
pub number_split : (xs : List ℕ) (i x : ℕ) → i < length xs → x ≡ get_or xs i 0 → drop i xs ≡ x ∷ drop (i + 1) xs
number_split xs i x h is = drop_more xs i 0 h ∙ ap (λ y. y ∷ drop (i + 1) xs) (sym is)

-- one bit more
pub bits_more : (n : PlacedNode) (w : Assignment) (places : List ℕ) (i place : ℕ) (name : List ℕ) (word : Bits) (old new whole : List Variable) → i < length places → place ≡ get_or places i 0 → name ≡ written_name n place → word ≡ w place →
    new ≡ old ++ there name word ∷ [] → old ++ there_bits n w (drop i places) ≡ whole → new ++ there_bits n w (drop (i + 1) places) ≡ whole
bits_more n w places i place name word old new whole h is named worded more before =
    let split : there_bits n w (drop i places) ≡ (there name word ∷ []) ++ there_bits n w (drop (i + 1) places) =
    ap (there_bits n w) (number_split places i place h is) ∙ ap₂ (λ x u. there x u ∷ there_bits n w (drop (i + 1) places)) (sym named) (sym worded) in
    pieces old new whole (there name word ∷ []) _ _ more split before

-- one stream more
pub items_more : (n : PlacedNode) (w : Assignment) (places : List ℕ) (streams : List (List ℤ)) (i place : ℕ) (name : List ℕ) (word : Bits) (items : List ℤ) (old new whole : List Variable) → i < length places → place ≡ get_or places i 0 →
    name ≡ written_name n place → word ≡ w place → slice_get streams i ≡ Some items → i < length streams → new ≡ old ++ stream name word items → old ++ with_items n w (drop i places) (drop i streams) ≡ whole →
    new ++ with_items n w (drop (i + 1) places) (drop (i + 1) streams) ≡ whole
items_more n w places streams i place name word items old new whole h is named worded at k more before =
    let split : with_items n w (drop i places) (drop i streams) ≡ stream name word items ++ with_items n w (drop (i + 1) places) (drop (i + 1) streams) =
    ap₂ (with_items n w) (number_split places i place h is) (items_split streams i items at k)
    ∙ ap₂ (λ x u. stream x u items ++ with_items n w (drop (i + 1) places) (drop (i + 1) streams)) (sym named) (sym worded) in
    pieces old new whole (stream name word items) _ _ more split before

-- inner places are places with names, whose actors and words are there
inner_of_name : (n : PlacedNode) (place : ℕ) (entry : PlaceEntry) → at_one n.places place ≡ Some entry → (name : Option Name) → entry.name ≡ name → AllByRecursion (IsNamed n) (inner_place n place name)
inner_of_name n place entry e None f = tt
inner_of_name n place entry e (Some name) f = either (AllByRecursion (IsNamed n)) (is_outer n place) [] (place ∷ []) tt ((entry, name, e, f), tt)

inner_from : (n : PlacedNode) (place : ℕ) (entries : List PlaceEntry) → ((i : ℕ) (entry : PlaceEntry) → slice_get entries i ≡ Some entry → at_one n.places (place + i) ≡ Some entry) → AllByRecursion (IsNamed n) (inner_places n place entries)
inner_from n place [] there_are = tt
inner_from n place (entry ∷ entries) there_are =
    let z : place + 0 ≡ place = omega arith in
    let own : at_one n.places place ≡ Some entry = ap (at_one n.places) (sym z) ∙ there_are 0 entry refl in
    all_join (IsNamed n) (inner_place n place entry.name) (inner_places n (place + 1) entries) (inner_of_name n place entry own entry.name refl)
    (inner_from n (place + 1) entries (λ i x e. (let s : place + 1 + i ≡ place + suc i = omega arith in ap (at_one n.places) s ∙ there_are (suc i) x e)))

pub inner_named : (n : PlacedNode) → AllByRecursion (IsNamed n) (inner_of n)
inner_named n = inner_from n 1 n.places (λ i entry e. (let s : 1 + i ≡ suc i = omega arith in ap (at_one n.places) s ∙ e))

pub named_within : (n : PlacedNode) (actors words : ℕ) (places : List ℕ) → length n.places ≤ actors → length n.places < words → AllByRecursion (IsNamed n) places → AllByRecursion (IsWithin actors words) places
named_within n actors words [] few many all = tt
named_within n actors words (p ∷ places) few many all =
    let is = named_place n p all.0 in
    let low = is.0 in
    let high = is.1 in
    ((low, omega arith, omega arith), named_within n actors words places few many all.1)

-- one of numbers that are within bounds
pub within_at : (actors words : ℕ) (places : List ℕ) (i : ℕ) → AllByRecursion (IsWithin actors words) places → i < length places → IsWithin actors words (get_or places i 0)
within_at actors words [] i all h = absurd (omega arith)
within_at actors words (p ∷ places) zero all h = all.0
within_at actors words (p ∷ places) (suc i) all h = within_at actors words places i all.1 (omega arith)

-- one buffer more
pub buffers_more : (n : PlacedNode) (w : Assignment) (places : List ℕ) (i number p operand : ℕ) (write read : Bits) (old new whole : List Variable) → i < length places → p ≡ get_or places i 0 → number ≡ i + 1 →
    operand ≡ unwrap_or (first_operand n p) 0 → write ≡ w operand → read ≡ w p → new ≡ old ++ waits number write read ∷ [] →
    old ++ buffers n w (1 + i) (drop i places) ≡ whole → new ++ buffers n w (1 + (i + 1)) (drop (i + 1) places) ≡ whole
buffers_more n w places i number p operand write read old new whole h is at by write_is read_is more before =
    let next : 1 + i + 1 ≡ 1 + (i + 1) = omega arith in
    let here : 1 + i ≡ number = omega arith in
    let writes : w (unwrap_or (first_operand n p) 0) ≡ write = ap w (sym by) ∙ sym write_is in
    let split : buffers n w (1 + i) (drop i places) ≡ waits number write read ∷ [] ++ buffers n w (1 + (i + 1)) (drop (i + 1) places) =
    ap (buffers n w (1 + i)) (drop_more places i 0 h ∙ ap (λ q. q ∷ drop (i + 1) places) (sym is))
    ∙ ap₂ (λ x q. x ∷ buffers n w q (drop (i + 1) places)) (ap₂ (λ k x. waits k x (w p)) here writes ∙ ap (waits number write) (sym read_is)) next in
    pieces old new whole (waits number write read ∷ []) _ _ more split before
