-- The results of an accepted program's main stand once each.
use Rattle.std.proofs.Common.{ℕ, suc, ◌+◌, ◌-◌, ◌≤◌, ◌≡◌, ◌||◌, Bool, true, false, not, cond, List, [], ◌∷◌, ◌++◌, Some, length, map, take, ap, sym, refl, ◌∙◌, subst, arith, length-append}
use Rattle.std.specs.Prelude.{slice_get}
use Rattle.std.specs.List.{list_any, position_or_len}
use Rattle.std.proofs.lemmas.Cmp.{nat_list_eq_equiv}
use Rattle.std.proofs.lemmas.Option.{same_Some}
use Rattle.lucy_word.specs.Bits.{Bits}
use Rattle.lucy_word.proofs.Lists.{front_empty, back_empty}
use Rattle.lucy_tree.specs.declared.span.Name.{Name}
use Rattle.lucy_types.specs.declared.ty.Ty.{Ty}
use Rattle.lucy_types.specs.Tables.{table_at}
use Rattle.lucy_place.specs.declared.placed.PlacedNode.{PlacedNode}
use Rattle.lucy_naming.specs.Texts.{is_text, is_in, place_in}
use Rattle.lucy_naming.specs.Streams.{streams as streams_in}
use Rattle.lucy_naming.specs.Views.{text_of}
use Rattle.lucy_naming.specs.Faults.{result_fault, result_faults}
use Rattle.lucy_naming.proofs.NodeFaults.{results_faultless}
use Rattle.lucy_naming.proofs.ProperPrograms.{node_good}
use Rattle.lucy_naming.proofs.ResultLaws.{no_fault}
use Rattle.lucy_naming.proofs.NameLaws.{behind_one}
use Rattle.lucy_need.specs.Meeting.{Assignment}
use Rattle.lucy_kahn.specs.Turns.{params_in}
use Rattle.lucy_flat.specs.Instances.{words_in}
use Rattle.lucy_results.specs.Streams.{main_word}
use Rattle.lucy_program.specs.Names.{of_one}
use Rattle.lucy_program.specs.Scheduled.{main_output}
use Rattle.lucy_wave.specs.Dumps.{Variable}
use Rattle.lucy_wave.specs.Waves.{results, inputs, inner, buffers, variables}
use Rattle.lucy_wave.specs.Laws.{AreDistinct, NamesAreDistinct}
use Rattle.lucy_wave.proofs.BackLaws.{NamesArePlain}
use Rattle.lucy_wave.proofs.NameLaws.{ProgramsAreProper, main_tree}
use Rattle.lucy_wave.proofs.DistinctLaws.{IsUnlike, AreUnlike, variables_distinct}

-- what stands at the place of a text
found_at : {A : Type 0} (p : A → Bool) (xs : List A) → list_any p xs ≡ true → (x : A) × (slice_get xs (position_or_len p xs) ≡ Some x) × (p x ≡ true)
found_at p [] h = absurd (cc)
found_at {A} p (x ∷ xs) h = step (p x) refl h (found_at p xs)
  where
    step : (b : Bool) → p x ≡ b → (b || list_any p xs) ≡ true → (list_any p xs ≡ true → (y : A) × (slice_get xs (position_or_len p xs) ≡ Some y) × (p y ≡ true)) →
        (y : A) × (slice_get (x ∷ xs) (cond (not b) (1 + position_or_len p xs) 0) ≡ Some y) × (p y ≡ true)
    step true e f rest = (x, refl, e)
    step false e f rest =
        let behind = rest f in
        let s : 1 + position_or_len p xs ≡ suc (position_or_len p xs) = omega arith in
        (behind.0, ap (slice_get (x ∷ xs)) s ∙ behind.1, behind.2)

-- streams at one place are one
same_text : (texts : List (List ℕ)) (t u : List ℕ) → is_in texts t ≡ true → is_in texts u ≡ true → place_in texts t ≡ place_in texts u → is_text u t ≡ true
same_text texts t u a b e =
    let first = found_at (is_text t) texts a in
    let second = found_at (is_text u) texts b in
    let same : second.0 ≡ first.0 = same_Some second.0 first.0 (sym second.1 ∙ ap (slice_get texts) (sym e) ∙ first.1) in
    let own : is_text u first.0 ≡ true = ap (is_text u) (sym same) ∙ second.2 in
    nat_list_eq_equiv.congr u first.0 t own ∙ nat_list_eq_equiv.symm first.0 t ∙ first.2

module _ (texts : List (List ℕ)) where
  abbrev place : Name → ℕ
  place r = place_in texts r.text + 1

  later : (x : Name) (before : List (List ℕ)) (rs : List Name) → is_in texts x.text ≡ true → ((y : List ℕ) → is_in before y ≡ false → is_text y x.text ≡ false) → result_faults texts before rs ≡ [] → IsUnlike (place x) (map place rs)
  later x before [] is out h = tt
  later x before (r ∷ rs) is out h =
      let own = no_fault _ _ _ _ (front_empty (result_fault texts before r) (result_faults texts (before ++ r.text ∷ []) rs) h) in
      let rest = back_empty (result_fault texts before r) (result_faults texts (before ++ r.text ∷ []) rs) h in (
        (λ e. (let at : place_in texts x.text ≡ place_in texts r.text = omega arith in
            let never : true ≡ false = sym (same_text texts x.text r.text is own.0 at) ∙ out r.text own.1 in cc never)),
        later x (before ++ r.text ∷ []) rs is (λ y k. out y (behind_one before y r.text k).0) rest,
      )

  unlike : (before : List (List ℕ)) (rs : List Name) → result_faults texts before rs ≡ [] → AreUnlike (map place rs)
  unlike before [] h = tt
  unlike before (r ∷ rs) h =
      let own = no_fault _ _ _ _ (front_empty (result_fault texts before r) (result_faults texts (before ++ r.text ∷ []) rs) h) in
      let rest = back_empty (result_fault texts before r) (result_faults texts (before ++ r.text ∷ []) rs) h in
      (later r (before ++ r.text ∷ []) rs own.0 (λ y k. (behind_one before y r.text k).1) rest, unlike (before ++ r.text ∷ []) rs rest)

-- buffers are no more than all variables
buffers_count : (n : PlacedNode) (w : Assignment) (number : ℕ) (places : List ℕ) → length (buffers n w number places) ≡ length places
buffers_count n w number [] = refl
buffers_count n w number (p ∷ places) = ap suc (buffers_count n w (number + 1) places)

last_within : (xs bs cs ds : List Variable) → length ds ≤ length (xs ++ (bs ++ (cs ++ ds)))
last_within xs bs cs ds = omega (arith, length-append xs (bs ++ (cs ++ ds)), length-append bs (cs ++ ds), length-append cs ds)

pub names_distinct : NamesArePlain → ProgramsAreProper → NamesAreDistinct
names_distinct plain proper ops o text a lists streams inside horizon dump is wave few =
    let main = wave.main in
    let of = main_tree ops o text a main is wave.main_is in
    let last : ℕ = length a.placed.nodes - 1 in
    let types : List Ty = table_at a.typed last in
    let words : List Bits = words_in (slice_get a.clocks.items last) in
    let outputs_are : a.outputs.items ≡ map (main_output main types words) main.results = is.outputs ∙ ap (λ m. of_one (λ (n : PlacedNode). map (main_output n types words) n.results) m) wave.main_is in
    let node_none = node_good ops of.program [] of.program of.index of.tree of.good of.found in
    let apart : AreUnlike main.results = subst (λ (n : PlacedNode). AreUnlike n.results) (sym of.is)
    (unlike (map text_of (streams_in of.tree)) [] of.tree.results (results_faultless ops of.program ([] ++ take of.index of.program) of.tree node_none)) in
    let own = proper ops o text a is last main wave.main_is in
    let count : length lists ≡ main.params = few ∙ ap params_in wave.main_is in
    let w : Assignment = main_word a.placed.nodes a.clocks.items in
    let most = wave.few in
    let behind = last_within (results a.outputs.items streams) (inputs main w 1 lists) (inner main w inside) (buffers main w 1 main.buffers) in
    let many = buffers_count main w 1 main.buffers in
    subst (λ os. AreDistinct (variables main w os lists streams inside)) (sym outputs_are)
    (variables_distinct main (plain ops o text a main is wave.main_is).places (take last a.placed.nodes) own apart types words w lists streams inside (omega arith) (omega arith))
