-- What the dump of a run says, read back.
use Rattle.std.proofs.Common.{ℕ, suc, zero, ◌+◌, ◌-◌, ◌<◌, ◌≤◌, ◌^◌, ◌≡◌, ◌≢◌, Bool, true, false, List, [], ◌∷◌, ◌++◌, length, map, get_or, Option, Some, None, refl, ap, ap₂, sym, ◌∙◌, subst, arith}
use Rattle.std.specs.Prelude.{ℤ, pos, negsuc, nat_eq, not, ◌&&◌, slice_get, codes, if◌then◌else◌}
use Rattle.std.specs.List.{AllByRecursion}
use Rattle.std.specs.Int.{w64, cast_unsigned}
use Rattle.std.specs.Int.RustNames.{FitsSigned}
use Rattle.std.specs.Fmt.{decimal, digits}
use Rattle.std.proofs.lemmas.Int.{to_z-of_z}
use Rattle.std.proofs.lemmas.Option.{slice_get-get_or, same_Some}
use Rattle.std.proofs.lemmas.Bool.{eqb-false}
use Rattle.std.proofs.lemmas.Simd.{map-map}
use Rattle.lucy_word.specs.Bits.{Bits, bit_at, ones_to, one_if}
use Rattle.lucy_word.proofs.IndexLaws.{ones_to-rises, ones_to-one}
use Rattle.lucy_lines.specs.declared.output.OutputSpec.{OutputSpec}
use Rattle.lucy_lines.specs.Outputs.{value_at, instant_text, output_text}
use Rattle.lucy_host.specs.declared.kind.HostKind.{HostKind}
use Rattle.lucy_place.specs.declared.placed.PlacedNode.{PlacedNode}
use Rattle.lucy_place.specs.Proper.{AreProper}
use Rattle.lucy_need.specs.Meeting.{Assignment}
use Rattle.lucy_clock.specs.declared.node_clock.NodeClock.{NodeClock}
use Rattle.lucy_token.specs.Fronts.{is_name_byte}
use Rattle.lucy_net.specs.declared.net.Net.{Net}
use Rattle.lucy_kahn.specs.Spots.{main_of}
use Rattle.lucy_kahn.specs.Horizons.{Suffice}
use Rattle.lucy_results.specs.Streams.{main_word, param_words, result_words, main_streams}
use Rattle.lucy_results.specs.Running.{HasSchedule}
use Rattle.lucy_run.specs.Courses.{CanBeRunInBlocks}
use Rattle.lucy_run.proofs.AcceptedLaws.{can_run}
use Rattle.lucy_run.proofs.HorizonLaws.{few_most}
use Rattle.lucy_run.proofs.OwesLaws.{OneHorizon, fed_once, ends_once, carried}
use Rattle.lucy_run.specs.Owes.{input_words, heading, lines_to, EndsFor}
use Rattle.lucy_lines.specs.Feeding.{OneFeed}
use Rattle.lucy_word.specs.Limits.{limit_number}
use Rattle.lucy_word.specs.declared.limit.Limit.TheVariants as limit
use Rattle.lucy_word.proofs.Lists.{all_join, still_there}
use Rattle.lucy_word.proofs.BitsLaws.{one_most}
use Rattle.lucy_host.specs.Operators.{Operator}
use Rattle.lucy_program.specs.declared.accepted.Accepted.{Accepted}
use Rattle.lucy_program.specs.declared.options.Options.{Options}
use Rattle.lucy_program.specs.Accepting.{IsAccepted}
use Rattle.lucy_wave.specs.Laws.{WavesAreReadBack, OneWave}
use Rattle.lucy_wave.specs.Names.{there_name}
use Rattle.lucy_wave.specs.Dumps.{Variable, code_of, kind_of, declaration, declarations, time_line, change_line, is_changed, change, changes, steps, header, dump, text_of}
use Rattle.lucy_wave.specs.Reading.{ReadsFrom, Says, SaysInstant, SaysTo, HasSteps, SaysOutput}
use Rattle.lucy_wave.specs.Waves.{Fit, there, last, last_item, stream, results, is_among, input, inputs, written_name, inner_of, there_bits, with_items, inner, buffers, variables, notes, wave_lines, IsWave, AreInside, Waves}
use Rattle.lucy_wave.proofs.StepLaws.{dump_steps}
use Rattle.lucy_wave.proofs.ReadLaws.{Free, IsShown, shown_at, either, digits_free, skip_dollar}

-- each output has the items of so many instants
abbrev pub AreWhole : (instants : ℕ) → List OutputSpec → List (List ℤ) → Type 0
AreWhole H [] lists = Unit {0}
AreWhole H (o ∷ outputs) [] = ⊥
AreWhole H (o ∷ outputs) (items ∷ lists) = (ones_to o.word H ≤ length items) × AreWhole H outputs lists

heads_are : (x y : ℕ) (xs ys : List ℕ) → x ∷ xs ≡ y ∷ ys → (x ≡ y) × (xs ≡ ys)
heads_are x y xs ys e = (cc, cc)

pub whole_of : (H : ℕ) (outputs : List OutputSpec) (lists : List (List ℤ)) → map length lists ≡ map (λ (o : OutputSpec). ones_to o.word H) outputs → AreWhole H outputs lists
whole_of H [] lists e = tt
whole_of H (o ∷ outputs) [] e = absurd (cc)
whole_of H (o ∷ outputs) (items ∷ lists) e =
    let parts = heads_are (length items) (ones_to o.word H) (map length lists) (map (λ (x : OutputSpec). ones_to x.word H) outputs) e in
    let same = parts.0 in
    (omega arith, whole_of H outputs lists parts.1)

module _ (lines : List (List ℕ)) (H t : ℕ) (some : 1 ≤ t) (within : t ≤ H) where
  -- what is said of one output
  says_one : (o : OutputSpec) (items : List ℤ) → IsShown lines H (there o.name o.word) → IsShown lines H (last o.name o.word items) → ones_to o.word H ≤ length items → Fit items → Says lines o.name t (value_at o items t)
  says_one o items here came whole fit = by_bit (bit_at o.word t) refl
    where
      said : (b : Bool) → bit_at o.word t ≡ b → ReadsFrom here.code t None lines (Some (one_if b))
      said b e = subst (λ x. ReadsFrom here.code t None lines (Some (one_if x))) e (here.reads t some within)

      by_bit : (b : Bool) → bit_at o.word t ≡ b → Says lines o.name t (if b then slice_get items (ones_to o.word t - 1) else None)
      by_bit false e = (here.code, here.declared, said false e)
      by_bit true e =
          let k : ℕ = ones_to o.word t - 1 in
          let one : ones_to o.word t ≡ ones_to o.word (t - 1) + 1 = ones_to-one o.word t (omega arith) e in
          let next : ones_to o.word t ≡ suc k = omega arith in
          let early = ones_to-rises o.word t H within in
          let low : k < length items = omega arith in
          let item : ℤ = get_or items k (pos 0) in
          let at : slice_get items k ≡ Some item = slice_get-get_or items k (pos 0) low in
          let value : ℕ = cast_unsigned w64 item in
          let is : cast_unsigned w64 (last_item items (ones_to o.word t)) ≡ value = ap (λ n. cast_unsigned w64 (last_item items n)) next in
          let read : ReadsFrom came.code t None lines (Some value) = subst (λ n. ReadsFrom came.code t None lines (Some n)) is (came.reads t some within) in
          subst (Says lines o.name t) (sym at)
          ((here.code, here.declared, said true e), value, (came.code, came.declared, read), sym (to_z-of_z w64 item (fit k)))

  -- of all
  instant_said : (outputs : List OutputSpec) (lists : List (List ℤ)) → AllByRecursion (IsShown lines H) (results outputs lists) → AreWhole H outputs lists → AllByRecursion Fit lists →
      SaysInstant lines outputs t (instant_text outputs lists t)
  unfolding instant_text
  instant_said [] lists shown whole fit = refl
  instant_said (o ∷ outputs) [] shown whole fit = absurd whole
  instant_said (o ∷ outputs) (items ∷ lists) shown whole fit = (
    value_at o items t,
    instant_text outputs lists t,
    says_one o items shown.0 shown.1.0 whole.0 fit.0,
    instant_said outputs lists shown.1.1 whole.1 fit.1,
    refl,
  )

-- up to an instant
pub to_said : (lines : List (List ℕ)) (H t : ℕ) → t ≤ H → (outputs : List OutputSpec) (lists : List (List ℤ)) → AllByRecursion (IsShown lines H) (results outputs lists) → AreWhole H outputs lists → AllByRecursion Fit lists →
    SaysTo lines outputs t (output_text outputs lists t)
unfolding output_text
to_said lines H zero within outputs lists shown whole fit = refl
to_said lines H (suc t) within outputs lists shown whole fit = (
  output_text outputs lists t,
  instant_text outputs lists (t + 1),
  to_said lines H t (omega arith) outputs lists shown whole fit,
  instant_said lines H (t + 1) (omega arith) (omega arith) outputs lists shown whole fit,
  refl,
)

-- a number that fits has 64 bits
unsigned_low : (z : ℤ) → FitsSigned w64 z → cast_unsigned w64 z < 2 ^ 64
unsigned_low (pos n) fits = let low = fits.sfits in omega arith
unsigned_low (negsuc n) fits = omega arith

last_low : (items : List ℤ) → Fit items → (n : ℕ) → cast_unsigned w64 (last_item items n) < 2 ^ 64
last_low items fit zero = omega arith
last_low items fit (suc n) = unsigned_low (get_or items n (pos 0)) (fit n)

-- the variables of results are shown, wherever they stand
module _ (scope : List ℕ) (vs : List Variable) (H : ℕ) (few : length vs < 2 ^ 64) (early : suc H < 2 ^ 64) where
  pub results_shown : (outputs : List OutputSpec) (lists : List (List ℤ)) (j : ℕ) → AllByRecursion Fit lists → ((i : ℕ) (v : Variable) → slice_get (results outputs lists) i ≡ Some v → slice_get vs (j + i) ≡ Some v) →
      AllByRecursion (IsShown (dump scope vs H) H) (results outputs lists)
  results_shown [] lists j fit at = tt
  results_shown (o ∷ outputs) [] j fit at = tt
  results_shown (o ∷ outputs) (items ∷ lists) j fit at = (
    shown_at scope vs H few early (j + 0) (there o.name o.word) (at 0 (there o.name o.word) refl) (λ s. one_most (bit_at o.word s)),
    (
      shown_at scope vs H few early (j + 1) (last o.name o.word items) (at 1 (last o.name o.word items) refl) (λ s. last_low items fit.0 (ones_to o.word s)),
      results_shown outputs lists (j + 2) fit.1 (λ i v e. let next : j + suc (suc i) ≡ j + 2 + i = omega arith in subst (λ k. slice_get vs k ≡ Some v) next (at (suc (suc i)) v e)),
    ),
  )

pub first_results : (outputs : List OutputSpec) (lists : List (List ℤ)) (others : List Variable) (i : ℕ) (v : Variable) → slice_get (results outputs lists) i ≡ Some v → slice_get (results outputs lists ++ others) (0 + i) ≡ Some v
first_results outputs lists others i v e =
    let same : i ≡ 0 + i = omega arith in subst (λ k. slice_get (results outputs lists ++ others) k ≡ Some v) same (still_there (results outputs lists) others i v e)

-- no line of a dump has a line feed
free_append : (x : ℕ) (xs ys : List ℕ) → Free x xs → Free x ys → Free x (xs ++ ys)
free_append x [] ys f g = g
free_append x (y ∷ xs) ys f g = (f.0, free_append x xs ys f.1 g)

abbrev pub is_free : ℕ → List ℕ → Bool
is_free x [] = true
is_free x (y ∷ xs) = not (nat_eq y x) && is_free x xs

free_by : (x y : ℕ) (xs : List ℕ) (b : Bool) → nat_eq y x ≡ b → (not b && is_free x xs) ≡ true → (is_free x xs ≡ true → Free x xs) → Free x (y ∷ xs)
free_by x y xs true t h rest = absurd (cc)
free_by x y xs false t h rest = (eqb-false y x t, rest h)

pub lit_free : (x : ℕ) (xs : List ℕ) → is_free x xs ≡ true → Free x xs
lit_free x [] e = tt
lit_free x (y ∷ xs) e = free_by x y xs (nat_eq y x) refl e (lit_free x xs)

-- a name of a program has name bytes alone
abbrev pub IsPlain : List ℕ → Type 0
IsPlain name = AllByRecursion (λ byte. is_name_byte byte ≡ true) name

pub plain_free : (x : ℕ) (name : List ℕ) → is_name_byte x ≡ false → IsPlain name → Free x name
plain_free x [] other plain = tt
plain_free x (byte ∷ name) other plain = ((λ e. (let never : true ≡ false = sym plain.0 ∙ ap is_name_byte e ∙ other in cc never)), plain_free x name other plain.1)

name_free : (name : List ℕ) → IsPlain name → Free 10 name
name_free name plain = plain_free 10 name refl plain

there_free : (name : List ℕ) → IsPlain name → Free 10 (there_name name)
there_free name plain = free_append 10 name (codes "$there") (name_free name plain) (lit_free 10 (codes "$there") refl)

decimal_free : (k : ℕ) → Free 10 (decimal k)
decimal_free k = digits_free 10 10 k (omega arith)

code_free : (k : ℕ) → Free 10 (code_of k)
code_free k = ((λ e. omega arith), decimal_free k)

-- the names of variables have none
abbrev pub AreNamed : List Variable → Type 0
AreNamed vs = AllByRecursion (λ (v : Variable). Free 10 v.name) vs

stream_named : (name : List ℕ) (word : Bits) (items : List ℤ) (others : List Variable) → IsPlain name → AreNamed others → AreNamed (stream name word items ++ others)
stream_named name word items others plain named = (there_free name plain, (name_free name plain, named))

results_named : (outputs : List OutputSpec) (lists : List (List ℤ)) → AllByRecursion (λ (o : OutputSpec). IsPlain o.name) outputs → AreNamed (results outputs lists)
results_named [] lists plain = tt
results_named (o ∷ outputs) [] plain = tt
results_named (o ∷ outputs) (items ∷ lists) plain = stream_named o.name o.word items (results outputs lists) plain.0 (results_named outputs lists plain.1)

-- the names of a node have name bytes alone
pub record ArePlain (n : PlacedNode) (outputs : List OutputSpec) : Type 0 where
  pub own : IsPlain n.name.text
  pub places : (place : ℕ) → IsPlain (written_name n place)
  pub outer : AllByRecursion (λ (o : OutputSpec). IsPlain o.name) outputs

module _ (n : PlacedNode) (w : Assignment) (plain : (place : ℕ) → IsPlain (written_name n place)) where
  input_named : (word : Bits) (place : ℕ) (items : List ℤ) → AreNamed (input n word place items)
  input_named word place items = either AreNamed (is_among place n.results) [] (stream (written_name n place) word items) tt (stream_named (written_name n place) word items [] (plain place) tt)

  inputs_named : (place : ℕ) (lists : List (List ℤ)) → AreNamed (inputs n w place lists)
  inputs_named place [] = tt
  inputs_named place (items ∷ lists) = all_join (λ (v : Variable). Free 10 v.name) (input n (w place) place items) (inputs n w (place + 1) lists)
      (input_named (w place) place items) (inputs_named (place + 1) lists)

  bits_named : (places : List ℕ) → AreNamed (there_bits n w places)
  bits_named [] = tt
  bits_named (p ∷ places) = (there_free (written_name n p) (plain p), bits_named places)

  items_named : (places : List ℕ) (streams : List (List ℤ)) → AreNamed (with_items n w places streams)
  items_named [] streams = tt
  items_named (p ∷ places) [] = tt
  items_named (p ∷ places) (items ∷ streams) = stream_named (written_name n p) (w p) items (with_items n w places streams) (plain p) (items_named places streams)

  inner_named : (inside : Option (List (List ℤ))) → AreNamed (inner n w inside)
  inner_named None = bits_named (inner_of n)
  inner_named (Some streams) = items_named (inner_of n) streams

buffers_named : (n : PlacedNode) (w : Assignment) (number : ℕ) (places : List ℕ) → AreNamed (buffers n w number places)
buffers_named n w number [] = tt
buffers_named n w number (p ∷ places) = (free_append 10 (codes "buffer$") (decimal number) (lit_free 10 (codes "buffer$") refl) (decimal_free number), buffers_named n w (number + 1) places)

pub variables_named : (n : PlacedNode) (w : Assignment) (outputs : List OutputSpec) (lists streams : List (List ℤ)) (inside : Option (List (List ℤ))) → ArePlain n outputs → AreNamed (variables n w outputs lists streams inside)
variables_named n w outputs lists streams inside plain =
    let P : Variable → Type 0 = λ (v : Variable). Free 10 v.name in
    all_join P (results outputs streams) _ (results_named outputs streams plain.outer)
    (all_join P (inputs n w 1 lists) _ (inputs_named n w plain.places 1 lists) (all_join P (inner n w inside) _ (inner_named n w plain.places inside) (buffers_named n w 1 n.buffers)))

kind_free : (wide : Bool) → Free 10 (kind_of wide)
kind_free true = lit_free 10 (codes "integer 64 ") refl
kind_free false = lit_free 10 (codes "wire 1 ") refl

declaration_free : (wide : Bool) (k : ℕ) (name : List ℕ) → Free 10 name → Free 10 (declaration wide (code_of k) name)
declaration_free wide k name free =
    free_append 10 (codes "$var ") _ (lit_free 10 (codes "$var ") refl) (free_append 10 (kind_of wide) _ (kind_free wide) (free_append 10 (code_of k) _ (code_free k)
    (free_append 10 (codes " ") _ (lit_free 10 (codes " ") refl) (free_append 10 name (codes " $end") free (lit_free 10 (codes " $end") refl)))))

abbrev pub AllFree : List (List ℕ) → Type 0
AllFree lines = AllByRecursion (Free 10) lines

declarations_free : (vs : List Variable) (k : ℕ) → AreNamed vs → AllFree (declarations k vs)
declarations_free [] k named = tt
declarations_free (v ∷ vs) k named = (declaration_free v.is_wide k v.name named.0, declarations_free vs (k + 1) named.1)

change_free : (wide : Bool) (k value : ℕ) → Free 10 (change_line wide (code_of k) value)
change_free true k value = ((λ e. omega arith), free_append 10 (digits 2 false value) (32 ∷ code_of k) (digits_free 10 2 value (omega arith)) ((λ e. omega arith), code_free k))
change_free false k value = (either (λ x. x ≢ 10) (nat_eq value 0) 48 49 (λ e. omega arith) (λ e. omega arith), code_free k)

time_free : (t : ℕ) → Free 10 (time_line t)
time_free t = ((λ e. omega arith), decimal_free t)

changes_free : (vs : List Variable) (k t : ℕ) → AllFree (changes k vs t)
changes_free [] k t = tt
changes_free (v ∷ vs) k t = all_join (Free 10) (change k v t) (changes (k + 1) vs t)
    (either AllFree (is_changed v.value t) (change_line v.is_wide (code_of k) (v.value t) ∷ []) [] (change_free v.is_wide k (v.value t), tt) tt) (changes_free vs (k + 1) t)

steps_free : (vs : List Variable) (t : ℕ) → AllFree (steps vs t)
unfolding steps
steps_free vs zero = tt
steps_free vs (suc t) = all_join (Free 10) (steps vs t) _ (steps_free vs t) (time_free (suc t), changes_free vs 0 (suc t))

dump_free : (name : List ℕ) (vs : List Variable) (t : ℕ) → IsPlain name → AreNamed vs → AllFree (dump name vs t)
dump_free name vs t plain named =
    all_join (Free 10) (header name vs) _ (
      lit_free 10 (codes "$timescale 1 ns $end") refl,
      (
        free_append 10 (codes "$scope module ") _ (lit_free 10 (codes "$scope module ") refl) (free_append 10 name (codes " $end") (name_free name plain) (lit_free 10 (codes " $end") refl)),
        all_join (Free 10) (declarations 0 vs) _ (declarations_free vs 0 named) (lit_free 10 (codes "$upscope $end") refl, (lit_free 10 (codes "$enddefinitions $end") refl, tt)),
      ),
    )
    (all_join (Free 10) (steps vs t) _ (steps_free vs t) (time_free (suc t), tt))

notes_free : (inside : Option (List (List ℤ))) → AllFree (notes inside)
notes_free None = (lit_free 10 (codes "$comment A limit keeps the items of the inner streams out. $end") refl, tt)
notes_free (Some streams) = tt

-- nor has one of a wave
pub wave_free : (n : PlacedNode) (w : Assignment) (outputs : List OutputSpec) (lists streams : List (List ℤ)) (inside : Option (List (List ℤ))) (t : ℕ) → ArePlain n outputs → AllFree (wave_lines n w outputs lists streams inside t)
wave_free n w outputs lists streams inside t plain =
    all_join (Free 10) (notes inside) _ (notes_free inside) (dump_free n.name.text (variables n w outputs lists streams inside) t plain.own (variables_named n w outputs lists streams inside plain))

-- notes say nothing of values and times
noted : (inside : Option (List (List ℤ))) (lines : List (List ℕ)) (H : ℕ) (v : Variable) → IsShown lines H v → IsShown (notes inside ++ lines) H v
noted None lines H v shown = record {
  code = shown.code;
  declared = (suc shown.declared.0, shown.declared.1);
  reads = λ t some within. skip_dollar shown.code t (Some (v.value t)) None _ lines (shown.reads t some within);
}
noted (Some streams) lines H v shown = shown

all_noted : (inside : Option (List (List ℤ))) (lines : List (List ℕ)) (H : ℕ) (vs : List Variable) → AllByRecursion (IsShown lines H) vs → AllByRecursion (IsShown (notes inside ++ lines) H) vs
all_noted inside lines H [] all = tt
all_noted inside lines H (v ∷ vs) all = (noted inside lines H v all.0, all_noted inside lines H vs all.1)

noted_steps : (inside : Option (List (List ℤ))) (lines : List (List ℕ)) (count : ℕ) → HasSteps lines count → HasSteps (notes inside ++ lines) count
noted_steps None lines count has = has
noted_steps (Some streams) lines count has = has

-- each stream of a result has as many items as its word has ones
abbrev pub StreamsAreWhole : Type 0
StreamsAreWhole = (kinds : List HostKind) (inputs : List (List ℤ)) (nodes : List PlacedNode) (clocks : List NodeClock) (instants : ℕ) →
    AreProper nodes → HasSchedule nodes clocks → Suffice (param_words nodes clocks) inputs instants →
    map length (main_streams kinds inputs nodes clocks instants) ≡ map (λ word. ones_to word instants) (result_words nodes clocks)

-- a dump, read back
module _ (all : StreamsAreWhole) (ops : List Operator) (o : Options) (text : List ℕ) (kinds : List HostKind) (a : Accepted) (is : IsAccepted ops o text a) (lists : List (List ℤ)) (horizon : ℕ)
    (within : horizon ≤ limit_number limit.Instants) (suffice : Suffice (input_words a) lists horizon) (inside : Option (List (List ℤ))) (dump_text : List ℕ)
    (wave : IsWave a.placed.nodes a.clocks.items a.outputs.items lists (main_streams kinds lists a.placed.nodes a.clocks.items horizon) inside horizon dump_text)
    (plain : ArePlain wave.main a.outputs.items) where
  abbrev streams : List (List ℤ)
  streams = main_streams kinds lists a.placed.nodes a.clocks.items horizon

  abbrev w : Assignment
  w = main_word a.placed.nodes a.clocks.items

  abbrev vs : List Variable
  vs = variables wave.main w a.outputs.items lists streams inside

  abbrev lines : List (List ℕ)
  lines = wave_lines wave.main w a.outputs.items lists streams inside horizon

  early : suc horizon < 2 ^ 64
  early = omega (arith, within)

  can : CanBeRunInBlocks (record { kinds = kinds; nodes = a.placed.nodes; clocks = a.clocks.items; inputs = a.inputs.items; outputs = a.outputs.items })
  can = can_run ops text o a is kinds

  lengths : map length streams ≡ map (λ (x : OutputSpec). ones_to x.word horizon) a.outputs.items
  lengths =
      all kinds lists a.placed.nodes a.clocks.items horizon can.proper can.scheduled suffice
      ∙ ap (map (λ word. ones_to word horizon)) (sym can.words) ∙ map-map (λ word. ones_to word horizon) (λ (x : OutputSpec). x.word) a.outputs.items

  pub said_back : SaysOutput dump_text a.outputs.items horizon (lines_to kinds a lists horizon)
  said_back = (
    lines,
    (wave.text_is, wave_free wave.main w a.outputs.items lists streams inside horizon plain),
    noted_steps inside (dump wave.main.name.text vs horizon) horizon (dump_steps wave.main.name.text vs horizon),
    to_said lines horizon horizon (omega arith) a.outputs.items streams
        (all_noted inside (dump wave.main.name.text vs horizon) horizon (results a.outputs.items streams)
        (results_shown wave.main.name.text vs horizon wave.few early a.outputs.items streams 0 wave.fit (first_results a.outputs.items streams _)))
        (whole_of horizon a.outputs.items streams lengths) wave.fit,
  )

-- the names of accepted programs have name bytes alone
abbrev pub NamesArePlain : Type 0
NamesArePlain = (ops : List Operator) (o : Options) (text : List ℕ) (a : Accepted) (main : PlacedNode) → IsAccepted ops o text a → main_of a.placed.nodes ≡ Some main → ArePlain main a.outputs.items

-- it says the lines of the run
pub waves_back : StreamsAreWhole → OneFeed → OneHorizon → NamesArePlain → WavesAreReadBack
waves_back all one horizons names ops o text kinds a given taken stop dumped printed end other is few (lists, fault, horizon, fed, (inside, within_is, wave, ends)) (others, stops, last, so, prints, past) =
    let most = few_most given few in
    let bound = fed.horizon_is.within in
    let within : horizon ≤ limit_number limit.Instants = omega arith in
    let same = fed_once one horizons a given taken stop lists others fault stops horizon last fed so in
    let alike : lines_to kinds a others last ≡ lines_to kinds a lists horizon = ap₂ (λ u t. lines_to kinds a u t) (sym same.0) (sym same.2) in
    let ending : EndsFor (input_words a) given others stops end = carried (λ u f t. EndsFor (input_words a) given u f end) lists others fault stops horizon last same.0 same.1 same.2 ends in (
      horizon,
      lines_to kinds a lists horizon,
      said_back all ops o text kinds a is lists horizon within fed.horizon_is.suffice inside dumped wave (names ops o text a wave.main is wave.main_is),
      prints ∙ ap (λ ls. heading a ++ ls) alike,
      ends_once (input_words a) given others stops end other ending past,
    )

-- one dump is owed
inside_once : (kinds : List HostKind) (lists : List (List ℤ)) (nodes : List PlacedNode) (clocks : List NodeClock) (net : Net) (horizon : ℕ) (inside other : Option (List (List ℤ))) →
    AreInside kinds lists nodes clocks net horizon inside → AreInside kinds lists nodes clocks net horizon other → inside ≡ other
inside_once kinds lists nodes clocks net horizon None None is also = refl
inside_once kinds lists nodes clocks net horizon None (Some streams) is also = absurd (is also.0)
inside_once kinds lists nodes clocks net horizon (Some streams) None is also = absurd (also is.0)
inside_once kinds lists nodes clocks net horizon (Some streams) (Some others) is also = ap (λ xs. Some xs) (is.1 ∙ sym also.1)

text_once : (nodes : List PlacedNode) (clocks : List NodeClock) (outputs : List OutputSpec) (lists streams : List (List ℤ)) (inside : Option (List (List ℤ))) (horizon : ℕ) (output out : List ℕ) →
    IsWave nodes clocks outputs lists streams inside horizon output → IsWave nodes clocks outputs lists streams inside horizon out → output ≡ out
text_once nodes clocks outputs lists streams inside horizon output out wave other =
    let same : wave.main ≡ other.main = same_Some wave.main other.main (sym wave.main_is ∙ other.main_is) in
    wave.text_is ∙ ap (λ (n : PlacedNode). text_of (wave_lines n (main_word nodes clocks) outputs lists streams inside horizon)) same ∙ sym other.text_is

pub wave_once : OneFeed → OneHorizon → OneWave
wave_once one horizons kinds a given taken stop output out end other (lists, fault, horizon, fed, both) (others, stops, last, so, (inside, within, wave, past)) =
    let same = fed_once one horizons a given taken stop lists others fault stops horizon last fed so in
    let moved = carried (λ u f t. Waves kinds a.placed.nodes a.clocks.items a.net a.outputs.items given u f t output end) lists others fault stops horizon last same.0 same.1 same.2 both in
    let alike : moved.0 ≡ inside = inside_once kinds others a.placed.nodes a.clocks.items a.net last moved.0 inside moved.1 within in
    let streams : List (List ℤ) = main_streams kinds others a.placed.nodes a.clocks.items last in
    let first = subst (λ x. IsWave a.placed.nodes a.clocks.items a.outputs.items others streams x last output) alike moved.2 in (
      text_once a.placed.nodes a.clocks.items a.outputs.items others streams inside last output out first wave,
      ends_once (input_words a) given others stops end other moved.3 past,
    )
