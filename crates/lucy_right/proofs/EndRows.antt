-- What `run` may not leave of a program and an input of two lines, and what it may: from each wrong outcome the statement gives ⊥. The rows hold for any
-- relation that gives the text this one program, whatever clocks may be chosen, and for the most instants from 4 on.
use Rattle.std.proofs.Common.{ℕ, zero, suc, ◌<◌, ◌≤◌, ◌≡◌, List, [], ◌∷◌, ◌++◌, Some, None, length, take, slice_get, refl, ap, sym, ◌∙◌, subst, inl, inr, arith}
use Rattle.std.specs.Prelude.{ℤ, pos, codes, ◌≢◌, ◌⊎◌}
use Rattle.std.specs.Fmt.{digits}
use Rattle.std.specs.Str.Lines.{lines}
use Rattle.std.specs.Str.Parse.{signed_digits_value}
use Rattle.std.proofs.lemmas.Bool.{cases_lt}
use Rattle.std.proofs.lemmas.List.{take_all}
use Rattle.std.proofs.lemmas.Option.{same_Some, none-some}
use Rattle.lucy_word.specs.Bits.{bit_at, ones_to}
use Rattle.lucy_word.proofs.BitsLaws.{ones_to-none}
use Rattle.lucy_word.proofs.IndexLaws.{ones_to-rises}
use Rattle.lucy_host.specs.declared.kind.HostKind.{HostKind}
use Rattle.lucy_host.specs.declared.data_type.DataType.TheVariants.{Int}
use Rattle.lucy_host.specs.Operators.{Operator, kinds_of}
use Rattle.lucy_stream.specs.Items.{list_at}
use Rattle.lucy_lines.specs.declared.input.InputSpec.{InputSpec}
use Rattle.lucy_lines.specs.declared.output.OutputSpec.{OutputSpec}
use Rattle.lucy_lines.specs.Fields.{line_fields}
use Rattle.lucy_lines.specs.Values.{SpellsValue}
use Rattle.lucy_lines.specs.Kinds.{stream_named}
use Rattle.lucy_lines.specs.Cuts.{ItemOf}
use Rattle.lucy_lines.specs.Feeding.{values_by_stream}
use Rattle.lucy_lines.specs.Outputs.{instant_text, output_text}
use Rattle.lucy_tree.specs.View.{ProgramTree}
use Rattle.lucy_types.proofs.ListLaws.{taken}
use Rattle.lucy_kahn.specs.Spots.{at, main_of, results_in}
use Rattle.lucy_kahn.specs.Horizons.{Suffice, IsHorizon}
use Rattle.lucy_results.specs.Streams.{param_words}
use Rattle.lucy_program.specs.Scheduled.{main_inputs, main_outputs}
use Rattle.lucy_program.specs.Report.{report}
use Rattle.lucy_right.specs.Right.{Meaning, StandsFor, LineSays, LinesSay, IsStream, IsRunOf, RunIsRight}
use Rattle.lucy_right.proofs.LaterRows.{odd, even, later, node, types, clock, meaning, counts, alone}

-- what main takes and gives
abbrev pub x_input : InputSpec
x_input = record { name = codes "x"; holds = Int }

abbrev pub y_output : OutputSpec
y_output = record { name = codes "y"; holds = Int; word = even }

-- the input, what the program's report and `run` print, and what is due
abbrev pub input : List ℕ
input = codes "x 12\nx 3\n"

abbrev leaves : (size lines : List ℕ) → List ℕ
leaves size lines = codes "node later (x) = (y)\n  x : int :: (10)\n  y : int :: (01)\n  buffer 1 : (10) <: (01) size " ++ (size ++ (codes "\nrun\n" ++ lines))

abbrev pub due : List ℕ
due = leaves (codes "1") (codes "y 12\ny 3\n")

-- the report, and the lines of these values up to an instant
abbrev printed : List ℤ → ℕ → List ℕ
printed values end = report (node ∷ []) (types ∷ []) (clock ∷ []) ++ codes "run\n" ++ output_text (y_output ∷ []) (take (ones_to even end) values ∷ []) end

pub printings : (printed [] 0 ≡ take 94 due) × (printed (pos 12 ∷ []) 2 ≡ take 99 due) × (printed (pos 12 ∷ pos 3 ∷ []) 4 ≡ due)
unfolding digits output_text instant_text ones_to bit_at
printings = (refl, refl, refl)

-- a line with two fields says its value
abbrev pub said : ℤ → ItemOf
said v = record { stream = 0; value = v }

says_one : (line spelled : List ℕ) (v : ℤ) (item : ItemOf) → line_fields line ≡ codes "x" ∷ spelled ∷ [] → signed_digits_value 10 spelled ≡ v → LineSays (x_input ∷ []) line item → item ≡ said v
says_one line spelled v item split value (name, bytes, spec, parts, named, spells) =
    let both : codes "x" ∷ spelled ∷ [] ≡ name ∷ bytes ∷ [] = sym split ∙ parts in
    let name_is : codes "x" ≡ name = cc both in
    let bytes_is : spelled ≡ bytes = cc both in
    let stream : 0 ≡ item.stream = same_Some 0 item.stream (ap (stream_named (x_input ∷ [])) name_is ∙ named.found) in
    let spec_is : x_input ≡ spec = same_Some x_input spec (ap (slice_get (x_input ∷ [])) stream ∙ named.there) in
    let spelt : SpellsValue Int bytes item.value = subst (λ (i : InputSpec). SpellsValue i.holds bytes item.value) (sym spec_is) spells in
    let value_is : item.value ≡ v = spelt.2 ∙ ap (signed_digits_value 10) (sym bytes_is) ∙ value in
    ap (λ s. let r : ItemOf = record { stream = s; value = item.value } in r) (sym stream) ∙ ap (λ v. said v) value_is

says_first : (line spelled : List ℕ) (v : ℤ) (rest : List (List ℕ)) (items : List ItemOf) → line_fields line ≡ codes "x" ∷ spelled ∷ [] → signed_digits_value 10 spelled ≡ v →
    LinesSay (x_input ∷ []) (line ∷ rest) items → (more : List ItemOf) × LinesSay (x_input ∷ []) rest more × (items ≡ said v ∷ more)
says_first line spelled v rest items split value (short, inl (blank, say)) = let bad : codes "x" ∷ spelled ∷ [] ≡ [] = sym split ∙ blank in absurd (cc bad)
says_first line spelled v rest items split value (short, inr (item, more, says, say, is)) = (more, say, is ∙ ap (λ i. i ∷ more) (says_one line spelled v item split value says))

pub splits : (line_fields (codes "x 12") ≡ codes "x" ∷ codes "12" ∷ []) × (line_fields (codes "x 3") ≡ codes "x" ∷ codes "3" ∷ [])
unfolding line_fields
splits = (refl, refl)

-- so the first lines say none, one, or both
items_of : (many : ℕ) (items : List ItemOf) → LinesSay (x_input ∷ []) (take many (lines input)) items →
    ((many ≡ 0) × (items ≡ [])) ⊎ (((many ≡ 1) × (items ≡ said (pos 12) ∷ [])) ⊎ (items ≡ said (pos 12) ∷ said (pos 3) ∷ []))
items_of zero items say = inl (refl, say)
items_of (suc zero) items say =
    let first = says_first (codes "x 12") (codes "12") (pos 12) [] items splits.0 refl say in inr (inl (refl, first.2 ∙ ap (λ more. said (pos 12) ∷ more) first.1))
items_of (suc (suc n)) items say =
    let first = says_first (codes "x 12") (codes "12") (pos 12) (codes "x 3" ∷ take n []) items splits.0 refl say in
    let second = says_first (codes "x 3") (codes "3") (pos 3) (take n []) first.0 splits.1 refl first.1 in
    let last : second.0 ≡ [] = subst (λ ls. LinesSay (x_input ∷ []) ls second.0) (take_all n [] (omega arith)) second.1 in
    inr (inr (first.2 ∙ ap (λ more. said (pos 12) ∷ more) (second.2 ∙ ap (λ more. said (pos 3) ∷ more) last)))

-- the horizon of these values, and the stream of y
pub suffices : (inputs : List (List ℤ)) (end : ℕ) → ones_to odd end ≤ length (list_at inputs 0) → Suffice (odd ∷ []) inputs end
suffices inputs end enough zero word e = subst (λ w. ones_to w end ≤ length (list_at inputs 0)) (same_Some odd word e) enough
suffices inputs end enough (suc i) word e = absurd (none-some word e)

horizon_is : (inputs : List (List ℤ)) (most horizon end : ℕ) → ones_to odd end ≤ length (list_at inputs 0) → length (list_at inputs 0) < ones_to odd (suc end) → end ≤ most →
    IsHorizon (odd ∷ []) inputs most horizon → horizon ≡ end
horizon_is inputs most horizon end enough short within is =
    let least : end ≤ horizon = is.greatest end within (suffices inputs end enough) in
    elim (cases_lt end horizon) [
      | inl far ↦ absurd (omega (arith, short, is.suffice 0 odd refl, ones_to-rises odd (suc end) horizon (omega (arith, far))))
      | inr near ↦ omega (arith, least, near)
    ]

stream_is : (kinds : List HostKind) (inputs : List (List ℤ)) (horizon : ℕ) (items : List ℤ) → IsStream kinds inputs (node ∷ []) horizon 2 even items → items ≡ take (ones_to even horizon) (list_at inputs 0)
stream_is kinds inputs horizon items (count, n, same) = sym (same (suc (suc (suc n))) (omega arith)) ∙ ap (λ k. take k (list_at inputs 0)) count

single : (lists : List (List ℤ)) → length lists ≡ 1 → lists ≡ list_at lists 0 ∷ []
single [] e = absurd (omega (arith, e))
single (list ∷ []) e = refl
single (list ∷ other ∷ lists) e = absurd (omega (arith, e))

-- what `run` prints is a front of what is due, and all of it where it is done
module _ (Chosen : Meaning → Type 0) (ops : List Operator) (most : ℕ) (far : 4 ≤ most) (whole : List ℕ) (Done Refused : Type 0) (p : ProgramTree) (same : p ≡ later ∷ []) (r : IsRunOf Chosen ops most None p input whole Done Refused) where
  meant : r.m ≡ meaning
  meant = alone ops r.m (subst (λ p. StandsFor ops p r.m) same r.stands)

  whole_is : (values : List ℤ) (end : ℕ) → values_by_stream 1 r.items ≡ values ∷ [] → ones_to odd end ≤ length values → length values < ones_to odd (suc end) → end ≤ most → whole ≡ printed values end
  whole_is values end fed enough short within =
      let inputs : r.inputs ≡ values ∷ [] = subst (λ (m : Meaning). r.inputs ≡ values_by_stream (length (main_inputs m.nodes m.types)) r.items) meant r.fed ∙ fed in
      let greatest : IsHorizon (odd ∷ []) r.inputs most r.horizon = subst (λ (m : Meaning). IsHorizon (param_words m.nodes m.clocks) r.inputs most r.horizon) meant r.greatest in
      let horizon : r.horizon ≡ end = horizon_is (values ∷ []) most r.horizon end enough short within (subst (λ i. IsHorizon (odd ∷ []) i most r.horizon) inputs greatest) in
      let kahn : IsStream (kinds_of ops) r.inputs (node ∷ []) r.horizon 2 even (list_at r.streams 0) =
      subst (λ (m : Meaning). (i place : ℕ) (o : OutputSpec) → slice_get (results_in (main_of m.nodes)) i ≡ Some place → slice_get (main_outputs m.nodes m.types m.clocks) i ≡ Some o →
      IsStream (kinds_of ops) r.inputs m.nodes r.horizon place o.word (list_at r.streams i)) meant r.kahn 0 2 y_output refl refl in
      let stream : list_at r.streams 0 ≡ take (ones_to even end) values =
      stream_is (kinds_of ops) r.inputs r.horizon (list_at r.streams 0) kahn ∙ ap (λ h. take (ones_to even h) (list_at r.inputs 0)) horizon ∙ ap (λ i. take (ones_to even end) (list_at i 0)) inputs in
      let count : length r.streams ≡ 1 = subst (λ (m : Meaning). length r.streams ≡ length (main_outputs m.nodes m.types m.clocks)) meant r.count in
      let streams : r.streams ≡ take (ones_to even end) values ∷ [] = single r.streams count ∙ ap (λ s. s ∷ []) stream in
      subst (λ (m : Meaning). whole ≡ report m.nodes m.types m.clocks ++ codes "run\n" ++ output_text (main_outputs m.nodes m.types m.clocks) r.streams r.horizon) meant r.printed
      ∙ ap (λ lists. report (node ∷ []) (types ∷ []) (clock ∷ []) ++ codes "run\n" ++ output_text (y_output ∷ []) lists r.horizon) streams
      ∙ ap (λ h. report (node ∷ []) (types ∷ []) (clock ∷ []) ++ codes "run\n" ++ output_text (y_output ∷ []) (take (ones_to even end) values ∷ []) h) horizon

  whole_front : (k : ℕ) × (whole ≡ take k due) × (r.many ≡ 2 → whole ≡ due)
  whole_front = elim (items_of r.many r.items (subst (λ (m : Meaning). LinesSay (main_inputs m.nodes m.types) (take r.many (lines input)) r.items) meant r.said)) [
    | inl none ↦
        let front = whole_is [] 0 (ap (values_by_stream 1) none.1) (omega (arith, ones_to-none odd)) (omega (arith, counts.0)) (omega arith) ∙ printings.0 in
        (94, front, λ e. absurd (omega (arith, none.0, e)))
    | inr (inl some) ↦
        let front = whole_is (pos 12 ∷ []) 2 (ap (values_by_stream 1) some.1) (omega (arith, counts.1)) (omega (arith, counts.2)) (omega (arith, far)) ∙ printings.1 in
        (99, front, λ e. absurd (omega (arith, some.0, e)))
    | inr (inr both) ↦
        let all = whole_is (pos 12 ∷ pos 3 ∷ []) 4 (ap (values_by_stream 1) both) (omega (arith, counts.3)) (omega (arith, counts.4)) far ∙ printings.2 in
        (103, all, λ e. all)
  ]

module _ (Reads : List ℕ → ProgramTree → Type 0) (Chosen : Meaning → Type 0) (ops : List Operator) (most : ℕ) (text : List ℕ) where
  -- the statement, where the text, this input and an empty output were found
  abbrev pub IsRight : (output : List ℕ) (status : ℕ) → Type 0
  IsRight output status = RunIsRight Reads Chosen ops most None (Some (Some text)) (Some input) (Some []) (Some output) status

  -- where the text is this one program, and there are instants enough
  module _ (one : (p : ProgramTree) → Reads text p → p ≡ later ∷ []) (far : 4 ≤ most) where
    -- by it each byte of the output is due, and with 0 all that is due is there
    begun : (output : List ℕ) (status : ℕ) → IsRight output status → (place byte : ℕ) → slice_get output place ≡ Some byte → slice_get due place ≡ Some byte
    begun output status is place byte at = elim (is.right text input output refl refl refl refl) [
      | inl h ↦ absurd (none-some byte (ap (λ o. slice_get o place) (sym h.0) ∙ at))
      | inr h ↦
          let front = whole_front Chosen ops most far h.2 (status ≡ 0) (status ≡ 3) h.0 (one h.0 h.3) h.4 in
          let printed_there : slice_get h.2 place ≡ Some byte = (taken h.1 h.2 place byte (ap (λ o. slice_get o place) (sym h.5) ∙ at)).1 in
          (taken front.0 due place byte (ap (λ o. slice_get o place) (sym front.1) ∙ printed_there)).1
    ]

    done : (output : List ℕ) → IsRight output 0 → output ≡ due
    done output is = elim (is.right text input output refl refl refl refl) [
      | inl h ↦ absurd (h.1 refl)
      | inr h ↦ h.6 (λ e. omega arith) (λ e. omega arith) ∙ (whole_front Chosen ops most far h.2 (0 ≡ 0) (0 ≡ 3) h.0 (one h.0 h.3) h.4).2 (h.4.all refl)
    ]

    -- so whatever the status is, an output with another byte than is due there is refused
    refused_at : (output : List ℕ) (status place byte other : ℕ) → slice_get output place ≡ Some byte → slice_get due place ≡ Some other → byte ≢ other → IsRight output status → ⊥
    refused_at output status place byte other at of apart is = apart (same_Some byte other (sym (begun output status is place byte at) ∙ of))

    half_a_line : (status : ℕ) → IsRight (leaves (codes "1") (codes "y 1\n")) status → ⊥
    half_a_line status = refused_at _ status 97 10 50 refl refl (λ e. omega arith)

    line_left_out : (status : ℕ) → IsRight (leaves (codes "1") (codes "y 3\n")) status → ⊥
    line_left_out status = refused_at _ status 96 51 49 refl refl (λ e. omega arith)

    -- a value is none of the Kahn stream, or that of another item
    other_value : (status : ℕ) → IsRight (leaves (codes "1") (codes "y 13\n")) status → ⊥
    other_value status = refused_at _ status 97 51 50 refl refl (λ e. omega arith)

    value_of_other_item : (status : ℕ) → IsRight (leaves (codes "1") (codes "y 12\ny 12\n")) status → ⊥
    value_of_other_item status = refused_at _ status 101 49 51 refl refl (λ e. omega arith)

    line_read_twice : (status : ℕ) → IsRight (leaves (codes "1") (codes "y 12\ny 12\ny 3\n")) status → ⊥
    line_read_twice status = refused_at _ status 101 49 51 refl refl (λ e. omega arith)

    line_too_many : (status : ℕ) → IsRight (due ++ codes "y 3\n") status → ⊥
    line_too_many status is = let bad : None ≡ Some 121 = begun (due ++ codes "y 3\n") status is 103 121 refl in cc bad

    -- the report tells another size, or another clock
    other_size : (status : ℕ) → IsRight (leaves (codes "2") (codes "y 12\ny 3\n")) status → ⊥
    other_size status = refused_at _ status 88 50 49 refl refl (λ e. omega arith)

    other_clock : (status : ℕ) → IsRight (codes "node later (x) = (y)\n  x : int :: (10)\n  y : int :: (10)\n") status → ⊥
    other_clock status = refused_at _ status 53 49 48 refl refl (λ e. omega arith)

    -- with 0 the second line of the input is left, or no item is there, as in an earlier iterate
    input_left : IsRight (leaves (codes "1") (codes "y 12\n")) 0 → ⊥
    input_left is = let bad : ◌≡◌ {A = ℕ} 99 103 = ap length (done (leaves (codes "1") (codes "y 12\n")) is) in omega arith

    no_items : IsRight (leaves (codes "1") []) 0 → ⊥
    no_items is = let bad : ◌≡◌ {A = ℕ} 94 103 = ap length (done (leaves (codes "1") []) is) in omega arith
