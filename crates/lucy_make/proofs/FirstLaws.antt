-- What main's first result has, from block to block.
use Rattle.std.proofs.Common.{ℕ, ◌≤◌, ◌≡◌, List, [], ◌∷◌, ◌++◌, ◌+◌, length, map, drop, get_or, pos, ap, sym, refl, ◌∙◌, arith}
use Rattle.std.specs.Prelude.{ℤ}
use Rattle.std.specs.Int.{int_wrap}
use Rattle.std.proofs.lemmas.List.{take-append-drop, length-append}
use Rattle.lucy_word.specs.Bits.{Bits, ones_to}
use Rattle.lucy_word.specs.Limits.{limit_number}
use Rattle.lucy_word.specs.declared.limit.Limit.TheVariants as limit
use Rattle.lucy_word.proofs.BitsLaws.{ones_to-le}
use Rattle.lucy_host.specs.declared.kind.HostKind.{HostKind}
use Rattle.lucy_stream.specs.Items.{list_at}
use Rattle.lucy_stream.specs.Fronts.{AreFronts}
use Rattle.lucy_lines.specs.Cuts.{ItemOf}
use Rattle.lucy_text.specs.Outside.{SeenSource}
use Rattle.lucy_place.specs.declared.placed.PlacedNode.{PlacedNode}
use Rattle.lucy_place.specs.Proper.{AreProper}
use Rattle.lucy_clock.specs.declared.node_clock.NodeClock.{NodeClock}
use Rattle.lucy_kahn.specs.Spots.{main_of, results_in}
use Rattle.lucy_kahn.specs.Horizons.{Suffice}
use Rattle.lucy_results.specs.Streams.{main_word, param_words, result_words, main_stream, main_streams, cut_to}
use Rattle.lucy_results.specs.Running.{HasSchedule}
use Rattle.lucy_run.specs.Courses.{CourseView, Program, CanBeRunInBlocks, values, IsAlong, IsNextBlock}
use Rattle.lucy_make.specs.Figures.{sum_of}
use Rattle.lucy_make.specs.Blocks.{first_to, first_after, IsTold, FirstGoesOn, FirstIsShort, FirstAgrees}

-- the laws of streams that this stands on
abbrev pub StreamsGoOn : Type 0
StreamsGoOn = (kinds : List HostKind) (inputs more : List (List ℤ)) (nodes : List PlacedNode) (clocks : List NodeClock) (s t : ℕ) → AreProper nodes → HasSchedule nodes clocks → AreFronts inputs more → s ≤ t →
    Suffice (param_words nodes clocks) inputs s → cut_to s (result_words nodes clocks) (main_streams kinds more nodes clocks t) ≡ main_streams kinds inputs nodes clocks s

abbrev pub StreamsAreWhole : Type 0
StreamsAreWhole = (kinds : List HostKind) (inputs : List (List ℤ)) (nodes : List PlacedNode) (clocks : List NodeClock) (instants : ℕ) → AreProper nodes → HasSchedule nodes clocks →
    Suffice (param_words nodes clocks) inputs instants → map length (main_streams kinds inputs nodes clocks instants) ≡ map (λ word. ones_to word instants) (result_words nodes clocks)

abbrev pub StreamsAgree : Type 0
StreamsAgree = (kinds : List HostKind) (inputs more : List (List ℤ)) (nodes : List PlacedNode) (clocks : List NodeClock) (instants : ℕ) → AreProper nodes → HasSchedule nodes clocks → AreFronts inputs more →
    Suffice (param_words nodes clocks) inputs instants → main_streams kinds more nodes clocks instants ≡ main_streams kinds inputs nodes clocks instants

-- a first list is what it has up to a cut, and then the rest
parted : (word : ℕ → Bits) (list : ℕ → List ℤ) (s : ℕ) (places : List ℕ) →
    list_at (map list places) 0 ≡ list_at (cut_to s (map word places) (map list places)) 0 ++ list_at (map (λ place. drop (ones_to (word place) s) (list place)) places) 0
parted word list s [] = refl
parted word list s (place ∷ places) = sym (take-append-drop (ones_to (word place) s) (list place))

pub goes_on : StreamsGoOn → FirstGoesOn
goes_on law p lists more s t can fronts l suffice =
    parted (main_word p.nodes p.clocks) (main_stream p.kinds more p.nodes p.clocks t) s (results_in (main_of p.nodes))
    ∙ ap (λ xs. list_at xs 0 ++ first_after p more s t) (law p.kinds lists more p.nodes p.clocks s t can.proper can.scheduled fronts l suffice)

first_short : (lists : List (List ℤ)) (words : List Bits) (t : ℕ) → map length lists ≡ map (λ word. ones_to word t) words → length (list_at lists 0) ≤ t
first_short [] words t e = let none : length (list_at [] 0) ≡ 0 = refl in omega (arith, none)
first_short (xs ∷ lists) [] t e = let none = ap length e in absurd (omega (arith, none))
first_short (xs ∷ lists) (word ∷ words) t e = let head : length (list_at (xs ∷ lists) 0) ≡ ones_to word t = ap (λ ns. get_or ns 0 0) e in omega (arith, head, ones_to-le word t)

pub short : StreamsAreWhole → FirstIsShort
short law p lists t can suffice =
    first_short (main_streams p.kinds lists p.nodes p.clocks t) (result_words p.nodes p.clocks) t (law p.kinds lists p.nodes p.clocks t can.proper can.scheduled suffice)

pub agrees : StreamsAgree → FirstAgrees
agrees law p lists more t can fronts suffice = ap (λ xs. list_at xs 0) (law p.kinds lists more p.nodes p.clocks t can.proper can.scheduled fronts suffice)

-- nothing was told yet
no_sum : pos 0 ≡ sum_of []
unfolding int_wrap
no_sum = refl

none_short : (values : List ℤ) → length values ≤ 0 → values ≡ []
none_short [] few = refl
none_short (x ∷ values) few = absurd (omega (arith, few))

pub begin : FirstIsShort → (p : Program) (first now : SeenSource) (c : CourseView) → CanBeRunInBlocks p → IsAlong p first [] now c → c.horizon ≡ 0 → IsTold p [] c.horizon 0 (pos 0)
begin short p first now c can along at =
    let few = short p (values p []) c.horizon can along.suffice in
    let nothing : first_to p (values p []) c.horizon ≡ [] = none_short (first_to p (values p []) c.horizon) (omega (arith, few, at)) in
    record { counted = sym (ap length nothing); summed = no_sum ∙ ap sum_of (sym nothing) }

module _ (goes : FirstGoesOn) (short : FirstIsShort) (p : Program) (can : CanBeRunInBlocks p) (first : SeenSource) (items : List ItemOf) (before now : SeenSource) (old new : CourseView)
    (along : IsAlong p first items before old) (streams : List (List ℤ)) (next : IsNextBlock p first items now old new streams) where
  module _ (more : List ℤ) (more_are : more ≡ list_at streams 0) where
    all : first_to p (values p items) old.horizon ++ more ≡ first_to p (values p (items ++ next.more)) new.horizon
    all =
        ap (λ xs. first_to p (values p items) old.horizon ++ xs) (more_are ∙ ap (λ xs. list_at xs 0) next.streams_are)
        ∙ sym (goes p (values p items) (values p (items ++ next.more)) old.horizon new.horizon can next.fronts next.later along.suffice)

    pub within : (count : ℕ) → count ≡ length (first_to p (values p items) old.horizon) → count + length more ≤ limit_number limit.Instants
    within count e =
        let whole = ap length all in
        let few = short p (values p (items ++ next.more)) new.horizon can next.along.suffice in
        omega (arith, whole, few, e, length-append (first_to p (values p items) old.horizon) more, next.along.last.within, next.along.early, next.along.few)

    pub told_on : (was count : ℕ) (prior sum : ℤ) → IsTold p items old.horizon was prior → count ≡ was + length more → ((xs : List ℤ) → prior ≡ sum_of xs → sum ≡ sum_of (xs ++ more)) →
        IsTold p (items ++ next.more) new.horizon count sum
    told_on was count prior sum told counts sums = record {
      counted = counts ∙ ap (λ n. n + length more) told.counted ∙ sym (length-append (first_to p (values p items) old.horizon) more) ∙ ap length all;
      summed = sums (first_to p (values p items) old.horizon) told.summed ∙ ap sum_of all;
    }
