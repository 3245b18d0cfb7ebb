-- What main is fed by the bytes that were taken from a source.
use Rattle.std.specs.Prelude.{ℕ, ℤ, ◌≡◌, List, [], ◌∷◌, length, Option, Some, None, Result, Ok, Err, IsSomeAnd}
use Rattle.lucy_word.specs.Bits.{Bits}
use Rattle.std.specs.declared.alloc.AllocError.{AllocError}
use Rattle.lucy_lines.specs.Cuts.{ItemOf, Stop as Halt, Cut, whole_input}
use Rattle.lucy_lines.specs.declared.input.InputSpec.{InputSpec}
use Rattle.lucy_lines.specs.declared.reader.TextFault.{TextFault}
use Rattle.lucy_lines.specs.declared.reader.TextFault.TheVariants.{ReadFault}
use Rattle.lucy_lines.specs.declared.feeds.Feed.{Feed}
use Rattle.lucy_text.specs.Sources.{ReadStop, Unread, Ended, Failed, Open}
use Rattle.lucy_lines.specs.Feeding.{is_closed, fault_of, values_by_stream, IsAskedWhile, IsFeedOf}
use Rattle.lucy_kahn.specs.Horizons.{Suffice}

-- the items of each input, and why they stop before the end of what was to be read; where main has no inputs nothing is read
abbrev pub Feeds : List InputSpec → (taken : List ℕ) → ReadStop → (lists : List (List ℤ)) → Option TextFault → Type 0
Feeds [] taken stop lists fault = (taken ≡ []) × (stop ≡ Unread) × (lists ≡ []) × (fault ≡ None)
Feeds (input ∷ inputs) taken stop lists fault =
    (items : List ItemOf) × (halt : Halt) × IsFeedOf (input ∷ inputs) taken stop items halt (record { items = lists; stop = fault })

-- the values of items don't suffice for so many instants
abbrev pub IsShortOf : (words : List Bits) (instants : ℕ) → List InputSpec → List ItemOf → Type 0
IsShortOf words instants inputs items = Suffice words (values_by_stream (length inputs) items) instants → ⊥

-- Bytes were asked for only as long as those taken before the last read refused no line, and had too few items for so many instants.
abbrev pub IsNeededFor : (words : List Bits) (instants : ℕ) → List InputSpec → (taken : List ℕ) → Type 0
IsNeededFor words instants inputs taken = IsAskedWhile (IsShortOf words instants inputs) inputs taken

-- all bytes of an input are told, and have these items and no fault; where main has no inputs none is asked for
abbrev pub IsMainInput : List InputSpec → (left : Option (List ℕ)) → (lists : List (List ℤ)) → Type 0
IsMainInput [] left lists = lists ≡ []
IsMainInput (input ∷ inputs) left lists = IsSomeAnd left (λ bytes. Feeds (input ∷ inputs) bytes Ended lists None)

-- What the whole lines among the bytes taken feed main: the values of their items, up to a line that is refused. A last line without its
-- line feed is whole where the end was met, and not where reading was given up before that. Before a read that failed no line is refused.
abbrev pub LinesFeed : List InputSpec → (taken : List ℕ) → ReadStop → (lists : List (List ℤ)) → Type 0
LinesFeed inputs taken stop lists =
    (items : List ItemOf) × (halt : Halt) × Cut inputs (is_closed stop) (whole_input taken) items halt
    × (stop ≡ Failed → fault_of stop halt ≡ Some ReadFault) × (lists ≡ values_by_stream (length inputs) items)

-- main was fed so; or memory ran out, and reading was given up
abbrev pub IsMainFeed : List InputSpec → (taken : List ℕ) → ReadStop → Result Feed AllocError → Type 0
IsMainFeed inputs taken stop (Ok feed) = Feeds inputs taken stop feed.items feed.stop
IsMainFeed inputs taken stop (Err e) = stop ≡ Open
