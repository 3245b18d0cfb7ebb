-- What is owed is one thing.
use Rattle.std.proofs.Common.{◌≡◌, ℕ, ◌⊎◌, List, [], ◌∷◌, ◌++◌, Option, Some, None, refl, ap, sym, ◌∙◌, subst, inl, inr, arith}
use Rattle.std.specs.Prelude.{ℤ}
use Rattle.lucy_word.specs.Bits.{Bits}
use Rattle.lucy_word.specs.declared.limit.Limit.TheVariants as limit
use Rattle.lucy_host.specs.declared.kind.HostKind.{HostKind}
use Rattle.lucy_lines.specs.declared.input.InputSpec.{InputSpec}
use Rattle.lucy_lines.specs.declared.reader.TextFault.{TextFault}
use Rattle.lucy_lines.specs.declared.feeds.Feed.{Feed}
use Rattle.lucy_text.specs.Sources.{ReadStop}
use Rattle.lucy_lines.specs.Feeding.{OneFeed}
use Rattle.lucy_kahn.specs.Horizons.{IsHorizon}
use Rattle.lucy_results.specs.Running.{HasManyTurns, HasManyItems}
use Rattle.lucy_program.specs.declared.accepted.Accepted.{Accepted}
use Rattle.lucy_run.specs.declared.ending.Ending.{Ending}
use Rattle.lucy_run.specs.declared.ending.Ending.TheVariants as ending
use Rattle.lucy_run.specs.Feeds.{Feeds}
use Rattle.lucy_run.specs.Owes.{AllowsMore, most_instants, input_words, lines_to, heading, EndsFor, IsMainFed, Interprets, OwesRun, OwesKahn}

-- inputs have one horizon
abbrev pub OneHorizon : Type 0
OneHorizon = (words : List Bits) (inputs : List (List ℤ)) (most s t : ℕ) → IsHorizon words inputs most s → IsHorizon words inputs most t → s ≡ t

feeds_once : OneFeed → (inputs : List InputSpec) (taken : List ℕ) (stop : ReadStop) (lists others : List (List ℤ)) (fault other : Option TextFault) →
    Feeds inputs taken stop lists fault → Feeds inputs taken stop others other → (lists ≡ others) × (fault ≡ other)
feeds_once one [] taken stop lists others fault other p q = (p.2 ∙ sym q.2, p.3 ∙ sym q.3)
feeds_once one (input ∷ inputs) taken stop lists others fault other p q =
    let f : Feed = record { items = lists; stop = fault } in
    let g : Feed = record { items = others; stop = other } in
    let same : f ≡ g = one (input ∷ inputs) taken stop f g p q in
    (ap (λ u. u.items) same, ap (λ u. u.stop) same)

-- what main is fed, and the horizon, are one
pub fed_once : OneFeed → OneHorizon → (a : Accepted) (given : Option ℕ) (taken : List ℕ) (stop : ReadStop) (lists others : List (List ℤ)) (fault other : Option TextFault) (horizon last : ℕ) →
    IsMainFed a given taken stop lists fault horizon → IsMainFed a given taken stop others other last → (lists ≡ others) × (fault ≡ other) × (horizon ≡ last)
fed_once one horizons a given taken stop lists others fault other horizon last p q =
    let same = feeds_once one a.inputs.items taken stop lists others fault other p.feeds q.feeds in
    let P : List (List ℤ) → Type 0 = λ u. IsHorizon (input_words a) u (most_instants given) horizon in
    (same.0, same.1, horizons (input_words a) others (most_instants given) horizon last (subst P same.0 p.horizon_is) q.horizon_is)

-- a run has one ending
pub ends_once : (words : List Bits) (given : Option ℕ) (lists : List (List ℤ)) (fault : Option TextFault) (end other : Ending) →
    EndsFor words given lists fault end → EndsFor words given lists fault other → end ≡ other
ends_once words given lists (Some fault) end other p q = p ∙ sym q
ends_once words (Some n) lists None end other p q = p ∙ sym q
ends_once words None lists None end other (inl p) (inl q) = p.0 ∙ sym q.0
ends_once words None lists None end other (inl p) (inr q) = absurd (q.1 p.1)
ends_once words None lists None end other (inr p) (inl q) = absurd (p.1 q.1)
ends_once words None lists None end other (inr p) (inr q) = p.0 ∙ sym q.0

pub carried : (P : List (List ℤ) → Option TextFault → ℕ → Type 0) (lists others : List (List ℤ)) (fault other : Option TextFault) (horizon last : ℕ) →
    lists ≡ others → fault ≡ other → horizon ≡ last → P lists fault horizon → P others other last
carried P lists others fault other horizon last e f g p =
    let A : List (List ℤ) → Type 0 = λ u. P u fault horizon in
    let B : Option TextFault → Type 0 = λ u. P others u horizon in
    let C : ℕ → Type 0 = λ u. P others other u in
    subst C g (subst B f (subst A e p))

-- `run` owes one output with one ending
pub run_once : OneFeed → OneHorizon → (kinds : List HostKind) (a : Accepted) (given : Option ℕ) (taken : List ℕ) (stop : ReadStop) (output out : List ℕ) (end other : Ending) →
    OwesRun kinds a given taken stop output end → OwesRun kinds a given taken stop out other → (output ≡ out) × (end ≡ other)
run_once one horizons kinds a given taken stop output out end other (lists, fault, horizon, fed, text, ends) (others, stops, last, so, printed, past) =
    let same = fed_once one horizons a given taken stop lists others fault stops horizon last fed so in
    let P : List (List ℤ) → Option TextFault → ℕ → Type 0 = λ u f t. (output ≡ heading a ++ lines_to kinds a u t) × EndsFor (input_words a) given u f end in
    let moved = carried P lists others fault stops horizon last same.0 same.1 same.2 (text, ends) in
    (moved.0 ∙ sym printed, ends_once (input_words a) given others stops end other moved.1 past)

-- `run` and `kahn` print the same lines, unless the interpreter passes a limit of its own
pub same_lines : OneFeed → OneHorizon → (kinds : List HostKind) (a : Accepted) (given : Option ℕ) (taken : List ℕ) (stop : ReadStop) (output lines : List ℕ) (end other : Ending) →
    OwesRun kinds a given taken stop output end → OwesKahn kinds a given taken stop lines other →
    (other ≡ ending.Limit limit.KahnTurns) ⊎ (other ≡ ending.Limit limit.KahnItems) ⊎ ((output ≡ heading a ++ lines) × (end ≡ other))
same_lines one horizons kinds a given taken stop output lines end other run (others, stops, last, so, inl turns) = inl turns.2
same_lines one horizons kinds a given taken stop output lines end other run (others, stops, last, so, inr (inl items)) = inr (inl items.2)
same_lines one horizons kinds a given taken stop output lines end other run (others, stops, last, so, inr (inr both)) =
    let same = run_once one horizons kinds a given taken stop output (heading a ++ lines_to kinds a others last) end other run (others, stops, last, so, refl, both.3) in
    inr (inr (same.0 ∙ ap (λ u. heading a ++ u) (sym both.2), same.1))

turns_or_items : (kinds : List HostKind) (a : Accepted) (lists : List (List ℤ)) (horizon : ℕ) → HasManyTurns a.placed.nodes horizon → HasManyItems kinds lists a.placed.nodes a.clocks.items horizon → ⊥
turns_or_items kinds a lists horizon turns items = let few = items.few in absurd (omega arith)

-- `kahn` owes one output with one ending
kahn_for : (kinds : List HostKind) (a : Accepted) (given : Option ℕ) (lists : List (List ℤ)) (fault : Option TextFault) (horizon : ℕ) (output out : List ℕ) (end other : Ending) →
    Interprets kinds a.placed.nodes a.clocks.items a.outputs.items given lists fault horizon output end → Interprets kinds a.placed.nodes a.clocks.items a.outputs.items given lists fault horizon out other →
    (output ≡ out) × (end ≡ other)
kahn_for kinds a given lists fault horizon output out end other (inl p) (inl q) = (p.1 ∙ sym q.1, p.2 ∙ sym q.2)
kahn_for kinds a given lists fault horizon output out end other (inl p) (inr (inl q)) = absurd (turns_or_items kinds a lists horizon p.0 q.0)
kahn_for kinds a given lists fault horizon output out end other (inl p) (inr (inr q)) = absurd (q.0 p.0)
kahn_for kinds a given lists fault horizon output out end other (inr (inl p)) (inl q) = absurd (turns_or_items kinds a lists horizon q.0 p.0)
kahn_for kinds a given lists fault horizon output out end other (inr (inl p)) (inr (inl q)) = (p.1 ∙ sym q.1, p.2 ∙ sym q.2)
kahn_for kinds a given lists fault horizon output out end other (inr (inl p)) (inr (inr q)) = absurd (q.1 p.0)
kahn_for kinds a given lists fault horizon output out end other (inr (inr p)) (inl q) = absurd (p.0 q.0)
kahn_for kinds a given lists fault horizon output out end other (inr (inr p)) (inr (inl q)) = absurd (p.1 q.0)
kahn_for kinds a given lists fault horizon output out end other (inr (inr p)) (inr (inr q)) =
    (p.2 ∙ sym q.2, ends_once (input_words a) given lists fault end other p.3 q.3)

pub kahn_once : OneFeed → OneHorizon → (kinds : List HostKind) (a : Accepted) (given : Option ℕ) (taken : List ℕ) (stop : ReadStop) (output out : List ℕ) (end other : Ending) →
    OwesKahn kinds a given taken stop output end → OwesKahn kinds a given taken stop out other → (output ≡ out) × (end ≡ other)
kahn_once one horizons kinds a given taken stop output out end other (lists, fault, horizon, fed, p) (others, stops, last, so, q) =
    let same = fed_once one horizons a given taken stop lists others fault stops horizon last fed so in
    let P : List (List ℤ) → Option TextFault → ℕ → Type 0 = λ u f t. Interprets kinds a.placed.nodes a.clocks.items a.outputs.items given u f t output end in
    kahn_for kinds a given others stops last output out end other (carried P lists others fault stops horizon last same.0 same.1 same.2 p) q

-- without a fault, and within the limit of instants, a run is done
pub done_for : (words : List Bits) (given : Option ℕ) (lists : List (List ℤ)) (end : Ending) → (given ≡ None → AllowsMore words lists → ⊥) → EndsFor words given lists None end → end ≡ ending.Done
done_for words (Some n) lists end few p = p
done_for words None lists end few (inl p) = absurd (few refl p.1)
done_for words None lists end few (inr p) = p.0
