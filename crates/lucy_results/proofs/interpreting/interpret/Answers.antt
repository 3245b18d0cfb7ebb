use Rattle.std.proofs.Common.{◌≡◌, ◌*◌, length, map, ap, sym, ◌∙◌, subst, inl, inr, arith}
use Rattle.lucy_host.specs.Host.{lent}
use Rattle.lucy_host.specs.Operators.{kinds_of}
use Rattle.lucy_kahn.specs.Sizes.{all_places}
use Rattle.lucy_kahn.specs.Turns.{IsLongUpto}
use Rattle.lucy_results.specs.Streams.{cut_to}
use Rattle.lucy_results.proofs.StreamLaws.{params_count, cut_count, lengths, interpreted_by}
use Rattle.lucy_results.proofs.OutputLaws.{few_places}
use Rattle.lucy_results.proofs.interpreting.interpret.Goals as goal

pub cut_inputs-requires-clause-same : goal.cut_inputs-requires-clause-same
cut_inputs-requires-clause-same g c = ap length c.param_words.ensures.words ∙ params_count c.args.placed.now.nodes c.args.clocks.now ∙ c.requires.inputs

pub kahn-requires-clause-inputs : goal.kahn-requires-clause-inputs
kahn-requires-clause-inputs g c κs within =
    let words = ap length c.param_words.ensures.words ∙ params_count c.args.placed.now.nodes c.args.clocks.now in
    sym (ap length c.in_ok-front.ensures ∙ cut_count c.args.instants c.param_words.result.now c.args.inputs.now (words ∙ c.requires.inputs) ∙ words)

pub returns-clause-ok : goal.returns-clause-ok
returns-clause-ok g c =
    let nodes = c.args.placed.now.nodes in
    let clocks = c.args.clocks.now in
    let schedule = c.requires.scheduled in
    let places : c.places_of.result ≡ all_places nodes = omega (arith, c.places_of.ensures, few_places nodes clocks schedule.net schedule.flat) in
    interpreted_by nodes clocks c.nodes.ensures.proper schedule c.args.inputs.now c.requires.inputs c.args.instants c.requires.suffice (kinds_of (lent c.args.host.now)) c.places_of.result c.in_ok-front.front c.in_ok-lists.lists
    c.in_ok-cut_results.field-0 places (c.in_ok-front.ensures ∙ ap (λ ws. cut_to c.args.instants ws c.args.inputs.now) c.param_words.ensures.words) c.in_ok-lists.ensures.ok c.in_ok-cut_results.ensures

pub returns-clause-counts : goal.returns-clause-counts
returns-clause-counts g c =
    let schedule = c.requires.scheduled in
    ap (map length) (returns-clause-ok g c)
    ∙ lengths c.args.placed.now.nodes c.args.clocks.now c.nodes.ensures.proper schedule (kinds_of (lent c.args.host.now)) c.args.inputs.now c.args.instants c.requires.suffice

pub returns-clause-items : goal.returns-clause-items
returns-clause-items g c = λ many.
    let nodes = c.args.placed.now.nodes in
    let kinds = kinds_of (lent c.args.host.now) in
    let schedule = c.requires.scheduled in
    let places : c.places_of.result ≡ all_places nodes = omega (arith, c.places_of.ensures, few_places nodes c.args.clocks.now schedule.net schedule.flat) in
    let front = c.in_ok-front.ensures ∙ ap (λ ws. cut_to c.args.instants ws c.args.inputs.now) c.param_words.ensures.words in
    let passed = subst (λ n. IsLongUpto kinds c.in_ok-front.front nodes (c.args.instants * n)) (sym places) (subst (λ xs. IsLongUpto kinds xs nodes (c.args.instants * all_places nodes)) (sym front) many.passed) in
    let never : ⊥ = elim (c.in_ok-lists.ensures.passed passed) [ inl e ↦ cc | inr e ↦ cc ] in
    absurd never
