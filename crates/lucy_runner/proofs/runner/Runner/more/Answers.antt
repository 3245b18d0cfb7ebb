use Rattle.std.proofs.Common.{◌≡◌, List, ap, sym, ◌∙◌, subst, arith}
use Rattle.std.specs.Vec.{with_items}
use Rattle.std.proofs.lemmas.List.{with_items_is}
use Rattle.lucy_word.proofs.Results.{on_err}
use Rattle.lucy_stream.specs.States.{IsSame}
use Rattle.lucy_core.specs.Seen.{Seen, state_of}
use Rattle.lucy_runner.specs.declared.seat.Seat.{Seat}
use Rattle.lucy_runner.specs.Views.{RunnerView}
use Rattle.lucy_runner.specs.Crews.{crew_of, seen_by}
use Rattle.lucy_runner.specs.Blocks.{grown_seen}
use Rattle.lucy_runner.specs.Growths.{MayGrow, OfEach, AreFew}
use Rattle.lucy_runner.proofs.MayLaws.{IsAsked, few_parts, may_grow}
use Rattle.lucy_runner.proofs.MoreLaws.{IsRoomy, IsMore, GoesOn, roomy_here, more_here, roomy_view, more_view}
use Rattle.lucy_runner.proofs.runner.Runner.more.Goals as goal

pub grow_all-requires-clause-few : goal.grow_all-requires-clause-few
grow_all-requires-clause-few c =
    let x = c.self.inside in
    let was : Seen = seen_by x.net x.schedule x.ops x.instants (crew_of x.seats.items) x.places.items in
    subst (λ (xs : List Seat). AreFew (crew_of xs)) (sym c.as_mut_slice.ensures.value) (few_parts was x.before (crew_of x.seats.items) x.places.items x.ends.items c.self.invariant.0)

pub grow_all-requires-clause-may : goal.grow_all-requires-clause-may
grow_all-requires-clause-may c =
    let x = c.self.inside in
    let was : Seen = seen_by x.net x.schedule x.ops x.instants (crew_of x.seats.items) x.places.items in
    let view : was ≡ c.args.self.now.seen = ap (λ (v : RunnerView). v.seen) c.self.view_is in
    let all : IsAsked c.args.self.now.seen c.args.instants c.args.inputs.now = record { finished = c.requires.finished; later = c.requires.later; early = c.requires.early; supplied = c.requires.supplied } in
    let asked : IsAsked was c.args.instants c.args.inputs.now = subst (λ (s : Seen). IsAsked s c.args.instants c.args.inputs.now) (sym view) all in
    subst (λ (xs : List Seat). OfEach (MayGrow c.args.inputs.now c.args.instants) (crew_of xs)) (sym c.as_mut_slice.ensures.value)
    (may_grow x.net x.schedule x.ops x.instants x.before c.args.instants (crew_of x.seats.items) x.places.items x.ends.items c.args.inputs.now c.self.invariant.0 asked)

pub invariant_of-self : goal.invariant_of-self
invariant_of-self c =
    let x = c.self.inside in
    let grown : List Seat = c.grow_all.new.seats in
    let last : List Seat = (with_items x.seats grown).items in
    let back : last ≡ grown = with_items_is x.seats grown (omega (arith, c.grow_all.auto.seats, c.as_mut_slice.ensures.len)) in
    let roomy : IsRoomy x.net x.schedule x.ops x.instants x.before x.seats.items last x.places.items x.ends.items =
    roomy_here x.net x.schedule x.ops x.instants x.before x.seats.items c.as_mut_slice.result.now grown last x.places.items x.ends.items c.self.invariant.0 c.as_mut_slice.ensures.value c.in_err-grow_all.ensures.refused back in
    (roomy.stands, c.self.invariant.1)

pub returns-in_err-grow_all-clause-refused : goal.returns-in_err-grow_all-clause-refused
returns-in_err-grow_all-clause-refused c =
    let x = c.self.inside in
    let grown : List Seat = c.grow_all.new.seats in
    let last : List Seat = (with_items x.seats grown).items in
    let back : last ≡ grown = with_items_is x.seats grown (omega (arith, c.grow_all.auto.seats, c.as_mut_slice.ensures.len)) in
    let roomy : IsRoomy x.net x.schedule x.ops x.instants x.before x.seats.items last x.places.items x.ends.items =
    roomy_here x.net x.schedule x.ops x.instants x.before x.seats.items c.as_mut_slice.result.now grown last x.places.items x.ends.items c.self.invariant.0 c.as_mut_slice.ensures.value c.in_err-grow_all.ensures.refused back in
    on_err c.from_residual.result _
    (roomy_view x.net x.schedule x.ops x.instants x.before x.seats.items last x.places.items x.ends.items c.self.invariant.0 roomy ∙ c.self.view_is)

pub invariant_of-self-2 : goal.invariant_of-self-2
invariant_of-self-2 c =
    let x = c.self.inside in
    let was : Seen = seen_by x.net x.schedule x.ops x.instants (crew_of x.seats.items) x.places.items in
    let view : was ≡ c.args.self.now.seen = ap (λ (v : RunnerView). v.seen) c.self.view_is in
    let all : IsAsked c.args.self.now.seen c.args.instants c.args.inputs.now = record { finished = c.requires.finished; later = c.requires.later; early = c.requires.early; supplied = c.requires.supplied } in
    let asked : IsAsked was c.args.instants c.args.inputs.now = subst (λ (s : Seen). IsAsked s c.args.instants c.args.inputs.now) (sym view) all in
    let grown : List Seat = c.grow_all.new.seats in
    let last : List Seat = (with_items x.seats grown).items in
    let back : last ≡ grown = with_items_is x.seats grown (omega (arith, c.grow_all.auto.seats, c.as_mut_slice.ensures.len)) in
    let now : Seen = seen_by x.net x.schedule x.ops c.args.instants (crew_of last) x.places.items in
    let over : IsMore was now x.instants c.args.instants (crew_of x.seats.items) (crew_of last) x.places.items x.ends.items c.args.inputs.now =
    more_here x.net x.schedule x.ops x.before x.instants c.args.instants x.seats.items c.as_mut_slice.result.now grown last x.places.items x.ends.items c.args.inputs.now
    c.self.invariant.0 asked c.as_mut_slice.ensures.value c.in_ok-grow_all.ensures.ok back in
    (over.stands, c.self.invariant.1)

pub returns-clause-ok : goal.returns-clause-ok
returns-clause-ok c =
    let x = c.self.inside in
    let was : Seen = seen_by x.net x.schedule x.ops x.instants (crew_of x.seats.items) x.places.items in
    let view : was ≡ c.args.self.now.seen = ap (λ (v : RunnerView). v.seen) c.self.view_is in
    let all : IsAsked c.args.self.now.seen c.args.instants c.args.inputs.now = record { finished = c.requires.finished; later = c.requires.later; early = c.requires.early; supplied = c.requires.supplied } in
    let asked : IsAsked was c.args.instants c.args.inputs.now = subst (λ (s : Seen). IsAsked s c.args.instants c.args.inputs.now) (sym view) all in
    let grown : List Seat = c.grow_all.new.seats in
    let last : List Seat = (with_items x.seats grown).items in
    let back : last ≡ grown = with_items_is x.seats grown (omega (arith, c.grow_all.auto.seats, c.as_mut_slice.ensures.len)) in
    let now : Seen = seen_by x.net x.schedule x.ops c.args.instants (crew_of last) x.places.items in
    let over : IsMore was now x.instants c.args.instants (crew_of x.seats.items) (crew_of last) x.places.items x.ends.items c.args.inputs.now =
    more_here x.net x.schedule x.ops x.before x.instants c.args.instants x.seats.items c.as_mut_slice.result.now grown last x.places.items x.ends.items c.args.inputs.now
    c.self.invariant.0 asked c.as_mut_slice.ensures.value c.in_ok-grow_all.ensures.ok back in
    more_view x.net x.schedule x.ops x.before x.instants c.args.instants x.seats.items last x.places.items x.ends.items c.args.inputs.now c.self.invariant.0 over
    ∙ ap (λ (v : RunnerView). record v { seen = grown_seen v.seen c.args.inputs.now c.args.instants; before = v.seen.instants }) c.self.view_is

pub returns-clause-same : goal.returns-clause-same
returns-clause-same c =
    let x = c.self.inside in
    let was : Seen = seen_by x.net x.schedule x.ops x.instants (crew_of x.seats.items) x.places.items in
    let view : was ≡ c.args.self.now.seen = ap (λ (v : RunnerView). v.seen) c.self.view_is in
    let all : IsAsked c.args.self.now.seen c.args.instants c.args.inputs.now = record { finished = c.requires.finished; later = c.requires.later; early = c.requires.early; supplied = c.requires.supplied } in
    let asked : IsAsked was c.args.instants c.args.inputs.now = subst (λ (s : Seen). IsAsked s c.args.instants c.args.inputs.now) (sym view) all in
    let grown : List Seat = c.grow_all.new.seats in
    let last : List Seat = (with_items x.seats grown).items in
    let back : last ≡ grown = with_items_is x.seats grown (omega (arith, c.grow_all.auto.seats, c.as_mut_slice.ensures.len)) in
    let now : Seen = seen_by x.net x.schedule x.ops c.args.instants (crew_of last) x.places.items in
    let over : IsMore was now x.instants c.args.instants (crew_of x.seats.items) (crew_of last) x.places.items x.ends.items c.args.inputs.now =
    more_here x.net x.schedule x.ops x.before x.instants c.args.instants x.seats.items c.as_mut_slice.result.now grown last x.places.items x.ends.items c.args.inputs.now
    c.self.invariant.0 asked c.as_mut_slice.ensures.value c.in_ok-grow_all.ensures.ok back in
    subst (λ (s : Seen). IsSame (state_of now) (state_of s)) view over.same

pub returns-clause-joined : goal.returns-clause-joined
returns-clause-joined c =
    let x = c.self.inside in
    let was : Seen = seen_by x.net x.schedule x.ops x.instants (crew_of x.seats.items) x.places.items in
    let view : was ≡ c.args.self.now.seen = ap (λ (v : RunnerView). v.seen) c.self.view_is in
    let all : IsAsked c.args.self.now.seen c.args.instants c.args.inputs.now = record { finished = c.requires.finished; later = c.requires.later; early = c.requires.early; supplied = c.requires.supplied } in
    let asked : IsAsked was c.args.instants c.args.inputs.now = subst (λ (s : Seen). IsAsked s c.args.instants c.args.inputs.now) (sym view) all in
    let grown : List Seat = c.grow_all.new.seats in
    let last : List Seat = (with_items x.seats grown).items in
    let back : last ≡ grown = with_items_is x.seats grown (omega (arith, c.grow_all.auto.seats, c.as_mut_slice.ensures.len)) in
    let now : Seen = seen_by x.net x.schedule x.ops c.args.instants (crew_of last) x.places.items in
    let over : IsMore was now x.instants c.args.instants (crew_of x.seats.items) (crew_of last) x.places.items x.ends.items c.args.inputs.now =
    more_here x.net x.schedule x.ops x.before x.instants c.args.instants x.seats.items c.as_mut_slice.result.now grown last x.places.items x.ends.items c.args.inputs.now
    c.self.invariant.0 asked c.as_mut_slice.ensures.value c.in_ok-grow_all.ensures.ok back in
    subst (λ (s : Seen). GoesOn s now x.instants) view over.joined
