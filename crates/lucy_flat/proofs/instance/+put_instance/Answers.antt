use Rattle.std.proofs.Common.{suc, ◌≡◌, ◌+◌, ◌<◌, Some, ◌∷◌, ap, sym, ◌∙◌, refl, subst, length, get_or, inl, inr, arith}
use Rattle.std.specs.Prelude.{◌⊎◌, slice_get}
use Rattle.std.proofs.lemmas.Result.{on_ok_weaker}
use Rattle.std.proofs.lemmas.Option.{slice_get_within, slice_get-get_or}
use Rattle.lucy_word.specs.Sampling.{IsOn, IsOnTooLong}
use Rattle.lucy_word.specs.declared.limit.Limit.TheVariants as lim
use Rattle.lucy_word.proofs.Results.{leaves}
use Rattle.lucy_place.specs.declared.placed.PlacedNode.{PlacedNode}
use Rattle.lucy_place.proofs.NodeLaws.{site_stands}
use Rattle.lucy_flat.specs.declared.error.FlatError.{FlatError}
use Rattle.lucy_flat.specs.declared.error.FlatError.TheVariants as err
use Rattle.lucy_kahn.specs.Below.{Below}
use Rattle.lucy_flat.specs.Extents.{actors_in, AreSumsOf}
use Rattle.lucy_kahn.specs.Sizes.{own_places}
use Rattle.lucy_kahn.specs.Numbers.{call_offset}
use Rattle.lucy_kahn.proofs.Tables.{calls_below, total_law}
use Rattle.lucy_flat.specs.declared.instance.Caller.{Caller}
use Rattle.lucy_flat.specs.Refusals.{NetWordIsTooLong}
use Rattle.lucy_flat.proofs.ExtentLaws.{call_above}
use Rattle.lucy_flat.proofs.InstanceLaws.{places_within, call_within, fit_here}
use Rattle.lucy_kahn.proofs.SizeLaws.{below_more}
use Rattle.lucy_flat.proofs.AlikeLaws.{next_alike}
use Rattle.lucy_flat.proofs.PutLaws.{actors_exact, so_far_first, so_far_more, so_far_whole, at_call, instance_is, call_bound, call_word}
use Rattle.lucy_flat.proofs.instance.+put_instance.Goals as goal

pub put_instance-overflow_add-begin : goal.put_instance-overflow_add-begin
put_instance-overflow_add-begin t c =
    let within = places_within c.args.program.placed.now.nodes c.args.node c.node-found.result.now c.requires.program.proper c.node-found.ensures.is in
    let places = ap length c.list-places.ensures in
    let few = c.requires.few in
    omega arith

pub put_instance-begins-requires-clause-below : goal.put_instance-begins-requires-clause-below
put_instance-begins-requires-clause-below t c =
    let nodes = c.args.program.placed.now.nodes in
    let sizes = c.args.program.sizes.now in
    let n : PlacedNode = c.node-found.result.now in
    let room = c.requires.program.room in
    let node = c.requires.node in
    subst (Below (length sizes)) (sym c.list-sites.ensures) (below_more c.args.node (length sizes) n.calls (omega arith) (calls_below nodes c.args.node n (c.requires.program.proper c.args.node n c.node-found.ensures.is)))

pub put_instance-begins-requires-clause-few : goal.put_instance-begins-requires-clause-few
put_instance-begins-requires-clause-few t c =
    let nodes = c.args.program.placed.now.nodes in
    let sizes = c.args.program.sizes.now in
    let n : PlacedNode = c.node-found.result.now in
    let room = c.requires.program.room in
    let node = c.requires.node in
    let below = calls_below nodes c.args.node n (c.requires.program.proper c.args.node n c.node-found.ensures.is) in
    let whole = total_law own_places nodes c.args.node n c.node-found.ensures.is below in
    let few = c.requires.few in
    let exact = actors_exact nodes sizes c.requires.program.sizes n.calls (below_more c.args.node (length nodes) n.calls (omega arith) below) (omega arith) in
    let sites = ap (actors_in sizes) c.list-sites.ensures in
    let places = ap length c.list-places.ensures in
    omega arith

pub put_instance-put_inside-requires : goal.put_instance-put_inside-requires
put_instance-put_inside-requires t c =
    let decreases = c.decreases in
    let node = c.requires.node in
    let clock_count = c.requires.program.clocked.count in
    let places = ap length c.list-places.ensures in
    let is = instance_is c.args.program.placed.now.nodes c.args.program.clocks.now c.args.program.sizes.now c.requires.program c.requires.at.0 c.args.node c.args.begin (c.args.begin + length c.list-places.result.now) _ c.list-sites.result.now
    c.node-found.ensures.is (slice_get-get_or c.args.program.clocks.now c.args.node c.index-program-node.result (omega arith)) c.requires.at.1 refl c.requires.few c.list-sites.ensures (omega arith)
    (subst (AreSumsOf c.args.program.sizes.now c.list-sites.result.now (c.args.begin + length c.list-places.result.now) (length c.list-sites.result.now)) (sym c.deref.ensures.value) c.in_ok-inner.ensures.ok) in
    (omega arith, (c.requires.program, ((c.requires.at.0, is.0, is.1), c.requires.base)))

pub put_instance-returns-clause-ok : goal.put_instance-returns-clause-ok
put_instance-returns-clause-ok t c = λ path old is keeps.
    let node = c.requires.node in
    let clock_count = c.requires.program.clocked.count in
    let places = ap length c.list-places.ensures in
    let inside = instance_is c.args.program.placed.now.nodes c.args.program.clocks.now c.args.program.sizes.now c.requires.program path c.args.node c.args.begin (c.args.begin + length c.list-places.result.now) _ c.list-sites.result.now
    c.node-found.ensures.is (slice_get-get_or c.args.program.clocks.now c.args.node c.index-program-node.result (omega arith)) is refl c.requires.few c.list-sites.ensures (omega arith)
    (subst (AreSumsOf c.args.program.sizes.now c.list-sites.result.now (c.args.begin + length c.list-places.result.now) (length c.list-sites.result.now)) (sym c.deref.ensures.value) c.in_ok-inner.ensures.ok) in
    c.put_inside.ensures.ok path old inside.0 inside.1 keeps

pub put_inside-calls-init : goal.put_inside-calls-init
put_inside-calls-init t c = λ path old is e keeps.
    let put = c.in_ok-put_places.ensures.ok path old is keeps in
    record { new = put.new; put = so_far_first c.args.program.placed.now.nodes c.args.program.clocks.now path c.args.of.node.now old put.new put.put; keeps = put.keeps }

pub put_inside-put_call-requires : goal.put_inside-put_call-requires
put_inside-put_call-requires t c =
    let decreases = c.decreases in
    let count = ap length c.list-count.ensures in
    let more = c.calls-test.true in
    (omega arith, (c.requires.program, (c.requires.of, (c.requires.base, omega arith))))

pub put_inside-calls-preserved : goal.put_inside-calls-preserved
put_inside-calls-preserved t c = λ path old is e keeps. c.in_ok-put_call.ensures.ok path old is e (c.calls.invariant path old is e keeps)

pub put_inside-returns-clause-ok : goal.put_inside-returns-clause-ok
put_inside-returns-clause-ok t c = λ path old is e keeps.
    let nodes = c.args.program.placed.now.nodes in
    let n : PlacedNode = c.args.of.node.now in
    let count = ap length c.list-count.ensures in
    let past = c.calls-test.false in
    let all = c.calls.invariant path old is e keeps in
    record {
      new = all.new;
      put = so_far_whole nodes c.args.program.clocks.now c.requires.program.proper path n c.args.node c.calls.call old all.new (subst (λ k. slice_get nodes k ≡ Some n) e is.node) (omega arith) all.put;
      keeps = all.keeps;
    }

pub put_inside-returns-in_err-put_call-clause-refused : goal.put_inside-returns-in_err-put_call-clause-refused
put_inside-returns-in_err-put_call-clause-refused t c =
    let Why : FlatError → Type 0 = λ e. (e ≡ err.OutOfMemory) ⊎ ((e ≡ err.Limit lim.Word) × NetWordIsTooLong c.args.program.placed.now.nodes c.args.program.clocks.now) in
    leaves Why Why _ c.from_residual-in_err-put_call.result c.from_residual-in_err-put_call.ensures.1 c.in_err-put_call.ensures.refused (λ e why. why)

pub put_call-comes_again-requires-clause-word : goal.put_call-comes_again-requires-clause-word
put_call-comes_again-requires-clause-word t c =
    let nodes = c.args.program.placed.now.nodes in
    let clocks = c.args.program.clocks.now in
    let proper = c.requires.program.proper in
    let clocked = c.requires.program.clocked in
    let n : PlacedNode = c.args.of.node.now in
    let clock = c.args.of.clock.now in
    let i = c.args.call in
    let sites = c.list-sites.result.now in
    let words = c.list-words.result.now in
    let places = length c.list-places.result.now in
    let places_are = ap length c.list-places.ensures in
    let count = ap length c.list-sites.ensures in
    let path = c.requires.of.0 in
    let is = c.requires.of.1 in
    call_bound nodes clocks clocked is.index n clock i places words is.node is.clock c.list-words.ensures places_are c.requires.call

pub put_call-returns-then-comes_again-clause-ok : goal.put_call-returns-then-comes_again-clause-ok
put_call-returns-then-comes_again-clause-ok t c = λ path old is e so.
    let nodes = c.args.program.placed.now.nodes in
    let clocks = c.args.program.clocks.now in
    let proper = c.requires.program.proper in
    let clocked = c.requires.program.clocked in
    let n : PlacedNode = c.args.of.node.now in
    let clock = c.args.of.clock.now in
    let i = c.args.call in
    let sites = c.list-sites.result.now in
    let words = c.list-words.result.now in
    let places = length c.list-places.result.now in
    let places_are = ap length c.list-places.ensures in
    let count = ap length c.list-sites.ensures in
    next_alike nodes clocks proper clocked path n is.index c.args.of.begin c.args.of.base.now c.args.of.caller i places sites words clock old c.args.kept.now is.at is.node is.clock c.requires.base c.list-sites.ensures c.list-words.ensures places_are
    (let inside = c.requires.call in omega arith) (c.comes_again.ensures.alike c.if-comes_again.true) (c.comes_again.ensures.past c.if-comes_again.true) so

pub put_call-bounds-words-places : goal.put_call-bounds-words-places
put_call-bounds-words-places t c =
    let nodes = c.args.program.placed.now.nodes in
    let clocks = c.args.program.clocks.now in
    let proper = c.requires.program.proper in
    let clocked = c.requires.program.clocked in
    let n : PlacedNode = c.args.of.node.now in
    let clock = c.args.of.clock.now in
    let i = c.args.call in
    let sites = c.list-sites.result.now in
    let words = c.list-words.result.now in
    let places = length c.list-places.result.now in
    let places_are = ap length c.list-places.ensures in
    let count = ap length c.list-sites.ensures in
    let path = c.requires.of.0 in
    let is = c.requires.of.1 in
    call_bound nodes clocks clocked is.index n clock i places words is.node is.clock c.list-words.ensures places_are c.requires.call

pub put_call-returns-in_err-base-clause-refused : goal.put_call-returns-in_err-base-clause-refused
put_call-returns-in_err-base-clause-refused t c =
    let nodes = c.args.program.placed.now.nodes in
    let clocks = c.args.program.clocks.now in
    let proper = c.requires.program.proper in
    let clocked = c.requires.program.clocked in
    let n : PlacedNode = c.args.of.node.now in
    let clock = c.args.of.clock.now in
    let i = c.args.call in
    let sites = c.list-sites.result.now in
    let words = c.list-words.result.now in
    let places = length c.list-places.result.now in
    let places_are = ap length c.list-places.ensures in
    let count = ap length c.list-sites.ensures in
    let path = c.requires.of.0 in
    let is = c.requires.of.1 in
    let word = call_word nodes clocks clocked path is.index n clock i places words c.index-words-places.result is.at.index is.node is.clock c.list-words.ensures places_are c.requires.call c.index-words-places.is in
    let inside = c.requires.call in
    leaves (λ e. (e ≡ err.OutOfMemory) ⊎ ((e ≡ err.Limit lim.Word) × IsOnTooLong c.args.of.base.now c.index-words-places.result))
    (λ e. (e ≡ err.OutOfMemory) ⊎ ((e ≡ err.Limit lim.Word) × NetWordIsTooLong nodes clocks)) _
    c.from_residual.result c.from_residual.ensures.1 c.in_err-base.ensures.refused
    (λ e why. elim why [
      | inl l ↦ inl l
      | inr r ↦ inr (
        r.0,
        inl (record {
          path = path;
          clock = length n.places + suc i;
          node = n;
          found = is.at.found ∙ is.node;
          low = omega arith;
          high = omega arith;
          base = c.args.of.base.now;
          is = is.at.is_base;
          shortest = c.requires.base;
          too_long = subst (IsOnTooLong c.args.of.base.now) (sym word) r.1;
        }),
      )
    ])

pub put_call-bounds-of-call : goal.put_call-bounds-of-call
put_call-bounds-of-call t c = let inner_count = c.requires.of.1.inner.count in let inside = c.requires.call in omega arith

pub put_call-put_instance-put-requires : goal.put_call-put_instance-put-requires
put_call-put_instance-put-requires t c =
    let decreases = c.decreases in
    let nodes = c.args.program.placed.now.nodes in
    let clocks = c.args.program.clocks.now in
    let proper = c.requires.program.proper in
    let clocked = c.requires.program.clocked in
    let n : PlacedNode = c.args.of.node.now in
    let clock = c.args.of.clock.now in
    let i = c.args.call in
    let sites = c.list-sites.result.now in
    let words = c.list-words.result.now in
    let places = length c.list-places.result.now in
    let places_are = ap length c.list-places.ensures in
    let count = ap length c.list-sites.ensures in
    let site = c.index-sites-call.result in
    let there : i < length sites = let inside = c.requires.call in omega arith in
    let at_site = site_stands n sites i site c.list-sites.ensures there c.index-sites-call.is in
    let caller : Caller = record { begin = c.args.of.begin; args = c.list.result } in
    let next : i + 1 ≡ suc i = omega arith in
    let offset = ap (call_offset nodes (Some n)) next in
    let path = c.requires.of.0 in
    let is = c.requires.of.1 in
    let inner_count = is.inner.count in
    let begins = is.inner.each i (let inside = c.requires.call in omega arith) in
    let word = call_word nodes clocks clocked path is.index n clock i places words c.index-words-places.result is.at.index is.node is.clock c.list-words.ensures places_are c.requires.call c.index-words-places.is in
    let at_inner = at_call nodes clocks path n is.index c.args.of.begin c.args.of.base.now c.in_ok-base.base c.args.of.caller i (get_or c.args.of.inner.now i 0) site caller is.at is.node at_site c.in_ok-base.ensures.stored.word
    (subst (λ v. IsOn c.args.of.base.now v c.in_ok-base.base) (sym word) c.in_ok-base.ensures.ok) refl c.list.ensures (omega arith) in
    let above : site.node < c.args.node = subst (λ k. site.node < k) c.requires.of.2 (call_above nodes is.index n sites i site (proper is.index n is.node) c.list-sites.ensures there c.index-sites-call.is) in
    let nodes_there = slice_get_within nodes is.index n is.node in
    let same = c.requires.of.2 in
    let whole = call_within nodes is.index n i site proper is.node at_site in
    let few = is.few in
    (omega arith, (c.requires.program, (omega arith, ((suc i ∷ path, at_inner), (c.in_ok-base.ensures.stored.shortest, omega arith)))))

pub put_call-returns-clause-ok : goal.put_call-returns-clause-ok
put_call-returns-clause-ok t c = λ path old is e so.
    let nodes = c.args.program.placed.now.nodes in
    let clocks = c.args.program.clocks.now in
    let proper = c.requires.program.proper in
    let clocked = c.requires.program.clocked in
    let n : PlacedNode = c.args.of.node.now in
    let clock = c.args.of.clock.now in
    let i = c.args.call in
    let sites = c.list-sites.result.now in
    let words = c.list-words.result.now in
    let places = length c.list-places.result.now in
    let places_are = ap length c.list-places.ensures in
    let count = ap length c.list-sites.ensures in
    let site = c.index-sites-call.result in
    let there : i < length sites = let inside = c.requires.call in omega arith in
    let at_site = site_stands n sites i site c.list-sites.ensures there c.index-sites-call.is in
    let caller : Caller = record { begin = c.args.of.begin; args = c.list.result } in
    let next : i + 1 ≡ suc i = omega arith in
    let offset = ap (call_offset nodes (Some n)) next in
    let inner_count = is.inner.count in
    let begins = is.inner.each i (let inside = c.requires.call in omega arith) in
    let word = call_word nodes clocks clocked path is.index n clock i places words c.index-words-places.result is.at.index is.node is.clock c.list-words.ensures places_are c.requires.call c.index-words-places.is in
    let at_inner = at_call nodes clocks path n is.index c.args.of.begin c.args.of.base.now c.in_ok-base.base c.args.of.caller i (get_or c.args.of.inner.now i 0) site caller is.at is.node at_site c.in_ok-base.ensures.stored.word
    (subst (λ v. IsOn c.args.of.base.now v c.in_ok-base.base) (sym word) c.in_ok-base.ensures.ok) refl c.list.ensures (omega arith) in
    let fits = fit_here nodes clocks proper clocked path (length n.places + suc i) c.args.of.base.now c.index-words-places.result is.at.is_base c.requires.base word c.in_ok-base.ensures.fits in
    on_ok_weaker c.put_instance-put.result (λ put. record { new = put.new; put = so_far_more nodes clocks path n i old so.new put.new site so.put at_site put.put fits; keeps = put.keeps })
    (c.put_instance-put.ensures.ok (suc i ∷ path) so.new at_inner so.keeps)
