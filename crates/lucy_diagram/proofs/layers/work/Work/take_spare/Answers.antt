use Rattle.std.proofs.Common.{◌≡◌, ◌+◌, Some, List, ℕ, Option, length, ap, sym, ◌∙◌, subst, arith, rules}
use Rattle.std.specs.Prelude.{slice_get}
use Rattle.std.proofs.lemmas.List.{length-set}
use Rattle.std.proofs.lemmas.Option.{slice_get-get_or}
use Rattle.lucy_diagram.specs.Layers.{IsLeft, least_layer, with_layer}
use Rattle.lucy_diagram.specs.Layering.{AreFree}
use Rattle.lucy_diagram.proofs.LayeringLaws.{take_spare, passed_length, passed_found, passed_taken}
use Rattle.lucy_diagram.proofs.layers.work.Work.take_spare.Goals as goal

pub take-requires : goal.take-requires
take-requires c =
    let w = c.args.self.now in
    let found = w.found.items in
    let ways = c.args.ways.now in
    let p = c.at-place.result in
    let last = c.args.chains.now.last.items in
    let passed = c.requires.passed in record {
      left = subst (λ (F : List (Option ℕ)). IsLeft F p) c.deref.ensures.value (c.is_left.ensures.0 (search rules));
      chained = c.requires.chained;
      count = sym (passed_length ways c.args.spares.now (length last) c.args.number w passed);
      counts = passed.counts;
      free = subst (λ (l : List ℕ). AreFree (with_layer ways found p) w.waits.items (length found) l) (sym passed.none) (take_spare ways found w.waits.items p passed.free);
    }

pub settle-requires : goal.settle-requires
settle-requires c =
    let w = c.args.self.now in
    let found = w.found.items in
    let ways = c.args.ways.now in
    let p = c.at-place.result in
    let last = c.args.chains.now.last.items in record {
      chained = c.requires.chained;
      count =
          sym (ap length c.in_ok-take.ensures.found ∙ length-set found p (Some (least_layer found p ways)) ∙ passed_length ways c.args.spares.now (length last) c.args.number w c.requires.passed);
      counts = c.in_ok-take.ensures.counts;
      free = c.in_ok-take.ensures.free;
    }

pub returns : goal.returns
returns c =
    let w = c.args.self.now in
    let found = w.found.items in
    let ways = c.args.ways.now in
    let spares = c.args.spares.now in
    let p = c.at-place.result in
    let there : slice_get spares c.args.number ≡ Some p = slice_get-get_or spares c.args.number 0 c.requires.number ∙ ap Some (sym c.at-place.ensures) in
    let left = subst (λ (F : List (Option ℕ)). IsLeft F p) c.deref.ensures.value (c.is_left.ensures.0 (search rules)) in
    let now = c.in_ok-settle.ensures in
    passed_taken ways spares (length c.args.chains.now.last.items) c.args.number p w c.settle.new.self c.take.new.self.found.items c.requires.passed there left c.in_ok-take.ensures.found (now.finds spares) now.counts now.none now.free
