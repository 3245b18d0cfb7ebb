use Rattle.std.proofs.Common.{List, sym, subst}
use Rattle.lucy_word.specs.Bits.{Bits}
use Rattle.lucy_word.specs.Adaptable.{IsSize}
use Rattle.lucy_word.proofs.Results.{goes_out}
use Rattle.lucy_need.specs.Meeting.{MeetsAll, assigned}
use Rattle.lucy_clock.specs.NodeClocks.{AreSizes}
use Rattle.lucy_shape.specs.Fitting.{IsFitting}
use Rattle.lucy_tight.proofs.PrintedLaws.{AtHand, at_hand, need_there, printed_small, printed_kept}
use Rattle.lucy_tight.proofs.TellLaws.{tells, refuses_so}
use Rattle.lucy_tight.proofs.WellLaws.{AreFound, node_is, found_adaptable, well_within, size_is, clocks_well, sizes_bounded}
use Rattle.lucy_tight.proofs.tightening.tighten_inferred.Goals.{After-needs_have_words, In_ok-clocks}
use Rattle.lucy_tight.proofs.tightening.tighten_inferred.Goals as goal

hand : (c : After-needs_have_words) → AtHand c.args.accepted.now c.args.options.now c.args.node c.args.buffer c.args.at.from c.args.at.to c.args.at.printed c.in_ok-made.made.needs c.in_ok-made.made.shape
hand c = at_hand c.requires.accepted c.requires.at c.requires.unwritten c.in_ok-made.ensures.needs c.in_ok-made.ensures.shape c.in_ok-made.ensures.carries c.needs_have_words.ensures

pub least_size-requires-clause-buffer : goal.least_size-requires-clause-buffer
least_size-requires-clause-buffer c = need_there (hand (goal.at.least_size-requires-clause-buffer c).After-needs_have_words)

pub least_size-requires-clause-size : goal.least_size-requires-clause-size
least_size-requires-clause-size c = printed_small (hand (goal.at.least_size-requires-clause-size c).After-needs_have_words)

pub least_size-requires-clause-kept : goal.least_size-requires-clause-kept
least_size-requires-clause-kept c = printed_kept (hand (goal.at.least_size-requires-clause-kept c).After-needs_have_words)

pub returns-in_err-found-clause-refused : goal.returns-in_err-found-clause-refused
returns-in_err-found-clause-refused c =
    let e = c.in_err-found.field-0.0 in
    goes_out _ e c.from_residual-in_err-found.result c.from_residual-in_err-found.ensures.1
    (refuses_so (hand (goal.at.returns-in_err-found-clause-refused c).After-needs_have_words) e c.in_err-found.ensures.refused)

pub clocks_at-requires-clause-words : goal.clocks_at-requires-clause-words
clocks_at-requires-clause-words c =
    let h = hand (goal.at.clocks_at-requires-clause-words c).After-needs_have_words in
    let reached = c.in_ok-found.ensures.reached in
    found_adaptable h c.node.result.now c.node.ensures.is c.in_ok-found.found.words.items c.in_ok-found.ensures.tightest.answered.each.size reached.0 reached.1

found : (c : In_ok-clocks) → AreFound c.args.accepted.now c.args.options.now c.args.node c.args.buffer c.args.at.from c.args.at.to c.args.at.printed c.in_ok-made.made.needs c.in_ok-made.made.shape c.in_ok-found.found.least
    c.in_ok-clocks.clocks
found c =
    let h = at_hand c.requires.accepted c.requires.at c.requires.unwritten c.in_ok-made.ensures.needs c.in_ok-made.ensures.shape c.in_ok-made.ensures.carries c.needs_have_words.ensures in
    let words = sym c.in_ok-clocks.ensures.words in
    let reached = c.in_ok-found.ensures.reached in record {
      hand = h;
      fits = subst (λ (ws : List Bits). IsFitting c.in_ok-made.made.shape (assigned ws)) words reached.0;
      meets = subst (λ (ws : List Bits). MeetsAll (assigned ws) c.in_ok-made.made.needs.list) words reached.1;
      is = subst (λ (ws : List Bits). IsSize (assigned ws c.args.at.from) (assigned ws c.args.at.to) c.in_ok-found.found.least) words reached.2;
      sizes = subst (λ n. AreSizes n c.in_ok-clocks.clocks) (sym (node_is h c.node.result.now c.node.ensures.is)) c.in_ok-clocks.ensures.sizes;
    }

pub returns-clause-tightened : goal.returns-clause-tightened
returns-clause-tightened c = tells _ (found (goal.at.returns-clause-tightened c).In_ok-clocks) c.in_ok-found.found.words.items c.in_ok-found.ensures.tightest (sym c.in_ok-clocks.ensures.words)

pub returns-clause-reached : goal.returns-clause-reached
returns-clause-reached c = size_is (found (goal.at.returns-clause-reached c).In_ok-clocks)

pub returns-clause-clocked : goal.returns-clause-clocked
returns-clause-clocked c = clocks_well (found (goal.at.returns-clause-clocked c).In_ok-clocks)

pub returns-clause-fits : goal.returns-clause-fits
returns-clause-fits c = (found (goal.at.returns-clause-fits c).In_ok-clocks).fits.fits

pub returns-clause-smallest : goal.returns-clause-smallest
returns-clause-smallest c = λ n there w from to size place reads well fits is.
    let own = well_within (found (goal.at.returns-clause-smallest c).In_ok-clocks).hand n there w from to size place reads well fits is in
    c.in_ok-found.ensures.smallest w size own.0 own.1

pub returns-clause-bounded : goal.returns-clause-bounded
returns-clause-bounded c = sizes_bounded (found (goal.at.returns-clause-bounded c).In_ok-clocks)
