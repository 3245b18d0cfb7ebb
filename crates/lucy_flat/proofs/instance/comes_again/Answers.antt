use Rattle.std.proofs.Common.{◌-◌, ◌≡◌, ◌∙◌, ap, sym, refl, length, arith}
use Rattle.std.proofs.lemmas.List.{get_or_read}
use Rattle.std.proofs.lemmas.Option.{same_Some, slice_get_read}
use Rattle.lucy_word.specs.Always.{always}
use Rattle.lucy_place.specs.declared.entry.CallSite.{CallSite}
use Rattle.lucy_flat.proofs.instance.comes_again.Goals as goal

pub returns-clause-alike : goal.returns-clause-alike
returns-clause-alike c = λ t. record {
  before = c.args.call - 1;
  next = omega arith;
  one_node = λ first second e f.
      let sites = c.args.sites.now in
      let before : CallSite = c.index-sites-call.result in
      let site : CallSite = c.index-sites-call-2.result in
      let is_first : before ≡ first = same_Some before first (sym (slice_get_read sites (length sites) (c.args.call - 1) before refl (omega arith) c.index-sites-call.is) ∙ e) in
      let is_second : site ≡ second = same_Some site second (sym (slice_get_read sites (length sites) c.args.call site refl c.requires.call c.index-sites-call-2.is) ∙ f) in
      ap (λ (x : CallSite). x.node) (sym is_first ∙ c.index-sites-call.is) ∙ c.if-before-node.false ∙ ap (λ (x : CallSite). x.node) (sym c.index-sites-call-2.is ∙ is_second);
  one_word = sym (get_or_read c.args.words.now _ c.index-words-places.result (omega arith) c.index-words-places.is always) ∙ c.same.ensures.equal.0 t ∙ get_or_read c.args.words.now _ c.index-words-places-2.result (omega arith) c.index-words-places-2.is always;
}
