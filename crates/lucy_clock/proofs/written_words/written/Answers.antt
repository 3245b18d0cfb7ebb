use Rattle.std.proofs.Common.{◌≡◌, ◌≤◌, ◌++◌, take, length, ap, sym, refl, ◌∙◌, subst, inr, arith}
use Rattle.std.specs.List.{AllByRecursion}
use Rattle.std.proofs.lemmas.Option.{same_Some}
use Rattle.std.proofs.lemmas.List.Sums.{sum_by-append}
use Rattle.lucy_word.specs.Bits.{bit_count}
use Rattle.lucy_word.specs.Stored.{IsStored}
use Rattle.lucy_word.specs.declared.limit.Limit.TheVariants as lim
use Rattle.lucy_place.specs.declared.placed.PlacedNode.{PlacedNode as Node}
use Rattle.lucy_place.specs.Standing.{most_places}
use Rattle.lucy_clock.specs.declared.error.ClockError.TheVariants as err
use Rattle.lucy_need.specs.Meeting.{word_bits}
use Rattle.lucy_clock.specs.HandedDown.{AreWordsOf, IsWordTooLong, RefusesWords}
use Rattle.lucy_clock.specs.Reading.{AreReadersUpto, HaveBases, base_words}
use Rattle.lucy_clock.proofs.BaseLaws.{can_hand_down, bases_of, words_are}
use Rattle.lucy_clock.proofs.KeptLaws.{all_first}
use Rattle.lucy_clock.proofs.WordLaws.{none_long}
use Rattle.lucy_clock.proofs.written_words.written.Goals as goal

pub base_bits-behind-requires-clause-bases : goal.base_bits-behind-requires-clause-bases
base_bits-behind-requires-clause-bases c = subst HaveBases (sym c.list-sites.ensures) (bases_of c.node-found.result.now (c.requires.written c.node-found.result.now c.node-found.ensures.is))

pub first_words-requires : goal.first_words-requires
first_words-requires c =
    let found = c.node-found.result.now in
    let proper = c.node-found.ensures.proper in
    let few : length found.places ≤ most_places = proper.few in
    can_hand_down (take c.args.node c.args.placed.now.nodes) found c.deref.result.now proper (c.requires.written found c.node-found.ensures.is) (omega arith)
    (subst (AreReadersUpto found (length found.places)) (sym c.deref.ensures.value) c.in_ok-readers.ensures.readers)
    (ap length c.deref.ensures.value ∙ c.in_ok-readers.ensures.all)

pub past_bits-requires-clause-handing : goal.past_bits-requires-clause-handing
past_bits-requires-clause-handing c =
    let found = c.node-found.result.now in
    let proper = c.node-found.ensures.proper in
    let few : length found.places ≤ most_places = proper.few in
    can_hand_down (take c.args.node c.args.placed.now.nodes) found c.deref-then-len-list.result.now proper (c.requires.written found c.node-found.ensures.is) (omega arith)
    (subst (AreReadersUpto found (length found.places)) (sym c.deref-then-len-list.ensures.value) c.in_ok-readers.ensures.readers)
    (ap length c.deref-then-len-list.ensures.value ∙ c.in_ok-readers.ensures.all)

pub past_bits-requires-clause-stored : goal.past_bits-requires-clause-stored
past_bits-requires-clause-stored c = subst (λ sites. AllByRecursion IsStored (base_words sites)) c.list-sites.ensures c.base_bits-behind.ensures.stored

pub put_bases-requires : goal.put_bases-requires
put_bases-requires c = subst HaveBases (sym c.list-sites.ensures) (bases_of c.node-found.result.now (c.requires.written c.node-found.result.now c.node-found.ensures.is))

pub returns-then-len-list-clause-refused : goal.returns-then-len-list-clause-refused
returns-then-len-list-clause-refused c = λ n e.
    subst (λ m. RefusesWords m c.past_bits.result) (same_Some c.node-found.result.now n (sym c.node-found.ensures.is ∙ e)) c.past_bits.ensures

pub returns-then-bits-behind-clause-refused : goal.returns-then-bits-behind-clause-refused
returns-then-bits-behind-clause-refused c = λ n e.
    let found : Node = c.node-found.result.now in
    let same : found ≡ n = same_Some found n (sym c.node-found.ensures.is ∙ e) in
    let is_written = c.requires.written found c.node-found.ensures.is in
    let words = c.in_ok-words.words.items in
    let stored = subst (λ sites. AllByRecursion IsStored (base_words sites)) c.list-sites.ensures c.base_bits-behind.ensures.stored in
    let len = c.len.ensures in
    let size = c.in_ok-words.words.ok in
    let places = ap length c.list.ensures in
    let more = c.if-len-list.false in
    let far = all_first found words c.in_ok-words.ensures.ok (omega arith) in
    let all = sum_by-append bit_count words (base_words found.calls) in
    let count = ap word_bits c.deref-2.ensures.value in
    let sites = ap (λ l. word_bits (base_words l)) c.list-sites.ensures in
    let past = c.if-bits-behind.true in
    let bits = c.bits.ensures.is in
    let behind = c.base_bits-behind.ensures.is in
    let number = c.number.ensures in
    subst (λ m. RefusesWords m (err.Limit lim.Bits)) same
    (inr (refl, none_long found is_written c.node-found.ensures.proper.once words far, words ++ base_words found.calls, words_are found is_written words (words ++ base_words found.calls) far stored refl, omega arith))

pub returns-clause-ok : goal.returns-clause-ok
returns-clause-ok c = λ n e.
    let found : Node = c.node-found.result.now in
    let same : found ≡ n = same_Some found n (sym c.node-found.ensures.is ∙ e) in
    let is_written = c.requires.written found c.node-found.ensures.is in
    let words = c.in_ok-words.words.items in
    let stored = subst (λ sites. AllByRecursion IsStored (base_words sites)) c.list-sites.ensures c.base_bits-behind.ensures.stored in
    let len = c.len.ensures in
    let size = c.in_ok-words.words.ok in
    let places = ap length c.list.ensures in
    let more = c.if-len-list.false in
    let far = all_first found words c.in_ok-words.ensures.ok (omega arith) in
    let put = c.in_ok-put_bases.ensures ∙ ap (λ l. words ++ base_words l) c.list-sites.ensures in
    subst (λ m. AreWordsOf m c.put_bases.new.words.items) same (words_are found is_written words c.put_bases.new.words.items far stored put)

pub returns-clause-fits : goal.returns-clause-fits
returns-clause-fits c = λ n e.
    let found : Node = c.node-found.result.now in
    let same : found ≡ n = same_Some found n (sym c.node-found.ensures.is ∙ e) in
    let words = c.in_ok-words.words.items in
    let len = c.len.ensures in
    let size = c.in_ok-words.words.ok in
    let places = ap length c.list.ensures in
    let more = c.if-len-list.false in
    let far = all_first found words c.in_ok-words.ensures.ok (omega arith) in
    let put = ap word_bits c.in_ok-put_bases.ensures in
    let all = sum_by-append bit_count words (base_words c.list-sites.result.now) in
    let count = ap word_bits c.deref-2.ensures.value in
    let most = c.if-bits-behind.false in
    let bits = c.bits.ensures.is in
    let behind = c.base_bits-behind.ensures.is in
    let number = c.number.ensures in (
      subst (λ m. IsWordTooLong m → ⊥) same (none_long found (c.requires.written found c.node-found.ensures.is) c.node-found.ensures.proper.once words far),
      omega arith,
    )
