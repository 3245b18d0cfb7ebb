-- Laws of terms: they depend on bits alone, and what needs between clocks come to.
use Rattle.std.proofs.Common.{ℕ, ◌≡◌, sym, ◌∙◌, subst, arith}
use Rattle.lucy_word.specs.Bits.{Bits, IsWord}
use Rattle.lucy_word.specs.Sampling.{IsOn}
use Rattle.lucy_word.specs.Adaptable.{IsAdaptable}
use Rattle.lucy_word.specs.Shortest.{Same}
use Rattle.lucy_word.proofs.ShortLaws.{same_sym, shortest_one}
use Rattle.lucy_word.specs.Always.{always}
use Rattle.lucy_word.proofs.AdaptableLaws.{adaptable_same}
use Rattle.lucy_word.proofs.OnLaws.{same_self, always_shortest, on_always, on_same}
use Rattle.lucy_need.specs.declared.need.Term.{Term}
use Rattle.lucy_need.specs.declared.need.Need.{Need}
use Rattle.lucy_need.specs.declared.need.Need.TheVariants.{Equal, Adapt}
use Rattle.lucy_need.specs.Meeting.{Assignment, Agree, alone, term, IsTermWord, AreAdaptable, AreEqual, Meets, IsWithin}

-- two words of one term have the same bits
pub one_term : (w : Assignment) (t : Term) (u v : Bits) → IsTermWord w t u → IsTermWord w t v → Same u v
one_term w t u v h k i some = h.on i some ∙ sym (k.on i some)

-- whether a need is met depends on the bits of its clocks
pub meets_same : (v w : Assignment) (clocks : ℕ) (need : Need) → Agree v w clocks → IsWithin clocks need → Meets v need → Meets w need
meets_same v w clocks (Equal s t) same within met = λ i h.
    sym (on_same (v s.clock) (w s.clock) s.word s.word i (same s.clock within.0) (same_self s.word) h) ∙ met i h
    ∙ on_same (v t.clock) (w t.clock) t.word t.word i (same t.clock within.1) (same_self t.word) h
meets_same v w clocks (Adapt s t) same within met = record {
  first = met.first;
  second = met.second;
  of_first = record {
    is_word = met.of_first.is_word;
    on = λ i h. met.of_first.on i h ∙ on_same (v s.clock) (w s.clock) s.word s.word i (same s.clock within.0) (same_self s.word) h;
  };
  of_second = record {
    is_word = met.of_second.is_word;
    on = λ i h. met.of_second.on i h ∙ on_same (v t.clock) (w t.clock) t.word t.word i (same t.clock within.1) (same_self t.word) h;
  };
  adaptable = met.adaptable;
}

-- two clocks are equal as terms exactly where they have the same bits
pub alone_from : (w : Assignment) (a b : ℕ) → Same (w a) (w b) → AreEqual w (alone a) (alone b)
alone_from w a b same i h = on_always (w a) i h ∙ same i h ∙ sym (on_always (w b) i h)

pub alone_to : (w : Assignment) (a b : ℕ) → AreEqual w (alone a) (alone b) → Same (w a) (w b)
alone_to w a b equal i h = sym (on_always (w a) i h) ∙ equal i h ∙ on_always (w b) i h

-- a clock is another on a word
pub on_from : (w : Assignment) (a b : ℕ) (word : Bits) → IsOn (w b) word (w a) → AreEqual w (alone a) (term b word)
on_from w a b word is i h = on_always (w a) i h ∙ is i h

pub on_to : (w : Assignment) (a b : ℕ) (word : Bits) → AreEqual w (alone a) (term b word) → IsOn (w b) word (w a)
on_to w a b word equal i h = sym (on_always (w a) i h) ∙ equal i h

-- two clocks are adaptable as terms exactly where their words are
pub adapt_from : (w : Assignment) (a b : ℕ) → IsWord (w a) → IsWord (w b) → IsAdaptable (w a) (w b) → AreAdaptable w (alone a) (alone b)
adapt_from w a b word_a word_b is = record {
  first = w a;
  second = w b;
  of_first = record { is_word = word_a; on = λ i h. sym (on_always (w a) i h) };
  of_second = record { is_word = word_b; on = λ i h. sym (on_always (w b) i h) };
  adaptable = is;
}

pub adapt_to : (w : Assignment) (a b : ℕ) → AreAdaptable w (alone a) (alone b) → IsAdaptable (w a) (w b)
adapt_to w a b is =
    adaptable_same is.first is.second (w a) (w b) is.of_first.is_word is.of_second.is_word
    (λ i h. is.of_first.on i h ∙ on_always (w a) i h) (λ i h. is.of_second.on i h ∙ on_always (w b) i h) is.adaptable
