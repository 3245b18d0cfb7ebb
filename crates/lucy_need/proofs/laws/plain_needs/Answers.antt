use Rattle.lucy_need.proofs.TermLaws.{alone_from, alone_to, on_from, on_to, adapt_from, adapt_to}
use Rattle.lucy_need.proofs.laws.plain_needs.Goals as goal

pub returns-clause-equal : goal.returns-clause-equal
returns-clause-equal c = λ w a b. (alone_to w a b, alone_from w a b)

pub returns-clause-sampled : goal.returns-clause-sampled
returns-clause-sampled c = λ w a b word. (on_to w a b word, on_from w a b word)

pub returns-clause-adapt : goal.returns-clause-adapt
returns-clause-adapt c = λ w a b word_a word_b. (adapt_to w a b, adapt_from w a b word_a word_b)
