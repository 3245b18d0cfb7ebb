use Rattle.lucy_graphviz.proofs.QuoteLaws.{reads, no_line}
use Rattle.lucy_graphviz.proofs.quote.quoted_texts_read_back.Goals as goal

pub returns : goal.returns
returns c = record {
  reads = λ text rest. reads text rest;
  line_feeds = λ text. no_line text;
}
