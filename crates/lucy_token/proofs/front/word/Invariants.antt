use Rattle.std.proofs.Common.{◌≡◌, ◌≤◌, ◌+◌, length}
use Rattle.lucy_token.specs.Scans.{word_front, word_from}
use Rattle.lucy_token.proofs.front.word.Given as goal

abbrev pub invariant-bytes : goal.invariant-bytes
invariant-bytes l = record {
  within : l.length + length l.rest ≤ length l.text;
  so : word_front l.text ≡ word_from l.length l.stage l.rest;
}

abbrev pub decreases-bytes : goal.decreases-bytes
decreases-bytes l = length l.rest
