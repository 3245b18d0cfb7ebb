use Rattle.std.proofs.Common.{rules}
use Rattle.std.proofs.lemmas.List.Elements.{All-same, All-push}
use Rattle.lucy_explain.specs.Spans.{IsWithin}
use Rattle.lucy_explain.proofs.spans.push_within.Goals as goal

pub returns : goal.returns
returns c = λ all.
    All-same (IsWithin c.args.bytes) _ _ c.in_ok-push.ensures.items (All-push (IsWithin c.args.bytes) _ c.args.span all (c.is_within.ensures (search rules)))
