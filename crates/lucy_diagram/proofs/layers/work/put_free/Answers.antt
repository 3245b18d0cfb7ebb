use Rattle.std.proofs.Common.{inl, rules}
use Rattle.lucy_diagram.proofs.layers.work.put_free.Goals as goal

pub returns : goal.returns
returns c = inl (c.is_free.ensures.0 (search rules), c.in_ok-push.ensures.items)
