use Rattle.lucy_host.proofs.OpsLaws.{entry_kind}
use Rattle.lucy_host.proofs.ops.Ops.kind.Goals as goal

pub returns : goal.returns
returns c = entry_kind _ _ _ c.index.result.now c.self.view_is c.requires c.index.ensures
