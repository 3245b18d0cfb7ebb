use Rattle.lucy_types.proofs.NodeLaws.{has_typings, typings_suffice, accepted, rejected}
use Rattle.lucy_types.proofs.typing.types.Goals as goal

pub returns-clause-well_typed : goal.returns-clause-well_typed
returns-clause-well_typed c = has_typings c.args.placed.now.nodes c.found.result c.found.ensures.ok

pub returns-clause-typable : goal.returns-clause-typable
returns-clause-typable c = typings_suffice c.args.placed.now.nodes c.found.result c.found.ensures.refused

pub returns-clause-accepted : goal.returns-clause-accepted
returns-clause-accepted c = accepted c.args.placed.now.nodes c.found.result c.found.ensures.ok c.found.ensures.refused

pub returns-clause-rejected : goal.returns-clause-rejected
returns-clause-rejected c = rejected c.args.placed.now.nodes c.found.result c.found.ensures.ok c.found.ensures.refused
