use Rattle.pm_links.proofs.Walks.{sound}
use Rattle.pm_links.proofs.links.Links.head_of.Goals as goal

pub returns-then-head-self-clause-sound : goal.returns-then-head-self-clause-sound
returns-then-head-self-clause-sound c = rw (← c.self.view_is) (sound c.self.invariant)

pub returns-else-head-self-clause-sound : goal.returns-else-head-self-clause-sound
returns-else-head-self-clause-sound c = rw (← c.self.view_is) (sound c.self.invariant)
