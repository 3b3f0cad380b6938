use Rattle.closed_fronts.proofs.Opens.{ended_tells, lasts_tells}
use Rattle.closed_fronts.proofs.heads.has_ended.Goals as goal

pub returns-in-Some : goal.returns-in-Some
returns-in-Some c = ended_tells c.args.places.now.events c.args.acquire c.args.place c.in-Some.release c.release.result c.release.ensures c.in-Some.is

pub returns-in-None : goal.returns-in-None
returns-in-None c = lasts_tells c.args.places.now.events c.args.acquire c.args.place c.release.result c.release.ensures c.in-None.is
