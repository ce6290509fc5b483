use Rattle.std.proofs.Common.{length}
use Rattle.route_session.proofs.plan.+plan.Given as goal

-- fewer proxies are left behind the first
abbrev pub decreases-plan : goal.decreases-plan
decreases-plan l = length l.proxies.now
