use Rattle.route_delivery.proofs.+relay_parts.Given as goal

-- fewer proxies are behind the next one
abbrev pub decreases-relay_parts : goal.decreases-relay_parts
decreases-relay_parts l = l.spot.behind
