use Rattle.tv_route.proofs.settings.+route_level.Given as goal

abbrev pub decreases-route_level : goal.decreases-route_level
decreases-route_level l = l.h
