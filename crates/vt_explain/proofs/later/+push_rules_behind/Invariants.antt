use Rattle.vt_explain.proofs.later.+push_rules_behind.Given as goal

abbrev pub decreases-push_rules_behind : goal.decreases-push_rules_behind
decreases-push_rules_behind g l = l.most
