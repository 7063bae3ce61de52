use Rattle.vt_group.proofs.groups.Found.{inserted_there}
use Rattle.vt_group.proofs.groups.Groups.add_lower.Goals as goal

pub returns-in_ok-insert-clause-there : goal.returns-in_ok-insert-clause-there
returns-in_ok-insert-clause-there c is =
    inserted_there c.args.found.now.keys c.insert.new.self.keys c.args.lower c.in_ok-insert.ensures.keys
