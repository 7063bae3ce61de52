use Rattle.vt_laws_worlds.proofs.worlds.ScriptsKept.{scripts_lead_to_worlds}
use Rattle.vt_laws_worlds.proofs.worlds.scripts_lead_to_worlds.Goals as goal

pub returns : goal.returns
returns c = scripts_lead_to_worlds
