use Rattle.vt_laws_worlds.proofs.overlay_permits.worlds.EveryScript.{every_script_leads_to_worlds}
use Rattle.vt_laws_worlds.proofs.overlay_permits.worlds.every_script_leads_to_worlds.Goals as goal

pub returns : goal.returns
returns c = every_script_leads_to_worlds
