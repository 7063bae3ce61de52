use Rattle.vt_laws_worlds.proofs.overlay_permits.worlds.MountedScripts.{links_over_scripts, mounted_anew_over_scripts, same_layers_over_scripts}
use Rattle.vt_laws_worlds.proofs.overlay_permits.worlds.an_overlay_mounted_anew_shows_the_same_over_scripts.Goals as goal

pub returns-clause-layers : goal.returns-clause-layers
returns-clause-layers c = mounted_anew_over_scripts

pub returns-clause-same : goal.returns-clause-same
returns-clause-same c = same_layers_over_scripts

pub returns-clause-links : goal.returns-clause-links
returns-clause-links c = links_over_scripts
