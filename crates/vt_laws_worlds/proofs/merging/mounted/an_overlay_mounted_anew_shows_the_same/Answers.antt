use Rattle.vt_laws_worlds.proofs.merging.mounted.Again.{mounted_anew_shows_the_same, mounted_over_the_same_layers}
use Rattle.vt_laws_worlds.proofs.merging.mounted.Links.{mounted_anew_links_the_same}
use Rattle.vt_laws_worlds.proofs.merging.mounted.an_overlay_mounted_anew_shows_the_same.Goals as goal

pub returns-clause-layers : goal.returns-clause-layers
returns-clause-layers c = mounted_anew_shows_the_same

pub returns-clause-same : goal.returns-clause-same
returns-clause-same c = mounted_over_the_same_layers

pub returns-clause-links : goal.returns-clause-links
returns-clause-links c = mounted_anew_links_the_same
