mod Listing
use Rattle.vt_laws_mounts.proofs.propagation.after_unshare_the_table_reads_the_same.Answers.Listing.{unshare_lists_others_the_same, unshare_lists_the_same}
use Rattle.vt_laws_mounts.proofs.propagation.after_unshare_the_table_reads_the_same.Goals as goal

pub returns-clause-caller : goal.returns-clause-caller
returns-clause-caller c = unshare_lists_the_same

pub returns-clause-others : goal.returns-clause-others
returns-clause-others c = unshare_lists_others_the_same
