use Rattle.vt_laws_later_calls.proofs.tables.UnsharedListed.{unshare_gives_a_namespace, unshare_then_mounts}
use Rattle.vt_laws_later_calls.proofs.tables.an_unshare_leaves_the_list_of_mounts.Goals as goal

pub returns-clause-told : goal.returns-clause-told
returns-clause-told c = unshare_then_mounts c.after_unshare_the_table_reads_the_same.ensures.caller
    c.after_unshare_the_table_reads_the_same.ensures.others

pub returns-clause-own : goal.returns-clause-own
returns-clause-own c = unshare_gives_a_namespace
