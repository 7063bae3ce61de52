use Rattle.vt_laws_mounts.proofs.mounts.MountsApart.{lazy_keeps_numbers}
use Rattle.vt_laws_mounts.proofs.mounts.MountsKept.{ended_namespaces_keep_numbers, flags_keep_numbers, inheritance_keeps_numbers, pivot_keeps_numbers, settling_keeps_numbers, taking_away_keeps_numbers, types_keep_numbers, unmount_keeps_numbers}
use Rattle.vt_laws_mounts.proofs.mounts.MountsNumbered.{attach_keeps_numbers, copies_keep_numbers, supplies_serve_as_copies, supplies_serve_as_images, unshare_keeps_numbers}
use Rattle.vt_laws_mounts.proofs.mounts.mounts_keep_numbers_of_their_own.Goals as goal

pub returns-clause-taking_away : goal.returns-clause-taking_away
returns-clause-taking_away c = taking_away_keeps_numbers

pub returns-clause-unmount : goal.returns-clause-unmount
returns-clause-unmount c = unmount_keeps_numbers

pub returns-clause-ended : goal.returns-clause-ended
returns-clause-ended c = ended_namespaces_keep_numbers

pub returns-clause-inheritance : goal.returns-clause-inheritance
returns-clause-inheritance c = inheritance_keeps_numbers

pub returns-clause-types : goal.returns-clause-types
returns-clause-types c = types_keep_numbers

pub returns-clause-flags : goal.returns-clause-flags
returns-clause-flags c = flags_keep_numbers

pub returns-clause-attach : goal.returns-clause-attach
returns-clause-attach c = attach_keeps_numbers

pub returns-clause-unshare : goal.returns-clause-unshare
returns-clause-unshare c = unshare_keeps_numbers

pub returns-clause-pivot : goal.returns-clause-pivot
returns-clause-pivot c = pivot_keeps_numbers

pub returns-clause-lazy : goal.returns-clause-lazy
returns-clause-lazy c = lazy_keeps_numbers

pub returns-clause-settling : goal.returns-clause-settling
returns-clause-settling c = settling_keeps_numbers

pub returns-clause-copies : goal.returns-clause-copies
returns-clause-copies c = copies_keep_numbers

pub returns-clause-supplied_copies : goal.returns-clause-supplied_copies
returns-clause-supplied_copies c = supplies_serve_as_copies

pub returns-clause-supplied_images : goal.returns-clause-supplied_images
returns-clause-supplied_images c = supplies_serve_as_images
