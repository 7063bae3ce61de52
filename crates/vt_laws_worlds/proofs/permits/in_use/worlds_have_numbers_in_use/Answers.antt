use Rattle.vt_laws_worlds.proofs.overlays_stay.in_use.NamedBefore.{any_worlds_keep_to_named_before}
use Rattle.vt_laws_worlds.proofs.permits.in_use.InUseServes.{worlds_have_numbers_in_use, worlds_keep_to_numbers_in_use}
use Rattle.vt_laws_worlds.proofs.permits.in_use.worlds_have_numbers_in_use.Goals as goal

pub returns-clause-named : goal.returns-clause-named
returns-clause-named c = worlds_have_numbers_in_use

pub returns-clause-kept : goal.returns-clause-kept
returns-clause-kept c = worlds_keep_to_numbers_in_use

pub returns-clause-before : goal.returns-clause-before
returns-clause-before c = λ next inode world whole plain. any_worlds_keep_to_named_before next inode world whole
