use Rattle.vt_laws_worlds.proofs.one_text.in_use.InUseNamed.{any_worlds_have_numbers_in_use}
use Rattle.vt_laws_worlds.proofs.one_text.in_use.InUseServes.{any_worlds_keep_to_numbers_in_use, unused_numbers_serve}
use Rattle.vt_laws_worlds.proofs.one_text.in_use.any_worlds_have_numbers_in_use.Goals as goal

pub returns-clause-named : goal.returns-clause-named
returns-clause-named c = any_worlds_have_numbers_in_use

pub returns-clause-kept : goal.returns-clause-kept
returns-clause-kept c = any_worlds_keep_to_numbers_in_use

pub returns-clause-serve : goal.returns-clause-serve
returns-clause-serve c = unused_numbers_serve
