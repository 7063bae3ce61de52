mod Unlinked
mod RenameParts
mod FoundByName
mod RenamedSeen
mod RemovedSeen
mod DirectorySeen
mod WaysFiles
mod WrittenSeen
mod LinkedSeen
use Rattle.vt_laws_later_calls.proofs.AttrSeen.{chmod_then_stat, chown_then_stat}
use Rattle.vt_laws_later_calls.proofs.later.CreatedSeen.{exclusive_twice}
use Rattle.vt_laws_later_calls.proofs.later.later_calls_see_it_at_the_path.Answers.DirectorySeen.{rename_directory_then_list, rename_directory_then_lstat}
use Rattle.vt_laws_later_calls.proofs.later.later_calls_see_it_at_the_path.Answers.FoundByName.{rename_then_found, rename_then_listed}
use Rattle.vt_laws_later_calls.proofs.later.later_calls_see_it_at_the_path.Answers.LinkedSeen.{link_then_lstat}
use Rattle.vt_laws_later_calls.proofs.MadeSeen.{mkdir_then_list, symlink_then_readlink}
use Rattle.vt_laws_later_calls.proofs.later.later_calls_see_it_at_the_path.Answers.RemovedSeen.{rmdir_then_lstat}
use Rattle.vt_laws_later_calls.proofs.later.later_calls_see_it_at_the_path.Answers.RenamedSeen.{rename_then_lstat}
use Rattle.vt_laws_later_calls.proofs.later.later_calls_see_it_at_the_path.Answers.Unlinked.{unlink_then_lstat}
use Rattle.vt_laws_later_calls.proofs.later.later_calls_see_it_at_the_path.Answers.WrittenSeen.{write_then_read}
use Rattle.vt_laws_later_calls.proofs.later.later_calls_see_it_at_the_path.Goals as goal

pub returns-clause-written : goal.returns-clause-written
returns-clause-written c = write_then_read

pub returns-clause-made : goal.returns-clause-made
returns-clause-made c = mkdir_then_list

pub returns-clause-linked : goal.returns-clause-linked
returns-clause-linked c = symlink_then_readlink

pub returns-clause-mode_set : goal.returns-clause-mode_set
returns-clause-mode_set c = chmod_then_stat

pub returns-clause-owner_set : goal.returns-clause-owner_set
returns-clause-owner_set c = chown_then_stat

pub returns-clause-named : goal.returns-clause-named
returns-clause-named c = link_then_lstat

pub returns-clause-unlinked : goal.returns-clause-unlinked
returns-clause-unlinked c = unlink_then_lstat

pub returns-clause-removed : goal.returns-clause-removed
returns-clause-removed c = rmdir_then_lstat

pub returns-clause-renamed : goal.returns-clause-renamed
returns-clause-renamed c = rename_then_lstat

pub returns-clause-moved : goal.returns-clause-moved
returns-clause-moved c = rename_directory_then_lstat

pub returns-clause-moved_listed : goal.returns-clause-moved_listed
returns-clause-moved_listed c = rename_directory_then_list

pub returns-clause-found : goal.returns-clause-found
returns-clause-found c = rename_then_found

pub returns-clause-listed : goal.returns-clause-listed
returns-clause-listed c = rename_then_listed

pub returns-clause-created_once : goal.returns-clause-created_once
returns-clause-created_once c = exclusive_twice
