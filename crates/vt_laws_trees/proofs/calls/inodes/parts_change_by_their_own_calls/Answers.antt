use Rattle.vt_laws_trees.proofs.calls.inodes.InodesPartLaws.{kinds_stay, link_texts_stay, only_chmod_changes_modes, only_chown_changes_owners, only_naming_changes_entries, only_opaque_changes_marks, only_writes_change_bytes}
use Rattle.vt_laws_trees.proofs.calls.inodes.parts_change_by_their_own_calls.Goals as goal

pub returns-clause-bytes : goal.returns-clause-bytes
returns-clause-bytes c = only_writes_change_bytes

pub returns-clause-modes : goal.returns-clause-modes
returns-clause-modes c = only_chmod_changes_modes

pub returns-clause-owners : goal.returns-clause-owners
returns-clause-owners c = only_chown_changes_owners

pub returns-clause-entries : goal.returns-clause-entries
returns-clause-entries c = only_naming_changes_entries

pub returns-clause-marks : goal.returns-clause-marks
returns-clause-marks c = only_opaque_changes_marks

pub returns-clause-kinds : goal.returns-clause-kinds
returns-clause-kinds c = kinds_stay

pub returns-clause-link_texts : goal.returns-clause-link_texts
returns-clause-link_texts c = link_texts_stay
