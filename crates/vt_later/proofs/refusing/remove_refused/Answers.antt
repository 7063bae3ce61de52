use Rattle.vt_later.proofs.refusing.remove_refused.Goals as goal

pub returns-in-Unlink : goal.returns-in-Unlink
returns-in-Unlink g c asked = rw c.in-Unlink.is (c.unlink.ensures asked)

pub returns-in-Rmdir : goal.returns-in-Rmdir
returns-in-Rmdir g c asked = rw c.in-Rmdir.is (c.rmdir.ensures asked)

pub returns-in-Rename : goal.returns-in-Rename
returns-in-Rename g c asked = rw c.in-Rename.is (c.rename.ensures asked)
