use Rattle.vt_later.proofs.refusing.make_refused.Goals as goal

pub returns-in-Mkdir : goal.returns-in-Mkdir
returns-in-Mkdir g c asked = rw c.in-Mkdir.is (c.mkdir.ensures asked _)

pub returns-in-Symlink : goal.returns-in-Symlink
returns-in-Symlink g c asked = rw c.in-Symlink.is (c.symlink.ensures asked)

pub returns-in-Whiteout : goal.returns-in-Whiteout
returns-in-Whiteout g c asked = rw c.in-Whiteout.is (c.whiteout.ensures)

pub returns-in-Link : goal.returns-in-Link
returns-in-Link g c asked = rw c.in-Link.is (c.link.ensures asked)
