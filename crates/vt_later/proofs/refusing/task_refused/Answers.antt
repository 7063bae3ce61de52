use Rattle.vt_later.proofs.refusing.task_refused.Goals as goal

pub returns-in-Chdir : goal.returns-in-Chdir
returns-in-Chdir g c = rw c.in-Chdir.is (c.chdir.ensures)

pub returns-in-Chroot : goal.returns-in-Chroot
returns-in-Chroot g c = rw c.in-Chroot.is (c.chroot.ensures)

pub returns-in-Fork : goal.returns-in-Fork
returns-in-Fork g c = rw c.in-Fork.is (c.fork.ensures (g.L.Look.looks c.args.world.now))

pub returns-in-Unshare : goal.returns-in-Unshare
returns-in-Unshare g c = rw c.in-Unshare.is (c.unshare.ensures (g.L.Look.looks c.args.world.now))

pub returns-in-Setns : goal.returns-in-Setns
returns-in-Setns g c = rw c.in-Setns.is (c.setns.ensures)
