use Rattle.vt_later.proofs.refusing.look_refused.Goals as goal

pub returns-in-Ls : goal.returns-in-Ls
returns-in-Ls g c = rw c.in-Ls.is (c.list.ensures)

pub returns-in-Stat : goal.returns-in-Stat
returns-in-Stat g c = rw c.in-Stat.is (c.stat.ensures)

pub returns-in-Lstat : goal.returns-in-Lstat
returns-in-Lstat g c = rw c.in-Lstat.is (c.lstat.ensures)

pub returns-in-Readlink : goal.returns-in-Readlink
returns-in-Readlink g c = rw c.in-Readlink.is (c.readlink.ensures)

pub returns-in-Read : goal.returns-in-Read
returns-in-Read g c = rw c.in-Read.is (c.read.ensures)

pub returns-in-Exec : goal.returns-in-Exec
returns-in-Exec g c = rw c.in-Exec.is (c.exec.ensures)

pub returns-in-Pread : goal.returns-in-Pread
returns-in-Pread g c = rw c.in-Pread.is (c.pread.ensures (g.L.Look.looks c.args.world.now) c.args.passed.now _ _)
