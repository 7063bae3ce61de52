use Rattle.std.proofs.Common.{ap, codes, decimal, sym, List, ℕ, ◌++◌}
use Rattle.std.specs.Fmt.{digits}
use Rattle.vt_spec.specs.Errors.{errno_name, number_of}
use Rattle.vt_spec.specs.declared.errors.Errno.{Errno}
use Rattle.vt_line.proofs.refusal.error_text.Goals as goal

abbrev words : Errno → List ℕ
words errno = codes " deny " ++ decimal (number_of errno) ++ codes " " ++ errno_name errno ++ codes " "

pub returns-in-Eperm : goal.returns-in-Eperm
unfolding digits
returns-in-Eperm c = ap words (sym c.in-Eperm.is)

pub returns-in-Enoent : goal.returns-in-Enoent
unfolding digits
returns-in-Enoent c = ap words (sym c.in-Enoent.is)

pub returns-in-Esrch : goal.returns-in-Esrch
unfolding digits
returns-in-Esrch c = ap words (sym c.in-Esrch.is)

pub returns-in-Enxio : goal.returns-in-Enxio
unfolding digits
returns-in-Enxio c = ap words (sym c.in-Enxio.is)

pub returns-in-Ebadf : goal.returns-in-Ebadf
unfolding digits
returns-in-Ebadf c = ap words (sym c.in-Ebadf.is)

pub returns-in-Enomem : goal.returns-in-Enomem
unfolding digits
returns-in-Enomem c = ap words (sym c.in-Enomem.is)

pub returns-in-Eacces : goal.returns-in-Eacces
unfolding digits
returns-in-Eacces c = ap words (sym c.in-Eacces.is)

pub returns-in-Ebusy : goal.returns-in-Ebusy
unfolding digits
returns-in-Ebusy c = ap words (sym c.in-Ebusy.is)

pub returns-in-Eexist : goal.returns-in-Eexist
unfolding digits
returns-in-Eexist c = ap words (sym c.in-Eexist.is)

pub returns-in-Exdev : goal.returns-in-Exdev
unfolding digits
returns-in-Exdev c = ap words (sym c.in-Exdev.is)

pub returns-in-Enotdir : goal.returns-in-Enotdir
unfolding digits
returns-in-Enotdir c = ap words (sym c.in-Enotdir.is)

pub returns-in-Eisdir : goal.returns-in-Eisdir
unfolding digits
returns-in-Eisdir c = ap words (sym c.in-Eisdir.is)

pub returns-in-Einval : goal.returns-in-Einval
unfolding digits
returns-in-Einval c = ap words (sym c.in-Einval.is)

pub returns-in-Emfile : goal.returns-in-Emfile
unfolding digits
returns-in-Emfile c = ap words (sym c.in-Emfile.is)

pub returns-in-Efbig : goal.returns-in-Efbig
unfolding digits
returns-in-Efbig c = ap words (sym c.in-Efbig.is)

pub returns-in-Enospc : goal.returns-in-Enospc
unfolding digits
returns-in-Enospc c = ap words (sym c.in-Enospc.is)

pub returns-in-Erofs : goal.returns-in-Erofs
unfolding digits
returns-in-Erofs c = ap words (sym c.in-Erofs.is)

pub returns-in-Enametoolong : goal.returns-in-Enametoolong
unfolding digits
returns-in-Enametoolong c = ap words (sym c.in-Enametoolong.is)

pub returns-in-Enotempty : goal.returns-in-Enotempty
unfolding digits
returns-in-Enotempty c = ap words (sym c.in-Enotempty.is)

pub returns-in-Eloop : goal.returns-in-Eloop
unfolding digits
returns-in-Eloop c = ap words (sym c.in-Eloop.is)
