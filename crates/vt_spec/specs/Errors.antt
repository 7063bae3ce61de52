-- Error numbers and rules. Their numbers and names are those of errno(3) and errno-base.h; the rules are
-- the profile's.
use Rattle.std.specs.Prelude.{ℕ, Bool, true, false, List, [], ◌∷◌, ◌≡◌, Result, Ok, Err, codes, ⊤}
use Rattle.vt_spec.specs.declared.errors.Errno.{Errno}
use Rattle.vt_spec.specs.declared.errors.Errno.TheVariants.{Eperm, Enoent, Esrch, Enxio, Ebadf, Enomem, Eacces, Ebusy, Eexist, Exdev, Enotdir, Eisdir, Einval, Emfile, Efbig, Enospc, Erofs, Enametoolong, Enotempty, Eloop}
use Rattle.vt_spec.specs.declared.errors.Rule.{Rule}
use Rattle.vt_spec.specs.declared.errors.Rule.TheVariants.{S1, S2, S3, S4, S5, S6, K1, W1, W2, W3, W4, W5, W6, W7, W8, W9, E1, E2, E3, E4, E5, E6, E7, E8, E9, F1, F2, F3, L1, P1, P2, C1, C2, C3, O1, O2, O3, O4, O5, B1, B2, M2, M3, M4, M5, M6, M7, M8, M9, M10, M11, M12}
use Rattle.vt_spec.specs.declared.errors.Deny.{Deny}

-- the number of an error, of errno-base.h and errno.h
abbrev pub number_of : Errno → ℕ
number_of Eperm = 1
number_of Enoent = 2
number_of Esrch = 3
number_of Enxio = 6
number_of Ebadf = 9
number_of Enomem = 12
number_of Eacces = 13
number_of Ebusy = 16
number_of Eexist = 17
number_of Exdev = 18
number_of Enotdir = 20
number_of Eisdir = 21
number_of Einval = 22
number_of Emfile = 24
number_of Efbig = 27
number_of Enospc = 28
number_of Erofs = 30
number_of Enametoolong = 36
number_of Enotempty = 39
number_of Eloop = 40

-- the name of an error, of errno(3)
abbrev pub errno_name : Errno → List ℕ
errno_name Eperm = codes "EPERM"
errno_name Enoent = codes "ENOENT"
errno_name Esrch = codes "ESRCH"
errno_name Enxio = codes "ENXIO"
errno_name Ebadf = codes "EBADF"
errno_name Enomem = codes "ENOMEM"
errno_name Eacces = codes "EACCES"
errno_name Ebusy = codes "EBUSY"
errno_name Eexist = codes "EEXIST"
errno_name Exdev = codes "EXDEV"
errno_name Enotdir = codes "ENOTDIR"
errno_name Eisdir = codes "EISDIR"
errno_name Einval = codes "EINVAL"
errno_name Emfile = codes "EMFILE"
errno_name Efbig = codes "EFBIG"
errno_name Enospc = codes "ENOSPC"
errno_name Erofs = codes "EROFS"
errno_name Enametoolong = codes "ENAMETOOLONG"
errno_name Enotempty = codes "ENOTEMPTY"
errno_name Eloop = codes "ELOOP"

-- the name of a rule, as answers print it
abbrev pub rule_name : Rule → List ℕ
rule_name S1 = codes "S1"
rule_name S2 = codes "S2"
rule_name S3 = codes "S3"
rule_name S4 = codes "S4"
rule_name S5 = codes "S5"
rule_name S6 = codes "S6"
rule_name K1 = codes "K1"
rule_name W1 = codes "W1"
rule_name W2 = codes "W2"
rule_name W3 = codes "W3"
rule_name W4 = codes "W4"
rule_name W5 = codes "W5"
rule_name W6 = codes "W6"
rule_name W7 = codes "W7"
rule_name W8 = codes "W8"
rule_name W9 = codes "W9"
rule_name E1 = codes "E1"
rule_name E2 = codes "E2"
rule_name E3 = codes "E3"
rule_name E4 = codes "E4"
rule_name E5 = codes "E5"
rule_name E6 = codes "E6"
rule_name E7 = codes "E7"
rule_name E8 = codes "E8"
rule_name E9 = codes "E9"
rule_name F1 = codes "F1"
rule_name F2 = codes "F2"
rule_name F3 = codes "F3"
rule_name L1 = codes "L1"
rule_name P1 = codes "P1"
rule_name P2 = codes "P2"
rule_name C1 = codes "C1"
rule_name C2 = codes "C2"
rule_name C3 = codes "C3"
rule_name O1 = codes "O1"
rule_name O2 = codes "O2"
rule_name O3 = codes "O3"
rule_name O4 = codes "O4"
rule_name O5 = codes "O5"
rule_name B1 = codes "B1"
rule_name B2 = codes "B2"
rule_name M2 = codes "M2"
rule_name M3 = codes "M3"
rule_name M4 = codes "M4"
rule_name M5 = codes "M5"
rule_name M6 = codes "M6"
rule_name M7 = codes "M7"
rule_name M8 = codes "M8"
rule_name M9 = codes "M9"
rule_name M10 = codes "M10"
rule_name M11 = codes "M11"
rule_name M12 = codes "M12"

-- the error that a rule answers, and when the rule fails
abbrev pub errno_of : Rule → Errno
errno_of S1 = Einval  -- the line is not of the grammar
errno_of S2 = Esrch  -- no such task
errno_of S3 = Emfile  -- 256 descriptors are open
errno_of S4 = Ebadf  -- no such descriptor, or not opened for this
errno_of S5 = Enomem  -- an allocation failed
errno_of S6 = Enospc  -- limit of forks or of a name's depth
errno_of K1 = Eperm  -- a capability is missing
errno_of W1 = Enoent  -- an empty path
errno_of W2 = Enametoolong  -- a path, or one of its names, is too long
errno_of W3 = Enotdir  -- a directory is needed
errno_of W4 = Eacces  -- search is refused to the caller
errno_of W5 = Eacces  -- search is refused to the mounter
errno_of W6 = Enoent  -- a missing name
errno_of W7 = Eloop  -- the 41st symlink of one path
errno_of W8 = Enoent  -- a directory that is gone
errno_of W9 = Eloop  -- a symlink on a mount with nosymfollow
errno_of E1 = Eexist  -- the name is there
errno_of E2 = Eisdir  -- a directory where none may be
errno_of E3 = Enotdir  -- no directory where one is needed
errno_of E4 = Enotempty  -- a directory that is not empty
errno_of E5 = Einval  -- a directory into itself, or no symlink
errno_of E6 = Efbig  -- a file over its limit
errno_of E7 = Eperm  -- a hard link of a directory
errno_of E8 = Eacces  -- exec of what is no regular file
errno_of E9 = Enxio  -- a whiteout opened
errno_of F1 = Erofs  -- a read-only mount
errno_of F2 = Erofs  -- an overlay without an upper layer
errno_of F3 = Eacces  -- a mount with noexec
errno_of L1 = Ebusy  -- an object in a live layer
errno_of P1 = Ebusy  -- a mount point
errno_of P2 = Exdev  -- two names on different mounts
errno_of C1 = Eacces  -- the caller's permission bits
errno_of C2 = Eperm  -- not the owner
errno_of C3 = Eperm  -- a sticky directory
errno_of O1 = Exdev  -- a directory of a lower layer is renamed
errno_of O2 = Einval  -- options of an overlay that name no layers that fit
errno_of O3 = Ebusy  -- a layer in use
errno_of O4 = Eperm  -- a whiteout or mark through an overlay
errno_of O5 = Eloop  -- layers that overlap
errno_of B1 = Eacces  -- the mounter's permission bits
errno_of B2 = Eperm  -- the mounter cannot give the owner
errno_of M2 = Einval  -- a mount of another namespace
errno_of M3 = Einval  -- bind of an unbindable mount
errno_of M4 = Einval  -- move from a shared parent
errno_of M5 = Einval  -- move of an unbindable mount onto a shared one
errno_of M6 = Eloop  -- move to a place under itself
errno_of M7 = Einval  -- not the root of a mount
errno_of M8 = Ebusy  -- umount: a child, or in use; remount ro: a file is open for writing
errno_of M9 = Enospc  -- a namespace with too many mounts
errno_of M10 = Einval  -- the namespace's root mount
errno_of M11 = Ebusy  -- the new or the put-old mount is the root mount
errno_of M12 = Einval  -- pivot_root's conditions on places and types

-- the refusal by a rule
abbrev pub denial : Rule → Deny
denial rule = record { errno = errno_of rule; rule = rule }

-- A table of rules in the policy's order: each row says whether its rule fails. The first that fails answers.
abbrev pub Rules : Type 0
Rules = List (Bool × Rule)

-- no rule of a table fails
abbrev pub NoneFails : Rules → Type 0
NoneFails [] = ⊤
NoneFails ((fails, rule) ∷ rows) = (fails ≡ false) × NoneFails rows

-- the refusal by the first rule that fails, else the answer
abbrev pub unless : {A : Type 0} → Rules → Result A Deny → Result A Deny
unless [] answer = answer
unless ((true, rule) ∷ rows) answer = Err (denial rule)
unless ((false, rule) ∷ rows) answer = unless rows answer

-- what comes after a step that may be refused
abbrev pub and_then : {A B : Type 0} → Result A Deny → (A → Result B Deny) → Result B Deny
and_then (Ok a) next = next a
and_then (Err deny) next = Err deny
