-- Namespaces that the lines of a script fill with mounts: ENOSPC of mount(2). They hold too many mounts to be computed
-- at once.
use Rattle.std.specs.Prelude.{List, [], codes, decimal, suc, zero, ℕ, ◌+◌, ◌++◌, ◌≡◌, ◌≤◌}
use Rattle.vt_spec.specs.Language.Script.{Version}
use Rattle.vt_spec.specs.Machine.Run.{machine_text}

-- a text so many times
unfoldable pub repeated : ℕ → List ℕ → List ℕ
repeated zero text = []
repeated (suc count) text = text ++ repeated count text

-- an answer to each of so many lines, with the numbers of the lines from a number on
unfoldable pub numbered : ℕ → ℕ → List ℕ → List ℕ
numbered number zero answer = []
numbered number (suc count) answer = decimal number ++ answer ++ numbered (number + 1) count answer

-- a mount point is made, and so many mounts are stacked on it: mkdir(2), mount(2)
abbrev pub stacking_script : ℕ → List ℕ
stacking_script mounts = codes "t mkdir /a\n" ++ repeated mounts (codes "t mount plain /a\n")

-- Beside the root mount there is room for 4,095 mounts,
abbrev pub FillsItsNamespace : Type 0
FillsItsNamespace =
    (version : Version) (mounts : ℕ) → mounts ≤ 4095
    → machine_text version [] (stacking_script mounts) ≡ numbered 1 (1 + mounts) (codes " ok\n")

-- and each one more is refused.
abbrev pub FullNamespaceRefuses : Type 0
FullNamespaceRefuses =
    (version : Version) (more : ℕ)
    → machine_text version [] (stacking_script (4095 + more))
    ≡ numbered 1 4096 (codes " ok\n") ++ numbered 4097 more (codes " deny 28 ENOSPC M9\n")

-- So it is of 4,096 mounts: the last one is refused.
abbrev pub LastOfManyMountsIsRefused : Type 0
LastOfManyMountsIsRefused =
    (version : Version)
    → machine_text version [] (stacking_script 4096)
    ≡ numbered 1 4096 (codes " ok\n") ++ codes "4097 deny 28 ENOSPC M9\n"

-- A shared mount of the first task has a peer in the namespace of its child, which stacks so many mounts there. Then a
-- mount is to come onto the shared one, one of the child's is unmounted, and the mount is to come again: mount(2),
-- umount(2), the kernel's document sharedsubtree.
abbrev pub receiver_script : ℕ → List ℕ
receiver_script mounts =
    codes "t mkdir /s\nt mkdir /q\nt mount plain /s\nt type /s shared\nt mkdir /s/d\nt fork\nt.1 unshare\n"
    ++ (repeated mounts (codes "t.1 mount plain /q\n")
    ++ codes "t mount plain /s/d\nt.1 umount /q\nt mount plain /s/d\n")

-- The child's namespace has two mounts, and is full with 4,094 more. Then the mount is refused, since its copy at the
-- peer has no room; once one of the child's is gone, it is granted.
abbrev pub FullReceiverRefuses : Type 0
FullReceiverRefuses =
    (version : Version)
    → machine_text version [] (receiver_script 4094)
    ≡ codes "1 ok\n2 ok\n3 ok\n4 ok\n5 ok\n6 ok t.1\n7 ok\n" ++ (numbered 8 4094 (codes " ok\n")
    ++ codes "4102 deny 28 ENOSPC M9\n4103 ok\n4104 ok\n")
