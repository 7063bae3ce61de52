-- A world in which one plain tree changed: its other filesystems are as they were.
use Rattle.std.proofs.Common.{◌≡◌, refl, ℕ, nat_eq, Bool, true, false, cond, List}
use Rattle.vt_spec.proofs.Common.{Among, FileTree, Filesystem, World, with_files}
use Rattle.vt_laws_members.proofs.Common.{ChangesFilesystem, Inode, unchanged}
use Rattle.vt_laws_members.proofs.changes.Common.{swap}

pub swap_changes : (w : World ℕ) (old : Filesystem ℕ) (files : FileTree ℕ) (lost : List Inode)
    → ((after : World ℕ) → ChangesFilesystem after lost old (with_files old files))
    → ((x : Filesystem ℕ) → Among x w.filesystems → nat_eq old.number x.number ≡ true → x ≡ old)
    → (after : World ℕ) (f : Filesystem ℕ) → Among f w.filesystems → ChangesFilesystem after lost f (swap old files f)
swap_changes w old files lost changes one after f m = by (nat_eq old.number f.number) refl
  where
    by : (b : Bool) → nat_eq old.number f.number ≡ b
        → ChangesFilesystem after lost f (cond b (with_files old files) f)
    by true e = rw (one f m e) (changes after)
    by false e = unchanged after lost f
