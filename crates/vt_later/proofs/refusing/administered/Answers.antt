use Rattle.vt_later.proofs.refusing.administered.Goals as goal

pub returns-in-Plain : goal.returns-in-Plain
returns-in-Plain g c = rw c.in-Plain.is (c.mount_plain.ensures)

pub returns-in-Overlay : goal.returns-in-Overlay
returns-in-Overlay g c = rw c.in-Overlay.is (c.mount_overlay.ensures _)

pub returns-in-Bind : goal.returns-in-Bind
returns-in-Bind g c = rw c.in-Bind.is (c.bind.ensures)

pub returns-in-Move : goal.returns-in-Move
returns-in-Move g c = rw c.in-Move.is (c.move_mount.ensures)

pub returns-in-Umount : goal.returns-in-Umount
returns-in-Umount g c = rw c.in-Umount.is (c.umount.ensures)

pub returns-in-Lazy : goal.returns-in-Lazy
returns-in-Lazy g c = rw c.in-Lazy.is (c.lazy.ensures)

pub returns-in-Remount : goal.returns-in-Remount
returns-in-Remount g c = rw c.in-Remount.is (c.remount.ensures)

pub returns-in-SetType : goal.returns-in-SetType
returns-in-SetType g c = rw c.in-SetType.is (c.set_type.ensures _ _)

pub returns-in-Pivot : goal.returns-in-Pivot
returns-in-Pivot g c = rw c.in-Pivot.is (c.pivot_root.ensures)
