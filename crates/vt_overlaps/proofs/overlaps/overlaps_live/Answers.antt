use Rattle.std.proofs.Common.{arith, ap, below_more, option_copied, option_map, sym, ◌∙◌, ◌≤◌}
use Rattle.vt_fs.specs.FilesystemsValue.{FilesystemEntry, Filesystems, entry_of}
use Rattle.vt_location.specs.Locations.{inode_of}
use Rattle.vt_location.specs.Numbers.{inode_number}
use Rattle.vt_overlaps.proofs.Overlapping.{none_passes, one_passes}
use Rattle.vt_overlaps.specs.Overlaps.{lies_in_both}
use Rattle.vt_overlaps.proofs.overlaps.overlaps_live.Goals as goal

pub returns-then-is_in_both : goal.returns-then-is_in_both
returns-then-is_in_both c =
    let count = c.args.directory.filesystem.count in
    sym (one_passes c.args.store.now.plain count (lies_in_both c.args.store.now count (inode_of c.args.directory))
    (inode_number count c.loop-slot.slot)
    (sym c.is_in_both.ensures ∙ c.if-is_in_both.true))

pub loop-slot-preserved : goal.loop-slot-preserved
loop-slot-preserved c =
    below_more _ _ c.loop-slot.invariant (sym c.is_in_both.ensures ∙ c.if-is_in_both.false)

pub returns : goal.returns
returns c =
    let count = c.args.directory.filesystem.count in
    let end = c.end-slot-end.result in
    let small : end ≤ 18446744073709551616 = let h = c.end-slot-end.type_inv in omega (arith, h) in
    sym (none_passes c.args.store.now.plain count (lies_in_both c.args.store.now count (inode_of c.args.directory))
    c.in-Some.tree.now
    (sym (ap option_copied c.in-Some.is) ∙ c.get.ensures
    ∙ ap (λ (plain : Filesystems). option_map (λ (entry : FilesystemEntry). entry.tree) (entry_of plain count))
    c.plain.ensures) end small c.end-slot-end.ensures
    (λ k within. c.loop-slot.invariant k (omega (arith, within, c.loop-slot-test.false))))
