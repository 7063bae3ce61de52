use Rattle.std.proofs.Common.{ap, arith, length-append, cond, count_by, sym, [], ◌+◌, ◌<◌, ◌^◌, ◌∙◌, ◌∷◌}
use Rattle.vt_spec.proofs.Common.{All-append, All-cons, All-nil}
use Rattle.std.proofs.lemmas.List.Sums.{count_by-le-length}
use Rattle.vt_overlay.specs.declared.merge.layers.LayerRef.{LayerRef}
use Rattle.vt_store.specs.LayerTests.{layer_at, same_filesystem, same_inode, stands_at, stands_in}
use Rattle.vt_store.proofs.LayersTallied.{counted_more}
use Rattle.vt_store.proofs.layer_counts.LayerCounts.add_one.Goals as goal

pub add-requires : goal.add-requires
add-requires c = record {
  room = omega (arith, c.requires.room.filesystems);
  few =
      let known = c.requires.known in
      omega (
        arith,
        known.1.filesystems c.args.filesystem,
        known.1.total,
        count_by-le-length (stands_in c.args.filesystem.count) known.0,
        c.requires.room.few,
      );
}

pub add-requires-2 : goal.add-requires-2
add-requires-2 c = record {
  room = omega (arith, c.requires.room.directories);
  few =
      let known = c.requires.known in
      omega (
        arith,
        known.1.directories c.new.result,
        known.1.total,
        count_by-le-length (stands_at c.new.result) known.0,
        c.requires.room.few,
      );
}

pub returns-clause-counted : goal.returns-clause-counted
returns-clause-counted c = λ before is.
    let added = layer_at c.args.filesystem c.args.directory in
    let small : c.args.directory < 18446744073709551616 = omega arith in
    record {
      filesystems = λ q.
          c.add.ensures.times q ∙ ap (λ n. cond (same_filesystem q c.args.filesystem) (n + 1) n) (is.filesystems q)
          ∙ sym (counted_more (stands_in q.count) before added);
      directories = λ q.
          c.add-2.ensures.times q ∙ ap (λ n. cond (same_inode q c.new.result) (n + 1) n) (is.directories q)
          ∙ ap (λ inode. cond (same_inode q inode) (count_by (stands_at q) before + 1) (count_by (stands_at q) before))
          c.new.ensures ∙ sym (counted_more (stands_at q) before added);
      small = All-append (λ (layer : LayerRef). layer.directory.slot < 2 ^ 64) before (added ∷ []) is.small
          (All-cons (λ (layer : LayerRef). layer.directory.slot < 2 ^ 64) added [] small
          (All-nil (λ (layer : LayerRef). layer.directory.slot < 2 ^ 64)));
      total = ap (λ n. n + 1) is.total ∙ sym (length-append before (added ∷ []));
    }
