use Rattle.std.proofs.Common.{rules, ◌≡◌, ◌∙◌, ◌+◌, ◌||◌, None, Some, ap, drop, false, sym, true, option_copied}
use Rattle.vt_spec.proofs.Common.{entry_at, hides, or-false}
use Rattle.vt_location.specs.declared.numbers.FilesystemId.{FilesystemId}
use Rattle.vt_location.specs.Locations.{inode_of}
use Rattle.vt_overlay.specs.Merge.LayerValue.{cut_on, tree_seen}
use Rattle.vt_overlay.proofs.merge.NamesFollowed.{goes_on, goes_on_cut, stops, stops_cut}
use Rattle.vt_overlay.proofs.merge.following.follow_in.Goals as goal
use Rattle.vt_overlay.proofs.merge.following.follow_in.Goals.{else-cut, then-cut}
use Rattle.std.proofs.Math.Bool.{or_assoc}

pub returns-in_default-clause-object : goal.returns-in_default-clause-object
returns-in_default-clause-object g c =
    let lent = option_copied c.args.tree in
    let tree = tree_seen c.args.directory.filesystem.count lent in
    let here = c.loop-index.here in
    let names = g.W.Way.names c.args.path.now in
    let none : None ≡ entry_at (tree_seen here.filesystem.count lent) (inode_of here) c.name.result.now =
    search rules in
    let same = ap (λ (id : FilesystemId). tree_seen id.count lent) c.loop-index.invariant.filesystem in
    stops tree (inode_of here) names c.loop-index.index c.name.result.now c.name.ensures
    (none ∙ ap (λ t. entry_at t (inode_of here) c.name.result.now) same) ∙ sym c.loop-index.invariant.leads

pub returns-in_default-clause-cut : goal.returns-in_default-clause-cut
returns-in_default-clause-cut g c =
    let lent = option_copied c.args.tree in
    let tree = tree_seen c.args.directory.filesystem.count lent in
    let here = c.loop-index.here in
    let names = g.W.Way.names c.args.path.now in
    let none : None ≡ entry_at (tree_seen here.filesystem.count lent) (inode_of here) c.name.result.now =
    search rules in
    let same = ap (λ (id : FilesystemId). tree_seen id.count lent) c.loop-index.invariant.filesystem in
    sym (c.loop-index.invariant.cuts ∙ ap (λ b. c.loop-index.cut || b)
    (stops_cut tree (inode_of here) names c.loop-index.index c.name.result.now c.name.ensures
    (none ∙ ap (λ t. entry_at t (inode_of here) c.name.result.now) same)) ∙ or-false c.loop-index.cut)

pub loop-index-preserved : goal.loop-index-preserved
loop-index-preserved g c =
    let lent = option_copied c.args.tree in
    let tree = tree_seen c.args.directory.filesystem.count lent in
    let here = c.loop-index.here in
    let next = c.in-Some.next in
    let names = g.W.Way.names c.args.path.now in
    let same = ap (λ (id : FilesystemId). tree_seen id.count lent) c.loop-index.invariant.filesystem in
    let filesystem : next.filesystem ≡ c.args.directory.filesystem =
    c.in-Some.ensures.filesystem ∙ c.loop-index.invariant.filesystem in
    let at : Some (inode_of next) ≡ entry_at tree (inode_of here) c.name.result.now =
    c.in-Some.ensures.number ∙ ap (λ t. entry_at t (inode_of here) c.name.result.now) same in
    let rest = cut_on tree (drop (c.loop-index.index + 1) names) (inode_of next) in
    let hidden = λ (id : FilesystemId). hides ((tree_seen id.count lent).node (inode_of next)) in
    let cut : c.if-cut.cut ≡ (c.loop-index.cut || hidden next.filesystem) = elim c.if-cut.branch [
      | then-cut w ↦
          let is : c.if-cut.cut ≡ true = search rules in
          let was : c.loop-index.cut ≡ true = search rules in
          is ∙ sym (ap (λ b. b || hidden next.filesystem) was)
      | else-cut w ↦
          let is : c.if-cut.cut ≡ hidden next.filesystem = search rules in
          let was : c.loop-index.cut ≡ false = search rules in
          is ∙ sym (ap (λ b. b || hidden next.filesystem) was)
    ] in
    record {
      leads = c.loop-index.invariant.leads
          ∙ goes_on tree (inode_of here) names c.loop-index.index c.name.result.now c.name.ensures (inode_of next) at;
      cuts = c.loop-index.invariant.cuts ∙ ap (λ b. c.loop-index.cut || b)
          (goes_on_cut tree (inode_of here) names c.loop-index.index c.name.result.now c.name.ensures
          (inode_of next) at) ∙ sym (or_assoc c.loop-index.cut (hides (tree.node (inode_of next))) rest)
          ∙ ap (λ b. b || rest) (ap (λ id. c.loop-index.cut || hidden id) (sym filesystem) ∙ sym cut);
      filesystem = filesystem;
    }
