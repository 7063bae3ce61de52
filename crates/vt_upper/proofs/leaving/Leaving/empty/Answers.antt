use Rattle.std.proofs.Common.{◌∙◌, ◌<◌, ◌≤◌, ap, arith, length, List, refl, subst, ℕ}
use Rattle.std.proofs.lemmas.List.{take_all}
use Rattle.vt_spec.proofs.Common.{Entries, entries_in, entry_at}
use Rattle.vt_spec.specs.Lists.{folded}
use Rattle.vt_copyup.proofs.Changed.{nothing_changes}
use Rattle.vt_fs.specs.FilesystemsValue.{ChangesInodes, Filesystems, files_at}
use Rattle.vt_location.specs.Locations.{inode_of}
use Rattle.vt_upper.specs.Leaving.{freed_once}
use Rattle.vt_upper.proofs.FreedTrees.{as_many_inodes, as_many_names, known_at, next_empty, next_few, next_named, next_used, one_freed, own_at}
use Rattle.vt_upper.proofs.NamesListed.{IsEntryAt}
use Rattle.vt_upper.proofs.leaving.Leaving.empty.Goals as goal
use Rattle.vt_upper.proofs.leaving.Leaving.empty.Goals.{After-index-in-loop-index}

pub loop-index-init : goal.loop-index-init
loop-index-init c = record {
  changes = nothing_changes c.args.self.now.object.filesystem.count c.args.trees.now;
  promised = refl;
}

pub index-requires-in-loop-index : goal.index-requires-in-loop-index
index-requires-in-loop-index c =
    let names = as_many_names c.args.trees.now c.args.self.now c.requires.known in
    let inodes = as_many_inodes c.args.trees.now c.args.self.now c.requires.known in
    let counted = c.args.self.now.names.ok.0 in
    let counted_inodes = c.args.self.now.inodes.ok.0 in
    let test = c.loop-index-test.true in
    let end = c.len-index-end.ensures in omega (arith, names, inodes, counted, counted_inodes, test, end)

module _ (c : After-index-in-loop-index) where
  abbrev f : ℕ
  f = c.args.self.now.object.filesystem.count

  abbrev h : ℕ
  h = inode_of c.args.self.now.object

  abbrev k : ℕ
  k = c.loop-index.index

  abbrev trees : Filesystems
  trees = c.args.trees.now

  abbrev listed : Entries ℕ
  listed = entries_in ((files_at trees f).tree.node h)

  abbrev word : List ℕ
  word = c.index.result.now.items

  abbrev o : ℕ
  o = inode_of c.index-in-loop-index.result.now

  within : k < length c.args.self.now.names.items
  within =
      let counted = c.args.self.now.names.ok.0 in
      let test = c.loop-index-test.true in
      let end = c.len-index-end.ensures in omega (arith, counted, test, end)

  within_inodes : k < length c.args.self.now.inodes.items
  within_inodes =
      let names = as_many_names trees c.args.self.now c.requires.known in
      let inodes = as_many_inodes trees c.args.self.now c.requires.known in
      let few = within in omega (arith, names, inodes, few)

  at : IsEntryAt listed k word o
  at = known_at trees c.args.self.now c.requires.known k c.index.result.now c.index-in-loop-index.result.now within
      c.index.ensures c.index-in-loop-index.ensures

pub free_one-requires-clause-filesystem : goal.free_one-requires-clause-filesystem
free_one-requires-clause-filesystem c =
    let here = (goal.at.free_one-requires-clause-filesystem c).After-index-in-loop-index in
    own_at (trees here) c.args.self.now c.requires.known (k here) c.index-in-loop-index.result.now (within_inodes here)
    c.index-in-loop-index.ensures

pub free_one-requires-clause-named : goal.free_one-requires-clause-named
free_one-requires-clause-named c =
    let here = (goal.at.free_one-requires-clause-named c).After-index-in-loop-index in
    ap (λ w. entry_at (files_at c.loop-index.trees (f here)).tree (h here) w) c.deref.ensures.value
    ∙ next_named (trees here) c.loop-index.trees (f here) (h here) (k here) (o here) (word here) c.requires.used
    c.requires.emptied (at here) c.loop-index.invariant.changes

pub free_one-requires-clause-empty : goal.free_one-requires-clause-empty
free_one-requires-clause-empty c =
    let here = (goal.at.free_one-requires-clause-empty c).After-index-in-loop-index in
    next_empty (trees here) c.loop-index.trees (f here) (h here) (k here) (o here) (word here) c.requires.used
    c.requires.emptied (at here) c.loop-index.invariant.changes

pub free_one-requires-clause-used : goal.free_one-requires-clause-used
free_one-requires-clause-used c =
    let here = (goal.at.free_one-requires-clause-used c).After-index-in-loop-index in
    next_used (trees here) c.loop-index.trees (f here) (h here) (k here) (o here) (word here) c.requires.used
    c.requires.emptied (at here) c.loop-index.invariant.changes

pub free_one-requires-clause-few : goal.free_one-requires-clause-few
free_one-requires-clause-few c =
    let here = (goal.at.free_one-requires-clause-few c).After-index-in-loop-index in
    next_few (trees here) c.loop-index.trees (f here) (h here) (k here) (o here) (word here) c.requires.used
    c.requires.emptied (at here) c.loop-index.invariant.changes

pub loop-index-preserved : goal.loop-index-preserved
loop-index-preserved c =
    let here = (goal.at.loop-index-preserved c).After-index-in-loop-index in
    record {
      changes = one_freed (trees here) c.loop-index.trees (f here) (h here) (k here) (o here) (word here) c.requires.used
          c.requires.emptied (at here) c.loop-index.invariant.changes c.free_one.new.trees
          (subst (λ w. ChangesInodes (f here) (λ inodes. freed_once (h here) inodes (w, o here)) c.loop-index.trees
          c.free_one.new.trees) c.deref.ensures.value c.free_one.ensures.freed);
      promised = c.free_one.ensures.promised ∙ c.loop-index.invariant.promised;
    }

pub returns-clause-emptied : goal.returns-clause-emptied
returns-clause-emptied c =
    let trees = c.args.trees.now in
    let f = c.args.self.now.object.filesystem.count in
    let h = inode_of c.args.self.now.object in
    let listed = entries_in ((files_at trees f).tree.node h) in
    let names = as_many_names trees c.args.self.now c.requires.known in
    let counted = c.args.self.now.names.ok.0 in
    let test = c.loop-index-test.false in
    let end = c.len-index-end.ensures in
    let past : length listed ≤ c.loop-index.index = omega (arith, names, counted, test, end) in
    subst (λ front. ChangesInodes f (λ inodes. folded (freed_once h) inodes front) trees c.loop-index.trees)
    (take_all c.loop-index.index listed past) c.loop-index.invariant.changes
