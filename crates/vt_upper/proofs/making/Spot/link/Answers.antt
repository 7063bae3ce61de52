use Rattle.std.proofs.Common.{◌≡◌, ◌∙◌, ap, IfSome, List, map, nat_eq, option_map, Option, Some, subst, sym, ℕ}
use Rattle.vt_spec.proofs.Common.{AddName, Entries, Inodes, entries_in, entry_at}
use Rattle.vt_spec.specs.FileTree.{targets_in}
use Rattle.vt_spec.specs.Inodes.{changed}
use Rattle.vt_copyup.proofs.Changed.{changes_then}
use Rattle.vt_fs.specs.FilesystemsValue.{ChangesInodes, Filesystems, files_at}
use Rattle.vt_location.specs.declared.numbers.FilesystemId.{FilesystemId}
use Rattle.vt_location.specs.Locations.{inode_of}
use Rattle.vt_upper.specs.declared.leaving.Leaving.{Leaving}
use Rattle.vt_upper.specs.Leaving.{freed, let_go, let_go_of, within_of}
use Rattle.vt_upper.specs.Linking.{IsWhiteAt, linked_over}
use Rattle.vt_upper.specs.New.{MayBeFreed, object_in}
use Rattle.vt_upper.proofs.FreedTrees.{IsFreed, free_after, still_directory}
use Rattle.vt_upper.proofs.NamesKept.{linkable_after}
use Rattle.vt_upper.proofs.making.Spot.link.Goals as goal
use Rattle.vt_upper.proofs.making.Spot.link.Goals.{After-free}

-- nothing has the name
pub add_name-requires : goal.add_name-requires
add_name-requires c = record {
  directory = c.requires.name.directory_there;
  free = c.requires.name.leads ∙ ap (option_map object_in) c.in_default.is;
  linkable = c.requires.linkable;
}

pub returns-in_default : goal.returns-in_default
returns-in_default c =
    let trees = c.args.trees.now in
    let f = c.args.self.directory.filesystem.count in
    let d = inode_of c.args.self.directory in
    subst (λ (o : Option Leaving). ChangesInodes f (linked_over c.args.self.keeps c.args.name.items
    (option_map object_in o) (within_of (files_at trees f).tree (option_map object_in o)) d
    (inode_of c.args.linked.object)) trees c.add_name.new.trees) (sym c.in_default.is) c.add_name.ensures

-- what has it leaves
module _ (c : After-free) where
  abbrev trees : Filesystems
  trees = c.args.trees.now

  abbrev freed_trees : Filesystems
  freed_trees = c.free.new.trees

  abbrev f : ℕ
  f = c.args.self.directory.filesystem.count

  abbrev d : ℕ
  d = inode_of c.args.self.directory

  abbrev h : ℕ
  h = inode_of c.in-Some.leaving.object

  abbrev name : List ℕ
  name = c.args.name.items

  abbrev within : Entries ℕ
  within = entries_in ((files_at trees f).tree.node h)

  may : MayBeFreed trees c.args.self.directory c.in-Some.leaving
  may = subst (λ o. IfSome o (MayBeFreed trees c.args.self.directory)) c.in-Some.is c.requires.name.leaves

  gone : ChangesInodes f (freed d name (Some h) within) trees freed_trees
  gone = subst (λ n. ChangesInodes f (freed d n (Some h) within) trees freed_trees) c.deref.ensures.value
      c.free.ensures.freed

  is : IsFreed trees freed_trees f d h name
  is = record {
    directory = c.requires.name.directory_there;
    named = c.requires.name.leads ∙ ap (option_map object_in) c.in-Some.is;
    other = may.other;
    used = c.requires.name.used;
    may = may.emptied;
    changes = gone;
  }

pub free-requires : goal.free-requires
free-requires c =
    let trees = c.args.trees.now in
    let f = c.args.self.directory.filesystem.count in
    let d = inode_of c.args.self.directory in
    let may = subst (λ o. IfSome o (MayBeFreed trees c.args.self.directory)) c.in-Some.is c.requires.name.leaves in
    record {
      filesystem = may.filesystem;
      directory = c.requires.name.directory_there;
      named = ap (λ n. entry_at (files_at trees f).tree d n) c.deref.ensures.value ∙ c.requires.name.leads
          ∙ ap (option_map object_in) c.in-Some.is;
      known = may.known;
      used = c.requires.name.used;
      other = may.other;
      emptied = may.emptied;
    }

pub add_name-requires-2 : goal.add_name-requires-2
add_name-requires-2 c =
    let at = (goal.at.add_name-requires-2 c).After-free in
    let white = subst (λ (o : Option Leaving). IsWhiteAt (trees at) (record {
      directory = c.args.self.directory;
      leaving = o;
      keeps = c.args.self.keeps;
    }) (inode_of c.args.linked.object)) c.in-Some.is c.requires.white in
    record {
      directory = still_directory (trees at) (freed_trees at) (f at) (d at) (h at) (name at) (is at);
      free = free_after (trees at) (freed_trees at) (f at) (d at) (h at) (name at) (is at);
      linkable = linkable_after (trees at) (freed_trees at) c.args.self.directory (h at) (name at) (is at) c.args.linked
          white.0 white.1 c.args.room.now c.requires.linkable;
    }

pub let_go-requires : goal.let_go-requires
let_go-requires c = record { own = (may (goal.at.let_go-requires c).After-free).known.own }

pub returns : goal.returns
returns c =
    let at = (goal.at.returns c).After-free in
    let o = inode_of c.args.linked.object in
    let new = c.let_go.new.trees in
    let leaving = c.in-Some.leaving in
    let keeps = c.args.self.keeps in
    let linked = c.add_name-2.new.trees in
    let held : map inode_of leaving.inodes.items ≡ map (λ (e : List ℕ × ℕ). e.1) (within at) =
    (may at).known.inodes
    ∙ ap (λ (id : FilesystemId). targets_in ((files_at (trees at) id.count).tree.node (h at))) (may at).filesystem in
    let last : ChangesInodes (f at) (let_go (let_go_of keeps (map (λ (e : List ℕ × ℕ). e.1) (within at)) (h at)))
    linked new =
    subst (λ l. ChangesInodes (f at) (let_go (let_go_of keeps l (h at))) linked new) held
    (subst (λ (id : FilesystemId). ChangesInodes id.count (let_go (let_go_of keeps (map inode_of leaving.inodes.items)
    (h at))) linked new) (may at).filesystem c.let_go.ensures) in
    let first = changes_then (f at) (freed (d at) (name at) (Some (h at)) (within at))
    (λ inodes. changed nat_eq inodes (AddName (d at) (name at) o)) (trees at) (freed_trees at) linked
    (is at).changes c.add_name-2.ensures in
    let all = changes_then (f at)
    (λ (inodes : Inodes ℕ). changed nat_eq (freed (d at) (name at) (Some (h at)) (within at) inodes)
    (AddName (d at) (name at) o)) (let_go (let_go_of keeps (map (λ (e : List ℕ × ℕ). e.1) (within at)) (h at)))
    (trees at) linked new first last in
    subst (λ (o' : Option Leaving). ChangesInodes (f at) (linked_over keeps (name at) (option_map object_in o')
    (within_of (files_at (trees at) (f at)).tree (option_map object_in o')) (d at) o) (trees at) new)
    (sym c.in-Some.is) all
