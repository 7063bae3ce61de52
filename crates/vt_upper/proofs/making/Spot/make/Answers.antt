use Rattle.std.proofs.Common.{◌≡◌, ◌∙◌, ap, arith, IfSome, List, map, nat_eq, option_map, Option, Some, subst, sym, ℕ}
use Rattle.vt_spec.proofs.Common.{Entries, Inodes, Make, entries_in, entry_at}
use Rattle.vt_spec.specs.FileTree.{targets_in}
use Rattle.vt_spec.specs.Inodes.{changed}
use Rattle.vt_copyup.proofs.Changed.{changes_then}
use Rattle.vt_fs.specs.FilesystemsValue.{ChangesInodes, Filesystems, files_at, inodes_at}
use Rattle.vt_laws_worlds.specs.Merging.UpperChanges.{copy_node}
use Rattle.vt_location.specs.declared.numbers.FilesystemId.{FilesystemId}
use Rattle.vt_location.specs.Locations.{inode_of}
use Rattle.vt_upper.specs.declared.leaving.Leaving.{Leaving}
use Rattle.vt_upper.specs.Leaving.{freed, let_go, let_go_of, made_over, within_of}
use Rattle.vt_upper.specs.New.{MayBeFreed, object_in}
use Rattle.vt_upper.proofs.FreedTrees.{IsFreed, entries_after, few_after, free_after, named_there, still_directory, vacant_before}
use Rattle.vt_upper.proofs.making.Spot.make.Goals as goal
use Rattle.vt_upper.proofs.making.Spot.make.Goals.{After-free}

-- nothing has the name
pub make-requires-clause-free : goal.make-requires-clause-free
make-requires-clause-free c = c.requires.name.leads ∙ ap (option_map object_in) c.in_default.is

pub make-requires-clause-entries : goal.make-requires-clause-entries
make-requires-clause-entries c =
    named_there (inodes_at c.args.trees.now c.args.self.directory.filesystem.count) c.requires.name.used

pub returns-in_default-clause-made : goal.returns-in_default-clause-made
returns-in_default-clause-made c =
    let trees = c.args.trees.now in
    let f = c.args.self.directory.filesystem.count in
    let d = inode_of c.args.self.directory in
    subst (λ (o : Option Leaving). ChangesInodes f (made_over c.args.self.keeps c.args.object.name.items
    (copy_node d c.args.object.node) (option_map object_in o) (within_of (files_at trees f).tree (option_map object_in o)) d (inode_of c.make.result)) trees
    c.make.new.trees) (sym c.in_default.is) c.make.ensures.made

-- what has it leaves
module _ (c : After-free) where
  abbrev trees : Filesystems
  trees = c.args.trees.now

  abbrev freed_trees : Filesystems
  freed_trees = c.free.new.trees

  abbrev f : ℕ
  f = c.args.self.directory.filesystem.count

  abbrev d : ℕ
  d = inode_of c.args.self.directory

  abbrev h : ℕ
  h = inode_of c.in-Some.leaving.object

  abbrev name : List ℕ
  name = c.args.object.name.items

  abbrev within : Entries ℕ
  within = entries_in ((files_at trees f).tree.node h)

  may : MayBeFreed trees c.args.self.directory c.in-Some.leaving
  may = subst (λ o. IfSome o (MayBeFreed trees c.args.self.directory)) c.in-Some.is c.requires.name.leaves

  gone : ChangesInodes f (freed d name (Some h) within) trees freed_trees
  gone = subst (λ n. ChangesInodes f (freed d n (Some h) within) trees freed_trees) c.deref.ensures.value
      c.free.ensures.freed

  is : IsFreed trees freed_trees f d h name
  is = record {
    directory = c.requires.name.directory_there;
    named = c.requires.name.leads ∙ ap (option_map object_in) c.in-Some.is;
    other = may.other;
    used = c.requires.name.used;
    may = may.emptied;
    changes = gone;
  }

pub free-requires : goal.free-requires
free-requires c =
    let trees = c.args.trees.now in
    let f = c.args.self.directory.filesystem.count in
    let d = inode_of c.args.self.directory in
    let may = subst (λ o. IfSome o (MayBeFreed trees c.args.self.directory)) c.in-Some.is c.requires.name.leaves in
    record {
      filesystem = may.filesystem;
      directory = c.requires.name.directory_there;
      named = ap (λ n. entry_at (files_at trees f).tree d n) c.deref.ensures.value ∙ c.requires.name.leads
          ∙ ap (option_map object_in) c.in-Some.is;
      known = may.known;
      used = c.requires.name.used;
      other = may.other;
      emptied = may.emptied;
    }

pub make-made-requires-clause-directory : goal.make-made-requires-clause-directory
make-made-requires-clause-directory c =
    let at = (goal.at.make-made-requires-clause-directory c).After-free in
    still_directory (trees at) (freed_trees at) (f at) (d at) (h at) (name at) (is at)

pub make-made-requires-clause-free : goal.make-made-requires-clause-free
make-made-requires-clause-free c =
    let at = (goal.at.make-made-requires-clause-free c).After-free in
    free_after (trees at) (freed_trees at) (f at) (d at) (h at) (name at) (is at)

pub make-made-requires-clause-entries : goal.make-made-requires-clause-entries
make-made-requires-clause-entries c =
    let at = (goal.at.make-made-requires-clause-entries c).After-free in
    entries_after (trees at) (freed_trees at) (f at) (d at) (h at) (name at) (is at)

pub make-made-requires-clause-promised : goal.make-made-requires-clause-promised
make-made-requires-clause-promised c =
    let same = c.free.ensures.promised in
    let some = c.requires.promised in omega (arith, same, some)

pub make-made-requires-clause-room : goal.make-made-requires-clause-room
make-made-requires-clause-room c =
    let at = (goal.at.make-made-requires-clause-room c).After-free in
    let few = few_after (trees at) (freed_trees at) (f at) (d at) (h at) (name at) (is at) in
    let room = c.requires.room in omega (arith, few, room)

pub let_go-requires : goal.let_go-requires
let_go-requires c = record { own = (may (goal.at.let_go-requires c).After-free).known.own }

pub returns-clause-made : goal.returns-clause-made
returns-clause-made c =
    let at = (goal.at.returns-clause-made c).After-free in
    let made = inode_of c.make-made.result in
    let node = copy_node (d at) c.args.object.node in
    let new = c.let_go.new.trees in
    let leaving = c.in-Some.leaving in
    let keeps = c.args.self.keeps in
    let held : map inode_of leaving.inodes.items ≡ map (λ (e : List ℕ × ℕ). e.1) (within at) =
    (may at).known.inodes
    ∙ ap (λ (id : FilesystemId). targets_in ((files_at (trees at) id.count).tree.node (h at))) (may at).filesystem in
    let gone : ChangesInodes (f at) (let_go (let_go_of keeps (map (λ (e : List ℕ × ℕ). e.1) (within at)) (h at)))
    c.make-made.new.trees new =
    subst (λ l. ChangesInodes (f at) (let_go (let_go_of keeps l (h at))) c.make-made.new.trees new) held
    (subst (λ (id : FilesystemId). ChangesInodes id.count (let_go (let_go_of keeps (map inode_of leaving.inodes.items)
    (h at)))
    c.make-made.new.trees new) (may at).filesystem c.let_go.ensures) in
    let first = changes_then (f at) (freed (d at) (name at) (Some (h at)) (within at))
    (λ inodes. changed nat_eq inodes (Make (d at) (name at) made node)) (trees at) (freed_trees at) c.make-made.new.trees
    (is at).changes c.make-made.ensures.made in
    let all = changes_then (f at)
    (λ (inodes : Inodes ℕ). changed nat_eq (freed (d at) (name at) (Some (h at)) (within at) inodes)
    (Make (d at) (name at) made node)) (let_go (let_go_of keeps (map (λ (e : List ℕ × ℕ). e.1) (within at)) (h at))) (trees at)
    c.make-made.new.trees new first gone in
    subst (λ (o : Option Leaving). ChangesInodes (f at) (made_over keeps (name at) node (option_map object_in o)
    (within_of (files_at (trees at) (f at)).tree (option_map object_in o)) (d at) made) (trees at) new)
    (sym c.in-Some.is) all

pub returns-clause-vacant : goal.returns-clause-vacant
returns-clause-vacant c =
    let at = (goal.at.returns-clause-vacant c).After-free in
    vacant_before (trees at) (freed_trees at) (f at) (d at) (h at) (name at) (is at) (inode_of c.make-made.result)
    c.make-made.ensures.vacant
