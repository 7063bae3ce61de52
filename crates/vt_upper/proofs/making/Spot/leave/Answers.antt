use Rattle.std.proofs.Common.{◌≡◌, ◌∙◌, ap, IfSome, List, map, option_map, Option, Some, subst, sym, ℕ}
use Rattle.vt_spec.proofs.Common.{entries_in}
use Rattle.vt_spec.specs.FileTree.{targets_in}
use Rattle.vt_copyup.proofs.Changed.{changes_then, nothing_changes}
use Rattle.vt_fs.specs.FilesystemsValue.{ChangesInodes, files_at}
use Rattle.vt_location.specs.declared.numbers.FilesystemId.{FilesystemId}
use Rattle.vt_location.specs.Locations.{inode_of}
use Rattle.vt_upper.specs.declared.leaving.Leaving.{Leaving}
use Rattle.vt_upper.specs.Leaving.{freed, gone_from, let_go, let_go_of, within_of}
use Rattle.vt_upper.specs.New.{MayBeFreed, object_in}
use Rattle.vt_upper.proofs.making.Spot.leave.Goals as goal

pub returns-in_default : goal.returns-in_default
returns-in_default c =
    let trees = c.args.trees.now in
    let f = c.args.self.directory.filesystem.count in
    let d = inode_of c.args.self.directory in
    subst (λ (o : Option Leaving). ChangesInodes f (gone_from c.args.self.keeps c.args.name.now (option_map object_in o)
    (within_of (files_at trees f).tree (option_map object_in o)) d) trees trees) (sym c.in_default.is)
    (nothing_changes f trees)

pub free-requires : goal.free-requires
free-requires c =
    let trees = c.args.trees.now in
    let may = subst (λ o. IfSome o (MayBeFreed trees c.args.self.directory)) c.in-Some.is c.requires.leaves in
    record {
      filesystem = may.filesystem;
      directory = c.requires.directory_there;
      named = c.requires.leads ∙ ap (option_map object_in) c.in-Some.is;
      known = may.known;
      used = c.requires.used;
      other = may.other;
      emptied = may.emptied;
    }

pub let_go-requires : goal.let_go-requires
let_go-requires c =
    let may = subst (λ o. IfSome o (MayBeFreed c.args.trees.now c.args.self.directory)) c.in-Some.is c.requires.leaves in
    record { own = may.known.own }

pub returns : goal.returns
returns c =
    let trees = c.args.trees.now in
    let leaving = c.in-Some.leaving in
    let keeps = c.args.self.keeps in
    let f = c.args.self.directory.filesystem.count in
    let d = inode_of c.args.self.directory in
    let h = inode_of leaving.object in
    let name = c.args.name.now in
    let within = entries_in ((files_at trees f).tree.node h) in
    let new = c.let_go.new.trees in
    let may = subst (λ o. IfSome o (MayBeFreed trees c.args.self.directory)) c.in-Some.is c.requires.leaves in
    let held : map inode_of leaving.inodes.items ≡ map (λ (e : List ℕ × ℕ). e.1) within =
    may.known.inodes
    ∙ ap (λ (id : FilesystemId). targets_in ((files_at trees id.count).tree.node h)) may.filesystem in
    let gone : ChangesInodes f (let_go (let_go_of keeps (map (λ (e : List ℕ × ℕ). e.1) within) h)) c.free.new.trees new =
    subst (λ l. ChangesInodes f (let_go (let_go_of keeps l h)) c.free.new.trees new) held
    (subst (λ (id : FilesystemId). ChangesInodes id.count (let_go (let_go_of keeps (map inode_of leaving.inodes.items) h))
    c.free.new.trees new) may.filesystem c.let_go.ensures) in
    subst (λ (o : Option Leaving). ChangesInodes f (gone_from keeps name (option_map object_in o)
    (within_of (files_at trees f).tree (option_map object_in o)) d) trees new) (sym c.in-Some.is)
    (changes_then f (freed d name (Some h) within) (let_go (let_go_of keeps (map (λ (e : List ℕ × ℕ). e.1) within) h)) trees
    c.free.new.trees new c.free.ensures.freed gone)
