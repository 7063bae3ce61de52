use Rattle.std.proofs.Common.{◌≡◌, sym, subst, IfOk, List, ℕ, Option, nat_eq, map, option_map}
use Rattle.vt_spec.proofs.Common.{path_down}
use Rattle.vt_location.specs.declared.numbers.FilesystemId.{FilesystemId}
use Rattle.vt_location.specs.Locations.{number_of}
use Rattle.vt_fs.specs.Trees.Paths.{NamesDirectoriesOnce}
use Rattle.vt_fs.specs.FilesystemsValue.{files_at}
use Rattle.vt_fs.proofs.PathsFound.{root_is}
use Rattle.vt_fs.proofs.filesystems.Filesystems.path_from_root.Goals as goal

pub path_down-requires : goal.path_down-requires
path_down-requires c = record {
  once = subst (λ (filesystem : FilesystemId). NamesDirectoriesOnce (files_at c.args.self.now filesystem.count).tree)
      (sym c.in-Some.ensures.filesystem) c.requires;
}

pub returns-in-Some : goal.returns-in-Some
returns-in-Some c = record {
  ok = subst (λ (found : Option (List (List ℕ))). IfOk c.path_down.result
      (λ path. option_map (λ names. map (λ name. name.items) names.items) path ≡ found))
      (λ i. path_down nat_eq (files_at c.args.self.now (c.in-Some.ensures.filesystem i).count)
      (sym (root_is c.args.self.now c.args.directory.filesystem.count c.in-Some.root c.in-Some.ensures.number) i)
      (number_of c.args.directory)) c.path_down.ensures.ok;
}
