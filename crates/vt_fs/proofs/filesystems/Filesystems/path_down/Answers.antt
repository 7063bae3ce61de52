use Rattle.std.proofs.Common.{◌≡◌, sym, subst, ◌∙◌, IfOk, List, ℕ, Option, map, option_map}
use Rattle.vt_location.specs.Locations.{number_of}
use Rattle.vt_fs.specs.FilesystemsValue.{files_at}
use Rattle.vt_fs.proofs.Nowhere.{no_inode_there, over_none, path_to_itself, under_none}
use Rattle.vt_fs.proofs.PathsFound.{once_there, path_is}
use Rattle.vt_fs.proofs.filesystems.Filesystems.path_down.Goals as goal

pub path_down-requires : goal.path_down-requires
path_down-requires c =
    once_there c.args.self.now c.args.top.filesystem.count c.in-Some.tree.now (sym c.in-Some.ensures) c.requires.once

pub returns-in-Some-slot_in-2 : goal.returns-in-Some-slot_in-2
returns-in-Some-slot_in-2 c = record {
  ok = let f = c.args.top.filesystem.count in
      subst (λ (found : Option (List (List ℕ))). IfOk c.path_down.result
      (λ path. option_map (λ names. map (λ name. name.items) names.items) path ≡ found))
      (path_is c.args.self.now f c.in-Some.tree.now (sym c.in-Some.ensures) c.in-Some-slot_in.upper _
      c.in-Some-slot_in-2.lower _ c.in-Some-slot_in.ensures.number c.in-Some-slot_in-2.ensures.number)
      c.path_down.ensures;
}

pub returns-in_default-slot_in : goal.returns-in_default-slot_in
returns-in_default-slot_in c = record {
  ok = let f = c.args.top.filesystem.count in
      let top = number_of c.args.top in
      let directory = number_of c.args.directory in
      let none = no_inode_there c.args.self.now f c.in-Some.tree.now (sym c.in-Some.ensures) top
      (c.slot_in.ensures.nowhere c.in_default-slot_in.is) in
      c.path_to_itself-in_default-slot_in.ensures
      ∙ sym (path_to_itself (files_at c.args.self.now f) top directory
      (over_none c.args.self.now f top none directory));
}

pub returns-in-None : goal.returns-in-None
returns-in-None c = record {
  ok = let f = c.args.top.filesystem.count in
      let top = number_of c.args.top in
      let directory = number_of c.args.directory in
      let none = no_inode_there c.args.self.now f c.in-Some.tree.now (sym c.in-Some.ensures) directory
      (c.slot_in-2.ensures.nowhere c.in-None.is) in
      c.path_to_itself-in-None.ensures
      ∙ sym (path_to_itself (files_at c.args.self.now f) top directory
      (under_none c.args.self.now f directory none top));
}
