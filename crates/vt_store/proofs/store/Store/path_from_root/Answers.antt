use Rattle.std.proofs.Common.{IfOk, ap, map, nat_eq, option_copied, option_map, refl, subst, sym, ℕ, ◌≡◌, ◌∙◌, IfSome}
use Rattle.vt_spec.proofs.Common.{FileTree, path_down}
use Rattle.vt_location.specs.Locations.{number_of}
use Rattle.vt_fs.specs.Trees.Paths.{NamesDirectoriesOnce}
use Rattle.vt_layered.specs.LayeredTree.{layered_files}
use Rattle.vt_store.specs.StoreValue.{StoreValue}
use Rattle.vt_store.proofs.Looked.{over_files, over_stands, plain_files}
use Rattle.vt_store.proofs.store.Store.path_from_root.Goals as goal

pub unwrap-root-requires : goal.unwrap-root-requires
unwrap-root-requires c =
    c.root.ensures.some (over_stands c.args.self.now c.args.self.now.plain refl c.args.directory.filesystem.count
    c.in-Some.overlay.now (sym c.overlay.ensures.value ∙ ap option_copied c.in-Some.is) c.requires.standing).some

pub path_down-requires-clause-standing : goal.path_down-requires-clause-standing
path_down-requires-clause-standing c =
    over_stands c.args.self.now c.self.inside.plain (ap (λ (store : StoreValue). store.plain) c.self.view_is)
    c.args.directory.filesystem.count c.in-Some.overlay.now
    (sym c.overlay.ensures.value ∙ ap option_copied c.in-Some.is) c.requires.standing

pub path_down-requires-clause-one_filesystem : goal.path_down-requires-clause-one_filesystem
path_down-requires-clause-one_filesystem c =
    let stands = over_stands c.args.self.now c.self.inside.plain (ap (λ (store : StoreValue). store.plain) c.self.view_is)
    c.args.directory.filesystem.count c.in-Some.overlay.now
    (sym c.overlay.ensures.value ∙ ap option_copied c.in-Some.is) c.requires.standing in
    subst (λ root. IfSome root (λ one. one.filesystem ≡ c.in-Some.overlay.now.overlay.number)) c.unwrap-root.ensures
    (c.root.ensures.own c.self.inside.plain stands)

pub returns-in-Some : goal.returns-in-Some
returns-in-Some c =
    let is = sym c.overlay.ensures.value ∙ ap option_copied c.in-Some.is in
    let same = ap (λ (store : StoreValue). store.plain) c.self.view_is in
    let root = subst (λ root. IfSome root (λ one. number_of one
    ≡ (layered_files c.self.inside.plain c.in-Some.overlay.now.overlay c.in-Some.overlay.now.above).tree.root)) c.unwrap-root.ensures
    (c.root.ensures.root c.self.inside.plain
    (over_stands c.args.self.now c.self.inside.plain same c.args.directory.filesystem.count c.in-Some.overlay.now is
    c.requires.standing)) in record {
      ok = subst (λ (files : FileTree ℕ). IfOk c.path_down.result
          (λ path. option_map (λ names. map (λ name. name.items) names.items) path
          ≡ path_down nat_eq files files.tree.root (number_of c.args.directory)))
          (over_files c.args.self.now c.self.inside.plain same c.args.directory.filesystem.count c.in-Some.overlay.now
          is) (subst (λ (number : ℕ). IfOk c.path_down.result
          (λ path. option_map (λ names. map (λ name. name.items) names.items) path
          ≡ path_down nat_eq (layered_files c.self.inside.plain c.in-Some.overlay.now.overlay
          c.in-Some.overlay.now.above) number
          (number_of c.args.directory))) root c.path_down.ensures);
    }

pub path_from_root-requires : goal.path_from_root-requires
path_from_root-requires c = subst (λ (files : FileTree ℕ). NamesDirectoriesOnce files.tree)
    (sym (plain_files c.args.self.now c.self.inside.plain (ap (λ (store : StoreValue). store.plain) c.self.view_is)
    c.args.directory.filesystem.count (sym c.overlay.ensures.value ∙ ap option_copied c.in-None.is))) c.requires.once

pub returns-in-None : goal.returns-in-None
returns-in-None c = record {
  ok = subst (λ (files : FileTree ℕ). IfOk c.path_from_root.result
      (λ path. option_map (λ names. map (λ name. name.items) names.items) path
      ≡ path_down nat_eq files files.tree.root (number_of c.args.directory)))
      (plain_files c.args.self.now c.self.inside.plain (ap (λ (store : StoreValue). store.plain) c.self.view_is)
      c.args.directory.filesystem.count (sym c.overlay.ensures.value ∙ ap option_copied c.in-None.is))
      c.path_from_root.ensures.ok;
}
