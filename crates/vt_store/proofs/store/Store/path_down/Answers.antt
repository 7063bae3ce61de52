use Rattle.std.proofs.Common.{IfOk, ap, arith, map, nat_eq, option_copied, option_map, refl, rules, subst, sym, ℕ, ◌≡◌, ◌∙◌}
use Rattle.vt_spec.proofs.Common.{FileTree, path_down}
use Rattle.vt_location.specs.Locations.{number_of}
use Rattle.vt_location.specs.declared.numbers.FilesystemId.{FilesystemId}
use Rattle.vt_fs.specs.Trees.Paths.{NamesDirectoriesOnce}
use Rattle.vt_store.specs.StoreValue.{StoreValue}
use Rattle.vt_store.proofs.Looked.{over_files, over_stands, plain_files}
use Rattle.vt_store.proofs.NumbersOwned.{no_path}
use Rattle.vt_store.proofs.store.Store.path_down.Goals as goal

pub path_down-requires : goal.path_down-requires
path_down-requires c = record {
  once = subst (λ (files : FileTree ℕ). NamesDirectoriesOnce files.tree)
      (sym (plain_files c.args.self.now c.self.inside.plain (ap (λ (store : StoreValue). store.plain) c.self.view_is)
      c.args.top.filesystem.count (sym c.overlay.ensures.value ∙ ap option_copied c.in_default.is))) c.requires.once;
}

pub returns-in_default : goal.returns-in_default
returns-in_default c = record {
  ok = subst (λ (files : FileTree ℕ). IfOk c.path_down.result
      (λ path. option_map (λ names. map (λ name. name.items) names.items) path
      ≡ path_down nat_eq files (number_of c.args.top) (number_of c.args.directory)))
      (plain_files c.args.self.now c.self.inside.plain (ap (λ (store : StoreValue). store.plain) c.self.view_is)
      c.args.top.filesystem.count (sym c.overlay.ensures.value ∙ ap option_copied c.in_default.is))
      c.path_down.ensures.ok;
}

pub returns-then-ne : goal.returns-then-ne
returns-then-ne c = record {
  ok = sym (no_path c.args.self.now c.args.top.filesystem.count (omega arith) c.requires.standing c.in-Some.overlay.now
      (sym c.overlay.ensures.value ∙ ap option_copied c.in-Some.is)
      (ap (λ (id : FilesystemId). id.count) c.in-Some.ensures.own) c.args.top c.args.directory
      (search rules) (search rules) refl (search rules));
}

pub path_down-requires-2-clause-standing : goal.path_down-requires-2-clause-standing
path_down-requires-2-clause-standing c =
    over_stands c.args.self.now c.self.inside.plain (ap (λ (store : StoreValue). store.plain) c.self.view_is)
    c.args.top.filesystem.count c.in-Some.overlay.now (sym c.overlay.ensures.value ∙ ap option_copied c.in-Some.is)
    c.requires.standing

pub returns : goal.returns
returns c = record {
  ok = subst (λ (files : FileTree ℕ). IfOk c.path_down-2.result
      (λ path. option_map (λ names. map (λ name. name.items) names.items) path
      ≡ path_down nat_eq files (number_of c.args.top) (number_of c.args.directory)))
      (over_files c.args.self.now c.self.inside.plain (ap (λ (store : StoreValue). store.plain) c.self.view_is)
      c.args.top.filesystem.count c.in-Some.overlay.now (sym c.overlay.ensures.value ∙ ap option_copied c.in-Some.is))
      c.path_down-2.ensures;
}
