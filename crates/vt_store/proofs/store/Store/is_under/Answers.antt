use Rattle.std.proofs.Common.{ap, option_copied, subst, sym, ℕ, ◌∙◌, nat_eq}
use Rattle.vt_spec.proofs.Common.{FileTree, is_directory_under}
use Rattle.vt_location.specs.Locations.{number_of}
use Rattle.vt_fs.specs.Laws.{ParentsAreNamed}
use Rattle.vt_store.specs.StoreValue.{StoreValue}
use Rattle.vt_store.proofs.Looked.{over_files, over_stands, plain_files}
use Rattle.vt_store.proofs.store.Store.is_under.Goals as goal

pub is_under-requires-clause-standing : goal.is_under-requires-clause-standing
is_under-requires-clause-standing c =
    over_stands c.args.self.now c.self.inside.plain (ap (λ (store : StoreValue). store.plain) c.self.view_is)
    c.args.top.filesystem.count c.in-Some.overlay.now (sym c.overlay.ensures.value ∙ ap option_copied c.in-Some.is)
    c.requires.standing

pub returns-in-Some : goal.returns-in-Some
returns-in-Some c = c.is_under.ensures
    ∙ ap (λ (files : FileTree ℕ). is_directory_under nat_eq files (number_of c.args.top) (number_of c.args.directory))
    (over_files c.args.self.now c.self.inside.plain (ap (λ (store : StoreValue). store.plain) c.self.view_is)
    c.args.top.filesystem.count c.in-Some.overlay.now (sym c.overlay.ensures.value ∙ ap option_copied c.in-Some.is))

pub returns-in-None : goal.returns-in-None
returns-in-None c = c.is_under-in-None.ensures
    ∙ ap (λ (files : FileTree ℕ). is_directory_under nat_eq files (number_of c.args.top) (number_of c.args.directory))
    (plain_files c.args.self.now c.self.inside.plain (ap (λ (store : StoreValue). store.plain) c.self.view_is)
    c.args.top.filesystem.count (sym c.overlay.ensures.value ∙ ap option_copied c.in-None.is))

pub is_under-requires-in-None-clause-named : goal.is_under-requires-in-None-clause-named
is_under-requires-in-None-clause-named c = subst (λ (files : FileTree ℕ). ParentsAreNamed files.tree)
    (sym (plain_files c.args.self.now c.self.inside.plain (ap (λ (store : StoreValue). store.plain) c.self.view_is)
    c.args.top.filesystem.count (sym c.overlay.ensures.value ∙ ap option_copied c.in-None.is))) c.requires.named
