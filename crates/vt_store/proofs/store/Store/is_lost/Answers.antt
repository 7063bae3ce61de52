use Rattle.std.proofs.Common.{ap, nat_eq, not, option_copied, subst, sym, ℕ, ◌||◌, ◌∙◌}
use Rattle.vt_spec.proofs.Common.{FileTree, is_directory_under, is_removed}
use Rattle.vt_location.specs.Locations.{number_of}
use Rattle.vt_fs.specs.Laws.{LieUnderRoot, ParentsAreNamed, is_lost_under}
use Rattle.vt_store.specs.StoreValue.{StoreValue, files_in}
use Rattle.vt_store.proofs.Looked.{over_files, over_stands, plain_files}
use Rattle.vt_store.proofs.store.Store.is_lost.Goals as goal

pub is_removed-requires-clause-standing : goal.is_removed-requires-clause-standing
is_removed-requires-clause-standing c =
    over_stands c.args.self.now c.self.inside.plain (ap (λ (store : StoreValue). store.plain) c.self.view_is)
    c.args.root.filesystem.count c.in-Some.overlay.now (sym c.overlay.ensures.value ∙ ap option_copied c.in-Some.is)
    c.requires.standing

pub is_under-requires-clause-standing : goal.is_under-requires-clause-standing
is_under-requires-clause-standing c =
    over_stands c.args.self.now c.self.inside.plain (ap (λ (store : StoreValue). store.plain) c.self.view_is)
    c.args.root.filesystem.count c.in-Some.overlay.now (sym c.overlay.ensures.value ∙ ap option_copied c.in-Some.is)
    c.requires.standing

pub is_lost-requires-clause-named : goal.is_lost-requires-clause-named
is_lost-requires-clause-named c = subst (λ (files : FileTree ℕ). ParentsAreNamed files.tree)
    (sym (plain_files c.args.self.now c.self.inside.plain (ap (λ (store : StoreValue). store.plain) c.self.view_is)
    c.args.root.filesystem.count (sym c.overlay.ensures.value ∙ ap option_copied c.in-None.is))) c.requires.named

pub is_lost-requires-clause-rooted : goal.is_lost-requires-clause-rooted
is_lost-requires-clause-rooted c = subst LieUnderRoot
    (sym (plain_files c.args.self.now c.self.inside.plain (ap (λ (store : StoreValue). store.plain) c.self.view_is)
    c.args.root.filesystem.count (sym c.overlay.ensures.value ∙ ap option_copied c.in-None.is))) c.requires.rooted

pub returns-then-is_removed : goal.returns-then-is_removed
returns-then-is_removed c =
    let files = files_in c.args.self.now c.args.root.filesystem.count in
    let same = over_files c.args.self.now c.self.inside.plain (ap (λ (store : StoreValue). store.plain) c.self.view_is)
    c.args.root.filesystem.count c.in-Some.overlay.now (sym c.overlay.ensures.value ∙ ap option_copied c.in-Some.is) in
    c.if-is_removed.true
    ∙ ap (λ b. b || not (is_directory_under nat_eq files (number_of c.args.root) (number_of c.args.directory)))
    (sym c.if-is_removed.true ∙ c.is_removed.ensures
    ∙ ap (λ (files : FileTree ℕ). is_removed nat_eq files.tree (number_of c.args.directory)) same)

pub returns-else-is_removed : goal.returns-else-is_removed
returns-else-is_removed c =
    let files = files_in c.args.self.now c.args.root.filesystem.count in
    let same = over_files c.args.self.now c.self.inside.plain (ap (λ (store : StoreValue). store.plain) c.self.view_is)
    c.args.root.filesystem.count c.in-Some.overlay.now (sym c.overlay.ensures.value ∙ ap option_copied c.in-Some.is) in
    ap not (c.is_under.ensures
    ∙ ap (λ (files : FileTree ℕ). is_directory_under nat_eq files (number_of c.args.root) (number_of c.args.directory))
    same) ∙ ap (λ b. b || not (is_directory_under nat_eq files (number_of c.args.root) (number_of c.args.directory)))
    (sym c.if-is_removed.false ∙ c.is_removed.ensures
    ∙ ap (λ (files : FileTree ℕ). is_removed nat_eq files.tree (number_of c.args.directory)) same)

pub returns-in-None : goal.returns-in-None
returns-in-None c = c.is_lost.ensures
    ∙ ap (λ (files : FileTree ℕ). is_lost_under files (number_of c.args.root) (number_of c.args.directory))
    (plain_files c.args.self.now c.self.inside.plain (ap (λ (store : StoreValue). store.plain) c.self.view_is)
    c.args.root.filesystem.count (sym c.overlay.ensures.value ∙ ap option_copied c.in-None.is))
