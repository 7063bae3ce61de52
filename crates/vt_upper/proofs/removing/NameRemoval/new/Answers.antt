use Rattle.std.proofs.Common.{[], ap, arith, IfSome, subst, sym, ◌+◌, ◌++◌, ◌∷◌, ◌≡◌, ◌≤◌, ◌∙◌}
use Rattle.vt_fs.specs.FilesystemsValue.{promising, with_changed}
use Rattle.vt_location.specs.declared.numbers.FilesystemId.{FilesystemId}
use Rattle.vt_upper.specs.Below.{is_shown_below}
use Rattle.vt_upper.specs.New.{IsRemovalReady, MayPutIn, many_in, one_if, start_of}
use Rattle.vt_upper_overlay.specs.MergedAbove.{upper_count}
use Rattle.vt_upper.proofs.PlacesFound.{may_take}
use Rattle.vt_upper.proofs.RemovalsReady.{removal_ready}
use Rattle.vt_upper.proofs.removing.NameRemoval.new.Goals as goal

pub place_for-requires-clause-may_put : goal.place_for-requires-clause-may_put
place_for-requires-clause-may_put c = subst (MayPutIn c.args.trees.now c.args.overlay.now c.args.at.directory)
    (sym c.deref-2.ensures.value) (may_take c.args.trees.now c.args.overlay.now c.requires.standing c.args.at.directory
    c.args.at.name.items c.requires.may_remove)

pub returns-clause-ready : goal.returns-clause-ready
returns-clause-ready c =
    let trees = c.args.trees.now in
    let births = c.args.overlay.now.nodes.births in
    let name = c.args.at.name.items in
    let place = c.in_ok-place.place in
    let hidden = c.hides_something-hidden.result in
    let n = c.copies-copies.result in
    let all = c.in-Some.inodes in
    let more : all ≡ many_in place + one_if hidden = subst (λ o. IfSome o (λ inodes. inodes ≡ n + one_if hidden))
    c.in-Some.is c.inodes_for.ensures ∙ ap (λ m. m + one_if hidden) c.copies-copies.ensures in
    let enough : many_in place ≤ n = omega (arith, c.copies-copies.ensures) in
    let inodes : c.promise.new.trees ≡ with_changed (start_of place).filesystem.count (promising all) trees =
    c.in_ok-promise.ensures.inodes
    ∙ ap (λ (id : FilesystemId). with_changed id.count (promising all) trees) c.filesystem.ensures in
    subst (λ b. IsRemovalReady hidden place name c.promise.new.trees b c.place_for.new.room)
    (sym c.in_ok-promise.ensures.births)
    (subst (λ t. IsRemovalReady hidden place name t (record births { promised = births.promised + n })
    c.place_for.new.room) (sym inodes)
    (subst (λ name. IsRemovalReady hidden place name
    (with_changed (start_of place).filesystem.count (promising all) trees)
    (record births { promised = births.promised + n }) c.place_for.new.room) c.deref-2.ensures.value
    (removal_ready place c.deref-2.result.now
    (with_changed (start_of place).filesystem.count (promising all) trees)
    (record births { promised = births.promised + n }) c.place_for.new.room all n
    (c.in_ok-place.ensures.ready all n c.requires.there) (c.in_ok-place.ensures.name_ready all n c.requires.there)
    hidden more enough)))

pub returns-clause-hidden : goal.returns-clause-hidden
returns-clause-hidden c = λ path upper lowers at is.
    c.hides_something-hidden.ensures path upper lowers at is
    ∙ ap (λ name. is_shown_below c.args.trees.now upper lowers (path ++ name ∷ [])) c.deref.ensures.value

pub returns-clause-inodes : goal.returns-clause-inodes
returns-clause-inodes c =
    let trees = c.args.trees.now in
    let place = c.in_ok-place.place in
    let hidden = c.hides_something-hidden.result in
    let n = c.copies-copies.result in
    let all = c.in-Some.inodes in
    let more : all ≡ many_in place + one_if hidden = subst (λ o. IfSome o (λ inodes. inodes ≡ n + one_if hidden))
    c.in-Some.is c.inodes_for.ensures ∙ ap (λ m. m + one_if hidden) c.copies-copies.ensures in
    c.in_ok-promise.ensures.inodes
    ∙ ap (λ (id : FilesystemId). with_changed id.count (promising all) trees) c.filesystem.ensures
    ∙ ap (λ k. with_changed k (promising all) trees) c.in_ok-place.ensures.filesystem
    ∙ ap (λ k. with_changed (upper_count c.args.overlay.now) (promising k) trees) more
