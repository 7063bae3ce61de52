use Rattle.std.proofs.Common.{rules, [], ap, arith, subst, sym, ◌+◌, ◌++◌, ◌∷◌, ◌<◌, ◌≡◌, ◌≤◌, ◌∙◌}
use Rattle.vt_fs.specs.FilesystemsValue.{promising, with_changed}
use Rattle.vt_location.specs.declared.numbers.FilesystemId.{FilesystemId}
use Rattle.vt_upper.specs.Below.{is_directory_below}
use Rattle.vt_upper.specs.New.{IsPlaceReady, MayPutIn, many_in, start_of}
use Rattle.vt_upper.proofs.PlacesFound.{may_put}
use Rattle.vt_upper.proofs.making.NewPlan.new.Goals as goal

pub returns-clause-ready : goal.returns-clause-ready
returns-clause-ready c =
    let trees = c.args.trees.now in
    let births = c.args.overlay.now.nodes.births in
    let place = c.in_ok-place.place in
    let n = c.copies-copies.result in
    let all = c.in-Some.inodes in
    let more : all ≡ many_in place + 1 = search rules in
    let few : many_in place < all = omega (arith, more) in
    let enough : many_in place ≤ n = omega (arith, c.copies-copies.ensures) in
    let inodes : c.promise.new.trees ≡ with_changed (start_of place).filesystem.count (promising all) trees =
    c.in_ok-promise.ensures.inodes
    ∙ ap (λ (id : FilesystemId). with_changed id.count (promising all) trees) c.filesystem.ensures in
    subst (λ b. IsPlaceReady place c.args.made.object.name.items c.promise.new.trees b c.place_for.new.room)
    (sym c.in_ok-promise.ensures.births)
    (subst (λ t. IsPlaceReady place c.args.made.object.name.items t (record births { promised = births.promised + n })
    c.place_for.new.room) (sym inodes)
    (subst (λ name. IsPlaceReady place name
    (with_changed (start_of place).filesystem.count (promising all) trees)
    (record births { promised = births.promised + n }) c.place_for.new.room) c.deref-2.ensures.value
    (c.in_ok-place.ensures.ready all n c.requires.there few enough)))

pub returns-clause-opaque : goal.returns-clause-opaque
returns-clause-opaque c = λ path upper lowers at is.
    c.hides_directory-opaque.ensures path upper lowers at is
    ∙ ap (λ name. is_directory_below c.args.trees.now upper lowers (path ++ name ∷ [])) c.deref.ensures.value

pub returns-clause-inodes : goal.returns-clause-inodes
returns-clause-inodes c =
    let trees = c.args.trees.now in
    let place = c.in_ok-place.place in
    let all = c.in-Some.inodes in
    let more : all ≡ many_in place + 1 = search rules in
    c.in_ok-promise.ensures.inodes
    ∙ ap (λ (id : FilesystemId). with_changed id.count (promising all) trees) c.filesystem.ensures
    ∙ ap (λ n. with_changed n (promising all) trees) c.in_ok-place.ensures.filesystem
    ∙ ap (λ n. with_changed (Rattle.vt_upper_overlay.specs.MergedAbove.upper_count c.args.overlay.now) (promising n) trees)
    more

pub place_for-requires-clause-may_put : goal.place_for-requires-clause-may_put
place_for-requires-clause-may_put c = subst (MayPutIn c.args.trees.now c.args.overlay.now c.args.made.directory)
    (sym c.deref-2.ensures.value) (may_put c.args.trees.now c.args.overlay.now c.requires.standing c.args.made.directory
    c.args.made.object.name.items c.requires.may_make)
