use Rattle.std.proofs.Common.{Some, ap, option_copied, rules, subst, sym, true, ◌<◌, ◌≡◌, ◌∙◌}
use Rattle.vt_fs.specs.FilesystemsValue.{Filesystems, files_at}
use Rattle.vt_fs.specs.Laws.{ParentsAreNamed}
use Rattle.vt_store.specs.StoreValue.{layered_in}
use Rattle.vt_store.proofs.KeptObjects.{kept_by}
use Rattle.vt_overlaps.specs.Overlaps.{has_upper_under}
use Rattle.vt_overlaps.proofs.Written.{kept_under_found, own_in_store}
use Rattle.vt_overlaps.proofs.directories.keeps_under.Goals as goal

pub has_upper_under-requires : goal.has_upper_under-requires
has_upper_under-requires c =
    subst (λ (plain : Filesystems). ParentsAreNamed (files_at plain c.args.top.filesystem.count).tree)
    (sym c.plain.ensures) (c.requires.named c.args.top.filesystem.count)

pub keeps_object-requires-clause-own : goal.keeps_object-requires-clause-own
keeps_object-requires-clause-own c =
    own_in_store c.args.store.now c.requires.standing c.args.id.count c.in-Some.overlay.now
    (sym (sym (ap option_copied c.in-Some.is) ∙ c.overlay.ensures.value))

pub returns-then-has_upper_under : goal.returns-then-has_upper_under
returns-then-has_upper_under c =
    let store = c.args.store.now in
    let layered = c.in-Some.overlay.now in
    let found : layered_in store c.args.id.count ≡ Some layered =
    sym (sym (ap option_copied c.in-Some.is) ∙ c.overlay.ensures.value) in
    let upper : has_upper_under store.plain c.args.top layered.overlay layered.above ≡ true =
    ap (λ (plain : Filesystems). has_upper_under plain c.args.top layered.overlay layered.above) (sym c.plain.ensures)
    ∙ sym c.has_upper_under.ensures ∙ c.if-has_upper_under.true in
    let small : c.args.inode.slot < 18446744073709551616 = search rules in
    c.keeps_object.ensures ∙ kept_by store.overlays c.args.id.count c.args.inode small layered found
    ∙ kept_under_found store c.args.id.count c.args.inode c.args.top layered found upper
