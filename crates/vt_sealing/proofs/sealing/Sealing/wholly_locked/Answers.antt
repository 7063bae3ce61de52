use Rattle.std.proofs.Common.{Bool, Some, ap, nat_eq, option_map, sym, ◌&&◌, ◌∙◌, ◌≡◌}
use Rattle.vt_spec.proofs.Common.{list_any}
use Rattle.vt_spec.specs.Machine.Sealed.{all_named}
use Rattle.vt_fs.specs.FilesystemsValue.{files_at}
use Rattle.vt_location.specs.declared.numbers.FilesystemId.{FilesystemId}
use Rattle.vt_location.specs.Locations.{number_of}
use Rattle.vt_location.specs.Numbers.{counted}
use Rattle.vt_sealing.proofs.Looked.{lock_missing, lock_there, locks}
use Rattle.vt_sealing.proofs.sealing.Sealing.wholly_locked.Goals as goal

pub returns-then-is_locked_root : goal.returns-then-is_locked_root
returns-then-is_locked_root c =
    let sealing = c.args.self.now in
    let count = c.args.filesystem.count in
    let root = number_of c.in-Some.root in
    let named = all_named nat_eq (files_at sealing.store.now.plain count) in
    let here : c.in-Some.root.filesystem.count ≡ count = ap (λ (id : FilesystemId). id.count)
    c.in-Some.ensures.filesystem in
    c.all_named.ensures
    ∙ ap (λ b. b && named) (sym c.if-is_locked_root.true ∙ c.is_locked_root.ensures
    ∙ ap (λ n. list_any (locks sealing (counted n) root) sealing.store.now.overlays) here)
    ∙ sym (lock_there sealing c.plain.result.now c.plain.ensures count root
    (ap (option_map number_of) (sym c.in-Some.is) ∙ c.root.ensures.number))

pub returns-else-is_locked_root : goal.returns-else-is_locked_root
returns-else-is_locked_root c =
    let sealing = c.args.self.now in
    let count = c.args.filesystem.count in
    let root = number_of c.in-Some.root in
    let named = all_named nat_eq (files_at sealing.store.now.plain count) in
    let here : c.in-Some.root.filesystem.count ≡ count = ap (λ (id : FilesystemId). id.count)
    c.in-Some.ensures.filesystem in
    c.if-is_locked_root.false
    ∙ ap (λ b. b && named) (sym c.if-is_locked_root.false ∙ c.is_locked_root.ensures
    ∙ ap (λ n. list_any (locks sealing (counted n) root) sealing.store.now.overlays) here)
    ∙ sym (lock_there sealing c.plain.result.now c.plain.ensures count root
    (ap (option_map number_of) (sym c.in-Some.is) ∙ c.root.ensures.number))

pub returns-in-None : goal.returns-in-None
returns-in-None c = sym (lock_missing c.args.self.now c.plain.result.now c.plain.ensures c.args.filesystem.count
    (sym c.root.ensures.number ∙ ap (option_map number_of) c.in-None.is))
