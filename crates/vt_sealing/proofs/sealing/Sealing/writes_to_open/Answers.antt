use Rattle.std.proofs.Common.{Bool, Option, ap, nat_eq, option_copied, sym, ◌∙◌, ◌≡◌, ℕ}
use Rattle.vt_spec.proofs.Common.{list_any, list_any-append}
use Rattle.vt_layered.specs.LayeredValue.{LayeredValue}
use Rattle.vt_sealing.specs.Seen.{is_open, upper_filesystem, work_filesystem, world_seen}
use Rattle.vt_sealing.proofs.Looked.{written_found, written_of}
use Rattle.vt_sealing.proofs.sealing.Sealing.writes_to_open.Goals as goal

pub returns-in-Some : goal.returns-in-Some
returns-in-Some c =
    let open_ones : ℕ → Bool = is_open (world_seen c.args.self.now) c.args.self.now.names.now in
    let overlay = c.in-Some.overlay.now in
    c.has_open_above.ensures
    ∙ sym (list_any-append open_ones (upper_filesystem overlay.overlay overlay.above) (work_filesystem overlay.above))
    ∙ ap (λ (found : Option LayeredValue). list_any open_ones (written_of found))
    (sym (ap option_copied c.in-Some.is) ∙ c.overlay.ensures.value)
    ∙ ap (list_any open_ones) (sym (written_found c.args.filesystem.count c.args.self.now.store.now.overlays))

pub returns-in-None : goal.returns-in-None
returns-in-None c =
    let open_ones : ℕ → Bool = is_open (world_seen c.args.self.now) c.args.self.now.names.now in
    ap (λ (found : Option LayeredValue). list_any open_ones (written_of found))
    (sym (ap option_copied c.in-None.is) ∙ c.overlay.ensures.value)
    ∙ ap (list_any open_ones) (sym (written_found c.args.filesystem.count c.args.self.now.store.now.overlays))
