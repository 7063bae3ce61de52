use Rattle.std.proofs.Common.{Bool, Option, ap, map, nat_eq, option_to_list, sym, ◌∙◌, ℕ}
use Rattle.vt_spec.proofs.Common.{list_any, or-false}
use Rattle.vt_overlay.specs.declared.merge.layers.LayerRef.{LayerRef}
use Rattle.vt_sealing.specs.Seen.{filesystem_of, is_open, world_seen}
use Rattle.vt_sealing.proofs.sealing.Sealing.has_open_upper.Goals as goal

pub returns-in-Some : goal.returns-in-Some
returns-in-Some c =
    let open_ones : ℕ → Bool = is_open (world_seen c.args.self.now) c.args.self.now.names.now in
    c.is_open.ensures ∙ sym (or-false (open_ones (filesystem_of c.in-Some.upper)))
    ∙ ap (λ (o : Option LayerRef). list_any open_ones (map filesystem_of (option_to_list o)))
    (sym c.in-Some.is ∙ c.upper_of.ensures)

pub returns-in-None : goal.returns-in-None
returns-in-None c =
    let open_ones : ℕ → Bool = is_open (world_seen c.args.self.now) c.args.self.now.names.now in
    ap (λ (o : Option LayerRef). list_any open_ones (map filesystem_of (option_to_list o)))
    (sym c.in-None.is ∙ c.upper_of.ensures)
