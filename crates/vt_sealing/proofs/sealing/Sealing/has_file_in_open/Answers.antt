use Rattle.std.proofs.Common.{Bool, ap, nat_eq, rules, sym, ◌∙◌, ℕ}
use Rattle.vt_spec.proofs.Common.{Location, YieldsList-from_slice, any_from_yields_List, list_any}
use Rattle.vt_location.proofs.AskedLemmas.{any_mapped}
use Rattle.vt_location.specs.Locations.{location_of}
use Rattle.vt_tasks.specs.declared.descriptors.OpenFile.{OpenFile}
use Rattle.vt_spec.specs.Machine.World.{mount_at}
use Rattle.vt_sealing.specs.Seen.{is_open_through, world_seen}
use Rattle.vt_sealing.proofs.sealing.Sealing.has_file_in_open.Goals as goal

pub returns : goal.returns
returns c =
    let world = world_seen c.args.self.now in
    let test : Location ℕ → Bool = λ location. is_open_through c.args.self.now (mount_at nat_eq world location).filesystem in
    any_from_yields_List (λ (file : OpenFile). test (location_of file.location)) _ _ _ c.any.ensures.ran
    (YieldsList-from_slice c.files.result.now cc) (λ x b q k. search rules)
    ∙ sym (any_mapped test (λ (file : OpenFile). location_of file.location) c.files.result.now)
    ∙ ap (list_any test) c.files.ensures.locations
