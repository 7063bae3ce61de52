-- What the events that attach mounts find: the places of their permits, and the parts.
use Rattle.std.proofs.Common.{◌≡◌, sym, ap, ◌∙◌, ℕ, nat_eq, Bool, true, map, List, arith}
use Rattle.vt_spec.proofs.Common.{TaskName, ToBind, World, is_located_well, parts_of, common_steps}
use Rattle.vt_location.specs.declared.locations.Location.{Location}
use Rattle.vt_location.specs.declared.mounts.Mount.{Mount}
use Rattle.vt_ns.proofs.Common.{IsHeld, IsSeen, Permits, WorldValue, counted, is_seen, location_of, mount_of, permit_fits, world_of}
use Rattle.vt_propagate.specs.Seen.{ReachesAs, is_mounted}
use Rattle.vt_mounting.proofs.attach.Binding.{found_some}
use Rattle.vt_ns.specs.LyingUnder.{lies_under}

-- a mount on which a location lies is there
pub place_mounted : (value : WorldValue) (place : Location)
    → is_located_well nat_eq (world_of value) (location_of place) ≡ true
    → is_mounted value.mounts (counted place.mount.count) ≡ true
place_mounted value place well = grind (arith, common_steps, found_some, counted, map)

-- the mount point of a bind is a location of the world
pub bind_place_there : (value : WorldValue) → IsHeld value
    → (name : TaskName) (source place : Location) (recursive : Bool)
    → Permits value name (ToBind (location_of source) (location_of place) recursive)
    → is_located_well nat_eq (world_of value) (location_of place) ≡ true
bind_place_there value whole name source place recursive permits =
    (permit_fits value whole name (ToBind (location_of source)
    (location_of place) recursive) permits).names.2.directory.reached.there

-- the parts that code finds are the definitions'
pub parts_found : (kept value : WorldValue) (is : kept ≡ value) → IsHeld kept
    → (place : Location) (parts found : List Mount) → found ≡ parts
    → ((world : World ℕ) → IsSeen world kept.mounts kept.groups → ReachesAs world (lies_under value)
    → map mount_of parts ≡ parts_of nat_eq world (location_of place))
    → map mount_of found ≡ parts_of nat_eq (world_of kept) (location_of place)
parts_found kept value is whole place parts found same made = ap (map mount_of) same
    ∙ made (world_of kept) (is_seen kept whole)
    (λ filesystem top directory. ap (λ (v : WorldValue). lies_under v filesystem top directory) (sym is))
