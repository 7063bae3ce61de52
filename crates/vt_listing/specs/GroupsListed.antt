-- The groups of a list, each by where it first stands there, and the list of groups.
use Rattle.std.specs.Prelude.{Bool, List, Option, [], filter_map, flat_map, map, nat_eq, not, option_map, unwrap_or, ℕ, ◌&&◌, ◌++◌, ◌≡◌}
use Rattle.std.specs.Map.{lookup}
use Rattle.vt_location.specs.MountValue.{propagation_of}
use Rattle.vt_location.specs.declared.numbers.GroupId.{GroupId}
use Rattle.vt_location.specs.Numbers.{counted}
use Rattle.vt_spec.specs.Language.Answers as answers
use Rattle.vt_spec.specs.Lists.{counted_from, each_once, holds_of, when}
use Rattle.vt_spec.specs.Machine.Listing.{number_among}
use Rattle.vt_spec.specs.Machine.Mounts as meant
use Rattle.vt_spec.specs.Machine.Mounts.{group_of, is_shared, source_of}
use Rattle.vt_spec.specs.Machine.World.{World, mounts_of}
use Rattle.vt_group.specs.Sets.{same_group}
use Rattle.vt_request.specs.declared.answer.MountPlace.{MountPlace}
use Rattle.vt_request.specs.Answers.{mount_place_of}
use Rattle.vt_listing.specs.declared.peer_lines.Placed.{Placed}
use Rattle.vt_listing.specs.declared.places_by.PlacesBy.{PlacesBy}

abbrev pub group_numbers : List GroupId → List ℕ
group_numbers groups = map (λ group. counted group.count) groups

-- If the groups were those of a list, each once, they are now those of that list with these after it.
abbrev pub SeesMore : List GroupId → List GroupId → List ℕ → Type 0
SeesMore old new more =
    (before : List ℕ) → group_numbers old ≡ each_once nat_eq before
    → group_numbers new ≡ each_once nat_eq (before ++ more)

-- Attached mounts, each with the place of its namespace and its own in it, and its type

abbrev pub placed_seen : Placed → ℕ × ℕ × meant.Propagation ℕ
placed_seen placed = (placed.at.namespace, placed.at.place, propagation_of placed.kind)

abbrev pub all_seen : List Placed → List (ℕ × ℕ × meant.Propagation ℕ)
all_seen placed = map placed_seen placed

-- the mounts of a namespace, and of several, which are counted from a number on
abbrev pub placed_in : World ℕ → ℕ → ℕ → List (ℕ × ℕ × meant.Propagation ℕ)
placed_in world place namespace =
    map (λ mount. (place, mount.0, mount.1.propagation)) (counted_from 1 (mounts_of nat_eq world namespace))

abbrev pub placed_from : World ℕ → ℕ → List ℕ → List (ℕ × ℕ × meant.Propagation ℕ)
placed_from world place namespaces = flat_map (λ one. placed_in world one.0 one.1) (counted_from place namespaces)

-- the place of a mount that is a member of a group, and of a slave of it that is in none
abbrev pub member_place : ℕ → ℕ × ℕ × meant.Propagation ℕ → Option (ℕ × ℕ)
member_place group placed = when (holds_of (nat_eq group) (group_of placed.2)) (placed.0, placed.1)

abbrev pub slave_place : ℕ → ℕ × ℕ × meant.Propagation ℕ → Option (ℕ × ℕ)
slave_place group placed =
    when (not (is_shared placed.2) && holds_of (nat_eq group) (source_of placed.2)) (placed.0, placed.1)

-- a line of the list of groups, as these mounts tell it
abbrev pub line_from : World ℕ → List ℕ → List (ℕ × ℕ × meant.Propagation ℕ) → ℕ → answers.PeerLine
line_from world seen placed group = record {
  group = number_among nat_eq seen group;
  master = option_map (number_among nat_eq seen) (world.master group);
  peers = filter_map (member_place group) placed;
  slaves = filter_map (slave_place group) placed;
}

-- the places that are kept under a key
abbrev pub under : {K : Type 0} → (K → K → Bool) → K → PlacesBy K → List MountPlace
under eq key places = unwrap_or (option_map (λ list. list.items) (lookup (eq key) places.lists.entries)) []

-- a line of the list of groups, as the places that are kept under groups tell it
abbrev pub line_by : World ℕ → List ℕ → PlacesBy GroupId → PlacesBy GroupId → GroupId → answers.PeerLine
line_by world seen members slaves group = record {
  group = number_among nat_eq seen (counted group.count);
  master = option_map (number_among nat_eq seen) (world.master (counted group.count));
  peers = map mount_place_of (under same_group group members);
  slaves = map mount_place_of (under same_group group slaves);
}
