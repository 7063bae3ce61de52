-- Filesystems once mounts moved and others came: the uses of their inodes, and how many more mounts show them.
use Rattle.std.proofs.Common.{◌≡◌, refl, ap, ◌∙◌, ℕ, ◌+◌, List, [], ◌∷◌, ◌++◌, map}
use Rattle.vt_spec.proofs.Common.{folded, map_alike, map_twice}
use Rattle.vt_mounting.proofs.Common.{Inode, Shown, counted, exchanged, pinned_if, unpinned_if}
use Rattle.vt_location.specs.declared.locations.Location.{Location}
use Rattle.vt_location.specs.declared.mounts.Mount.{Mount}
use Rattle.vt_mounting.specs.Attach.Planned.{pinned_by, unpinned_by}
use Rattle.vt_mounting.specs.Detach.Uses.{inode_of, shown_by}
use Rattle.vt_mounting.proofs.attach.AddedUses.{folded_after, gained_by, showing, shown_by_all, with_mounts_on}

abbrev pub inodes_of_points : List Location → List Inode
inodes_of_points points = map (λ (point : Location). inode_of point.node) points

-- what inodes of a filesystem get and lose
abbrev pub exchanged_on : List Inode → List Inode → ℕ → Shown → Shown
exchanged_on gained lost more one = record one {
  inodes = exchanged (counted one.count) gained lost one.inodes;
  mounts = one.mounts + more;
}

all_pinned : (points : List Location) (all : List Shown) → folded pinned_by all points
    ≡ map (λ (one : Shown). record one {
      inodes = folded (pinned_if (counted one.count)) one.inodes (inodes_of_points points);
    }) all
all_pinned [] all = none all
  where
    none : (list : List Shown) → list ≡ map (λ (one : Shown). record one { inodes = one.inodes }) list
    none [] = refl
    none (one ∷ rest) = ap (λ others. one ∷ others) (none rest)
all_pinned (point ∷ rest) all = all_pinned rest (pinned_by all point) ∙ map_twice (λ (one : Shown). record one {
  inodes = folded (pinned_if (counted one.count)) one.inodes (inodes_of_points rest);
}) (λ (one : Shown). record one { inodes = pinned_if (counted one.count) one.inodes (inode_of point.node) }) all

all_unpinned : (points : List Location) (all : List Shown) → folded unpinned_by all points
    ≡ map (λ (one : Shown). record one {
      inodes = folded (unpinned_if (counted one.count)) one.inodes (inodes_of_points points);
    }) all
all_unpinned [] all = none all
  where
    none : (list : List Shown) → list ≡ map (λ (one : Shown). record one { inodes = one.inodes }) list
    none [] = refl
    none (one ∷ rest) = ap (λ others. one ∷ others) (none rest)
all_unpinned (point ∷ rest) all = all_unpinned rest (unpinned_by all point) ∙ map_twice (λ (one : Shown). record one {
  inodes = folded (unpinned_if (counted one.count)) one.inodes (inodes_of_points rest);
}) (λ (one : Shown). record one { inodes = unpinned_if (counted one.count) one.inodes (inode_of point.node) }) all

-- all that a planned attachment does to filesystems
pub planned_shown : (taken left : List Location) (copies : List Mount) (all : List Shown)
    → folded unpinned_by (folded shown_by (folded pinned_by all taken) copies) left
    ≡ map (λ (one : Shown). exchanged_on (inodes_of_points taken ++ gained_by copies) (inodes_of_points left)
    (showing one.count copies) one) all
planned_shown taken left copies all = all_unpinned left (folded shown_by (folded pinned_by all taken) copies)
    ∙ ap (map unpinned_all) (shown_by_all copies (folded pinned_by all taken)
    ∙ ap (map (with_mounts_on copies)) (all_pinned taken all) ∙ map_twice (with_mounts_on copies) pinned_all all)
    ∙ map_twice unpinned_all (λ one. with_mounts_on copies (pinned_all one)) all
    ∙ map_alike (λ one. unpinned_all (with_mounts_on copies (pinned_all one)))
    (λ (one : Shown). exchanged_on (inodes_of_points taken ++ gained_by copies) (inodes_of_points left)
    (showing one.count copies) one) all (λ one m. λ i. record one {
      inodes = folded (unpinned_if (counted one.count))
          (folded_after (counted one.count) (inodes_of_points taken) (gained_by copies) one.inodes i)
          (inodes_of_points left);
      mounts = one.mounts + showing one.count copies;
    })
  where
    pinned_all : Shown → Shown
    pinned_all one = record one { inodes = folded (pinned_if (counted one.count)) one.inodes (inodes_of_points taken) }

    unpinned_all : Shown → Shown
    unpinned_all one = record one {
      inodes = folded (unpinned_if (counted one.count)) one.inodes (inodes_of_points left);
    }
