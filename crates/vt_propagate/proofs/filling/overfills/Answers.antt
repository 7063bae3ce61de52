use Rattle.std.proofs.Common.{◌≡◌, ℕ, List, refl, sym, ◌∙◌, map, nat_eq, unwrap_or}
use Rattle.vt_spec.proofs.Common.{Mount, NamespaceInvariants, World, get}
use Rattle.vt_location.specs.declared.mounts.Mount.{Mount as Kept}
use Rattle.vt_location.specs.MountValue.{mount_of}
use Rattle.vt_mount.specs.MountsValue.{mounts_in}
use Rattle.vt_propagate.specs.Filling.{parts_in}
use Rattle.vt_propagate.proofs.Counting.{AreCounted, added_tell, few_parts, more_tell, moves_tell}
use Rattle.vt_propagate.proofs.filling.overfills.Goals as goal
use Rattle.vt_mount.specs.Indexes.{same_namespace}

-- where all parts are counted as they are
as_they_are : {world : World ℕ} {parts mounts : List (Mount ℕ)} {kept : List Kept}
    → NamespaceInvariants nat_eq world → mounts ≡ world.mounts → map mount_of kept ≡ parts
    → AreCounted world parts mounts kept (parts_in kept)
as_they_are invariants same are = record { invariants = invariants; same = same; are = are; right = λ namespace. refl }

pub returns-clause-added : goal.returns-clause-added
returns-clause-added c world new place tree same invariants are size stay = c.is_one_overfilled.ensures
    ∙ added_tell world place new tree {counts = λ namespace. unwrap_or (get same_namespace c.in_ok-counts.counts namespace) 0}
    (record { invariants = invariants; same = same; are = are; right = c.in_ok-counts.ensures }) c.args.load size stay

pub returns-clause-moved : goal.returns-clause-moved
returns-clause-moved c world new place tree same invariants are size moves = c.is_one_overfilled.ensures
    ∙ moves_tell {counts = λ namespace. unwrap_or (get same_namespace c.in_ok-counts.counts namespace) 0} place new
    (record { invariants = invariants; same = same; are = are; right = c.in_ok-counts.ensures }) c.args.load size moves

pub returns-clause-more : goal.returns-clause-more
returns-clause-more c world after same invariants stay grows = c.is_one_overfilled.ensures
    ∙ more_tell {counts = λ namespace. unwrap_or (get same_namespace c.in_ok-counts.counts namespace) 0} after
    (record { invariants = invariants; same = same; are = refl; right = c.in_ok-counts.ensures }) c.args.load stay grows

pub returns-then-not-can_overfill-clause-added : goal.returns-then-not-can_overfill-clause-added
returns-then-not-can_overfill-clause-added c world new place tree same invariants are size stay =
    sym (few_parts (mounts_in c.args.mounts.now) c.args.load c.args.parts.now
    (sym c.can_overfill.ensures ∙ c.if-not-can_overfill.true))
    ∙ added_tell world place new tree (as_they_are invariants same are) c.args.load size stay

pub returns-then-not-can_overfill-clause-moved : goal.returns-then-not-can_overfill-clause-moved
returns-then-not-can_overfill-clause-moved c world new place tree same invariants are size moves =
    sym (few_parts (mounts_in c.args.mounts.now) c.args.load c.args.parts.now
    (sym c.can_overfill.ensures ∙ c.if-not-can_overfill.true))
    ∙ moves_tell place new (as_they_are invariants same are) c.args.load size moves

pub returns-then-not-can_overfill-clause-more : goal.returns-then-not-can_overfill-clause-more
returns-then-not-can_overfill-clause-more c world after same invariants stay grows =
    sym (few_parts (mounts_in c.args.mounts.now) c.args.load c.args.parts.now
    (sym c.can_overfill.ensures ∙ c.if-not-can_overfill.true))
    ∙ more_tell after (as_they_are invariants same refl) c.args.load stay grows
