-- How many of the numbers handed in a permit takes, in a world in which no mount is in a peer group.
use Rattle.std.specs.Prelude.{Bool, Some, false, length, nat_eq, true, ℕ, ◌%◌, ◌*◌, ◌+◌, ◌<◌, ◌≡◌, ◌≤◌}
use Rattle.std.specs.List.{list_all}
use Rattle.vt_laws_rules.specs.Numbers.{KeepsTo}
use Rattle.vt_laws_worlds.specs.Permits.Left.{IsGiven, left_by}
use Rattle.vt_laws_rules.specs.Renaming.{Leaves, Renaming}
use Rattle.vt_laws_worlds.specs.Permits.Named.{permit_named, renamed_permit}
use Rattle.vt_laws_trees.specs.Runs.Handed.{counts_from, handed_from, is_counted_before}
use Rattle.vt_spec.specs.Language.Calls.{Call}
use Rattle.vt_spec.specs.Language.Calls.TypeWord.{ToShared}
use Rattle.vt_spec.specs.Lists.{Fresh}
use Rattle.vt_spec.specs.Machine.Attach.{bind_tree}
use Rattle.vt_spec.specs.Machine.Judge.{judge_in}
use Rattle.vt_spec.specs.Machine.Mounts.{Propagation}
use Rattle.vt_spec.specs.Machine.Mounts.Propagation.{Private, Shared, Slave, Unbindable}
use Rattle.vt_spec.specs.Machine.Permits.{Permit}
use Rattle.vt_spec.specs.Machine.Permits.Permit.{ToBind, ToMake, ToMountPlain, ToOpenNew, ToSetType, ToUnshare}
use Rattle.vt_spec.specs.Machine.Run.{Serves}
use Rattle.vt_spec.specs.Machine.Types.{named_mounts}
use Rattle.vt_spec.specs.Machine.World.{Task, World, mounts_of, task_called}
use Rattle.vt_spec.specs.Machine.Invariants.{IsWorld}
use Rattle.vt_laws_trees.specs.Trees.Calls.{mounts_overlay}
use Rattle.vt_laws_worlds.specs.Worlds.Kept.{IsPlain}

-- in no peer group, and no slave of one
abbrev pub is_ungrouped : Propagation ℕ → Bool
is_ungrouped (Shared group) = false
is_ungrouped (Slave master) = false
is_ungrouped Private = true
is_ungrouped Unbindable = true

abbrev pub IsUngrouped : World ℕ → Type 0
IsUngrouped world = list_all (λ mount. is_ungrouped mount.propagation) world.mounts ≡ true

-- The numbers that a permit takes are among the first so many of the supply: the number of a new inode; of a new mount
-- its filesystem's, its own and its root's; for each copy of a mount two, of which one is its own; for each mount that
-- becomes shared its group's. The mount of an overlay is left out: here it has 0.
abbrev pub numbers_taken : World ℕ → Task ℕ → Permit ℕ → ℕ
numbers_taken world task (ToMake directory name node) = 1
numbers_taken world task (ToOpenNew directory name node access) = 1
numbers_taken world task (ToMountPlain place flags) = 3
numbers_taken world task (ToBind source place recursive) = 2 * length (bind_tree nat_eq world source recursive)
numbers_taken world task ToUnshare = 2 * length (mounts_of nat_eq world task.namespace)
numbers_taken world task (ToSetType mount ToShared recursive) = length (named_mounts nat_eq world mount recursive)
numbers_taken world task permit = 0

-- Two supplies with the same first so many numbers leave the same world.
abbrev pub OnlyTheFirstAreTaken : Type 0
OnlyTheFirstAreTaken =
    (named : ℕ → Bool) (world : World ℕ) (task : Task ℕ) (permit : Permit ℕ) (fresh again : Fresh ℕ)
    → IsWorld nat_eq world → IsPlain world → IsUngrouped world → task_called world task.name ≡ Some task
    → permit_named named permit ≡ true
    → ((k : ℕ) → k < numbers_taken world task permit → fresh k ≡ again k)
    → left_by fresh world task permit ≡ left_by again world task permit

-- So a world that keeps to some numbers, and a permit of them, leave a world that keeps to more of them, if those that
-- are taken are among these.
abbrev pub PermitsKeepToTaken : Type 0
PermitsKeepToTaken =
    (before later : ℕ → Bool) (world : World ℕ) (task : Task ℕ) (permit : Permit ℕ) (fresh : Fresh ℕ)
    → ((number : ℕ) → before number ≡ true → later number ≡ true)
    → IsWorld nat_eq world → IsPlain world → IsUngrouped world → task_called world task.name ≡ Some task
    → KeepsTo before world → permit_named before permit ≡ true
    → ((k : ℕ) → k < numbers_taken world task permit → later (fresh k) ≡ true)
    → KeepsTo later (left_by fresh world task permit)

-- With counts: if those that are taken are below a later count, the world keeps to the counts before that one.
abbrev pub CountsGoOn : Type 0
CountsGoOn =
    (next later : ℕ) (world : World ℕ) (task : Task ℕ) (permit : Permit ℕ) (fresh : Fresh ℕ) → next ≤ later
    → IsWorld nat_eq world → IsPlain world → IsUngrouped world → task_called world task.name ≡ Some task
    → KeepsTo (is_counted_before next) world → permit_named (is_counted_before next) permit ≡ true
    → ((k : ℕ) → k < numbers_taken world task permit → is_counted_before later (fresh k) ≡ true)
    → KeepsTo (is_counted_before later) (left_by fresh world task permit)

-- The supply of a program: counts from the next one on, with the number of a new inode at its place,
abbrev pub handed_to : ℕ → ℕ → Permit ℕ → Fresh ℕ
handed_to next inode (ToMake directory name node) = handed_from next 0 inode
handed_to next inode (ToOpenNew directory name node access) = handed_from next 0 inode
handed_to next inode (ToMountPlain place flags) = handed_from next 2 inode
handed_to next inode permit = counts_from next

-- and how many counts a permit takes of it.
abbrev pub counts_taken : World ℕ → Task ℕ → Permit ℕ → ℕ
counts_taken world task (ToMake directory name node) = 0
counts_taken world task (ToOpenNew directory name node access) = 0
counts_taken world task (ToMountPlain place flags) = 2
counts_taken world task permit = numbers_taken world task permit

-- The world that is left keeps to even numbers and to the counts before those that are left over.
abbrev pub HandedCountsGoOn : Type 0
HandedCountsGoOn =
    (next inode : ℕ) (world : World ℕ) (task : Task ℕ) (permit : Permit ℕ) → inode % 2 ≡ 0
    → IsWorld nat_eq world → IsPlain world → IsUngrouped world → task_called world task.name ≡ Some task
    → KeepsTo (is_counted_before next) world → permit_named (is_counted_before next) permit ≡ true
    → KeepsTo (is_counted_before (next + counts_taken world task permit))
    (left_by (handed_to next inode permit) world task permit)

-- Nor does a judgement depend on the supply, whatever groups there are: how many mounts a namespace gets does not
-- depend on their numbers.
abbrev pub JudgementsDoNotSeeSupplies : Type 0
JudgementsDoNotSeeSupplies =
    (world : World ℕ) (task : Task ℕ) (call : Call) (fresh again : Fresh ℕ) → IsWorld nat_eq world
    → mounts_overlay call ≡ false
    → judge_in nat_eq fresh world task call ≡ judge_in nat_eq again world task call

-- So the permit that a call is given is given to it with whatever supply serves.
abbrev pub GivenWithAnySupply : Type 0
GivenWithAnySupply =
    (world : World ℕ) (task : Task ℕ) (permit : Permit ℕ) (fresh again : Fresh ℕ) → IsWorld nat_eq world
    → Serves nat_eq world again → IsGiven fresh world task permit → IsGiven again world task permit

-- A permit that a call is given names only numbers to which the world keeps: a renaming of others does not change it.
abbrev pub GivenPermitsAreLeft : Type 0
GivenPermitsAreLeft =
    (named : ℕ → Bool) (world : World ℕ) (task : Task ℕ) (permit : Permit ℕ) (fresh : Fresh ℕ) → IsWorld nat_eq world
    → IsGiven fresh world task permit → KeepsTo named world → (renaming : Renaming ℕ ℕ) → Leaves renaming named
    → renamed_permit renaming.there renaming.back permit ≡ permit

-- So of a given permit it need not be shown: with the numbers that it takes the world keeps to more of them,
abbrev pub GivenPermitsKeepToTaken : Type 0
GivenPermitsKeepToTaken =
    (before later : ℕ → Bool) (world : World ℕ) (task : Task ℕ) (permit : Permit ℕ) (fresh : Fresh ℕ)
    → ((number : ℕ) → before number ≡ true → later number ≡ true)
    → IsWorld nat_eq world → IsPlain world → IsUngrouped world → KeepsTo before world → IsGiven fresh world task permit
    → ((k : ℕ) → k < numbers_taken world task permit → later (fresh k) ≡ true)
    → KeepsTo later (left_by fresh world task permit)

-- and so it does with a program's supply.
abbrev pub GivenCountsGoOn : Type 0
GivenCountsGoOn =
    (next inode : ℕ) (world : World ℕ) (task : Task ℕ) (permit : Permit ℕ) → inode % 2 ≡ 0
    → IsWorld nat_eq world → IsPlain world → IsUngrouped world → KeepsTo (is_counted_before next) world
    → IsGiven (handed_to next inode permit) world task permit
    → KeepsTo (is_counted_before (next + counts_taken world task permit))
    (left_by (handed_to next inode permit) world task permit)
