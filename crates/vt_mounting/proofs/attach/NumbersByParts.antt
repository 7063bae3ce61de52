-- The numbers that an attachment takes, whatever groups there are: two for each mount of the tree at each part.
use Rattle.std.proofs.Common.{◌≡◌, refl, sym, ap, subst, ◌∙◌, ℕ, ◌+◌, ◌*◌, ◌-◌, ◌%◌, ◌/◌, ◌==◌, ◌<◌, nat_eq, eq-eqb, Bool, true, false, cond, ◌&&◌, ◌||◌, List, [], ◌∷◌, map, Some, length, unwrap_or, arith, nat_lt}
use Rattle.vt_spec.proofs.Common.{Copies, Fresh, IsWorld, Location, Mount, Namespace, Permit, Task, ToBind, ToMountPlain, ToMove, ToUnshare, World, among-from_map, among_from_list_all, among_numbers, attach, attached_by, bind_tree, copies_from, has_one_root, index_from, index_in_rows, index_of, index_of_group, is_listed, is_member_of, mount_numbered, mount_tree, mounted, mounts_of, namespaces_ended, new_mount, new_plain, odds, parts_of, plain_filesystem, settled, task_called, with_new_filesystem}
use Rattle.vt_mounting.proofs.Common.{KeepsTo, counted_later, counts_from, handed_from, index_bound, is_counted_before, permit_named}
use Rattle.vt_laws_worlds.proofs.permits.named.NamedPermits.{permit_left}
use Rattle.vt_laws_worlds.proofs.permits.named.PermitsKeepTo.{left_renamed}
use Rattle.vt_laws_worlds.specs.Permits.Left.{left_by}
use Rattle.vt_spec.specs.Machine.Namespaces.{unshared_by}
use Rattle.vt_laws_worlds.proofs.worlds.ReachedWalks.{task_among}
use Rattle.vt_mounting.specs.Attach.AttachedNumbers.{BindsKeepToNumbers, MovesKeepToNumbers, NewMountsKeepToNumbers, UnsharesKeepToNumbers, numbers_of_new_mount, numbers_of_parts}
use Rattle.vt_laws_worlds.proofs.permits.taken.TakenFirst.{nonempty, numbers_same, tree_some, bind_some}
use Rattle.vt_laws_worlds.proofs.permits.taken.TakenHanded.{counted_here}

-- places in a table

place_bound : {A : Type 0} (test : A → Bool) (k : ℕ) (list : List A) → 0 < k + length list
    → unwrap_or (index_from test k list) 0 < k + length list
place_bound test k [] some = some
place_bound test k (a ∷ list) some = by (test a) (place_bound test (k + 1) list (omega arith))
  where
    by : (b : Bool) → unwrap_or (index_from test (k + 1) list) 0 < k + 1 + length list
        → unwrap_or (cond b (Some k) (index_from test (k + 1) list)) 0 < k + length (a ∷ list)
    by true later = omega arith
    by false later = omega (arith, later)

in_table : (size k i : ℕ) {rows : ℕ} → k < rows → i < size → index_in_rows size k i < rows * size
in_table size k i {rows} low less =
    let all : rows ≡ k + 1 + (rows - (k + 1)) = omega (arith, low) in
    subst (λ n. index_in_rows size k i < n * size) (sym all) (omega (arith, less))

-- Two supplies with the same first numbers

module _ (parts tree : List (Mount ℕ)) (some_parts : 0 < length parts) (some : 0 < length tree) (fresh again : Fresh ℕ)
    (same : (k : ℕ) → k < 2 * (length parts * length tree) → fresh k ≡ again k) where
  copy_same : (part origin : ℕ) → (copies_from nat_eq fresh parts tree).copy part origin
      ≡ (copies_from nat_eq again parts tree).copy part origin
  copy_same part origin =
      let less = in_table (length tree) (index_of nat_eq parts part) (index_of nat_eq tree origin)
      (index_bound parts part some_parts) (index_bound tree origin some) in
      same (2 * index_in_rows (length tree) (index_of nat_eq parts part) (index_of nat_eq tree origin)) (omega
      (arith, less))

  image_same : (group origin : ℕ) → (copies_from nat_eq fresh parts tree).image group origin
      ≡ (copies_from nat_eq again parts tree).image group origin
  image_same group origin =
      let low = place_bound (is_member_of nat_eq group) 0 parts (omega (arith, some_parts)) in
      let less = in_table (length tree) (index_of_group nat_eq parts group) (index_of nat_eq tree origin)
      {rows = length parts}
      (omega (arith, low)) (index_bound tree origin some) in
      same (2 * index_in_rows (length tree) (index_of_group nat_eq parts group) (index_of nat_eq tree origin) + 1)
      (omega (arith, less))

  copies_same : copies_from nat_eq fresh parts tree ≡ copies_from nat_eq again parts tree
  copies_same = λ i. record { copy = λ part origin. copy_same part origin i; image = λ group origin. image_same group origin i }

pub attach_same : (world : World ℕ) (place : Location ℕ) (moves : Bool) (tree : List (Mount ℕ)) → 0 < length tree
    → (fresh again : Fresh ℕ) → ((k : ℕ) → k < numbers_of_parts world place tree → fresh k ≡ again k)
    → attach nat_eq world fresh place moves tree ≡ attach nat_eq world again place moves tree
attach_same world place moves tree some fresh again same =
    ap (λ (new : Copies ℕ). attached_by nat_eq world new place moves tree)
    (copies_same (parts_of nat_eq world place) tree (omega arith) some fresh again same)

-- Where a permit takes the first numbers of a supply alone, the world that it leaves keeps to those, and to the numbers
-- that it had.
module _ (next taken : ℕ) (world : World ℕ) {task : Task ℕ} (permit : Permit ℕ) (supply : Fresh ℕ)
    (called : task_called world task.name ≡ Some task) (keeps : KeepsTo (is_counted_before next) world)
    (named : permit_named (is_counted_before next) permit ≡ true)
    (counts : (k : ℕ) → k < taken → is_counted_before (next + taken) (supply k) ≡ true)
    (alone : (again : Fresh ℕ) → ((k : ℕ) → k < taken → again k ≡ supply k)
    → left_by again world task permit ≡ left_by supply world task permit) where
  keeps_to_first : KeepsTo (is_counted_before (next + taken)) (left_by supply world task permit)
  keeps_to_first renaming leaves =
      let leaves_old = λ (number : ℕ) (known : is_counted_before next number ≡ true).
      leaves number (counted_later next (next + taken) number (omega arith) known) in
      left_renamed renaming supply world task permit called (keeps renaming leaves_old)
      (permit_left (is_counted_before next) renaming leaves_old permit named)
      ∙ alone (λ k. renaming.there (supply k)) (λ k low. leaves (supply k) (counts k low))

pub binds_keep_to_numbers : BindsKeepToNumbers
binds_keep_to_numbers next world task source place recursive called keeps named =
    keeps_to_first next (numbers_of_parts world place (bind_tree nat_eq world source recursive)) world
    (ToBind source place recursive) (counts_from next) called keeps named
    (counted_here next (numbers_of_parts world place (bind_tree nat_eq world source recursive)))
    (λ again same. ap (settled nat_eq)
    (attach_same world place false (bind_tree nat_eq world source recursive) (bind_some world source recursive) again
    (counts_from next) same))

pub moves_keep_to_numbers : MovesKeepToNumbers
moves_keep_to_numbers next world task mount place called keeps named =
    let tree = mount_tree nat_eq world.mounts (mount_numbered nat_eq world mount) in
    keeps_to_first next (numbers_of_parts world place tree) world (ToMove mount place) (counts_from next) called keeps
    named (counted_here next (numbers_of_parts world place tree))
    (λ again same. ap (settled nat_eq) (attach_same world place true tree
    (tree_some (length world.mounts) world.mounts (mount_numbered nat_eq world mount)) again (counts_from next) same))

pub new_mounts_keep_to_numbers : NewMountsKeepToNumbers
new_mounts_keep_to_numbers next inode even world task place flags called keeps named =
    keeps_to_first next taken world (ToMountPlain place flags) supply called keeps named counts
    (λ again same. ap (settled nat_eq) ((λ i. mounted nat_eq (odds again) world place
    (new_plain nat_eq (same 0 (omega arith) i) (same 2 (omega arith) i)) flags)
    ∙ attach_same middle place false tree (omega arith) (odds again) (odds supply)
    (λ k low. same (2 * k + 1) (omega (arith, low)))))
  where
    supply : Fresh ℕ
    supply = handed_from next 2 inode

    middle : World ℕ
    middle = with_new_filesystem world (plain_filesystem nat_eq supply)

    tree : List (Mount ℕ)
    tree = new_mount (supply 0) (supply 2) flags ∷ []

    taken : ℕ
    taken = numbers_of_new_mount middle place

    counts : (k : ℕ) → k < taken → is_counted_before (next + taken) (supply k) ≡ true
    counts k low = by (k == 2)
      where
        by : (b : Bool) → is_counted_before (next + taken) (cond b inode (counts_from next k)) ≡ true
        by true = λ i. eq-eqb (inode % 2) 0 even i || (inode % 4 == 1 && nat_lt (inode / 4) (next + taken))
        by false = counted_here next taken k low

-- A new namespace

-- the namespace of a task has a root mount
own_some : (world : World ℕ) (task : Task ℕ) → IsWorld nat_eq world → task_called world task.name ≡ Some task
    → 0 < length (mounts_of nat_eq world task.namespace)
own_some world task whole called =
    let listed : is_listed nat_eq world task.namespace ≡ true =
    among_from_list_all (λ (t : Task ℕ). is_listed nat_eq world t.namespace) world.tasks
    whole.namespaces.tasks_listed task (task_among world whole task called) in
    let found = among-from_map (λ (namespace : Namespace ℕ). namespace.number) world.namespaces task.namespace
    (among_numbers (map (λ (namespace : Namespace ℕ). namespace.number) world.namespaces) task.namespace listed) in
    subst (λ number. 0 < length (mounts_of nat_eq world number)) (sym found.2)
    (nonempty (mounts_of nat_eq world found.0.number)
    (among_from_list_all (has_one_root nat_eq world) world.namespaces whole.namespaces.root_mounts found.0 found.1))

pub unshares_keep_to_numbers : UnsharesKeepToNumbers
unshares_keep_to_numbers next world task whole called keeps =
    let own = mounts_of nat_eq world task.namespace in
    let some = own_some world task whole called in
    keeps_to_first next (2 * length own) world ToUnshare (counts_from next) called keeps refl
    (counted_here next (2 * length own)) (λ again same. ap (settled nat_eq) (λ i. namespaces_ended nat_eq
    (unshared_by nat_eq world
    (numbers_same own some (odds again) (odds (counts_from next)) (λ k low. same (2 * k + 1) (omega (arith, low))) i)
    (same 0 (omega (arith, some)) i) task)))
