-- Where tasks change alone and the rest is swept, change numbers of tasks and of the world are raised, and no others.
use Rattle.std.proofs.Common.{arith, ◌≡◌, refl, ◌∙◌, ℕ, nat_eq, Bool, true, false, true≢false, List, [], Option, Some, None, is_some, map}
use Rattle.vt_spec.proofs.Common.{Among, Mount, Namespace, Propagation, Task, TaskName, World, among-filter, any_among, any_from_among, common_steps, group_of, has_members, holds_of, is_located, is_private, map_same, mount_lives, mounts_of, numbers_raised, or_left, raised, raised_if_changed, raised_namespace, raised_task, same_list, same_mount, same_mounts_in, settled}
use Rattle.vt_laws_members.proofs.Common.{AllInUse}
use Rattle.vt_laws_members.proofs.changes.letting_go.SeeLess.{filter_less}
use Rattle.vt_laws_members.proofs.changes.tasks.RaisedTasks.{all_themselves}

-- a mount in a namespace
attached : (number : ℕ) (o : Option ℕ) → holds_of (nat_eq number) o ≡ true → is_some o ≡ true
attached number None h = h
attached number (Some n) h = refl

-- a private mount is in no group
in_no_group : (group : ℕ) (kind : Propagation ℕ) → is_private kind ≡ true → holds_of (nat_eq group) (group_of kind)
    ≡ false
in_no_group group kind e = grind (arith, common_steps, true≢false)

-- mounts outside every namespace are private
abbrev pub DetachedArePrivate : World ℕ → Type 0
DetachedArePrivate before = (m : Mount ℕ) → Among m before.mounts → m.namespace ≡ None → is_private m.propagation ≡ true

module _ (before : World ℕ) (in_use : AllInUse before) (private_ones : DetachedArePrivate before) (name : TaskName)
    (tasks : List (Task ℕ)) where
  abbrev later : World ℕ
  later = record before { tasks = tasks }

  abbrev after : World ℕ
  after = settled nat_eq later

  abbrev lives : Mount ℕ → Bool
  lives = mount_lives nat_eq later

  mounts_stay : (n : ℕ) → mounts_of nat_eq after n ≡ mounts_of nat_eq before n
  mounts_stay n = filter_less (λ (m : Mount ℕ). holds_of (nat_eq n) m.namespace) lives before.mounts
      (λ m h. or_left (is_some m.namespace) (is_located nat_eq later m.number) (attached n m.namespace h))

  -- a group with a member keeps one
  members_stay : (group : ℕ) → has_members nat_eq before.mounts group ≡ true
      → has_members nat_eq after.mounts group ≡ true
  members_stay group h =
      grind (arith, common_steps, any_among, true≢false, in_no_group, any_from_among, among-filter, or_left)

  masters_stay : (group : ℕ) → after.master group ≡ before.master group
  masters_stay group = grind (arith, common_steps, members_stay)

  same_mounts : (n : ℕ) → same_mounts_in nat_eq before after n ≡ true
  same_mounts n = (λ i. same_list (same_mount nat_eq before (record before { master = λ group. masters_stay group i }))
      (mounts_of nat_eq before n) (mounts_stay n i)) ∙ all_themselves before name tasks (mounts_of nat_eq before n)

  namespace_stays : (namespace : Namespace ℕ) → raised_namespace nat_eq before after namespace ≡ namespace
  namespace_stays namespace = cc (same_mounts namespace.number)

  pub swept_raised : numbers_raised nat_eq before name [] after
      ≡ record after { tasks = map (raised_task name) tasks; change = raised before.change }
  swept_raised i = record {
    mounts = after.mounts;
    master = after.master;
    filesystems = map_same (raised_if_changed nat_eq []) after.filesystems (λ f m. refl) i;
    namespaces = map_same (raised_namespace nat_eq before after) after.namespaces (λ n m. namespace_stays n) i;
    tasks = map (raised_task name) tasks;
    change = raised before.change;
  }
