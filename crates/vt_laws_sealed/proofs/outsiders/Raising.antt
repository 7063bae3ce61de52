-- Change numbers that the call of a task outside a set raises are not those of the set's part.
use Rattle.std.proofs.Common.{inl, inr, arith, ◌≡◌, refl, sym, ap, ◌∙◌, ℕ, nat_eq, Bool, true, false, cond, true≢false, List, [], ◌∷◌, Option, Some, is_some, filter, find, flat_map, map, not, ◌&&◌, ◌||◌, eqb-true, unwrap_or, filter_map}
use Rattle.vt_spec.proofs.Common.{cases_Bool, Among, FileTree, Filesystem, Layer, Location, Mount, MountInvariants, Namespace, Task, TaskName, World, among-from_filter, among_from_contains, among_numbers, common_steps, filesystem_numbered, has_layer_on, holds_all_tasks, holds_of, is_among, is_member_task, is_overlay, is_own_namespace, is_under, list_all, list_any, locations, locations_of, map_same, members, mount_at, no_filesystem, no_outsider_on, no_outsider_on_mounts, numbers_raised, only_among, outsiders, overlays, own_lowers, part_of, raised, raised_if_changed, raised_namespace, raised_task, same_name, same_task_name, share_events, shares_no_events, used_alone, used_directly, used_filesystems, when}
use Rattle.vt_laws_sealed.proofs.Common.{filter-map, flat_map-map}
use Rattle.vt_laws_later_calls.proofs.AfterChange.{raised_files}
use Rattle.vt_laws_sealed.specs.Part.Parts.{SeesTheSame, shown_of}
use Rattle.vt_laws_sealed.proofs.part.Kept.{filter_map_map, filter_map_same}
use Rattle.vt_laws_sealed.proofs.part.part.PartOfPart.{keep, used_directly_used}
use Rattle.vt_laws_sealed.proofs.outsiders.Masters.{same_mounts}

-- tests that agree after a change pass together
pub all-map_same : {A B : Type 0} (p : B → Bool) (q : A → Bool) (f : A → B) (xs : List A)
    → ((x : A) → p (f x) ≡ q x) → list_all p (map f xs) ≡ list_all q xs
all-map_same p q f [] same = refl
all-map_same p q f (x ∷ xs) same =
    ap (λ b. b && list_all p (map f xs)) (same x) ∙ ap (λ b. q x && b) (all-map_same p q f xs same)

-- What of a world says who is outside: mounts, tasks and overlays
module _ (before left : World ℕ) (names : List TaskName) (name : TaskName) (changed : List ℕ)
    (outside : is_among same_name name names ≡ false) where
  abbrev pub later : World ℕ
  later = numbers_raised nat_eq before name changed left

  abbrev raise : Task ℕ → Task ℕ
  raise task = raised_task name task

  name_kept : (task : Task ℕ) → (raise task).name ≡ task.name
  name_kept task = grind (arith, common_steps)

  namespace_kept : (task : Task ℕ) → (raise task).namespace ≡ task.namespace
  namespace_kept task = grind (arith, common_steps)

  locations_kept : (task : Task ℕ) → locations_of (raise task) ≡ locations_of task
  locations_kept task = grind (arith, common_steps)

  member_kept : (task : Task ℕ) → is_member_task names (raise task) ≡ is_member_task names task
  member_kept task = ap (λ n. is_among same_name n names) (name_kept task)

  member_stays : (task : Task ℕ) → is_member_task names task ≡ true → raise task ≡ task
  member_stays task member = by (same_name name task.name) refl
    where
      by : (b : Bool) → same_name name task.name ≡ b → cond b (record task { change = raised task.change }) task ≡ task
      by true e = absurd (true≢false (sym member ∙ ap (λ n. is_among same_name n names) (sym (same_task_name name _ e))
          ∙ outside))
      by false e = refl

  pub members_raised : members later names ≡ members left names
  members_raised = filter-map (is_member_task names) raise left.tasks member_kept ∙ map_same raise (members left names)
      (λ task m. member_stays task (among-from_filter (is_member_task names) left.tasks task m).1)

  outsiders_raised : outsiders later names ≡ map raise (outsiders left names)
  outsiders_raised = filter-map _ raise left.tasks (λ task. ap not (member_kept task))

  outsiders_locations : locations (outsiders later names) ≡ locations (outsiders left names)
  outsiders_locations = ap (flat_map locations_of) outsiders_raised ∙ flat_map-map raise locations_of
      (outsiders left names) locations_kept

  -- by members and by locations of others
  abbrev own_by : List (Task ℕ) → ℕ → Bool
  own_by tasks namespace = list_any (λ (task : Task ℕ). nat_eq namespace task.namespace) tasks

  abbrev others_by : List (Task ℕ) → List (Mount ℕ)
  others_by tasks =
      filter (λ (mount : Mount ℕ). holds_of (λ namespace. not (own_by tasks namespace)) mount.namespace) left.mounts

  abbrev owned_by : List (Task ℕ) → List (Mount ℕ)
  owned_by tasks = filter (λ (mount : Mount ℕ). holds_of (own_by tasks) mount.namespace) left.mounts

  abbrev free_by : List (Task ℕ) → List (Location ℕ) → ℕ → Bool
  free_by tasks places filesystem =
      not (list_any (λ (mount : Mount ℕ). nat_eq filesystem mount.filesystem) (others_by tasks))
      && not (list_any (λ location. nat_eq filesystem (mount_at nat_eq left location).filesystem) places)

  no_outsider_raised : (filesystem : ℕ)
      → no_outsider_on nat_eq later names filesystem ≡ no_outsider_on nat_eq left names filesystem
  no_outsider_raised filesystem =
      ap (λ tasks. free_by tasks (locations (outsiders later names)) filesystem) members_raised
      ∙ ap (λ places. free_by (members left names) places filesystem) outsiders_locations

  abbrev raise_in : Filesystem ℕ → Filesystem ℕ
  raise_in filesystem = raised_if_changed nat_eq changed filesystem

  overlay_kept : (filesystem : Filesystem ℕ) → (raise_in filesystem).overlay ≡ filesystem.overlay
  overlay_kept filesystem = grind (arith, common_steps)

  number_kept : (filesystem : Filesystem ℕ) → (raise_in filesystem).number ≡ filesystem.number
  number_kept filesystem = grind (arith, common_steps)

  layered_kept : (number : ℕ) (filesystem : Filesystem ℕ)
      → has_layer_on nat_eq number (raise_in filesystem) ≡ has_layer_on nat_eq number filesystem
  layered_kept number filesystem = grind (arith, common_steps)

  pub used_alone_raised : (filesystem : ℕ)
      → used_alone nat_eq later names filesystem ≡ used_alone nat_eq left names filesystem
  used_alone_raised filesystem = ap (λ b. b && list_all free_later (overlays later)) (no_outsider_raised filesystem)
      ∙ ap (λ b. no_outsider_on nat_eq left names filesystem && b)
      (ap (list_all free_later) (filter-map is_overlay raise_in left.filesystems (λ f. ap is_some (overlay_kept f)))
      ∙ all-map_same free_later free_left raise_in (overlays left) same)
    where
      free_later : Filesystem ℕ → Bool
      free_later merged = not (has_layer_on nat_eq filesystem merged) || no_outsider_on nat_eq later names merged.number

      free_left : Filesystem ℕ → Bool
      free_left merged = not (has_layer_on nat_eq filesystem merged) || no_outsider_on nat_eq left names merged.number

      same : (merged : Filesystem ℕ) → free_later (raise_in merged) ≡ free_left merged
      same merged = grind (arith, common_steps, layered_kept, number_kept, no_outsider_raised)

  pub tasks_raised : holds_all_tasks nat_eq later names ≡ holds_all_tasks nat_eq left names
  tasks_raised = grind (arith, common_steps, members_raised, outsiders_raised, all-map_same, namespace_kept)

  pub events_raised : shares_no_events nat_eq later names ≡ shares_no_events nat_eq left names
  events_raised =
      ap (λ tasks. list_all (λ own. list_all (λ other. not (share_events nat_eq left own other)) (others_by tasks))
      (owned_by tasks)) members_raised

  pub on_mounts_raised : no_outsider_on_mounts nat_eq later names ≡ no_outsider_on_mounts nat_eq left names
  on_mounts_raised = grind (arith, common_steps, members_raised, outsiders_locations)

  -- What the set sees
  module _ (sees : SeesTheSame before left names) (is : MountInvariants nat_eq before)
      (apart : shares_no_events nat_eq before names ≡ true)
      (unraised : (number : ℕ) → Among number (used_filesystems nat_eq before names)
      → list_any (λ n. nat_eq n number) changed ≡ false) where
    abbrev used : List ℕ
    used = used_filesystems nat_eq before names

    abbrev lowers : List (Layer ℕ)
    lowers = own_lowers nat_eq before names

    -- a filesystem that they use is not raised
    used_stays : (filesystem : Filesystem ℕ) → is_among nat_eq filesystem.number used ≡ true
        → raise_in filesystem ≡ filesystem
    used_stays filesystem m = ap (λ b. cond b (record filesystem { change = raised filesystem.change }) filesystem)
        (unraised filesystem.number (among_numbers used filesystem.number m))

    found_stays : (number : ℕ) → is_among nat_eq number used ≡ true → (list : List (Filesystem ℕ))
        → find (λ (f : Filesystem ℕ). nat_eq number f.number) (map raise_in list)
        ≡ find (λ (f : Filesystem ℕ). nat_eq number f.number) list
    found_stays number m [] = refl
    found_stays number m (f ∷ rest) =
        grind (arith, common_steps, number_kept, used_stays, eqb-true, found_stays number m rest)

    -- of a filesystem the part depends on its tree alone, if they do not use it
    abbrev shown_by : FileTree ℕ → Filesystem ℕ → Option (Filesystem ℕ)
    shown_by files x = cond (is_among nat_eq x.number used) (Some x)
        (when (list_any (λ (layer : Layer ℕ). nat_eq x.number layer.filesystem) lowers) (record x {
          files = only_among nat_eq (filter (λ object. list_any (λ (layer : Layer ℕ). nat_eq x.number layer.filesystem
              && is_under nat_eq files layer.directory object) lowers) x.files.numbers) x.files;
          change = 0;
        }))

    shown_same : (files : FileTree ℕ) (x : Filesystem ℕ) → shown_by files (raise_in x) ≡ shown_by files x
    shown_same files x = elim (cases_Bool (is_among nat_eq x.number used)) [
      | inl e ↦ ap (shown_by files) (used_stays x e)
      | inr e ↦ either (list_any (λ n. nat_eq n x.number) changed) e
    ]
      where
        either : (b : Bool) → is_among nat_eq x.number used ≡ false
            → shown_by files (cond b (record x { change = raised x.change }) x) ≡ shown_by files x
        either true e = grind (arith, common_steps)
        either false e = refl

    each_shown : (x : Filesystem ℕ) → shown_of later used lowers (raise_in x) ≡ shown_of left used lowers x
    each_shown x = ap (λ n. shown_by (filesystem_numbered nat_eq later n).files (raise_in x)) (number_kept x)
        ∙ ap (λ files. shown_by files (raise_in x)) (raised_files before name changed left x.number)
        ∙ shown_same (filesystem_numbered nat_eq left x.number).files x

    -- a namespace of theirs is not raised
    abbrev raise_of : Namespace ℕ → Namespace ℕ
    raise_of namespace = raised_namespace nat_eq before left namespace

    namespace_number : (namespace : Namespace ℕ) → (raise_of namespace).number ≡ namespace.number
    namespace_number namespace = grind (arith, common_steps)

    own_stays : (namespace : Namespace ℕ) → is_own_namespace nat_eq left names namespace.number ≡ true
        → raise_of namespace ≡ namespace
    own_stays namespace own = ap (λ b. cond b namespace (record namespace { change = raised namespace.change }))
        (same_mounts sees is apart _ (ap (λ tasks. own_by tasks namespace.number) (sym sees.tasks) ∙ own))

    namespaces_raised : (part_of nat_eq later names).namespaces ≡ (part_of nat_eq left names).namespaces
    namespaces_raised = ap (λ tasks. filter (λ (n : Namespace ℕ). own_by tasks n.number) later.namespaces)
        members_raised ∙ filter-map (λ (n : Namespace ℕ). own_by (members left names) n.number) raise_of left.namespaces
        (λ n. ap (own_by (members left names)) (namespace_number n)) ∙ map_same _
        (filter (λ (n : Namespace ℕ). own_by (members left names) n.number) left.namespaces)
        (λ n m. own_stays n (among-from_filter (λ (n : Namespace ℕ). own_by (members left names) n.number)
        left.namespaces n m).1)

    pub sees_raised : SeesTheSame before later names
    sees_raised = record {
      tasks = members_raised ∙ sees.tasks;
      mounts = ap (λ tasks. filter_map (keep left names tasks) left.mounts) members_raised ∙ sees.mounts;
      masters = sees.masters;
      direct = λ number m. ap (λ o. unwrap_or o (no_filesystem number))
          (found_stays number (used_directly_used before names number
          (among_from_contains (used_directly nat_eq before names) number m)) left.filesystems) ∙ sees.direct number m;
      filesystems = filter_map_map (shown_of later used lowers) raise_in left.filesystems
          ∙ filter_map_same (λ x. shown_of later used lowers (raise_in x)) (shown_of left used lowers) left.filesystems
          (λ x m. each_shown x) ∙ sees.filesystems;
      namespaces = namespaces_raised ∙ sees.namespaces;
    }
