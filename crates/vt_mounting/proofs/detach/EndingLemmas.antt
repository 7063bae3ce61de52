-- Mounts of a namespace that are detached one after the other, and what is left where a task leaves one.
use Rattle.std.proofs.Common.{◌≡◌, ◌≢◌, ◌<◌, ◌≤◌, refl, sym, ap, subst, ◌∙◌, ⊎_elim, inl, inr, ℕ, ◌+◌, ◌-◌, nat_eq, nat_lt, eqb-true, eq-eqb, Bool, true, false, true≢false, cond, not, ◌&&◌, ◌||◌, List, [], ◌∷◌, ◌++◌, length, map, filter, Option, Some, None, option_map, arith, IfSome, nat_le, slice_get, option_and_then}
use Rattle.vt_spec.proofs.Common.{Mount, common_steps, holds_of, keys_of, list_any, lookup, remove_entry, same_Some, set_value}
use Rattle.std.specs.List.{IsDistinct}
use Rattle.vt_mounting.proofs.Common.{Among, Filesystems, Grouping, MountEntry, NamespaceEntry, among-from_filter, among-from_map, among-map, among_from_list_all, are_ascending, changed, counted, entries_of, entry_numbered, is_small_node, location_of, mounts_in, none_from_among, without}
use Rattle.vt_laws_trees.proofs.trees.Lists.{nth_among}
use Rattle.vt_location.specs.declared.locations.Location.{Location}
use Rattle.vt_location.specs.declared.numbers.MountId.{MountId}
use Rattle.vt_world.specs.declared.namespaces.Namespace.{Namespace}
use Rattle.vt_mounting.specs.Detach.NamespacesLeft.{AreDetached, Detached, EndsIf, IsAttached, MountsAreLeft, NamespaceIsLeft, entries_left, has_one_task, is_attached_in, namespace_entry, one_task_less, with_one_task_less}
use Rattle.vt_mounting.specs.Detach.Uses.{Kept, Merged, detached_entry, is_unused, kept_with, let_go_entry, let_go_mount, point_of, without_attachment}
use Rattle.vt_mounting.proofs.detach.NamespaceEntries.{Entries, entries_removed, entries_written, entry_found, is_id, same_namespace}

pub one_more_detached : {namespace : ℕ} (gone : List Detached) {one : Detached} (old : Kept) {now : Kept}
    → AreDetached namespace gone old now → IsAttached namespace now one
    → AreDetached namespace (gone ++ (one ∷ [])) old (without_attachment one.number one.point now)
one_more_detached {namespace} [] {one} old are is =
    (subst (λ k. IsAttached namespace k one) are is, ap (without_attachment one.number one.point) are)
one_more_detached {namespace} (first ∷ rest) {one} old {now} are is =
    (are.0, one_more_detached rest (without_attachment first.number first.point old) are.1 is)

nothing_last : {A : Type 0} (xs : List A) → slice_get xs (length xs - 1) ≡ None → xs ≡ []
nothing_last [] e = refl
nothing_last (x ∷ xs) e = absurd (some xs x e)
  where
    some : {A : Type 0} (xs : List A) (x : A) → slice_get (x ∷ xs) (length (x ∷ xs) - 1) ≡ None → ⊥
    some [] x f = cc
    some (y ∷ ys) x f = some ys y (ap (λ n. slice_get (x ∷ y ∷ ys) n) (same (length ys)) ∙ f)
      where
        same : (n : ℕ) → Rattle.std.proofs.Common.suc ((Rattle.std.proofs.Common.suc n) - 1)
            ≡ Rattle.std.proofs.Common.suc (Rattle.std.proofs.Common.suc n) - 1
        same n = omega arith

-- mounts in the order of their numbers

pub entry_ascending : (entries : List MountEntry) → are_ascending (mounts_in entries) ≡ true → (entry : MountEntry)
    → Among entry entries → entry_numbered entries entry.mount.number ≡ Some entry
entry_ascending [] rising entry m = absurd m
entry_ascending (x ∷ xs) rising entry m =
    grind (arith, common_steps, entry_ascending xs, among_from_list_all, among-map, eqb-true, eq-eqb)

-- the mount that is listed last for a namespace is attached in it
pub listed_entry : (entries : List MountEntry) (namespace : ℕ) (ids : List MountId) {last : MountId}
    → are_ascending (mounts_in entries) ≡ true → map (λ (id : MountId). counted id.count) ids
    ≡ map (λ mount. mount.number) (filter (λ mount. holds_of (nat_eq namespace) mount.namespace) (mounts_in entries))
    → slice_get ids (length ids - 1) ≡ Some last
    → (entry : MountEntry) × (entry_numbered entries (counted last.count) ≡ Some entry)
    × (entry.mount.namespace ≡ Some namespace)
listed_entry entries namespace ids {last} rising listed found =
    let m = subst (λ all. Among (counted last.count) all) listed
    (among-map (λ (id : MountId). counted id.count) ids last (nth_among ids (length ids - 1) last found)) in
    let mount = among-from_map (λ (x : Mount ℕ). x.number)
    (filter (λ mount. holds_of (nat_eq namespace) mount.namespace) (mounts_in entries)) (counted last.count) m in
    let inside = among-from_filter (λ (x : Mount ℕ). holds_of (nat_eq namespace) x.namespace)
    (mounts_in entries) mount.0 mount.1 in
    let entry = among-from_map (λ (one : MountEntry). one.mount) entries mount.0 inside.0 in (
      entry.0,
      ap (entry_numbered entries) (mount.2 ∙ ap (λ (x : Mount ℕ). x.number) entry.2)
          ∙ entry_ascending entries rising entry.0 entry.1,
      ap (λ (x : Mount ℕ). x.namespace) (sym entry.2) ∙ holds mount.0.namespace inside.1,
    )
  where
    holds : (o : Option ℕ) → holds_of (nat_eq namespace) o ≡ true → o ≡ Some namespace
    holds None e = absurd (true≢false (sym e))
    holds (Some n) e = ap Some (sym (eqb-true namespace n e))

pub none_listed : (entries : List MountEntry) (namespace : ℕ) (ids : List MountId)
    → map (λ (id : MountId). counted id.count) ids
    ≡ map (λ mount. mount.number) (filter (λ mount. holds_of (nat_eq namespace) mount.namespace) (mounts_in entries))
    → slice_get ids (length ids - 1) ≡ None → list_any (is_attached_in namespace) entries ≡ false
none_listed entries namespace ids listed none =
    none_from_among (is_attached_in namespace) entries (λ entry m. by entry m (is_attached_in namespace entry) refl)
  where
    empty : map (λ mount. mount.number)
        (filter (λ mount. holds_of (nat_eq namespace) mount.namespace) (mounts_in entries)) ≡ []
    empty = sym listed ∙ ap (map (λ (id : MountId). counted id.count)) (nothing_last ids none)

    by : (entry : MountEntry) → Among entry entries → (b : Bool) → is_attached_in namespace entry ≡ b → b ≡ false
    by entry m false e = refl
    by entry m true e =
        let here = among-map (λ (x : Mount ℕ). x.number)
        (filter (λ mount. holds_of (nat_eq namespace) mount.namespace) (mounts_in entries)) entry.mount
        (Rattle.vt_laws_mounts.proofs.letting_go.Lists.among-filter (λ (x : Mount ℕ). holds_of (nat_eq namespace) x.namespace)
        (mounts_in entries) entry.mount (among-map (λ (one : MountEntry). one.mount) entries entry m) e) in
        absurd (subst (λ all. Among entry.mount.number all) empty here)

-- fewer are left after each

module _ (namespace : ℕ) where
  abbrev still : List MountEntry → ℕ
  still entries = length (filter (is_attached_in namespace) entries)

  fewer_without : (number : ℕ) (entries : List MountEntry) → still (without number entries) ≤ still entries
  fewer_without number [] = omega arith
  fewer_without number (x ∷ xs) = grind (arith, common_steps, fewer_without number xs)

  fewer_changed : (number : ℕ) (entries : List MountEntry)
      → still (changed number detached_entry entries) ≤ still entries
  fewer_changed number [] = omega arith
  fewer_changed number (x ∷ xs) = grind (arith, common_steps, fewer_changed number xs)

  one_fewer : (number : ℕ) (entries : List MountEntry) {entry : MountEntry} → entry_numbered entries number ≡ Some entry
      → is_attached_in namespace entry ≡ true → still (changed number detached_entry entries) < still entries
  one_fewer number [] found inside = absurd cc
  one_fewer number (x ∷ xs) {entry} found inside =
      by (nat_eq number x.mount.number) found (is_attached_in namespace x) refl (fewer_changed number xs)
      (λ e. one_fewer number xs e inside)
    where
      by : (b : Bool) → cond b (Some x) (entry_numbered xs number) ≡ Some entry → (c : Bool)
          → is_attached_in namespace x ≡ c → still (changed number detached_entry xs) ≤ still xs
          → (entry_numbered xs number ≡ Some entry → still (changed number detached_entry xs) < still xs)
          → still (cond b (detached_entry x) x ∷ changed number detached_entry xs) < length
          (cond c (x ∷ filter (is_attached_in namespace) xs) (filter (is_attached_in namespace) xs))
      by true e true f few later = omega (arith, few)
      by true e false f few later = absurd
          (true≢false (sym inside ∙ ap (is_attached_in namespace) (sym (same_Some x entry e)) ∙ f))
      by false e true f few later =
          let less = later e in
          let same = ap (λ d. length (cond d (x ∷ filter (is_attached_in namespace) (changed number detached_entry xs))
          (filter (is_attached_in namespace) (changed number detached_entry xs)))) f in
          omega (arith, same, less)
      by false e false f few later =
          let less = later e in
          let same = ap (λ d. length (cond d (x ∷ filter (is_attached_in namespace) (changed number detached_entry xs))
          (filter (is_attached_in namespace) (changed number detached_entry xs)))) f in
          omega (arith, same, less)

  fewer_let_go : (number : ℕ) (k : Kept) → still (let_go_mount number k).mounts ≤ still k.mounts
  fewer_let_go number k = grind (arith, common_steps, fewer_without)

  pub one_detached_less : (k : Kept) (one : Detached) → IsAttached namespace k one
      → length (filter (is_attached_in namespace) (without_attachment one.number one.point k).mounts) < length
      (filter (is_attached_in namespace) k.mounts)
  one_detached_less k one is =
      let few = fewer_let_go one.number (Rattle.vt_mounting.specs.Detach.Uses.detached_use one.number one.point k) in
      let less = one_fewer one.number k.mounts is.found
      (ap (holds_of (nat_eq namespace)) is.inside ∙ eq-eqb namespace namespace refl) in
      omega (arith, few, less)

-- A step of the loop

pub attached_so : (namespace : ℕ) (mounts : List MountEntry) (filesystems : Filesystems) (overlays : List Merged)
    (ids : List MountId) {last : MountId} (point : Option Location) → are_ascending (mounts_in mounts) ≡ true
    → map (λ (id : MountId). counted id.count) ids
    ≡ map (λ mount. mount.number) (filter (λ mount. holds_of (nat_eq namespace) mount.namespace) (mounts_in mounts))
    → slice_get ids (length ids - 1) ≡ Some last → option_map location_of point ≡ point_of (counted last.count) mounts
    → IfSome point (λ place. is_small_node place.node ≡ true)
    → IsAttached namespace (kept_with mounts filesystems overlays) (record { number = counted last.count; point = point })
attached_so namespace mounts filesystems overlays ids {last} point rising listed found is slot =
    let entry = listed_entry mounts namespace ids rising listed found in record {
      entry = entry.0;
      found = entry.1;
      inside = entry.2;
      point = is ∙ ap (option_and_then (λ (one : MountEntry). one.mount.mount_point)) entry.1;
      slot = slot;
    }

-- What `leave_namespace` leaves

module _ (count : ℕ) (es : Entries) where
  pub absent_left : (new : Entries) → lookup (is_id count) es ≡ None → new ≡ es
      → entries_of new ≡ with_one_task_less count (entries_of es)
  absent_left new none same = ap entries_of same
      ∙ sym (ap (entries_left count (entries_of es)) (entry_found count es None none))

  pub absent_mounts : (namespace : ℕ) (k : Kept) (groups : Grouping) → lookup (is_id count) es ≡ None
      → MountsAreLeft namespace (namespace_entry count (entries_of es)) k groups k groups
  absent_mounts namespace k groups none =
      subst (λ o. MountsAreLeft namespace o k groups k groups) (sym (entry_found count es None none)) (refl, refl)

  last_or_not : {namespace : Namespace} {b : Bool} → lookup (is_id count) es ≡ Some namespace
      → nat_le namespace.tasks 1 ≡ b
      → (entry : NamespaceEntry) × (namespace_entry count (entries_of es) ≡ Some entry) × (has_one_task entry ≡ b)
  last_or_not {namespace} found is =
      (record { count = count; tasks = namespace.tasks }, entry_found count es (Some namespace) found, is)

  pub fewer_left : {old : Namespace} (new : Namespace) {entries : Entries} → IsDistinct same_namespace (keys_of es)
      → lookup (is_id count) es ≡ Some old
      → nat_le old.tasks 1 ≡ false → new.tasks ≡ old.tasks - 1 → entries ≡ set_value (is_id count) es new
      → entries_of entries ≡ with_one_task_less count (entries_of es)
  fewer_left {old} new distinct found many less is =
      let entry = last_or_not found many in
      cc (
        entries_written count one_task_less es old new distinct found (λ id i. record {
          count = id.count;
          tasks =
              less i;
        }),
        entry.1,
        entry.2,
      )

  pub fewer_mounts : (namespace : ℕ) (k : Kept) (groups : Grouping) {old : Namespace}
      → lookup (is_id count) es ≡ Some old
      → nat_le old.tasks 1 ≡ false → MountsAreLeft namespace (namespace_entry count (entries_of es)) k groups k groups
  fewer_mounts namespace k groups {old} found many =
      let entry = last_or_not found many in
      subst (λ o. MountsAreLeft namespace o k groups k groups) (sym entry.1)
      (subst (λ b. EndsIf b namespace k groups k groups) (sym entry.2) (refl, refl))

  pub last_left : {old : Namespace} {entries : Entries} → lookup (is_id count) es ≡ Some old → nat_le old.tasks 1 ≡ true
      → entries ≡ remove_entry (is_id count) es → lookup (is_id count) entries ≡ None
      → entries_of entries ≡ with_one_task_less count (entries_of es)
  last_left {old} found last is absent =
      let entry = last_or_not found last in
      cc (entries_removed count es (ap (lookup (is_id count)) (sym is) ∙ absent), entry.1, entry.2)

  pub last_mounts : {namespace : ℕ} {k : Kept} {before : Grouping} {new : Kept} {now : Grouping} {old : Namespace}
      → lookup (is_id count) es ≡ Some old → nat_le old.tasks 1 ≡ true → NamespaceIsLeft namespace k before new now
      → MountsAreLeft namespace (namespace_entry count (entries_of es)) k before new now
  last_mounts {namespace} {k} {before} {new} {now} {old} found last ends =
      let entry = last_or_not found last in
      subst (λ o. MountsAreLeft namespace o k before new now) (sym entry.1)
      (subst (λ b. EndsIf b namespace k before new now) (sym entry.2) ends)
