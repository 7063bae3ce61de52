-- What worlds and their parts keep.
use Rattle.std.proofs.Common.{Bool, List, None, Option, Some, [], ap, cond, eqb-true, false, filter, inl, inr, is_some, map, nat_eq, option_map, refl, subst, suc, sym, true, true≢false, zero, ℕ, ⊎_elim, ◌++◌, ◌||◌, ◌∙◌, ◌∷◌, ◌≡◌, ◌⊎◌}
use Rattle.std.proofs.lemmas.Bool.{and_parts}
use Rattle.std.specs.Cmp.Lexicographic.{bytes_decides}
use Rattle.std.specs.List.{find}
use Rattle.std.specs.Prelude.{flat_map, if◌then◌else◌, unwrap_or}
use Rattle.vt_spec.proofs.Lists.{Among, among-append_right, among-from_filter, among-from_flat_map, among-from_map}
use Rattle.vt_spec.specs.FileTree.{FileTree}
use Rattle.vt_spec.specs.Language.Calls.{TaskName, same_name}
use Rattle.vt_spec.specs.Language.Changes.{Change, without_parent}
use Rattle.vt_spec.specs.Lists.{Fresh, folded, holds_of, is_among}
use Rattle.vt_spec.specs.Machine.CopyUp.{Stack, name_left_by, with_mark, without_contents}
use Rattle.vt_spec.specs.Machine.Detach.{after_going, inherited_mount_point, taken_away, without_replaced}
use Rattle.vt_spec.specs.Machine.Filesystems.{filesystem_changed, overlay_changed, with_change}
use Rattle.vt_spec.specs.Machine.Invariants.{SameObject, Stands}
use Rattle.vt_spec.specs.Machine.Invariants.Stands.{at_root, on_parent}
use Rattle.vt_spec.specs.Machine.Locked.{of_overlay, overlay_or, upper_and_work}
use Rattle.vt_spec.specs.Machine.Mounts.{Location, Mount, children, detached, mount_in, no_mount, replaced_if_same, same_location, stands_on, tree_from, with_mount}
use Rattle.vt_spec.specs.Machine.Namespaces.{pivoted_mount}
use Rattle.vt_spec.specs.Machine.Outcomes.{Outcome}
use Rattle.vt_spec.specs.Machine.Policy.{finished_unless}
use Rattle.vt_spec.specs.Machine.Receives.{heir, inheriting, regrouped, regrouped_by}
use Rattle.vt_spec.specs.Machine.Settled.{only_used, only_used_by, used_in}
use Rattle.vt_spec.specs.Machine.Walking.{LastWord, is_dot, is_dot_dot, is_no_word, is_special}
use Rattle.vt_spec.specs.Machine.Walking.LastWord.{Dot, DotDot, Named, NoWord}
use Rattle.vt_spec.specs.Machine.World.{Filesystem, Layer, Overlay, Real, Task, World, filesystem_at, is_overlay, layers_of, mount_at, mount_numbered, replaced_if_called, replaced_if_numbered, upper_object, with_mounts}
use Rattle.vt_spec.specs.Machine.World.Real.{Lower, Upper}
use Rattle.vt_spec.specs.Tree.{Node}

-- names of tasks that are the same are one
pub same_task_name : (a b : TaskName) → same_name a b ≡ true → a ≡ b
same_task_name a b e = (bytes_decides a b).0 e

-- a name of a task is the same as itself
pub same_name_itself : (a : TaskName) → same_name a a ≡ true
same_name_itself a = (bytes_decides a a).1 refl

-- a name that is not that of another task is so the other way round
pub same_name-swapped : (a b : TaskName) → same_name a b ≡ false → same_name b a ≡ false
same_name-swapped a b differ = by (same_name b a) refl
  where
    by : (test : Bool) → same_name b a ≡ test → test ≡ false
    by false e = refl
    by true e =
        absurd (true≢false (sym (ap (λ n. same_name n b) (sym (same_task_name b a e)) ∙ same_name_itself b) ∙ differ))

-- a task that is replaced keeps its name
pub name-replaced_if_called : (new old : Task ℕ) → (replaced_if_called new old).name ≡ old.name
name-replaced_if_called new old = by (same_name new.name old.name) refl
  where
    by : (b : Bool) → same_name new.name old.name ≡ b → (cond b new old).name ≡ old.name
    by true e = same_task_name new.name old.name e
    by false e = refl

-- locations that are the same are one
pub same_location_is : (a b : Location ℕ) → same_location nat_eq a b ≡ true → a ≡ b
same_location_is a b h =
    let parts : (nat_eq a.mount b.mount ≡ true) × (nat_eq a.node b.node ≡ true) =
    and_parts (nat_eq a.mount b.mount) (nat_eq a.node b.node) h in
    let mounts : a.mount ≡ b.mount = eqb-true a.mount b.mount parts.0 in
    let nodes : a.node ≡ b.node = eqb-true a.node b.node parts.1 in
    λ i. record { mount = mounts i; node = nodes i }

-- a filesystem keeps its number when its unused inodes go
pub number-only_used : (world : World ℕ) (chosen : Bool) (filesystem : Filesystem ℕ)
    → (only_used nat_eq world chosen filesystem).number ≡ filesystem.number
number-only_used world true filesystem = by _
  where
    by : (b : Bool) → (only_used_by nat_eq b (used_in nat_eq world filesystem) filesystem).number ≡ filesystem.number
    by true = refl
    by false = refl
number-only_used world false filesystem = refl

-- a mount keeps its number when others go
pub number-after_going : (world : World ℕ) (gone : List ℕ) (mount : Mount ℕ)
    → (after_going nat_eq world gone mount).number ≡ mount.number
number-after_going world gone mount = by _
  where
    by : (b : Bool) → (cond b (detached mount) (record mount {
      mount_point = option_map (inherited_mount_point nat_eq world gone) mount.mount_point;
    })).number ≡ mount.number
    by true = refl
    by false = refl

-- and its filesystem
pub filesystem-after_going : (world : World ℕ) (gone : List ℕ) (mount : Mount ℕ)
    → (after_going nat_eq world gone mount).filesystem ≡ mount.filesystem
filesystem-after_going world gone mount = by _
  where
    by : (b : Bool) → (cond b (detached mount) (record mount {
      mount_point = option_map (inherited_mount_point nat_eq world gone) mount.mount_point;
    })).filesystem ≡ mount.filesystem
    by true = refl
    by false = refl

-- a change of mounts that keeps their numbers and filesystems
pub shown-mapped : (f : Mount ℕ → Mount ℕ) → ((mount : Mount ℕ) → (f mount).number ≡ mount.number)
    → ((mount : Mount ℕ) → (f mount).filesystem ≡ mount.filesystem) → (mounts : List (Mount ℕ)) (number : ℕ)
    → (mount_in nat_eq (map f mounts) number).filesystem ≡ (mount_in nat_eq mounts number).filesystem
shown-mapped f same_number same_filesystem [] number = refl
shown-mapped f same_number same_filesystem (mount ∷ mounts) number =
    ap (λ n. (unwrap_or (cond (nat_eq number n) (Some (f mount)) (find (λ m. nat_eq number m.number) (map f mounts)))
    (no_mount number)).filesystem) (same_number mount)
    ∙ by (nat_eq number mount.number) (shown-mapped f same_number same_filesystem mounts number)
  where
    by : (b : Bool) → (mount_in nat_eq (map f mounts) number).filesystem ≡ (mount_in nat_eq mounts number).filesystem
        → (unwrap_or (cond b (Some (f mount)) (find (λ m. nat_eq number m.number) (map f mounts)))
        (no_mount number)).filesystem
        ≡ (unwrap_or (cond b (Some mount) (find (λ m. nat_eq number m.number) mounts)) (no_mount number)).filesystem
    by true rest = same_filesystem mount
    by false rest = rest

-- the filesystems stay when groups are renewed
pub filesystems-regrouped : (world : World ℕ) → (regrouped nat_eq world).filesystems ≡ world.filesystems
filesystems-regrouped world = by _
  where
    by : (b : Bool) → (regrouped_by nat_eq b world).filesystems ≡ world.filesystems
    by true = refl
    by false = refl

-- and what a mount shows
pub shown-regrouped : (world : World ℕ) (number : ℕ)
    → (mount_in nat_eq (regrouped nat_eq world).mounts number).filesystem
    ≡ (mount_in nat_eq world.mounts number).filesystem
shown-regrouped world number = by _
  where
    by : (b : Bool) → (mount_in nat_eq (regrouped_by nat_eq b world).mounts number).filesystem
        ≡ (mount_in nat_eq world.mounts number).filesystem
    by true = shown-mapped (inheriting nat_eq world) (λ mount. refl) (λ mount. refl) world.mounts number
    by false = refl

-- and the tasks
pub tasks-regrouped : (world : World ℕ) → (regrouped nat_eq world).tasks ≡ world.tasks
tasks-regrouped world = by _
  where
    by : (b : Bool) → (regrouped_by nat_eq b world).tasks ≡ world.tasks
    by true = refl
    by false = refl

-- the filesystems stay when mounts are taken away
pub filesystems-taken_away : (world : World ℕ) (gone : List ℕ)
    → (taken_away nat_eq world gone).filesystems ≡ world.filesystems
filesystems-taken_away world gone =
    filesystems-regrouped (with_mounts world (map (after_going nat_eq world gone) world.mounts))

-- and what a location shows
pub shown-taken_away : (world : World ℕ) (gone : List ℕ) (location : Location ℕ)
    → (mount_at nat_eq (taken_away nat_eq world gone) location).filesystem ≡ (mount_at nat_eq world location).filesystem
shown-taken_away world gone location =
    shown-regrouped (with_mounts world (map (after_going nat_eq world gone) world.mounts)) location.mount
    ∙ shown-mapped (after_going nat_eq world gone) (number-after_going world gone)
    (filesystem-after_going world gone) world.mounts location.mount

-- and the tasks
pub tasks-taken_away : (world : World ℕ) (gone : List ℕ) → (taken_away nat_eq world gone).tasks ≡ world.tasks
tasks-taken_away world gone = tasks-regrouped (with_mounts world (map (after_going nat_eq world gone) world.mounts))

-- the filesystems stay when what is mounted on a replaced object goes
pub filesystems-without_replaced : (world : World ℕ) (replaced : Option (Location ℕ))
    → (without_replaced nat_eq world replaced).filesystems ≡ world.filesystems
filesystems-without_replaced world None = refl
filesystems-without_replaced world (Some location) = filesystems-taken_away world _

-- and what a location shows
pub shown-without_replaced : (world : World ℕ) (replaced : Option (Location ℕ)) (location : Location ℕ)
    → (mount_at nat_eq (without_replaced nat_eq world replaced) location).filesystem
    ≡ (mount_at nat_eq world location).filesystem
shown-without_replaced world None location = refl
shown-without_replaced world (Some gone) location = shown-taken_away world _ location

-- and the tasks
pub tasks-without_replaced : (world : World ℕ) (replaced : Option (Location ℕ))
    → (without_replaced nat_eq world replaced).tasks ≡ world.tasks
tasks-without_replaced world None = refl
tasks-without_replaced world (Some location) = tasks-taken_away world _

-- a change keeps the tasks
pub tasks-with_change : (fresh : Fresh ℕ) (world : World ℕ) (location : Location ℕ) (change : Change ℕ)
    → (with_change nat_eq fresh world location change).tasks ≡ world.tasks
tasks-with_change fresh world location change = by (filesystem_at nat_eq world location).overlay
  where
    by_upper : (overlay : Overlay ℕ) (o : Option (Layer ℕ))
        → (overlay_changed nat_eq fresh world (filesystem_at nat_eq world location) overlay o change).tasks
        ≡ world.tasks
    by_upper overlay None = refl
    by_upper overlay (Some upper) = refl

    by : (o : Option (Overlay ℕ))
        → (filesystem_changed nat_eq fresh world (filesystem_at nat_eq world location) o change).tasks ≡ world.tasks
    by None = refl
    by (Some overlay) = by_upper overlay overlay.upper

-- a mount whose number is listed is among the mounts
pub mount_in-among : (mounts : List (Mount ℕ)) (number : ℕ)
    → is_among nat_eq number (map (λ mount. mount.number) mounts) ≡ true → Among (mount_in nat_eq mounts number) mounts
mount_in-among [] number h = absurd (true≢false (sym h))
mount_in-among (first ∷ rest) number h = by (nat_eq number first.number) h (mount_in-among rest number)
  where
    by : (b : Bool) → (b || is_among nat_eq number (map (λ (mount : Mount ℕ). mount.number) rest)) ≡ true
        → (is_among nat_eq number (map (λ (mount : Mount ℕ). mount.number) rest) ≡ true
        → Among (mount_in nat_eq rest number) rest)
        → Among (unwrap_or (cond b (Some first) (find (λ x. nat_eq number x.number) rest)) (no_mount number))
        (first ∷ rest)
    by true f later = inl refl
    by false f later = inr (later f)

-- who receives from nobody does so when groups are renewed
pub master-regrouped_by : (b : Bool) (any : World ℕ) (group : ℕ) → any.master group ≡ None
    → (regrouped_by nat_eq b any).master group ≡ None
master-regrouped_by true any group e = ap (heir nat_eq any) e
master-regrouped_by false any group e = e

-- what stands in a world stands where the mounts are as they were
pub stands_alike : (before later : World ℕ)
    → ((number : ℕ) → mount_numbered nat_eq later number ≡ mount_numbered nat_eq before number)
    → (number : ℕ) → Stands nat_eq before number → Stands nat_eq later number
stands_alike before later same number (at_root it e) = at_root it (ap (λ (m : Mount ℕ). m.mount_point) (same it) ∙ e)
stands_alike before later same number (on_parent it place e f stands) =
    on_parent it place (ap (λ (m : Mount ℕ). m.mount_point) (same it) ∙ e)
    (ap (λ (m : Mount ℕ). m.namespace) (same it) ∙ f ∙ ap (λ (m : Mount ℕ). m.namespace) (sym (same place.mount)))
    (stands_alike before later same place.mount stands)

-- a mount keeps its number in a pivot
pub number-pivoted_mount : (root new : Mount ℕ) (put : Location ℕ) (mount : Mount ℕ)
    → (pivoted_mount nat_eq root new put mount).number ≡ mount.number
number-pivoted_mount root new put mount = by (nat_eq mount.number new.number) (nat_eq mount.number root.number)
  where
    by : (a b : Bool) → (if a then (record mount { mount_point = root.mount_point }) else if b then
        (record mount { mount_point = Some put }) else mount).number ≡ mount.number
    by true b = refl
    by false true = refl
    by false false = refl

-- a filesystem that is replaced keeps its number
pub number-replaced_if_numbered : (new f : Filesystem ℕ) → (replaced_if_numbered nat_eq new f).number ≡ f.number
number-replaced_if_numbered new f = by (nat_eq new.number f.number) refl
  where
    by : (b : Bool) → nat_eq new.number f.number ≡ b → (cond b new f).number ≡ f.number
    by true e = eqb-true new.number f.number e
    by false e = refl

-- a mark keeps the root
pub root-marked : (mark : Bool) (upper : FileTree ℕ) (object : ℕ)
    → (with_mark nat_eq mark upper object).tree.root ≡ upper.tree.root
root-marked true upper object = refl
root-marked false upper object = refl

-- a directory that is emptied keeps the root
pub root-emptied : (upper : FileTree ℕ) (object : Option ℕ) → (without_contents nat_eq upper object).tree.root
    ≡ upper.tree.root
root-emptied upper None = refl
root-emptied upper (Some object) = refl

-- an object that loses its parent keeps the root
pub root-without_parent : (files : FileTree ℕ) (object : Option ℕ)
    → (without_parent nat_eq files object).tree.root ≡ files.tree.root
root-without_parent files None = refl
root-without_parent files (Some object) = refl

-- and its numbers
pub numbers-without_parent : (files : FileTree ℕ) (object : Option ℕ)
    → (without_parent nat_eq files object).numbers ≡ files.numbers
numbers-without_parent files None = refl
numbers-without_parent files (Some object) = refl

-- a name that is left keeps the root
pub root-name_left_by : (hidden : Bool) (fresh : Fresh ℕ) (stack : Stack ℕ) (upper : FileTree ℕ) (directory : ℕ)
    (name : List ℕ) → (name_left_by nat_eq hidden fresh stack upper directory name).tree.root ≡ upper.tree.root
root-name_left_by true fresh stack upper directory name = refl
root-name_left_by false fresh stack upper directory name = refl

-- what is finished keeps its answer
pub answer-finished_unless : (looks : Bool) (world : World ℕ) (name : TaskName) (changed : List ℕ) (outcome : Outcome ℕ)
    → (finished_unless nat_eq looks world name changed outcome).answer ≡ outcome.answer
answer-finished_unless true world name changed outcome = refl
answer-finished_unless false world name changed outcome = refl

-- a mount that is looked for has the number
pub number-mount_in : (mounts : List (Mount ℕ)) (number : ℕ) → (mount_in nat_eq mounts number).number ≡ number
number-mount_in [] number = refl
number-mount_in (first ∷ rest) number = by (nat_eq number first.number) refl (number-mount_in rest number)
  where
    by : (b : Bool) → nat_eq number first.number ≡ b → (mount_in nat_eq rest number).number ≡ number
        → (unwrap_or (cond b (Some first) (find (λ x. nat_eq number x.number) rest)) (no_mount number)).number ≡ number
    by true e next = sym (eqb-true number first.number e)
    by false e next = next

-- mounts that are added are there, or were
pub among-folded_mounts : (mounts copies : List (Mount ℕ)) (mount : Mount ℕ)
    → Among mount (folded (with_mount nat_eq) mounts copies) → Among mount mounts ⊎ Among mount copies
among-folded_mounts mounts [] mount m = inl m
among-folded_mounts mounts (copy ∷ copies) mount m = ⊎_elim (λ first.
    let from = among-from_map (replaced_if_same nat_eq copy) mounts mount first in
    ⊎_elim (λ e. inr (inl e)) inl
    (subst (λ x. (x ≡ copy) ⊎ Among x mounts) (sym from.2) (by from.0 (nat_eq copy.number from.0.number) from.1)))
    (λ later. inr (inr later)) (among-folded_mounts (with_mount nat_eq mounts copy) copies mount m)
  where
    by : (old : Mount ℕ) (b : Bool) → Among old mounts
        → ((if b then copy else old) ≡ copy) ⊎ Among (if b then copy else old) mounts
    by old true n = inl refl
    by old false n = inr n

-- a lower layer is a layer
pub lower_is_layer : (overlay : Overlay ℕ) (lower : Layer ℕ) → Among lower overlay.lowers
    → Among lower (layers_of overlay)
lower_is_layer overlay lower m = among-append_right (upper_and_work overlay) overlay.lowers lower m

-- what has an upper object is that object
pub upper_real : (o : Option (Real ℕ)) (object : ℕ) → holds_of (nat_eq object) (upper_object o) ≡ true
    → o ≡ Some (Upper object)
upper_real None object e = absurd (true≢false (sym e))
upper_real (Some (Upper other)) object e = ap (λ n. Some (Upper n)) (sym (eqb-true object other e))
upper_real (Some (Lower depth path)) object e = absurd (true≢false (sym e))

-- what stands in an upper layer stands where what has an upper object keeps it
pub stands_still : (real : ℕ → Option (Real ℕ)) (grown : ℕ → Option (Real ℕ))
    → ((number object : ℕ) → upper_object (real number) ≡ Some object → upper_object (grown number) ≡ Some object)
    → (number : ℕ) → is_some (upper_object (real number)) ≡ true → is_some (upper_object (grown number)) ≡ true
stands_still real grown grows number h = by (upper_object (real number)) refl h
  where
    by : (o : Option ℕ) → upper_object (real number) ≡ o → is_some o ≡ true
        → is_some (upper_object (grown number)) ≡ true
    by None e h = absurd (true≢false (sym h))
    by (Some object) e h = ap is_some (grows number object e)

-- a word that is none of the special ones is not special
pub special_word : (last : LastWord) → is_dot_dot last ≡ false → is_dot last ≡ false → is_no_word last ≡ false
    → is_special last ≡ false
special_word NoWord a b c = c
special_word Dot a b c = b
special_word DotDot a b c = a
special_word (Named name) a b c = refl

-- a mount that is looked for is there, or is none
pub found_or_none : (mounts : List (Mount ℕ)) (number : ℕ) → Among (mount_in nat_eq mounts number) mounts
    ⊎ (mount_in nat_eq mounts number ≡ no_mount number)
found_or_none [] number = inr refl
found_or_none (first ∷ rest) number = by (nat_eq number first.number) (found_or_none rest number)
  where
    by : (b : Bool) → Among (mount_in nat_eq rest number) rest ⊎ (mount_in nat_eq rest number ≡ no_mount number)
        → Among (unwrap_or (cond b (Some first) (find (λ x. nat_eq number x.number) rest)) (no_mount number))
        (first ∷ rest) ⊎ (unwrap_or (cond b (Some first) (find (λ x. nat_eq number x.number) rest)) (no_mount number)
        ≡ no_mount number)
    by true later = inl (inl refl)
    by false later = ⊎_elim (λ m. inl (inr m)) inr later

-- a mount of a tree is its root or one of the list
pub tree_among : (depth : ℕ) (mounts : List (Mount ℕ)) (top mount : Mount ℕ)
    → Among mount (tree_from nat_eq depth mounts top) → (mount ≡ top) ⊎ Among mount mounts
tree_among zero mounts top mount m = ⊎_elim inl (λ none. absurd none) m
tree_among (suc depth) mounts top mount m = ⊎_elim inl (λ later.
    let under = among-from_flat_map (tree_from nat_eq depth mounts) (children nat_eq mounts top.number) mount later in
    let child : Among under.0 mounts × (stands_on nat_eq top.number under.0 ≡ true) =
    among-from_filter (stands_on nat_eq top.number) mounts under.0 under.1 in
    inr (⊎_elim (λ e. subst (λ x. Among x mounts) (sym e) child.0) (λ l. l)
    (tree_among depth mounts under.0 mount under.2))) m

-- layers of all filesystems are those of overlays
pub layers_of_all : (layers : Overlay ℕ → List (Layer ℕ)) (list : List (Filesystem ℕ))
    → flat_map (of_overlay [] layers) (filter is_overlay list) ≡ flat_map (of_overlay [] layers) list
layers_of_all layers [] = refl
layers_of_all layers (f ∷ rest) = by f.overlay refl (layers_of_all layers rest)
  where
    by : (o : Option (Overlay ℕ)) → f.overlay ≡ o
        → flat_map (of_overlay [] layers) (filter is_overlay rest) ≡ flat_map (of_overlay [] layers) rest
        → flat_map (of_overlay [] layers)
        (cond (is_some f.overlay) (f ∷ filter is_overlay rest) (filter is_overlay rest))
        ≡ overlay_or [] layers f.overlay ++ flat_map (of_overlay [] layers) rest
    by None e same =
        ap (λ b. flat_map (of_overlay [] layers) (cond b (f ∷ filter is_overlay rest) (filter is_overlay rest)))
        (ap is_some e) ∙ same ∙ sym (ap (λ o. overlay_or [] layers o ++ flat_map (of_overlay [] layers) rest) e)
    by (Some v) e same =
        ap (λ b. flat_map (of_overlay [] layers) (cond b (f ∷ filter is_overlay rest) (filter is_overlay rest)))
        (ap is_some e) ∙ ap (λ l. overlay_or [] layers f.overlay ++ l) same

-- what is there is not the same object as nothing
pub nothing_is_no_object : (node : Option (Node ℕ)) → is_some node ≡ true → SameObject node None → ⊥
nothing_is_no_object None t same = true≢false (sym t)
nothing_is_no_object (Some node) t same = same
