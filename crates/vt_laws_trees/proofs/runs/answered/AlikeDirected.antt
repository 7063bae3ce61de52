-- Directives are answered alike in two worlds that are alike.
use Rattle.std.proofs.Common.{arith, ◌≡◌, refl, sym, ap, subst, ◌∙◌, ℕ, nat_eq, Bool, true, false, not, ◌&&◌, ◌||◌, ◌+◌, List, [], ◌∷◌, ◌++◌, map, filter, flat_map, Option, Some, None, Ok, is_some, option_map, option_to_list}
use Rattle.vt_spec.proofs.Common.{AskPeers, AskSealed, Directive, FileTree, Filesystem, Layer, Location, Mount, Namespace, Overlay, PeerList, SameFiles, SameFilesystem, Task, TaskName, World, YesNo, all_named, change_layers, common_steps, counted_from, directed, each_once, filesystem_numbered, granted, groups_seen, holds_all_tasks, holds_of, is_among, is_lower_root, is_member_of, is_member_task, is_overlay, is_own_namespace, judged, list_all, list_any, list_any-IsPermutation, locations, locations_of, members, mount_at, named_in, no_outsider_on, no_outsider_on_mounts, number_among, outsiders, overlay_or, overlays, peer_lines, sealed, share_events, shares_no_events, targets_in, task_called, used_alone, used_directly, used_filesystems, wholly_locked}
use Rattle.vt_laws_trees.proofs.runs.answered.AlikeApplied.{OutcomesAlike}
use Rattle.vt_laws_trees.proofs.runs.answered.AlikeChanges.{found_alike, task_alike}
use Rattle.vt_laws_trees.proofs.runs.answered.AlikeWorlds.{Alike, SameNamespace, SameTask, mounts_of_one, with_mounts_of}
use Rattle.vt_laws_trees.proofs.runs.EachHas.{each_all}
use Rattle.vt_laws_trees.proofs.runs.Each.{Each, IfAny, each_any, each_filter, each_flat, each_to_one}
use Rattle.vt_laws_trees.proofs.runs.Permuted.{IsPermutation-flat_map, list_all-IsPermutation}
use Rattle.vt_spec.specs.declared.errors.Rule.TheVariants.{S2}
use Rattle.vt_spec.specs.Language.Answers.{PeerLine}
use Rattle.vt_spec.specs.Machine.Listing.{attached_in, is_slave_of}
use Rattle.vt_spec.specs.Machine.Sealed.{no_such_task}

-- Peers
module _ (one other : World ℕ) (same : Alike one (with_mounts_of one other)) where
  attached_from : (k : ℕ) (ones others : List (Namespace ℕ)) → Each SameNamespace ones others
      → flat_map (attached_in nat_eq one) (counted_from k ones)
      ≡ flat_map (attached_in nat_eq (with_mounts_of one other)) (counted_from k others)
  attached_from k [] [] each = refl
  attached_from k [] (b ∷ others) each = absurd each
  attached_from k (a ∷ ones) [] each = absurd each
  attached_from k (a ∷ ones) (b ∷ others) each = λ i.
      attached_in nat_eq one (k, each.0 i) ++ attached_from (k + 1) ones others each.1 i

  -- the lines of peers, by the mounts that are attached
  abbrev places_among : List (ℕ × ℕ × Mount ℕ) → (Mount ℕ → Bool) → List (ℕ × ℕ)
  places_among attached test = map (λ (mount : ℕ × ℕ × Mount ℕ). (mount.0, mount.1))
      (filter (λ (mount : ℕ × ℕ × Mount ℕ). test mount.2) attached)

  abbrev seen_among : List (ℕ × ℕ × Mount ℕ) → List ℕ
  seen_among attached = groups_seen nat_eq one (map (λ (mount : ℕ × ℕ × Mount ℕ). mount.2) attached)

  abbrev lines_by : List (ℕ × ℕ × Mount ℕ) → List PeerLine
  lines_by attached = map (λ group. record {
    group = number_among nat_eq (seen_among attached) group;
    master = option_map (number_among nat_eq (seen_among attached)) (one.master group);
    peers = places_among attached (is_member_of nat_eq group);
    slaves = places_among attached (is_slave_of nat_eq group);
  }) (seen_among attached)

  peers_same : peer_lines nat_eq one ≡ peer_lines nat_eq (with_mounts_of one other)
  peers_same = ap lines_by (attached_from 1 one.namespaces other.namespaces same.namespaces)

pub peers_alike : (one other : World ℕ) → Alike one other → peer_lines nat_eq one ≡ peer_lines nat_eq other
peers_alike one other same =
    mounts_of_one (λ world. Alike one world → peer_lines nat_eq one ≡ peer_lines nat_eq world) one other same
    (peers_same one other) same

-- the overlays of both
pub overlays_alike : (ones others : List (Filesystem ℕ)) → Each SameFilesystem ones others
    → Each SameFilesystem (filter is_overlay ones) (filter is_overlay others)
overlays_alike ones others same = each_filter _ is_overlay _ (λ a b alike. ap is_some alike.overlay) ones others same

-- whether each inode but the root has a name
all_named_alike : (one other : FileTree ℕ) → SameFiles one other → all_named nat_eq one ≡ all_named nat_eq other
all_named_alike one other same = list_all-IsPermutation _ one.numbers other.numbers same.numbers
    ∙ (λ i. list_all (λ number. nat_eq number (same.tree i).root || named number i) other.numbers)
  where
    named : (number : ℕ) → is_among nat_eq number (named_in one) ≡ is_among nat_eq number (named_in other)
    named number = list_any-IsPermutation _ _ _ (IsPermutation-flat_map _ one.numbers _ same.numbers) ∙ (λ i. is_among
        nat_eq number (flat_map (λ directory. targets_in ((same.tree i).node directory)) other.numbers))

-- the overlay has this root directory of the filesystem as a lower layer
abbrev lower_root_by : ℕ → ℕ → Overlay ℕ → Bool
lower_root_by filesystem root overlay =
    list_any (λ layer. nat_eq filesystem layer.filesystem && nat_eq root layer.directory) overlay.lowers

-- Sealed tasks
module _ (one other : World ℕ) (same : Alike one (with_mounts_of one other)) (names : List TaskName) where
  abbrev second : World ℕ
  second = with_mounts_of one other

  pub members_alike : Each SameTask (members one names) (members second names)
  members_alike = each_filter SameTask _ _ (λ a b alike. ap (is_member_task names) alike) one.tasks _ same.tasks

  outsiders_alike : Each SameTask (outsiders one names) (outsiders second names)
  outsiders_alike = each_filter _ _ _ (λ a b alike. ap (λ task. not (is_member_task names task)) alike) _ _ same.tasks

  pub own_same : is_own_namespace nat_eq one names ≡ is_own_namespace nat_eq second names
  own_same = λ i namespace.
      each_any SameTask (λ task. nat_eq namespace task.namespace) (λ task. nat_eq namespace task.namespace)
      (λ a b alike. ap (λ task. nat_eq namespace task.namespace) alike) (members one names) (members second names)
      members_alike i

  pub places_same : (ones others : List (Task ℕ)) → Each SameTask ones others → locations ones ≡ locations others
  places_same ones others each =
      each_flat SameTask locations_of locations_of (λ a b alike. ap locations_of alike) ones others each

  -- the mounts of the tasks' namespaces, and of others
  abbrev own_by : (ℕ → Bool) → List (Mount ℕ)
  own_by own = filter (λ (mount : Mount ℕ). holds_of own mount.namespace) one.mounts

  abbrev other_by : (ℕ → Bool) → List (Mount ℕ)
  other_by own = filter (λ (mount : Mount ℕ). holds_of (λ namespace. not (own namespace)) mount.namespace) one.mounts

  namespaces_of : (ones others : List (Task ℕ)) → Each SameTask ones others
      → map (λ (task : Task ℕ). task.namespace) ones ≡ map (λ (task : Task ℕ). task.namespace) others
  namespaces_of ones others each = each_to_one SameTask (λ (task : Task ℕ). task.namespace)
      (λ (task : Task ℕ). task.namespace) (λ a b alike. ap (λ (task : Task ℕ). task.namespace) alike) ones others each

  all_by_namespace : (test : ℕ → Bool) (tasks : List (Task ℕ)) → list_all (λ (task : Task ℕ). test task.namespace) tasks
      ≡ list_all test (map (λ (task : Task ℕ). task.namespace) tasks)
  all_by_namespace test [] = refl
  all_by_namespace test (task ∷ rest) = ap (λ b. test task.namespace && b) (all_by_namespace test rest)

  holds_all_same : holds_all_tasks nat_eq one names ≡ holds_all_tasks nat_eq second names
  holds_all_same =
      all_by_namespace (λ namespace. not (is_own_namespace nat_eq one names namespace)) (outsiders one names)
      ∙ (λ i. list_all (λ namespace. not (own_same i namespace))
      (namespaces_of (outsiders one names) (outsiders second names) outsiders_alike i))
      ∙ sym (all_by_namespace (λ namespace. not (is_own_namespace nat_eq second names namespace))
      (outsiders second names))

  no_link_same : shares_no_events nat_eq one names ≡ shares_no_events nat_eq second names
  no_link_same = λ i.
      list_all (λ own. list_all (λ other. not (share_events nat_eq one own other)) (other_by (own_same i)))
      (own_by (own_same i))

  on_mounts_same : no_outsider_on_mounts nat_eq one names ≡ no_outsider_on_mounts nat_eq second names
  on_mounts_same = λ i.
      list_all (λ (location : Location ℕ). not (holds_of (own_same i) (mount_at nat_eq one location).namespace))
      (places_same (outsiders one names) (outsiders second names) outsiders_alike i)

  pub directly_same : used_directly nat_eq one names ≡ used_directly nat_eq second names
  directly_same = λ i. map (λ (mount : Mount ℕ). mount.filesystem) (own_by (own_same i))
      ++ map (λ (location : Location ℕ). (mount_at nat_eq one location).filesystem) (places_same _ _ members_alike i)

  layers_at : (number : ℕ)
      → change_layers (filesystem_numbered nat_eq one number) ≡ change_layers (filesystem_numbered nat_eq second number)
  layers_at number = ap (overlay_or [] (λ (overlay : Overlay ℕ). map (λ (layer : Layer ℕ). layer.filesystem)
      (option_to_list overlay.upper ++ option_to_list overlay.work))) (found_alike one second same number).overlay

  pub used_same : used_filesystems nat_eq one names ≡ used_filesystems nat_eq second names
  used_same = λ i. each_once nat_eq (directly_same i ++ flat_map (λ number. layers_at number i) (directly_same i))

  no_outsider_same : (filesystem : ℕ)
      → no_outsider_on nat_eq one names filesystem ≡ no_outsider_on nat_eq second names filesystem
  no_outsider_same filesystem = λ i.
      not (list_any (λ (mount : Mount ℕ). nat_eq filesystem mount.filesystem) (other_by (own_same i)))
      && not (list_any (λ (location : Location ℕ). nat_eq filesystem (mount_at nat_eq one location).filesystem)
      (places_same (outsiders one names) (outsiders second names) outsiders_alike i))

  pub alone_same : (filesystem : ℕ) → used_alone nat_eq one names filesystem ≡ used_alone nat_eq second names filesystem
  alone_same filesystem = grind (arith, common_steps, no_outsider_same, each_all, overlays_alike)

  named_same : (filesystem : ℕ) → all_named nat_eq (filesystem_numbered nat_eq one filesystem).files
      ≡ all_named nat_eq (filesystem_numbered nat_eq second filesystem).files
  named_same filesystem = all_named_alike _ _ (found_alike one second same filesystem).files

  locked_same : (filesystem : ℕ)
      → wholly_locked nat_eq one names filesystem ≡ wholly_locked nat_eq second names filesystem
  locked_same filesystem = λ i. each_any SameFilesystem (λ merged. is_lower_root nat_eq filesystem
      (filesystem_numbered nat_eq one filesystem).files.tree.root merged && used_alone nat_eq one names merged.number)
      (λ merged. is_lower_root nat_eq filesystem (filesystem_numbered nat_eq second filesystem).files.tree.root merged
      && used_alone nat_eq second names merged.number) (λ a b alike. λ j. overlay_or
      false (λ overlay. lower_root_by filesystem ((found_alike one second same filesystem).files.tree j).root overlay)
      (alike.overlay j) && (alone_same a.number ∙ (λ k. used_alone nat_eq second names (alike.number k))) j)
      (overlays one) (overlays second) (overlays_alike one.filesystems _ same.filesystems) i && named_same filesystem i

  sealed_same : sealed nat_eq one names ≡ sealed nat_eq second names
  unfolding sealed
  sealed_same = λ i. holds_all_same i && no_link_same i && on_mounts_same i
      && list_all (λ filesystem. alone_same filesystem i || locked_same filesystem i) (used_same i)

pub sealed_alike : (names : List TaskName) (one other : World ℕ) → Alike one other
    → sealed nat_eq one names ≡ sealed nat_eq other names
sealed_alike names one other same =
    mounts_of_one (λ world. Alike one world → sealed nat_eq one names ≡ sealed nat_eq world names) one other same
    (λ same. sealed_same one other same names) same

missing_same : (one other : World ℕ) → Alike one other → (name : TaskName)
    → no_such_task one name ≡ no_such_task other name
missing_same one other same name = by (task_called one name) (task_called other name) (task_alike one other same name)
  where
    by : (task again : Option (Task ℕ)) → IfAny SameTask task again → not (is_some task) ≡ not (is_some again)
    by None None alike = refl
    by None (Some again) alike = absurd alike
    by (Some task) None alike = absurd alike
    by (Some task) (Some again) alike = refl

pub directed_alike : (one other : World ℕ) → Alike one other → (directive : Directive)
    → OutcomesAlike (directed nat_eq one directive) (directed nat_eq other directive)
directed_alike one other same AskPeers =
    record { answer = λ i. Ok (PeerList (peers_alike one other same i)); worlds = same }
directed_alike one other same (AskSealed names) =
    subst (λ missing. OutcomesAlike (directed nat_eq one (AskSealed names))
    (judged other ((missing, S2) ∷ []) (granted (YesNo (sealed nat_eq other names)) other)))
    (λ i. list_any (λ name. missing_same one other same name i) names) (by (list_any (no_such_task one) names))
  where
    by : (missing : Bool)
        → OutcomesAlike (judged one ((missing, S2) ∷ []) (granted (YesNo (sealed nat_eq one names)) one))
        (judged other ((missing, S2) ∷ []) (granted (YesNo (sealed nat_eq other names)) other))
    by true = record { answer = refl; worlds = same }
    by false = record { answer = λ i. Ok (YesNo (sealed_alike names one other same i)); worlds = same }
