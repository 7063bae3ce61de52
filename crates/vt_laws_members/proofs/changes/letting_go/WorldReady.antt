-- A world in which tasks of a sealed set let locations go is ready to be swept.
use Rattle.std.proofs.Common.{arith, ◌≡◌, refl, sym, ap, subst, ◌∙◌, ◌⊎◌, inl, inr, ⊎_elim, ℕ, nat_eq, true, false, true≢false, List, [], Option, Some, None, is_some, not, eq-eqb, eqb-true}
use Rattle.vt_spec.proofs.Common.{cases_Bool, Among, Filesystem, IsTree, IsWorld, Layer, ListsNumbers, Location, Mount, Overlay, Task, TaskName, World, all_locations, among-filter, among-flat_map, among-from_filter, among-from_flat_map, among_from_all, among_from_list_all, among_numbers, and_parts, any_among, common_steps, filesystem_numbered, has_layer_on, holds_of, is_among_numbers, is_located, is_member_task, is_overlay, is_own_namespace, layers_of, list_any, locations, locations_of, members, mount_at, mount_lives, no_outsider_on, none_among, none_from_not_some, or_cases, or_left, other_mounts, outsiders, overlay_or, own_lowers, pair-filter, used_alone, used_filesystems, wholly_locked, without_dead_mounts}
use Rattle.vt_laws_members.proofs.Common.{cases_Option, IsSealed, SeesTheSame, among-flat_map_filter, found_filesystem, found_itself, is_own, layer_plain, lowers_same, mounts_kept, used_are_free, used_same}
use Rattle.vt_laws_members.proofs.changes.letting_go.Changed.{LetsGo, mount_under, owned_same, mount_parent, placed_on, sees_less, stood_so}
use Rattle.vt_laws_members.proofs.changes.letting_go.CutAgain.{uncut}
use Rattle.vt_laws_members.proofs.changes.letting_go.Ready.{AllNamed, Alone, IsCut, NoOthers, Ready}
use Rattle.vt_laws_members.proofs.changes.letting_go.LessSeen.{used_was}
use Rattle.vt_laws_members.proofs.changes.letting_go.SeeLess.{now_less}
use Rattle.vt_laws_members.proofs.changes.letting_go.Living.{located_lives, nobody_on, overlay_alone, own_locations}

-- without dead mounts the set sees what it saw
pub sees_living : (b : World ℕ) (set : List TaskName) → SeesTheSame b (without_dead_mounts nat_eq b) set
sees_living b set = record {
  tasks = refl;
  mounts = mounts_kept b set b.mounts;
  masters = λ group e. refl;
  direct = λ number m. refl;
  filesystems = refl;
  namespaces = refl;
}

-- a layer is in a plain tree
pub plain_in : (world : World ℕ) (names : List TaskName) (is : IsWorld nat_eq world) (x merged : Filesystem ℕ)
    → Among x world.filesystems → Among merged world.filesystems → has_layer_on nat_eq x.number merged ≡ true
    → x.overlay ≡ None
plain_in world names is x merged m n has = by merged.overlay refl has
  where
    by : (o : Option (Overlay ℕ)) → merged.overlay ≡ o
        → overlay_or false (λ (overlay : Overlay ℕ). list_any (λ (layer : Layer ℕ). nat_eq x.number layer.filesystem)
        (layers_of overlay)) o ≡ true → x.overlay ≡ None
    by None e h = absurd (true≢false (sym h))
    by (Some overlay) e h =
        let at = any_among (λ (layer : Layer ℕ). nat_eq x.number layer.filesystem) (layers_of overlay) h in
        none_from_not_some x.overlay
        (ap is_overlay (sym (found_filesystem world.filesystems is.files.one_filesystem x m))
        ∙ ap (λ k. is_overlay (filesystem_numbered nat_eq world k)) (eqb-true x.number at.0.filesystem at.2)
        ∙ layer_plain world names is merged n at.0 (subst (Among at.0) (sym (ap (overlay_or [] layers_of) e)) at.1))

-- a whole tree has all that lies under lower layers
pub whole_cut : (world : World ℕ) (is : IsWorld nat_eq world) (lowers : List (Layer ℕ)) (x : Filesystem ℕ)
    → Among x world.filesystems → IsCut x.number lowers x.files
whole_cut world is lowers x m =
    let listed : ListsNumbers nat_eq x.files =
    among_from_all (λ (f : Filesystem ℕ). ListsNumbers nat_eq f.files) world.filesystems is.files.numbers x m in
    record {
      whole = x.files;
      chosen = x.files.numbers;
      has = record {
        tree = among_from_all (λ (f : Filesystem ℕ). IsTree f.files.tree) world.filesystems is.files.trees x m;
        listed = listed;
        all = λ object n h. is_among_numbers x.files.numbers object n;
      };
      same = uncut x.files listed;
    }

-- where each inode has a name
pub all_named_there : (world : World ℕ) (names : List TaskName) (is : IsWorld nat_eq world) (x : Filesystem ℕ)
    → Among x world.filesystems → wholly_locked nat_eq world names x.number ≡ true → AllNamed x
all_named_there world names is x m locked object n =
    grind (arith, common_steps, found_filesystem, and_parts, eqb-true, among_numbers, or_cases, among_from_list_all)

module _ {world : World ℕ} {names : List TaskName} (sealing : IsSealed world names) (set : List TaskName)
    (tasks : List (Task ℕ)) (change : ℕ)
    (it : LetsGo sealing set tasks) where
  abbrev later : World ℕ
  later = record world { tasks = tasks; change = change }

  abbrev living : World ℕ
  living = without_dead_mounts nat_eq later

  abbrev new : List (Task ℕ)
  new = members later set

  there : (m : Mount ℕ) → Among m living.mounts → Among m world.mounts
  there m n = (among-from_filter (mount_lives nat_eq later) world.mounts m n).0

  attached_lives : (m : Mount ℕ) (n : ℕ) → Among m world.mounts → m.namespace ≡ Some n → Among m living.mounts
  attached_lives m n at e = among-filter (mount_lives nat_eq later) world.mounts m at
      (or_left (is_some m.namespace) (is_located nat_eq later m.number) (cc))

  of_all : (l : Location ℕ) → Among l (locations new) → Among l (all_locations later)
  of_all = among-flat_map_filter locations_of (is_member_task set) tasks

  -- where others have no foothold
  module _ (number : ℕ) (none : no_outsider_on nat_eq world names number ≡ true) where
    mounts_own : (m : Mount ℕ) → Among m living.mounts → m.filesystem ≡ number
        → (is_own world names new m ≡ true) ⊎ (m.namespace ≡ None)
    mounts_own m n e = elim (cases_Option m.namespace) [
      | inl f ↦ inr f
      | inr its ↦ elim (cases_Bool (is_own_namespace nat_eq world names its.0)) [
        | inl own ↦ inl (cc (owned_same sealing set tasks change it m))
        | inr other ↦ absurd (true≢false (sym (eq-eqb number m.filesystem (sym e))
            ∙ none_among (λ (y : Mount ℕ). nat_eq number y.filesystem) (other_mounts nat_eq world names)
            (nobody_on world names number none).0 m
            (among-filter (λ (y : Mount ℕ). holds_of (λ i. not (is_own_namespace nat_eq world names i)) y.namespace)
            world.mounts m (there m n)
            (ap (holds_of (λ i. not (is_own_namespace nat_eq world names i))) its.1 ∙ ap not other))))
      ]
    ]

    shows : (l : Location ℕ) → Among l (all_locations living) → Among l (locations (outsiders world names))
        → (mount_at nat_eq living l).filesystem ≡ (mount_at nat_eq world l).filesystem
    shows l m out =
        let from = among-from_flat_map locations_of (outsiders world names) l out in
        let under = mount_under sealing l (among-flat_map locations_of world.tasks from.0 l
        (among-from_filter (λ y. not (is_member_task names y)) world.tasks from.0 from.1).0 from.2) in
        cc (
          under.2,
          found_itself living.mounts (pair-filter (λ (p q : Mount ℕ). nat_eq p.number q.number)
              (mount_lives nat_eq later) world.mounts sealing.is.mounts.one_number) under.0
              (located_lives later under.0 l under.1 m under.2),
          found_itself world.mounts sealing.is.mounts.one_number under.0 under.1,
        )

    pub no_others : NoOthers living set number
    no_others = record {
      mounts = mounts_own;
      locations = own_locations world living names set number none it.others shows;
    }

  pub alone : (number : ℕ) → used_alone nat_eq world names number ≡ true → Alone living set number
  alone number h = record {
    itself = no_others number (and_parts _ _ h).0;
    overlays = λ merged m has. no_others merged.number (overlay_alone world names number h merged m has);
  }

  pub world_ready : Ready living set (used_filesystems nat_eq later set) (own_lowers nat_eq later set)
  world_ready = record {
    used_are = used_same later living set (sees_living later set);
    lowers_are = lowers_same later living set (sees_living later set);
    one = pair-filter (λ (p q : Mount ℕ). nat_eq p.number q.number) (mount_lives nat_eq later) world.mounts
        sealing.is.mounts.one_number;
    lives = λ m n. (among-from_filter (mount_lives nat_eq later) world.mounts m n).1;
    located = λ l m. let on = placed_on sealing set tasks change it l m in
        (on.0, located_lives later on.0 l on.1 (of_all l m) on.2, on.2);
    parents = λ m l n point. let up = mount_parent world sealing.is.mounts m l (there m n) point in
        (up.0, up.1, up.2, attached_lives up.2 up.0 up.3 up.5, up.4, up.5);
    stood = λ m n h. stood_so sealing set tasks change it m (there m n) h;
    one_filesystem = sealing.is.files.one_filesystem;
    plain = plain_in world names sealing.is;
    free = λ x m u. ⊎_elim (λ h. inl (alone x.number h)) (λ h. inr (all_named_there world names sealing.is x m h))
        (or_cases (used_alone nat_eq world names x.number) (wholly_locked nat_eq world names x.number)
        (used_are_free world names sealing.sealed_off x.number (among_numbers (used_filesystems nat_eq world names)
        x.number (used_was sealing.is (now_less sealing.is tasks change (sees_less sealing set tasks change it)
        refl) x.number u))));
    cut = λ x m unused low. whole_cut world sealing.is (own_lowers nat_eq later set) x m;
  }
