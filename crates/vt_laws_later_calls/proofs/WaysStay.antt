-- In a world that a call left, in which mounts stay and names stay or are missing, walks lead where they led.
pub use Rattle.vt_laws_later_calls.proofs.WaysNodes.{StandsAs, mount_root, node_in, tree_in}
use Rattle.std.proofs.Common.{arith, ◌≡◌, ap, subst, ◌∙◌, inl, inr, ◌⊎◌, true≢false, ℕ, nat_eq, true, false, cond, not, ◌||◌, List, length, Option, Some, None, is_some, ⊎_elim}
use Rattle.vt_spec.proofs.Common.{FileTree, IsWorld, Location, Mount, Task, World, chain, common_steps, denial, directory_used, entry_at, execute_right, filesystem_numbered, is_directory_at, is_directory_node, is_directory_under, is_lost, is_removed, last_or, looks_of, may, mount_at, mount_in, mount_numbered, node_at, not-false, or_parts, parent_in, same_location, symlink_text, task_called, topmost, ⊤}
use Rattle.vt_laws_later_calls.proofs.Common.{Deny, IsFileTree, IsPlain, W4, W6, directory_found, tree_here}
use Rattle.vt_laws_later_calls.proofs.Ways.{LeadsToo}
use Rattle.vt_laws_later_calls.proofs.WaysTrees.{DirectoryNamesStay, KeepsNames, present_later, under_later}
use Rattle.vt_laws_later_calls.proofs.later.WaysLeft.{BothAre, SeesStill, ways_lead}
use Rattle.vt_laws_later_calls.proofs.later.WaysLeft

-- What was there and still is, is of its kind, and a directory has its parent, a symlink its text. A name leads where
-- it led, or is missing, and then it was no directory's.
pub record WorldStays (world later : World ℕ) (Refused : Deny → Type 0) : Type 0 where
  pub mounts : later.mounts ≡ world.mounts
  pub root : (filesystem : ℕ) → (tree_in later filesystem).root ≡ (tree_in world filesystem).root
  pub directory : (filesystem number : ℕ) → is_some (node_in world filesystem number) ≡ true
      → is_some (node_in later filesystem number) ≡ true
      → is_directory_node (node_in later filesystem number) ≡ is_directory_node (node_in world filesystem number)
  pub parent : (filesystem number : ℕ) → is_some (node_in world filesystem number) ≡ true
      → is_some (node_in later filesystem number) ≡ true
      → parent_in number (node_in later filesystem number) ≡ parent_in number (node_in world filesystem number)
  pub link : (filesystem number : ℕ) → is_some (node_in world filesystem number) ≡ true
      → is_some (node_in later filesystem number) ≡ true
      → symlink_text (node_in later filesystem number) ≡ symlink_text (node_in world filesystem number)
  pub entry : (filesystem directory : ℕ) (name : List ℕ) (number : ℕ)
      → entry_at (tree_in world filesystem) directory name ≡ Some number
      → is_some (node_in later filesystem directory) ≡ true
      → (entry_at (tree_in later filesystem) directory name ≡ Some number)
      ⊎ ((entry_at (tree_in later filesystem) directory name ≡ None)
      × (is_directory_node (node_in world filesystem number) ≡ false) × Refused (denial W6))

-- a task in a world, and a reader later who stands as it does: what is there in both worlds is as it was, but for what
-- is refused
pub record SeesLater (world later : World ℕ) (task reader : Task ℕ) (Refused : Deny → Type 0) : Type 0 where
  pub is : IsWorld nat_eq world
  pub plain : IsPlain world
  pub is_later : IsWorld nat_eq later
  pub plain_later : IsPlain later
  pub called : task_called world task.name ≡ Some task
  pub called_later : task_called later reader.name ≡ Some reader
  pub stands : StandsAs task reader
  pub stay : WorldStays world later Refused

module _ {world later : World ℕ} {task reader : Task ℕ} {Refused : Deny → Type 0}
    (it : SeesLater world later task reader Refused) where
  -- a directory that is there in both worlds
  abbrev Both : Location ℕ → Type 0
  Both = BothAre it.is (it.is_later, it.plain_later) task reader

  same_mount : (number : ℕ) → mount_numbered nat_eq later number ≡ mount_numbered nat_eq world number
  same_mount number = cc it.stay.mounts

  pub node_here : (here : Location ℕ)
      → node_at nat_eq later here ≡ node_in later (mount_at nat_eq world here).filesystem here.node
  node_here here = cc (same_mount here.mount)

  -- a directory that is not lost
  not_lost : (here : Location ℕ) → Both here → is_lost nat_eq world here ≡ false → is_lost nat_eq later here ≡ false
  not_lost here known e = ap (λ (m : Mount ℕ). is_removed nat_eq (tree_in later m.filesystem) here.node
      || not (is_directory_under nat_eq (filesystem_numbered nat_eq later m.filesystem).files m.root here.node))
      (same_mount here.mount) ∙ ap (λ b. b || not (is_directory_under nat_eq files_later point.root here.node)) present
      ∙ ap not under
    where
      point : Mount ℕ
      point = mount_at nat_eq world here

      files_here : FileTree ℕ
      files_here = (filesystem_numbered nat_eq world (mount_at nat_eq world here).filesystem).files

      files_later : FileTree ℕ
      files_later = (filesystem_numbered nat_eq later (mount_at nat_eq world here).filesystem).files

      parts : (is_removed nat_eq (tree_in world (mount_at nat_eq world here).filesystem) here.node ≡ false)
          × (not (is_directory_under nat_eq
          (filesystem_numbered nat_eq world (mount_at nat_eq world here).filesystem).files
          (mount_at nat_eq world here).root here.node) ≡ false)
      parts = or_parts _ _ e

      tree_later : IsFileTree (filesystem_numbered nat_eq later (mount_at nat_eq world here).filesystem).files
      tree_later = rw (← same_mount here.mount) (tree_here later it.is_later here known.1.1)

      names : DirectoryNamesStay (λ n. ⊤) (tree_in world (mount_at nat_eq world here).filesystem)
          (tree_in later (mount_at nat_eq world here).filesystem)
      names directory name number entry is_directory keeps is_there = grind (arith, common_steps, true≢false)

      is_directory_later : is_directory_node (node_in later (mount_at nat_eq world here).filesystem here.node) ≡ true
      is_directory_later = cc (node_here here, known.1.1)

      -- the root of its mount is there
      root_there : is_some (node_in later (mount_at nat_eq world here).filesystem (mount_at nat_eq world here).root)
          ≡ true
      root_there = subst (λ (m : Mount ℕ). is_some (node_in later m.filesystem m.root) ≡ true) (same_mount here.mount)
          (directory_used (tree_in later (mount_at nat_eq later here).filesystem) (mount_at nat_eq later here).root
          (mount_root later it.is_later here.mount known.1.0.0))

      stays : KeepsNames (λ n. ⊤) files_here files_later
      stays = record {
        before = (tree_here world it.is here known.0.1).tree;
        after = tree_later;
        root = it.stay.root (mount_at nat_eq world here).filesystem;
        above = λ directory name number entry keeps. tt;
        stay = names;
      }

      present : is_removed nat_eq files_later.tree here.node ≡ false
      present = present_later stays known.0.1 is_directory_later tt parts.0

      under : is_directory_under nat_eq files_later point.root here.node ≡ true
      under = under_later stays known.0.1 is_directory_later tt parts.0 point.root root_there (not-false _ parts.1)

  -- its parent is the one that it was
  same_parent : (here : Location ℕ) → Both here
      → parent_in here.node (node_at nat_eq later here) ≡ parent_in here.node (node_at nat_eq world here)
  same_parent here known =
      let now = directory_found later it.is_later reader here known.1 in
      ap (parent_in here.node) (node_here here) ∙ it.stay.parent (mount_at nat_eq world here).filesystem here.node
      (directory_found world it.is task here known.0).1 (cc (node_here here, now.1))

  abbrev hop_by : List (Mount ℕ) → Location ℕ → Location ℕ → Option (Location ℕ)
  hop_by mounts root here = cond (same_location nat_eq here root) None
      (cond (nat_eq here.node (mount_in nat_eq mounts here.mount).root)
      (mount_in nat_eq mounts here.mount).mount_point None)

  abbrev top_by : List (Mount ℕ) → Location ℕ → Location ℕ → Location ℕ
  top_by mounts root here = last_or here (chain (length mounts) (hop_by mounts root) here)

  -- So ways stay from everywhere, as they do where mounts of others go
  pub still : SeesStill it.is (it.is_later, it.plain_later) task reader Refused (λ here. ⊤)
  still = record {
    called = it.called;
    called_later = it.called_later;
    stands = it.stands;
    seen = record {
      own = λ number on there. record {
        filesystem = ap (λ (m : Mount ℕ). m.filesystem) (same_mount number);
        root = ap (λ (m : Mount ℕ). m.root) (same_mount number);
        flags = ap (λ (m : Mount ℕ). m.flags) (same_mount number);
        mount_point = ap (λ (m : Mount ℕ). m.mount_point) (same_mount number);
      };
      topmost_is = λ place on. ap (λ mounts. topmost nat_eq mounts place) it.stay.mounts;
      top_is = λ here known. (λ i. top_by (it.stay.mounts i) (it.stands.root i) here);
    };
    stay = record {
      directory = it.stay.directory;
      link = it.stay.link;
      entry = λ filesystem directory name number e there. ⊎_elim inl (λ lost. inr (lost.0, lost.2))
          (it.stay.entry filesystem directory name number e there);
    };
    fits = record {
      named = λ here name object known fit e f. tt;
      over = λ place on fit. tt;
      hopped = λ here known fit. tt;
      up = λ here known fit ends found.
          inl (record { parent = same_parent here known; not_lost = not_lost here known found }, tt);
    };
  }

  -- a location that is there in both worlds
  abbrev pub Known : Location ℕ → Type 0
  Known = WaysLeft.Known it.is (it.is_later, it.plain_later) task reader still

  -- So walks lead where they led, if what may be searched may be, or that is the refusal.
  pub world_leads : ((here : Location ℕ) → Known here → is_directory_at nat_eq world here ≡ true
      → may (looks_of nat_eq world) task here execute_right ≡ true
      → (may (looks_of nat_eq later) reader here execute_right ≡ true)
      ⊎ ((may (looks_of nat_eq later) reader here execute_right ≡ false) × Refused (denial W4)))
      → LeadsToo (looks_of nat_eq world) (looks_of nat_eq later) task reader Refused Known
  world_leads rights = ways_lead it.is (it.is_later, it.plain_later) task reader still rights tt tt
