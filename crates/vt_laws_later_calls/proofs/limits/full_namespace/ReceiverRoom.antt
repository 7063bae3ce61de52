-- Whether a mount in the first namespace has room: it comes to the shared mount, and to its peer in the other
-- namespace.
use Rattle.std.proofs.Common.{inl, inr, arith, ◌≡◌, refl, sym, ap, subst, ◌∙◌, true≢false, ℕ, suc, nat_eq, nat_lt, eqb-true, Bool, true, false, cond, not, ◌&&◌, ◌||◌, ◌+◌, ◌*◌, List, [], ◌∷◌, ◌++◌, Option, None, Some, Ok, filter, is_some, length, map, codes, option_to_list}
use Rattle.vt_spec.proofs.Common.{cases_Bool, Among, Directory, Filesystem, IsWorld, Location, Mount, Namespace, Task, World, among-append_right, and_parts, chain_ends, chain_goes_on, child_at, common_steps, filesystem_numbered, holds_of, is_directory_node, is_directory_under, is_removed, is_removed_at, list_all, list_any, looks_of, most_mounts, most_symlinks, mount_numbered, new_mount_rules, node_at, or-false, parts_of, receivers_of, receives, root_attr, root_of, source_of, stands_at, takes_part, task_called, topmost}
use Rattle.vt_laws_later_calls.proofs.Common.{IsPlain, among_from_list_all, any-map, destination_walk, find_none, is_in, mount_count, nothing_passes, plain_numbered, stands_there, start_among}
use Rattle.vt_laws_worlds.proofs.worlds.Roots.{child_in}
use Rattle.vt_laws_later_calls.specs.Limits.Room.{how_many_in, lacks_room, none_fails}
use Rattle.vt_laws_later_calls.proofs.limits.TopmostGrows.{topmost_of_free}
use Rattle.vt_laws_later_calls.proofs.limits.PathWalks.{HasTwoWords, WordLeads, destination_is_walked, end_of_two, two_words_lead}
use Rattle.vt_laws_later_calls.proofs.limits.full_namespace.ReceiverWorld.{first_of_two, four_mounts, root_mount, shared_mount}

-- the two trees of the world: `/` with `q` and `s`, and that on `/s` with `d`
pub record TwoTrees (first second : Filesystem ℕ) : Type 0 where
  pub first_number : first.number ≡ 2
  pub second_number : second.number ≡ 13
  pub first_root : first.files.tree.node 3 ≡ Some (record {
    attr = root_attr;
    content = Directory 3 ((codes "q", 9) ∷ (codes "s", 6) ∷ []) false;
  })
  pub second_root : second.files.tree.node 22 ≡ Some (record {
    attr = root_attr;
    content = Directory 22 ((codes "d", 24) ∷ []) false;
  })
  pub place : is_directory_node (second.files.tree.node 24) ≡ true
  pub stays : is_removed nat_eq second.files.tree 24 ≡ false
  pub reached : is_directory_under nat_eq second.files 22 24 ≡ true

-- the mount is in no peer group, and in the other namespace
abbrev pub is_other : Mount ℕ → Bool
is_other mount = not (is_some (source_of mount.propagation)) && holds_of (nat_eq 39) mount.namespace

-- the world has four mounts and two filesystems, and others that the second task has stacked
pub record HasReceiver (first second : Filesystem ℕ) (world : World ℕ) : Type 0 where
  pub rest : List (Mount ℕ)
  pub more : List (Filesystem ℕ)
  pub mounts : world.mounts ≡ four_mounts ++ rest
  pub filesystems : world.filesystems ≡ (first ∷ second ∷ []) ++ more
  pub others : list_all is_other rest ≡ true
  pub change : ℕ
  pub called : task_called world [] ≡ Some (first_of_two change)
  pub listed : map (λ (namespace : Namespace ℕ). namespace.number) world.namespaces ≡ 1 ∷ 39 ∷ []

-- the place of the new mount, in the shared one
abbrev pub place : Location ℕ
place = record { mount = 17; node = 24 }

-- over a place with one mount, on which none stands, that mount is topmost
topmost_of_one : (mounts : List (Mount ℕ)) (at : Location ℕ) (child : Mount ℕ) → child_at nat_eq mounts at ≡ Some child
    → child_at nat_eq mounts (root_of child) ≡ None → (some : ℕ) → length mounts ≡ suc some
    → topmost nat_eq mounts at ≡ root_of child
topmost_of_one mounts at child stands free some long = grind (arith, common_steps, chain_goes_on, chain_ends)

module _ {first second : Filesystem ℕ} (trees : TwoTrees first second) {world : World ℕ}
    (is : IsWorld nat_eq world) (plain : IsPlain world) (has : HasReceiver first second world) where
  abbrev task : Task ℕ
  task = first_of_two has.change

  -- mounts
  first_mount_is : mount_numbered nat_eq world 0 ≡ root_mount 0 1
  first_mount_is = cc has.mounts

  -- the shared mount
  shared_mount_is : mount_numbered nat_eq world 17 ≡ shared_mount 17 1 0
  shared_mount_is = cc has.mounts

  -- what was stacked stands in the other namespace
  rest_stands_apart : (mount : Mount ℕ) → Among mount has.rest → (node : ℕ)
      → stands_at nat_eq (record { mount = 17; node = node }) mount ≡ false
  rest_stands_apart mount m node = elim (cases_Bool (stands_at nat_eq (record { mount = 17; node = node }) mount)) [
    | inl e ↦ absurd (true≢false (sym (child_in world is 1 mount
        (subst (Among mount) (sym has.mounts) (among-append_right four_mounts has.rest mount m))
        (record { mount = 17; node = node }) (stands_there (record { mount = 17; node = node }) mount e)
        (ap (λ (one : Mount ℕ). list_all (nat_eq 1) (option_to_list one.namespace)) shared_mount_is))
        ∙ elsewhere mount.namespace (and_parts _ _ (among_from_list_all is_other has.rest has.others mount m)).1))
    | inr e ↦ e
  ]
    where
      elsewhere : (namespace : Option ℕ) → holds_of (nat_eq 39) namespace ≡ true
          → list_all (nat_eq 1) (option_to_list namespace) ≡ false
      elsewhere None e = cc
      elsewhere (Some number) e = cc (eqb-true 39 number e)

  -- nothing stands on the root of the shared mount
  nothing_on_root : child_at nat_eq world.mounts (record { mount = 17; node = 22 }) ≡ None
  nothing_on_root = cc (
    has.mounts,
    find_none (stands_at nat_eq (record { mount = 17; node = 22 })) has.rest (λ mount m. rest_stands_apart mount m 22),
  )

  -- nor at the place
  nothing_on_place : child_at nat_eq world.mounts place ≡ None
  nothing_on_place =
      cc (has.mounts, find_none (stands_at nat_eq place) has.rest (λ mount m. rest_stands_apart mount m 24))

  -- Filesystems
  first_is_found : filesystem_numbered nat_eq world 2 ≡ first
  first_is_found = cc (has.filesystems, trees.first_number)

  -- the filesystem of the shared mount
  second_is_found : filesystem_numbered nat_eq world 13 ≡ second
  second_is_found = grind (arith, common_steps)

  -- the first task's root directory
  root_is : node_at nat_eq world (record { mount = 0; node = 3 }) ≡ Some (record {
    attr = root_attr;
    content = Directory 3 ((codes "q", 9) ∷ (codes "s", 6) ∷ []) false;
  })
  root_is =
      ap (λ (mount : Mount ℕ). (filesystem_numbered nat_eq world mount.filesystem).files.tree.node 3) first_mount_is
      ∙ ap (λ (filesystem : Filesystem ℕ). filesystem.files.tree.node 3) first_is_found ∙ trees.first_root

  -- the root of the shared mount
  middle_is : node_at nat_eq world (record { mount = 17; node = 22 }) ≡ Some (record {
    attr = root_attr;
    content = Directory 22 ((codes "d", 24) ∷ []) false;
  })
  middle_is =
      ap (λ (mount : Mount ℕ). (filesystem_numbered nat_eq world mount.filesystem).files.tree.node 22) shared_mount_is
      ∙ ap (λ (filesystem : Filesystem ℕ). filesystem.files.tree.node 22) second_is_found ∙ trees.second_root

  -- the directory of the place
  place_is : node_at nat_eq world place ≡ second.files.tree.node 24
  place_is =
      ap (λ (mount : Mount ℕ). (filesystem_numbered nat_eq world mount.filesystem).files.tree.node 24) shared_mount_is
      ∙ ap (λ (filesystem : Filesystem ℕ). filesystem.files.tree.node 24) second_is_found

  -- The walk
  path_has_two_words : HasTwoWords (codes "/s/d") (codes "s") (codes "d")
  path_has_two_words =
      record { parsed = refl; absolute = refl; words_are = refl; first_named = refl; second_named = refl }

  -- `s` leads to the root of the shared mount
  first_word_leads : WordLeads world task (record { mount = 0; node = 3 }) (codes "s") 6
      (record { mount = 17; node = 22 })
  first_word_leads = record {
    searched = cc root_is;
    plain = plain_numbered world plain _;
    searches = cc root_is;
    entry = cc root_is;
    leads = topmost_of_one world.mounts (record { mount = 0; node = 6 }) (shared_mount 17 1 0)
        (cc has.mounts) nothing_on_root
        (length (root_mount 47 39 ∷ shared_mount 66 39 47 ∷ shared_mount 66 39 47 ∷ has.rest)) (cc has.mounts);
    directory = cc middle_is;
  }

  -- `d` leads from there to the place
  second_word_leads : WordLeads world task (record { mount = 17; node = 22 }) (codes "d") 24 place
  second_word_leads =
      grind (arith, common_steps, middle_is, plain_numbered, topmost_of_free, nothing_on_place, place_is)

  -- which is not removed
  place_stays : is_removed_at nat_eq world place ≡ false
  place_stays =
      ap (λ (mount : Mount ℕ). is_removed nat_eq (filesystem_numbered nat_eq world mount.filesystem).files.tree 24)
      shared_mount_is
      ∙ ap (λ (filesystem : Filesystem ℕ). is_removed nat_eq filesystem.files.tree 24) second_is_found ∙ trees.stays

  -- the path leads to the place, which is the topmost mount
  pub path_leads : (steps : List (List ℕ)) × (destination_walk nat_eq world task (codes "/s/d")
      ≡ Ok (record { location = place; left = most_symlinks; steps = steps }))
  path_leads = (
    _,
    destination_is_walked {world = world} task (codes "/s/d")
        (end_of_two world task path_has_two_words first_word_leads second_word_leads)
        (two_words_lead world task path_has_two_words first_word_leads second_word_leads) (record {
          ends = topmost_of_free world.mounts place nothing_on_place;
          directory = second_word_leads.directory;
          stays = place_stays;
        }),
  )

  -- the shared mount is in the first task's namespace
  pub no_rule_fails : none_fails (new_mount_rules nat_eq (looks_of nat_eq world) task place false) ≡ true
  no_rule_fails = cc shared_mount_is

  -- Parts
  receives_itself : receives nat_eq world 18 (shared_mount 17 1 0) ≡ true
  receives_itself = start_among world.master (length world.mounts) 18

  -- what was stacked receives nothing
  rest_receives_nothing : filter (receives nat_eq world 18) has.rest ≡ []
  rest_receives_nothing = nothing_passes (receives nat_eq world 18) has.rest
      (λ mount m. grind (arith, common_steps, among_from_list_all is_other has.rest has.others mount m))

  -- the shared mount and its peer
  abbrev two_shared : List (Mount ℕ)
  two_shared = shared_mount 17 1 0 ∷ shared_mount 66 39 47 ∷ []

  -- both receive
  receivers_are : receivers_of nat_eq world (shared_mount 17 1 0) ≡ two_shared
  receivers_are = ap (filter (receives nat_eq world 18)) has.mounts ∙ (λ i. cond (receives_itself i)
      (shared_mount 17 1 0 ∷ cond (receives_itself i) (shared_mount 66 39 47 ∷ rest_receives_nothing i)
      (rest_receives_nothing i))
      (cond (receives_itself i) (shared_mount 66 39 47 ∷ rest_receives_nothing i) (rest_receives_nothing i)))

  -- the peer takes part
  peer_takes_part : takes_part nat_eq world place (shared_mount 66 39 47) ≡ true
  peer_takes_part = grind (arith, common_steps, shared_mount, shared_mount_is, second_is_found)

  -- so they are the parts
  parts_are : parts_of nat_eq world place ≡ two_shared
  parts_are =
      (λ i. shared_mount_is i ∷ filter (takes_part nat_eq world place) (receivers_of nat_eq world (shared_mount_is i)))
      ∙ ap (λ list. shared_mount 17 1 0 ∷ filter (takes_part nat_eq world place) list) receivers_are
      ∙ ap (λ b. shared_mount 17 1 0 ∷ cond b (shared_mount 66 39 47 ∷ []) []) peer_takes_part

  -- the first namespace has two mounts
  first_has_two : mount_count world 1 ≡ 2
  first_has_two = ap (λ mounts. length (filter (is_in 1) mounts)) has.mounts
      ∙ ap (λ list. length (root_mount 0 1 ∷ shared_mount 17 1 0 ∷ list)) (nothing_passes (is_in 1) has.rest (λ mount m.
      grind (arith, common_steps, eqb-true, among_from_list_all is_other has.rest has.others mount m)))

  -- there is room just while the other namespace has room for one more
  pub room_of_other : (count : ℕ) → mount_count world 39 ≡ count
      → lacks_room world place 1 ≡ nat_lt most_mounts (count + 1)
  room_of_other count counted = ap (λ parts. list_any (λ (namespace : Namespace ℕ). nat_lt most_mounts
      (mount_count world namespace.number + how_many_in namespace.number parts * 1)) world.namespaces) parts_are
      ∙ sym (any-map (λ number. nat_lt most_mounts (mount_count world number + how_many_in number two_shared * 1))
      (λ (namespace : Namespace ℕ). namespace.number) world.namespaces (λ namespace. refl))
      ∙ ap (list_any (λ number. nat_lt most_mounts (mount_count world number + how_many_in number two_shared * 1)))
      has.listed ∙ (λ i. nat_lt most_mounts (first_has_two i + 1) || (nat_lt most_mounts (counted i + 1) || false))
      ∙ or-false (nat_lt most_mounts (count + 1))
