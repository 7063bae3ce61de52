-- Where filesystems change and no inode loses its uses, all stays in use.
use Rattle.std.proofs.Common.{arith, ◌≡◌, ℕ, nat_eq, []}
use Rattle.vt_spec.proofs.Common.{Filesystem, World, common_steps, filesystem_lives}
use Rattle.vt_laws_members.proofs.Common.{AllInUse, AllInUseBut, Among, ChangesFilesystem, FilesystemsInUse, Losers, all_but_changed, all_from_among, among-from_map, among_from_list_all, filesystems_stay, in_use_of, list_all_from_among, lives_alike, mounts_stay, with_filesystems, with_lost}

-- In the world after the change each filesystem has its number, its layers, and uses of its inodes.
module _ (w : World ℕ) (in_use : AllInUse w) (step : Filesystem ℕ → Filesystem ℕ)
    (changes : (f : Filesystem ℕ) → Among f w.filesystems
    → ChangesFilesystem (with_filesystems w step) [] f (step f)) where
  abbrev changed : World ℕ
  changed = with_filesystems w step

  abbrev none : Losers
  none = record { mounts = []; filesystems = []; inodes = []; groups = [] }

  stays : in_use_of w ≡ w
  stays = cc (mounts_stay w in_use.mounts, filesystems_stay w in_use.filesystems)

  in_use_before : AllInUseBut none w
  in_use_before = grind (arith, common_steps, mounts_stay, stays)

  filesystems_after : FilesystemsInUse changed
  filesystems_after = list_all_from_among (filesystem_lives nat_eq changed) changed.filesystems
      (λ x m. let from = among-from_map step w.filesystems x m in cc (
        from.2,
        lives_alike w step
            (λ g n. ChangesFilesystem.number (changes g n)) (λ g n. ChangesFilesystem.layers (changes g n)) from.0
            from.1,
        among_from_list_all (filesystem_lives nat_eq w) w.filesystems in_use.filesystems from.0 from.1,
      ))

  all_stay : in_use_of changed ≡ changed
  all_stay = cc (mounts_stay changed in_use.mounts, filesystems_stay changed filesystems_after)

  all_but : AllInUseBut (with_lost none []) changed
  all_but = all_but_changed w none in_use_before step [] (rw all_stay (all_from_among
      (λ f. ChangesFilesystem changed [] f (step f)) w.filesystems changes))

  pub in_use_stepped : AllInUse changed
  in_use_stepped = grind (arith, common_steps, filesystems_after, all_stay, all_but)
