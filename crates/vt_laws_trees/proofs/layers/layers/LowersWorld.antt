-- Which filesystems a change of the world leaves as they were.
use Rattle.std.proofs.Common.{arith, ◌≡◌, ◌≢◌, refl, ap, ◌∙◌, true≢false, ℕ, nat_eq, ne_eqb, List, [], ◌∷◌, map, Option, Some, None, unwrap_or, find}
use Rattle.vt_spec.proofs.Common.{Change, Filesystem, Fresh, Layer, Location, Merge, Overlay, World, common_steps, eqb_tells, filesystem_at, filesystem_changed, filesystem_numbered, mount_at, nat_eq_itself, no_filesystem, overlay_changed, replaced_if_numbered, with_change, with_filesystem, with_merge}

-- the filesystem with a number has that number
pub number_of_found : (number : ℕ) (list : List (Filesystem ℕ))
    → (unwrap_or (find (λ filesystem. nat_eq number filesystem.number) list) (no_filesystem number)).number ≡ number
number_of_found number [] = refl
number_of_found number (filesystem ∷ list) = grind (arith, common_steps, eqb_tells, number_of_found number list)

pub number_of_filesystem : (world : World ℕ) (number : ℕ) → (filesystem_numbered nat_eq world number).number ≡ number
number_of_filesystem world number = number_of_found number world.filesystems

-- a filesystem put in the place of another leaves those with other numbers
found_elsewhere : (new : Filesystem ℕ) (number : ℕ) → number ≢ new.number → (list : List (Filesystem ℕ))
    → find (λ filesystem. nat_eq number filesystem.number) (map (replaced_if_numbered nat_eq new) list)
    ≡ find (λ filesystem. nat_eq number filesystem.number) list
found_elsewhere new number differ [] = refl
found_elsewhere new number differ (old ∷ list) =
    grind (arith, common_steps, ne_eqb, eqb_tells, found_elsewhere new number differ list)

pub filesystem_elsewhere : (world : World ℕ) (new : Filesystem ℕ) (number : ℕ) → number ≢ new.number
    → filesystem_numbered nat_eq (with_filesystem nat_eq world new) number ≡ filesystem_numbered nat_eq world number
filesystem_elsewhere world new number differ =
    ap (λ o. unwrap_or o (no_filesystem number)) (found_elsewhere new number differ world.filesystems)

-- and where one is there, it is there now
found_there : (new : Filesystem ℕ) (list : List (Filesystem ℕ)) (old : Filesystem ℕ)
    → find (λ filesystem. nat_eq new.number filesystem.number) list ≡ Some old
    → find (λ filesystem. nat_eq new.number filesystem.number) (map (replaced_if_numbered nat_eq new) list) ≡ Some new
found_there new [] old e = cc
found_there new (first ∷ list) old e = grind (arith, common_steps, found_there new list old, nat_eq_itself)

-- none of that number stays none
found_nowhere : (new : Filesystem ℕ) (list : List (Filesystem ℕ))
    → find (λ filesystem. nat_eq new.number filesystem.number) list ≡ None
    → find (λ filesystem. nat_eq new.number filesystem.number) (map (replaced_if_numbered nat_eq new) list) ≡ None
found_nowhere new [] e = refl
found_nowhere new (first ∷ list) e = grind (arith, common_steps, found_nowhere new list, true≢false)

-- a filesystem that is changed is either the new one now, or was not there and is not
pub filesystem_there : (P : Filesystem ℕ → Type 0) (world : World ℕ) (new : Filesystem ℕ) (number : ℕ)
    → number ≡ new.number → P new →
    (filesystem_numbered nat_eq world number ≡ no_filesystem number → P (no_filesystem number))
    → P (filesystem_numbered nat_eq (with_filesystem nat_eq world new) number)
filesystem_there P world new number same is none = by _ refl
  where
    searched : find (λ filesystem. nat_eq number filesystem.number) world.filesystems
        ≡ find (λ filesystem. nat_eq new.number filesystem.number) world.filesystems
    searched = ap (λ n. find (λ filesystem. nat_eq n filesystem.number) world.filesystems) same

    searched_new : find (λ filesystem. nat_eq number filesystem.number) (with_filesystem nat_eq world new).filesystems
        ≡ find (λ filesystem. nat_eq new.number filesystem.number) (with_filesystem nat_eq world new).filesystems
    searched_new = ap (λ n. find (λ filesystem. nat_eq n filesystem.number)
        (with_filesystem nat_eq world new).filesystems) same

    by : (o : Option (Filesystem ℕ)) → find (λ filesystem. nat_eq new.number filesystem.number) world.filesystems ≡ o
        → P (filesystem_numbered nat_eq (with_filesystem nat_eq world new) number)
    by None e = grind (arith, common_steps, searched_new, found_nowhere, searched)
    by (Some old) e = grind (arith, common_steps, searched_new, found_there)

-- A change through a mount
abbrev UpperIsElsewhere : Option (Overlay ℕ) → ℕ → Type 0
UpperIsElsewhere merged number = (overlay : Overlay ℕ) (upper : Layer ℕ) → merged ≡ Some overlay
    → overlay.upper ≡ Some upper → number ≢ upper.filesystem

pub changed_elsewhere : (fresh : Fresh ℕ) (world : World ℕ) (filesystem : Filesystem ℕ) (change : Change ℕ)
    (number : ℕ) → number ≢ filesystem.number → UpperIsElsewhere filesystem.overlay number
    → filesystem_numbered nat_eq (filesystem_changed nat_eq fresh world filesystem filesystem.overlay change) number
    ≡ filesystem_numbered nat_eq world number
changed_elsewhere fresh world filesystem change number differ upper = by filesystem.overlay upper
  where
    merged : (overlay : Overlay ℕ) (upper : Layer ℕ) (merge : Merge ℕ) → number ≢ upper.filesystem
        → filesystem_numbered nat_eq (with_merge nat_eq world filesystem overlay upper merge) number
        ≡ filesystem_numbered nat_eq world number
    merged overlay upper merge away = filesystem_elsewhere (with_filesystem nat_eq world (record filesystem {
      files = merge.files;
      overlay = Some (record overlay { real = merge.real });
    })) _ number (λ e. away (e ∙ number_of_filesystem world _)) ∙ filesystem_elsewhere world (record filesystem {
      files = merge.files;
      overlay = Some (record overlay { real = merge.real });
    }) number differ

    layered : (overlay : Overlay ℕ) (layer : Option (Layer ℕ))
        → ((upper : Layer ℕ) → layer ≡ Some upper → number ≢ upper.filesystem)
        → filesystem_numbered nat_eq (overlay_changed nat_eq fresh world filesystem overlay layer change) number
        ≡ filesystem_numbered nat_eq world number
    layered overlay None away = refl
    layered overlay (Some upper) away = merged overlay upper _ (away upper refl)

    by : (o : Option (Overlay ℕ)) → UpperIsElsewhere o number
        → filesystem_numbered nat_eq (filesystem_changed nat_eq fresh world filesystem o change) number
        ≡ filesystem_numbered nat_eq world number
    by None away = filesystem_elsewhere world _ number differ
    by (Some overlay) away = layered overlay overlay.upper (λ upper e. away overlay upper refl e)

pub others_elsewhere : (fresh : Fresh ℕ) (world : World ℕ) (location : Location ℕ) (change : Change ℕ) (number : ℕ)
    → number ≢ (mount_at nat_eq world location).filesystem
    → UpperIsElsewhere (filesystem_at nat_eq world location).overlay number
    → filesystem_numbered nat_eq (with_change nat_eq fresh world location change) number
    ≡ filesystem_numbered nat_eq world number
others_elsewhere fresh world location change number differ upper = changed_elsewhere fresh
    world (filesystem_at nat_eq world location) change number (λ e. differ (e ∙ number_of_filesystem world _)) upper

pub the_rest_stays : (fresh : Fresh ℕ) (world : World ℕ) (location : Location ℕ) (change : Change ℕ)
    → (with_change nat_eq fresh world location change)
    ≡ record world { filesystems = (with_change nat_eq fresh world location change).filesystems }
the_rest_stays fresh world location change = grind (arith, common_steps)
