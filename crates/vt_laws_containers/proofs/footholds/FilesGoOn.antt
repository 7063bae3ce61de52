-- A change of a filesystem leaves each filesystem its number and its layers.
use Rattle.std.proofs.Common.{◌≡◌, refl, sym, ap, subst, ◌∙◌, ℕ, nat_eq, Bool, true, false, cond, List, [], ◌∷◌, Option, Some, None, map, eqb-true, option_map}
use Rattle.vt_spec.proofs.Common.{Among, Change, CopyUp, Filesystem, Fresh, Layer, Location, Overlay, World, among-from_map, any_pair, filesystem_at, filesystem_changed, filesystem_numbered, merge_changed, merge_of, mount_at, overlay_changed, pwritten, replaced_if_numbered, stack_of, with_change, with_copy}
use Rattle.vt_laws_trees.proofs.layers.layers.LowersWorld.{number_of_filesystem}
use Rattle.vt_laws_containers.proofs.Common.{found_filesystem}
use Rattle.vt_laws_containers.proofs.footholds.AsBefore.{layered_as, without_real}

-- It is in the place of one of the world, with its layers.
abbrev pub IsPlaced : World ℕ → Filesystem ℕ → Type 0
IsPlaced world filesystem = (old : Filesystem ℕ) × Among old world.filesystems × (old.number ≡ filesystem.number)
    × (layered_as filesystem ≡ layered_as old)

-- these filesystems alone may change, each in its place
pub record ChangesFiles (world left : World ℕ) : Type 0 where
  pub same : left ≡ record world { filesystems = left.filesystems }
  pub placed : (filesystem : Filesystem ℕ) → Among filesystem left.filesystems → IsPlaced world filesystem

pub nothing_changes : (world : World ℕ) → ChangesFiles world world
nothing_changes world = record { same = refl; placed = λ f m. (f, m, refl, refl) }

module _ (world : World ℕ)
    (one : any_pair (λ (a b : Filesystem ℕ). nat_eq a.number b.number) world.filesystems ≡ false) where
  -- one in the place of the world's of its number
  replaced_placed : (new : Filesystem ℕ) (number : ℕ) → new.number ≡ number
      → layered_as new ≡ layered_as (filesystem_numbered nat_eq world number) → (list : List (Filesystem ℕ))
      → ((f : Filesystem ℕ) → Among f list → IsPlaced world f) → (f : Filesystem ℕ)
      → Among f (map (replaced_if_numbered nat_eq new) list) → IsPlaced world f
  replaced_placed new number numbered layered list all f m =
      let from = among-from_map (replaced_if_numbered nat_eq new) list f m in
      subst (IsPlaced world) (sym from.2) (by from.0 (all from.0 from.1) (nat_eq new.number from.0.number) refl)
    where
      by : (was : Filesystem ℕ) → IsPlaced world was → (b : Bool) → nat_eq new.number was.number ≡ b
          → IsPlaced world (cond b new was)
      by was old true e =
          let same : number ≡ old.0.number = cc (eqb-true new.number was.number e, old.2) in (
            old.0,
            old.1,
            sym same ∙ sym numbered,
            layered ∙ ap (λ n. layered_as (filesystem_numbered nat_eq world n)) same
                ∙ ap layered_as (found_filesystem world.filesystems one old.0 old.1),
          )
      by was old false e = old

  module _ (fresh : Fresh ℕ) (location : Location ℕ) (change : Change ℕ) where
    abbrev number : ℕ
    number = (mount_at nat_eq world location).filesystem

    abbrev its : Filesystem ℕ
    its = filesystem_at nat_eq world location

    its_number : its.number ≡ number
    its_number = number_of_filesystem world number

    over : (overlay : Overlay ℕ) → its.overlay ≡ Some overlay → (upper : Option (Layer ℕ))
        → ChangesFiles world (overlay_changed nat_eq fresh world its overlay upper change)
    over overlay e None = nothing_changes world
    over overlay e (Some upper) = record {
      same = refl;
      placed = replaced_placed _ _ (number_of_filesystem world _) refl _
          (replaced_placed _ _ its_number (sym (ap (option_map without_real) e)) _ (λ f m. (f, m, refl, refl)));
    }
      where
        merged : Filesystem ℕ
        merged = record its {
          files = (merge_changed nat_eq fresh (stack_of nat_eq world overlay upper)
              (merge_of nat_eq world its overlay upper) change).files;
          overlay = Some (record overlay {
            real = (merge_changed nat_eq fresh (stack_of nat_eq world overlay upper)
                (merge_of nat_eq world its overlay upper) change).real;
          });
        }

    by : (o : Option (Overlay ℕ)) → its.overlay ≡ o
        → ChangesFiles world (filesystem_changed nat_eq fresh world its o change)
    by None e = record {
      same = refl;
      placed = replaced_placed _ _ its_number refl _ (λ f m. (f, m, refl, refl));
    }
    by (Some overlay) e = over overlay e overlay.upper

    pub change_changes_files : ChangesFiles world (with_change nat_eq fresh world location change)
    change_changes_files = by its.overlay refl

  pub copy_changes_files : (copied : Bool) (fresh : Fresh ℕ) (file : Location ℕ)
      → ChangesFiles world (with_copy nat_eq copied fresh world file)
  copy_changes_files true fresh file = change_changes_files fresh file (CopyUp file.node)
  copy_changes_files false fresh file = nothing_changes world

  pub write_changes_files : (fresh : Fresh ℕ) (file : Location ℕ) (offset : ℕ) (bytes : List ℕ)
      → ChangesFiles world (pwritten nat_eq fresh world file offset bytes)
  write_changes_files fresh file offset [] = nothing_changes world
  write_changes_files fresh file offset (byte ∷ bytes) = change_changes_files fresh file _
