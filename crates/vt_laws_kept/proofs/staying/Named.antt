-- An overlay that is left is named as it was.
use Rattle.std.proofs.Common.{◌≡◌, ◌≢◌, refl, sym, ap, subst, ◌∙◌, ⊎_elim, ℕ, nat_eq, nat_lt, Bool, true, false, cond, not, ◌||◌, Option, Some, None}
use Rattle.vt_spec.proofs.Common.{FileTree, Filesystem, HasName, IsTree, ListsNumbers, Overlay, Real, World, filesystem_numbered, none_is_some, reached_named}
use Rattle.vt_laws_trees.proofs.layers.layers.LowersWorld.{number_of_filesystem}
use Rattle.vt_laws_trees.proofs.layers.layers.UpperWorld.{overlay_numbers, overlay_tree}
use Rattle.vt_laws_trees.proofs.overlays.seen.SeenTrees.{overlays_are_seen}
use Rattle.vt_laws_trees.specs.Overlays.MergedTrees.{IsNamedBy}
use Rattle.vt_laws_worlds.proofs.given.left.Permits.{given_permits_leave_every_world}
use Rattle.vt_laws_worlds.specs.Permits.Left.{left_by}
use Rattle.vt_laws_kept.specs.Counts.{locations_on, only_staying, real_staying, stays_in}
use Rattle.vt_laws_kept.specs.Kept.{is_unnamed}
use Rattle.vt_laws_kept.specs.Staying.{LeftAreSeen, NamesAreLeft, held_on}
use Rattle.vt_laws_kept.proofs.overlaps.Kept.{path_to}
use Rattle.vt_laws_kept.proofs.staying.Applied.{overlay_left, tree_left}
use Rattle.vt_laws_kept.proofs.staying.Paths.{name_still, not_unnamed_stays}

-- a real object that stays was there
real_was : (b : Bool) (o : Option (Real ℕ)) (object : Real ℕ) → cond b o None ≡ Some object → o ≡ Some object
real_was true o object e = e
real_was false o object e = none_is_some object e

-- what has no path is unnamed
unnamed_if : (files : FileTree ℕ) → IsTree files.tree → (inode : ℕ) → ¬ (HasName files.tree inode)
    → inode ≢ files.tree.root → (b : Bool) → is_unnamed files inode ≡ b → b ≡ true
unnamed_if files tree inode none no_root true e = refl
unnamed_if files tree inode none no_root false e =
    ⊎_elim (λ root. absurd (no_root (sym root))) (λ named. absurd (none named))
    (reached_named files.tree inode (path_to files tree inode e))

module _ (world left : World ℕ) (number : ℕ) (overlay : Overlay ℕ)
    (tree : IsTree (filesystem_numbered nat_eq world number).files.tree)
    (listed : ListsNumbers nat_eq (filesystem_numbered nat_eq world number).files)
    (same : filesystem_numbered nat_eq left number
    ≡ only_staying (stays_in left (filesystem_numbered nat_eq world number)) (filesystem_numbered nat_eq world
    number))
    (number_of : Real ℕ → ℕ) (held : ℕ → Option (Real ℕ))
    (named : IsNamedBy number_of held (filesystem_numbered nat_eq world number) overlay) where
  abbrev merged : Filesystem ℕ
  merged = filesystem_numbered nat_eq world number

  abbrev stays : ℕ → Bool
  stays = stays_in left merged

  stays_by_locations : (inode : ℕ) → is_unnamed merged.files inode ≡ true
      → stays inode ≡ nat_lt 0 (locations_on left number inode)
  stays_by_locations inode e = ap (λ b. not b || nat_lt 0 (locations_on left merged.number inode)) e
      ∙ ap (λ n. nat_lt 0 (locations_on left n inode)) (number_of_filesystem world number)

  held_still : (inode : ℕ) → ¬ (HasName merged.files.tree inode) → inode ≢ merged.files.tree.root
      → (real_staying stays overlay).real inode ≡ held_on left number held inode
  held_still inode none no_root =
      ap (λ b. cond b (overlay.real inode) None)
      (stays_by_locations inode (is_unnamed_now (is_unnamed merged.files inode) refl))
      ∙ ap (λ o. cond (nat_lt 0 (locations_on left number inode)) o None) (named.unnamed inode none no_root)
    where
      is_unnamed_now : (b : Bool) → is_unnamed merged.files inode ≡ b → is_unnamed merged.files inode ≡ true
      is_unnamed_now b e = e ∙ unnamed_if merged.files tree inode none no_root b e

  pub named_still : IsNamedBy number_of (held_on left number held) (filesystem_numbered nat_eq left number)
      (real_staying stays overlay)
  named_still = record {
    numbered = λ inode object e. named.numbered inode object (real_was (stays inode) (overlay.real inode) object e);
    unnamed = λ inode none no_root. held_still inode
        (λ has. none (subst (λ (f : Filesystem ℕ). HasName f.files.tree inode) (sym same)
        (name_still merged tree listed stays (not_unnamed_stays left merged) inode has)))
        (λ root. no_root (root ∙ sym (ap (λ (f : Filesystem ℕ). f.files.tree.root) same)));
  }

pub names_are_left : NamesAreLeft
names_are_left world fresh task permit number overlay is given was alone there number_of held named =
    named_still world (left_by fresh world task permit) number overlay (overlay_tree world is number overlay was)
    (overlay_numbers world is number overlay was)
    (tree_left world fresh task permit number overlay is given was alone there) number_of held named

pub left_are_seen : LeftAreSeen
left_are_seen world fresh task permit number overlay is given was alone there number_of held longest named few =
    overlays_are_seen number_of (held_on (left_by fresh world task permit) number held) (left_by fresh world task
    permit)
    number (real_staying (stays_in (left_by fresh world task permit) (filesystem_numbered nat_eq world number))
    overlay)
    longest (given_permits_leave_every_world world fresh task permit is given)
    (overlay_left world fresh task permit number overlay is given was alone there)
    (names_are_left world fresh task permit number overlay is given was alone there number_of held named) few
