-- Filesystems that are replaced one by one, by others of their numbers and layers: what is left for a sealed set.
use Rattle.std.proofs.Common.{◌≡◌, sym, subst, ◌∙◌, ℕ, nat_eq, true, false, List, [], map}
use Rattle.vt_spec.proofs.Common.{Among, Filesystem, Layer, TaskName, World, has_layer_on, is_among, is_overlay, list_any, own_lowers, used_filesystems}
use Rattle.vt_laws_sealed.specs.Part.Seals.{IsApart}
use Rattle.vt_laws_sealed.proofs.outsiders.FilesystemsStepped.{filesystems_stepped, stepping_keeps_footholds}
use Rattle.vt_laws_sealed.proofs.outsiders.SeenLater.{lowered_by}
use Rattle.vt_laws_sealed.proofs.outsiders.Staying.{LeavesApart}

-- Each filesystem of a world after a step: what the set uses is as it was, and so is what lies in their lower layers.
pub record IsFilesStep (world : World ℕ) (names : List TaskName) (step : Filesystem ℕ → Filesystem ℕ) : Type 0 where
  pub number : (x : Filesystem ℕ) → (step x).number ≡ x.number
  pub overlay : (x : Filesystem ℕ) → is_overlay (step x) ≡ is_overlay x
  pub layers : (number : ℕ) (x : Filesystem ℕ) → has_layer_on nat_eq number (step x) ≡ has_layer_on nat_eq number x
  pub used : (x : Filesystem ℕ) → Among x world.filesystems
      → is_among nat_eq x.number (used_filesystems nat_eq world names) ≡ true → step x ≡ x
  pub lower : (x : Filesystem ℕ) → Among x world.filesystems
      → list_any (λ (layer : Layer ℕ). nat_eq x.number layer.filesystem) (own_lowers nat_eq world names) ≡ true
      → lowered_by (used_filesystems nat_eq world names) (own_lowers nat_eq world names) (step x).files (step x)
      ≡ lowered_by (used_filesystems nat_eq world names) (own_lowers nat_eq world names) x.files x

-- others have changed filesystems, after they have moved in a world with the same ones
pub stepping_leaves_apart : (world base left : World ℕ) (names : List TaskName) → IsApart world names
    → (step : Filesystem ℕ → Filesystem ℕ) → IsFilesStep world names step
    → base.filesystems ≡ world.filesystems → left ≡ record base { filesystems = map step world.filesystems }
    → (changed : List ℕ) → ((number : ℕ) → Among number (used_filesystems nat_eq world names)
    → list_any (λ n. nat_eq n number) changed ≡ false)
    → LeavesApart world base names [] → LeavesApart world left names changed
stepping_leaves_apart world base left names apart step is same left_is changed unraised leaves =
    subst (λ w. LeavesApart world w names changed)
    (sym (cc)) (record {
      sees = filesystems_stepped leaves.sees
          (cc (apart.is.files.one_filesystem)) step is.number
          (λ x m. is.used x (subst (Among x) same m)) (λ x m. is.lower x (subst (Among x) same m));
      others = record {
        tasks = leaves.others.tasks;
        events = leaves.others.events;
        locations = leaves.others.locations;
        free = λ number of alone. stepping_keeps_footholds base names step is.number is.overlay is.layers number
            ∙ leaves.others.free number of alone;
      };
      unraised = unraised;
    })
