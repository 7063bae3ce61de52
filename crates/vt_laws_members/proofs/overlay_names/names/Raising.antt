-- Where the change numbers of filesystems of a set are raised last, the part has them raised.
use Rattle.std.proofs.Common.{arith, ◌≡◌, refl, ◌∙◌, ℕ, nat_eq, eqb-true, Bool, true, false, cond, List, filter, map}
use Rattle.vt_spec.proofs.Common.{Among, Filesystem, Layer, Namespace, TaskName, World, any_among, change_layers, common_steps, is_among, is_member_task, is_own_namespace, list_any, numbers_raised, part_of, raised, raised_if_changed, raised_namespace, raised_task, settled, used_filesystems, without_dead_mounts}
use Rattle.vt_laws_members.proofs.Common.{with_filesystems}
use Rattle.vt_laws_members.proofs.changes.files.FilesChanged.{lowers_in, part_with_layers}
use Rattle.vt_laws_members.proofs.changes.letting_go.Ends.{raised_sees}
use Rattle.vt_laws_members.proofs.changes.letting_go.Ready.{Ready}
use Rattle.vt_laws_members.proofs.changes.letting_go.Sweep.{used_of_settled}
use Rattle.vt_laws_members.proofs.changes.tasks.Retasked.{retasked}

-- A world that is ready to be swept, and numbers of filesystems that the set uses
module _ (w : World ℕ) {set : List TaskName} {used : List ℕ} {lowers : List (Layer ℕ)}
    (ready : Ready (without_dead_mounts nat_eq w) set used lowers) (numbers : List ℕ)
    (theirs : (n : ℕ) → Among n numbers → is_among nat_eq n used ≡ true) where
  abbrev pub raise : Filesystem ℕ → Filesystem ℕ
  raise = raised_if_changed nat_eq numbers

  raise_keeps : {A : Type 0} (what : Filesystem ℕ → A)
      → ((x : Filesystem ℕ) → what (record x { change = raised x.change }) ≡ what x) → (x : Filesystem ℕ)
      → what (raise x) ≡ what x
  raise_keeps what same x = grind (arith, common_steps)

  raise_kept : (x : Filesystem ℕ) → is_among nat_eq x.number (used_filesystems nat_eq (settled nat_eq w) set) ≡ false
      → raise x ≡ x
  raise_kept x unused = by (list_any (λ n. nat_eq n x.number) numbers) refl
    where
      by : (b : Bool) → list_any (λ n. nat_eq n x.number) numbers ≡ b
          → cond b (record x { change = raised x.change }) x ≡ x
      by true e =
          let at = any_among (λ n. nat_eq n x.number) numbers e in
          cc (theirs at.0 at.1, eqb-true at.0 x.number at.2, used_of_settled w set used lowers ready)
      by false e = refl

  -- the part of the world after the last step
  pub raised_part : (before : World ℕ) (name : TaskName)
      → part_of nat_eq (numbers_raised nat_eq before name numbers (settled nat_eq w)) set
      ≡ record (with_filesystems (part_of nat_eq (settled nat_eq w) set) raise) {
        namespaces = filter (λ (n : Namespace ℕ). is_own_namespace nat_eq w set n.number)
            (map (raised_namespace nat_eq before (settled nat_eq w)) w.namespaces);
        tasks = filter (is_member_task set) (map (raised_task name) w.tasks);
      }
  raised_part before name = retasked renamed set set (map (raised_task name) w.tasks) (raised w.change)
      (raised_sees renamed set name (raised w.change)) ∙ (λ i. record (part_with_layers (settled nat_eq w) set raise
      (raise_keeps (λ (x : Filesystem ℕ). x.number) (λ x. refl))
      (λ x m. raise_keeps change_layers (λ y. refl) x) (λ x m. raise_keeps lowers_in (λ y. refl) x) raise_kept i) {
        namespaces = filter (λ (n : Namespace ℕ). is_own_namespace nat_eq w set n.number)
            (map (raised_namespace nat_eq before (settled nat_eq w)) w.namespaces);
        tasks = filter (is_member_task set) (map (raised_task name) w.tasks);
      })
    where
      renamed : World ℕ
      renamed = record (with_filesystems (settled nat_eq w) raise) {
        namespaces = map (raised_namespace nat_eq before (settled nat_eq w)) w.namespaces;
      }
