use Rattle.std.proofs.Common.{IsOk, OnErr, OnOk, ap, is_ok, subst, sym, ◌<◌, ◌≡◌, ◌∙◌}
use Rattle.vt_spec.proofs.Common.{on_err_weaker, option_copied_mut}
use Rattle.vt_location.specs.Locations.{number_of}
use Rattle.vt_fs.specs.FilesystemsValue.{HoldsRoot, held}
use Rattle.vt_fs.proofs.RootLemmas.{holds_none, holds_root, kept_root, mounts_there, none_there, on_ok_both, root_uses_there}
use Rattle.vt_fs.proofs.filesystems.Filesystems.hold_root.Goals as goal
use Rattle.vt_fs.proofs.filesystems.Filesystems.hold_root.Goals.{in-None, in-Some}

pub returns-clause-ok : goal.returns-clause-ok
returns-clause-ok c =
    let f = c.args.root.filesystem.count in
    let number = number_of c.args.root in
    let now = c.args.self.now in
    elim c.match-get_mut.branch [
      | in-Some w ↦
          subst (λ result. OnOk result (HoldsRoot f number now (held c.match-get_mut.self-inside.by_number.entries)))
          (sym w.result-is) (subst (λ inside. OnOk w.hold_root.result (HoldsRoot f number now (held inside.by_number.entries)))
          (sym w.self-inside-is) (on_ok_both w.hold_root.result (holds_root f number c.self.inside.by_number _ now
          w.in-Some.found.now w.hold_root.new.self c.self.view_is
          (sym c.get_mut.ensures.value ∙ ap option_copied_mut w.in-Some.is) (c.get_mut.follows.holds _))
          w.hold_root.ensures.tree w.hold_root.ensures.mounts))
      | in-None w ↦
          subst (λ result. OnOk result (HoldsRoot f number now (held c.match-get_mut.self-inside.by_number.entries)))
          (sym w.result-is) (subst (λ inside. HoldsRoot f number now (held inside.by_number.entries))
          (sym w.self-inside-is) (holds_none f number now _
          (ap (λ map. held map.entries) c.get_mut.follows.holds-at-none ∙ c.self.view_is)
          (none_there f number c.self.inside.by_number.entries now c.self.view_is
          (sym c.get_mut.ensures.value ∙ ap option_copied_mut w.in-None.is))))
    ]

pub returns-clause-few : goal.returns-clause-few
returns-clause-few c =
    let f = c.args.root.filesystem.count in
    let number = number_of c.args.root in
    let es = c.self.inside.by_number.entries in
    elim c.match-get_mut.branch [
      | in-Some w ↦ λ few used.
          let there = sym c.get_mut.ensures.value ∙ ap option_copied_mut w.in-Some.is in
          subst IsOk (sym w.result-is) (w.hold_root.ensures.few
          (subst (λ n. n < 18446744073709551615) (mounts_there f number es c.args.self.now c.self.view_is _ there) few)
          (subst (λ n. n < 18446744073709551615) (root_uses_there f number es c.args.self.now c.self.view_is _ there) used))
      | in-None w ↦ λ few used. ap is_ok w.result-is
    ]

pub returns-clause-err : goal.returns-clause-err
returns-clause-err c =
    let now = c.args.self.now in
    elim c.match-get_mut.branch [
      | in-Some w ↦ subst (λ result. OnErr result (held c.match-get_mut.self-inside.by_number.entries ≡ now))
          (sym w.result-is) (on_err_weaker w.hold_root.result
          (λ same. ap (λ inside. held inside.by_number.entries) w.self-inside-is
          ∙ kept_root c.args.root.filesystem.count (number_of c.args.root) c.self.inside.by_number _ now
          w.in-Some.found.now w.hold_root.new.self c.self.view_is
          (sym c.get_mut.ensures.value ∙ ap option_copied_mut w.in-Some.is) (c.get_mut.follows.holds _) same)
          w.hold_root.ensures.err)
      | in-None w ↦ subst (λ result. OnErr result (held c.match-get_mut.self-inside.by_number.entries ≡ now))
          (sym w.result-is) tt
    ]
