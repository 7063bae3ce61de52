use Rattle.std.proofs.Common.{Bool, List, [], ap, arith, fold, get_or, length, refl, suc, sym, take, true, ℕ, ◌&&◌, ◌++◌, ◌+◌, ◌<◌, ◌≡◌, ◌∙◌, ◌∷◌}
use Rattle.vt_spec.proofs.Common.{list_all, list_all-append, opens_for_writing}
use Rattle.std.proofs.Math.Seq.{take-suc}
use Rattle.std.proofs.lemmas.List.Sums.{fold-append}
use Rattle.vt_ns.proofs.Common.{Kept, access_of, kept, left_itself, left_twice, without_file, without_location}
use Rattle.vt_tasks.specs.declared.descriptors.OpenFile.{OpenFile}
use Rattle.vt_mounting.specs.Detach.NamespacesLeft.{is_small_file}
use Rattle.vt_ns.proofs.exits.leave_files.Goals as goal

-- the next file, behind those before it
module _ (files : List OpenFile) (place : ℕ) (d : OpenFile) (within : place < length files) where
  one_more : take (place + 1) files ≡ take place files ++ (get_or files place d ∷ [])
  one_more =
      let next : place + 1 ≡ suc place = omega arith in
      ap (λ n. take n files) next ∙ take-suc files place d within

  next_left : (k before now : Kept) (writes : Bool)
      → writes ≡ opens_for_writing (access_of (get_or files place d).access)
      → before ≡ fold without_file k (take place files)
      → now ≡ without_location (get_or files place d).location writes before
      → now ≡ fold without_file k (take (place + 1) files)
  next_left k before now writes writes_is was is =
      is ∙ (λ i. without_location (get_or files place d).location (writes_is i) (was i))
      ∙ sym (fold-append without_file k (take place files) (get_or files place d ∷ []))
      ∙ ap (fold without_file k) (sym one_more)

  next_small : list_all is_small_file (take place files) ≡ true → is_small_file (get_or files place d) ≡ true
      → list_all is_small_file (take (place + 1) files) ≡ true
  next_small before this = ap (list_all is_small_file) one_more
      ∙ list_all-append is_small_file (take place files) (get_or files place d ∷ [])
      ∙ (λ i. before i && (this i && true))

pub loop-file-init : goal.loop-file-init
loop-file-init c = record {
  left = refl;
  overlays = left_itself c.args.store.now.overlays c.args.store.now.overlays refl;
  still = c.requires;
  slots = refl;
}

pub loop-file-preserved : goal.loop-file-preserved
loop-file-preserved c =
    let files = c.args.files.now in
    let place = c.loop-file.file-index in
    let within = c.loop-file-test.true in
    record {
      left = next_left files place _ within (kept c.args.mounts.now c.args.store.now)
          (kept c.loop-file.mounts c.loop-file.store) (kept c.leave.new.mounts c.leave.new.store) c.writes.result
          c.writes.ensures c.loop-file.invariant.left c.leave.ensures.left;
      overlays = left_twice c.args.store.now.overlays c.loop-file.store.overlays c.leave.new.store.overlays
          c.loop-file.invariant.overlays c.leave.ensures.overlays;
      still = c.leave.ensures.still;
      slots = next_small files place _ within c.loop-file.invariant.slots c.leave.ensures.slot;
    }
