use Rattle.std.proofs.Common.{ap, arith, length, refl, slice_set, sym, true≢false, ⊎_elim, ℕ, ◌+◌, ◌-◌, ◌<◌, ◌∙◌, ◌≡◌}
use Rattle.std.proofs.lemmas.List.{length-set}
use Rattle.smallvec.specs.SmallVec.{SmallVec}
use Rattle.vt_spec.proofs.Common.{cases_lt}
use Rattle.vt_fs.proofs.tree.NamesListed.{list_lent, listed_instead, none_absent}
use Rattle.vt_fs.proofs.tree.names.Names.move_to.Goals as goal
use Rattle.vt_fs.proofs.tree.names.Names.move_to.Goals.{in-Some, in_default}
use Rattle.vt_fs.specs.Trees.Names.{Lists, how_often, less_at, listings, more_at, one_if}

-- the directory is listed
pub list_instead-requires : goal.list_instead-requires
list_instead-requires c =
    let items = c.self.inside.lists.items in
    let within : c.args.object < length items =
    omega (arith, c.in-Some.ensures.variant.0 refl, c.self.inside.lists.ok.0, c.index.ensures) in
    let lent = list_lent items c.index.result c.args.object c.in-Some.list.now c.index.ensures within
    c.in-Some.ensures.value in
    omega (
      arith,
      c.requires,
      ap (λ (list : SmallVec ℕ). how_often c.args.from list.items) lent,
      ap (λ (lists : Lists). listings lists c.args.object c.args.from) c.self.view_is,
    )

pub returns-clause-listings : goal.returns-clause-listings
returns-clause-listings c =
    let items = c.self.inside.lists.items in
    let moved : listings c.match-get_mut.self-inside.lists.items
    ≡ more_at c.args.object c.args.to (less_at c.args.object c.args.from (listings items)) =
    elim c.match-get_mut.branch [
      | in-Some w ↦
          let within : c.args.object < length items =
          omega (arith, w.in-Some.ensures.variant.0 refl, c.self.inside.lists.ok.0, c.index.ensures) in
          let lent = list_lent items c.index.result c.args.object w.in-Some.list.now c.index.ensures within
          w.in-Some.ensures.value in
          ap (λ inside. listings inside.lists.items) w.self-inside-is
          ∙ ap (λ slot. listings (slice_set items slot w.list_instead.new.list)) c.index.ensures
          ∙ listed_instead items c.args.object w.list_instead.new.list within c.args.from c.args.to
          (λ (place : ℕ). w.list_instead.ensures place ∙ ap (λ (list : SmallVec ℕ).
          how_often place list.items - one_if place c.args.from + one_if place c.args.to) lent)
      | in_default w ↦ ⊎_elim
          (λ less. absurd (true≢false (sym (w.in_default.ensures.variant.1
          (omega (arith, less, c.index.ensures, c.self.inside.lists.ok.0))))))
          (λ past. absurd (omega (
            arith,
            none_absent items c.args.object c.args.from past,
            c.requires,
            ap (λ (lists : Lists). listings lists c.args.object c.args.from) c.self.view_is,
          ))) (cases_lt c.args.object (length items))
    ] in
    moved ∙ ap (λ (lists : Lists). more_at c.args.object c.args.to
    (less_at c.args.object c.args.from (listings lists))) c.self.view_is

-- there are as many lists
pub returns-clause-len : goal.returns-clause-len
returns-clause-len c = elim c.match-get_mut.branch [
  | in-Some w ↦ ap (λ inside. length inside.lists.items) w.self-inside-is
      ∙ length-set c.self.inside.lists.items c.index.result w.list_instead.new.list
      ∙ ap (λ (lists : Lists). length lists) c.self.view_is
  | in_default w ↦ ap (λ inside. length inside.lists.items) w.self-inside-is
      ∙ ap (λ (lists : Lists). length lists) c.self.view_is
]
