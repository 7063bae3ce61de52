-- Whether what is attached leaves a namespace with too many mounts, in worlds that are the same but for change numbers
-- and the order of numbers beside trees.
use Rattle.std.proofs.Common.{arith, ◌≡◌, refl, sym, ap, ◌∙◌, ℕ, nat_eq, nat_lt, Bool, true, false, ◌&&◌, ◌||◌, List, [], ◌∷◌, ◌++◌, length, map, filter, flat_map, None, Option, Some}
use Rattle.vt_spec.proofs.Common.{Call, Copies, Filesystem, Fresh, Graft, Layer, Exclusive, Location, Looks, Mount, MountFlags, MountOverlay, Namespace, NoCreation, OpenFile, OrCreate, Overlay, Permit, Propagation, SameFilesystem, SameFilesystems, Task, ToBind, ToMountOverlay, ToMountPlain, ToMove, Twig, World, attach, attached_at, bindable_children, bindable_tree, bound, bound_at, common_steps, copies_at, copies_from, copy_at, copy_type, evens, filesystem_numbered, graft_of, has_too_many, holds_of, judge, judging, list_any, looks_of, most_mounts, mount_numbered, mount_tree, mounted, new_mount, odds, open_layer, overfills, overlay_filesystem, parts_of, plain_filesystem, pushed_onto, stands_under, takes_part, with_new_filesystem}
use Rattle.vt_laws_rules.proofs.same.SameFiles.{as_many, directory_under_same}
use Rattle.vt_laws_rules.proofs.same.SameJudged.{same_worlds_are_judged_alike}
use Rattle.vt_laws_rules.proofs.same.SameLooks.{found_same}
use Rattle.vt_laws_rules.specs.Same.{SameWorldsJudgeAlike}

-- the permits that attach mounts: those for which M9 is judged, and which raise no filesystem's change number
abbrev pub attaches : Permit ℕ → Bool
attaches (ToMountPlain place flags) = true
attaches (ToMountOverlay place overlay flags) = true
attaches (ToBind source place recursive) = true
attaches (ToMove mount place) = true
attaches permit = false

-- nothing else is asked whether it leaves a namespace with too many
only_attaches : (looks : Looks ℕ) (many : Permit ℕ → Bool) (task : Task ℕ) (call : Call)
    → judge nat_eq looks many task call ≡ judge nat_eq looks (λ permit. attaches permit && many permit) task call
unfolding judging
only_attaches looks many task (OpenFile path access NoCreation) = refl
only_attaches looks many task (OpenFile path access (OrCreate mode)) = refl
only_attaches looks many task (OpenFile path access (Exclusive mode)) = refl
only_attaches looks many task (MountOverlay path None flags) = refl
only_attaches looks many task (MountOverlay path (Some words) flags) = refl
only_attaches looks many task call = refl

any_bare : (test : ℕ → Bool) (namespaces : List (Namespace ℕ))
    → list_any (λ (namespace : Namespace ℕ). test namespace.number)
    (map (λ (namespace : Namespace ℕ). record namespace { change = 0 }) namespaces)
    ≡ list_any (λ (namespace : Namespace ℕ). test namespace.number) namespaces
any_bare test [] = refl
any_bare test (namespace ∷ rest) = ap (λ b. test namespace.number || b) (any_bare test rest)

-- a filesystem is the same as itself
pub same_filesystem_itself : (filesystem : Filesystem ℕ) → SameFilesystem filesystem filesystem
same_filesystem_itself filesystem = grind (arith, common_steps)

more_same : (ones others : List (Filesystem ℕ)) (new : Filesystem ℕ) → SameFilesystems ones others
    → SameFilesystems (ones ++ (new ∷ [])) (others ++ (new ∷ []))
more_same [] [] new same = (same_filesystem_itself new, tt)
more_same [] (other ∷ others) new same = absurd same
more_same (one ∷ ones) [] new same = absurd same
more_same (one ∷ ones) (other ∷ others) new same = (same.0, more_same ones others new same.1)

counts_same : (ones others : List (Filesystem ℕ)) → SameFilesystems ones others
    → map (λ (filesystem : Filesystem ℕ). length filesystem.files.numbers) ones
    ≡ map (λ (filesystem : Filesystem ℕ). length filesystem.files.numbers) others
counts_same [] [] same = refl
counts_same [] (other ∷ others) same = absurd same
counts_same (one ∷ ones) [] same = absurd same
counts_same (one ∷ ones) (other ∷ others) same = λ i.
    as_many one.files other.files same.0.files i ∷ counts_same ones others same.1 i

-- a world, and one with other numbers beside its trees and other change numbers
module _ (world : World ℕ) (others : List (Filesystem ℕ)) (namespaces : List (Namespace ℕ)) (tasks : List (Task ℕ))
    (change : ℕ) (same : SameFilesystems world.filesystems others)
    (any : (test : ℕ → Bool) → list_any (λ (namespace : Namespace ℕ). test namespace.number) world.namespaces
    ≡ list_any (λ (namespace : Namespace ℕ). test namespace.number) namespaces) where
  abbrev other : World ℕ
  other = record world { filesystems = others; namespaces = namespaces; tasks = tasks; change = change }

  found : (number : ℕ)
      → SameFilesystem (filesystem_numbered nat_eq world number) (filesystem_numbered nat_eq other number)
  found number = found_same number world.filesystems others same

  takes_same : (place : Location ℕ) (mount : Mount ℕ) → takes_part nat_eq world place mount
      ≡ takes_part nat_eq other place mount
  takes_same place mount = cc (directory_under_same _ _ (found mount.filesystem).files mount.root place.node)

  parts_same : (place : Location ℕ) → parts_of nat_eq world place ≡ parts_of nat_eq other place
  parts_same place = grind (arith, common_steps, takes_same)

  type_same : (new : Copies ℕ) (parts : List (Mount ℕ)) (destination : Mount ℕ) (twig : Twig ℕ) (kind : Propagation ℕ)
      → copy_type nat_eq world new parts destination twig kind ≡ copy_type nat_eq other new parts destination twig kind
  type_same new parts destination twig kind = cc

  module _ (new : Copies ℕ) (graft : Graft ℕ) (parts : List (Mount ℕ)) where
    copy_same : (part : Mount ℕ) (twig : Twig ℕ)
        → copy_at nat_eq world new graft parts part twig ≡ copy_at nat_eq other new graft parts part twig
    copy_same part twig = cc

    copies_same : (part : Mount ℕ) → copies_at nat_eq world new graft parts part
        ≡ copies_at nat_eq other new graft parts part
    copies_same part = λ i. map (λ twig. copy_same part twig i) graft.twigs

    pushed_same : (mount : Mount ℕ) (below : Option (Mount ℕ))
        → pushed_onto nat_eq world new graft parts mount below ≡ pushed_onto nat_eq other new graft parts mount below
    pushed_same mount below = cc

    mounts_same : (attached_at nat_eq world new graft parts).mounts ≡ (attached_at nat_eq other new graft parts).mounts
    mounts_same = cc

    many_there : has_too_many nat_eq (attached_at nat_eq world new graft parts)
        ≡ has_too_many nat_eq (attached_at nat_eq other new graft parts)
    many_there =
        cc (
          any (λ number. nat_lt most_mounts (length (filter (λ mount. holds_of (nat_eq number) mount.namespace)
              (attached_at nat_eq world new graft parts).mounts))),
          mounts_same,
        )

  attach_same : (fresh : Fresh ℕ) (place : Location ℕ) (moves : Bool) (mounts : List (Mount ℕ))
      → has_too_many nat_eq (attach nat_eq world fresh place moves mounts)
      ≡ has_too_many nat_eq (attach nat_eq other fresh place moves mounts)
  attach_same fresh place moves mounts = many_there (copies_from nat_eq fresh (parts_of nat_eq world place) mounts)
      (graft_of nat_eq world (copies_from nat_eq fresh (parts_of nat_eq world place) mounts) place moves mounts)
      (parts_of nat_eq world place)
      ∙ (λ i. has_too_many nat_eq (attached_at nat_eq other (copies_from nat_eq fresh (parts_same place i) mounts)
      (graft_of nat_eq world (copies_from nat_eq fresh (parts_same place i) mounts) place moves mounts)
      (parts_same place i)))

  under : (source : Location ℕ) (mount : Mount ℕ) → stands_under nat_eq world source mount
      ≡ stands_under nat_eq other source mount
  under source mount = grind (arith, common_steps, directory_under_same, found)

  bound_same : (fresh : Fresh ℕ) (source place : Location ℕ) (recursive : Bool)
      → has_too_many nat_eq (bound_at nat_eq fresh world source place recursive)
      ≡ has_too_many nat_eq (bound_at nat_eq fresh other source place recursive)
  bound_same fresh source place false = attach_same fresh place false (bound nat_eq world source ∷ [])
  bound_same fresh source place true =
      attach_same fresh place false (Rattle.vt_spec.specs.Machine.Attach.bind_tree nat_eq world source true)
      ∙ (λ i. has_too_many nat_eq (attach nat_eq other fresh place false (bound nat_eq world source
      ∷ flat_map (bindable_tree nat_eq (length world.mounts) world.mounts)
      (filter (λ mount. under source mount i) (bindable_children nat_eq world.mounts source.mount)))))

  opened_same : (layer : Layer ℕ) → open_layer nat_eq world layer ≡ open_layer nat_eq other layer
  opened_same layer = λ i. record { tree = (found layer.filesystem).files.tree i; directory = layer.directory }

  overlay_same : (fresh : Fresh ℕ) (overlay : Overlay ℕ)
      → overlay_filesystem nat_eq fresh world overlay ≡ overlay_filesystem nat_eq fresh other overlay
  overlay_same fresh overlay = grind (arith, common_steps, opened_same, counts_same)

module _ (world : World ℕ) (others : List (Filesystem ℕ)) (namespaces : List (Namespace ℕ)) (tasks : List (Task ℕ))
    (change : ℕ) (same : SameFilesystems world.filesystems others)
    (any : (test : ℕ → Bool) → list_any (λ (namespace : Namespace ℕ). test namespace.number) world.namespaces
    ≡ list_any (λ (namespace : Namespace ℕ). test namespace.number) namespaces) where
  abbrev again : World ℕ
  again = record world { filesystems = others; namespaces = namespaces; tasks = tasks; change = change }

  mounted_same : (fresh : Fresh ℕ) (place : Location ℕ) (filesystem : Filesystem ℕ) (flags : MountFlags)
      → has_too_many nat_eq (mounted nat_eq fresh world place filesystem flags)
      ≡ has_too_many nat_eq (mounted nat_eq fresh again place filesystem flags)
  mounted_same fresh place filesystem flags =
      attach_same (with_new_filesystem world filesystem) (others ++ (filesystem ∷ [])) namespaces tasks change
      (more_same world.filesystems others filesystem same) any fresh place false
      (new_mount filesystem.number filesystem.files.tree.root flags ∷ [])

  many_same : (fresh : Fresh ℕ) (task : Task ℕ) (permit : Permit ℕ)
      → (attaches permit && overfills nat_eq fresh world task permit)
      ≡ (attaches permit && overfills nat_eq fresh again task permit)
  many_same fresh task (ToMountPlain place flags) =
      mounted_same (odds fresh) place (plain_filesystem nat_eq fresh) flags
  many_same fresh task (ToMountOverlay place overlay flags) =
      cc (
        mounted_same (odds fresh) place (overlay_filesystem nat_eq (evens fresh) world overlay) flags,
        overlay_same
            world others namespaces tasks change same any (evens fresh) overlay,
      )
  many_same fresh task (ToBind source place recursive) =
      bound_same world others namespaces tasks change same any fresh source place recursive
  many_same fresh task (ToMove mount place) = attach_same world others namespaces tasks change same any fresh place true
      (mount_tree nat_eq world.mounts (mount_numbered nat_eq world mount))
  many_same fresh task permit = refl

pub same_worlds_judge_alike : SameWorldsJudgeAlike
same_worlds_judge_alike one other same alone fresh task call =
    only_attaches (looks_of nat_eq one) (overfills nat_eq fresh one task) task call
    ∙ (λ i. judge nat_eq (looks_of nat_eq one) (λ permit. many permit i) task call)
    ∙ same_worlds_are_judged_alike one other same alone
    (λ permit. attaches permit && overfills nat_eq fresh other task permit) task call
    ∙ sym (only_attaches (looks_of nat_eq other) (overfills nat_eq fresh other task) task call)
  where
    any : (test : ℕ → Bool) → list_any (λ (namespace : Namespace ℕ). test namespace.number) one.namespaces
        ≡ list_any (λ (namespace : Namespace ℕ). test namespace.number) other.namespaces
    any test = cc (any_bare test one.namespaces, same.namespaces, any_bare test other.namespaces)

    many : (permit : Permit ℕ) → (attaches permit && overfills nat_eq fresh one task permit)
        ≡ (attaches permit && overfills nat_eq fresh other task permit)
    many permit =
        many_same one other.filesystems other.namespaces other.tasks other.change same.filesystems any fresh task permit
        ∙ (λ i. attaches permit
        && overfills nat_eq fresh (record other { mounts = same.mounts i; master = same.master i }) task permit)
