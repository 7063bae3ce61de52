-- A script that stacks mounts on a directory of the first tree.
use Rattle.std.proofs.Common.{◌≡◌, refl, sym, ap, ◌∙◌, ℕ, zero, suc, nat_eq, ◌+◌, ◌≤◌, List, [], ◌∷◌, ◌++◌, None, append_assoc, arith, codes, decimal, append-nil}
use Rattle.vt_spec.proofs.Common.{Call, Done, Mkdir, MountPlain, One, Two, Version, World, everything, first_task, first_world, granted, lines_of, most_mounts, numbers_for, plain_flags, policy, request_of, text_from, whole}
use Rattle.vt_laws_later_calls.proofs.Common.{Kept, calls_keep_worlds, digits, machine_text, opening_is_a_world}
use Rattle.vt_laws_later_calls.specs.Limits.FullNamespaces.{FillsItsNamespace, FullNamespaceRefuses, LastOfManyMountsIsRefused, numbered, repeated, stacking_script}
use Rattle.vt_laws_later_calls.proofs.limits.PathWalks.{HasOneWord}
use Rattle.vt_laws_later_calls.proofs.limits.ScriptLines.{AsksFor, Fills, fills, lines_repeated, more_repeated, numbered_from, numbers_go_on, ok_is_printed, text_goes_on, text_of_refusals}
use Rattle.vt_laws_later_calls.proofs.limits.StackGrows.{full_stack_refuses, grown_stack, stack_grows, stacked_world}
use Rattle.vt_laws_later_calls.proofs.limits.StackedMounts.{IsStack}
use Rattle.vt_laws_later_calls.proofs.limits.Supplies.{next_numbers_serve, opening_has_first_numbers}

-- the calls of the lines
abbrev making : Call
making = Mkdir (codes "/a") None

abbrev mounting : Call
mounting = MountPlain (codes "/a") plain_flags

-- their lines, in each version of the language
making_is_asked : (version : Version) → AsksFor (whole version) (codes "t mkdir /a") [] making
unfolding request_of
making_is_asked One = record { short = refl; loud = refl; asks = refl }
making_is_asked Two = record { short = refl; loud = refl; asks = refl }

mounting_is_asked : (version : Version) → AsksFor (whole version) (codes "t mount plain /a") [] mounting
unfolding request_of
mounting_is_asked One = record { short = refl; loud = refl; asks = refl }
mounting_is_asked Two = record { short = refl; loud = refl; asks = refl }

-- the path of the mount point
path_has_one_word : HasOneWord (codes "/a") (codes "a")
path_has_one_word = record { parsed = refl; absolute = refl; words_are = refl; named = refl }

-- the world in which the directory is made
abbrev made : World ℕ
made = (policy nat_eq (numbers_for 1) first_world [] making).world

-- the first line is granted
directory_is_made : policy nat_eq (numbers_for 1) first_world [] making ≡ granted Done made
unfolding everything
directory_is_made = refl

-- that world has the invariants
made_is_kept : Kept made
made_is_kept =
    let opened = opening_is_a_world (λ place. place) (λ j k same. same) in
    calls_keep_worlds first_world (numbers_for 1) [] making opened.0 opened.1
    (next_numbers_serve first_world 0 opening_has_first_numbers) refl refl

-- the directory is a stack of no mounts beside the root mount
starts : IsStack made [] (codes "a") 1
unfolding everything
starts = record {
  is = made_is_kept.0;
  plain = made_is_kept.1;
  task = record (first_task nat_eq (λ place. place)) { change = 1 };
  called = refl;
  admin = refl;
  object = 6;
  top = record { mount = 0; node = 6 };
  way = record { searched = refl; plain = refl; searches = refl; entry = refl; leads = refl; directory = refl };
  destination = record { ends = refl; directory = refl; stays = refl };
  private = refl;
  inside = refl;
  counted = refl;
}

-- the lines of a repeated line
lines_are_repeated : (count : ℕ)
    → lines_of (repeated count (codes "t mount plain /a\n")) ≡ lines_repeated count (codes "t mount plain /a") []
unfolding repeated lines_repeated
lines_are_repeated zero = refl
lines_are_repeated (suc count) = ap (λ lines. codes "t mount plain /a" ∷ lines) (lines_are_repeated count)

-- the lines of the script
script_has_lines : (mounts : ℕ)
    → lines_of (stacking_script mounts) ≡ codes "t mkdir /a" ∷ lines_repeated mounts (codes "t mount plain /a") []
script_has_lines mounts = cc (lines_are_repeated mounts)

module _ (version : Version) where
  -- what so many mounts lead to, and the rest of the text
  stacked : (mounts : ℕ) (lines : List (List ℕ)) → 1 + mounts ≤ most_mounts
      → Fills (whole version) (codes "t mount plain /a") [] mounting (mounting_is_asked version)
      (λ count world. IsStack world [] (codes "a") count) (λ count world fresh stack serves room. (
        stacked_world path_has_one_word stack fresh plain_flags serves room,
        stack_grows path_has_one_word stack fresh plain_flags serves room,
        grown_stack path_has_one_word stack fresh plain_flags serves room,
      )) 1 1 mounts made lines
  stacked mounts lines room = fills (whole version) (codes "t mount plain /a") [] mounting (mounting_is_asked version)
      (λ count world. IsStack world [] (codes "a") count) _ mounts 1 1 made lines starts
      (numbers_go_on (whole version) (codes "t mkdir /a") [] making (making_is_asked version) first_world 0
      (granted Done made) opening_has_first_numbers directory_is_made) room

  -- the whole text, with what so many mounts leave to come
  text_begins : (mounts : ℕ) → machine_text version [] (stacking_script mounts) ≡ decimal 1 ++ codes " ok\n"
      ++ text_from (whole version) made 2 (lines_repeated mounts (codes "t mount plain /a") []) []
  unfolding machine_text
  text_begins mounts = ap (λ lines. text_from (whole version) first_world 1 lines []) (script_has_lines mounts)
      ∙ text_goes_on (whole version) (codes "t mkdir /a") [] making (making_is_asked version) first_world 0
      (granted Done made) (lines_repeated mounts (codes "t mount plain /a") []) directory_is_made
      ∙ ap (λ first. first ++ text_from (whole version) made 2 (lines_repeated mounts (codes "t mount plain /a") []) [])
      (ok_is_printed 1)

-- all mounts within the limit are granted
pub fills_its_namespace : FillsItsNamespace
fills_its_namespace version mounts room =
    let filled = stacked version mounts [] (omega arith) in
    let all : suc mounts ≡ 1 + mounts = omega arith in
    text_begins version mounts
    ∙ (λ i. decimal 1 ++ codes " ok\n" ++ (filled.text ∙ append-nil (numbered 2 mounts (codes " ok\n"))) i)
    ∙ sym (numbered_from 1 mounts (codes " ok\n")) ∙ ap (λ count. numbered 1 count (codes " ok\n")) all

-- and those beyond it are refused
pub full_namespace_refuses : FullNamespaceRefuses
full_namespace_refuses version more =
    let filled = stacked version 4095 (lines_repeated more (codes "t mount plain /a") []) (omega arith) in
    text_begins version (4095 + more) ∙ (λ i. decimal 1 ++ codes " ok\n"
    ++ text_from (whole version) made 2 (more_repeated 4095 more (codes "t mount plain /a") [] i) [])
    ∙ (λ i. decimal 1 ++ codes " ok\n" ++ filled.text i)
    ∙ (λ i. decimal 1 ++ codes " ok\n" ++ (numbered 2 4095 (codes " ok\n")
    ++ text_of_refusals (whole version) (codes "t mount plain /a") [] mounting (mounting_is_asked version) filled.later
    (λ fresh. full_stack_refuses path_has_one_word filled.state fresh plain_flags (omega arith)) more 4096 i))
    ∙ sym (append_assoc (decimal 1 ++ codes " ok\n") (numbered 2 4095 (codes " ok\n"))
    (numbered 4097 more (codes " deny 28 ENOSPC M9\n")))
    ∙ ap (λ first. first ++ numbered 4097 more (codes " deny 28 ENOSPC M9\n"))
    (sym (numbered_from 1 4095 (codes " ok\n")))

-- one refusal, printed
one_refusal : numbered 4097 1 (codes " deny 28 ENOSPC M9\n") ≡ codes "4097 deny 28 ENOSPC M9\n"
unfolding numbered digits
one_refusal = refl

-- so the last one is
pub last_of_many_mounts_is_refused : LastOfManyMountsIsRefused
last_of_many_mounts_is_refused version = cc (full_namespace_refuses version 1, one_refusal)
