-- What is kept says what a world shows.
use Rattle.std.proofs.Common.{None, Option, Some, ap, filter, inl, inr, nat_eq, not, refl, subst, sym, true, true≢false, ◌&&◌, ◌∙◌, ◌∷◌, ◌≡◌}
use Rattle.std.specs.List.{find}
use Rattle.std.specs.Option.{option_map}
use Rattle.std.proofs.lemmas.List.Elements.{Contains-append_cases}
use Rattle.std.proofs.lemmas.Option.{same_Some}
use Rattle.lru.proofs.CallerLemmas.{Contains-take}
use Rattle.lru.proofs.Splits.{Contains-cons}
use Rattle.vt_spec.proofs.Common.{contains_from_among, found_among, found_passes}
use Rattle.vt_spec.specs.Machine.World.{filesystem_numbered}
use Rattle.vt_spec.specs.Tree.{entries_in, entry_named}
use Rattle.vt_location.specs.Locations.{number_of}
use Rattle.vt_location.specs.SameNodes.{same_node}
use Rattle.vt_names.specs.NamesValue.{KeptEntry, digest, is_in_place_of, is_of, others_than}
use Rattle.vt_names.specs.Says.{AnswersAreShown, ChangedNamesAreForgotten, IsShown, LooksLeaveWhatIsSaid, OneMountShows, ShownNamesMayBeKept, WorldsShowByFilesystem}
use Rattle.vt_names.proofs.Answers.{directory_of-name, own_place, text_of-name}
use Rattle.vt_names.proofs.Filtered.{Contains-filter, passes-filter}

pub answers_shown : AnswersAreShown
answers_shown looks entries says directory name node is = by (find (is_of directory name) entries) refl is
  where
    by : (found : Option KeptEntry) → find (is_of directory name) entries ≡ found
        → option_map (λ entry. entry.node) found ≡ Some node
        → IsShown looks (record { directory = directory; name = name; node = node })
    by None is has = cc
    by (Some entry) there has =
        let of = found_passes (is_of directory name) entries entry there in
        let same : entry ≡ record { directory = directory; name = name; node = node } = (λ i. record {
          directory = sym (directory_of-name directory name entry of) i;
          name = sym (text_of-name directory name entry of) i;
          node = same_Some entry.node node has i;
        }) in
        subst (IsShown looks) same
        (says entry (contains_from_among entries entry (found_among (is_of directory name) entries entry there)))

pub looks_leave : LooksLeaveWhatIsSaid
looks_leave looks entries says directory name entry there =
    elim (Contains-append_cases (filter (is_in_place_of directory name) entries)
    (others_than directory name entries) entry there) [
      | inl in_place ↦ says entry (Contains-filter (is_in_place_of directory name) entries entry in_place)
      | inr other ↦ says entry (Contains-filter (λ entry. not (is_in_place_of directory name entry)) entries entry other)
    ]

pub shown_may_be_kept : ShownNamesMayBeKept
shown_may_be_kept looks entries says capacity entry shown one there =
    elim (Contains-cons entry (others_than entry.directory entry.name entries) one
    (Contains-take capacity (entry ∷ others_than entry.directory entry.name entries) one there)) [
      | inl same ↦ subst (IsShown looks) same shown
      | inr other ↦ says one
          (Contains-filter (λ other. not (is_in_place_of entry.directory entry.name other)) entries one other)
    ]

pub changed_forgotten : ChangedNamesAreForgotten
changed_forgotten old new entries says directory name but entry there =
    but entry (λ same_directory same_name.
    let own : is_in_place_of directory name entry ≡ true = (λ i. same_node directory (same_directory i)
    && nat_eq (digest name) (digest (same_name i))) ∙ own_place directory name in
    true≢false (sym (passes-filter (λ one. not (is_in_place_of directory name one)) entries entry there) ∙ ap not own))
    (says entry (Contains-filter (λ one. not (is_in_place_of directory name one)) entries entry there))

pub one_mount_shows : OneMountShows
one_mount_shows looks by_filesystem entry mount of shown other other_of =
    ap (λ node. entry_named entry.name (entries_in node))
    (by_filesystem other mount (number_of entry.directory) (other_of ∙ sym of)) ∙ shown

pub worlds_show : WorldsShowByFilesystem
worlds_show world one other node same = (λ i. (filesystem_numbered nat_eq world (same i)).files.tree.node node)
