-- Worlds that are the same have the same invariants and numbers, if they are plain.
use Rattle.vt_laws_trees.proofs.runs.answered.AlikeWorlds.{same_worlds_are_plain_alike}
use Rattle.vt_laws_worlds.proofs.one_text.same.SameNumbers.{any_same_worlds_keep_to_numbers}
use Rattle.vt_laws_worlds.proofs.one_text.same.SameWhole.{any_same_worlds_are_under_way, any_same_worlds_are_worlds}
use Rattle.vt_laws_worlds.proofs.Plain.{plain_overlays}
use Rattle.vt_laws_worlds.specs.Permits.Same.{SameWorldsAreUnderWay, SameWorldsAreWorlds, SameWorldsKeepToNumbers}

pub same_worlds_are_worlds : SameWorldsAreWorlds
same_worlds_are_worlds one other same plain is =
    (any_same_worlds_are_worlds one other same is, same_worlds_are_plain_alike one other same plain)

pub same_worlds_are_under_way : SameWorldsAreUnderWay
same_worlds_are_under_way one other same is =
    let after = any_same_worlds_are_under_way one other same
    (record { files = is.files; mounts = is.mounts; namespaces = is.namespaces; tasks = is.tasks; roots = is.roots })
    (plain_overlays one is.plain) in
    record {
      plain = same_worlds_are_plain_alike one other same is.plain;
      files = after.0.files;
      mounts = after.0.mounts;
      namespaces = after.0.namespaces;
      tasks = after.0.tasks;
      roots = after.0.roots;
    }

pub same_worlds_keep_to_numbers : SameWorldsKeepToNumbers
same_worlds_keep_to_numbers named one other same plain = any_same_worlds_keep_to_numbers named one other same
