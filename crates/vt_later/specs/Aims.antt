-- What a path of a call has to lead to.
use Rattle.vt_spec.specs.Machine.Judging as meant
use Rattle.vt_spec.specs.Machine.Judging.Aim.{ADestination, ADirectory, AnObject, ASource, ASymlink}
use Rattle.vt_spec.specs.Machine.Judging.NameAim.{AFile, ANewLeaf, ANewName, AnOldLeaf, AnOldName, ARenamed}
use Rattle.vt_later.specs.declared.walks.Aim.{Aim}
use Rattle.vt_later.specs.declared.walks.Aim.TheVariants.{Destination, Directory, Object, Source, Symlink}
use Rattle.vt_later.specs.declared.walks.NameAim.{NameAim}
use Rattle.vt_later.specs.declared.walks.NameAim.TheVariants.{File, NewLeaf, NewName, OldLeaf, OldName, Renamed}

abbrev pub aim_of : Aim → meant.Aim
aim_of Object = AnObject
aim_of Symlink = ASymlink
aim_of Directory = ADirectory
aim_of Source = ASource
aim_of Destination = ADestination

abbrev pub name_aim_of : NameAim → meant.NameAim
name_aim_of File = AFile
name_aim_of NewName = ANewName
name_aim_of NewLeaf = ANewLeaf
name_aim_of OldName = AnOldName
name_aim_of OldLeaf = AnOldLeaf
name_aim_of (Renamed directory) = ARenamed directory
