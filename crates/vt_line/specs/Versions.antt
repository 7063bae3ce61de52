-- The versions of the language, in the grammar's words.
use Rattle.vt_spec.specs.Language.Script as spec
use Rattle.vt_line.specs.declared.version.Version.{Version}
use Rattle.vt_line.specs.declared.version.Version.TheVariants.{One, Two}

abbrev pub version_of : Version → spec.Version
version_of One = spec.Version.One
version_of Two = spec.Version.Two
