-- What is read, wherever it lies in memory.
use Rattle.comp_format.specs.declared.types.Arg.{Arg}
use Rattle.comp_format.specs.Items.{ImportTree, ExportTree}
use Rattle.comp_reader.specs.declared.parts.Member.{Member}
use Rattle.comp_reader.specs.declared.parts.ReadImport.{ReadImport}
use Rattle.comp_reader.specs.declared.parts.ReadExport.{ReadExport}

abbrev pub member_tree : Member → Arg
member_tree m = m.arg

abbrev pub import_tree : ReadImport → ImportTree
import_tree i = record { name = i.name; ty = i.ty }

abbrev pub export_tree : ReadExport → ExportTree
export_tree e = record { name = e.name; sort = e.sort; index = e.index; ty = e.ty }
