-- The errors of a composer and of a configuration, by the names of their variants.
use Rattle.std.specs.Prelude.{ℕ, List, codes}
use Rattle.compose_check.specs.declared.error.CheckError.{CheckError}
use Rattle.compose_check.specs.declared.error.CheckError.TheVariants as check
use Rattle.compose_files.specs.declared.config_error.ConfigError.{ConfigError}
use Rattle.compose_files.specs.declared.config_error.ConfigError.TheVariants as config
use Rattle.compose_files.specs.declared.error.ComposerError.{ComposerError}
use Rattle.compose_files.specs.declared.error.ComposerError.TheVariants as composer
use Rattle.compose_graph.specs.declared.compose_error.ComposeError.{ComposeError}
use Rattle.compose_graph.specs.declared.compose_error.ComposeError.TheVariants as encode
use Rattle.compose_graph.specs.declared.error.GraphError.{GraphError}
use Rattle.compose_graph.specs.declared.error.GraphError.TheVariants as graph

-- an error of a call of a graph
abbrev pub graph_variant : GraphError → List ℕ
graph_variant (graph.NameExists name) = codes "NameExists"
graph_variant graph.IdLimit = codes "IdLimit"
graph_variant graph.NoComponent = codes "NoComponent"
graph_variant graph.SelfConnection = codes "SelfConnection"
graph_variant graph.NoSource = codes "NoSource"
graph_variant graph.NoTarget = codes "NoTarget"
graph_variant graph.BadImportIndex = codes "BadImportIndex"
graph_variant graph.AlreadyConnected = codes "AlreadyConnected"
graph_variant graph.BadExportIndex = codes "BadExportIndex"
graph_variant graph.NotCompatible = codes "NotCompatible"
graph_variant graph.Memory = codes "Memory"

-- an error of what a graph joins, or leaves open
abbrev pub check_variant : CheckError → List ℕ
check_variant (check.Cycle instance name) = codes "Cycle"
check_variant (check.Incompatible why) = codes "Incompatible"
check_variant check.Memory = codes "Memory"

-- an error of a graph that is written
abbrev pub encode_variant : ComposeError → List ℕ
encode_variant encode.NoExportInstance = codes "NoExportInstance"
encode_variant (encode.Check e) = check_variant e
encode_variant (encode.ImportNameClash name) = codes "ImportNameClash"
encode_variant (encode.TooLarge number) = codes "TooLarge"
encode_variant (encode.InvalidOutput e) = codes "InvalidOutput"
encode_variant encode.Memory = codes "Memory"

abbrev pub composer_variant : ComposerError → List ℕ
composer_variant (composer.NotFound name) = codes "NotFound"
composer_variant composer.NoInstanceImports = codes "NoInstanceImports"
composer_variant composer.NoDependencies = codes "NoDependencies"
composer_variant (composer.NoSuchImport name) = codes "NoSuchImport"
composer_variant (composer.NoSuchExport name) = codes "NoSuchExport"
composer_variant (composer.ExportOnImported name) = codes "ExportOnImported"
composer_variant (composer.BadDefinitionPath path) = codes "BadDefinitionPath"
composer_variant (composer.File path e) = codes "File"
composer_variant (composer.BadComponent path e) = codes "BadComponent"
composer_variant (composer.Graph e) = graph_variant e
composer_variant (composer.Connect import instance e) = graph_variant e
composer_variant (composer.Encode e) = encode_variant e
composer_variant composer.Memory = codes "Memory"

abbrev pub config_variant : ConfigError → List ℕ
config_variant (config.File e) = codes "File"
config_variant config.NotUtf8 = codes "NotUtf8"
config_variant (config.Yaml e) = codes "Yaml"
config_variant config.Memory = codes "Memory"
