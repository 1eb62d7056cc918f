-- What clauses see of what is asked.
use Rattle.warg_vectors.specs.Asked as asked
use Rattle.warg_vectors.specs.declared.ask.RegistryAsk.{RegistryAsk}
use Rattle.warg_vectors.specs.declared.ask.RegistryAsk.TheVariants as registry
use Rattle.warg_vectors.specs.declared.ask.Ask.{Ask}
use Rattle.warg_vectors.specs.declared.ask.Ask.TheVariants as ask

abbrev pub registry_ask_view : RegistryAsk → asked.RegistryAsked
registry_ask_view registry.Checkpoint = asked.Checkpoint
registry_ask_view (registry.Logs r) = asked.Logs r.log_length r.operator r.packages.entries
registry_ask_view (registry.Inclusion r) = asked.Inclusion r.log_length r.leafs
registry_ask_view (registry.Consistency r) = asked.Consistency r.from r.to

abbrev pub ask_view : Ask → asked.Asked
ask_view (ask.Registry a) = asked.OfRegistry (registry_ask_view a)
ask_view (ask.Sources digest) = asked.Sources digest
ask_view (ask.Content digest) = asked.Content digest
ask_view ask.Other = asked.Other
