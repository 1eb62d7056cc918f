-- What clauses see of what is stored.
use Rattle.warg_info_text.specs.StoredTexts.{Stored}
use Rattle.warg_info_text.specs.declared.stored.StoredInfo.{StoredInfo}

abbrev pub stored_view : StoredInfo → Stored
stored_view s = record {
  name = s.name;
  registry = s.registry;
  checkpoint = s.checkpoint;
  records = s.records;
  head_registry_index = s.head_registry_index;
  head_fetch_token = s.head_fetch_token;
}
