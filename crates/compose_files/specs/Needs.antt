-- Imports that are served, as the calls hold them.
use Rattle.compose_files.specs.Built as built
use Rattle.compose_files.specs.declared.need.Need.{Need}

abbrev pub need_of : Need → built.Need
need_of need = record { instance = need.instance.now; target = need.target.0; place = need.place.0; name = need.name.now }
