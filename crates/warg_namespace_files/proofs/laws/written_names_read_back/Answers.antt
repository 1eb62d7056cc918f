-- Whole texts and fronts.
use Rattle.warg_namespace_files.specs.NamespaceFile.{members_of}
use Rattle.warg_namespace_files.proofs.NameLaws.{whole_reads_back, front_is_unread, have_no_numbers}
use Rattle.warg_namespace_files.proofs.laws.written_names_read_back.Goals as goal

pub returns-clause-whole : goal.returns-clause-whole
returns-clause-whole c = whole_reads_back

pub returns-clause-front : goal.returns-clause-front
returns-clause-front c names n lt =
    front_is_unread names n (λ front seen. c.a_front_is_no_object.ensures.compact (members_of names) front n (have_no_numbers names) lt seen)
