use Rattle.compose_form.proofs.OneFact.{one_entries, one_form}
use Rattle.compose_form.proofs.laws.the_form_of_an_entity_is_one_fact.Goals as goal

pub returns-clause-form : goal.returns-clause-form
returns-clause-form a = one_form

pub returns-clause-entries : goal.returns-clause-entries
returns-clause-entries a = one_entries
