mod ChangeLaws
mod FormLaws
mod StandLaws
mod TypeLaws
mod ScopeLaws
mod OneFact
