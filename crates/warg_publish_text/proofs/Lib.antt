mod EntryLaws
mod InfoLaws
mod LinesLaws
mod ReadLaws
