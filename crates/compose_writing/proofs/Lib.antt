mod ValueLaws
mod KnownLaws
mod PossibleLaws
mod Rows
